use Rattle.std.proofs.Common.{◌≡◌, ◌<◌, ◌∙◌, ◌++◌, ◌∷◌, [], ℕ, List, length, sym, ap, arith}
use Rattle.std.proofs.lemmas.List.Elements.{All-push}
use Rattle.std.proofs.lemmas.List.Sorted.{All-permutation}
use Rattle.kernel.specs.Watching.{At}
use Rattle.kernel.proofs.Cutting.{codes-more, codes-sorted}
use Rattle.kernel.proofs.propagator.Propagator.lists_from.Goals as goal

pub loop-index-preserved : goal.loop-index-preserved
loop-index-preserved c =
    let end = c.len-index-end.ensures.pairs in
    let inside : c.loop-index.index < length c.args.self.now.clauses.pairs = omega (arith, c.loop-index-test.true, end) in
    let at : At c.args.self.now.clauses.pairs c.loop-index.index c.watched-watched.result = c.watched-watched.ensures in
    let room = c.requires.lists c.loop-index.index c.watched-watched.result c.loop-index.auto.index at in
    let items : c.push-in-loop-index.new.self.items ≡ (c.loop-index.codes.items ++ c.code.result ∷ []) ++ c.code-in-loop-index.result ∷ [] = c.in_ok-push-2.ensures.items ∙ ap (λ (ns : List ℕ). ns ++ c.code-in-loop-index.result ∷ []) c.in_ok-push.ensures.items in
    record {
      codes = rw items (codes-more c.args.first c.loop-index.index c.args.self.now.clauses.pairs c.loop-index.codes.items c.watched-watched.result c.code.result c.code-in-loop-index.result inside (sym c.watched-watched.ensures.1) c.code.ensures c.code-in-loop-index.ensures c.loop-index.invariant.codes);
      within = rw items (All-push (λ n. n < length c.args.self.now.lists) (c.loop-index.codes.items ++ c.code.result ∷ []) c.code-in-loop-index.result
          (All-push (λ n. n < length c.args.self.now.lists) c.loop-index.codes.items c.code.result c.loop-index.invariant.within (rw c.code.ensures room.0)) (rw c.code-in-loop-index.ensures room.1));
    }

pub returns-clause-within : goal.returns-clause-within
returns-clause-within c = All-permutation (λ n. n < length c.args.self.now.lists) c.loop-index.codes.items c.sort_unstable.new.self.items c.sort_unstable.ensures.permutation c.loop-index.invariant.within

pub returns-clause-codes : goal.returns-clause-codes
returns-clause-codes c =
    let end = c.len-index-end.ensures.pairs in
    codes-sorted c.args.first c.args.self.now.clauses.pairs c.loop-index.codes.items c.sort_unstable.new.self.items c.loop-index.index (omega (arith, c.loop-index-test.false, end)) c.sort_unstable.ensures.permutation c.loop-index.invariant.codes
