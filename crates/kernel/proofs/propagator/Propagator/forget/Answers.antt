use Rattle.std.proofs.Common.{◌≡◌, ◌∙◌, true, false, ◌⊎◌, inl, inr, arith, length, ◌≤◌}
use Rattle.theory.specs.Forgetting.{forget}
use Rattle.theory.proofs.literals.LiteralLemmas.{true_or_false}
use Rattle.kernel.specs.Visiting.{kept_of}
use Rattle.kernel.specs.Forgetting.{names, is_numbered, ArePairsLeft}
use Rattle.kernel.proofs.LeftClauses.{numbered-from}
use Rattle.kernel.proofs.Forgetting.{forget-watching}
use Rattle.kernel.proofs.propagator.Propagator.forget.Goals as goal

pub forget-requires-clause-learnt : goal.forget-requires-clause-learnt
forget-requires-clause-learnt c n low = c.in_ok-named.ensures n ∙ go (true_or_false (is_numbered c.args.numbers.now n))
  where
    go : (is_numbered c.args.numbers.now n ≡ true) ⊎ (is_numbered c.args.numbers.now n ≡ false) → is_numbered c.args.numbers.now n ≡ false
    go (inl e) = absurd (let f : c.args.first ≤ n = numbered-from c.args.numbers.now c.args.first (length c.args.self.now.clauses.given) c.requires.learnt n e in omega (arith, f, low))
    go (inr e) = e

pub returns-clause-watching : goal.returns-clause-watching
returns-clause-watching c V at floor T single empty none s =
    let numbers = c.args.numbers.now in
    let old = kept_of c.args.self.now in
    let dropped = c.drop_all_entries.ensures in
    let tells = c.in_ok-named.ensures in
    let clauses : c.drop_all_entries.new.self.clauses.given ≡ forget numbers 1 c.args.self.now.clauses.given = dropped.kept.0 ∙ c.forget.ensures.given numbers tells in
    let pairs : ArePairsLeft numbers old.pairs c.drop_all_entries.new.self.clauses.pairs = rw dropped.kept.1 (c.forget.ensures.pairs numbers tells) in
    rw clauses (forget-watching V c.args.first at floor c.args.self.now.clauses.given T old
    (record (kept_of c.drop_all_entries.new.self) { units = c.drop_named.new.self }) single numbers empty (names c.in_ok-named.named) s tells
    (numbered-from numbers c.args.first (length c.args.self.now.clauses.given) c.requires.learnt) none pairs dropped.lists (rw dropped.kept.2 at c.drop_named.ensures) dropped.kept.3)
