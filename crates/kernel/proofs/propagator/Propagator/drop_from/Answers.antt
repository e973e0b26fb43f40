use Rattle.std.proofs.Common.{◌≡◌, ◌<◌, ◌∙◌, ℕ, List, get_or, take, length, Some, None, refl, ap, sym, subst, Bool, true, false, not, nat_eq, eqb-true, ◌+◌, Option}
use Rattle.std.specs.Option.{option_eq}
use Rattle.std.proofs.lemmas.List.{get_or_default, take_all, length-map}
use Rattle.std.specs.List.{Contains}
use Rattle.kernel.specs.EntryLists.{entries_of}
use Rattle.kernel.specs.Visiting.{kept_of}
use Rattle.kernel.specs.Cutting.{AreKeptBelow}
use Rattle.kernel.proofs.Cutting.{below-more, below-same, front-last, front-longer}
use Rattle.kernel.proofs.propagator.Propagator.drop_from.Goals.{then-ne, else-ne}
use Rattle.kernel.proofs.propagator.Propagator.drop_from.Goals as goal

same-last : (o : Option ℕ) (n : ℕ) → false ≡ not (option_eq nat_eq o (Some n)) → o ≡ Some n
same-last None n h = absurd (cc)
same-last (Some m) n h = go (nat_eq m n) refl h
  where
    go : (b : Bool) → nat_eq m n ≡ b → false ≡ not b → Some m ≡ Some n
    go true e f = ap (λ k. Some k) (eqb-true m n e)
    go false e f = absurd (cc)

some-one : (m n : ℕ) → Some m ≡ Some n → m ≡ n
some-one m n e = cc

pub loop-code-preserved : goal.loop-code-preserved
loop-code-preserved c =
    let codes = c.args.codes.now in
    let at = c.loop-code.code-index in
    let inside = c.loop-code-test.true in
    let n : ℕ = get_or codes at 0 in
    let read : n ≡ get_or codes at n = get_or_default codes at 0 n inside in
    let i = c.loop-code.invariant in
    let lists = (kept_of c.loop-code.self).lists in
    let within : n < length lists = subst (λ m. n < m) (sym (i.long) ∙ sym (length-map c.loop-code.self.lists entries_of)) (c.requires at 0 inside) in
    elim c.if-ne.branch [
      | then-ne w ↦ rw (w.self-is, w.last-is) (record {
        below = below-more c.args.first codes at n (kept_of c.args.self.now).lists lists (kept_of w.drop_list.new.self).lists w.drop_list.ensures.list.0 read inside within w.drop_list.ensures.list.1 w.drop_list.ensures.list.2 i.below;
        last = λ m e. subst (λ k. Contains (take (at + 1) codes) k) (some-one n m e) (front-last codes at n read inside);
        long = w.drop_list.ensures.long ∙ i.long;
        clauses = w.drop_list.ensures.kept.0 ∙ i.clauses;
        pairs = w.drop_list.ensures.kept.1 ∙ i.pairs;
        units = w.drop_list.ensures.kept.2 ∙ i.units;
        conflict = w.drop_list.ensures.kept.3 ∙ i.conflict;
      })
      | else-ne w ↦ rw (w.self-is, w.last-is) (record {
        below = below-same c.args.first codes at n (kept_of c.args.self.now).lists lists read inside (i.last n (same-last c.loop-code.last n w.if-ne.ensures)) i.below;
        last = λ m e. front-longer codes at m inside (i.last m e);
        long = i.long;
        clauses = i.clauses;
        pairs = i.pairs;
        units = i.units;
        conflict = i.conflict;
      })
    ]

pub returns-clause-lists : goal.returns-clause-lists
returns-clause-lists c =
    subst (λ (ns : List ℕ). AreKeptBelow c.args.first ns (kept_of c.args.self.now).lists (kept_of c.loop-code.self).lists) (take_all c.loop-code.code-index c.args.codes.now c.loop-code-test.false) c.loop-code.invariant.below
