use Rattle.std.proofs.Common.{◌≡◌, ℕ, ◌≤◌, ◌∙◌, List, ap, length, take, sym, subst}
use Rattle.std.proofs.lemmas.List.{length-take-le}
use Rattle.theory.specs.Literals.{Literal, Clause}
use Rattle.cnf.specs.Pieces.{pieces, start_at}
use Rattle.kernel.specs.Shown.{shown}
use Rattle.cnf.proofs.Pieces.{length-pieces, AreEnds-take, start-within, pieces-take}
use Rattle.kernel.proofs.Shown.{length-shown, shown-take}
use Rattle.kernel.proofs.clauses.clauses.Clauses.truncate.Goals as goal

-- there are as many ends as clauses
within : (first : ℕ) (xs : List Literal) (ends : List ℕ) (count : ℕ) (clauses : List Clause) → shown first (pieces 0 xs ends) ≡ clauses → count ≤ length clauses → count ≤ length ends
within first xs ends count clauses are less = subst (λ n. count ≤ n) (sym (ap length are) ∙ (length-shown first (pieces 0 xs ends) ∙ length-pieces 0 xs ends)) less

pub start_of-end-requires : goal.start_of-end-requires
start_of-end-requires c = rw c.deref.ensures.value (within _ _ _ c.args.count _ c.self.view_is c.requires)

-- the literals that stay are those up to the end of the last clause that stays
kept : (c : goal.After-truncate-2) → c.truncate.new.self.items ≡ take (start_at 0 c.self.inside.ends.items c.args.count) c.self.inside.lits.items
kept c = c.truncate.ensures.items ∙ ap (λ n. take n c.self.inside.lits.items) (c.start_of-end.ensures ∙ ap (λ ends. start_at 0 ends c.args.count) c.deref.ensures.value)

pub invariant_of-self : goal.invariant_of-self
invariant_of-self c =
    let short = within _ _ _ c.args.count _ c.self.view_is c.requires in
    let inside = start-within 0 _ _ c.args.count c.self.invariant.0 short in
    rw (c.truncate-2.ensures.items, kept c, length-take-le _ _ inside) (AreEnds-take 0 _ _ c.args.count c.self.invariant.0 short, c.self.invariant.1)

pub returns : goal.returns
returns c =
    rw (c.truncate-2.ensures.items, kept c, ← c.self.view_is)
    (ap (shown c.self.inside.first) (pieces-take 0 _ _ c.args.count c.self.invariant.0 (within _ _ _ c.args.count _ c.self.view_is c.requires)) ∙ shown-take c.self.inside.first c.args.count (pieces 0 c.self.inside.lits.items c.self.inside.ends.items))
