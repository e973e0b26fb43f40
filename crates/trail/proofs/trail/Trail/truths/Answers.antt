use Rattle.std.proofs.Common.{◌≡◌, ◌<◌, length, get_or, refl}
use Rattle.std.proofs.lemmas.List.{get_or_default}
use Rattle.cnf.specs.Lits.{code}
use Rattle.trail.specs.declared.truth.Truth.{Truth}
use Rattle.trail.specs.declared.truth.Truth.TheVariants.{Unassigned}
use Rattle.trail.proofs.Tables.{AreTables-truth, code-below}
use Rattle.trail.proofs.Values.{truth-value}
use Rattle.trail.proofs.trail.Trail.truths.Goals as goal

pub returns-clause-truth : goal.returns-clause-truth
returns-clause-truth c = rw (← c.self.view_is, c.deref.ensures.value) (λ l within.
    let truths = c.self.inside.truths.items in
    let V = c.self.inside.vars in
    let t : Truth = get_or truths (code l) Unassigned in
    let there : code l < length truths = code-below V (length truths) l within c.self.invariant.3.truths_long in
    let read : t ≡ get_or truths (code l) t = get_or_default truths (code l) Unassigned t there in
    truth-value c.self.inside.entries.items l t (AreTables-truth V c.self.inside.entries.items truths c.self.inside.places.items l (code l) t c.self.invariant.3 within refl read))
