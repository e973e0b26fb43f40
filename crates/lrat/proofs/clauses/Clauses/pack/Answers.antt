use Rattle.std.proofs.Common.{◌≡◌, ap, subst, sym, ◌∙◌, []}
use Rattle.lrat.specs.Flat.{slots_in, packed, AreUpTo, AreEmptied}
use Rattle.lrat.specs.Slots.{there_before}
use Rattle.lrat.proofs.PackLemmas.{there-packed, AreFlat-packed, AreUpTo-packed, AreEmptied-packed}
use Rattle.lrat.proofs.clauses.Clauses.pack.Goals as goal

pub invariant_of-self : goal.invariant_of-self
invariant_of-self c =
    let s : slots_in c.in_ok-heads.lits.items c.in_ok-heads.heads.items ≡ packed c.self.inside.first (slots_in c.self.inside.lits.items c.self.inside.heads.items)
    = c.in_ok-heads.ensures.slots ∙ ap (λ xs. packed c.self.inside.first (slots_in xs c.deref.result.now)) c.deref-2.ensures.value
    ∙ ap (λ ks. packed c.self.inside.first (slots_in c.self.inside.lits.items ks)) c.deref.ensures.value in
    AreFlat-packed c.self.inside.vars c.self.inside.first c.self.inside.lits.items c.in_ok-heads.lits.items c.self.inside.heads.items c.in_ok-heads.heads.items c.self.invariant c.in_ok-heads.ensures.within s

pub returns-clause-same : goal.returns-clause-same
returns-clause-same c =
    let s : slots_in c.in_ok-heads.lits.items c.in_ok-heads.heads.items ≡ packed c.self.inside.first (slots_in c.self.inside.lits.items c.self.inside.heads.items)
    = c.in_ok-heads.ensures.slots ∙ ap (λ xs. packed c.self.inside.first (slots_in xs c.deref.result.now)) c.deref-2.ensures.value
    ∙ ap (λ ks. packed c.self.inside.first (slots_in c.self.inside.lits.items ks)) c.deref.ensures.value in
    rw (← c.self.view_is) (ap (there_before []) s ∙ there-packed c.self.inside.first (slots_in c.self.inside.lits.items c.self.inside.heads.items) [])

pub returns-clause-up_to : goal.returns-clause-up_to
returns-clause-up_to c =
    let s : slots_in c.in_ok-heads.lits.items c.in_ok-heads.heads.items ≡ packed c.self.inside.first (slots_in c.self.inside.lits.items c.self.inside.heads.items)
    = c.in_ok-heads.ensures.slots ∙ ap (λ xs. packed c.self.inside.first (slots_in xs c.deref.result.now)) c.deref-2.ensures.value
    ∙ ap (λ ks. packed c.self.inside.first (slots_in c.self.inside.lits.items ks)) c.deref.ensures.value in
    rw (← c.self.view_is)
    (λ n h. subst (AreUpTo n) (sym s) (AreUpTo-packed n c.self.inside.first (slots_in c.self.inside.lits.items c.self.inside.heads.items) h))

pub returns-clause-emptied : goal.returns-clause-emptied
returns-clause-emptied c =
    let s : slots_in c.in_ok-heads.lits.items c.in_ok-heads.heads.items ≡ packed c.self.inside.first (slots_in c.self.inside.lits.items c.self.inside.heads.items)
    = c.in_ok-heads.ensures.slots ∙ ap (λ xs. packed c.self.inside.first (slots_in xs c.deref.result.now)) c.deref-2.ensures.value
    ∙ ap (λ ks. packed c.self.inside.first (slots_in c.self.inside.lits.items ks)) c.deref.ensures.value in
    subst AreEmptied (sym s) (AreEmptied-packed c.self.inside.first (slots_in c.self.inside.lits.items c.self.inside.heads.items))
