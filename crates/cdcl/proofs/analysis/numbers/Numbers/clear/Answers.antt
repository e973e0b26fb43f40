use Rattle.std.proofs.Common.{◌≡◌, ◌∙◌, length, sym}
use Rattle.std.proofs.lemmas.List.{take_at}
use Rattle.cdcl.specs.Numbers.{AreAmong}
use Rattle.cdcl.proofs.NumberSets.{inside-flagged, unset-all, flag-says}
use Rattle.cdcl.proofs.analysis.numbers.Numbers.clear.Goals as goal

pub unset-requires : goal.unset-requires
unset-requires c = record {
  inside = λ k d l. rw (c.deref.ensures.value, c.deref_mut.ensures.value) (inside-flagged c.self.inside.flags.items c.self.inside.list.items c.self.invariant k d (rw c.deref.ensures.value at l));
}

pub invariant_of-self : goal.invariant_of-self
invariant_of-self c =
    let a = c.self.inside in
    let same : length c.unset.new.flags ≡ length a.flags.items = rw c.deref_mut.ensures.value at c.unset.ensures.long in
    let among : AreAmong c.deref.result.now c.deref_mut.result.now = rw (c.deref.ensures.value, c.deref_mut.ensures.value) (λ n t. sym (flag-says a.flags.items a.list.items n c.self.invariant) ∙ t) in
    rw (take_at c.unset.new.flags _ a.flags.len (same ∙ sym a.flags.ok.0), c.clear.ensures.items) (unset-all c.unset.new.flags (c.unset.ensures.unset among))
