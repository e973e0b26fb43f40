use Rattle.std.proofs.Common.{◌∙◌, sym, arith}
use Rattle.std.proofs.lemmas.List.{length-map}
use Rattle.kernel.specs.EntryLists.{entries_of}
use Rattle.kernel.proofs.search_kernel.SearchKernel.close.Goals as goal

pub close-requires-clause-entries : goal.close-requires-clause-entries
close-requires-clause-entries c = (c.self.invariant.3 c.if-self.false).entries

pub close-requires-clause-lists : goal.close-requires-clause-lists
close-requires-clause-lists c = sym (length-map c.self.inside.propagator.lists entries_of) ∙ (c.self.invariant.3 c.if-self.false).lists

pub close-requires-clause-served : goal.close-requires-clause-served
close-requires-clause-served c = (c.self.inside.floor, (c.self.invariant.3 c.if-self.false).served)

pub invariant_of-self : goal.invariant_of-self
invariant_of-self c =
    let e = c.in-Ok.ensures in
    let s = c.self.invariant.3 c.if-self.false in
    let len = length-map c.close.new.self.lists entries_of ∙ (e.kept.1 ∙ sym (length-map c.self.inside.propagator.lists entries_of)) in (
      rw e.kept.0 (e.lawful c.self.invariant.0),
      rw (e.kept.0, e.vars) c.self.invariant.1,
      rw e.kept.0 c.self.invariant.2,
      λ h. rw (e.kept.0, e.vars, c.entries-served.ensures.entries) (record {
        lists = len ∙ s.lists;
        served = e.served c.self.inside.floor s.served;
        entries = e.entries;
        within = omega arith;
        base = s.base;
      }),
      λ h. e.line,
    )

pub invariant_of-self-in-Err : goal.invariant_of-self-in-Err
invariant_of-self-in-Err c =
    let e = c.in-Err.ensures in (
      rw e.kept.0 (e.lawful c.self.invariant.0),
      rw (e.kept.0, e.vars) c.self.invariant.1,
      rw e.kept.0 c.self.invariant.2,
      λ h. absurd (cc),
      λ h. absurd (cc),
    )
