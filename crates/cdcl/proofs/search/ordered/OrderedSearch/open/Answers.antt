use Rattle.cdcl.proofs.search.ordered.OrderedSearch.open.Goals as goal

pub open_kernel-requires : goal.open_kernel-requires
open_kernel-requires c = rw c.deref.ensures.value c.in_ok-units.ensures.cube

pub returns : goal.returns
returns c = rw (c.deref.ensures.value, c.in_ok-units.ensures.units) at c.in_ok-open_kernel.ensures.ready
