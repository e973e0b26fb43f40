-- A kernel may go to another thread, with a checker of facts. Its parts are told one by one, since a
-- search for the whole is too deep. What contracts remember of its clauses is a type that reaches
-- itself, so that of it is told by a step.
use denote.Param.Send.{IsSend, sendable}
use denote.Param.SendFields.{declared_send}
use denote.Model.Marks.{tied_send}
use denote.Model.Local.{Parts, rows}
use denote.Model.Goals.{send, has_of}
use Rattle.std.proofs.Crossing.{crosses}
use Rattle.kernel.specs.declared.clauses.changed.Changed.TheDeep.{the_members, member-Changed}
use Rattle.kernel.specs.contracts.clauses.changed.Changed.{the_row as the_changed}
use Rattle.kernel.specs.contracts.clauses.changed.Changed.TheKnot.{frame, sizes, step, layer-Changed}
use Rattle.kernel.specs.contracts.clauses.given.Given.{the_row as the_given}
use Rattle.kernel.specs.contracts.clauses.clauses.Clauses.{the_row as the_clauses}
use Rattle.kernel.specs.contracts.clauses.store.Store.{the_row as the_store}
use Rattle.kernel.specs.contracts.propagator.Propagator.{the_row as the_propagator}
use Rattle.kernel.specs.contracts.units.unit_queue.UnitQueue.{the_row as the_unit_queue}
use Rattle.kernel.specs.contracts.search_kernel.SearchKernel.{the_row as the_kernel}
use Rattle.kernel.specs.contracts.search_kernel.SearchKernel.TheInside.{the_row as the_inside, the_type}

layer_send : (p : Parts frame) → IsSend (layer-Changed (rows frame p member-Changed))
layer_send p = search (sendable, crosses) depth 24

step_send : (p : Parts frame) → ((j : the_members) → IsSend (rows frame p j)) → (i : the_members) → IsSend (rows frame (step p) i)
step_send p all member-Changed = has_of frame send (step p) member-Changed (λ d vs x. ((layer_send p).owned _ vs, tt))

changed_send : IsSend the_changed
changed_send = tied_send frame step sizes step_send member-Changed

given_send : IsSend the_given
given_send = search (sendable, changed_send) depth 24

clauses_send : IsSend the_clauses
clauses_send = search (sendable, crosses) depth 24

store_send : IsSend the_store
store_send = search (sendable, given_send, clauses_send) depth 24

propagator_send : IsSend the_propagator
propagator_send = search (sendable, crosses, store_send) depth 24

unit_queue_send : IsSend the_unit_queue
unit_queue_send = search (sendable, crosses) depth 40 fits 50000

inside_send : IsSend the_inside
inside_send = declared_send the_type (propagator_send, (search (sendable, crosses) depth 40 fits 50000, (unit_queue_send, (search (sendable, crosses) depth 40 fits 50000, (search (sendable, crosses) depth 40 fits 50000, (search (sendable, crosses) depth 40 fits 50000, (search (sendable, crosses) depth 40 fits 50000, (search (sendable, crosses) depth 40 fits 50000, (search (sendable, crosses) depth 40 fits 50000, (search (sendable, crosses) depth 40 fits 50000, (search (sendable, crosses) depth 40 fits 50000, tt)))))))))))

pub kernel_send : IsSend the_kernel
kernel_send = search (sendable, inside_send)
