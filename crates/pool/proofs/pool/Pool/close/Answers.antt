use Rattle.std.proofs.Common.{◌≡◌, ℕ, ◌<◌, ◌≤◌, length, subst, ap, sym, ◌∙◌, arith, rules, List}
use Rattle.std.specs.Prelude.{vec_len}
use Rattle.theory.specs.Ledger.{Ledger}
use Rattle.theory.specs.Order.{IsAllOnce, IsInOrder}
use Rattle.pool.specs.SeatNotes.{SeatNotes, first_notes}
use Rattle.pool.specs.Words.{AllHere, Closes}
use Rattle.pool.specs.Pools.{PoolView}
use Rattle.pool.specs.Closing.{AreNumbered, calls_of, Drained}
use Rattle.pool.proofs.Closings.{row_ids, whole, all_once, all_here, in_order}
use Rattle.pool.proofs.Sorting.{numbered, one_list, all_rooted, ledgers_same}
use Rattle.pool.proofs.pool.Pool.close.Goals as goal

pub by_number-requires : goal.by_number-requires
by_number-requires c number lt =
    let h = c.requires.each_number number (subst (λ (n : ℕ). number < n) c.requires.as_many lt) in
    (h.0, h.1, omega arith, h.2, h.3)

pub take_apart-requires-clause-hands : goal.take_apart-requires-clause-hands
take_apart-requires-clause-hands c =
    let s = c.in_ok-sorted.ensures in
    subst (λ (p : PoolView). AreNumbered p.table c.in_ok-sorted.sorted.items) (sym c.self.view_is) (numbered c.args.self c.args.hands.items c.in_ok-sorted.sorted.items c.requires s.hands s.as_many)

pub gather-requires : goal.gather-requires
gather-requires c =
    let s = c.in_ok-sorted.ensures in
    let hands = c.args.hands.items in
    let sorted = c.in_ok-sorted.sorted.items in
    row_ids c.args.self.table sorted c.in_ok-owners.owners.items c.in_ok-owners.rows.items c.requires.deques (numbered c.args.self hands sorted c.requires s.hands s.as_many)
    c.in_ok-owners.ensures.parts (one_list c.args.self hands sorted c.requires s.hands)

pub drain_all-requires : goal.drain_all-requires
drain_all-requires c =
    let s = c.in_ok-sorted.ensures in
    let sorted = c.in_ok-sorted.sorted.items in
    whole c.args.self.table sorted c.in_ok-owners.owners.items c.in_ok-owners.rows.items c.gather.new.owners.items (numbered c.args.self c.args.hands.items sorted c.requires s.hands s.as_many) c.in_ok-owners.ensures.parts c.gather.ensures

pub ends-least-requires-clause-whole : goal.ends-least-requires-clause-whole
ends-least-requires-clause-whole c =
    let s = c.in_ok-sorted.ensures in
    let sorted = c.in_ok-sorted.sorted.items in
    let n : c.self.inside.hands ≡ length sorted = ap (λ (p : PoolView). p.hands) c.self.view_is ∙ sym c.requires.as_many ∙ sym s.as_many in
    let notes : c.take_apart.new.words.notes ≡ record (first_notes (length sorted)) { calls = calls_of sorted } =
    c.in_ok-owners.ensures.seats.1 ∙ ap (λ (k : SeatNotes). record k { calls = calls_of sorted }) (c.self.invariant.1 ∙ ap first_notes n) in
    subst AllHere (sym notes) (all_here c.args.self.table sorted c.in_ok-owners.owners.items c.in_ok-owners.rows.items c.gather.new.owners.items (numbered c.args.self c.args.hands.items sorted c.requires s.hands s.as_many) c.in_ok-owners.ensures.parts c.gather.ensures)

pub returns-clause-once : goal.returns-clause-once
returns-clause-once c ledgers are =
    let s = c.in_ok-sorted.ensures in
    let hands = c.args.hands.items in
    let sorted = c.in_ok-sorted.sorted.items in
    let len : vec_len c.gather.new.owners ≡ length c.gather.new.owners.items = search rules in
    subst (λ (l : List Ledger). IsAllOnce c.args.self.root l c.in_ok-left.left.items) (sym (ledgers_same hands sorted ledgers are s.hands s.as_many))
    (all_once c.args.self.table sorted c.in_ok-owners.owners.items c.in_ok-owners.rows.items c.gather.new.owners.items (numbered c.args.self hands sorted c.requires s.hands s.as_many) c.in_ok-owners.ensures.parts c.gather.ensures
    c.args.self.root (all_rooted c.args.self hands sorted c.requires s.hands) c.in_ok-left.left.items
    (subst (λ (k : ℕ). Drained c.gather.new.owners.items k c.in_ok-left.left.items) len c.in_ok-left.ensures))

pub returns-clause-order : goal.returns-clause-order
returns-clause-order c ledgers are =
    let s = c.in_ok-sorted.ensures in
    let hands = c.args.hands.items in
    let sorted = c.in_ok-sorted.sorted.items in
    let n : c.self.inside.hands ≡ length sorted = ap (λ (p : PoolView). p.hands) c.self.view_is ∙ sym c.requires.as_many ∙ sym s.as_many in
    let notes : c.take_apart.new.words.notes ≡ record (first_notes (length sorted)) { calls = calls_of sorted } =
    c.in_ok-owners.ensures.seats.1 ∙ ap (λ (k : SeatNotes). record k { calls = calls_of sorted }) (c.self.invariant.1 ∙ ap first_notes n) in
    let e = c.ends-least.ensures in
    subst (λ (l : List Ledger). IsInOrder l c.ends-least.result.0 c.ends-least.result.1) (sym (ledgers_same hands sorted ledgers are s.hands s.as_many))
    (in_order c.args.self.table sorted c.in_ok-owners.owners.items c.in_ok-owners.rows.items c.gather.new.owners.items (numbered c.args.self hands sorted c.requires s.hands s.as_many) c.in_ok-owners.ensures.parts c.gather.ensures
    e.0 c.ends-least.result.0 c.ends-least.result.1 e.1 e.2 (subst (λ (k : SeatNotes). Closes k.made k.calls e.0) notes e.3))

pub returns-clause-some : goal.returns-clause-some
returns-clause-some c = subst (λ (p : PoolView). 1 ≤ p.hands) c.self.view_is c.self.invariant.0
