use Rattle.std.proofs.Common.{◌≡◌, ◌-◌, Some, false, slice_get, get_or}
use Rattle.std.proofs.lemmas.Option.{slice_get-get_or}
use Rattle.lrat.specs.Flat.{slots_in, packed}
use Rattle.lrat.specs.declared.clauses.Head.{Head}
use Rattle.lrat.proofs.PackLemmas.{read_within, pack-there, pack-formula, pack-gone, pack-done}
use Rattle.lrat.proofs.clauses.pack.Goals.{then-head+in_ok-append, else-head+then-place-first+in_ok-append-2, else-head+else-place-first}
use Rattle.lrat.proofs.clauses.pack.Goals as goal

pub loop-place-preserved : goal.loop-place-preserved
loop-place-preserved c =
    let v = c.loop-place.invariant in
    let less = c.loop-place-test.true in
    let p = c.loop-place.place in
    let none : Head = record { id = 0; start = 0; end = 0; is_there = false } in
    let h : Head = get_or c.args.heads.now p none in
    let at : slice_get c.args.heads.now p ≡ Some h = slice_get-get_or c.args.heads.now p none less in
    let S = slots_in c.loop-place.packed_lits.items c.loop-place.packed_heads.items in
    elim c.if-head.branch [
      | then-head+in_ok-append w ↦ rw (w.packed_heads-is, w.packed_lits-is) (record {
        within = w.in_ok-append.ensures.within;
        slots = pack-there c.args.first p c.args.lits.now c.args.heads.now h S (slots_in w.append.new.lits.items w.append.new.heads.items) (packed c.args.first (slots_in c.args.lits.now c.args.heads.now)) at w.if-head.true w.in_ok-append.ensures.ok v.slots;
      })
      | else-head+then-place-first+in_ok-append-2 w ↦ rw (w.packed_heads-is, w.packed_lits-is) (record {
        within = w.in_ok-append-2.ensures.within;
        slots = pack-formula c.args.first p c.args.lits.now c.args.heads.now h S (slots_in w.append-then-place-first.new.lits.items w.append-then-place-first.new.heads.items) (packed c.args.first (slots_in c.args.lits.now c.args.heads.now)) at w.if-head.false w.if-place-first.true w.in_ok-append-2.ensures.ok v.slots;
      })
      | else-head+else-place-first w ↦ rw (w.packed_heads-is, w.packed_lits-is) (record {
        within = v.within;
        slots = pack-gone c.args.first p c.args.lits.now c.args.heads.now h S (packed c.args.first (slots_in c.args.lits.now c.args.heads.now)) at w.if-head.false w.if-place-first.false v.slots;
      })
    ]

pub slice_bounds-clause-count : goal.slice_bounds-clause-count
slice_bounds-clause-count c = (read_within c.args.lits.now c.args.heads.now c.loop-place.place _ c.requires c.loop-place-test.true).0

pub slice_bounds-clause-start : goal.slice_bounds-clause-start
slice_bounds-clause-start c = (read_within c.args.lits.now c.args.heads.now c.loop-place.place _ c.requires c.loop-place-test.true).0

pub slice_bounds-clause-end : goal.slice_bounds-clause-end
slice_bounds-clause-end c = (read_within c.args.lits.now c.args.heads.now c.loop-place.place _ c.requires c.loop-place-test.true).1

pub append-requires : goal.append-requires
append-requires c = c.loop-place.invariant.within

pub append-requires-then-place-first : goal.append-requires-then-place-first
append-requires-then-place-first c = c.loop-place.invariant.within

pub returns-clause-within : goal.returns-clause-within
returns-clause-within c = c.loop-place.invariant.within

pub returns-clause-slots : goal.returns-clause-slots
returns-clause-slots c =
    pack-done (c.args.first - c.loop-place.place) c.loop-place.place c.args.lits.now c.args.heads.now _ _ c.loop-place-test.false c.loop-place.invariant.slots
