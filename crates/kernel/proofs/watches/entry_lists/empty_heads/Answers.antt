use Rattle.std.proofs.Common.{◌≡◌, ◌++◌, ℕ, List, [], ◌∷◌, get_or, take, subst, refl, arith}
use Rattle.std.proofs.lemmas.List.{take_more, take_all}
use Rattle.std.proofs.lemmas.List.Elements.{All-push}
use Rattle.kernel.specs.EntryLists.{AreApart}
use Rattle.kernel.specs.declared.watches.entry_lists.Head.{Head}
use Rattle.kernel.proofs.Rooms.{apart-more}
use Rattle.kernel.proofs.watches.entry_lists.empty_heads.Goals as goal

pub loop-place-preserved : goal.loop-place-preserved
loop-place-preserved c =
    let i = c.loop-place.invariant in
    let new = c.in_ok-push.ensures.items in
    let rooms = take_more c.args.rooms.now c.loop-place.place 0 c.loop-place-test.true in
    let all : AreApart (c.loop-place.heads.items ++ (record { from = c.loop-place.end; len = 0 }) ∷ []) (take c.loop-place.place c.args.rooms.now ++ get_or c.args.rooms.now c.loop-place.place 0 ∷ []) c.in-Some.next =
    apart-more c.loop-place.heads.items (take c.loop-place.place c.args.rooms.now) c.loop-place.end (get_or c.args.rooms.now c.loop-place.place 0) c.in-Some.next i.apart c.in-Some.ensures.1 in
    record {
      apart = rw (new, rooms) all;
      empty = rw new (All-push (λ (h : Head). h.len ≡ 0) c.loop-place.heads.items (record { from = c.loop-place.end; len = 0 }) i.empty refl);
      within = omega (arith, c.loop-place-test.true);
    }

pub returns-clause-apart : goal.returns-clause-apart
returns-clause-apart c = subst (λ (rs : List ℕ). AreApart c.loop-place.heads.items rs c.loop-place.end) (take_all c.loop-place.place c.args.rooms.now c.loop-place-test.false) c.loop-place.invariant.apart
