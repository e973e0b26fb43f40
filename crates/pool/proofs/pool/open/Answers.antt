use Rattle.std.proofs.Common.{◌≡◌, ℕ, ◌<◌, length, set, Some, subst, ap, sym, refl, arith, rules, List}
use Rattle.std.specs.Prelude.{slice_get, vec_len}
use Rattle.std.proofs.lemmas.Option.{slice_get_read}
use Rattle.theory.specs.Ledger.{IsFit}
use Rattle.pool.specs.DequeNotes.{Cube}
use Rattle.pool.specs.Ends.{DequeId}
use Rattle.pool.specs.Words.{SeatView}
use Rattle.pool.specs.Hands.{HandView}
use Rattle.pool.specs.Pools.{PoolView, AreNew}
use Rattle.pool.specs.Opening.{AreRows, AreRootless, ids}
use Rattle.pool.proofs.Sharing.{same_len, rooted}
use Rattle.pool.proofs.pool.open.Goals as goal

pub hands-requires-clause-rows : goal.hands-requires-clause-rows
hands-requires-clause-rows c =
    let e = c.in_ok-rows.ensures in
    (subst (λ (l : List DequeId). AreRows c.args.vars l c.in_ok-rows.rows.items) (sym e.owners.1) e.rows.0, (let l = same_len c.rows.new.owners.items c.in_ok-owners.owners.items e.owners.1 in search rules))

pub put_root-requires-clause-fit : goal.put_root-requires-clause-fit
put_root-requires-clause-fit c =
    let a = c.in_ok-all.ensures.hands in
    let lens = same_len c.rows.new.owners.items c.in_ok-owners.owners.items c.in_ok-rows.ensures.owners.1 in
    let n = c.in_ok-owners.ensures.1 in
    let first = c.index_mut-first.result.now in
    let lt : 0 < length c.in_ok-all.all.items = let m = a.1 in let k = c.requires.count.0 in omega arith in
    let at : slice_get c.in_ok-all.all.items 0 ≡ Some first = slice_get_read c.in_ok-all.all.items (length c.in_ok-all.all.items) 0 first refl lt c.index_mut-first.ensures.value in
    subst (λ (h : HandView). IsFit h.vars c.args.root) (sym (a.0 0 first at)) c.requires.fit

pub put_root-requires-clause-first : goal.put_root-requires-clause-first
put_root-requires-clause-first c =
    let a = c.in_ok-all.ensures.hands in
    let lens = same_len c.rows.new.owners.items c.in_ok-owners.owners.items c.in_ok-rows.ensures.owners.1 in
    let n = c.in_ok-owners.ensures.1 in
    let first = c.index_mut-first.result.now in
    let lt : 0 < length c.in_ok-all.all.items = let m = a.1 in let k = c.requires.count.0 in omega arith in
    let at : slice_get c.in_ok-all.all.items 0 ≡ Some first = slice_get_read c.in_ok-all.all.items (length c.in_ok-all.all.items) 0 first refl lt c.index_mut-first.ensures.value in
    ap (λ (h : HandView). h.ledger.put) (a.0 0 first at)

pub returns-clause-hands : goal.returns-clause-hands
returns-clause-hands c =
    let a = c.in_ok-all.ensures.hands in
    let lens = same_len c.rows.new.owners.items c.in_ok-owners.owners.items c.in_ok-rows.ensures.owners.1 in
    let n = c.in_ok-owners.ensures.1 in
    let count : vec_len c.rows.new.owners ≡ c.args.hands = search rules in
    let first = c.index_mut-first.result.now in
    let lt : 0 < length c.in_ok-all.all.items = let m = a.1 in let k = c.requires.count.0 in omega arith in
    let at : slice_get c.in_ok-all.all.items 0 ≡ Some first = slice_get_read c.in_ok-all.all.items (length c.in_ok-all.all.items) 0 first refl lt c.index_mut-first.ensures.value in
    let table : c.in_ok-words.words.table ≡ c.hands.new.words.table = sym (ap (λ (s : SeatView). s.table) c.in_ok-all.ensures.seats) in
    let deques = ids c.rows.new.owners.items in
    let pool : PoolView = record { hands = c.args.hands; table = c.hands.new.words.table; root = c.args.root } in
    let many : length c.in_ok-all.all.items ≡ c.args.hands = search rules in
    let root : c.args.root ≡ c.of-remembered.result.value = search rules in
    subst (λ (Q : Cube). AreNew (record pool { root = Q }) c.args.vars (set c.in_ok-all.all.items 0 c.put_root.new.self)) root
    (rooted pool c.args.vars deques c.in_ok-all.all.items first c.put_root.new.self at c.in-Ok.ensures many
    (subst (λ (k : ℕ). AreRootless k c.args.vars deques c.hands.new.words.table c.in_ok-all.all.items) count
    (subst (λ (t : _). AreRootless (vec_len c.rows.new.owners) c.args.vars deques t c.in_ok-all.all.items) table a.0)))
