-- Lists in rooms of one list of entries: what a write into one room, and more entries behind all,
-- leave of the others.
use Rattle.std.proofs.Common.{◌≡◌, ◌≢◌, ℕ, zero, suc, ◌+◌, ◌-◌, ◌<◌, ◌≤◌, List, [], ◌∷◌, ◌++◌, length, get_or, set, take, drop, map, refl, ap, sym, subst, ◌∙◌, ◌⊎◌, inl, inr, arith, All, append_assoc}
use Rattle.std.proofs.lemmas.List.{drop-set-add, drop-set-lt, take-set-le, drop-append-le, take-append-le, length-drop, length-take-le, take-append-drop, take-take, drop-drop, length-append, get_or-take, get_or-drop, get_or_default, length-set, set-get_or, take_all, map-set, length_push, take_more_set, get_or-set_same}
use Rattle.std.proofs.Math.ListN.{get_or-map}
use Rattle.kernel.proofs.Places.{At-one, At-set, At-push}
use Rattle.std.proofs.Math.Seq.{take-set-lt, drop-append_seam, drop-append-add}
use Rattle.kernel.specs.declared.watches.watch.Watch.{Watch}
use Rattle.kernel.specs.declared.watches.entry_lists.Head.{Head}
use Rattle.kernel.specs.Watching.{At}
use Rattle.kernel.specs.EntryLists.{EntryList, entries_of, nth_list, in_room, in_rooms, AreApart}

pub length-rooms : (es : List Watch) (hs : List Head) (rs : List ℕ) → length hs ≡ length rs → length (in_rooms es hs rs) ≡ length hs
length-rooms es [] rs e = refl
length-rooms es (h ∷ hs) [] e = absurd (omega (arith, e))
length-rooms es (h ∷ hs) (r ∷ rs) e = ap suc (length-rooms es hs rs (omega (arith, e)))

tail-at : {X : Type 0} (y : X) (xs : List X) (n : ℕ) (x : X) → At (y ∷ xs) (suc n) x → At xs n x
tail-at y xs n x a = ((let z : n < length xs = omega (arith, a.0) in z), a.1)

next-at : {X : Type 0} (y : X) (xs : List X) (n : ℕ) (x : X) → At xs n x → At (y ∷ xs) (suc n) x
next-at y xs n x a = ((let z : suc n < length (y ∷ xs) = omega (arith, a.0) in z), a.1)

first-at : {X : Type 0} (x : X) (xs : List X) → At (x ∷ xs) 0 x
first-at x xs = ((let z : 0 < length (x ∷ xs) = omega arith in z), refl)

pub nth-rooms : (es : List Watch) (hs : List Head) (rs : List ℕ) (n : ℕ) (h : Head) (r : ℕ) → At hs n h → At rs n r → nth_list (in_rooms es hs rs) n ≡ in_room es h r
nth-rooms es [] rs n h r a b = absurd (omega (arith, a.0))
nth-rooms es (k ∷ hs) [] n h r a b = absurd (omega (arith, b.0))
nth-rooms es (k ∷ hs) (s ∷ rs) zero h r a b = (λ i. in_room es (a.1 i) (b.1 i))
nth-rooms es (k ∷ hs) (s ∷ rs) (suc n) h r a b = nth-rooms es hs rs n h r (tail-at k hs n h a) (tail-at s rs n r b)

-- other entries, of which each room has the same
same-rooms : (es fs : List Watch) (hs : List Head) (rs : List ℕ) → ((j : ℕ) (k : Head) (s : ℕ) → At hs j k → At rs j s → take s (drop k.from fs) ≡ take s (drop k.from es)) → in_rooms fs hs rs ≡ in_rooms es hs rs
same-rooms es fs [] rs h = refl
same-rooms es fs (k ∷ hs) [] h = refl
same-rooms es fs (k ∷ hs) (s ∷ rs) h =
    let here : take s (drop k.from fs) ≡ take s (drop k.from es) = h 0 k s (first-at k hs) (first-at s rs) in
    let rest : in_rooms fs hs rs ≡ in_rooms es hs rs = same-rooms es fs hs rs (λ j q t a b. h (suc j) q t (next-at k hs j q a) (next-at s rs j t b)) in
    (λ i. record { from = k.from; len = k.len; room = here i } ∷ rest i)

-- the same but for one list
pub one-room : (es fs : List Watch) (hs : List Head) (rs : List ℕ) (n : ℕ) (h : Head) (r : ℕ) → n < length hs → n < length rs
    → ((j : ℕ) (k : Head) (s : ℕ) → At hs j k → At rs j s → j ≢ n → take s (drop k.from fs) ≡ take s (drop k.from es))
    → in_rooms fs (set hs n h) (set rs n r) ≡ set (in_rooms es hs rs) n (in_room fs h r)
one-room es fs [] rs n h r inside within others = absurd (omega (arith, inside))
one-room es fs (k ∷ hs) [] n h r inside within others = absurd (omega (arith, within))
one-room es fs (k ∷ hs) (s ∷ rs) zero h r inside within others =
    let rest : in_rooms fs hs rs ≡ in_rooms es hs rs = same-rooms es fs hs rs (λ j q t a b. others (suc j) q t (next-at k hs j q a) (next-at s rs j t b) (λ e. absurd (omega (arith, e)))) in
    ap (λ ls. in_room fs h r ∷ ls) rest
one-room es fs (k ∷ hs) (s ∷ rs) (suc n) h r inside within others =
    let here : take s (drop k.from fs) ≡ take s (drop k.from es) = others 0 k s (first-at k hs) (first-at s rs) (λ e. absurd (omega (arith, e))) in
    let rest : in_rooms fs (set hs n h) (set rs n r) ≡ set (in_rooms es hs rs) n (in_room fs h r) =
    one-room es fs hs rs n h r (omega (arith, inside)) (omega (arith, within)) (λ j q t a b ne. others (suc j) q t (next-at k hs j q a) (next-at s rs j t b) (λ e. ne (omega (arith, e)))) in
    (λ i. record { from = k.from; len = k.len; room = here i } ∷ rest i)

module _ {X : Type 0} where
  pub part-long : (xs : List X) (f r : ℕ) → f + r ≤ length xs → length (take r (drop f xs)) ≡ r
  part-long xs f r h = length-take-le r (drop f xs) (omega (arith, h, length-drop f xs))

  -- a write behind a part, before it and in it
  pub part-before : (xs : List X) (f r i : ℕ) (a : X) → f + r ≤ i → take r (drop f (set xs i a)) ≡ take r (drop f xs)
  part-before xs f r i a h =
      let split : f + (i - f) ≡ i = omega (arith, h) in
      ap (λ n. take r (drop f (set xs n a))) (sym split) ∙ ap (take r) (drop-set-add f xs (i - f) a) ∙ take-set-le r (drop f xs) (i - f) a (omega (arith, h))

  pub part-behind : (xs : List X) (f r i : ℕ) (a : X) → i < f → take r (drop f (set xs i a)) ≡ take r (drop f xs)
  part-behind xs f r i a h = ap (take r) (drop-set-lt f xs i a h)

  pub part-own : (xs : List X) (f r p : ℕ) (a : X) → p < r → take r (drop f (set xs (f + p) a)) ≡ set (take r (drop f xs)) p a
  part-own xs f r p a h = ap (take r) (drop-set-add f xs p a) ∙ take-set-lt r (drop f xs) p a h

  -- more behind all
  pub part-front : (xs ys : List X) (f r : ℕ) → f + r ≤ length xs → take r (drop f (xs ++ ys)) ≡ take r (drop f xs)
  part-front xs ys f r h =
      ap (take r) (drop-append-le f xs ys (omega (arith, h))) ∙ take-append-le r (drop f xs) ys (omega (arith, h, length-drop f xs))

  -- a part is written anew
  module _ (xs ys : List X) (f k : ℕ) (long : length ys ≡ k) (within : f + k ≤ length xs) where
    abbrev pub spliced : List X
    spliced = take f xs ++ (ys ++ drop k (drop f xs))

    front-long : length (take f xs) ≡ f
    front-long = length-take-le f xs (omega (arith, within))

    pub splice-long : length spliced ≡ length xs
    splice-long =
        let a = length-append (take f xs) (ys ++ drop k (drop f xs)) in
        let b = length-append ys (drop k (drop f xs)) in
        let c = length-drop k (drop f xs) in
        let d = length-drop f xs in
        omega (arith, a, b, c, d, front-long, long, within)

    pub splice-before : (g s : ℕ) → g + s ≤ f → take s (drop g spliced) ≡ take s (drop g xs)
    splice-before g s h =
        part-front (take f xs) (ys ++ drop k (drop f xs)) g s (omega (arith, h, front-long))
        ∙ sym (part-front (take f xs) (drop f xs) g s (omega (arith, h, front-long)))
        ∙ ap (λ zs. take s (drop g zs)) (take-append-drop f xs)

    behind-ys : (n : ℕ) → drop (f + n) spliced ≡ drop n (ys ++ drop k (drop f xs))
    behind-ys n = ap (λ m. drop (m + n) spliced) (sym front-long) ∙ drop-append-add (take f xs) (ys ++ drop k (drop f xs)) n

    pub splice-behind : (g s : ℕ) → f + k ≤ g → take s (drop g spliced) ≡ take s (drop g xs)
    splice-behind g s h = ap (take s) (ap (λ n. drop n spliced) (sym whole) ∙ behind-ys (k + m) ∙ ap (λ n. drop (n + m) (ys ++ drop k (drop f xs))) (sym long) ∙ drop-append-add ys (drop k (drop f xs)) m ∙ same)
      where
        m : ℕ
        m = g - (f + k)

        whole : f + (k + m) ≡ g
        whole = omega (arith, h)

        same : drop m (drop k (drop f xs)) ≡ drop g xs
        same = drop-drop m k (drop f xs) ∙ drop-drop (k + m) f xs ∙ (let e : f + (k + m) ≡ g = omega (arith, h) in ap (λ n. drop n xs) e)

    pub splice-own : (m r : ℕ) → m ≤ k → k ≤ r → take m (take r (drop f spliced)) ≡ take m ys
    splice-own m r a b =
        take-take m r (drop f spliced) (omega (arith, a, b))
        ∙ ap (take m) (let e : f + 0 ≡ f = omega arith in ap (λ n. drop n spliced) (sym e) ∙ behind-ys 0)
        ∙ take-append-le m ys (drop k (drop f xs)) (omega (arith, a, long))

set-same : {X : Type 0} (xs : List X) (n : ℕ) (x : X) → x ≡ get_or xs n x → set xs n x ≡ xs
set-same xs n x read = ap (set xs n) read ∙ set-get_or xs n x

-- the list at a place, by its head
module _ (es : List Watch) (hs : List Head) (rs : List ℕ) (ls : List EntryList) (is : in_rooms es hs rs ≡ ls) (ok : AreApart hs rs (length es)) (at : ℕ) (inside : at < length ls) where
  pub head-inside : at < length hs
  head-inside = let a : length (in_rooms es hs rs) ≡ length ls = ap length is in let b = length-rooms es hs rs ok.as_many in omega (arith, inside, a, b)

  pub room-inside : at < length rs
  room-inside = let a = head-inside in let b = ok.as_many in omega (arith, a, b)

  -- how much room it has
  abbrev pub its-room : ℕ
  its-room = get_or rs at 0

  pub its-room-is : its-room ≡ get_or rs at its-room
  its-room-is = get_or_default rs at 0 its-room room-inside

  module _ (h : Head) (read : h ≡ get_or hs at h) (r : ℕ) (room : r ≡ get_or rs at r) where
    head-at : At hs at h
    head-at = (head-inside, sym read)

    room-at : At rs at r
    room-at = (room-inside, sym room)

    pub list-is : nth_list ls at ≡ in_room es h r
    list-is = ap (λ l. nth_list l at) (sym is) ∙ nth-rooms es hs rs at h r head-at room-at

    pub fits : (h.len ≤ r) × (h.from + r ≤ length es)
    fits = ok.within at h r head-at room-at

    pub room-long : length (nth_list ls at).room ≡ r
    room-long = ap (λ (l : EntryList). length l.room) list-is ∙ part-long es h.from r fits.1

    pub place-inside : (place : ℕ) → place < length (nth_list ls at).room → h.from + place < length es
    place-inside place low = let a = room-long in let b = fits.1 in omega (arith, low, a, b)

    pub read-room : (place : ℕ) (x : Watch) → place < length (nth_list ls at).room → get_or (nth_list ls at).room place x ≡ get_or es (h.from + place) x
    read-room place x low =
        let a = room-long in
        ap (λ (l : EntryList). get_or l.room place x) list-is ∙ get_or-take r (drop h.from es) place x (omega (arith, low, a)) ∙ get_or-drop h.from es place x

    other : (j : ℕ) (k : Head) (s : ℕ) → At hs j k → At rs j s → j ≢ at → (k.from + s ≤ h.from) ⊎ (h.from + r ≤ k.from)
    other j k s a b ne = ok.apart j at k h s r a b head-at room-at ne

    -- a write into the room leaves the others
    write-others : (place : ℕ) (w : Watch) → place < r → (j : ℕ) (k : Head) (s : ℕ) → At hs j k → At rs j s → j ≢ at → take s (drop k.from (set es (h.from + place) w)) ≡ take s (drop k.from es)
    write-others place w low j k s a b ne = go (other j k s a b ne)
      where
        go : (k.from + s ≤ h.from) ⊎ (h.from + r ≤ k.from) → take s (drop k.from (set es (h.from + place) w)) ≡ take s (drop k.from es)
        go (inl before) = part-before es k.from s (h.from + place) w (omega (arith, before))
        go (inr behind) = part-behind es k.from s (h.from + place) w (omega (arith, behind, low))

    same-heads : set hs at h ≡ hs
    same-heads = set-same hs at h read

    same-sizes : set rs at r ≡ rs
    same-sizes = set-same rs at r room

    own-room : (place : ℕ) (w : Watch) → place < r → take r (drop h.from (set es (h.from + place) w)) ≡ set (nth_list ls at).room place w
    own-room place w low = part-own es h.from r place w low ∙ ap (λ (l : EntryList). set l.room place w) (sym list-is)

    pub from-is : h.from ≡ (nth_list ls at).from
    from-is = ap (λ (l : EntryList). l.from) (sym list-is)

    pub len-is : h.len ≡ (nth_list ls at).len
    len-is = ap (λ (l : EntryList). l.len) (sym list-is)

    pub written-room : (place : ℕ) (w : Watch) → place < length (nth_list ls at).room → in_rooms (set es (h.from + place) w) hs rs ≡ set ls at (record (nth_list ls at) { room = set (nth_list ls at).room place w })
    written-room place w low =
        let below : place < r = let a = room-long in omega (arith, low, a) in
        let one = one-room es (set es (h.from + place) w) hs rs at h r head-inside room-inside (write-others place w below) in
        (λ i. in_rooms (set es (h.from + place) w) (sym same-heads i) (sym same-sizes i)) ∙ one
        ∙ (λ i. set (is i) at (record { from = from-is i; len = len-is i; room = own-room place w below i }))

    pub shortened : (n : ℕ) → in_rooms es (set hs at (record h { len = n })) rs ≡ set ls at (record (nth_list ls at) { len = n })
    shortened n =
        let one = one-room es es hs rs at (record h { len = n }) r head-inside room-inside (λ j k s a b ne. refl) in
        ap (in_rooms es (set hs at (record h { len = n }))) (sym same-sizes) ∙ one
        ∙ (λ i. set (is i) at (record { from = from-is i; len = n; room = (sym list-is i).room }))

    pub pushed-room : (w : Watch) → h.len < r → in_rooms (set es (h.from + h.len) w) (set hs at (record h { len = h.len + 1 })) rs
        ≡ set ls at (record { from = (nth_list ls at).from; len = (nth_list ls at).len + 1; room = set (nth_list ls at).room (nth_list ls at).len w })
    pushed-room w low =
        let one = one-room es (set es (h.from + h.len) w) hs rs at (record h { len = h.len + 1 }) r head-inside room-inside (write-others h.len w low) in
        ap (in_rooms (set es (h.from + h.len) w) (set hs at (record h { len = h.len + 1 }))) (sym same-sizes) ∙ one
        ∙ (λ i. set (is i) at (record { from = from-is i; len = len-is i + 1; room = own-room h.len w low i }))
        ∙ ap (λ n. set ls at (record { from = (nth_list ls at).from; len = (nth_list ls at).len + 1; room = set (nth_list ls at).room n w })) len-is

    -- the heads stay apart where a list gets another length
    pub apart-len : (n : ℕ) → n ≤ r → AreApart (set hs at (record h { len = n })) rs (length es)
    apart-len n low = record {
      as_many = length-set hs at (record h { len = n }) ∙ ok.as_many;
      within = λ i k s a b. within-at i k s b (At-set hs at (record h { len = n }) i k a);
      apart = λ i j k l s t a b d e ne. apart-at i j k l s t b e ne (was i k a) (was j l d);
    }
      where
        was : (i : ℕ) (k : Head) → At (set hs at (record h { len = n })) i k → (l : Head) × At hs i l × (l.from ≡ k.from)
        was i k a = go (At-set hs at (record h { len = n }) i k a)
          where
            go : ((i ≡ at) × (k ≡ record h { len = n })) ⊎ ((i ≢ at) × At hs i k) → (l : Head) × At hs i l × (l.from ≡ k.from)
            go (inl (e, f)) = (h, subst (λ m. At hs m h) (sym e) head-at, ap (λ (l : Head). l.from) (sym f))
            go (inr (ne, b)) = (k, b, refl)

        within-at : (i : ℕ) (k : Head) (s : ℕ) → At rs i s → ((i ≡ at) × (k ≡ record h { len = n })) ⊎ ((i ≢ at) × At hs i k) → (k.len ≤ s) × (k.from + s ≤ length es)
        within-at i k s b (inl (e, f)) =
            let same : s ≡ r = At-one rs at s r (subst (λ m. At rs m s) e b) room-at in
            let x = fits.1 in
            rw f (omega (arith, low, same), omega (arith, x, same))
        within-at i k s b (inr (ne, a)) = ok.within i k s a b

        apart-at : (i j : ℕ) (k l : Head) (s t : ℕ) → At rs i s → At rs j t → i ≢ j → (p : Head) × At hs i p × (p.from ≡ k.from) → (q : Head) × At hs j q × (q.from ≡ l.from) → (k.from + s ≤ l.from) ⊎ (l.from + t ≤ k.from)
        apart-at i j k l s t b e ne (p, a, f) (q, d, g) = subst (λ x. (x + s ≤ l.from) ⊎ (l.from + t ≤ x)) f (subst (λ y. (p.from + s ≤ y) ⊎ (y + t ≤ p.from)) g (ok.apart i j p q s t a b d e ne))

    -- the list moves behind all entries
    module _ (ys : List Watch) where
      abbrev moved-head : Head
      moved-head = record { from = length es; len = h.len }

      room-behind : take (length ys) (drop (length es) (es ++ ys)) ≡ ys
      room-behind = ap (take (length ys)) (drop-append_seam es ys) ∙ take_all (length ys) ys (let z : length ys ≤ length ys = omega arith in z)

      front-rooms : (j : ℕ) (k : Head) (s : ℕ) → At hs j k → At rs j s → j ≢ at → take s (drop k.from (es ++ ys)) ≡ take s (drop k.from es)
      front-rooms j k s a b ne = part-front es ys k.from s (ok.within j k s a b).1

      pub moved-list : in_rooms (es ++ ys) (set hs at moved-head) (set rs at (length ys)) ≡ set ls at (record { from = length es; len = (nth_list ls at).len; room = ys })
      moved-list = one-room es (es ++ ys) hs rs at moved-head (length ys) head-inside room-inside front-rooms
          ∙ (λ i. set (is i) at (record { from = length es; len = len-is i; room = room-behind i }))

      more : length (es ++ ys) ≡ length es + length ys
      more = length-append es ys

      pub moved-apart : h.len ≤ length ys → AreApart (set hs at moved-head) (set rs at (length ys)) (length (es ++ ys))
      moved-apart low = record {
        as_many = length-set hs at moved-head ∙ ok.as_many ∙ sym (length-set rs at (length ys));
        within = λ i k s a b. within-at i k s (At-set hs at moved-head i k a) (At-set rs at (length ys) i s b);
        apart = λ i j k l s t a b d e ne. apart-at i j k l s t ne (At-set hs at moved-head i k a) (At-set rs at (length ys) i s b) (At-set hs at moved-head j l d) (At-set rs at (length ys) j t e);
      }
        where
          within-at : (i : ℕ) (k : Head) (s : ℕ) → ((i ≡ at) × (k ≡ moved-head)) ⊎ ((i ≢ at) × At hs i k) → ((i ≡ at) × (s ≡ length ys)) ⊎ ((i ≢ at) × At rs i s) → (k.len ≤ s) × (k.from + s ≤ length (es ++ ys))
          within-at i k s (inl (e, f)) (inl (_, g)) = rw f (omega (arith, low, g), omega (arith, more, g))
          within-at i k s (inl (e, f)) (inr (ne, b)) = absurd (ne e)
          within-at i k s (inr (ne, a)) (inl (e, f)) = absurd (ne e)
          within-at i k s (inr (ne, a)) (inr (_, b)) = let w = ok.within i k s a b in (w.0, (let x = w.1 in omega (arith, x, more)))

          apart-at : (i j : ℕ) (k l : Head) (s t : ℕ) → i ≢ j → ((i ≡ at) × (k ≡ moved-head)) ⊎ ((i ≢ at) × At hs i k) → ((i ≡ at) × (s ≡ length ys)) ⊎ ((i ≢ at) × At rs i s)
              → ((j ≡ at) × (l ≡ moved-head)) ⊎ ((j ≢ at) × At hs j l) → ((j ≡ at) × (t ≡ length ys)) ⊎ ((j ≢ at) × At rs j t) → (k.from + s ≤ l.from) ⊎ (l.from + t ≤ k.from)
          apart-at i j k l s t ne (inl (e, f)) b (inl (d, g)) c = absurd (ne (e ∙ sym d))
          apart-at i j k l s t ne (inl (e, f)) b (inr (n, g)) (inl (d, c)) = absurd (n d)
          apart-at i j k l s t ne (inl (e, f)) b (inr (n, g)) (inr (_, c)) = inr (rw f (ok.within j l t g c).1)
          apart-at i j k l s t ne (inr (n, a)) (inl (e, b)) (inl (d, g)) c = absurd (n e)
          apart-at i j k l s t ne (inr (n, a)) (inr (_, b)) (inl (d, g)) c = inl (rw g (ok.within i k s a b).1)
          apart-at i j k l s t ne (inr (n, a)) (inl (e, b)) (inr (m, g)) c = absurd (n e)
          apart-at i j k l s t ne (inr (n, a)) (inr (_, b)) (inr (m, g)) (inl (d, c)) = absurd (m d)
          apart-at i j k l s t ne (inr (n, a)) (inr (_, b)) (inr (m, g)) (inr (_, c)) = ok.apart i j k l s t a b g c ne

    -- the entries are written anew, and fewer stay
    module _ (ys : List Watch) (long : length ys ≡ h.len) where
      pub within : h.from + h.len ≤ length es
      within = let a = fits.0 in let b = fits.1 in omega (arith, a, b)

      splice-others : (j : ℕ) (k : Head) (s : ℕ) → At hs j k → At rs j s → j ≢ at → take s (drop k.from (spliced es ys h.from h.len long within)) ≡ take s (drop k.from es)
      splice-others j k s a b ne = go (other j k s a b ne)
        where
          go : (k.from + s ≤ h.from) ⊎ (h.from + r ≤ k.from) → take s (drop k.from (spliced es ys h.from h.len long within)) ≡ take s (drop k.from es)
          go (inl before) = splice-before es ys h.from h.len long within k.from s before
          go (inr behind) = splice-behind es ys h.from h.len long within k.from s (let x = fits.0 in omega (arith, behind, x))

      pub kept-rooms : (n : ℕ) → n ≤ h.len → map entries_of (in_rooms (spliced es ys h.from h.len long within) (set hs at (record h { len = n })) rs) ≡ set (map entries_of ls) at (take n ys)
      kept-rooms n low =
          let fs = spliced es ys h.from h.len long within in
          let one = one-room es fs hs rs at (record h { len = n }) r head-inside room-inside splice-others in
          ap (map entries_of) (ap (in_rooms fs (set hs at (record h { len = n }))) (sym same-sizes) ∙ one ∙ ap (λ l. set l at (in_room fs (record h { len = n }) r)) is)
          ∙ map-set entries_of ls at (in_room fs (record h { len = n }) r)
          ∙ ap (set (map entries_of ls) at) (splice-own es ys h.from h.len long within n r low fits.0)

    its-entries : entries_of (nth_list ls at) ≡ take h.len (drop h.from es)
    its-entries = ap entries_of list-is ∙ take-take h.len r (drop h.from es) fits.0

    -- the list moves to a greater room behind all
    module _ (from places : ℕ) (fs rest : List Watch) (begins : from ≡ length es) (is-fs : fs ≡ es ++ (take h.len (drop h.from es) ++ rest)) (size : places ≡ h.len + length rest) where
      abbrev whole : List Watch
      whole = take h.len (drop h.from es) ++ rest

      copy-long : length (take h.len (drop h.from es)) ≡ h.len
      copy-long = let a = fits.0 in let b = fits.1 in part-long es h.from h.len (omega (arith, a, b))

      whole-long : length whole ≡ places
      whole-long = let a = copy-long in let b = length-append (take h.len (drop h.from es)) rest in omega (arith, a, b, size)

      pub grown : in_rooms fs (set hs at (record { from = from; len = h.len })) (set rs at places) ≡ set ls at (record { from = from; len = (nth_list ls at).len; room = entries_of (nth_list ls at) ++ rest })
      grown = (λ i. in_rooms (is-fs i) (set hs at (record { from = begins i; len = h.len })) (set rs at (sym whole-long i)))
          ∙ moved-list whole
          ∙ (λ i. set ls at (record { from = sym begins i; len = (nth_list ls at).len; room = sym its-entries i ++ rest }))

      pub grown-apart : AreApart (set hs at (record { from = from; len = h.len })) (set rs at places) (length fs)
      grown-apart = subst (λ (gs : List Watch). AreApart (set hs at (record { from = from; len = h.len })) (set rs at places) (length gs)) (sym is-fs)
          (subst (λ n. AreApart (set hs at (record { from = n; len = h.len })) (set rs at places) (length (es ++ whole))) (sym begins)
          (subst (λ n. AreApart (set hs at (record { from = length es; len = h.len })) (set rs at n) (length (es ++ whole))) whole-long
          (moved-apart whole (let a = whole-long in omega (arith, a, size)))))

    -- fewer of the entries stay, which were written anew
    module _ (k : ℕ) (old fs ys : List Watch) (is-k : k ≡ h.len) (is-old : old ≡ es) (long : length ys ≡ length (take k (drop h.from old))) (is-fs : fs ≡ take h.from old ++ (ys ++ drop k (drop h.from old))) where
      ys-long : length ys ≡ h.len
      ys-long = long ∙ (λ i. length (take (is-k i) (drop h.from (is-old i)))) ∙ (let a = fits.0 in let b = fits.1 in part-long es h.from h.len (omega (arith, a, b)))

      same-fs : fs ≡ spliced es ys h.from h.len ys-long (within ys ys-long)
      same-fs = is-fs ∙ (λ i. take h.from (is-old i) ++ (ys ++ drop (is-k i) (drop h.from (is-old i))))

      pub anew-long : length fs ≡ length es
      anew-long = ap length same-fs ∙ splice-long es ys h.from h.len ys-long (within ys ys-long)

      pub anew-entries : (n : ℕ) → n ≤ length ys → map entries_of (in_rooms fs (set hs at (record { from = h.from; len = n })) rs) ≡ set (map entries_of ls) at (take n ys)
      anew-entries n low =
          ap (λ (gs : List Watch). map entries_of (in_rooms gs (set hs at (record { from = h.from; len = n })) rs)) same-fs
          ∙ kept-rooms ys ys-long n (let a = ys-long in omega (arith, low, a))

      pub anew-apart : (n : ℕ) → n ≤ length ys → AreApart (set hs at (record { from = h.from; len = n })) rs (length fs)
      anew-apart n low =
          subst (λ m. AreApart (set hs at (record { from = h.from; len = n })) rs m) (sym anew-long)
          (apart-len n (let a = ys-long in let b = fits.0 in omega (arith, low, a, b)))

      pub old-entries : take k (drop h.from old) ≡ entries_of (nth_list ls at)
      old-entries = (λ i. take (is-k i) (drop h.from (is-old i))) ∙ sym its-entries

  -- its head, and the places of its room
  abbrev pub its-head : Head
  its-head = get_or hs at record { from = 0; len = 0 }

  pub its-head-is : its-head ≡ get_or hs at its-head
  its-head-is = get_or_default hs at record { from = 0; len = 0 } its-head head-inside

  from-at : its-head.from ≡ (nth_list ls at).from
  from-at = from-is its-head its-head-is its-room its-room-is

  pub place-within : (from place : ℕ) → from ≡ (nth_list ls at).from → place < length (nth_list ls at).room → from + place < length es
  place-within from place begins low = let a = place-inside its-head its-head-is its-room its-room-is place low in let b = from-at in omega (arith, a, b, begins)

  pub read-place : (from place : ℕ) (x : Watch) → from ≡ (nth_list ls at).from → place < length (nth_list ls at).room → get_or es (from + place) x ≡ get_or (nth_list ls at).room place x
  read-place from place x begins low =
      let same : its-head.from ≡ from = from-at ∙ sym begins in
      ap (λ n. get_or es (n + place) x) (sym same) ∙ sym (read-room its-head its-head-is its-room its-room-is place x low)

  pub written-place : (from place : ℕ) (w : Watch) → from ≡ (nth_list ls at).from → place < length (nth_list ls at).room
      → in_rooms (set es (from + place) w) hs rs ≡ set ls at (record (nth_list ls at) { room = set (nth_list ls at).room place w })
  written-place from place w begins low =
      let same : its-head.from ≡ from = from-at ∙ sym begins in
      ap (λ n. in_rooms (set es (n + place) w) hs rs) (sym same) ∙ written-room its-head its-head-is its-room its-room-is place w low

  -- the heads stay apart among as many entries
  pub apart-as-many : (fs : List Watch) → length fs ≡ length es → AreApart hs rs (length fs)
  apart-as-many fs long = subst (λ n. AreApart hs rs n) (sym long) ok

  pub entries-at : get_or (map entries_of ls) at [] ≡ entries_of (nth_list ls at)
  entries-at = get_or-map entries_of ls at (record { from = 0; len = 0; room = [] })

-- one more room behind all others, of an empty list
pub apart-more : (hs : List Head) (rs : List ℕ) (n r m : ℕ) → AreApart hs rs n → m ≡ n + r → AreApart (hs ++ record { from = n; len = 0 } ∷ []) (rs ++ r ∷ []) m
apart-more hs rs n r m ok is = record {
  as_many = length_push hs (record { from = n; len = 0 }) ∙ ap (λ k. k + 1) ok.as_many ∙ sym (length_push rs r);
  within = λ i k s a b. within-at i k s (At-push hs (record { from = n; len = 0 }) i k a) (At-push rs r i s b);
  apart = λ i j k l s t a b d e ne. apart-at i j k l s t ne (At-push hs (record { from = n; len = 0 }) i k a) (At-push rs r i s b) (At-push hs (record { from = n; len = 0 }) j l d) (At-push rs r j t e);
}
  where
    same : length hs ≡ length rs
    same = ok.as_many

    within-at : (i : ℕ) (k : Head) (s : ℕ) → At hs i k ⊎ ((i ≡ length hs) × (k ≡ record { from = n; len = 0 })) → At rs i s ⊎ ((i ≡ length rs) × (s ≡ r)) → (k.len ≤ s) × (k.from + s ≤ m)
    within-at i k s (inl a) (inl b) = let w = ok.within i k s a b in (w.0, (let x = w.1 in omega (arith, x, is)))
    within-at i k s (inl a) (inr (e, f)) = absurd (let x = a.0 in omega (arith, x, e, same))
    within-at i k s (inr (e, f)) (inl b) = absurd (let x = b.0 in omega (arith, x, e, same))
    within-at i k s (inr (e, f)) (inr (_, g)) = rw f ((let z : 0 ≤ s = omega arith in z), omega (arith, is, g))

    apart-at : (i j : ℕ) (k l : Head) (s t : ℕ) → i ≢ j → At hs i k ⊎ ((i ≡ length hs) × (k ≡ record { from = n; len = 0 })) → At rs i s ⊎ ((i ≡ length rs) × (s ≡ r))
        → At hs j l ⊎ ((j ≡ length hs) × (l ≡ record { from = n; len = 0 })) → At rs j t ⊎ ((j ≡ length rs) × (t ≡ r)) → (k.from + s ≤ l.from) ⊎ (l.from + t ≤ k.from)
    apart-at i j k l s t ne (inl a) (inl b) (inl d) (inl e) = ok.apart i j k l s t a b d e ne
    apart-at i j k l s t ne (inl a) (inr (e, _)) d g = absurd (let x = a.0 in omega (arith, x, e, same))
    apart-at i j k l s t ne (inr (e, _)) (inl b) d g = absurd (let x = b.0 in omega (arith, x, e, same))
    apart-at i j k l s t ne (inl a) (inl b) (inl d) (inr (e, _)) = absurd (let x = d.0 in omega (arith, x, e, same))
    apart-at i j k l s t ne (inl a) (inl b) (inr (e, f)) g = inl (rw f (ok.within i k s a b).1)
    apart-at i j k l s t ne (inr (e, f)) (inr (_, _)) (inl d) (inl g) = inr (rw f (ok.within j l t d g).1)
    apart-at i j k l s t ne (inr (e, f)) (inr (_, _)) (inl d) (inr (g, _)) = absurd (let x = d.0 in omega (arith, x, g, same))
    apart-at i j k l s t ne (inr (e, f)) (inr (_, _)) (inr (d, _)) g = absurd (ne (e ∙ sym d))

-- more entries behind all change no list
pub more-rooms : (es ys : List Watch) (hs : List Head) (rs : List ℕ) → AreApart hs rs (length es) → in_rooms (es ++ ys) hs rs ≡ in_rooms es hs rs
more-rooms es ys hs rs ok = same-rooms es (es ++ ys) hs rs (λ j k s a b. part-front es ys k.from s (ok.within j k s a b).1)

pub apart-wider : (hs : List Head) (rs : List ℕ) (n m : ℕ) → AreApart hs rs n → n ≤ m → AreApart hs rs m
apart-wider hs rs n m ok low = record { as_many = ok.as_many; within = λ i h r a b. (let w = ok.within i h r a b in (w.0, (let x = w.1 in omega (arith, x, low)))); apart = ok.apart }

-- an entry behind those of a list
pub pushed-list : (ls : List EntryList) (at : ℕ) (w : Watch) → (nth_list ls at).len < length (nth_list ls at).room
    → map entries_of (set ls at (record { from = (nth_list ls at).from; len = (nth_list ls at).len + 1; room = set (nth_list ls at).room (nth_list ls at).len w }))
    ≡ set (map entries_of ls) at (get_or (map entries_of ls) at [] ++ w ∷ [])
pushed-list ls at w low =
    let l = nth_list ls at in
    map-set entries_of ls at (record { from = l.from; len = l.len + 1; room = set l.room l.len w })
    ∙ ap (set (map entries_of ls) at) (take_more_set l.room l.len w low ∙ ap (λ xs. xs ++ w ∷ []) (sym (get_or-map entries_of ls at (record { from = 0; len = 0; room = [] }))))

-- a list in another room has the same entries
pub moved-entries : (ls : List EntryList) (at from : ℕ) (ys : List Watch) → (nth_list ls at).len ≤ length (nth_list ls at).room
    → map entries_of (set ls at (record { from = from; len = (nth_list ls at).len; room = entries_of (nth_list ls at) ++ ys })) ≡ map entries_of ls
moved-entries ls at from ys low =
    let l = nth_list ls at in
    let long : length (entries_of l) ≡ l.len = length-take-le l.len l.room low in
    let front : take l.len (entries_of l ++ ys) ≡ entries_of l = take-append-le l.len (entries_of l) ys (omega (arith, long)) ∙ take_all l.len (entries_of l) (omega (arith, long)) in
    map-set entries_of ls at (record { from = from; len = l.len; room = entries_of l ++ ys })
    ∙ ap (set (map entries_of ls) at) (front ∙ sym (get_or-map entries_of ls at (record { from = 0; len = 0; room = [] })))
    ∙ set-get_or (map entries_of ls) at []

pub grown-room : (ls : List EntryList) (at from : ℕ) (ys : List Watch) (new : List EntryList) → at < length ls → (nth_list ls at).len ≤ length (nth_list ls at).room
    → new ≡ set ls at (record { from = from; len = (nth_list ls at).len; room = entries_of (nth_list ls at) ++ ys }) → 0 < length ys → (nth_list new at).len < length (nth_list new at).room
grown-room ls at from ys new inside low is some =
    let l = nth_list ls at in
    let moved : nth_list new at ≡ record { from = from; len = l.len; room = entries_of l ++ ys } =
    ap (λ ks. nth_list ks at) is ∙ get_or-set_same ls at (record { from = from; len = l.len; room = entries_of l ++ ys }) (record { from = 0; len = 0; room = [] }) inside in
    let a = length-append (entries_of l) ys in
    let b = length-take-le l.len l.room low in
    rw moved (omega (arith, a, b, some))

-- what is copied behind all and filled up
pub filled : {X : Type 0} (es ys rest gs fs : List X) (n : ℕ) → gs ≡ es ++ ys → length (es ++ ys) ≤ n → fs ≡ take n gs ++ rest → fs ≡ es ++ (ys ++ rest)
filled es ys rest gs fs n is low make = make ∙ ap (λ xs. take n xs ++ rest) is ∙ ap (λ xs. xs ++ rest) (take_all n (es ++ ys) low) ∙ append_assoc es ys rest

-- lists without entries
pub empty-rooms : (es : List Watch) (hs : List Head) (rs : List ℕ) → All (λ (h : Head). h.len ≡ 0) hs → All (λ l. entries_of l ≡ []) (in_rooms es hs rs)
empty-rooms es [] rs e k d low = absurd (omega (arith, low))
empty-rooms es (h ∷ hs) [] e k d low = absurd (omega (arith, low))
empty-rooms es (h ∷ hs) (r ∷ rs) e zero d low = ap (λ n. take n (take r (drop h.from es))) (e 0 h (let z : 0 < length (h ∷ hs) = omega arith in z))
empty-rooms es (h ∷ hs) (r ∷ rs) e (suc k) d low = empty-rooms es hs rs (λ j x l. e (suc j) x (let z : suc j < length (h ∷ hs) = omega (arith, l) in z)) k d (omega (arith, low))
