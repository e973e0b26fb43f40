-- Lists that lie one behind the other: one more at the end, the one at a place, and others behind
-- the first ones.
use Rattle.std.proofs.Common.{◌≡◌, ℕ, zero, suc, ◌+◌, ◌-◌, ◌<◌, ◌≤◌, List, [], ◌∷◌, ◌++◌, length, take, drop, get_or, Some, slice_get, refl, ap, sym, subst, ◌∙◌, arith, length-append, append_assoc, set, sum_by, zero-add}
use Rattle.std.proofs.lemmas.List.Sums.{sum_by-append}
use Rattle.std.specs.List.{slice_range}
use Rattle.std.proofs.lemmas.List.{append-nil, take-append-le, take-append-drop, drop-append-le, length-drop, length-take-le, get_or_default, drop-drop}
use Rattle.std.proofs.Math.Seq.{drop-append_seam}
use Rattle.std.proofs.lemmas.Option.{get_or_from_slice_get}
use Rattle.cnf.specs.Pieces.{pieces, AreEnds, start_at}

pub start_at-behind : (from : ℕ) (ends : List ℕ) (i : ℕ) → 0 < i → start_at from ends i ≡ get_or ends (i - 1) 0
start_at-behind from ends zero some = absurd (omega arith)
start_at-behind from ends (suc i) some = let down : suc i - 1 ≡ i = omega arith in ap (λ n. get_or ends n 0) (sym down)

pub length-pieces : {X : Type 0} (from : ℕ) (xs : List X) (ends : List ℕ) → length (pieces from xs ends) ≡ length ends
length-pieces from xs [] = refl
length-pieces from xs (end ∷ ends) = ap suc (length-pieces end xs ends)

ends-last : (from : ℕ) (ends : List ℕ) (n : ℕ) → AreEnds from ends n → from ≤ n
ends-last from [] n h = omega arith
ends-last from (end ∷ ends) n h = let low = h.0 in let more : end ≤ n = ends-last end ends n h.1 in omega arith

pub AreEnds-push : (from : ℕ) (ends : List ℕ) (n m : ℕ) → AreEnds from ends n → n ≤ m → AreEnds from (ends ++ m ∷ []) m
AreEnds-push from [] n m h more = (omega arith, refl)
AreEnds-push from (end ∷ ends) n m h more = (h.0, AreEnds-push end ends n m h.1 more)

pub take-whole : {X : Type 0} (n : ℕ) (xs : List X) → length xs ≡ n → take n xs ≡ xs
take-whole zero [] h = refl
take-whole zero (x ∷ xs) h = absurd (omega arith)
take-whole (suc n) [] h = refl
take-whole (suc n) (x ∷ xs) h = ap (λ ys. x ∷ ys) (take-whole n xs (omega arith))

-- what lies before the end of xs is there in a longer list
range-front : {X : Type 0} (xs ys : List X) (a b : ℕ) → a ≤ b → b ≤ length xs → slice_range (xs ++ ys) a b ≡ slice_range xs a b
range-front xs ys a b low high =
    let here : drop a (xs ++ ys) ≡ drop a xs ++ ys = drop-append-le a xs ys (omega arith) in
    let long : length (drop a xs) ≡ length xs - a = length-drop a xs in
    ap (take (b - a)) here ∙ take-append-le (b - a) (drop a xs) ys (omega arith)

range-back : {X : Type 0} (xs ys : List X) (m : ℕ) → m ≡ length xs + length ys → slice_range (xs ++ ys) (length xs) m ≡ ys
range-back xs ys m e = ap (take (m - length xs)) (drop-append_seam xs ys) ∙ take-whole (m - length xs) ys (omega arith)

pub pieces-push : {X : Type 0} (from : ℕ) (xs ys : List X) (ends : List ℕ) (m : ℕ) → AreEnds from ends (length xs) → m ≡ length xs + length ys
    → pieces from (xs ++ ys) (ends ++ m ∷ []) ≡ pieces from xs ends ++ ys ∷ []
pieces-push from xs ys [] m h e = ap (λ zs. zs ∷ []) (ap (λ n. slice_range (xs ++ ys) n m) h ∙ range-back xs ys m e)
pieces-push {X} from xs ys (end ∷ ends) m h e =
    let here : slice_range (xs ++ ys) from end ≡ slice_range xs from end = range-front xs ys from end h.0 (ends-last end ends (length xs) h.1) in
    ap (λ zs. zs ∷ pieces end (xs ++ ys) (ends ++ m ∷ [])) here ∙ ap (λ (k : List (List X)). slice_range xs from end ∷ k) (pieces-push end xs ys ends m h.1 e)

pub pieces-at : {X : Type 0} (from : ℕ) (xs : List X) (ends : List ℕ) (i : ℕ) → i < length ends
    → slice_get (pieces from xs ends) i ≡ Some (slice_range xs (start_at from ends i) (get_or ends i 0))
pieces-at from xs [] i less = absurd (omega arith)
pieces-at from xs (end ∷ ends) zero less = refl
pieces-at from xs (end ∷ ends) (suc zero) less = pieces-at end xs ends zero (omega arith)
pieces-at from xs (end ∷ ends) (suc (suc i)) less = pieces-at end xs ends (suc i) (omega arith)

pub start-le : (from : ℕ) (ends : List ℕ) (n i : ℕ) → AreEnds from ends n → i < length ends → start_at from ends i ≤ get_or ends i 0
start-le from [] n i h less = absurd (omega arith)
start-le from (end ∷ ends) n zero h less = h.0
start-le from (end ∷ ends) n (suc zero) h less = start-le end ends n zero h.1 (omega arith)
start-le from (end ∷ ends) n (suc (suc i)) h less = start-le end ends n (suc i) h.1 (omega arith)

pub end-le : (from : ℕ) (ends : List ℕ) (n i : ℕ) → AreEnds from ends n → i < length ends → get_or ends i 0 ≤ n
end-le from [] n i h less = absurd (omega arith)
end-le from (end ∷ ends) n zero h less = ends-last end ends n h.1
end-le from (end ∷ ends) n (suc i) h less = end-le end ends n i h.1 (omega arith)

sum_by-cons : {X : Type 0} (f : X → ℕ) (x : X) (xs : List X) → sum_by f (x ∷ xs) ≡ f x + sum_by f xs
sum_by-cons f x xs = sum_by-append f (x ∷ []) xs ∙ ap (λ n. n + sum_by f xs) (zero-add (f x))

-- all lists together are as long as what they lie in
pieces-long : {X : Type 0} (from : ℕ) (xs : List X) (ends : List ℕ) (n : ℕ) → AreEnds from ends n → n ≤ length xs → from + sum_by length (pieces from xs ends) ≡ n
pieces-long from xs [] n h within = omega (arith, h)
pieces-long from xs (end ∷ ends) n h within =
    let low = h.0 in
    let last = ends-last end ends n h.1 in
    let rest = pieces-long end xs ends n h.1 within in
    let cut : length (drop from xs) ≡ length xs - from = length-drop from xs in
    let long : length (slice_range xs from end) ≡ end - from = length-take-le (end - from) (drop from xs) (omega arith) in
    let sum = sum_by-cons length (slice_range xs from end) (pieces end xs ends) in
    omega arith

pub sum-pieces : {X : Type 0} (xs : List X) (ends : List ℕ) → AreEnds 0 ends (length xs) → sum_by length (pieces 0 xs ends) ≡ length xs
sum-pieces xs ends h = let all = pieces-long 0 xs ends (length xs) h (omega arith) in omega arith

pub AreEnds-take : (from : ℕ) (ends : List ℕ) (n i : ℕ) → AreEnds from ends n → i ≤ length ends → AreEnds from (take i ends) (start_at from ends i)
AreEnds-take from ends n zero h less = refl
AreEnds-take from [] n (suc i) h less = absurd (omega arith)
AreEnds-take from (end ∷ ends) n (suc zero) h less = (h.0, refl)
AreEnds-take from (end ∷ ends) n (suc (suc i)) h less = (h.0, AreEnds-take end ends n (suc i) h.1 (omega arith))

pub start-within : (from : ℕ) (ends : List ℕ) (n i : ℕ) → AreEnds from ends n → i ≤ length ends → start_at from ends i ≤ n
start-within from ends n zero h less = ends-last from ends n h
start-within from ends n (suc i) h less = end-le from ends n i h (omega arith)

-- what lies behind the last end is in none of the lists
pieces-front : {X : Type 0} (from : ℕ) (xs ys : List X) (ends : List ℕ) (n : ℕ) → AreEnds from ends n → n ≤ length xs → pieces from (xs ++ ys) ends ≡ pieces from xs ends
pieces-front from xs ys [] n h less = refl
pieces-front {X} from xs ys (end ∷ ends) n h less =
    let last = ends-last end ends n h.1 in
    let here : slice_range (xs ++ ys) from end ≡ slice_range xs from end = range-front xs ys from end h.0 (omega arith) in
    ap (λ zs. zs ∷ pieces end (xs ++ ys) ends) here ∙ ap (λ (k : List (List X)). slice_range xs from end ∷ k) (pieces-front end xs ys ends n h.1 less)

pieces-fewer : {X : Type 0} (from : ℕ) (xs : List X) (ends : List ℕ) (i : ℕ) → pieces from xs (take i ends) ≡ take i (pieces from xs ends)
pieces-fewer from xs ends zero = refl
pieces-fewer from xs [] (suc i) = refl
pieces-fewer {X} from xs (end ∷ ends) (suc i) = ap (λ (k : List (List X)). slice_range xs from end ∷ k) (pieces-fewer end xs ends i)

-- the first lists alone
pub pieces-take : {X : Type 0} (from : ℕ) (xs : List X) (ends : List ℕ) (i : ℕ) → AreEnds from ends (length xs) → i ≤ length ends
    → pieces from (take (start_at from ends i) xs) (take i ends) ≡ take i (pieces from xs ends)
pieces-take {X} from xs ends i h less =
    let n = start_at from ends i in
    let within : n ≤ length xs = start-within from ends (length xs) i h less in
    let long : length (take n xs) ≡ n = length-take-le n xs within in
    sym (pieces-front from (take n xs) (drop n xs) (take i ends) n (AreEnds-take from ends (length xs) i h less) (omega arith))
    ∙ ap (λ (ys : List X). pieces from ys (take i ends)) (take-append-drop n xs)
    ∙ pieces-fewer from xs ends i

-- lists that lie behind all others
drop-behind : {X : Type 0} (xs ys : List X) (a : ℕ) → drop (length xs + a) (xs ++ ys) ≡ drop a ys
drop-behind [] ys a = let e : 0 + a ≡ a = omega arith in ap (λ n. drop n ys) e
drop-behind {X} (x ∷ xs) ys a = let e : suc (length xs) + a ≡ suc (length xs + a) = omega arith in ap (λ n. drop n (x ∷ (xs ++ ys))) e ∙ drop-behind xs ys a

-- where others begin is no earlier than where the first one does
start-from : (from : ℕ) (ends : List ℕ) (n i : ℕ) → AreEnds from ends n → i ≤ length ends → from ≤ start_at from ends i
start-from from ends n zero h less = omega arith
start-from from [] n (suc i) h less = absurd (omega (arith, less))
start-from from (end ∷ ends) n (suc zero) h less = h.0
start-from from (end ∷ ends) n (suc (suc i)) h less = let a = h.0 in let b : end ≤ start_at end ends (suc i) = start-from end ends n (suc i) h.1 (omega (arith, less)) in omega (arith, a, b)

-- one of the lists is written anew: xs and ys differ from s up to e alone, and d is there in ys
module _ {X : Type 0} (xs ys d : List X) (s e : ℕ) (before : (a b : ℕ) → a ≤ b → b ≤ s → slice_range ys a b ≡ slice_range xs a b) (behind : (a b : ℕ) → e ≤ a → slice_range ys a b ≡ slice_range xs a b) (here : slice_range ys s e ≡ d) where
  alike : (from : ℕ) (ends : List ℕ) (n : ℕ) → e ≤ from → AreEnds from ends n → pieces from ys ends ≡ pieces from xs ends
  alike from [] n low h = refl
  alike from (end ∷ ends) n low h = ap (λ zs. zs ∷ pieces end ys ends) (behind from end low) ∙ ap (λ (k : List (List X)). slice_range xs from end ∷ k) (alike end ends n (let a = h.0 in omega (arith, low, a)) h.1)

  written : (from : ℕ) (ends : List ℕ) (n i : ℕ) → AreEnds from ends n → i < length ends → s ≡ start_at from ends i → e ≡ get_or ends i 0 → pieces from ys ends ≡ set (pieces from xs ends) i d
  written from [] n i h less a b = absurd (omega (arith, less))
  written from (end ∷ ends) n zero h less a b =
      ap (λ zs. zs ∷ pieces end ys ends) (ap (λ m. slice_range ys m end) (sym a) ∙ (ap (λ m. slice_range ys s m) (sym b) ∙ here)) ∙ ap (λ (k : List (List X)). d ∷ k) (alike end ends n (omega (arith, b)) h.1)
  written from (end ∷ ends) n (suc i) h less a b =
      let next : s ≡ start_at end ends i = a ∙ start-next i in
      let low : end ≤ s = let z : end ≤ start_at end ends i = start-from end ends n i h.1 (omega (arith, less)) in omega (arith, z, next) in
      ap (λ zs. zs ∷ pieces end ys ends) (before from end h.0 low) ∙ ap (λ (k : List (List X)). slice_range xs from end ∷ k) (written end ends n i h.1 (omega (arith, less)) next b)
    where
      start-next : (j : ℕ) → start_at from (end ∷ ends) (suc j) ≡ start_at end ends j
      start-next zero = refl
      start-next (suc j) = refl

-- one of the lists, written anew
module _ {X : Type 0} (xs d : List X) (ends : List ℕ) (i : ℕ) (h : AreEnds 0 ends (length xs)) (less : i < length ends) (long : length d ≡ get_or ends i 0 - start_at 0 ends i) where
  abbrev from_here : ℕ
  from_here = start_at 0 ends i

  abbrev to_here : ℕ
  to_here = get_or ends i 0

  low : from_here ≤ to_here
  low = start-le 0 ends (length xs) i h less

  high : to_here ≤ length xs
  high = end-le 0 ends (length xs) i h less

  abbrev first_part : List X
  first_part = take from_here xs

  first-long : length first_part ≡ from_here
  first-long = length-take-le from_here xs (omega (arith, low, high))

  part-long : length (first_part ++ d) ≡ to_here
  part-long = let a = length-append first_part d in omega (arith, a, first-long, long, low)

  joined : first_part ++ (d ++ drop to_here xs) ≡ (first_part ++ d) ++ drop to_here xs
  joined = sym (append_assoc first_part d (drop to_here xs))

  pub length-rewritten : length (first_part ++ (d ++ drop to_here xs)) ≡ length xs
  length-rewritten = ap length joined ∙ (let a = length-append (first_part ++ d) (drop to_here xs) in let b = length-drop to_here xs in omega (arith, a, b, part-long, high))

  before-part : (a b : ℕ) → a ≤ b → b ≤ from_here → slice_range (first_part ++ (d ++ drop to_here xs)) a b ≡ slice_range xs a b
  before-part a b p q =
      range-front first_part (d ++ drop to_here xs) a b p (omega (arith, q, first-long))
      ∙ (sym (range-front first_part (drop from_here xs) a b p (omega (arith, q, first-long))) ∙ ap (λ (zs : List X). slice_range zs a b) (take-append-drop from_here xs))

  behind-part : (a b : ℕ) → to_here ≤ a → slice_range (first_part ++ (d ++ drop to_here xs)) a b ≡ slice_range xs a b
  behind-part a b p = ap (take (b - a)) (one ∙ sym two)
    where
      at_part : length (first_part ++ d) + (a - to_here) ≡ a
      at_part = omega (arith, p, part-long)

      one : drop a (first_part ++ (d ++ drop to_here xs)) ≡ drop (a - to_here) (drop to_here xs)
      one = ap (drop a) joined ∙ (ap (λ n. drop n ((first_part ++ d) ++ drop to_here xs)) (sym at_part) ∙ drop-behind (first_part ++ d) (drop to_here xs) (a - to_here))

      front_part : length (take to_here xs) + (a - to_here) ≡ a
      front_part = let z : length (take to_here xs) ≡ to_here = length-take-le to_here xs high in omega (arith, p, z)

      two : drop a xs ≡ drop (a - to_here) (drop to_here xs)
      two = ap (drop a) (sym (take-append-drop to_here xs)) ∙ (ap (λ n. drop n (take to_here xs ++ drop to_here xs)) (sym front_part) ∙ drop-behind (take to_here xs) (drop to_here xs) (a - to_here))

  here-part : slice_range (first_part ++ (d ++ drop to_here xs)) from_here to_here ≡ d
  here-part =
      ap (λ (zs : List X). slice_range zs from_here to_here) joined
      ∙ (range-front (first_part ++ d) (drop to_here xs) from_here to_here low (omega (arith, part-long))
      ∙ (ap (λ n. slice_range (first_part ++ d) n to_here) (sym first-long) ∙ range-back first_part d to_here (omega (arith, first-long, long, low))))

  pub pieces-rewritten : pieces 0 (first_part ++ (d ++ drop to_here xs)) ends ≡ set (pieces 0 xs ends) i d
  pieces-rewritten = written xs (first_part ++ (d ++ drop to_here xs)) d from_here to_here before-part behind-part here-part 0 ends (length xs) i h less refl refl

-- the same as a program has it: what is read at the place, and what stands there then
module _ {X : Type 0} (xs read : List X) (ends : List ℕ) (clauses : List (List X)) (i s e : ℕ) (are : pieces 0 xs ends ≡ clauses) (h : AreEnds 0 ends (length xs)) (less : i < length clauses) (value : read ≡ xs) (start : s ≡ start_at 0 ends i) (end : e ≡ get_or ends i e) where
  pub part-ends : i < length ends
  part-ends = subst (λ n. i < n) (sym (ap length are) ∙ length-pieces 0 xs ends) less

  part-end : e ≡ get_or ends i 0
  part-end = end ∙ get_or_default ends i e 0 part-ends

  pub part-low : s ≤ e
  part-low = let a = start-le 0 ends (length xs) i h part-ends in omega (arith, a, start, part-end)

  pub part-high : e ≤ length xs
  part-high = let a = end-le 0 ends (length xs) i h part-ends in omega (arith, a, part-end)

  pub part-read : (c : List X) → get_or clauses i c ≡ c → take (e - s) (drop s read) ≡ c
  part-read c at =
      (λ j. take (part-end j - start j) (drop (start j) (value j)))
      ∙ (sym (get_or_from_slice_get (pieces 0 xs ends) i (slice_range xs (start_at 0 ends i) (get_or ends i 0)) c (pieces-at 0 xs ends i part-ends)) ∙ (ap (λ (ks : List (List X)). get_or ks i c) are ∙ at))

  part-written : (d : List X) → take s read ++ (d ++ drop (e - s) (drop s read)) ≡ take (start_at 0 ends i) xs ++ (d ++ drop (get_or ends i 0) xs)
  part-written d =
      let whole : s + (e - s) ≡ get_or ends i 0 = let a = part-low in omega (arith, a, part-end) in
      ap (λ (zs : List X). take s read ++ (d ++ zs)) (drop-drop (e - s) s read ∙ ap (λ n. drop n read) whole)
      ∙ (λ j. take (start j) (value j) ++ (d ++ drop (get_or ends i 0) (value j)))

  pub part-put : (d now : List X) → length d ≡ e - s → now ≡ take s read ++ (d ++ drop (e - s) (drop s read)) → pieces 0 now ends ≡ set clauses i d
  part-put d now long is =
      let size : length d ≡ get_or ends i 0 - start_at 0 ends i = omega (arith, long, start, part-end) in
      ap (λ (zs : List X). pieces 0 zs ends) (is ∙ part-written d) ∙ (pieces-rewritten xs d ends i h part-ends size ∙ ap (λ (ks : List (List X)). set ks i d) are)

  pub part-length : (d now : List X) → length d ≡ e - s → now ≡ take s read ++ (d ++ drop (e - s) (drop s read)) → length now ≡ length xs
  part-length d now long is =
      let size : length d ≡ get_or ends i 0 - start_at 0 ends i = omega (arith, long, start, part-end) in
      ap length (is ∙ part-written d) ∙ length-rewritten xs d ends i h part-ends size

  -- as many literals as are read
  pub part-size : length (take (e - s) (drop s read)) ≡ e - s
  part-size =
      let a = part-high in
      let b : length (drop s read) ≡ length xs - s = length-drop s read ∙ ap (λ (zs : List X). length zs - s) value in
      length-take-le (e - s) (drop s read) (omega (arith, a, b))

-- the last part of a list is written anew
pub tail-written : {X : Type 0} (lits old part new now : List X) (count : ℕ) → lits ≡ old ++ part → count ≡ length old → length new ≡ length part
    → now ≡ take count lits ++ (new ++ drop (length lits - count) (drop count lits)) → now ≡ old ++ new
tail-written {X} lits old part new now count are place same is =
    is ∙ (ap (λ (xs : List X). take count lits ++ (new ++ xs)) none ∙ (ap (λ (xs : List X). take count lits ++ xs) (append-nil new) ∙ ap (λ (xs : List X). xs ++ new) front))
  where
    front : take count lits ≡ old
    front = (λ i. take (place i) (are i)) ∙ (take-append-le (length old) old part (omega arith) ∙ take-whole (length old) old refl)

    none : drop (length lits - count) (drop count lits) ≡ []
    none = drop-drop (length lits - count) count lits ∙ drop-all (count + (length lits - count)) lits (omega arith)
      where
        drop-all : (n : ℕ) (xs : List X) → length xs ≤ n → drop n xs ≡ []
        drop-all zero [] h = refl
        drop-all zero (x ∷ xs) h = absurd (omega (arith, h))
        drop-all (suc n) [] h = refl
        drop-all (suc n) (x ∷ xs) h = drop-all n xs (omega (arith, h))

pub tail-read : {X : Type 0} (lits old part : List X) (count : ℕ) → lits ≡ old ++ part → count ≡ length old → take (length lits - count) (drop count lits) ≡ part
tail-read lits old part count are place =
    let long : length lits ≡ length old + length part = ap length are ∙ length-append old part in
    ap (take (length lits - count)) ((λ i. drop (place i) (are i)) ∙ drop-append_seam old part) ∙ take-whole (length lits - count) part (omega (arith, long, place))
