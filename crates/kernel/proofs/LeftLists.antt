-- What numbers that are taken out leave of a queue, a heap and the lists of literals.
use Rattle.std.proofs.Common.{◌≡◌, ℕ, zero, suc, ◌+◌, ◌-◌, ◌<◌, ◌≤◌, Bool, true, false, not, List, [], ◌∷◌, ◌++◌, length, map, filter, take, drop, get_or, set, refl, ap, sym, subst, ◌∙◌, arith, cond}
use Rattle.std.specs.List.Sorted.{IsPermutation}
use Rattle.std.specs.declared.cmp.Reverse.{Reverse}
use Rattle.std.proofs.lemmas.List.{get_or-drop, get_or_default, length-drop, take-append-le}
use Rattle.std.proofs.lemmas.List.Elements.{filter-append}
use Rattle.std.proofs.lemmas.List.Sorted.{IsPermutation-append_right, IsPermutation-map}
use Rattle.kernel.specs.Waiting.{NeverFallsFrom}
use Rattle.kernel.specs.Forgetting.{places_left}
use Rattle.kernel.proofs.Filtering.{At-filter, filter-map}

-- the numbers from the head on, once they stand in front
pub turned-front : (head : ℕ) (ns : List ℕ) → head ≤ length ns → take (length ns - head) (drop head ns ++ take head ns) ≡ drop head ns
turned-front head ns within =
    let long : length (drop head ns) ≡ length ns - head = length-drop head ns in
    take-append-le (length ns - head) (drop head ns) (take head ns) (omega (arith, long)) ∙ whole (length ns - head) (drop head ns) long
  where
    whole : (n : ℕ) (xs : List ℕ) → length xs ≡ n → take n xs ≡ xs
    whole zero [] h = refl
    whole zero (x ∷ xs) h = absurd (omega (arith, h))
    whole (suc n) [] h = refl
    whole (suc n) (x ∷ xs) h = ap (λ (ys : List ℕ). x ∷ ys) (whole n xs (omega (arith, h)))

falls-drop : (head : ℕ) (ns : List ℕ) → NeverFallsFrom head ns → NeverFallsFrom 0 (drop head ns)
falls-drop head ns rising i j low le inside =
    let long : length (drop head ns) ≡ length ns - head = length-drop head ns in
    rw (get_or-drop head ns i 0, get_or-drop head ns j 0) (rising (head + i) (head + j) (omega arith) (omega (arith, le)) (omega (arith, inside, long)))

falls-filter : (p : ℕ → Bool) (ns : List ℕ) → NeverFallsFrom 0 ns → NeverFallsFrom 0 (filter p ns)
falls-filter p [] rising = λ i j low le inside. absurd (omega (arith, inside))
falls-filter p (n ∷ ns) rising =
    go (p n) (falls-filter p ns (λ i j low le inside. rising (suc i) (suc j) (omega arith) (omega (arith, le)) (let z : suc j < length (n ∷ ns) = omega (arith, inside) in z)))
  where
    least : (j : ℕ) → j < length (filter p ns) → n ≤ get_or (filter p ns) j 0
    least j inside =
        let r = At-filter p ns j (get_or (filter p ns) j 0) (inside, get_or_default (filter p ns) j (get_or (filter p ns) j 0) 0 inside) in
        let k = r.1.0 in
        let value : get_or ns k 0 ≡ get_or (filter p ns) j 0 = get_or_default ns k 0 (get_or (filter p ns) j 0) r.1.1.0 ∙ r.1.1.1 in
        subst (λ m. n ≤ m) value (rising 0 (suc k) (omega arith) (omega arith) (let z : suc k < length (n ∷ ns) = omega (arith, r.1.1.0) in z))

    go : (b : Bool) → NeverFallsFrom 0 (filter p ns) → NeverFallsFrom 0 (cond b (n ∷ filter p ns) (filter p ns))
    go false rest i j low le inside = rest i j low le inside
    go true rest zero zero low le inside = omega arith
    go true rest zero (suc j) low le inside = least j (omega (arith, inside))
    go true rest (suc i) zero low le inside = absurd (omega (arith, le))
    go true rest (suc i) (suc j) low le inside = rest i j (omega arith) (omega (arith, le)) (omega (arith, inside))

pub falls-left : (p : ℕ → Bool) (head : ℕ) (ns : List ℕ) → NeverFallsFrom head ns → NeverFallsFrom 0 (filter p (drop head ns))
falls-left p head ns rising = falls-filter p (drop head ns) (falls-drop head ns rising)

-- those that wait in the queue and in the heap
pub units-left : (gone : ℕ → Bool) (queue : List ℕ) (heap kept new : List (Reverse ℕ)) → kept ≡ filter (λ r. not (gone r.0)) heap → IsPermutation kept new
    → IsPermutation (places_left gone (queue ++ map (λ r. r.0) heap)) (places_left gone queue ++ map (λ r. r.0) new)
units-left gone queue heap kept new is moved =
    let all : places_left gone (queue ++ map (λ r. r.0) heap) ≡ places_left gone queue ++ map (λ r. r.0) kept =
    filter-append (λ n. not (gone n)) queue (map (λ r. r.0) heap) ∙ ap (λ (ns : List ℕ). places_left gone queue ++ ns) (filter-map (λ r. r.0) (λ n. not (gone n)) heap ∙ ap (λ rs. map (λ r. r.0) rs) (sym is)) in
    subst (λ (ns : List ℕ). IsPermutation ns (places_left gone queue ++ map (λ r. r.0) new)) (sym all)
    (IsPermutation-append_right (places_left gone queue) (map (λ r. r.0) kept) (map (λ r. r.0) new) (IsPermutation-map (λ r. r.0) kept new moved))

-- one element more was changed
changed : {X : Type 0} (f : X → X) (old : List X) (i : ℕ) (d : X) → i < length old → set (map f (take i old) ++ drop i old) i (f (get_or (map f (take i old) ++ drop i old) i d)) ≡ map f (take (suc i) old) ++ drop (suc i) old
changed f [] i d inside = absurd (omega (arith, inside))
changed f (x ∷ old) zero d inside = refl
changed {X} f (x ∷ old) (suc i) d inside = ap (λ (ys : List X). f x ∷ ys) (changed f old i d (omega (arith, inside)))

pub changed-more : {X : Type 0} (f : X → X) (old now : List X) (i : ℕ) (d : X) → i < length old → now ≡ map f (take i old) ++ drop i old → set now i (f (get_or now i d)) ≡ map f (take (i + 1) old) ++ drop (i + 1) old
changed-more {X} f old now i d inside e =
    let next : suc i ≡ i + 1 = omega arith in
    ap (λ (xs : List X). set xs i (f (get_or xs i d))) e ∙ (changed f old i d inside ∙ ap (λ n. map f (take n old) ++ drop n old) next)
