-- The text of a proof on its way: what is written of it, and what is left.
use Rattle.std.proofs.Common.{◌≡◌, ℕ, suc, zero, List, [], ◌∷◌, ◌++◌, length, take, drop, Option, refl, sym, ap, subst, ◌∙◌, append-nil, append_assoc}
use Rattle.std.proofs.lemmas.List.{take_at}
use Rattle.std.specs.Io.KnownBytes.{Appends}
use Rattle.runs.specs.Written.{IsOnItsWay}
use Rattle.runs.proofs.WrittenLemmas.{Appends-then, Appends-none}

pub begins : (a : Option (List ℕ)) (text : List ℕ) → IsOnItsWay a a text text
begins a text = record { written = []; appended = Appends-none a; whole = refl }

-- what comes next is written
pub written-on : (a b d : Option (List ℕ)) (here rest left text : List ℕ) → IsOnItsWay a b left text → left ≡ here ++ rest → Appends b d here → IsOnItsWay a d rest text
written-on a b d here rest left text h is w = record {
  written = h.written ++ here;
  appended = Appends-then a b d h.written here h.appended w;
  whole = append_assoc h.written here rest ∙ ap (λ t. h.written ++ t) (sym is) ∙ h.whole;
}

take-drop : (n : ℕ) (xs : List ℕ) → take n xs ++ drop n xs ≡ xs
take-drop zero xs = refl
take-drop (suc n) [] = refl
take-drop (suc n) (x ∷ xs) = ap (λ ys. x ∷ ys) (take-drop n xs)

-- a beginning of what comes next is written
pub stopped : (a b d : Option (List ℕ)) (here rest left text : List ℕ) (count : ℕ) → IsOnItsWay a b left text → left ≡ here ++ rest → Appends b d (take count here) → (n : ℕ) × Appends a d (take n text)
stopped a b d here rest left text count h is w =
    let front = h.written ++ take count here in
    let split : front ++ (drop count here ++ rest) ≡ text =
    sym (append_assoc front (drop count here) rest) ∙ ap (λ t. t ++ rest) (append_assoc h.written (take count here) (drop count here) ∙ ap (λ t. h.written ++ t) (take-drop count here)) ∙ append_assoc h.written here rest
    ∙ ap (λ t. h.written ++ t) (sym is) ∙ h.whole in
    (length front, subst (Appends a d) (sym (ap (take (length front)) (sym split) ∙ take_at front (drop count here ++ rest) (length front) refl)) (Appends-then a b d h.written (take count here) h.appended w))

-- no more is written
pub stopped-here : (a b : Option (List ℕ)) (left text : List ℕ) → IsOnItsWay a b left text → (n : ℕ) × Appends a b (take n text)
stopped-here a b left text h = stopped a b b [] left left text 0 h refl (Appends-none b)

-- nothing is left
pub ended : (a b : Option (List ℕ)) (left text : List ℕ) → IsOnItsWay a b left text → left ≡ [] → Appends a b text
ended a b left text h none = subst (Appends a b) (sym (append-nil h.written) ∙ ap (λ t. h.written ++ t) (sym none) ∙ h.whole) h.appended

-- all that is left is written, or a beginning of it
pub finished : (a b d : Option (List ℕ)) (left text : List ℕ) → IsOnItsWay a b left text → Appends b d left → Appends a d text
finished a b d left text h w = ended a d [] text (written-on a b d left [] left text h (sym (append-nil left)) w) refl

pub stopped-in : (a b d : Option (List ℕ)) (left text : List ℕ) (count : ℕ) → IsOnItsWay a b left text → Appends b d (take count left) → (n : ℕ) × Appends a d (take n text)
stopped-in a b d left text count h w = stopped a b d left [] left text count h (sym (append-nil left)) w

-- one step after another
pub on-then : (a b d : Option (List ℕ)) (left middle text : List ℕ) → IsOnItsWay a b middle text → IsOnItsWay b d left middle → IsOnItsWay a d left text
on-then a b d left middle text h g = written-on a b d g.written left middle text h (sym g.whole) g.appended
