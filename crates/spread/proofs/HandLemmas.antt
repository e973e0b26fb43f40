-- What holds of hands, one more each time; the names of cubes.
use Rattle.std.proofs.Common.{◌≡◌, ℕ, ◌≤◌, ◌↔◌, List, [], ◌∷◌, ◌++◌, All, length, take, min, arith, sym, ap, ◌∙◌, ◌⊎◌, inl, inr}
use Rattle.std.proofs.lemmas.List.{take_all}
use Rattle.std.proofs.lemmas.List.Elements.{All-nil, All-cons, All-push, All-same, All-head, All-tail}

-- what holds of all holds of those in front and of the last one
all-but-last : {A : Type 0} (P : A → Type 0) (xs : List A) (x : A) → All P (xs ++ x ∷ []) → All P xs × P x
all-but-last P [] x h = (All-nil P, All-head P x [] h)
all-but-last P (y ∷ ys) x h = let rest = all-but-last P ys x (All-tail P y (ys ++ x ∷ []) h) in (All-cons P y ys (All-head P y (ys ++ x ∷ []) h) rest.0, rest.1)

-- one more
pub iff-more : {A : Type 0} (P : A → Type 0) (before now : Type 0) (xs longer : List A) (x : A) → now ↔ (before × P x) → before ↔ All P xs → longer ≡ xs ++ x ∷ [] → now ↔ All P longer
iff-more P before now xs longer x step h e = (
  λ n. let both = step.0 n in All-same P longer (xs ++ x ∷ []) e (All-push P xs x (h.0 both.0) both.1),
  λ all. let both = all-but-last P xs x (All-same P (xs ++ x ∷ []) longer (sym e) all) in step.1 (h.1 both.0, both.1),
)

pub iff-same : {A : Type 0} (P : A → Type 0) (now : Type 0) (xs ys : List A) → xs ≡ ys → now ↔ All P xs → now ↔ All P ys
iff-same P now xs ys e h = (λ n. All-same P ys xs (sym e) (h.0 n), λ all. h.1 (All-same P xs ys e all))

-- no more than there are
pub taken-at-most : {A : Type 0} (xs : List A) (n i : ℕ) → i ≡ min (length xs) n → take i xs ≡ take n xs
taken-at-most xs n i e = by (grind arith)
  where
    by : ((length xs ≤ n) × (length xs ≤ i)) ⊎ (i ≡ n) → take i xs ≡ take n xs
    by (inl h) = take_all i xs h.1 ∙ sym (take_all n xs h.0)
    by (inr h) = ap (λ (k : ℕ). take k xs) h
