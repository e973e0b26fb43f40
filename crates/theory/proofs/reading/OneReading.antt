-- A text is read in one way: as one formula, or with one refusal at one place.
use Rattle.std.proofs.Common.{◌≡◌, ℕ, ◌<◌, ◌≤◌, List, [], ◌∷◌, ◌++◌, length, ◌⊎◌, inl, inr, refl, sym, ap, ap₂, ◌∙◌, subst, append_assoc, append-nil, arith}
use Rattle.std.proofs.lemmas.List.{map-append}
use Rattle.theory.specs.Truth.{Formula}
use Rattle.theory.specs.Tokens.{Place}
use Rattle.theory.specs.Reading.{Limits, Token, Placed, IsReadable, CanGoOn, ReadFault, fault_at, tokens_in, tokens_of, end_of, max_bytes, IsFaultAt, IsFaultAtEnd, Reading, formula, refusal, ReadsWithin}
use Rattle.theory.proofs.trees.OneText.{Reads-one_formula}

-- of two marks in one list, both are one, or one stands behind the other
abbrev Marked : {A : Type 0} (xs ys : List A) (a b : A) → Type 0
Marked {A} xs ys a b = ((xs ≡ ys) × (a ≡ b)) ⊎ (((m : List A) × (ys ≡ xs ++ a ∷ m)) ⊎ ((m : List A) × (xs ≡ ys ++ b ∷ m)))

marked-behind : {A : Type 0} (x y : A) (xs ys : List A) (a b : A) → x ≡ y → Marked xs ys a b → Marked (x ∷ xs) (y ∷ ys) a b
marked-behind x y xs ys a b e (inl same) = inl (ap₂ (λ h t. h ∷ t) e same.0, same.1)
marked-behind x y xs ys a b e (inr (inl longer)) = inr (inl (longer.0, ap₂ (λ h t. h ∷ t) (sym e) longer.1))
marked-behind x y xs ys a b e (inr (inr shorter)) = inr (inr (shorter.0, ap₂ (λ h t. h ∷ t) e shorter.1))

marked : {A : Type 0} (xs us ys vs : List A) (a b : A) → xs ++ a ∷ us ≡ ys ++ b ∷ vs → Marked xs ys a b
marked [] us [] vs a b e = let one : a ≡ b = cc in inl (refl, one)
marked [] us (y ∷ ys) vs a b e = let one : y ≡ a = cc in inr (inl (ys, ap (λ h. h ∷ ys) one))
marked (x ∷ xs) us [] vs a b e = let one : x ≡ b = cc in inr (inr (xs, ap (λ h. h ∷ xs) one))
marked (x ∷ xs) us (y ∷ ys) vs a b e =
    let one : x ≡ y = cc in
    let rest : xs ++ a ∷ us ≡ ys ++ b ∷ vs = cc in
    marked-behind x y xs ys a b one (marked xs us ys vs a b rest)

-- what can be gone on from, its beginnings can
CanGoOn-front : (L : Limits) (ts us : List Token) → CanGoOn L (ts ++ us) → CanGoOn L ts
CanGoOn-front L ts us c = record { more = us ++ c.more; value = c.value; readable = subst (λ l. IsReadable L l c.value) (append_assoc ts us c.more) c.readable }

CanGoOn-mark : (L : Limits) (xs m ys : List Placed) (a : Placed) → ys ≡ xs ++ a ∷ m → CanGoOn L (tokens_in ys) → CanGoOn L (tokens_in xs ++ a.token ∷ [])
CanGoOn-mark L xs m ys a e c =
    CanGoOn-front L (tokens_in xs ++ a.token ∷ []) (tokens_in m)
    (subst (CanGoOn L) (ap tokens_in e ∙ map-append (λ t. t.token) xs (a ∷ m) ∙ sym (append_assoc (tokens_in xs) (a.token ∷ []) (tokens_in m))) c)

abbrev SameRefusal : (f g : ReadFault) (p q : Place) → Type 0
SameRefusal f g p q = (f ≡ g) × (p ≡ q)

faults-same : (L : Limits) (ts : List Placed) (f g : ReadFault) (p q : Place) (s : IsFaultAt L ts f p) (t : IsFaultAt L ts g q) → Marked s.before t.before s.at t.at → SameRefusal f g p q
faults-same L ts f g p q s t (inl one) =
    (s.fault_is ∙ ap₂ (λ b a. fault_at (tokens_in b) a.token) one.0 one.1 ∙ sym t.fault_is, s.place_is ∙ ap (λ a. a.place) one.1 ∙ sym t.place_is)
faults-same L ts f g p q s t (inr (inl m)) = absurd (s.no_further (CanGoOn-mark L s.before m.0 t.before s.at m.1 t.so_far))
faults-same L ts f g p q s t (inr (inr m)) = absurd (t.no_further (CanGoOn-mark L t.before m.0 s.before t.at m.1 s.so_far))

-- a list that can be gone on from has no fault at a token
fault-none : (L : Limits) (ts : List Placed) (f : ReadFault) (p : Place) → IsFaultAt L ts f p → ¬ (CanGoOn L (tokens_in ts))
fault-none L ts f p s c = s.no_further (CanGoOn-mark L s.before s.after ts s.at s.tokens c)

abbrev IsFault : (L : Limits) (bytes : List ℕ) (f : ReadFault) (p : Place) → Type 0
IsFault L bytes f p = IsFaultAt L (tokens_of bytes) f p ⊎ IsFaultAtEnd L (tokens_of bytes) (end_of bytes) f p

short-same : (L : Limits) (bytes : List ℕ) (f g : ReadFault) (p q : Place) → IsFault L bytes f p → IsFault L bytes g q → SameRefusal f g p q
short-same L bytes f g p q (inl s) (inl t) = faults-same L (tokens_of bytes) f g p q s t (marked s.before s.after t.before t.after s.at t.at (sym s.tokens ∙ t.tokens))
short-same L bytes f g p q (inl s) (inr t) = absurd (fault-none L (tokens_of bytes) f p s t.so_far)
short-same L bytes f g p q (inr s) (inl t) = absurd (fault-none L (tokens_of bytes) g q t s.so_far)
short-same L bytes f g p q (inr s) (inr t) = (s.fault_is ∙ sym t.fault_is, s.place_is ∙ sym t.place_is)

long-short : (L : Limits) (n : ℕ) → max_bytes L < n → ¬ (n ≤ max_bytes L)
long-short L n long short = omega arith

refusal-same : (L : Limits) (bytes : List ℕ) (f g : ReadFault) (p q : Place) → ReadsWithin L bytes (refusal f p) → ReadsWithin L bytes (refusal g q) → SameRefusal f g p q
refusal-same L bytes f g p q (inl s) (inl t) = (s.fault_is ∙ sym t.fault_is, s.place_is ∙ sym t.place_is)
refusal-same L bytes f g p q (inl s) (inr t) = absurd (long-short L (length bytes) s.long t.0)
refusal-same L bytes f g p q (inr s) (inl t) = absurd (long-short L (length bytes) t.long s.0)
refusal-same L bytes f g p q (inr s) (inr t) = short-same L bytes f g p q s.1 t.1

-- a readable list of tokens is one from which can be gone on
readable-on : (L : Limits) (ts : List Token) (F : Formula) → IsReadable L ts F → CanGoOn L ts
readable-on L ts F r = record { more = []; value = F; readable = subst (λ l. IsReadable L l F) (sym (append-nil ts)) r }

fault-unreadable : (L : Limits) (bytes : List ℕ) (F : Formula) (f : ReadFault) (p : Place) → IsReadable L (tokens_in (tokens_of bytes)) F → ¬ (IsFault L bytes f p)
fault-unreadable L bytes F f p r (inl s) = fault-none L (tokens_of bytes) f p s (readable-on L (tokens_in (tokens_of bytes)) F r)
fault-unreadable L bytes F f p r (inr s) = s.no_end F r

formula-refusal : (L : Limits) (bytes : List ℕ) (F : Formula) (f : ReadFault) (p : Place) → ReadsWithin L bytes (formula F) → ¬ (ReadsWithin L bytes (refusal f p))
formula-refusal L bytes F f p r (inl s) = long-short L (length bytes) s.long r.0
formula-refusal L bytes F f p r (inr s) = fault-unreadable L bytes F f p r.1 s.1

pub Reads-one : (L : Limits) (bytes : List ℕ) (r s : Reading) → ReadsWithin L bytes r → ReadsWithin L bytes s → r ≡ s
Reads-one L bytes (formula F) (formula G) r s = ap formula (Reads-one_formula L bytes F G r s)
Reads-one L bytes (formula F) (refusal g q) r s = absurd (formula-refusal L bytes F g q r s)
Reads-one L bytes (refusal f p) (formula G) r s = absurd (formula-refusal L bytes G f p s r)
Reads-one L bytes (refusal f p) (refusal g q) r s = let same = refusal-same L bytes f g p q r s in ap₂ refusal same.0 same.1
