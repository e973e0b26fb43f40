-- The bytes that a writer holds, after one write and the next.
use Rattle.std.proofs.Common.{◌≡◌, ℕ, ◌+◌, ◌-◌, ◌≤◌, arith, length-drop, List, [], ◌++◌, take, drop, length, Option, Some, None, refl, ap, sym, subst, ◌∙◌, append-nil, append_assoc}
use Rattle.std.specs.Io.KnownBytes.{Appends, Keeps}
use Rattle.std.proofs.Math.Seq.{take-add, take-length}

pub Appends-none : (a : Option (List ℕ)) → Appends a a []
Appends-none None = tt
Appends-none (Some xs) = sym (append-nil xs)

pub Appends-then : (a b c : Option (List ℕ)) (xs ys : List ℕ) → Appends a b xs → Appends b c ys → Appends a c (xs ++ ys)
Appends-then None b c xs ys h k = tt
Appends-then (Some p) None c xs ys h k = absurd h
Appends-then (Some p) (Some q) None xs ys h k = absurd k
Appends-then (Some p) (Some q) (Some r) xs ys h k = k ∙ (ap (λ t. t ++ ys) h ∙ append_assoc p xs ys)

pub Appends-kept : (a b c : Option (List ℕ)) (xs : List ℕ) → Appends a b xs → Keeps b c → Appends a c xs
Appends-kept None b c xs h k = tt
Appends-kept (Some p) None c xs h k = absurd h
Appends-kept (Some p) (Some q) None xs h k = absurd k
Appends-kept (Some p) (Some q) (Some r) xs h k = k ∙ h

-- what is left of a text, as a slice has it
rest-of : (text : List ℕ) (written : ℕ) → take (length text - written) (drop written text) ≡ drop written text
rest-of text written = ap (λ n. take n (drop written text)) (sym (length-drop written text)) ∙ take-length (drop written text)

-- a write of it
pub Appends-more : (a b c : Option (List ℕ)) (text : List ℕ) (written count : ℕ) → Appends a b (take written text) → Appends b c (take count (take (length text - written) (drop written text)))
    → Appends a c (take (written + count) text)
Appends-more a b c text written count h k =
    subst (Appends a c) (sym (take-add written count text)) (Appends-then a b c _ _ h (subst (λ r. Appends b c (take count r)) (rest-of text written) k))

pub written-within : (text : List ℕ) (written count : ℕ) → written ≤ length text → count ≤ length (take (length text - written) (drop written text)) → written + count ≤ length text
written-within text written count h k =
    let long = ap length (rest-of text written) in
    let left = length-drop written text in
    omega arith

pub Keeps-same : (a : Option (List ℕ)) → Keeps a a
Keeps-same None = tt
Keeps-same (Some xs) = refl
