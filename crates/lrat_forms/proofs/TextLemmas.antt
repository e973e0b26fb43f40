-- What is left of a proof's text as its bytes are looked at and given on.
use Rattle.std.proofs.Common.{◌≡◌, ℕ, ◌+◌, ◌≤◌, ◌⊎◌, inl, inr, Bool, true, false, List, [], ◌++◌, length, take, drop, Option, Some, None, Result, Ok, Err, refl, ap, if◌then◌else◌, ◌-◌, sym, subst, ◌∙◌, arith}
use Rattle.std.proofs.lemmas.List.{append_assoc, append-nil, take_all, take-append-le, take-append-drop, length-take-le, length-drop, drop-drop}
use Rattle.std.specs.Io.KnownBytes.{Consumes, Keeps, IsAtEnd, ReadConsumes, prepend_known}
use Rattle.lrat_forms.specs.Forms.{is_binary, text_of}

pub text-kept : (a b : Option (List ℕ)) → Keeps a b → Keeps (text_of a) (text_of b)
text-kept None b k = tt
text-kept (Some xs) None k = elim k [ ]
text-kept (Some xs) (Some ys) k = rw k (same (is_binary (take 64 xs)))
  where
    same : (is : Bool) → Keeps (if is then None else Some xs) (if is then None else Some xs)
    same true = tt
    same false = refl

-- the first bytes are all of 64, or all that there are
whole : (first ys : List ℕ) → length first ≤ 64 → (length first ≡ 64) ⊎ (ys ≡ []) → take 64 (first ++ ys) ≡ first
whole first ys fits (inl e) = take-append-le 64 first ys (omega (arith, e)) ∙ take_all 64 first fits
whole first ys fits (inr e) = rw e (ap (take 64) (append-nil first) ∙ take_all 64 first fits)

-- the first bytes, as they are seen
pub decided-text : (first seen : List ℕ) (k : Option (List ℕ)) → seen ≡ first → length seen ≤ 64 → (length first ≡ 64) ⊎ IsAtEnd k → is_binary seen ≡ false → Keeps (text_of (prepend_known first k)) (prepend_known first k)
decided-text first seen None v fits all is = tt
decided-text first seen (Some ys) v fits all is = rw (ap is_binary (whole first ys (subst (λ l. length l ≤ 64) v fits) all) ∙ (ap is_binary (sym v) ∙ is)) refl

pub decided-binary : (first seen : List ℕ) (k : Option (List ℕ)) → seen ≡ first → length seen ≤ 64 → (length first ≡ 64) ⊎ IsAtEnd k → is_binary seen ≡ true → Keeps (text_of (prepend_known first k)) None
decided-binary first seen None v fits all is = tt
decided-binary first seen (Some ys) v fits all is = rw (ap is_binary (whole first ys (subst (λ l. length l ≤ 64) v fits) all) ∙ (ap is_binary (sym v) ∙ is)) tt

pub keeps_same : (a : Option (List ℕ)) → Keeps a a
keeps_same None = tt
keeps_same (Some xs) = refl

pub kept-kept : (a b c : Option (List ℕ)) → Keeps a b → Keeps b c → Keeps a c
kept-kept None b c k l = tt
kept-kept (Some xs) None c k l = elim k [ ]
kept-kept (Some xs) (Some ys) None k l = elim l [ ]
kept-kept (Some xs) (Some ys) (Some zs) k l = l ∙ k

kept-consumed : (a b c : Option (List ℕ)) (bs : List ℕ) → Keeps a b → Consumes b c bs → Consumes a c bs
kept-consumed None b c bs k l = tt
kept-consumed (Some xs) None c bs k l = elim k [ ]
kept-consumed (Some xs) (Some ys) None bs k l = elim l [ ]
kept-consumed (Some xs) (Some ys) (Some zs) bs k l = sym k ∙ l

-- a read behind a look
pub kept-read : {E : Type 0} (a b c : Option (List ℕ)) (r : Result ℕ E) (buf : List ℕ) → Keeps a b → ReadConsumes b c r buf → ReadConsumes a c r buf
kept-read a b c (Ok n) buf k read = (kept-consumed a b c (take n buf) k read.0, read.1)
kept-read a b c (Err e) buf k read = kept-kept a b c k read

consumed : (fs bs hs : List ℕ) (k : Option (List ℕ)) → fs ≡ bs ++ hs → Consumes (prepend_known fs k) (prepend_known hs k) bs
consumed fs bs hs None e = tt
consumed fs bs hs (Some xs) e = ap (λ l. l ++ xs) e ∙ append_assoc bs hs xs

-- the first bytes from one on are given on, as far as they were copied to the front of a buffer
pub given-on : (first seen : List ℕ) (given count : ℕ) (copied rest : List ℕ) (k : Option (List ℕ)) → seen ≡ first → copied ≡ take count (take (length seen - given) (drop given seen)) → count ≤ length seen - given
    → Consumes (prepend_known (drop given first) k) (prepend_known (drop (given + count) first) k) (take count (copied ++ rest))
given-on first seen given count copied rest k v e fits =
    let left : length (drop given seen) ≡ length seen - given = length-drop given seen in
    let is : copied ≡ take count (drop given seen) = e ∙ ap (take count) (take_all (length seen - given) (drop given seen) (omega (arith, left))) in
    let long : length copied ≡ count = ap length is ∙ length-take-le count (drop given seen) (omega (arith, left)) in
    let front : take count (copied ++ rest) ≡ copied = take-append-le count copied rest (omega (arith, long)) ∙ take_all count copied (omega (arith, long)) in
    let split : drop given seen ≡ copied ++ drop (given + count) seen = sym (take-append-drop count (drop given seen)) ∙ (ap (λ l. take count (drop given seen) ++ l) (drop-drop count given seen) ∙ ap (λ l. l ++ drop (given + count) seen) (sym is)) in
    rw front (consumed (drop given first) copied (drop (given + count) first) k (subst (λ l. drop given l ≡ copied ++ drop (given + count) l) v split))
