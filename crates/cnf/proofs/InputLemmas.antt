-- What is read of a reader that tells its bytes.
use Rattle.std.proofs.Common.{◌≡◌, ℕ, ◌+◌, ◌<◌, ◌≤◌, Bool, false, List, [], ◌++◌, length, take, Option, Some, None, IfSome, Result, Ok, Err, ◌⊎◌, inl, inr, refl, sym, ap, subst, ◌∙◌, append-nil, arith}
use Rattle.std.proofs.lemmas.List.{take_at, take_all, nil_from_length, length-take}
use Rattle.std.proofs.lemmas.Bool.{cases_lt}
use Rattle.std.proofs.KnownBytes.{Consumes-trans}
use Rattle.std.specs.Io.KnownBytes.{Consumes, IsAtEnd}
use Rattle.theory.specs.Truth.{Formula}
use Rattle.theory.specs.Reading.{Limits, max_bytes, Reading, ReadsWithin, formula, refusal}
use Rattle.cnf.specs.declared.fault.ReadFault.{ReadFault}
use Rattle.cnf.specs.declared.fault.ReadFault.TheVariants.{ReadFailed, NoMemory}
use Rattle.cnf.specs.Faults.{IsReadAs, IsReadOf}
use Rattle.cnf.proofs.FaultLemmas.{IsRefusal-weaker}
use Rattle.cnf.specs.Input.{ReadsOn, IsReadFault}

-- as many bytes as are wanted
pub full-read : (n : ℕ) (old new : Option (List ℕ)) (text : List ℕ) → Consumes old new text → length text ≡ n → IfSome old (λ xs. text ≡ take n xs)
full-read n None new text h l = tt
full-read n (Some xs) None text h l = absurd h
full-read n (Some xs) (Some ys) text h l = sym (ap (take n) h ∙ take_at text ys n l)

at_end : (n : ℕ) (old mid new : Option (List ℕ)) (text bytes : List ℕ) → Consumes old mid text → Consumes mid new bytes → IsAtEnd new → bytes ≡ [] → length text ≤ n → IfSome old (λ xs. text ++ bytes ≡ take n xs)
at_end n None mid new text bytes h g e b l = tt
at_end n (Some xs) None new text bytes h g e b l = absurd h
at_end n (Some xs) (Some ys) None text bytes h g e b l = absurd g
at_end n (Some xs) (Some ys) (Some zs) text bytes h g e b l =
    let rest : ys ≡ [] = g ∙ ap (λ (r : List ℕ). r ++ zs) b ∙ e in
    let all : xs ≡ text = h ∙ ap (λ (r : List ℕ). text ++ r) rest ∙ append-nil text in
    ap (λ (r : List ℕ). text ++ r) b ∙ append-nil text ∙ sym (ap (take n) all ∙ take_all n text l)

-- all bytes, where a read gives no more
pub last-read : (n : ℕ) (old mid new : Option (List ℕ)) (text longer : List ℕ) (room : ℕ) (more : Bool) → Consumes old mid text → ReadsOn mid new text longer room more → more ≡ false → length text ≤ n
    → IfSome old (λ xs. longer ≡ take n xs)
last-read n old mid new text longer room more h r e l =
    let last = r.none e in
    rw r.are (at_end n old mid new text r.bytes h r.taken last.1 (nil_from_length r.bytes last.0) l)

-- what was taken of a reader, where one more read was made
pub last-taken : (old mid new : Option (List ℕ)) (text longer : List ℕ) (room : ℕ) (more : Bool) → Consumes old mid text → ReadsOn mid new text longer room more → Consumes old new longer
last-taken old mid new text longer room more h r = rw r.are (Consumes-trans old mid new text r.bytes h r.taken)

-- a front that is over the limit is read as the whole
Reads-front : (L : Limits) (n : ℕ) (xs : List ℕ) (r : Reading) → max_bytes L < n → ReadsWithin L (take n xs) r → ReadsWithin L xs r
Reads-front L n xs r big h = elim (cases_lt n (length xs)) [ inl g ↦ long r g h | inr l ↦ subst (λ (ys : List ℕ). ReadsWithin L ys r) (take_all n xs l) h ]
  where
    long : (r : Reading) → n < length xs → ReadsWithin L (take n xs) r → ReadsWithin L xs r
    long (formula F) g h = absurd (omega (arith, length-take n xs, h.0))
    long (refusal f p) g (inl t) = inl (record { long = omega arith; fault_is = t.fault_is; place_is = t.place_is })
    long (refusal f p) g (inr s) = absurd (omega (arith, length-take n xs, s.0))

IsReadAs-front : (L : Limits) (n : ℕ) (xs : List ℕ) (answer : Result Formula ReadFault) → max_bytes L < n → IsReadAs L (take n xs) answer → IsReadAs L xs answer
IsReadAs-front L n xs (Ok F) big h = Reads-front L n xs (formula F) big h
IsReadAs-front L n xs (Err e) big h = IsRefusal-weaker (ReadsWithin L (take n xs)) (ReadsWithin L xs) e (λ r. Reads-front L n xs r big) h

pub all-read : (L : Limits) (n : ℕ) (known : Option (List ℕ)) (bytes : List ℕ) (answer : Result Formula ReadFault) → max_bytes L < n → IfSome known (λ xs. bytes ≡ take n xs) → IsReadAs L bytes answer
    → IfSome known (λ xs. IsReadAs L xs answer)
all-read L n None bytes answer big are h = tt
all-read L n (Some xs) bytes answer big are h = IsReadAs-front L n xs answer big (subst (λ (ys : List ℕ). IsReadAs L ys answer) are h)

-- want of memory says nothing of the bytes
no_memory : (n : ℕ) (known : Option (List ℕ)) → (bytes : List ℕ) × IfSome known (λ xs. bytes ≡ take n xs)
no_memory n None = ([], tt)
no_memory n (Some xs) = (take n xs, refl)

unread : (L : Limits) (known : Option (List ℕ)) (answer : Result Formula ReadFault) → answer ≡ Err NoMemory → IfSome known (λ xs. IsReadAs L xs answer)
unread L None answer e = tt
unread L (Some xs) answer e = rw e tt

pub stopped : (L : Limits) (known : Option (List ℕ)) (result : Result Formula ReadFault) (e : ReadFault) → result ≡ Err e → IsReadFault e → (result ≡ Err ReadFailed) ⊎ IsReadOf L known result
stopped L known result e is h = elim h [
  | inl f ↦ inl (is ∙ ap Err f)
  | inr m ↦ inr (let w = no_memory (max_bytes L + 1) known in record { bytes = w.0; are = w.1; is_read = rw (is, m) tt; whole = unread L known result (is ∙ ap Err m) })
]
