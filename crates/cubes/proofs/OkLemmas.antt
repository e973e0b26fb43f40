-- Answers that may be errors.
use Rattle.std.proofs.Common.{◌≡◌, Result, Ok, Err, IfOk, OnOk, is_ok, true}

-- what is so of each answer, is so of this one
pub if_ok : {T E : Type 0} (r : Result T E) (P Q : T → Type 0) → ((t : T) → P t → Q t) → IfOk r P → IfOk r Q
if_ok (Ok t) P Q more h = more t h
if_ok (Err e) P Q more h = tt

pub on_ok : {T E : Type 0} (r : Result T E) (P Q : Type 0) → (P → Q) → OnOk r P → OnOk r Q
on_ok (Ok t) P Q more h = more h
on_ok (Err e) P Q more h = tt

-- what is so where it is no error
pub at_ok : {T E : Type 0} (r : Result T E) (P : Type 0) → is_ok r ≡ true → OnOk r P → P
at_ok (Ok t) P ok h = h
at_ok (Err e) P ok h = absurd (cc)
