-- What holds of a fault's refusal.
use Rattle.std.proofs.Common.{◌≡◌, subst, sym}
use Rattle.cnf.specs.declared.fault.ReadFault.{ReadFault}
use Rattle.cnf.specs.declared.fault.ReadFault.TheVariants.{NoHeader, BadHeader, SecondHeader, BadNumber, VariableOutOfRange, TooManyClauses, TooFewClauses, ClauseNotEnded, OverLimit, ReadFailed, NoMemory}
use Rattle.theory.specs.Reading.{Reading}
use Rattle.cnf.specs.Faults.{IsRefusal}

pub IsRefusal-weaker : (P Q : Reading → Type 0) (e : ReadFault) → ((r : Reading) → P r → Q r) → IsRefusal P e → IsRefusal Q e
IsRefusal-weaker P Q (NoHeader p) f h = f _ h
IsRefusal-weaker P Q (BadHeader p) f h = f _ h
IsRefusal-weaker P Q (SecondHeader p) f h = f _ h
IsRefusal-weaker P Q (BadNumber p) f h = f _ h
IsRefusal-weaker P Q (VariableOutOfRange p) f h = f _ h
IsRefusal-weaker P Q (TooManyClauses p) f h = f _ h
IsRefusal-weaker P Q (TooFewClauses p) f h = f _ h
IsRefusal-weaker P Q (ClauseNotEnded p) f h = f _ h
IsRefusal-weaker P Q (OverLimit p) f h = f _ h
IsRefusal-weaker P Q ReadFailed f h = absurd h
IsRefusal-weaker P Q NoMemory f h = tt

-- of a reading that is the same
pub IsRefusal-same : (x y : Reading) (e : ReadFault) → x ≡ y → IsRefusal (λ r. y ≡ r) e → IsRefusal (λ r. x ≡ r) e
IsRefusal-same x y e same h = subst (λ (z : Reading). IsRefusal (λ r. z ≡ r) e) (sym same) h
