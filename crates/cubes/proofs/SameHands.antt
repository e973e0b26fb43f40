-- A hand stays the same one from call to call.
use Rattle.std.proofs.Common.{◌≡◌, Bool, List, refl, ◌∙◌}
use Rattle.theory.specs.Truth.{Formula}
use Rattle.theory.specs.Plans.{Plan}
use Rattle.theory.specs.Results.{Solved}
use Rattle.theory.specs.Ledger.{Ledger}
use Rattle.theory.specs.Round.{HasWorked}
use Rattle.pool.specs.Hands.{HandView, SameHand}

pub SameHand-itself : (h : HandView) → SameHand h h
SameHand-itself h = (refl, refl, refl, refl, refl, refl)

pub SameHand-then : (a b c : HandView) → SameHand a b → SameHand b c → SameHand a c
SameHand-then a b c p q = (q.0 ∙ p.0, q.1 ∙ p.1, q.2 ∙ p.2, q.3 ∙ p.3, q.4 ∙ p.4, q.5 ∙ p.5)

-- what was worked, as it is handed over
pub worked-as : (F : Formula) (plan : Plan) (short_of_memory told : Bool) (first : Ledger) (h g : HandView) (s t : List Solved) → g ≡ h → t ≡ s → told ≡ short_of_memory → HasWorked F plan short_of_memory first h.ledger s → HasWorked F plan told first g.ledger t
worked-as F plan short_of_memory told first h g s t e f o work = rw (o, e, f) work
