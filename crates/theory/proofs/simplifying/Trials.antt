-- A formula has one simplification, and its changes are fit.
use Rattle.std.proofs.Common.{◌≡◌, ℕ, ◌*◌, Bool, true, false, List, [], ◌++◌, refl, ap, sym, subst, ◌∙◌, if◌then◌else◌}
use Rattle.std.specs.List.{sum_by}
use Rattle.theory.specs.Truth.{Formula, IsFormula}
use Rattle.theory.specs.Simplifying.{Simplified, unsimplified, Change, changed_by, AreFit, AreSimplifying}
use Rattle.theory.specs.Eliminating.{elimination, tidying, IsTidy}
use Rattle.theory.specs.Trying.{Trial, is_worth, changes_of, tried, Tries, rests, tries, first_trial, IsSimplification, effort, size}
use Rattle.theory.proofs.simplifying.Eliminations.{AreFit-append, elimination-fit, elimination-tidy, formula-tidy}

-- there is one way on
pub Tries-unique : (V most : ℕ) (t : Trial) (cs ds : List Change) → Tries V most t cs → Tries V most t ds → cs ≡ ds
Tries-unique V most t cs ds (rests h) (rests k) = refl
Tries-unique V most t cs ds (rests h) (tries x k more) = absurd (let both = sym h ∙ k in cc)
Tries-unique V most t cs ds (tries x h more) (rests k) = absurd (let both = sym h ∙ k in cc)
Tries-unique V most t cs ds (tries {cs = es} x h more) (tries {cs = fs} y k others) =
    let both = sym h ∙ k in
    let same : y ≡ x = cc in
    let rest : es ≡ fs = Tries-unique V most (tried V x t) es fs more (subst (λ z. Tries V most (tried V z t) fs) same others) in
    ap (λ z. changes_of x t.state ++ z) rest ∙ ap (λ z. changes_of z t.state ++ fs) (sym same)

pub IsSimplification-unique : (F : Formula) (cs ds : List Change) → IsSimplification F cs → IsSimplification F ds → cs ≡ ds
IsSimplification-unique F cs ds h k =
    h.1 ∙ (ap (λ z. tidying (unsimplified F) ++ z) (Tries-unique F.vars (effort * sum_by size F.clauses) (first_trial F) h.0 k.0 h.2 k.2) ∙ sym k.1)

-- the changes of a variable that is tried
pub changes-fit : (V x : ℕ) (s : Simplified) → IsTidy V s → AreFit V s (changes_of x s) × IsTidy V (changed_by s (changes_of x s))
changes-fit V x s tidy = go (is_worth x s)
  where
    go : (b : Bool) → AreFit V s (if b then elimination x s else []) × IsTidy V (changed_by s (if b then elimination x s else []))
    go true = (elimination-fit V x s tidy, elimination-tidy V x s tidy)
    go false = (tt, tidy)

pub Tries-fit : (V most : ℕ) (t : Trial) (cs : List Change) → IsTidy V t.state → Tries V most t cs → AreFit V t.state cs
Tries-fit V most t cs tidy (rests h) = tt
Tries-fit V most t cs tidy (tries {cs = es} x h more) =
    let here = changes-fit V x t.state tidy in
    AreFit-append V t.state (changes_of x t.state) es here.0 (Tries-fit V most (tried V x t) es here.1 more)

-- So they simplify the formula.
pub IsSimplification-fit : (F : Formula) (cs : List Change) → IsFormula F → IsSimplification F cs → AreSimplifying F cs
IsSimplification-fit F cs formed h =
    let begun = formula-tidy F formed in
    subst (AreSimplifying F) (sym h.1)
    (AreFit-append F.vars (unsimplified F) (tidying (unsimplified F)) h.0 begun.0 (Tries-fit F.vars (effort * sum_by size F.clauses) (first_trial F) h.0 begun.1 h.2))
