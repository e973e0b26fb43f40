-- Cubes of a tree, what is said of them, and their halves.
use Rattle.std.proofs.Common.{◌≡◌, ℕ, List, [], ◌∷◌, ◌++◌, All, refl, sym, ap, subst, append_assoc}
use Rattle.std.proofs.lemmas.List.Elements.{All-nil, All-push, All-same}
use Rattle.std.proofs.lemmas.List.{append-nil}
use Rattle.theory.specs.Literals.{Literal, IsVariable, positive, negative}
use Rattle.theory.specs.Truth.{Formula}
use Rattle.theory.specs.Plans.{Plan}
use Rattle.theory.specs.Search.{Outcome, model, refuted, exhausted}
use Rattle.theory.specs.Trees.{false_half, true_half, LeadsOn}
use Rattle.theory.specs.Runs.{Runs}
use Rattle.theory.specs.Beginnings.{begun_by}
use Rattle.theory.specs.Results.{OutcomeSays}
use Rattle.theory.specs.Checked.{IsFitSplit}
use Rattle.theory.proofs.trees.CheckedTrees.{IsOver-half}
use Rattle.packs.specs.declared.fact.Claim.TheVariants.{Split}
use Rattle.packs.specs.declared.fact.Fact.{Fact}
use Rattle.gathering.specs.Facts.{claim_of, IsTrueFact}
use Rattle.spread.specs.Solving.{IsSaidOf, IsOfTree}

-- what is said of a cube by its outcome
pub said-of : (F : Formula) (plan : Plan) (Q : List Literal) (o : Outcome) (f : Fact) → Runs (begun_by plan.search F) plan Q o → OutcomeSays plan.search (begun_by plan.search F) Q o → f ≡ record { cube = Q; claim = claim_of o } → IsSaidOf F plan Q f
said-of F plan Q o f runs says is =
    subst (IsSaidOf F plan Q) (sym is) record { cube = refl; true = record { outcome = o; runs = runs; says = refl }; fit = fits o says }
  where
    fits : (o : Outcome) → OutcomeSays plan.search (begun_by plan.search F) Q o → (x : ℕ) → claim_of o ≡ Split x → IsFitSplit F Q x
    fits (model M) says x e = absurd (cc)
    fits (refuted lines) says x e = absurd (cc)
    fits (exhausted y) says x e = let same : y ≡ x = cc in subst (IsFitSplit F Q) same says

pub root : (F : Formula) (plan : Plan) → IsOfTree F plan []
root F plan = record { over = All-nil (λ (l : Literal). IsVariable F.vars l.var); cube = record { path = []; reached = refl; splits = tt } }

leads-on : (F : Formula) (plan : Plan) (R path : List Literal) (l : Literal) → LeadsOn F plan R path → Runs F plan (R ++ path) (exhausted l.var) → LeadsOn F plan R (path ++ l ∷ [])
leads-on F plan R [] l h runs = (subst (λ (Q : List Literal). Runs F plan Q (exhausted l.var)) (append-nil R) runs, tt)
leads-on F plan R (k ∷ ks) l h runs = (h.0, leads-on F plan (R ++ k ∷ []) ks l h.1 (subst (λ (Q : List Literal). Runs F plan Q (exhausted l.var)) (sym (append_assoc R (k ∷ []) ks)) runs))

half : (F : Formula) (plan : Plan) (Q : List Literal) (l : Literal) → IsOfTree F plan Q → Runs (begun_by plan.search F) plan Q (exhausted l.var) → IsFitSplit F Q l.var → IsOfTree F plan (Q ++ l ∷ [])
half F plan Q l here runs fit = record {
  over = IsOver-half F Q l fit here.over;
  cube = record {
    path = here.cube.path ++ l ∷ [];
    reached = ap (λ (P : List Literal). P ++ l ∷ []) here.cube.reached;
    splits = leads-on (begun_by plan.search F) plan [] here.cube.path l here.cube.splits (subst (λ (P : List Literal). Runs (begun_by plan.search F) plan P (exhausted l.var)) here.cube.reached runs);
  };
}

pub halves-of : (F : Formula) (plan : Plan) (f : Fact) (x : ℕ) → IsOfTree F plan f.cube → IsTrueFact F plan f → f.claim ≡ Split x → IsFitSplit F f.cube x
    → IsOfTree F plan (false_half f.cube x) × IsOfTree F plan (true_half f.cube x)
halves-of F plan f x here true-fact is fit = go true-fact.outcome true-fact.runs true-fact.says
  where
    go : (o : Outcome) → Runs (begun_by plan.search F) plan f.cube o → f.claim ≡ claim_of o → IsOfTree F plan (false_half f.cube x) × IsOfTree F plan (true_half f.cube x)
    go (model M) runs says = absurd (cc)
    go (refuted lines) runs says = absurd (cc)
    go (exhausted y) runs says =
        let same : y ≡ x = cc in
        let splits = subst (λ z. Runs (begun_by plan.search F) plan f.cube (exhausted z)) same runs in
        (half F plan f.cube (negative x) here splits fit, half F plan f.cube (positive x) here splits fit)

-- two more at the end
pub both-pushed : {A : Type 0} (P : A → Type 0) (xs ys zs : List A) (x y : A) → All P xs → P x → P y → ys ≡ xs ++ x ∷ [] → zs ≡ ys ++ y ∷ [] → All P zs
both-pushed P xs ys zs x y all px py e h = All-same P zs (ys ++ y ∷ []) h (All-push P ys y (All-same P ys (xs ++ x ∷ []) e (All-push P xs x all px)) py)
