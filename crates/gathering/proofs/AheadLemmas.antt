-- What is checked ahead: facts that a store gave, and results that threads hand back.
use Rattle.std.proofs.Common.{◌≡◌, List, [], ◌∷◌, ◌++◌, Option, Some, None, IfSome, MatchOption, All, Contains, subst, ◌∙◌}
use Rattle.std.proofs.lemmas.List.Elements.{All-same, All-push, All-contains}
use Rattle.theory.specs.Truth.{Formula}
use Rattle.theory.specs.Plans.{Plan}
use Rattle.packs.specs.declared.fact.Fact.{Fact}
use Rattle.gathering.specs.Facts.{IsTrueFact}
use Rattle.gathering.specs.Stored.{AreTrueFacts}

-- a fact that a store gave, where it told its facts and these are true
pub true-given : {S : Type 0} (facts : S → Option (List Fact)) (F : Formula) (plan : Plan) (s t : S) (f : Fact) → facts t ≡ facts s → AreTrueFacts facts F plan s → IfSome (facts t) (λ fs. Contains fs f) → IsTrueFact F plan f
true-given facts F plan s t f same are given =
    All-contains (IsTrueFact F plan) are.0 f are.2 (subst (λ o. IfSome o (λ fs. Contains fs f)) (same ∙ are.1) given)

-- a store with the same facts
pub true-same : {S : Type 0} (facts : S → Option (List Fact)) (F : Formula) (plan : Plan) (s t : S) → facts t ≡ facts s → AreTrueFacts facts F plan s → AreTrueFacts facts F plan t
true-same facts F plan s t same are = (are.0, same ∙ are.1, are.2)

-- the fact that it gave, if it gave one, behind others
pub true-put : {S : Type 0} (facts : S → Option (List Fact)) (F : Formula) (plan : Plan) (s t : S) (xs ys : List Fact) (o : Option Fact) → facts t ≡ facts s → AreTrueFacts facts F plan s → IfSome o (λ f. IfSome (facts t) (λ fs. Contains fs f))
    → MatchOption o (ys ≡ xs) (λ f. ys ≡ xs ++ f ∷ []) → All (IsTrueFact F plan) xs → All (IsTrueFact F plan) ys
true-put facts F plan s t xs ys None same are given put all = All-same (IsTrueFact F plan) ys xs put all
true-put facts F plan s t xs ys (Some f) same are given put all =
    All-same (IsTrueFact F plan) ys (xs ++ f ∷ []) put (All-push (IsTrueFact F plan) xs f all (true-given facts F plan s t f same are given))
