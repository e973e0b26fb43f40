-- One more candidate.
use Rattle.std.proofs.Common.{◌≡◌, ℕ, ◌+◌, ◌≤◌, Bool, true, false, cond, List, [], ◌∷◌, ◌++◌, nat_eq, eqb-true, refl, ap, ◌∙◌, arith}
use Rattle.std.specs.List.{count_by}
use Rattle.std.proofs.lemmas.List.Sums.{sum_by_push}
use Rattle.theory.specs.Forgetting.{Candidate}
use Rattle.theory.proofs.literals.LiteralSets.{false_unless}
use Rattle.heuristics_tests.specs.Numbered.{AreNumberedBelow}

count-push : (n : ℕ) (all : List Candidate) (a : Candidate) → count_by (λ (b : Candidate). nat_eq n b.number) (all ++ a ∷ []) ≡ count_by (λ (b : Candidate). nat_eq n b.number) all + cond (nat_eq n a.number) 1 0
count-push n all a = sum_by_push (λ (b : Candidate). cond (nat_eq n b.number) 1 0) all a

pub AreNumberedBelow-push : (bound : ℕ) (all : List Candidate) (a : Candidate) → a.number ≡ bound → AreNumberedBelow bound all → AreNumberedBelow (bound + 1) (all ++ a ∷ [])
AreNumberedBelow-push bound all a is h = record {
  distinct = λ n. (let count = count-push n all a in go n (nat_eq n a.number) refl count);
  none = λ n more. (
      let count = count-push n all a in
      let before = h.none n (omega arith) in
      let other : nat_eq n a.number ≡ false = false_unless (nat_eq n a.number) (λ t. let e = eqb-true n a.number t in omega arith) in
      count ∙ ap (λ (t : Bool). count_by (λ (b : Candidate). nat_eq n b.number) all + cond t 1 0) other ∙ (omega arith));
}
  where
    go : (n : ℕ) (b : Bool) → nat_eq n a.number ≡ b → count_by (λ (b : Candidate). nat_eq n b.number) (all ++ a ∷ []) ≡ count_by (λ (b : Candidate). nat_eq n b.number) all + cond b 1 0
        → count_by (λ (b : Candidate). nat_eq n b.number) (all ++ a ∷ []) ≤ 1
    go n true e count = (let same = eqb-true n a.number e in let before = h.none n (omega arith) in omega arith)
    go n false e count = (let most = h.distinct n in omega arith)
