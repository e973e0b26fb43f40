-- What the outcome of a cube says, by each search.
use Rattle.std.proofs.Common.{◌≡◌, ℕ, true, false, List, length, refl, IsTrue}
use Rattle.theory.specs.Literals.{Literal, IsVariable, has_var, IsCube}
use Rattle.theory.specs.Truth.{Formula, Assignment, IsFormula, IsOver, Satisfies, AreTrue, value}
use Rattle.theory.specs.Held.{is_held}
use Rattle.theory.specs.FirstModel.{comes_before, IsFoundIn}
use Rattle.theory.specs.Plans.{Search, ordered, focused, Plan}
use Rattle.theory.specs.Learning.{Line}
use Rattle.theory.specs.Search.{Outcome, model, refuted, exhausted}
use Rattle.theory.specs.Replaying.{AreRefutation}
use Rattle.theory.specs.Looking.{Looks}
use Rattle.theory.specs.Dividing.{IsDivisibleBy, IsLookedAt}
use Rattle.theory.specs.Runs.{RunsBy, Runs, by_search, by_look}
use Rattle.theory.specs.Results.{OutcomeSays}
use Rattle.theory.proofs.searching.CubeOutcomes.{CubeSays}
use Rattle.theory.proofs.trees.FirstModel.{model-satisfies, model-first}
use Rattle.theory.proofs.searching.SearchSoundness.{refuted-unsatisfiable}
use Rattle.theory.proofs.searching.SplitSoundness.{exhausted-free}
use Rattle.theory.proofs.searching.FocusedSplits.{RunsFocused-splits, RunsFocused-exhausted}
use Rattle.theory.proofs.searching.AbsentVariables.{RunsFocused-absent, Looks-absent}
use Rattle.theory.proofs.searching.HeldVariables.{held-is}
use Rattle.theory.proofs.searching.OrderedOutcomes.{RunsOrdered-says}
use Rattle.theory.proofs.searching.LookedCubes.{Looks-says, Looks-refuted, Looks-satisfies, Looks-splits, Looks-exhausted}
use Rattle.theory.proofs.searching.FocusedOutcomes.{RunsFocused-says, RunsFocused-refuted, RunsFocused-satisfies}

RunsBy-refuted : (search : Search) (F : Formula) (B : ℕ) (Q : List Literal) (lines : List Line) → IsCube Q → RunsBy search F B Q (refuted lines)
    → (M : Assignment) → Satisfies F M → AreTrue (value M) Q → ⊥
RunsBy-refuted ordered F B Q lines cube runs = refuted-unsatisfiable F B Q lines cube runs
RunsBy-refuted (focused c) F B Q lines cube runs = RunsFocused-refuted c F B Q lines cube runs

RunsBy-satisfies : (search : Search) (F : Formula) (B : ℕ) (Q : List Literal) (M : Assignment) → IsFormula F → RunsBy search F B Q (model M) → Satisfies F M
RunsBy-satisfies ordered F B Q M formed runs = model-satisfies F B Q M formed runs
RunsBy-satisfies (focused c) F B Q M formed runs = RunsFocused-satisfies c F B Q M formed runs

RunsBy-first : (search : Search) (F : Formula) (B : ℕ) (Q : List Literal) (M N : Assignment) → search ≡ ordered → IsCube Q → RunsBy search F B Q (model M)
    → Satisfies F N → AreTrue (value N) Q → ¬ (IsTrue (comes_before N M))
RunsBy-first ordered F B Q M N it cube runs = model-first F B Q M N cube runs
RunsBy-first (focused c) F B Q M N it cube runs = absurd (cc)

RunsBy-exhausted : (search : Search) (F : Formula) (B : ℕ) (Q : List Literal) (x : ℕ) → RunsBy search F B Q (exhausted x) → IsVariable F.vars x × (has_var Q x ≡ false)
RunsBy-exhausted ordered F B Q x runs = exhausted-free F B Q x runs
RunsBy-exhausted (focused c) F B Q x runs = RunsFocused-exhausted c F B Q x runs

-- what is so by both searches
RunsBy-cube : (search : Search) (F : Formula) (B : ℕ) (Q : List Literal) (o : Outcome) → IsFormula F → IsCube Q → IsOver F.vars Q → RunsBy search F B Q o
    → CubeSays F.vars F.clauses Q o
RunsBy-cube ordered F B Q o formed cube over runs = RunsOrdered-says F B Q o formed cube over runs
RunsBy-cube (focused c) F B Q o formed cube over runs = RunsFocused-says c F B Q o formed cube over runs

RunsBy-found : (search : Search) (F : Formula) (B : ℕ) (Q : List Literal) (M : Assignment) → IsFormula F → IsCube Q → IsOver F.vars Q → RunsBy search F B Q (model M)
    → IsFoundIn search F Q M
RunsBy-found ordered F B Q M formed cube over runs = record {
  satisfies = model-satisfies F B Q M formed runs;
  cube = (RunsOrdered-says F B Q (model M) formed cube over runs).2;
  least = λ N h. model-first F B Q M N cube runs h;
}
RunsBy-found (focused c) F B Q M formed cube over runs = record {
  satisfies = RunsFocused-satisfies c F B Q M formed runs;
  cube = (RunsFocused-says c F B Q (model M) formed cube over runs).2;
}

pub RunsBy-says : (search : Search) (F : Formula) (B : ℕ) (Q : List Literal) (o : Outcome) → IsFormula F → IsCube Q → IsOver F.vars Q → RunsBy search F B Q o → OutcomeSays search F Q o
RunsBy-says search F B Q (model M) formed cube over runs = RunsBy-found search F B Q M formed cube over runs
RunsBy-says search F B Q (refuted lines) formed cube over runs = (RunsBy-refuted search F B Q lines cube runs, RunsBy-cube search F B Q (refuted lines) formed cube over runs)
RunsBy-says search F B Q (exhausted x) formed cube over runs = RunsBy-exhausted search F B Q x runs

-- a formula isn't divided by the ordered search
IsDivisibleBy-search : (search : Search) (F : Formula) (t : ℕ) → IsDivisibleBy search F t → search ≡ ordered → ⊥
IsDivisibleBy-search ordered F t d i = d
IsDivisibleBy-search (focused c) F t d i = cc

pub IsLookedAt-search : (F : Formula) (plan : Plan) (Q : List Literal) → IsLookedAt F plan Q → plan.search ≡ ordered → ⊥
IsLookedAt-search F plan Q l i = IsDivisibleBy-search plan.search F _ l.divisible.by i

-- the same by a look
looked-found : (search : Search) (F : Formula) (Q : List Literal) (M : Assignment) → (search ≡ ordered → ⊥) → IsFormula F → IsCube Q → IsOver F.vars Q → Looks F Q (model M)
    → IsFoundIn search F Q M
looked-found ordered F Q M never formed cube over looks = absurd (never refl)
looked-found (focused c) F Q M never formed cube over looks = record {
  satisfies = Looks-satisfies F Q M formed looks;
  cube = (Looks-says F Q (model M) formed cube over looks).2;
}

looked-says : (search : Search) (F : Formula) (Q : List Literal) (o : Outcome) → (search ≡ ordered → ⊥) → IsFormula F → IsCube Q → IsOver F.vars Q → Looks F Q o → OutcomeSays search F Q o
looked-says search F Q (model M) never formed cube over looks = looked-found search F Q M never formed cube over looks
looked-says search F Q (refuted lines) never formed cube over looks = (Looks-refuted F Q lines cube looks, Looks-says F Q (refuted lines) formed cube over looks)
looked-says search F Q (exhausted x) never formed cube over looks = Looks-exhausted F Q x looks

-- the same by a plan
pub Runs-refuted : (F : Formula) (plan : Plan) (Q : List Literal) (lines : List Line) → IsCube Q → Runs F plan Q (refuted lines)
    → (M : Assignment) → Satisfies F M → AreTrue (value M) Q → ⊥
Runs-refuted F plan Q lines cube (by_search n runs) = RunsBy-refuted plan.search F plan.budget Q lines cube runs
Runs-refuted F plan Q lines cube (by_look l looks) = Looks-refuted F Q lines cube looks

pub Runs-satisfies : (F : Formula) (plan : Plan) (Q : List Literal) (M : Assignment) → IsFormula F → Runs F plan Q (model M) → Satisfies F M
Runs-satisfies F plan Q M formed (by_search n runs) = RunsBy-satisfies plan.search F plan.budget Q M formed runs
Runs-satisfies F plan Q M formed (by_look l looks) = Looks-satisfies F Q M formed looks

pub Runs-first : (F : Formula) (plan : Plan) (Q : List Literal) (M N : Assignment) → plan.search ≡ ordered → IsCube Q → Runs F plan Q (model M)
    → Satisfies F N → AreTrue (value N) Q → ¬ (IsTrue (comes_before N M))
Runs-first F plan Q M N it cube (by_search n runs) = RunsBy-first plan.search F plan.budget Q M N it cube runs
Runs-first F plan Q M N it cube (by_look l looks) = absurd (IsLookedAt-search F plan Q l it)

pub Runs-says : (F : Formula) (plan : Plan) (Q : List Literal) (o : Outcome) → IsFormula F → IsCube Q → IsOver F.vars Q → Runs F plan Q o → OutcomeSays plan.search F Q o
Runs-says F plan Q o formed cube over (by_search n runs) = RunsBy-says plan.search F plan.budget Q o formed cube over runs
Runs-says F plan Q o formed cube over (by_look l looks) = looked-says plan.search F Q o (IsLookedAt-search F plan Q l) formed cube over looks

-- A refuted cube's lines replay, and the last one's clause is empty.
pub Runs-AreRefutation : (F : Formula) (plan : Plan) (Q : List Literal) (lines : List Line) → IsFormula F → IsCube Q → IsOver F.vars Q
    → Runs F plan Q (refuted lines) → AreRefutation F.vars (length F.clauses) Q F.clauses lines
Runs-AreRefutation F plan Q lines formed cube over runs = (Runs-says F plan Q (refuted lines) formed cube over runs).1

-- A cube is exhausted in a variable of the formula that isn't the cube's.
pub Runs-exhausted : (F : Formula) (plan : Plan) (Q : List Literal) (x : ℕ) → Runs F plan Q (exhausted x) → IsVariable F.vars x × (has_var Q x ≡ false)
Runs-exhausted F plan Q x (by_search n runs) = RunsBy-exhausted plan.search F plan.budget Q x runs
Runs-exhausted F plan Q x (by_look l looks) = Looks-exhausted F Q x looks

-- By the focused search it is a held one, and so it is by a look.
pub Runs-splits : (F : Formula) (plan : Plan) (Q : List Literal) (x : ℕ) → ¬ (plan.search ≡ ordered) → Runs F plan Q (exhausted x) → is_held F.clauses x ≡ true
Runs-splits F plan Q x other (by_search n runs) = go plan.search refl runs
  where
    go : (search : Search) → plan.search ≡ search → RunsBy search F plan.budget Q (exhausted x) → is_held F.clauses x ≡ true
    go ordered e r = absurd (other e)
    go (focused c) e r = held-is F x (RunsFocused-splits c F plan.budget Q x r).0
Runs-splits F plan Q x other (by_look l looks) = held-is F x (Looks-splits F Q x looks).0

-- And a variable that isn't held is false in a cube's model, if it isn't the cube's.
pub Runs-absent : (F : Formula) (plan : Plan) (Q : List Literal) (M : Assignment) (v : ℕ) → ¬ (plan.search ≡ ordered) → IsCube Q → Runs F plan Q (model M) → IsVariable F.vars v → is_held F.clauses v ≡ false
    → has_var Q v ≡ false → value M v ≡ false
Runs-absent F plan Q M v other cube (by_search n runs) r lacks out = go plan.search refl runs
  where
    go : (search : Search) → plan.search ≡ search → RunsBy search F plan.budget Q (model M) → value M v ≡ false
    go ordered e k = absurd (other e)
    go (focused c) e k = RunsFocused-absent c F plan.budget Q M v cube k r lacks out
Runs-absent F plan Q M v other cube (by_look l looks) r lacks out = Looks-absent F Q M v cube looks r lacks out
