-- However a search begins, the proof of its tree is accepted, and its result says of the formula
-- what it says of the clauses that it begins with.
use Rattle.std.proofs.Common.{true, ◌≡◌, List, [], refl, ap, sym, subst, ◌∙◌, None, min, arith}
use Rattle.theory.specs.Truth.{Formula, IsFormula}
use Rattle.theory.specs.Plans.{Search, ordered, focused, Plan}
use Rattle.theory.specs.Trees.{Tree, IsTree, first_model, Result, model_of, tree_of, IsResult}
use Rattle.theory.specs.Checking.{checks, accepted}
use Rattle.theory.specs.Rup.{is_rup}
use Rattle.theory.specs.Checked.{IsCheckedTree, IsCheckedResult}
use Rattle.theory.specs.Results.{ResultSays}
use Rattle.theory.specs.Simplifying.{Change, unsimplified, AreSimplifying, simplified, IsSimplificationOf}
use Rattle.theory.specs.Beginnings.{Beginning, as_it_is, by_pure_units, by_changes, begun, lines_before, result_back, IsBeginning, proof, beginning_by, IsHard, first_tried, Begins, directly, simpler}
use Rattle.theory.proofs.searching.PureVariables.{IsOver-first_clauses}
use Rattle.theory.proofs.searching.PureModels.{IsFirst-searched, Satisfies-searched, Satisfiable-searched}
use Rattle.theory.proofs.checker.AcceptedPrelude.{prelude-leads, start, AreInput-numbered_from}
use Rattle.theory.proofs.checker.AcceptedSteps.{Leads-none}
use Rattle.theory.proofs.checker.AcceptedCubes.{EndsEmpty}
use Rattle.theory.proofs.checker.AcceptedProofs.{AreBefore, AreLeftIn-all, checks-checked, checked-ends_empty, checked-by_hints}
use Rattle.theory.proofs.trees.CheckedTrees.{IsCheckedTree-IsTree}
use Rattle.theory.proofs.trees.ResultLemmas.{IsCheckedResult-says, IsCheckedResult-IsResult}
use Rattle.theory.proofs.simplifying.Simplifications.{simplification-begins, simplification-all}
use Rattle.theory.proofs.simplifying.AcceptedSimplifications.{simplification-leads, length-kept_clauses, AreLeftIn-kept_clauses, checker_of}
use Rattle.theory.proofs.simplifying.Trials.{IsSimplification-fit, IsSimplification-unique}
use Rattle.theory.proofs.searching.FocusedSplits.{RunsFocused-exhausted}
use Rattle.theory.proofs.simplifying.SimplifiedModels.{IsFormula-simplified, Satisfies-extended_model, Satisfies-simplified}

simplified-says : (F : Formula) (cs : List Change) → IsFormula F → AreSimplifying F cs → IsSimplificationOf F (simplified F cs)
simplified-says F cs formed h = simplification-all F (unsimplified F) cs (simplification-begins F formed) h

-- what a search begins with is a formula
pub IsFormula-begun : (search : Search) (F : Formula) (b : Beginning) → IsFormula F → IsBeginning search F b → IsFormula (begun F b)
IsFormula-begun search F as_it_is formed h = formed
IsFormula-begun search F by_pure_units formed h = IsOver-first_clauses F formed
IsFormula-begun ordered F (by_changes cs) formed h = absurd h
IsFormula-begun (focused c) F (by_changes cs) formed h = IsFormula-simplified F (simplified F cs) (simplified-says F cs formed h.1) h.0

-- the lines before are accepted, and leave its clauses
AreBefore-none : (F : Formula) → AreBefore F F.clauses []
AreBefore-none F = record { state = start F; leads = Leads-none F.vars (start F); last = refl; input = AreLeftIn-all F.clauses (start F).clauses (AreInput-numbered_from F.clauses) }

AreBefore-pure_units : (F : Formula) → AreBefore F (begun F by_pure_units).clauses (lines_before F by_pure_units)
AreBefore-pure_units F =
    let lines = prelude-leads F in
    record { state = lines.state; leads = lines.leads; last = lines.last; input = AreLeftIn-all (begun F by_pure_units).clauses lines.state.clauses lines.input }

AreBefore-changes : (F : Formula) (cs : List Change) → AreSimplifying F cs → AreBefore F (begun F (by_changes cs)).clauses (lines_before F (by_changes cs))
AreBefore-changes F cs h =
    let lines = simplification-leads F cs h in
    record {
      state = checker_of (simplified F cs) lines.empty;
      leads = lines.leads.0;
      last = sym (length-kept_clauses (simplified F cs));
      input = AreLeftIn-kept_clauses (simplified F cs);
    }

pub AreBefore-begun : (search : Search) (F : Formula) (b : Beginning) → IsBeginning search F b → AreBefore F (begun F b).clauses (lines_before F b)
AreBefore-begun search F as_it_is h = AreBefore-none F
AreBefore-begun search F by_pure_units h = AreBefore-pure_units F
AreBefore-begun ordered F (by_changes cs) h = absurd h
AreBefore-begun (focused c) F (by_changes cs) h = AreBefore-changes F cs h.1

-- So the proof of a checked tree is accepted.
pub checks-begun : (search : Search) (F : Formula) (b : Beginning) (t : Tree) → IsBeginning search F b → IsCheckedTree (begun F b) [] t → first_model t ≡ None → checks F (proof F b t) ≡ accepted
checks-begun search F as_it_is t h k none = checks-checked F (begun F as_it_is).clauses (lines_before F as_it_is) t (AreBefore-none F) k none
checks-begun search F by_pure_units t h k none = checks-checked F (begun F by_pure_units).clauses (lines_before F by_pure_units) t (AreBefore-pure_units F) k none
checks-begun ordered F (by_changes cs) t h k none = absurd h
checks-begun (focused c) F (by_changes cs) t h k none =
    checks-checked F (begun F (by_changes cs)).clauses (lines_before F (by_changes cs)) t (AreBefore-changes F cs h.1) k none

pub begun-ends_empty : (search : Search) (F : Formula) (b : Beginning) (t : Tree) → IsBeginning search F b → IsCheckedTree (begun F b) [] t → first_model t ≡ None → EndsEmpty (proof F b t)
begun-ends_empty search F as_it_is t h k none = checked-ends_empty F (begun F as_it_is).clauses (lines_before F as_it_is) t (AreBefore-none F) k none
begun-ends_empty search F by_pure_units t h k none = checked-ends_empty F (begun F by_pure_units).clauses (lines_before F by_pure_units) t (AreBefore-pure_units F) k none
begun-ends_empty ordered F (by_changes cs) t h k none = absurd h
begun-ends_empty (focused c) F (by_changes cs) t h k none =
    checked-ends_empty F (begun F (by_changes cs)).clauses (lines_before F (by_changes cs)) t (AreBefore-changes F cs h.1) k none

-- Where no unit clauses of pure variables are added, each line passes by its hints alone.
pub begun-by_hints : (search : Search) (F : Formula) (b : Beginning) (t : Tree) → IsBeginning search F b → ¬ (b ≡ by_pure_units) → IsCheckedTree (begun F b) [] t → first_model t ≡ None → is_rup F (proof F b t) ≡ true
unfolding AreBefore-none AreBefore-changes
begun-by_hints search F as_it_is t h other k none = checked-by_hints F (begun F as_it_is).clauses (lines_before F as_it_is) t (AreBefore-none F) (λ rest. refl) k none
begun-by_hints search F by_pure_units t h other k none = absurd (other refl)
begun-by_hints ordered F (by_changes cs) t h other k none = absurd h
begun-by_hints (focused c) F (by_changes cs) t h other k none =
    checked-by_hints F (begun F (by_changes cs)).clauses (lines_before F (by_changes cs)) t (AreBefore-changes F cs h.1) (simplification-leads F cs h.1).leads.1 k none

-- a formula's tree is a checked one
begun-checked : (F : Formula) (b : Beginning) (plan : Plan) (t : Tree) → IsFormula F → IsBeginning plan.search F b → IsTree (begun F b) plan [] t → IsCheckedTree (begun F b) [] t
begun-checked F b plan t formed h k = IsCheckedTree-IsTree (begun F b) plan [] t (IsFormula-begun plan.search F b formed h) refl (λ i d j. absurd (omega arith)) k

pub checks-proof : (F : Formula) (b : Beginning) (plan : Plan) (t : Tree) → IsFormula F → IsBeginning plan.search F b → IsTree (begun F b) plan [] t → first_model t ≡ None
    → checks F (proof F b t) ≡ accepted
checks-proof F b plan t formed h k none = checks-begun plan.search F b t h (begun-checked F b plan t formed h k) none

pub proof-ends_empty : (F : Formula) (b : Beginning) (plan : Plan) (t : Tree) → IsFormula F → IsBeginning plan.search F b → IsTree (begun F b) plan [] t → first_model t ≡ None
    → EndsEmpty (proof F b t)
proof-ends_empty F b plan t formed h k none = begun-ends_empty plan.search F b t h (begun-checked F b plan t formed h k) none

-- What a result says of the clauses that the search begins with it says of the formula.
pub ResultSays-back : (search : Search) (F : Formula) (b : Beginning) (r : Result) → IsFormula F → IsBeginning search F b → ResultSays search (begun F b) r → ResultSays search F (result_back F b r)
ResultSays-back search F as_it_is (model_of M) formed h says = says
ResultSays-back search F as_it_is (tree_of t) formed h says = says
ResultSays-back ordered F by_pure_units (model_of M) formed h says = IsFirst-searched F M formed says
ResultSays-back (focused c) F by_pure_units (model_of M) formed h says = Satisfies-searched F M says
ResultSays-back search F by_pure_units (tree_of t) formed h says = λ s. says (Satisfiable-searched F formed s)
ResultSays-back ordered F (by_changes cs) r formed h says = absurd h
ResultSays-back (focused c) F (by_changes cs) (model_of M) formed h says = Satisfies-extended_model F (simplified F cs) M formed (simplified-says F cs formed h.1) says
ResultSays-back (focused c) F (by_changes cs) (tree_of t) formed h says =
    λ s. says (s.0, Satisfies-simplified F (simplified F cs) s.0 (simplified-says F cs formed h.1) s.1)

pub IsCheckedResult-back : (search : Search) (F : Formula) (b : Beginning) (r : Result) → IsFormula F → IsBeginning search F b → IsCheckedResult search (begun F b) r
    → ResultSays search F (result_back F b r)
IsCheckedResult-back search F b r formed h k = ResultSays-back search F b r formed h (IsCheckedResult-says search (begun F b) r k)

pub IsResult-back : (F : Formula) (b : Beginning) (plan : Plan) (r : Result) → IsFormula F → IsBeginning plan.search F b → IsResult (begun F b) plan r
    → ResultSays plan.search F (result_back F b r)
IsResult-back F b plan r formed h k =
    IsCheckedResult-back plan.search F b r formed h (IsCheckedResult-IsResult (begun F b) plan r (IsFormula-begun plan.search F b formed h) k)

-- A plan's search begins as it may.
IsBeginning-by : (search : Search) (F : Formula) → IsBeginning search F (beginning_by search)
IsBeginning-by ordered F = tt
IsBeginning-by (focused c) F = tt

-- Where it simplifies the formula, that has a variable, since the first search was exhausted in one.
pub Begins-beginning : (F : Formula) (plan : Plan) (b : Beginning) → IsFormula F → Begins plan F b → IsBeginning plan.search F b
Begins-beginning F plan b formed (directly n e) = subst (IsBeginning plan.search F) (sym e) (IsBeginning-by plan.search F)
Begins-beginning F plan b formed (simpler {cs = cs} y s) = go plan.search y.hard
  where
    go : (search : Search) → IsHard search F (min first_tried plan.budget) → IsBeginning search F (by_changes cs)
    go ordered h = absurd h
    go (focused c) h =
        let x = (RunsFocused-exhausted c F (min first_tried plan.budget) [] h.0 h.1).0 in
        let low = x.0 in
        let high = x.1 in
        (omega arith, IsSimplification-fit F cs formed s)

-- It begins in one way.
pub Begins-unique : (plan : Plan) (F : Formula) (b c : Beginning) → Begins plan F b → Begins plan F c → b ≡ c
Begins-unique plan F b c (directly n e) (directly m f) = e ∙ sym f
Begins-unique plan F b c (directly n e) (simpler y k) = absurd (n y)
Begins-unique plan F b c (simpler y h) (directly n e) = absurd (n y)
Begins-unique plan F b c (simpler {cs = cs} y h) (simpler {cs = ds} z k) = ap by_changes (IsSimplification-unique F cs ds h k)

-- By any search but the ordered one no unit clauses of pure variables are added.
pub Begins-without_units : (plan : Plan) (F : Formula) (b : Beginning) → ¬ (plan.search ≡ ordered) → Begins plan F b → ¬ (b ≡ by_pure_units)
Begins-without_units plan F b other (directly n e) = λ u. go plan.search refl (sym e ∙ u)
  where
    go : (search : Search) → plan.search ≡ search → beginning_by search ≡ by_pure_units → ⊥
    go ordered is u = other is
    go (focused c) is u = cc
Begins-without_units plan F b other (simpler y s) = λ u. absurd (cc)
