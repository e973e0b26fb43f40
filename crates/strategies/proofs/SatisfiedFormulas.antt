-- What is searched is satisfiable if and only if the formula is.
use Rattle.std.proofs.Common.{◌≡◌, [], sym, subst}
use Rattle.theory.specs.Truth.{Formula, IsFormula, Satisfiable}
use Rattle.theory.specs.Plans.{Constants, default_constants, Search, ordered, focused, Plan}
use Rattle.theory.specs.Trees.{refutation, model_of, tree_of}
use Rattle.theory.specs.Beginnings.{Beginning, as_it_is, by_pure_units, by_changes, IsBeginning, begun_by, model_back}
use Rattle.theory.proofs.searching.PureModels.{Satisfiable-searched, Satisfies-searched}
use Rattle.theory.proofs.trees.BegunSearches.{Begins-beginning, ResultSays-back}
use Rattle.strategies.specs.Begun.{formula_in, IsBegunBy}
use Rattle.strategies.specs.declared.begun_formula.Begun.{Begun}

-- the unit clauses of pure variables change nothing of it
with-units : (s : Search) (G : Formula) → IsFormula G → Satisfiable G → Satisfiable (begun_by s G)
with-units ordered G formed h = Satisfiable-searched G formed h
with-units (focused c) G formed h = h

without-units : (s : Search) (G : Formula) → Satisfiable (begun_by s G) → Satisfiable G
without-units ordered G h = (h.0, Satisfies-searched G h.0 h.1)
without-units (focused c) G h = h

-- a focused search may begin as any does
loosely : (s : Search) (F : Formula) (b : Beginning) → IsBeginning s F b → (c : Constants) × IsBeginning (focused c) F b
loosely (focused c) F b h = (c, h)
loosely ordered F as_it_is h = (default_constants, tt)
loosely ordered F by_pure_units h = (default_constants, tt)
loosely ordered F (by_changes cs) h = absurd h

pub satisfiable-back : (F : Formula) (plan : Plan) (x : Begun) → IsFormula F → IsFormula (formula_in x F) → IsBegunBy F plan x → Satisfiable (formula_in x F) → Satisfiable F
satisfiable-back F plan x formed inside h s =
    let may = loosely plan.search F h.0 (Begins-beginning F plan h.0 formed h.1.begins) in
    let found = subst Satisfiable h.1.formula (with-units plan.search (formula_in x F) inside s) in
    (model_back F h.0 found.0, ResultSays-back (focused may.0) F h.0 (model_of found.0) formed may.1 found.1)

pub refuted-back : (F : Formula) (plan : Plan) (x : Begun) → IsFormula F → IsBegunBy F plan x → ¬ (Satisfiable (formula_in x F)) → ¬ (Satisfiable F)
refuted-back F plan x formed h never =
    ResultSays-back plan.search F h.0 (tree_of (refutation [])) formed (Begins-beginning F plan h.0 formed h.1.begins) (λ s. never (without-units plan.search (formula_in x F) (subst Satisfiable (sym h.1.formula) s)))
