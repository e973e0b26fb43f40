use Rattle.std.proofs.Common.{◌∙◌, ◌<◌, [], ap, refl, arith}
use Rattle.theory.specs.Learning.{back_level}
use Rattle.theory.specs.Removing.{first_walk, removable}
use Rattle.theory.specs.Lessons.{lesson_of}
use Rattle.theory.specs.Trails.{current_level}
use Rattle.theory.proofs.searching.LearnableLines.{back_level-learn}
use Rattle.cdcl.specs.Taught.{Taught}
use Rattle.session.proofs.AskedLemmas.{IsAsked-taught, IsAsked-with, taught-learnable}
use Rattle.session.proofs.search.Search.learn_from.Goals as goal

pub go_back-requires-clause-level : goal.go_back-requires-clause-level
go_back-requires-clause-level c =
    let K = c.args.self.now.kernel.clauses in
    let T = c.args.self.now.kernel.trail in
    let n = c.args.conflict in
    let h = c.requires.asked in
    let less : back_level T (lesson_of K T n).line.clause < current_level T = back_level-learn (removable K T (first_walk K T n).0 T []) K T n h.lawful h.open_below c.requires.above c.requires.conflict in
    let is = c.level-level.ensures ∙ c.in_ok-glue.ensures.level in
    omega (arith, less, is)

pub learn-requires : goal.learn-requires
learn-requires c memory =
    taught-learnable c.args.formula.now c.args.assumptions.now c.args.self.now c.requires.asked c.args.conflict c.requires.conflict c.requires.above c.go_back.new.self c.go_back.ensures.asked c.clause.result.now
    c.level-level.result (c.clause.ensures ∙ (ap (λ (x : Taught). x.clause) c.go_back.ensures.lessons ∙ c.in_ok-glue.ensures.clause)) (c.level-level.ensures ∙ c.in_ok-glue.ensures.level) c.go_back.ensures.kernel
    c.go_back.ensures.facts

pub go_back-requires-then-count_conflict-clause-asked : goal.go_back-requires-then-count_conflict-clause-asked
go_back-requires-then-count_conflict-clause-asked c =
    let taught = IsAsked-taught c.args.formula.now c.args.assumptions.now c.args.self.now c.requires.asked c.args.conflict c.requires.conflict c.requires.above c.go_back.new.self c.go_back.ensures.asked c.clause.result.now
    c.level-level.result (c.clause.ensures ∙ (ap (λ (x : Taught). x.clause) c.go_back.ensures.lessons ∙ c.in_ok-glue.ensures.clause)) (c.level-level.ensures ∙ c.in_ok-glue.ensures.level) c.go_back.ensures.kernel
    c.go_back.ensures.facts c.learn.new.self c.in_ok-learn.ensures.learnt in
    IsAsked-with c.args.formula.now c.args.assumptions.now _ _ taught refl refl refl taught.fit.choice refl taught.assumed

pub returns-else-count_conflict : goal.returns-else-count_conflict
returns-else-count_conflict c =
    let taught = IsAsked-taught c.args.formula.now c.args.assumptions.now c.args.self.now c.requires.asked c.args.conflict c.requires.conflict c.requires.above c.go_back.new.self c.go_back.ensures.asked c.clause.result.now
    c.level-level.result (c.clause.ensures ∙ (ap (λ (x : Taught). x.clause) c.go_back.ensures.lessons ∙ c.in_ok-glue.ensures.clause)) (c.level-level.ensures ∙ c.in_ok-glue.ensures.level) c.go_back.ensures.kernel
    c.go_back.ensures.facts c.learn.new.self c.in_ok-learn.ensures.learnt in
    IsAsked-with c.args.formula.now c.args.assumptions.now _ _ taught refl refl refl taught.fit.choice refl taught.assumed
