use Rattle.std.proofs.Common.{◌∙◌, List, length, take, ap}
use Rattle.std.proofs.Math.Seq.{take-length}
use Rattle.theory.specs.Literals.{Clause}
use Rattle.theory.specs.Trails.{cube_trail}
use Rattle.kernel.specs.State.{State}
use Rattle.session.proofs.AskedLemmas.{IsAsked-begin}
use Rattle.session.proofs.search.Search.begin.Goals as goal

pub returns : goal.returns
returns c =
    let s = c.args.self.now in
    let C = s.kernel.clauses in
    IsAsked-begin c.args.formula.now c.args.assumptions.now s c.restart.new.self (length C) c.requires.loaded c.requires.vars c.vars-vars.ensures.over c.requires.assumptions
    (c.in_ok-restart.ensures.ok
    ∙ (ap (λ (k : State). record k { clauses = take k.first k.clauses; trail = cube_trail s.facts }) c.in_ok-keep_learnt.ensures.kept
    ∙ ap (λ (x : List Clause). record s.kernel { first = length C; clauses = x; trail = cube_trail s.facts }) (take-length C)))
    c.in_ok-restart.ensures.lawful c.in_ok-restart.ensures.over c.in_ok-restart.ensures.clauses_over
