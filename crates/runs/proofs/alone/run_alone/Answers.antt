use Rattle.std.proofs.Common.{◌++◌, Ok, rules}
use Rattle.theory.specs.Texts.{proof_text}
use Rattle.join.specs.Before.{before_left}
use Rattle.join.specs.Walking.{lines_left}
use Rattle.theory.specs.Reading.{standard}
use Rattle.strategies.specs.Strategies.{by_plan}
use Rattle.runs.proofs.TextLemmas.{alone-decided}
use Rattle.runs.proofs.RightAnswers.{says-right}
use Rattle.runs.proofs.RunLemmas.{IsRunOf-made, RunSays-unread, RunSays-stopped}
use Rattle.runs.proofs.alone.run_alone.Goals as goal

pub returns-in-Err-clause-says : goal.returns-in-Err-clause-says
returns-in-Err-clause-says g c =
    rw c.of_read.ensures
    (RunSays-unread standard (g.R.Read.remaining c.args.input) (g.P.Write.contents c.args.proof.now) (g.W.Write.contents c.args.answer.now) (by_plan c.args.plan) c.in-Err.fault c.in-Err.ensures)

pub returns-clause-says : goal.returns-clause-says
returns-clause-says g c =
    let known = g.R.Read.remaining c.args.input in
    let old = c.in-Ok-output_of.output in
    let new = c.write_output.new.output in
    let proof = proof_text (before_left old.before ++ lines_left old.lines) in
    let kept = c.in_ok-write_output.ensures.kept in
    let run = IsRunOf-made standard known (by_plan c.args.plan) c.in-Ok.formula old.verdict proof old.answer.items c.in-Ok.ensures (rw c.of-strategy.ensures at c.in-Ok-output_of.ensures.texts) in
    record {
      proof = proof;
      answer = new.answer.items;
      run = rw (kept.0, kept.1) run;
      proof_written = c.in_ok-write_output.ensures.written;
      answer_written = rw c.deref.ensures.value at c.in_ok-write_text.ensures;
    }

pub returns-clause-answer_is_right : goal.returns-clause-answer_is_right
returns-clause-answer_is_right g c =
    says-right standard (g.R.Read.remaining c.args.input) (by_plan c.args.plan) (g.P.Write.contents c.args.proof.now) (g.P.Write.contents c.write_output.new.writer) (g.W.Write.contents c.args.answer.now) (g.W.Write.contents c.write_text.new.writer) (Ok c.write_output.new.output.verdict)
    (returns-clause-says g c)

pub returns-in_err-write_output-clause-says : goal.returns-in_err-write_output-clause-says
returns-in_err-write_output-clause-says g c =
    let known = g.R.Read.remaining c.args.input in
    let old = c.in-Ok-output_of.output in
    let proof = proof_text (before_left old.before ++ lines_left old.lines) in
    let run = IsRunOf-made standard known (by_plan c.args.plan) c.in-Ok.formula old.verdict proof old.answer.items c.in-Ok.ensures (rw c.of-strategy.ensures at c.in-Ok-output_of.ensures.texts) in
    RunSays-stopped standard known (by_plan c.args.plan) (g.P.Write.contents c.args.proof.now) (g.P.Write.contents c.write_output.new.writer) (g.W.Write.contents c.args.answer.now) c.from_residual.result c.in_err-write_output.field-0.0 old.verdict proof old.answer.items (search rules) run
    c.in_err-write_output.ensures.written

pub output_of-requires : goal.output_of-requires
output_of-requires g c =
    let d = c.in-Ok-solve_one.decided in
    let is = alone-decided c.in-Ok.formula c.args.plan d.plan d.begun d.tree c.vars-vars.ensures.within.formula c.in-Ok-solve_one.ensures.chosen c.in-Ok-solve_one.ensures.tree in
    rw c.of-strategy.ensures (record { result = is.0; says = is.1 })
