use Rattle.std.proofs.Common.{◌∙◌}
use Rattle.lrat.specs.Extended.{checked_formula}
use Rattle.lrat.specs.Running.{stream_of, vars_of}
use Rattle.cnf.specs.Limits.{limits_of}
use Rattle.runs.proofs.CheckRuns.{allowed-fits}
use Rattle.runs.proofs.StreamedLemmas.{said-of_text}
use Rattle.runs.proofs.check.judge.Goals as goal

pub returns : goal.returns
returns g c =
    let fed = c.in_ok-feed_all.ensures in
    let stream = c.in-Ok.stream in
    record {
      bytes = fed.bytes;
      are = fed.are;
      says = λ r reads. said-of_text (limits_of c.args.rules.limits) (checked_formula (limits_of c.args.rules.limits) c.args.rules.variables c.args.formula) (vars_of stream) (stream_of stream) (stream_of c.feed_all.new.stream) fed.bytes r c.verdict_within-verdict.result reads (c.in-Ok.ensures.vars ∙ c.allowed-vars.ensures) c.in-Ok.ensures.begin fed.fed c.verdict_within-verdict.ensures;
    }

pub over-requires : goal.over-requires
over-requires g c = rw c.allowed-vars.ensures (allowed-fits (limits_of c.args.rules.limits) c.args.rules.variables c.args.formula)
