use Rattle.std.proofs.Common.{◌≡◌, ◌≤◌, subst, ◌∙◌, List, Some, None, sym, ap}
use Rattle.std.proofs.lemmas.Result.{err_from_is_err_and}
use Rattle.theory.specs.Tokens.{Place}
use Rattle.theory.specs.Reading.{Placed, refusal, bad_header, end_of}
use Rattle.theory.proofs.reading.ReadingMachine.{at_cnf, at_vars, at_clauses, at_header_end}
use Rattle.cnf.specs.Tokens.{in_header}
use Rattle.cnf.specs.Limits.{limits_of}
use Rattle.cnf.specs.Machine.{run, reads_from, reading_of}
use Rattle.cnf.proofs.FaultLemmas.{IsRefusal-same}
use Rattle.cnf.proofs.HeaderLemmas.{fifth-refused, line-ends, header_end-read}
use Rattle.cnf.proofs.header.read_header.Goals as goal

pub returns-in_err-p : goal.returns-in_err-p
returns-in_err-p c =
    let p = err_from_is_err_and c.from_residual.result c.from_residual.ensures.1 in
    rw (p.1, p.2) (c.in_err-p.ensures (limits_of c.args.limits))

pub read_cnf-requires : goal.read_cnf-requires
read_cnf-requires c = (c.in_ok-p.ensures (limits_of c.args.limits)).0

pub returns-in_err-cnf : goal.returns-in_err-cnf
returns-in_err-cnf c =
    let b = c.args.bytes.now in
    let L = limits_of c.args.limits in
    let p = err_from_is_err_and c.from_residual-in_err-cnf.result c.from_residual-in_err-cnf.ensures.1 in
    rw (p.1, p.2) (IsRefusal-same (reading_of L b) (reads_from L at_cnf in_header b c.in_ok-p.p) _ (c.in_ok-p.ensures L).1 (c.in_err-cnf.ensures L))

pub read_count-requires-clause-within : goal.read_count-requires-clause-within
read_count-requires-clause-within c = (c.in_ok-cnf.ensures (limits_of c.args.limits)).0

pub returns-in_err-vars : goal.returns-in_err-vars
returns-in_err-vars c =
    let b = c.args.bytes.now in
    let L = limits_of c.args.limits in
    let p = err_from_is_err_and c.from_residual-in_err-vars.result c.from_residual-in_err-vars.ensures.1 in
    let so_far : reading_of L b ≡ reads_from L at_vars in_header b c.in_ok-cnf.cnf = (c.in_ok-p.ensures L).1 ∙ (c.in_ok-cnf.ensures L).1 in
    rw (p.1, p.2) (IsRefusal-same (reading_of L b) (reads_from L at_vars in_header b c.in_ok-cnf.cnf) _ so_far (c.in_err-vars.ensures L None c.vars.ensures.is))

pub read_count-requires-2-clause-within : goal.read_count-requires-2-clause-within
read_count-requires-2-clause-within c = (c.in_ok-vars.ensures (limits_of c.args.limits) None c.vars.ensures.is).0

pub returns-in_err-clauses : goal.returns-in_err-clauses
returns-in_err-clauses c =
    let b = c.args.bytes.now in
    let L = limits_of c.args.limits in
    let V = c.in_ok-vars.vars.size in
    let p = err_from_is_err_and c.from_residual-in_err-clauses.result c.from_residual-in_err-clauses.ensures.1 in
    let so_far : reading_of L b ≡ reads_from L (at_clauses c.in_ok-vars.vars.size) in_header b c.in_ok-vars.vars.end = (c.in_ok-p.ensures L).1 ∙ (c.in_ok-cnf.ensures L).1 ∙ (c.in_ok-vars.ensures L None c.vars.ensures.is).2 in
    rw (p.1, p.2) (IsRefusal-same (reading_of L b) (reads_from L (at_clauses V) in_header b c.in_ok-vars.vars.end) _ so_far (c.in_err-clauses.ensures L (Some V) c.clauses.ensures.is))

pub skip_blanks-end-requires : goal.skip_blanks-end-requires
skip_blanks-end-requires c = (c.in_ok-clauses.ensures (limits_of c.args.limits) (Some c.in_ok-vars.vars.size) c.clauses.ensures.is).0

pub returns-then-end-word_end : goal.returns-then-end-word_end
returns-then-end-word_end c =
    let b = c.args.bytes.now in
    let L = limits_of c.args.limits in
    let V = c.in_ok-vars.vars.size in
    let C = c.in_ok-clauses.clauses.size in
    let w = c.word_end.ensures in
    (c.in_ok-p.ensures L).1 ∙ (c.in_ok-cnf.ensures L).1 ∙ (c.in_ok-vars.ensures L None c.vars.ensures.is).2 ∙ (c.in_ok-clauses.ensures L (Some V) c.clauses.ensures.is).2
    ∙ ap (λ (ts : List Placed). run L (at_header_end V C) ts (end_of b)) (sym c.skip_blanks-end.ensures.tokens)
    ∙ fifth-refused L V C b c.skip_blanks-end.result c.word_end.result (record { above = w.above; within = w.within; all = w.all; end = w.end }) c.if-end-word_end.true
    ∙ ap (λ (p : Place). refusal bad_header p) (sym c.place_at.ensures)

pub returns : goal.returns
returns c =
    let b = c.args.bytes.now in
    let L = limits_of c.args.limits in
    let V = c.in_ok-vars.vars.size in
    let C = c.in_ok-clauses.clauses.size in
    let w = c.word_end.ensures in (
      c.skip_blanks-end.ensures.within,
      subst (λ n. c.in_ok-vars.vars.size ≤ n) c.vars.ensures.is (c.in_ok-vars.ensures L None c.vars.ensures.is).1,
      subst (λ n. c.in_ok-clauses.clauses.size ≤ n) c.clauses.ensures.is (c.in_ok-clauses.ensures L (Some V) c.clauses.ensures.is).1,
      (c.in_ok-p.ensures L).1 ∙ (c.in_ok-cnf.ensures L).1 ∙ (c.in_ok-vars.ensures L None c.vars.ensures.is).2 ∙ (c.in_ok-clauses.ensures L (Some V) c.clauses.ensures.is).2
          ∙ ap (λ (ts : List Placed). run L (at_header_end V C) ts (end_of b)) (sym c.skip_blanks-end.ensures.tokens)
          ∙ header_end-read L V C b c.skip_blanks-end.result
          (line-ends b c.skip_blanks-end.result c.word_end.result (record { above = w.above; within = w.within; all = w.all; end = w.end }) c.if-end-word_end.false c.skip_blanks-end.ensures.end),
    )
