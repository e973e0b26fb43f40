use Rattle.std.proofs.Common.{◌≡◌, ◌∙◌, [], sym, ap, subst}
use Rattle.theory.specs.Reading.{end_of}
use Rattle.cnf.specs.Faults.{IsReadAs}
use Rattle.cnf.specs.Words.{word_at}
use Rattle.cnf.specs.Machine.{TakesToken, run, reading_of}
use Rattle.std.proofs.lemmas.Result.{err_from_is_err_and}
use Rattle.cnf.specs.Clauses.{state_of}
use Rattle.cnf.specs.Limits.{limits_of}
use Rattle.cnf.specs.Tokens.{behind_header}
use Rattle.cnf.proofs.ReadLemmas.{refuses-same, taken, refused, at_text_end}
use Rattle.cnf.proofs.clauses.read_clauses.Goals as goal

pub returns-in_err-take : goal.returns-in_err-take
returns-in_err-take c =
    let n = c.read_number-number.ensures in
    let L = limits_of c.args.limits in
    let word = word_at c.args.bytes.now c.loop-at.at c.read_number-number.result.end in
    let p = err_from_is_err_and c.from_residual.result c.from_residual.ensures.1 in
    let same : limits_of c.loop-at.clauses.limits ≡ L = ap limits_of c.loop-at.invariant.2 in
    rw (p.1, p.2)
    (refused L (state_of c.loop-at.clauses) c.args.bytes.now c.loop-at.at c.read_number-number.result.end c.loop-at.invariant.3 n.word n.within n.end _ c.requires.short
    (refuses-same L (limits_of c.loop-at.clauses.limits) (state_of c.loop-at.clauses) word _ same c.in_err-take.ensures.state))

pub loop-at-preserved : goal.loop-at-preserved
loop-at-preserved c =
    let n = c.read_number-number.ensures in
    let k = c.skip_to_token-at-in-loop-at.ensures in (
      k.within,
      k.word,
      c.in_ok-take.ensures.limits ∙ c.loop-at.invariant.2,
      taken (limits_of c.args.limits) (state_of c.loop-at.clauses) c.args.bytes.now c.loop-at.at c.read_number-number.result.end c.loop-at.invariant.3 n.word n.within n.end
          (state_of c.take.new.self) c.skip_to_token-at-in-loop-at.result (subst (λ l. TakesToken (limits_of l) (state_of c.loop-at.clauses) (word_at c.args.bytes.now c.loop-at.at c.read_number-number.result.end) (state_of c.take.new.self)) c.loop-at.invariant.2 c.in_ok-take.ensures.state) (k.tokens behind_header (λ x. cc)),
    )

pub finish-requires-clause-all : goal.finish-requires-clause-all
finish-requires-clause-all c =
    subst (λ l. reading_of (limits_of l) c.args.bytes.now ≡ run (limits_of l) (state_of c.loop-at.clauses) [] (end_of c.args.bytes.now)) (sym c.loop-at.invariant.2)
    (at_text_end (limits_of c.args.limits) (state_of c.loop-at.clauses) c.args.bytes.now c.loop-at.at c.loop-at-test.false c.loop-at.invariant.3)

pub returns : goal.returns
returns c = subst (λ l. IsReadAs (limits_of l) c.args.bytes.now c.finish.result) c.loop-at.invariant.2 c.finish.ensures
