use Rattle.std.proofs.Common.{◌≡◌, ◌<◌, ◌⊎◌, inl, inr, true, length, sym, subst, arith}
use Rattle.std.specs.List.{slice_range}
use Rattle.std.proofs.lemmas.Result.{MatchResult-weaker}
use Rattle.theory.proofs.reading.ReadingMachine.{ReaderState}
use Rattle.cnf.specs.Clauses.{state_of}
use Rattle.cnf.specs.Tokens.{place_at}
use Rattle.cnf.specs.Words.{word_at}
use Rattle.cnf.specs.Limits.{limits_of}
use Rattle.cnf.specs.Machine.{TakesToken}
use Rattle.cnf.proofs.BodyLemmas.{says-number, says-size, takes-zero}
use Rattle.cnf.proofs.clauses.Clauses.take.Goals as goal
use Rattle.cnf.proofs.clauses.Clauses.take.Goals.{else-not-number-via-then-not-number+else-not-number-2, else-not-number-via-else-not-number}

pub returns-then-number-eq0-clause-state : goal.returns-then-number-eq0-clause-state
returns-then-number-eq0-clause-state c =
    let s = c.args.self.now in
    let n = c.args.number.now in
    let text = slice_range c.args.bytes.now c.args.start n.end in
    let says : (n.natural ≡ true) ⊎ (n.negative ≡ true) = elim c.else-not-number.branch [
      | else-not-number-via-then-not-number+else-not-number-2 w ↦ inr w.if-not-number-2.false
      | else-not-number-via-else-not-number w ↦ inl w.if-not-number.false
    ] in
    let number = says-number text n.natural n.negative n.size c.requires.number says in
    let size = says-size text n.natural n.negative n.size c.requires.number says in
    let cs = s.whole in
    let room : length cs < s.wanted = omega arith in
    MatchResult-weaker c.end_clause.result c.end_clause.ensures.state
    (λ x p. subst (λ (next : ReaderState). TakesToken (limits_of s.limits) (state_of s) (word_at c.args.bytes.now c.args.start n.end) next) (sym p) (takes-zero (limits_of s.limits) s.vars s.wanted cs s.begun.items text (place_at c.args.bytes.now c.args.start) number room (omega arith)))
    (λ e p. rw p tt)
