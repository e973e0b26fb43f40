use Rattle.std.proofs.Common.{sym, ◌∙◌, arith, subst, ◌≡◌, ◌+◌, ◌++◌, map, length}
use Rattle.tidying.specs.Tidied.{once, open_clauses}
use Rattle.tidying.specs.Texts.{clauses_text}
use Rattle.tidying.proofs.TextLemmas.{clause-at, passed-over, stays, text-more, count-more}
use Rattle.tidying.proofs.text.lines_of.Goals.{then-is_open+in_ok-append_clause, else-is_open}
use Rattle.tidying.proofs.text.lines_of.Goals as goal

pub loop-place-preserved : goal.loop-place-preserved
loop-place-preserved c =
    let F = c.args.formula.now in
    let before = c.loop-place.invariant in
    let count = c.clause_count-place-end.ensures.count in
    let test = c.loop-place-test.true in
    let is = clause-at F.clauses c.loop-place.place c.clause.result.now c.clause.ensures.clause in
    elim c.if-is_open.branch [
      | then-is_open+in_ok-append_clause w ↦
          let kept = w.if-is_open.true in
          let split = stays F.clauses c.loop-place.place c.clause.result.now (omega (arith, count, test)) is (sym c.in_ok-is_open.ensures.both ∙ kept) in
          rw w.lines-is record {
            text = text-more _ c.loop-place.lines.text.items w.append_clause.new.text.items w.literals.result.now c.clause.result.now _ _ split (w.literals.ensures ∙ c.in_ok-is_open.ensures.once kept) before.text w.in_ok-append_clause.ensures;
            count = count-more _ c.loop-place.lines.count c.clause.result.now _ _ split before.count;
            few = (let few = before.few in omega (arith, few));
            vars = c.take.ensures.vars ∙ before.vars;
          }
      | else-is_open w ↦
          let both = w.if-is_open.false in
          let rest = passed-over F.clauses c.loop-place.place c.clause.result.now (omega (arith, count, test)) is (sym c.in_ok-is_open.ensures.both ∙ both) in
          rw w.lines-is record {
            text = subst (λ x. c.loop-place.lines.text.items ++ clauses_text (map once x) ≡ clauses_text (map once (open_clauses F.clauses))) rest before.text;
            count = subst (λ x. c.loop-place.lines.count + length (map once x) ≡ length (map once (open_clauses F.clauses))) rest before.count;
            few = (let few = before.few in omega (arith, few));
            vars = c.take.ensures.vars ∙ before.vars;
          }
    ]
