use Rattle.std.proofs.Common.{◌+◌, ◌++◌, ◌∷◌, [], ap, sym, ◌∙◌, take}
use Rattle.std.proofs.lemmas.List.{take_more, take_all}
use Rattle.cnf.specs.Lits.{code}
use Rattle.lines.specs.Rows.{clause_part}
use Rattle.lines.proofs.LineLemmas.{front-front, clause-more, clause-ends}
use Rattle.lines.proofs.line.push_clause.Goals as goal

pub loop-lit-preserved : goal.loop-lit-preserved
loop-lit-preserved c =
    let l = c.lit-item.result in
    let at = c.loop-lit.lit-index in
    let xs = c.args.clause.now in
    let old = c.loop-lit.bytes.items in
    let new = c.push_number.new.bytes.items in
    let longer = take_more xs at l c.loop-lit-test.true ∙ ap (λ x. take at xs ++ x ∷ []) (sym c.lit-item.is) in (
      front-front c.args.bytes.now.items old new c.loop-lit.invariant.0 c.in_ok-push_number.ensures.front,
      λ lines e. clause-more lines (take at xs) old new c.loop-lit.last c.code_number.result l c.code_number.ensures.some
          (c.code_number.ensures.code ∙ c.code-code.ensures.code) c.code-code.ensures.some (c.loop-lit.invariant.1 lines e) c.in_ok-push_number.ensures.number
          ∙ ap (λ c. clause_part lines c (code l)) (sym longer) ∙ ap (λ n. clause_part lines (take (at + 1) xs) n) (sym c.code-code.ensures.code),
    )

pub returns-clause-clause : goal.returns-clause-clause
returns-clause-clause c = λ lines e.
    let whole_clause = ap (λ x. clause_part lines x c.loop-lit.last) (take_all c.loop-lit.lit-index c.args.clause.now c.loop-lit-test.false) in
    clause-ends lines c.args.clause.now c.loop-lit.bytes.items c.push_number-2.new.bytes.items c.loop-lit.last (c.loop-lit.invariant.1 lines e ∙ whole_clause) c.in_ok-push_number-2.ensures.number
