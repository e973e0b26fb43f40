use Rattle.std.proofs.Common.{◌+◌, ◌++◌, ◌∷◌, [], ap, sym, ◌∙◌, arith, take}
use Rattle.std.proofs.lemmas.List.{take_more, take_all}
use Rattle.cnf.specs.Lits.{code}
use Rattle.lines.specs.Rows.{clause_part}
use Rattle.lines.proofs.LineLemmas.{clause-more, clause-ends}
use Rattle.lines.proofs.PlacedLemmas.{front-within}
use Rattle.lines.proofs.placed.place_clause.Goals as goal

pub loop-lit-preserved : goal.loop-lit-preserved
loop-lit-preserved c =
    let l = c.lit-item.result in
    let at = c.loop-lit.lit-index in
    let xs = c.args.clause.now in
    let v = c.loop-lit.invariant in
    let old = take c.loop-lit.end c.loop-lit.bytes in
    let new = take c.place_number-end.result c.place_number-end.new.bytes in
    let longer = take_more xs at l c.loop-lit-test.true ∙ ap (λ x. take at xs ++ x ∷ []) (sym c.lit-item.is) in
    let small = c.place_number-end.ensures.small (omega (arith, c.code_number.ensures.small)) in
    record {
      behind = omega (arith, v.behind, c.place_number-end.ensures.behind);
      within = omega (arith, v.within, small);
      room = omega (arith, v.room, small, c.loop-lit-test.true, c.place_number-end.auto.bytes);
      front = front-within _ _ c.args.at c.loop-lit.end v.behind c.place_number-end.ensures.front ∙ v.front;
      clause = λ lines e. clause-more lines (take at xs) old new c.loop-lit.last c.code_number.result l c.code_number.ensures.some
          (c.code_number.ensures.code ∙ c.code-code.ensures.code) c.code-code.ensures.some (v.clause lines e) c.place_number-end.ensures.number
          ∙ ap (λ x. clause_part lines x (code l)) (sym longer) ∙ ap (λ n. clause_part lines (take (at + 1) xs) n) (sym c.code-code.ensures.code);
    }

pub returns-clause-front : goal.returns-clause-front
returns-clause-front c = front-within _ _ c.args.at c.loop-lit.end c.loop-lit.invariant.behind c.place_number.ensures.front ∙ c.loop-lit.invariant.front

pub returns-clause-clause : goal.returns-clause-clause
returns-clause-clause c = λ lines e.
    let all = ap (λ x. clause_part lines x c.loop-lit.last) (take_all c.loop-lit.lit-index c.args.clause.now c.loop-lit-test.false) in
    clause-ends lines c.args.clause.now (take c.loop-lit.end c.loop-lit.bytes) (take c.place_number.result c.place_number.new.bytes) c.loop-lit.last
    (c.loop-lit.invariant.clause lines e ∙ all) c.place_number.ensures.number
