use Rattle.std.proofs.Common.{◌≡◌, Bool, List, Bor, length, subst}
use Rattle.cubes.proofs.OkLemmas.{if_ok}
use Rattle.strategies.proofs.FoundModels.{found-satisfies, kept-answer}
use Rattle.runs.proofs.model_answer.text_of_found.Goals as goal

pub answer_bytes-requires : goal.answer_bytes-requires
answer_bytes-requires c = λ x is.
    let long : length c.args.model.now ≡ c.args.formula.now.vars = (found-satisfies c.args.formula.now c.args.strategy c.args.plan c.args.model.now c.vars-vars.ensures.within.formula c.requires.found).values in
    let same : c.args.model ≡ x = cc in
    subst (λ (y : Bor (List Bool)). length y.now ≡ c.args.formula.now.vars) same long

pub returns : goal.returns
returns c =
    let is = kept-answer c.args.formula.now c.args.strategy c.args.plan c.args.model.now c.vars-vars.ensures.within.formula c.requires.kept c.requires.found in
    if_ok c.answer_bytes.result _ _ (λ text same. (c.args.model.now, is, same)) c.answer_bytes.ensures
