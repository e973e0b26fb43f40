use Rattle.std.proofs.Common.{sym, ◌∙◌, subst}
use Rattle.theory.specs.Literals.{Clause, has_both_signs}
use Rattle.theory.proofs.literals.LiteralLemmas.{not_true}
use Rattle.simplify.specs.Entries.{IsSet}
use Rattle.simplify.proofs.LiteralSets.{IsSet-set}
use Rattle.simplify.proofs.database.Database.put.Goals as goal

pub push-requires : goal.push-requires
push-requires c =
    let put = c.in_ok-put_set.ensures in
    let yes = c.if-branch.true in
    subst (λ (s : Clause). IsSet c.args.self.now.vars s) (sym (c.deref.ensures.value ∙ put.set))
    (IsSet-set c.args.self.now.vars c.args.clause.now (not_true (has_both_signs c.args.clause.now) (sym put.one_sign ∙ yes)) c.requires)
