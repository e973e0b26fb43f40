use Rattle.std.proofs.Common.{refl}
use Rattle.theory.specs.Learning.{Line}
use Rattle.packs.proofs.ForgottenLemmas.{forgetting-own}
use Rattle.packs.proofs.replay.forgotten.Forgotten.add_line.Goals as goal

pub returns-clause-forgetting : goal.returns-clause-forgetting
returns-clause-forgetting c = λ gone clause same.
    let old = c.args.self.now in
    let line : Line = record { clause = clause; hints = c.args.hints.now; forgets = c.args.forgets.now } in (
      λ _. (forgetting-own old.first _ old.marks.items gone line refl same).0 (c.is_clear.ensures.0 c.if-not-is_clear.false, c.if-not-forget.ensures.own.0 refl),
      λ _. refl,
    )
