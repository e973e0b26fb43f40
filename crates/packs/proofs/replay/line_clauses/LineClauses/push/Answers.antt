use Rattle.std.proofs.Common.{◌≡◌, ap, ◌∙◌, ◌+◌, length, arith, length-append}
use Rattle.cnf.proofs.Pieces.{pieces-push, AreEnds-push}
use Rattle.packs.proofs.replay.line_clauses.LineClauses.push.Goals as goal

-- the end of the clause put behind the others
end : (c : goal.In-Ok) → c.len-end.result ≡ length c.self.inside.literals.items + length c.args.clause.now
end c = c.len-end.ensures ∙ (c.extend_from_slice.new.self.ok.0 ∙ (ap length c.in_ok-extend_from_slice.ensures.items ∙ length-append c.self.inside.literals.items c.args.clause.now))

pub invariant_of-self-in-Ok : goal.invariant_of-self-in-Ok
invariant_of-self-in-Ok c =
    let last = end c in
    rw (c.in-Ok.ensures.items, c.in_ok-extend_from_slice.ensures.items, length-append, ← last) (AreEnds-push _ _ _ _ c.self.invariant (omega arith))

pub returns-in-Ok-clause-ok : goal.returns-in-Ok-clause-ok
returns-in-Ok-clause-ok c =
    rw (c.in-Ok.ensures.items, c.in_ok-extend_from_slice.ensures.items, ← c.self.view_is)
    (pieces-push _ _ _ _ _ c.self.invariant (end c))
