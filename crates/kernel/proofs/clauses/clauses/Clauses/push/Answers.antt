use Rattle.std.proofs.Common.{◌≡◌, ap, ◌∙◌, ◌+◌, length, arith, length-append, sym}
use Rattle.cnf.specs.Pieces.{pieces}
use Rattle.kernel.specs.Shown.{shown}
use Rattle.cnf.proofs.Pieces.{pieces-push, AreEnds-push, length-pieces}
use Rattle.kernel.proofs.Shown.{shown-more, some-there}
use Rattle.kernel.proofs.clauses.clauses.Clauses.push.Goals.{else-is_empty-via-then-is_empty+else-self-len, else-is_empty-via-else-is_empty}
use Rattle.kernel.proofs.clauses.clauses.Clauses.push.Goals as goal

-- the end of the clause put behind the others
end : (c : goal.In-Ok) → c.len-end.result ≡ length c.self.inside.lits.items + length c.args.clause.now
end c = c.len-end.ensures ∙ (c.put_literals.new.literals.ok.0 ∙ (ap length c.in_ok-put_literals.ensures.ok ∙ length-append c.self.inside.lits.items c.args.clause.now))

pub invariant_of-self-in-Ok : goal.invariant_of-self-in-Ok
invariant_of-self-in-Ok c =
    let last = end c in
    rw (c.in-Ok.ensures.items, c.in_ok-put_literals.ensures.ok, length-append, ← last) (AreEnds-push _ _ _ _ c.self.invariant.0 (omega arith), c.self.invariant.1)

pub returns-in-Ok-clause-ok : goal.returns-in-Ok-clause-ok
returns-in-Ok-clause-ok c =
    rw (c.in-Ok.ensures.items, c.in_ok-put_literals.ensures.ok, ← c.self.view_is)
    (ap (shown c.self.inside.first) (pieces-push _ _ _ _ _ c.self.invariant.0 (end c))
    ∙ shown-more c.self.inside.first (length c.self.inside.ends.items) (pieces 0 c.self.inside.lits.items c.self.inside.ends.items) c.args.clause.now (sym (length-pieces _ _ _)) (λ none. elim c.else-is_empty.branch [
      | else-is_empty-via-then-is_empty+else-self-len w ↦ (let long = w.len.ensures in let same = c.self.inside.ends.ok.0 in omega (arith, w.if-self-len.false, long, same))
      | else-is_empty-via-else-is_empty w ↦ absurd (some-there _ w.if-is_empty.ensures none)
    ]))
