use Rattle.std.proofs.Common.{rules, ◌≡◌, ◌+◌, length, ap, ◌∙◌}
use Rattle.lrat.specs.Flat.{slots_in}
use Rattle.lrat.proofs.FlatLemmas.{slots-front, slots-push, AreWithin-push, on_err}
use Rattle.lrat.proofs.clauses.append.Goals as goal

pub returns-clause-ok : goal.returns-clause-ok
returns-clause-ok c =
    let w = c.requires in
    let start : c.len-start.result ≡ length c.args.lits.now.items = search rules in
    let end : c.len-end.result ≡ length c.args.lits.now.items + length c.args.clause.now = search rules in
    rw (c.in_ok-extend_from_slice.ensures.items, c.in_ok-push.ensures.items) (slots-push c.args.lits.now.items c.args.clause.now c.args.heads.now.items _ w start end)

pub returns-clause-within : goal.returns-clause-within
returns-clause-within c =
    let start : c.len-start.result ≡ length c.args.lits.now.items = search rules in
    let end : c.len-end.result ≡ length c.args.lits.now.items + length c.args.clause.now = search rules in
    rw (c.in_ok-extend_from_slice.ensures.items, c.in_ok-push.ensures.items) (AreWithin-push c.args.lits.now.items c.args.clause.now c.args.heads.now.items _ c.requires start end)

pub returns-in_err-push-clause-err : goal.returns-in_err-push-clause-err
returns-in_err-push-clause-err c =
    on_err c.from_residual-in_err-push.result _ (
      c.in_err-push.ensures.items,
      ap (λ ks. slots_in c.extend_from_slice.new.self.items ks) c.in_err-push.ensures.items
          ∙ ap (λ xs. slots_in xs c.args.heads.now.items) c.in_ok-extend_from_slice.ensures.items
          ∙ slots-front c.args.lits.now.items c.args.clause.now c.args.heads.now.items c.requires,
    )
