use Rattle.std.proofs.Common.{◌≡◌, ◌∙◌, None, ap, sym, subst}
use Rattle.theory.specs.Literals.{Clause, negated, without}
use Rattle.theory.specs.Trails.{Entry}
use Rattle.theory.specs.Propagation.{clause_at}
use Rattle.cdcl.specs.Marks.{IsSet}
use Rattle.cdcl.proofs.ArrangedClauses.{others-arranged, resolved-arranged}
use Rattle.cdcl.proofs.WalkLemmas.{Resolves-used, Resolves-passed}
use Rattle.cdcl.proofs.BelowLemmas.{open-below, entry-reason, settled-arranged}
use Rattle.cdcl.proofs.analysis.below.look_below.Goals as goal

pub arranged-requires : goal.arranged-requires
arranged-requires c =
    let m = c.requires.marks in
    (entry-reason c.args.kernel.now m.bound c.args.entry c.in-Some.number m.lawful m.at (sym (ap (λ (e : Entry). e.reason) c.entry.view_is) ∙ c.in-Some.is)).numbered

pub resolve-requires : goal.resolve-requires
resolve-requires c =
    let m = c.requires.marks in
    let k = c.args.kernel.now in
    let reason = sym (ap (λ (e : Entry). e.reason) c.entry.view_is) ∙ c.in-Some.is in
    record {
      marks = record {
        lawful = m.lawful;
        over = m.over;
        lower = m.lower;
        removable = m.removable;
        set = m.set;
        bound = m.bound;
        is = m.is;
        at = m.at;
        is_in = (open-below k m.removable m.set m.bound c.args.entry c.args.marks.now m.lawful m.lower m.at m.is_open_there m.is).0;
        below = others-arranged _ _ _ c.args.entry.lit c.arranged.ensures (entry-reason k m.bound c.args.entry c.in-Some.number m.lawful m.at reason).others;
        settled = settled-arranged k.trail m.removable (without m.set (negated c.args.entry.lit)) (clause_at k.clauses c.in-Some.number) c.arranged.result.now c.args.entry.lit c.arranged.ensures (m.settled c.in-Some.number reason);
      };
    }

pub returns-in_ok-put_last : goal.returns-in_ok-put_last
returns-in_ok-put_last c = record {
  set = λ R S bound at o settled h.
      let m = c.requires.marks in
      let k = c.args.kernel.now in
      let reason = sym (ap (λ (e : Entry). e.reason) c.entry.view_is) ∙ c.in-Some.is in
      let opened = open-below k R S bound c.args.entry c.args.marks.now m.lawful m.lower at o h in
      let others = (entry-reason k bound c.args.entry c.in-Some.number m.lawful at reason).others in
      Resolves-used k c.in-Some.number c.args.entry S bound c.args.hints.now.items _ c.resolve.new.marks (sym reason ∙ opened.1)
      (subst (λ (N : Clause). IsSet k R N bound c.resolve.new.marks)
      (resolved-arranged k S (clause_at k.clauses c.in-Some.number) c.arranged.result.now c.args.entry.lit bound c.args.marks.now m.lawful c.arranged.ensures h others)
      (c.in_ok-resolve.ensures.set R S bound at opened.0 (others-arranged _ _ _ c.args.entry.lit c.arranged.ensures others)
      (settled-arranged k.trail R (without S (negated c.args.entry.lit)) (clause_at k.clauses c.in-Some.number) c.arranged.result.now c.args.entry.lit c.arranged.ensures (settled c.in-Some.number reason)) h))
      c.in_ok-put_last.ensures.ok;
}

pub returns-in_default : goal.returns-in_default
returns-in_default c = record {
  set = λ R S bound at o settled h.
      let m = c.requires.marks in
      let k = c.args.kernel.now in
      let none : c.args.entry.reason ≡ None = sym (ap (λ (e : Entry). e.reason) c.entry.view_is) ∙ c.in_default.is in
      Resolves-passed k c.args.entry S bound c.args.hints.now.items c.args.marks.now (sym none ∙ (open-below k R S bound c.args.entry c.args.marks.now m.lawful m.lower at o h).1) h;
}
