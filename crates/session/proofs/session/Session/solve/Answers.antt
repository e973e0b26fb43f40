use Rattle.std.proofs.Common.{◌≡◌, ◌∙◌, length, ap, sym, subst}
use Rattle.theory.specs.Truth.{Formula, IsOver}
use Rattle.session.specs.Naming.{clauses_outward, all_outward}
use Rattle.session.specs.State.{State}
use Rattle.session.proofs.NamingLemmas.{clauses-same, Says-named, IsNumbered-widened, IsOverIfCore-says}
use Rattle.session.proofs.session.Session.solve.Goals as goal

pub returns-in_err-put_numbers-clause-clauses : goal.returns-in_err-put_numbers-clause-clauses
returns-in_err-put_numbers-clause-clauses g c =
    clauses-same c.self.inside.names c.put_numbers.new.self c.put_numbers.ensures.more c.self.inside.formula.clauses c.self.invariant.0.clauses ∙ ap (λ (s : State). s.formula.clauses) c.self.view_is

pub returns-in_err-numbered-clause-clauses : goal.returns-in_err-numbered-clause-clauses
returns-in_err-numbered-clause-clauses g c =
    let P = c.put_numbers.new.self in
    ap (λ (f : Formula). clauses_outward P f.clauses) c.widen.ensures ∙ (clauses-same c.self.inside.names P c.put_numbers.ensures.more c.self.inside.formula.clauses c.self.invariant.0.clauses ∙ ap (λ (s : State). s.formula.clauses) c.self.view_is)

pub answer-requires-2 : goal.answer-requires-2
answer-requires-2 g c =
    let V = length c.put_numbers.new.self.variables in
    IsOverIfCore-says V c.widen.new.self c.deref.result.now _ c.in_ok-numbered.numbered (subst (IsOver V) (sym c.deref.ensures.value) c.in_ok-put_numbers.ensures.over) c.in_ok-numbered.ensures.says

pub returns-in_err-answer-clause-clauses : goal.returns-in_err-answer-clause-clauses
returns-in_err-answer-clause-clauses g c =
    let P = c.put_numbers.new.self in
    ap (λ (f : Formula). clauses_outward P f.clauses) c.widen.ensures ∙ (clauses-same c.self.inside.names P c.put_numbers.ensures.more c.self.inside.formula.clauses c.self.invariant.0.clauses ∙ ap (λ (s : State). s.formula.clauses) c.self.view_is)

pub returns-clause-says : goal.returns-clause-says
returns-clause-says g c =
    let N = c.self.inside.names in
    let P = c.put_numbers.new.self in
    let G = c.widen.new.self in
    let B = c.deref.result.now in
    let over : IsOver (length P.variables) B = subst (IsOver (length P.variables)) (sym c.deref.ensures.value) c.in_ok-put_numbers.ensures.over in
    let named : all_outward P B ≡ c.args.assumptions.now = ap (all_outward P) c.deref.ensures.value ∙ c.in_ok-put_numbers.ensures.outward in
    Says-named P G B c.args.assumptions.now _ c.in_ok-numbered.numbered c.in_ok-answer.answer c.count.ensures.naming
    (IsNumbered-widened N P c.self.inside.formula G c.count.result c.put_numbers.ensures.more c.count.ensures.count c.widen.ensures c.self.invariant.0) over named c.in_ok-numbered.ensures.says c.in_ok-answer.ensures

pub returns-clause-clauses : goal.returns-clause-clauses
returns-clause-clauses g c =
    let P = c.put_numbers.new.self in
    ap (λ (f : Formula). clauses_outward P f.clauses) c.widen.ensures ∙ (clauses-same c.self.inside.names P c.put_numbers.ensures.more c.self.inside.formula.clauses c.self.invariant.0.clauses ∙ ap (λ (s : State). s.formula.clauses) c.self.view_is)
