use Rattle.std.proofs.Common.{◌≡◌, ◌∙◌, ◌++◌, ◌∷◌, [], List, refl, ap, ap₂}
use Rattle.theory.specs.Literals.{Clause}
use Rattle.theory.specs.Truth.{Formula}
use Rattle.session.specs.Naming.{clauses_outward}
use Rattle.session.specs.State.{State}
use Rattle.session.proofs.NamingLemmas.{clauses-same, clauses-pushed, OnErr-both}
use Rattle.session.proofs.session.Session.add_clause.Goals as goal

pub returns-in_err-put_numbers-clause-refused : goal.returns-in_err-put_numbers-clause-refused
returns-in_err-put_numbers-clause-refused c =
    let G = c.self.inside.formula in
    OnErr-both c.from_residual.result (refl, clauses-same c.self.inside.names c.put_numbers.new.self c.put_numbers.ensures.more G.clauses c.self.invariant.0.clauses ∙ ap (λ (s : State). s.formula.clauses) c.self.view_is)

pub returns-in_err-push-clause-refused : goal.returns-in_err-push-clause-refused
returns-in_err-push-clause-refused c =
    let N = c.self.inside.names in
    let P = c.put_numbers.new.self in
    let G = c.self.inside.formula in
    let same : c.push.new.self.clauses ≡ G.clauses = ap (λ (f : Formula). f.clauses) c.in_err-push.ensures.refused ∙ ap (λ (f : Formula). f.clauses) c.widen.ensures in
    OnErr-both c.from_residual-in_err-push.result (refl, ap (clauses_outward P) same ∙ (clauses-same N P c.put_numbers.ensures.more G.clauses c.self.invariant.0.clauses ∙ ap (λ (s : State). s.formula.clauses) c.self.view_is))

pub returns-clause-added : goal.returns-clause-added
returns-clause-added c =
    let N = c.self.inside.names in
    let P = c.put_numbers.new.self in
    let G = c.self.inside.formula in
    let lits = c.put_numbers.new.numbered.items in
    let pushed : c.push.new.self.clauses ≡ G.clauses ++ lits ∷ [] = ap (λ (f : Formula). f.clauses) c.in_ok-push.ensures.pushed ∙ ap₂ (λ (K : List Clause) (d : Clause). K ++ d ∷ []) (ap (λ (f : Formula). f.clauses) c.widen.ensures) c.deref.ensures.value in
    ap (clauses_outward P) pushed
    ∙ (clauses-pushed N P G.clauses lits c.args.clause.now c.put_numbers.ensures.more c.self.invariant.0.clauses c.in_ok-put_numbers.ensures.outward ∙ ap (λ (s : State). s.formula.clauses ++ c.args.clause.now ∷ []) c.self.view_is)
