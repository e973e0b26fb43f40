use Rattle.std.proofs.Common.{◌≡◌, ◌∙◌, ◌++◌, ◌∷◌, [], ap, sym, subst}
use Rattle.theory.specs.Literals.{IsVariable}
use Rattle.theory.specs.Truth.{Assignment, AreTrue, Satisfies, value}
use Rattle.theory.specs.Pure.{first_clauses, unit_clauses}
use Rattle.session.specs.Answers.{IsCore}
use Rattle.strategies.specs.Lowering.{IsAsked}
use Rattle.strategies.proofs.AskedSessions.{asked-there, none-asked, model-asked}
use Rattle.strategies.proofs.lowering.question.Questions.ask.Goals.{in-Some, in-None+in_ok-session-in-None, in-Model+in_ok-values_up_to-in-Model, in-Unsatisfiable, in-Unknown}
use Rattle.strategies.proofs.lowering.question.Questions.ask.Goals as goal

pub returns-clause-reply : goal.returns-clause-reply
returns-clause-reply g c =
    let F = c.args.formula.now in
    let P = c.args.settled.now in
    let l = c.args.lit in
    let asked : IsAsked F P c.match-take.session = elim c.match-take.branch [
      | in-Some w ↦ rw w.session-is (asked-there F P c.args.self.now.session w.in-Some.session (sym c.take.ensures.value ∙ w.in-Some.is) c.requires.session)
      | in-None+in_ok-session-in-None w ↦ rw w.session-is w.in_ok-session-in-None.ensures
    ] in
    let G = c.solve.new.self.formula in
    let clauses : G.clauses ≡ first_clauses F ++ unit_clauses P = c.solve.ensures.clauses ∙ asked in
    elim c.match-answer.branch [
      | in-Model+in_ok-values_up_to-in-Model w ↦ (
          let r = w.in_ok-values_up_to-in-Model in
          let M = w.in-Model.values.items in
          let says : Satisfies G M × AreTrue (value M) (l ∷ []) = rw w.in-Model.is at c.in_ok-answer.ensures.says in
          rw w.reply-is (model-asked F P l G clauses M r.field-0.items w.vars.ensures.within.formula c.requires.over c.requires.variable says.0 says.1 (r.ensures.0 ∙ w.vars.ensures.vars)
          (λ v variable. r.ensures.1 v (subst (λ V. IsVariable V v) (sym w.vars.ensures.vars) variable) ∙ ap (λ (V : Assignment). value V v) w.deref-in-Model.ensures.value))
          )
      | in-Unsatisfiable w ↦ (
          let core = w.in-Unsatisfiable.field-0.items in
          let says : IsCore G.clauses (l ∷ []) core = rw w.in-Unsatisfiable.is at c.in_ok-answer.ensures.says in
          rw w.reply-is (none-asked F P l G clauses core says)
          )
      | in-Unknown w ↦ rw w.reply-is tt
    ]
