use Rattle.std.proofs.Common.{◌≡◌, ◌∙◌, ℕ, [], List, length, nat_eq, eqb-true, eq-eqb, vec_len, refl, ap, sym, arith}
use Rattle.theory.specs.Trails.{literals}
use Rattle.theory.specs.Looking.{max_candidates}
use Rattle.lookahead.specs.Rankings.{first_free}
use Rattle.theory.proofs.literals.LiteralSets.{true_false}
use Rattle.lookahead.proofs.RankingLemmas.{best_ones-free, first_free-free, none-free, some-free, empty-length}
use Rattle.lookahead.proofs.choosing.choose.Goals as goal

pub best-requires-clause-free : goal.best-requires-clause-free
best-requires-clause-free c =
    let k = c.args.kernel.now in
    rw (c.deref.ensures.value, c.in_ok-candidates.ensures) (first_free-free k.vars k.clauses c.args.ranking.now c.requires.ranking max_candidates (literals k.trail))

pub returns-then-is_empty-clause-none : goal.returns-then-is_empty-clause-none
returns-then-is_empty-clause-none c =
    let k = c.args.kernel.now in
    let found = c.in_ok-candidates.candidates in
    let len = eqb-true (vec_len found) 0 (sym c.is_empty.ensures ∙ c.if-is_empty.true) in
    let ok = found.ok.0 in
    let none : first_free max_candidates (literals k.trail) c.args.ranking.now ≡ [] = sym c.in_ok-candidates.ensures ∙ empty-length found.items (omega (arith, len, ok)) in
    (λ e v variable held. none-free k.vars k.clauses c.args.ranking.now c.requires.ranking 31 (literals k.trail) v none variable held, λ all. refl)

pub returns-clause-none : goal.returns-clause-none
returns-clause-none c =
    let k = c.args.kernel.now in
    let found = c.in_ok-candidates.candidates in (
      λ e. absurd (cc),
      λ all.
          let none = c.in_ok-candidates.ensures ∙ some-free k.vars k.clauses c.args.ranking.now c.requires.ranking max_candidates (literals k.trail) all in
          let long = ap (λ (xs : List ℕ). length xs) none in
          let ok = found.ok.0 in
          absurd (true_false (nat_eq (vec_len found) 0) (eq-eqb (vec_len found) 0 (omega (arith, long, ok))) (sym c.is_empty.ensures ∙ c.if-is_empty.false)),
    )

pub returns-clause-chooses : goal.returns-clause-chooses
returns-clause-chooses c =
    let k = c.args.kernel.now in
    rw (best_ones-free k.vars k.clauses c.args.ranking.now c.requires.ranking max_candidates (literals k.trail), ← c.in_ok-candidates.ensures, ← c.deref.ensures.value) c.in_ok-var.ensures.chooses
