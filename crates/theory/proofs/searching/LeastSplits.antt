-- The ordered search exhausts a cube in the least variable that is free where propagation from it
-- comes to rest; and that is a variable of the formula that the cube doesn't have.
use Rattle.std.proofs.Common.{◌≡◌, ℕ, ◌+◌, Bool, true, false, List, [], ◌∷◌, ◌++◌, refl, ap, sym, subst, ◌∙◌, nat_eq, eq-eqb, arith, Option, Some, None, unwrap_or, if◌then◌else◌}
use Rattle.theory.specs.Literals.{Literal, Clause}
use Rattle.theory.specs.Truth.{Formula}
use Rattle.theory.specs.Trails.{Trail, current_level, cube_trail, least_free}
use Rattle.theory.specs.Propagation.{Closed, quiet, conflict, by_number, Propagates}
use Rattle.theory.specs.Learning.{Line, learn}
use Rattle.theory.specs.Search.{Outcome, refuted, exhausted, Next, ends, goes_on, RunsFrom, stops, steps, budget_of}
use Rattle.theory.specs.Ordered.{OrderedState, begin, decided_next, learnt_next, on_quiet, after, IsOrderedStep, RunsOrdered}
use Rattle.theory.specs.Checked.{IsFitSplit, IsLeastSplit}
use Rattle.theory.proofs.searching.RunLemmas.{RunsFrom-says}
use Rattle.theory.proofs.searching.SearchSteps.{after-conflict}
use Rattle.theory.proofs.searching.OpenTrails.{current_level-cube_trail}
use Rattle.theory.proofs.searching.SplitSoundness.{Propagates-more, free-of-cube}

-- The least free variable behind propagation is a variable of the formula that the cube doesn't
-- have.
pub IsFitSplit-least : (F : Formula) (Q : List Literal) (x : ℕ) → IsLeastSplit F Q x → IsFitSplit F Q x
IsFitSplit-least F Q x s =
    let more = Propagates-more by_number F.clauses (cube_trail Q) s.trail quiet s.rests in
    free-of-cube F.vars Q more.0 x (ap (least_free F.vars) (sym more.1) ∙ s.least)

-- y was decided first, so a search that is exhausted is so in y
HasDecided : ℕ → Next OrderedState → Type 0
HasDecided y (goes_on t) = t.decided ≡ Some y
HasDecided y (ends o) = (x : ℕ) → o ≡ exhausted x → y ≡ x

after-decided : (V budget y : ℕ) (s : OrderedState) (a : Closed) → s.decided ≡ Some y → HasDecided y (after V budget s a)
unfolding HasDecided
after-decided V budget y s quiet d = go (least_free V s.trail)
  where
    go : (o : Option ℕ) → HasDecided y (on_quiet V s o)
    go None = λ x e. absurd (cc)
    go (Some z) = ap (λ o. Some (unwrap_or o z)) d
after-decided V budget y s (conflict n) d = go (nat_eq (current_level s.trail) 0) (nat_eq (s.conflicts + 1) budget)
  where
    line : Line
    line = learn s.clauses s.trail n

    go : (b f : Bool) → HasDecided y (if b then ends (refuted (s.lines ++ line ∷ [])) else if f then ends (exhausted (unwrap_or s.decided 0)) else goes_on (learnt_next s line))
    go true f = λ x e. absurd (cc)
    go false true = λ x e. let one : unwrap_or s.decided 0 ≡ x = cc in ap (λ r. unwrap_or r 0) (sym d) ∙ one
    go false false = d

step-decided : (V budget y : ℕ) (s : OrderedState) (n : Next OrderedState) → HasDecided y (goes_on s) → IsOrderedStep V budget s n → HasDecided y n
unfolding HasDecided
step-decided V budget y s n d w = subst (HasDecided y) w.follows (after-decided V budget y (record s { trail = w.trail }) w.answer d)

run-decided : (V budget y x : ℕ) (s : OrderedState) (o : Outcome) → RunsFrom (IsOrderedStep V budget) s o → s.decided ≡ Some y → o ≡ exhausted x → y ≡ x
unfolding HasDecided
run-decided V budget y x s o r d e = RunsFrom-says (IsOrderedStep V budget) (HasDecided y) (step-decided V budget y) s o r d x e

-- where a search begins at level 0 and is exhausted, propagation rests first, and leaves that
-- variable as the least free one
record Decides (V : ℕ) (K : List Clause) (T : Trail) (x : ℕ) : Type 0 where
  trail : Trail
  rests_there : Propagates by_number K T quiet trail
  least_there : least_free V trail ≡ Some x

first-split : (V budget : ℕ) (s : OrderedState) (o : Outcome) (x : ℕ) → RunsFrom (IsOrderedStep V budget) s o → o ≡ exhausted x → s.decided ≡ None → current_level s.trail ≡ 0
    → Decides V s.clauses s.trail x
first-split V budget s o x (stops w) q d z = absurd (go w.answer w.propagates (w.follows ∙ ap ends q))
  where
    now : OrderedState
    now = record s { trail = w.trail }

    at_rest : (r : Option ℕ) → on_quiet V now r ≡ ends (exhausted x) → ⊥
    at_rest None e = cc
    at_rest (Some y) e = cc

    in_conflict : (line : Line) (b : Bool) → b ≡ true → (f : Bool)
        → (if b then ends (refuted (s.lines ++ line ∷ [])) else if f then ends (exhausted (unwrap_or s.decided 0)) else goes_on (learnt_next now line)) ≡ ends (exhausted x) → ⊥
    in_conflict line true k f e = cc
    in_conflict line false k f e = cc

    go : (a : Closed) → Propagates by_number s.clauses s.trail a w.trail → after V budget now a ≡ ends (exhausted x) → ⊥
    go quiet p e = at_rest (least_free V w.trail) e
    go (conflict n) p e =
        in_conflict (learn s.clauses w.trail n) (nat_eq (current_level w.trail) 0)
        (eq-eqb (current_level w.trail) 0 ((Propagates-more by_number s.clauses s.trail w.trail (conflict n) p).2 ∙ z)) (nat_eq (s.conflicts + 1) budget) e
first-split V budget s o x (steps {t = t} w more) q d z = go w.answer w.propagates w.follows
  where
    now : OrderedState
    now = record s { trail = w.trail }

    at_rest : Propagates by_number s.clauses s.trail quiet w.trail → (r : Option ℕ) → least_free V w.trail ≡ r → on_quiet V now r ≡ goes_on t → Decides V s.clauses s.trail x
    at_rest p None h e = absurd (cc)
    at_rest p (Some y) h e =
        let next : decided_next now y ≡ t = cc in
        let first : y ≡ x = run-decided V budget y x t o more (ap (λ (u : OrderedState). u.decided) (sym next) ∙ ap (λ r. Some (unwrap_or r y)) d) q in
        record { trail = w.trail; rests_there = p; least_there = h ∙ ap Some first }

    go : (a : Closed) → Propagates by_number s.clauses s.trail a w.trail → after V budget now a ≡ goes_on t → Decides V s.clauses s.trail x
    go quiet p e = at_rest p (least_free V w.trail) refl e
    go (conflict n) p e =
        absurd (let above = (after-conflict V budget n now t e).0 in let low = (Propagates-more by_number s.clauses s.trail w.trail (conflict n) p).2 ∙ z in omega arith)

-- A cube is exhausted in the least variable that is free where propagation from it comes to rest.
pub IsLeastSplit-exhausted : (F : Formula) (B : ℕ) (Q : List Literal) (x : ℕ) → RunsOrdered F B Q (exhausted x) → IsLeastSplit F Q x
IsLeastSplit-exhausted F B Q x r =
    let f = first-split F.vars (budget_of B Q) (begin F Q) (exhausted x) x r refl refl (current_level-cube_trail Q) in
    record { trail = f.trail; rests = f.rests_there; least = f.least_there }
