-- The ordered search exhausts a cube in a variable of the formula that the cube doesn't have.
use Rattle.std.proofs.Common.{◌≡◌, ℕ, ◌+◌, ◌-◌, Bool, true, false, not, ◌||◌, List, [], ◌∷◌, ◌++◌, length, nat_eq, nat_le, refl, sym, ap, subst, ◌∙◌, arith, Option, Some, None, append_assoc, append-nil, eq-eqb, le-leb, if◌then◌else◌, unwrap_or}
use Rattle.theory.specs.Literals.{Literal, Clause, negative, has_var, IsVariable}
use Rattle.theory.specs.Truth.{Formula}
use Rattle.theory.specs.Trails.{Trail, literals, current_level, cube_trail, up_to, least_free, variables}
use Rattle.theory.specs.Propagation.{Closed, quiet, conflict, Propagates, clashes, grows, rests, unit_entry, Rule, by_number}
use Rattle.theory.specs.Learning.{Line, learn, back_level}
use Rattle.theory.specs.Search.{Outcome, refuted, exhausted, Next, ends, goes_on, RunsFrom, budget_of}
use Rattle.theory.specs.Ordered.{OrderedState, after, on_quiet, on_conflict, RunsOrdered, begin, learnt_next, IsOrderedStep}
use Rattle.theory.proofs.searching.RunLemmas.{RunsFrom-says}
use Rattle.theory.proofs.literals.LiteralLemmas.{not_true}
use Rattle.theory.proofs.searching.SearchSoundness.{level-cube}
use Rattle.theory.proofs.trees.FirstModel.{found-from, found-le}
use Rattle.theory.proofs.trails.TrailLists.{current_level-push, literals-cube, literals-append}
use Rattle.theory.proofs.literals.ListLemmas.{find-passes}

-- the trail begins with the cube; the variable first decided is none of the cube's, and there is
-- one above level 0
record FromCube (V : ℕ) (Q : List Literal) (s : OrderedState) : Type 0 where
  rest : Trail
  is_trail : s.trail ≡ cube_trail Q ++ rest
  decided : (x : ℕ) → s.decided ≡ Some x → IsVariable V x × (has_var Q x ≡ false)
  none_decided : s.decided ≡ None → current_level s.trail ≡ 0

pub Propagates-more : (rule : Rule) (K : List Clause) (T U : Trail) (a : Closed) → Propagates rule K T a U → (R : Trail) × (U ≡ T ++ R) × (current_level U ≡ current_level T)
Propagates-more rule K T U a (clashes h) = ([], sym (append-nil T), refl)
Propagates-more rule K T U a (rests h i) = ([], sym (append-nil T), refl)
Propagates-more rule K T U a (grows {u = u} h i r) =
    let more = Propagates-more rule K (T ++ unit_entry T u ∷ []) U a r in
    (unit_entry T u ∷ more.0, more.1 ∙ append_assoc T (unit_entry T u ∷ []) more.0, more.2 ∙ current_level-push T (unit_entry T u))

pub up_to-cube : (Q : List Literal) (R : Trail) (L : ℕ) → up_to (cube_trail Q ++ R) L ≡ cube_trail Q ++ up_to R L
up_to-cube [] R L = refl
up_to-cube (l ∷ Q) R L =
    let low : nat_le 0 L ≡ true = le-leb 0 L (omega arith) in
    rw low (ap (λ (x : Trail). record { lit = l; reason = None; level = 0 } ∷ x) (up_to-cube Q R L))

pub has_var-front : (P R : List Literal) (v : ℕ) → has_var (P ++ R) v ≡ false → has_var P v ≡ false
has_var-front [] R v q = refl
has_var-front (l ∷ P) R v q = go (nat_eq v l.var) q (has_var-front P R v)
  where
    go : (c : Bool) → c || has_var (P ++ R) v ≡ false → (has_var (P ++ R) v ≡ false → has_var P v ≡ false) → c || has_var P v ≡ false
    go true q more = q
    go false q more = more q

pub free-of-cube : (V : ℕ) (Q : List Literal) (R : Trail) (x : ℕ) → least_free V (cube_trail Q ++ R) ≡ Some x → IsVariable V x × (has_var Q x ≡ false)
free-of-cube V Q R x h =
    let open_there : has_var (literals (cube_trail Q ++ R)) x ≡ false = not_true _ (find-passes (λ v. not (has_var (literals (cube_trail Q ++ R)) v)) (variables V) x h) in
    let split_up : literals (cube_trail Q ++ R) ≡ Q ++ literals R = literals-append (cube_trail Q) R ∙ ap (λ (p : List Literal). p ++ literals R) (literals-cube Q) in (
      (found-from (λ v. not (has_var (literals (cube_trail Q ++ R)) v)) V x h, found-le (λ v. not (has_var (literals (cube_trail Q ++ R)) v)) V x h),
      has_var-front Q (literals R) x (subst (λ (p : List Literal). has_var p x ≡ false) split_up open_there),
    )

closes-from : (V : ℕ) (Q : List Literal) (s : OrderedState) (a : Closed) (T : Trail) → FromCube V Q s → Propagates by_number s.clauses s.trail a T → FromCube V Q (record s { trail = T })
closes-from V Q s a T f c =
    let more = Propagates-more by_number s.clauses s.trail T a c in
    record {
      rest = f.rest ++ more.0;
      is_trail = more.1 ∙ ap (λ (x : Trail). x ++ more.0) f.is_trail ∙ append_assoc (cube_trail Q) f.rest more.0;
      decided = f.decided;
      none_decided = λ n. more.2 ∙ f.none_decided n;
    }

-- what follows is of this form too, or ends so
After : ℕ → List Literal → Next OrderedState → Type 0
After V Q (goes_on t) = FromCube V Q t
After V Q (ends (exhausted x)) = IsVariable V x × (has_var Q x ≡ false)
After V Q (ends o) = Unit {0}

quiet-after : (V : ℕ) (Q : List Literal) (s : OrderedState) → FromCube V Q s → After V Q (on_quiet V s (least_free V s.trail))
unfolding After
quiet-after V Q s f = go (least_free V s.trail) refl
  where
    first : (o : Option ℕ) → s.decided ≡ o → (x y : ℕ) → least_free V s.trail ≡ Some x → ◌≡◌ {A = Option ℕ} (Some (unwrap_or o x)) (Some y) → IsVariable V y × (has_var Q y ≡ false)
    first None e x y h q = (let one : x ≡ y = cc in free-of-cube V Q f.rest y (ap (least_free V) (sym f.is_trail) ∙ h ∙ ap Some one))
    first (Some z) e x y h q = (let one : z ≡ y = cc in f.decided y (e ∙ ap Some one))

    go : (o : Option ℕ) → least_free V s.trail ≡ o → After V Q (on_quiet V s o)
    go None h = tt
    go (Some x) h = record {
      rest = f.rest ++ record { lit = negative x; reason = None; level = current_level s.trail + 1 } ∷ [];
      is_trail = ap (λ (t : Trail). t ++ record { lit = negative x; reason = None; level = current_level s.trail + 1 } ∷ []) f.is_trail ∙ append_assoc (cube_trail Q) f.rest _;
      decided = λ y q. first s.decided refl x y h q;
      none_decided = λ q. absurd (cc);
    }

conflict-after : (V budget : ℕ) (Q : List Literal) (s : OrderedState) (line : Line) → FromCube V Q s → After V Q (on_conflict budget s line)
unfolding After
conflict-after V budget Q s line f = go (nat_eq (current_level s.trail) 0) refl (nat_eq (s.conflicts + 1) budget)
  where
    found : (o : Option ℕ) → s.decided ≡ o → nat_eq (current_level s.trail) 0 ≡ false → IsVariable V (unwrap_or o 0) × (has_var Q (unwrap_or o 0) ≡ false)
    found None e z = absurd (let l = f.none_decided e in let y : nat_eq (current_level s.trail) 0 ≡ true = eq-eqb (current_level s.trail) 0 l in cc)
    found (Some x) e z = f.decided x e

    go : (b : Bool) → nat_eq (current_level s.trail) 0 ≡ b → (d : Bool)
        → After V Q (if b then ends (refuted (s.lines ++ line ∷ [])) else (if d then ends (exhausted (unwrap_or s.decided 0)) else goes_on (learnt_next s line)))
    go true z d = tt
    go false z true = found s.decided refl z
    go false z false = record {
      rest = up_to f.rest (back_level s.trail line.clause);
      is_trail = ap (λ (t : Trail). up_to t (back_level s.trail line.clause)) f.is_trail ∙ up_to-cube Q f.rest (back_level s.trail line.clause);
      decided = f.decided;
      none_decided = λ n. absurd (let l = f.none_decided n in let y : nat_eq (current_level s.trail) 0 ≡ true = eq-eqb (current_level s.trail) 0 l in cc);
    }

next-after : (V budget : ℕ) (Q : List Literal) (s : OrderedState) (a : Closed) → FromCube V Q s → After V Q (after V budget s a)
next-after V budget Q s quiet f = quiet-after V Q s f
next-after V budget Q s (conflict n) f = conflict-after V budget Q s (learn s.clauses s.trail n) f

step-after : (V budget : ℕ) (Q : List Literal) (s : OrderedState) (n : Next OrderedState) → After V Q (goes_on s) → IsOrderedStep V budget s n → After V Q n
unfolding After
step-after V budget Q s n f w =
    subst (After V Q) w.follows (next-after V budget Q (record s { trail = w.trail }) w.answer (closes-from V Q s w.answer w.trail f w.propagates))

run-exhausted : (V budget : ℕ) (Q : List Literal) (s : OrderedState) (o : Outcome) → RunsFrom (IsOrderedStep V budget) s o → FromCube V Q s → After V Q (ends o)
unfolding After
run-exhausted V budget Q s o r f = RunsFrom-says (IsOrderedStep V budget) (After V Q) (step-after V budget Q) s o r f

-- A cube is exhausted in a variable of the formula that it doesn't have.
pub exhausted-free : (F : Formula) (B : ℕ) (Q : List Literal) (x : ℕ) → RunsOrdered F B Q (exhausted x) → IsVariable F.vars x × (has_var Q x ≡ false)
unfolding After
exhausted-free F B Q x r = run-exhausted F.vars (budget_of B Q) Q (begin F Q) (exhausted x) r (record {
  rest = [];
  is_trail = sym (append-nil (cube_trail Q));
  decided = λ y q. absurd (cc);
  none_decided = λ q. level-cube Q (length (cube_trail Q) - 1);
})
