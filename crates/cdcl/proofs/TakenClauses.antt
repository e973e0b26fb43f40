-- The literals of a marked set, taken variable by variable.
use Rattle.std.proofs.Common.{◌≡◌, ℕ, zero, suc, subst, ◌+◌, ◌<◌, Bool, true, false, not, List, [], ◌∷◌, ◌++◌, Some, refl, ap, sym, ◌∙◌, filter, cond, slice_index_or, slice_set, append_assoc, append-nil, if◌then◌else◌, arith, ◌≢◌, ◌≤◌, nat_eq, nat_lt, eqb-true, eq-eqb, ltb-true, ltb-false, length, inl, inr}
use Rattle.std.proofs.lemmas.List.{get_or-set_same, get_or-set_other}
use Rattle.theory.specs.Literals.{Literal, Clause, negated, has, has_var}
use Rattle.theory.specs.Truth.{IsOver}
use Rattle.theory.specs.Trails.{Trail, Entry, literals, entry_of, is_given}
use Rattle.theory.specs.Lawful.{IsLawful}
use Rattle.theory.specs.Learning.{is_of_cube}
use Rattle.theory.proofs.literals.LiteralLemmas.{true_or_false}
use Rattle.theory.proofs.literals.LiteralSets.{true_false, negated-negated, has_var-has, has_var-none, literal_of_var}
use Rattle.theory.proofs.literals.OverVariables.{AreOver-from_IsOver}
use Rattle.theory.proofs.trails.TrailEntries.{entry_of_literal, entry_of-at}
use Rattle.kernel.specs.State.{State}
use Rattle.cdcl.specs.Marks.{IsMarked, negation_of}
use Rattle.cdcl.proofs.SetLemmas.{above, above-all, above-none, above-same, above-here}

abbrev pub outside_cube : Trail → Clause → Clause
outside_cube T S = filter (λ l. not (is_of_cube T l)) S

-- the clause has the literals of the variables up to index, and the marks the others
pub record IsTaken (k : State) (S : Clause) (index : ℕ) (marked : List Bool) (clause : Clause) : Type 0 where
  pub before : (v : ℕ) → v ≤ index → slice_index_or marked v false ≡ false
  pub left : (v : ℕ) → index < v → slice_index_or marked v false ≡ has_var S v
  pub taken : clause ++ outside_cube k.trail (above index S) ≡ outside_cube k.trail S

-- a variable of the set
record Standing (T : Trail) (S : Clause) (v : ℕ) : Type 0 where
  lit : Literal
  is_in : has S lit ≡ true
  var : lit.var ≡ v
  entry : Entry
  found : entry_of T v ≡ Some entry
  is : entry.lit ≡ negated lit

standing : (k : State) (S : Clause) (marked : List Bool) (n v : ℕ) → IsLawful k.clauses k.trail → IsMarked k S marked n → has_var S v ≡ true → Standing k.trail S v
standing k S marked n v lawful h a =
    let l = literal_of_var S v a in
    let f = entry_of_literal k.trail (negated l.0) (h.false_on l.0 l.1) in
    let at : entry_of k.trail f.0.lit.var ≡ Some f.0 = entry_of-at k.clauses k.trail f.0 lawful f.1 in
    let same : f.0.lit.var ≡ v = ap (λ (x : Literal). x.var) f.2 ∙ l.2 in
    record { lit = l.0; is_in = l.1; var = l.2; entry = f.0; found = ap (entry_of k.trail) (sym same) ∙ at; is = f.2 }

-- the first literal stays, unless it is the cube's
outside-first : (T : Trail) (S rest : Clause) (v : ℕ) → (s : Standing T S v) → outside_cube T (s.lit ∷ rest) ≡ negation_of (entry_of T v) ++ outside_cube T rest
outside-first T S rest v s =
    let of_cube : is_of_cube T s.lit ≡ is_given (Some s.entry) = ap (λ x. is_given (entry_of T x)) s.var ∙ ap is_given s.found in
    rw (s.found, of_cube) (go (is_given (Some s.entry)))
  where
    go : (b : Bool) → cond (not b) (s.lit ∷ outside_cube T rest) (outside_cube T rest) ≡ (if b then [] else negated s.entry.lit ∷ []) ++ outside_cube T rest
    go true = refl
    go false = ap (λ x. x ∷ outside_cube T rest) (sym (ap negated s.is ∙ negated-negated s.lit))

pub IsTaken-more : (k : State) (S : Clause) (marked now after : List Bool) (n index : ℕ) (clause more : Clause) → IsLawful k.clauses k.trail → IsMarked k S marked n
    → IsTaken k S index now clause → slice_index_or now (index + 1) false ≡ true → index + 1 < length now → after ≡ slice_set now (index + 1) false
    → more ≡ clause ++ negation_of (entry_of k.trail (index + 1)) → IsTaken k S (index + 1) after more
IsTaken-more k S marked now after n index clause more lawful h t mark inside set push =
    let s = standing k S marked n (index + 1) lawful h (sym (t.left (index + 1) (omega arith)) ∙ mark) in
    record {
      before = λ v near. rw set (go v near (nat_eq v (index + 1)) refl);
      left = λ v far. rw set (get_or-set_other now (index + 1) v false false (λ e. (absurd (omega arith))) ∙ t.left v (omega arith));
      taken =
          ap (λ c. c ++ outside_cube k.trail (above (index + 1) S)) push
          ∙ (append_assoc clause (negation_of (entry_of k.trail (index + 1))) (outside_cube k.trail (above (index + 1) S))
          ∙ (ap (λ c. clause ++ c) (sym (ap (outside_cube k.trail) (above-here index s.lit S h.rising s.is_in s.var) ∙ outside-first k.trail S (above (index + 1) S) (index + 1) s))
          ∙ t.taken));
    }
  where
    go : (v : ℕ) → v ≤ index + 1 → (b : Bool) → nat_eq v (index + 1) ≡ b → slice_index_or (slice_set now (index + 1) false) v false ≡ false
    go v near true e =
        ap (λ x. slice_index_or (slice_set now (index + 1) false) x false) (eqb-true v (index + 1) e) ∙ get_or-set_same now (index + 1) false false inside
    go v near false e =
        let other : v ≢ index + 1 = λ same. true_false (nat_eq v (index + 1)) (eq-eqb v (index + 1) same) e in
        get_or-set_other now (index + 1) v false false other ∙ t.before v (omega (arith, near, other))

pub IsTaken-passed : (k : State) (S : Clause) (now : List Bool) (index : ℕ) (clause : Clause)
    → IsTaken k S index now clause → slice_index_or now (index + 1) false ≡ false → IsTaken k S (index + 1) now clause
IsTaken-passed k S now index clause t mark = record {
  before = λ v near. go v near (nat_eq v (index + 1)) refl;
  left = λ v far. t.left v (omega arith);
  taken = ap (λ c. clause ++ outside_cube k.trail c) (sym (above-same index S (sym (t.left (index + 1) (omega arith)) ∙ mark))) ∙ t.taken;
}
  where
    go : (v : ℕ) → v ≤ index + 1 → (b : Bool) → nat_eq v (index + 1) ≡ b → slice_index_or now v false ≡ false
    go v near true e = ap (λ x. slice_index_or now x false) (eqb-true v (index + 1) e) ∙ mark
    go v near false e =
        let other : v ≢ index + 1 = λ same. true_false (nat_eq v (index + 1)) (eq-eqb v (index + 1) same) e in
        t.before v (omega (arith, near, other))

pub IsTaken-begin : (k : State) (S : Clause) (marked : List Bool) (n : ℕ) → IsOver k.vars (literals k.trail) → IsMarked k S marked n → IsTaken k S 0 marked []
IsTaken-begin k S marked n over h = record {
  before = λ v near. h.marks v ∙ has_var-none S v (λ l a e. (let o = AreOver-from_IsOver k.vars (literals k.trail) over (negated l) (h.false_on l a) in let low = o.0 in absurd (omega (arith, near, e))));
  left = λ v far. h.marks v;
  taken = ap (outside_cube k.trail) (above-all 0 S (λ l a. (let o = AreOver-from_IsOver k.vars (literals k.trail) over (negated l) (h.false_on l a) in let low = o.0 in omega arith)));
}

-- variables that aren't in the set are passed over
pub IsTaken-skip : (k : State) (S : Clause) (now : List Bool) (n index next : ℕ) (clause : Clause) → next ≡ n + index → IsTaken k S index now clause
    → ((v : ℕ) → index < v → v ≤ next → has_var S v ≡ false) → IsTaken k S next now clause
IsTaken-skip k S now zero index next clause sum t none = subst (λ i. IsTaken k S i now clause) (let same : index ≡ next = omega (arith, sum) in same) t
IsTaken-skip k S now (suc n) index next clause sum t none =
    let one = IsTaken-passed k S now index clause t (t.left (index + 1) (omega arith) ∙ none (index + 1) (omega arith) (omega (arith, sum))) in
    IsTaken-skip k S now n (index + 1) next clause (omega (arith, sum)) one (λ v low high. none v (omega (arith, low)) high)

-- no variable of the set is left
pub IsTaken-end : (k : State) (S : Clause) (index : ℕ) (now : List Bool) (clause : Clause) → IsTaken k S index now clause → ((v : ℕ) → index < v → has_var S v ≡ false)
    → clause ≡ outside_cube k.trail S
IsTaken-end k S index now clause t beyond =
    let none = above-none index S (λ l a. elim (true_or_false (nat_lt index l.var)) [
      | inl e ↦ true_false (has_var S l.var) (has_var-has S l a) (beyond l.var (ltb-true index l.var e))
      | inr e ↦ ltb-false index l.var e
    ]) in
    sym (append-nil clause) ∙ (ap (λ c. clause ++ outside_cube k.trail c) (sym none) ∙ t.taken)

pub IsTaken-clear : (k : State) (S : Clause) (index : ℕ) (now : List Bool) (clause : Clause) → IsTaken k S index now clause → ((v : ℕ) → index < v → has_var S v ≡ false)
    → (v : ℕ) → slice_index_or now v false ≡ false
IsTaken-clear k S index now clause t beyond v = elim (true_or_false (nat_lt index v)) [
  | inl e ↦ t.left v (ltb-true index v e) ∙ beyond v (ltb-true index v e)
  | inr e ↦ t.before v (ltb-false index v e)
]
