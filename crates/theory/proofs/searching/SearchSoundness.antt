-- What a search says is true: here m gives truth values that satisfy the formula and the cube.
use Rattle.std.proofs.Common.{◌≡◌, ℕ, zero, suc, ◌+◌, ◌-◌, ◌<◌, ◌≤◌, Bool, true, false, not, ◌&&◌, ◌||◌, List, [], ◌∷◌, ◌++◌, length, nat_eq, nat_le, refl, sym, ap, subst, ◌∙◌, ◌⊎◌, inl, inr, arith, cond, Option, Some, None, is_some, slice_get, if◌then◌else◌, filter, append_assoc, append-nil, length-append, eqb-true, eq-eqb, leb-true, leb-false, unwrap_or}
use Rattle.theory.specs.Literals.{Literal, Clause, negated, negative, same, has, has_var, IsCube}
use Rattle.theory.specs.Truth.{Formula, Assignment, AreTrue, Satisfies, value, is_true, is_true_clause, are_true}
use Rattle.theory.specs.Status.{is_false, others_false}
use Rattle.theory.specs.Trails.{Entry, Trail, literals, current_level, level_at, entry_of, cube_trail, up_to, least_free, variables}
use Rattle.theory.specs.Propagation.{Closed, quiet, conflict, Propagates, clashes, grows, rests, unit_entry, clause_at, least_false, Rule, IsRule, by_number}
use Rattle.theory.specs.Learning.{Line, learn, walk, resolved_by, is_resolved_on, with_literals, is_of_cube, back_level}
use Rattle.theory.specs.Search.{Outcome, model, refuted, exhausted, Next, ends, goes_on, RunsFrom, budget_of}
use Rattle.theory.specs.Ordered.{OrderedState, after, on_quiet, on_conflict, RunsOrdered, begin, learnt_next, IsOrderedStep}
use Rattle.theory.proofs.searching.Rules.{IsRule-by_number}
use Rattle.theory.proofs.searching.RunLemmas.{RunsFrom-says}
use Rattle.theory.proofs.literals.LiteralLemmas.{and-left, and-right, or-cases, or-left, or-right, not_true, same-eq, is_true-negated}
use Rattle.theory.proofs.literals.ClauseLemmas.{clause_at-true, clause_at-more, least_false-found, unit-fresh, unit-others, with_literals-left, with_literals-false, resolved-true, resolved-false, others_false-more}
use Rattle.theory.proofs.trails.TrailLists.{current_level-push, literals-append, literals-cube}
use Rattle.theory.proofs.literals.ListLemmas.{find-passes}
use Rattle.theory.proofs.searching.ReplayedLines.{are_true-push}
use Rattle.theory.proofs.literals.TrueClauses.{AreTrue-append, is_false-false, others_false-true}
use Rattle.theory.proofs.literals.CubeLiterals.{IsDistinctFrom, IsDistinctFrom-cube}

-- why an entry stands on the trail: given and true, or decided at a level of its own, or implied by
-- a clause of K
abbrev pub Why : ℕ → List Clause → (ℕ → Bool) → Trail → Entry → Option ℕ → Type 0
Why V K m before e None = ((e.level ≡ 0) × (is_true m e.lit ≡ true)) ⊎ ((0 < e.level) × (e.lit ≡ negative e.lit.var) × (least_free V before ≡ Some e.lit.var))
Why V K m before e (Some n) = (1 ≤ n) × (n ≤ length K) × (others_false (literals before) (clause_at K n) e.lit ≡ true)

pub record EntryOk (V : ℕ) (K : List Clause) (m : ℕ → Bool) (before : Trail) (e : Entry) : Type 0 where
  pub fresh : has_var (literals before) e.lit.var ≡ false
  pub rising : current_level before ≤ e.level
  pub why : Why V K m before e e.reason

abbrev pub TrailOk : ℕ → List Clause → (ℕ → Bool) → Trail → Trail → Type 0
TrailOk V K m b [] = Unit {0}
TrailOk V K m b (e ∷ T) = EntryOk V K m b e × TrailOk V K m (b ++ e ∷ []) T

-- trails
cube-push : (P : List Literal) (l : Literal) → cube_trail (P ++ l ∷ []) ≡ cube_trail P ++ record { lit = l; reason = None; level = 0 } ∷ []
cube-push [] l = refl
cube-push (k ∷ P) l = ap (λ (x : Trail). record { lit = k; reason = None; level = 0 } ∷ x) (cube-push P l)

pub level-cube : (P : List Literal) (i : ℕ) → level_at (slice_get (cube_trail P) i) ≡ 0
level-cube [] i = refl
level-cube (l ∷ P) zero = refl
level-cube (l ∷ P) (suc i) = level-cube P i

module _ (V : ℕ) (m : ℕ → Bool) where
  push : (K : List Clause) (b T : Trail) (e : Entry) → TrailOk V K m b T → EntryOk V K m (b ++ T) e → TrailOk V K m b (T ++ e ∷ [])
  push K b [] e t h = (subst (λ x. EntryOk V K m x e) (append-nil b) h, tt)
  push K b (f ∷ T) e t h = (t.0, push K (b ++ f ∷ []) T e t.1 (subst (λ x. EntryOk V K m x e) (sym (append_assoc b (f ∷ []) T)) h))

  front : (K : List Clause) (b T U : Trail) → TrailOk V K m b (T ++ U) → TrailOk V K m b T
  front K b [] U t = tt
  front K b (e ∷ T) U t = (t.0, front K (b ++ e ∷ []) T U t.1)

  grown : (K : List Clause) (c : Clause) (b T : Trail) → TrailOk V K m b T → TrailOk V (K ++ c ∷ []) m b T
  grown K c b [] t = tt
  grown K c b (e ∷ T) t = (record { fresh = t.0.fresh; rising = t.0.rising; why = go e.reason t.0.why }, grown K c (b ++ e ∷ []) T t.1)
    where
      go : (r : Option ℕ) → Why V K m b e r → Why V (K ++ c ∷ []) m b e r
      go None w = w
      go (Some n) w = (w.0, omega (arith, w.1, length-append K (c ∷ [])), (let more = clause_at-more K c n w.0 w.1 in rw more w.2))

  -- levels rise
  rises : (K : List Clause) (b T : Trail) → TrailOk V K m b T → current_level b ≤ current_level (b ++ T)
  rises K b [] t = rw append-nil (omega arith)
  rises K b (e ∷ T) t =
      let rest = rises K (b ++ e ∷ []) T t.1 in
      let same : current_level ((b ++ e ∷ []) ++ T) ≡ current_level (b ++ e ∷ T) = ap current_level (append_assoc b (e ∷ []) T) in
      omega (arith, t.0.rising, current_level-push b e, rest, same)

  -- at level 0 all that is on the trail is true
  pub zero-true : (K : List Clause) (b T : Trail) → are_true m K ≡ true → TrailOk V K m b T → current_level (b ++ T) ≡ 0 → AreTrue m (literals b) → AreTrue m (literals T)
  zero-true K b [] a t z h = tt
  zero-true K b (e ∷ T) a t z h = (here e.reason t.0.why, zero-true K (b ++ e ∷ []) T a t.1 z' (rw literals-append (AreTrue-append m (literals b) (e.lit ∷ []) h (here e.reason t.0.why, tt))))
    where
      z' : current_level ((b ++ e ∷ []) ++ T) ≡ 0
      z' = ap current_level (append_assoc b (e ∷ []) T) ∙ z

      low : e.level ≡ 0
      low = omega (arith, rises K (b ++ e ∷ []) T t.1, z', current_level-push b e)

      here : (r : Option ℕ) → Why V K m b e r → is_true m e.lit ≡ true
      here None (inl w) = w.1
      here None (inr w) = absurd (let l = low in let p = w.0 in omega arith)
      here (Some n) w = others_false-true m (literals b) e.lit (clause_at K n) h w.2 (clause_at-true m K n a w.0 w.1)

  -- going back keeps a front of the trail
  all_above : (K : List Clause) (b T : Trail) (L : ℕ) → TrailOk V K m b T → L < current_level b → up_to T L ≡ []
  all_above K b [] L t h = refl
  all_above K b (e ∷ T) L t h =
      go (nat_le e.level L) refl (all_above K (b ++ e ∷ []) T L t.1 (let p = current_level-push b e in let r = t.0.rising in omega arith))
    where
      go : (c : Bool) → nat_le e.level L ≡ c → up_to T L ≡ [] → cond c (e ∷ up_to T L) (up_to T L) ≡ []
      go true q r = absurd (let l = leb-true e.level L q in let s = t.0.rising in omega arith)
      go false q r = r

  up_to-front : (K : List Clause) (b T : Trail) (L : ℕ) → TrailOk V K m b T → (U : Trail) × (T ≡ up_to T L ++ U)
  up_to-front K b [] L t = ([], refl)
  up_to-front K b (e ∷ T) L t = go (nat_le e.level L) refl (up_to-front K (b ++ e ∷ []) T L t.1)
    where
      go : (c : Bool) → nat_le e.level L ≡ c → (U : Trail) × (T ≡ up_to T L ++ U) → (U : Trail) × (e ∷ T ≡ cond c (e ∷ up_to T L) (up_to T L) ++ U)
      go true q f = (f.0, ap (λ x. e ∷ x) f.1)
      go false q f =
          let above : up_to T L ≡ [] = all_above K (b ++ e ∷ []) T L t.1 (let p = current_level-push b e in let l = leb-false e.level L q in omega arith) in
          (e ∷ T, ap (λ (x : Trail). x ++ e ∷ T) (sym above))

  up_to-ok : (K : List Clause) (T : Trail) (L : ℕ) → TrailOk V K m [] T → TrailOk V K m [] (up_to T L)
  up_to-ok K T L t = let f = up_to-front K [] T L t in front K [] (up_to T L) f.0 (subst (λ x. TrailOk V K m [] x) f.1 t)

  -- propagation keeps it so
  unit-ok : (rule : Rule) → IsRule rule → (K : List Clause) (T : Trail) (u : ℕ × Literal) → rule T K ≡ Some u → EntryOk V K m T (unit_entry T u)
  unit-ok rule g K T u h =
      let f = g.gives T K u h in
      record { fresh = unit-fresh (literals T) (clause_at K u.0) u.1 f.2; rising = omega arith; why = (f.0, f.1, unit-others (literals T) (clause_at K u.0) u.1 f.2) }

  Propagates-ok : (rule : Rule) → IsRule rule → (K : List Clause) (T U : Trail) (a : Closed) → Propagates rule K T a U → TrailOk V K m [] T → TrailOk V K m [] U
  Propagates-ok rule g K T U a (clashes h) t = t
  Propagates-ok rule g K T U a (rests h i) t = t
  Propagates-ok rule g K T U a (grows {u = u} h i r) t = Propagates-ok rule g K (T ++ unit_entry T u ∷ []) U a r (push K [] T (unit_entry T u) t (unit-ok rule g K T u i))

-- what an answer says of the trail that it leaves
abbrev pub Says : List Clause → Trail → Closed → Type 0
Says K U (conflict n) = least_false (literals U) K ≡ Some n
Says K U quiet = least_false (literals U) K ≡ None

pub Propagates-says : (rule : Rule) (K : List Clause) (T U : Trail) (a : Closed) → Propagates rule K T a U → Says K U a
Propagates-says rule K T U a (clashes h) = h
Propagates-says rule K T U a (rests h i) = h
Propagates-says rule K T U a (grows {u = u} h i r) = Propagates-says rule K (T ++ unit_entry T u ∷ []) U a r

module _ (V : ℕ) (m : ℕ → Bool) where
  -- each entry's reason, where all literals of the trail are held true
  ReasonOk : List Clause → List Literal → Entry → Option ℕ → Type 0
  ReasonOk K P e None = Unit {0}
  ReasonOk K P e (Some n) = (1 ≤ n) × (n ≤ length K) × (others_false P (clause_at K n) e.lit ≡ true)

  abbrev Reasons : List Clause → List Literal → Trail → Type 0
  Reasons K P [] = Unit {0}
  Reasons K P (e ∷ T) = ReasonOk K P e e.reason × Reasons K P T

  reasons : (K : List Clause) (b T : Trail) → TrailOk V K m b T → Reasons K (literals (b ++ T)) T
  unfolding ReasonOk
  reasons K b [] t = tt
  reasons K b (e ∷ T) t = (go e.reason t.0.why, subst (λ (x : Trail). Reasons K (literals x) T) (append_assoc b (e ∷ []) T) (reasons K (b ++ e ∷ []) T t.1))
    where
      go : (r : Option ℕ) → Why V K m b e r → ReasonOk K (literals (b ++ e ∷ T)) e r
      go None w = tt
      go (Some n) w = (w.0, w.1, rw literals-append (others_false-more (literals b) (literals (e ∷ T)) (clause_at K n) e.lit w.2))

  -- the set that the walk leaves is true, and its literals are false on the trail
  record SetOk (P : List Literal) (S : Clause) : Type 0 where
    true_here : is_true_clause m S ≡ true
    false_there : is_false P S ≡ true

  walk-ok : (K : List Clause) (T es : Trail) (P : List Literal) (S : Clause) (hints : List ℕ) → are_true m K ≡ true → Reasons K P es → SetOk P S → SetOk P (walk K T [] es S hints).0
  unfolding ReasonOk
  walk-ok K T [] P S hints a r h = h
  walk-ok K T (e ∷ es) P S hints a r h = go (is_resolved_on T [] w.0 e) e.reason r.0 (walk-ok K T es P S hints a r.1 h)
    where
      w : Clause × List ℕ
      w = walk K T [] es S hints

      go : (b : Bool) (o : Option ℕ) → ReasonOk K P e o → SetOk P w.0 → SetOk P (resolved_by K e w (if b then o else None)).0
      go false o q s = s
      go true None q s = s
      go true (Some n) q s = record {
        true_here = resolved-true m w.0 e.lit (clause_at K n) s.true_here (clause_at-true m K n a q.0 q.1);
        false_there = resolved-false P w.0 e.lit (clause_at K n) s.false_there q.2;
      }

  -- entries by their variables
  pub fresh-all : (K : List Clause) (b T : Trail) (k : Literal) → TrailOk V K m b T → has (literals T) k ≡ true → has_var (literals b) k.var ≡ false
  fresh-all K b [] k t h = absurd (cc)
  fresh-all K b (e ∷ T) k t h = elim (or-cases (same k e.lit) (has (literals T) k) h) [
    | inl here ↦ (let one = same-eq k e.lit here in rw one t.0.fresh)
    | inr rest ↦ shorter (literals b) (e.lit ∷ []) k.var (rw literals-append at (fresh-all K (b ++ e ∷ []) T k t.1 rest))
  ]
    where
      shorter : (P R : List Literal) (v : ℕ) → has_var (P ++ R) v ≡ false → has_var P v ≡ false
      shorter [] R v q = refl
      shorter (l ∷ P) R v q = go (nat_eq v l.var) q (shorter P R v)
        where
          go : (c : Bool) → c || has_var (P ++ R) v ≡ false → (has_var (P ++ R) v ≡ false → has_var P v ≡ false) → c || has_var P v ≡ false
          go true q more = q
          go false q more = more q

  pub last-differs : (K : List Clause) (b T : Trail) (e : Entry) (k : Literal) → TrailOk V K m (b ++ e ∷ []) T → has (literals T) k ≡ true → nat_eq e.lit.var k.var ≡ false
  last-differs K b T e k t h = go (nat_eq e.lit.var k.var) refl
    where
      at_end : (P : List Literal) (l : Literal) → has_var (P ++ l ∷ []) l.var ≡ true
      at_end [] l = (let s : nat_eq l.var l.var ≡ true = eq-eqb l.var l.var refl in rw s refl)
      at_end (k ∷ P) l = or-right (nat_eq l.var k.var) (has_var (P ++ l ∷ []) l.var) (at_end P l)

      absent : has_var (literals b ++ e.lit ∷ []) k.var ≡ false
      absent = rw literals-append at (fresh-all K (b ++ e ∷ []) T k t h)

      go : (c : Bool) → nat_eq e.lit.var k.var ≡ c → nat_eq e.lit.var k.var ≡ false
      go false q = q
      go true q = absurd (let v : e.lit.var ≡ k.var = eqb-true e.lit.var k.var q in let there : has_var (literals b ++ e.lit ∷ []) k.var ≡ true = rw (← v) (at_end (literals b) e.lit) in cc absent)

  record EntryFound (K : List Clause) (T : Trail) (k : Literal) : Type 0 where
    entry : Entry
    before : Trail
    is_entry : entry_of T k.var ≡ Some entry
    is_lit : entry.lit ≡ k
    ok : EntryOk V K m before entry

  entry-found : (K : List Clause) (b T : Trail) (k : Literal) → TrailOk V K m b T → has (literals T) k ≡ true → EntryFound K T k
  entry-found K b [] k t h = absurd (cc)
  entry-found K b (e ∷ T) k t h = elim (or-cases (same k e.lit) (has (literals T) k) h) [
    | inl here ↦ first (same-eq k e.lit here)
    | inr rest ↦ later rest (entry-found K (b ++ e ∷ []) T k t.1 rest)
  ]
    where
      first : k ≡ e.lit → EntryFound K (e ∷ T) k
      first s = record { entry = e; before = b; is_entry = (let v : nat_eq e.lit.var k.var ≡ true = eq-eqb e.lit.var k.var (ap (λ (l : Literal). l.var) (sym s)) in rw v refl); is_lit = sym s; ok = t.0 }

      later : has (literals T) k ≡ true → EntryFound K T k → EntryFound K (e ∷ T) k
      later r f = record { entry = f.entry; before = f.before; is_entry = (let d = last-differs K b T e k t.1 r in rw d f.is_entry); is_lit = f.is_lit; ok = f.ok }

  -- a literal that is dropped with the cube's isn't true
  cube-false : (K : List Clause) (T : Trail) (l : Literal) → TrailOk V K m [] T → has (literals T) (negated l) ≡ true → is_of_cube T l ≡ true → is_true m l ≡ false
  cube-false K T l t h c =
      not_true (is_true m l) (sym (is_true-negated m l) ∙ ap (is_true m) (sym f.is_lit) ∙ given f.entry.reason f.ok.why (rw f.is_entry at c))
    where
      f : EntryFound K T (negated l)
      f = entry-found K [] T (negated l) t h

      given : (r : Option ℕ) → Why V K m f.before f.entry r → nat_eq f.entry.level 0 && not (is_some r) ≡ true → is_true m f.entry.lit ≡ true
      given None (inl w) q = w.1
      given None (inr w) q = absurd (let z = eqb-true f.entry.level 0 (and-left (nat_eq f.entry.level 0) true q) in let p = w.0 in omega arith)
      given (Some n) w q = absurd (let no = and-right (nat_eq f.entry.level 0) false q in cc)

  -- the learnt clause is true
  kept-true : (K : List Clause) (T : Trail) (S : Clause) → TrailOk V K m [] T → SetOk (literals T) S → is_true_clause m (filter (λ l. not (is_of_cube T l)) S) ≡ true
  kept-true K T [] t h = absurd (let e = h.true_here in cc)
  kept-true K T (l ∷ S) t h = go (is_of_cube T l) refl (or-cases (is_true m l) (is_true_clause m S) h.true_here) (λ r. kept-true K T S t (record { true_here = r; false_there = and-right (has (literals T) (negated l)) (is_false (literals T) S) h.false_there }))
    where
      go : (c : Bool) → is_of_cube T l ≡ c → (is_true m l ≡ true) ⊎ (is_true_clause m S ≡ true) → (is_true_clause m S ≡ true → is_true_clause m (filter (λ l. not (is_of_cube T l)) S) ≡ true)
          → is_true_clause m (cond (not c) (l ∷ filter (λ l. not (is_of_cube T l)) S) (filter (λ l. not (is_of_cube T l)) S)) ≡ true
      go true q (inl here) more = absurd (let n = cube-false K T l t (and-left (has (literals T) (negated l)) (is_false (literals T) S) h.false_there) q in cc)
      go true q (inr rest) more = more rest
      go false q (inl here) more = or-left (is_true m l) (is_true_clause m (filter (λ l. not (is_of_cube T l)) S)) here
      go false q (inr rest) more = or-right (is_true m l) (is_true_clause m (filter (λ l. not (is_of_cube T l)) S)) (more rest)

  pub learn-true : (K : List Clause) (T : Trail) (n : ℕ) → are_true m K ≡ true → TrailOk V K m [] T → least_false (literals T) K ≡ Some n → is_true_clause m (learn K T n).clause ≡ true
  learn-true K T n a t h =
      let f = least_false-found (literals T) K n h in
      let start : SetOk (literals T) (with_literals (clause_at K n) []) = record {
        true_here = with_literals-left m (clause_at K n) [] (clause_at-true m K n a f.from f.to);
        false_there = with_literals-false (literals T) (clause_at K n) [] f.holds refl;
      } in
      kept-true K T (walk K T [] T (with_literals (clause_at K n) []) (n ∷ [])).0 t (walk-ok K T T (literals T) (with_literals (clause_at K n) []) (n ∷ []) a (reasons K [] T t) start)

  -- a state of a search in which all clauses are true
  pub record StateOk (s : OrderedState) : Type 0 where
    pub clauses : are_true m s.clauses ≡ true
    pub trail : TrailOk V s.clauses m [] s.trail

  -- what an outcome says
  abbrev pub OutcomeSays : Outcome → Type 0
  OutcomeSays (model M) = Unit {0}
  OutcomeSays (refuted lines) = ⊥
  OutcomeSays (exhausted x) = Unit {0}

  abbrev pub NextSays : Next OrderedState → Type 0
  NextSays (ends o) = OutcomeSays o
  NextSays (goes_on t) = StateOk t

  quiet-says : (s : OrderedState) → StateOk s → NextSays (on_quiet V s (least_free V s.trail))
  quiet-says s h = go (least_free V s.trail) refl
    where
      go : (o : Option ℕ) → least_free V s.trail ≡ o → NextSays (on_quiet V s o)
      go None e = tt
      go (Some x) e = record {
        clauses = h.clauses;
        trail = push V m s.clauses [] s.trail (record { lit = negative x; reason = None; level = current_level s.trail + 1 }) h.trail
            (record { fresh = free x e; rising = omega arith; why = inr (omega arith, refl, e) });
      }
        where
          free : (x : ℕ) → least_free V s.trail ≡ Some x → has_var (literals s.trail) x ≡ false
          free x e = not_true (has_var (literals s.trail) x) (find-passes (λ v. not (has_var (literals s.trail) v)) (variables V) x e)

  conflict-says : (budget n : ℕ) (s : OrderedState) → StateOk s → least_false (literals s.trail) s.clauses ≡ Some n → NextSays (on_conflict budget s (learn s.clauses s.trail n))
  conflict-says budget n s h f = go (nat_eq (current_level s.trail) 0) refl (nat_eq (s.conflicts + 1) budget)
    where
      line : Line
      line = learn s.clauses s.trail n

      never : current_level s.trail ≡ 0 → ⊥
      never z =
          let found = least_false-found (literals s.trail) s.clauses n f in
          let held : AreTrue m (literals s.trail) = zero-true V m s.clauses [] s.trail h.clauses h.trail z tt in
          let no = is_false-false m (literals s.trail) (clause_at s.clauses n) held found.holds in
          let it_is = clause_at-true m s.clauses n h.clauses found.from found.to in
          cc

      go : (b : Bool) → nat_eq (current_level s.trail) 0 ≡ b → (d : Bool)
          → NextSays (if b then ends (refuted (s.lines ++ line ∷ [])) else (if d then ends (exhausted (unwrap_or s.decided 0)) else goes_on (learnt_next s line)))
      go true e d = never (eqb-true (current_level s.trail) 0 e)
      go false e true = tt
      go false e false = record {
        clauses = are_true-push m s.clauses line.clause h.clauses (learn-true s.clauses s.trail n h.clauses h.trail f);
        trail = up_to-ok V m (s.clauses ++ line.clause ∷ []) s.trail (back_level s.trail line.clause) (grown V m s.clauses line.clause [] s.trail h.trail);
      }

  pub after-says : (budget : ℕ) (s : OrderedState) (a : Closed) → StateOk s → Says s.clauses s.trail a → NextSays (after V budget s a)
  after-says budget s quiet h k = quiet-says s h
  after-says budget s (conflict n) h k = conflict-says budget n s h k

  pub closed-ok : (s : OrderedState) (a : Closed) (T : Trail) → StateOk s → Propagates by_number s.clauses s.trail a T → StateOk (record s { trail = T })
  closed-ok s a T h c = record { clauses = h.clauses; trail = Propagates-ok V m by_number IsRule-by_number s.clauses s.trail T a c h.trail }

  step-says : (budget : ℕ) (s : OrderedState) (n : Next OrderedState) → NextSays (goes_on s) → IsOrderedStep V budget s n → NextSays n
  step-says budget s n h w =
      subst NextSays w.follows (after-says budget (record s { trail = w.trail }) w.answer (closed-ok s w.answer w.trail h w.propagates) (Propagates-says by_number s.clauses s.trail w.trail w.answer w.propagates))

  run-says : (budget : ℕ) (s : OrderedState) (o : Outcome) → RunsFrom (IsOrderedStep V budget) s o → StateOk s → OutcomeSays o
  run-says budget s o r h = RunsFrom-says (IsOrderedStep V budget) NextSays (step-says budget) s o r h

  -- the trail of a cube whose literals are true
  cube-ok : (K : List Clause) (P Q : List Literal) → IsDistinctFrom P Q → AreTrue m Q → TrailOk V K m (cube_trail P) (cube_trail Q)
  cube-ok K P [] d h = tt
  cube-ok K P (l ∷ Q) d h = (
    record { fresh = rw literals-cube d.0; rising = omega (arith, level-cube P (length (cube_trail P) - 1)); why = inl (refl, h.0) },
    subst (λ (b : Trail). TrailOk V K m b (cube_trail Q)) (cube-push P l) (cube-ok K (P ++ l ∷ []) Q d.1 h.1),
  )

  pub begin-ok : (F : Formula) (Q : List Literal) → are_true m F.clauses ≡ true → IsCube Q → AreTrue m Q → StateOk (begin F Q)
  begin-ok F Q a c h = record { clauses = a; trail = cube-ok F.clauses [] Q (IsDistinctFrom-cube Q c) h }

-- A refuted cube has no model.
pub refuted-unsatisfiable : (F : Formula) (B : ℕ) (Q : List Literal) (lines : List Line) → IsCube Q → RunsOrdered F B Q (refuted lines) → (M : Assignment) → Satisfies F M → AreTrue (value M) Q → ⊥
refuted-unsatisfiable F B Q lines c r M s h = run-says F.vars (value M) (budget_of B Q) (begin F Q) (refuted lines) r (begin-ok F.vars (value M) F Q s.clauses c h)
