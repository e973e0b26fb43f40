-- What a search keeps while it answers a question.
use Rattle.std.proofs.Common.{◌≡◌, ℕ, suc, ◌+◌, ◌<◌, ◌≤◌, min, Bool, true, false, ◌&&◌, ◌||◌, List, [], ◌∷◌, ◌++◌, length, take, drop, get_or, filter, refl, ap, ap₂, sym, subst, ◌∙◌, ◌⊎◌, inl, inr, Some, None, nat_le, nat_lt, ltb-true, ltb-false, All, arith, if◌then◌else◌}
use Rattle.std.proofs.lemmas.List.{take_more, take_all}
use Rattle.std.proofs.lemmas.List.Elements.{All-nil, All-push, All-head, All-tail, All-weaker, All-filter, All-map, filter-append}
use Rattle.theory.specs.Literals.{Literal, Clause, IsVariable, has, has_var, negated, same_sign}
use Rattle.theory.specs.Truth.{Formula, Assignment, AreTrue, IsOver, Satisfies, is_true, is_true_clause, are_true, value}
use Rattle.theory.specs.Trails.{Entry, Trail, literals, current_level, level_of, cube_trail, decide, up_to, least_free}
use Rattle.theory.specs.Propagation.{Closed, quiet, Rule, by_place, Propagates, clashes, grows, rests, unit_entry, least_false}
use Rattle.theory.specs.Lawful.{IsLawful, cube_of}
use Rattle.theory.specs.Learnable.{IsOpenBelow, IsLearnable}
use Rattle.theory.specs.Learning.{learn_removing, back_level}
use Rattle.theory.specs.Removing.{first_walk, removable}
use Rattle.theory.specs.Lessons.{lesson_of}
use Rattle.theory.specs.Search.{values}
use Rattle.theory.proofs.literals.LiteralLemmas.{and-left, and-right}
use Rattle.theory.proofs.literals.LiteralSets.{and-true, false_unless, has-cases, has-append_left, has-append_cases, has-head, has-tail}
use Rattle.theory.proofs.literals.OverVariables.{AreOver-from_IsOver, IsOver-from_AreOver, AreOver-push}
use Rattle.theory.proofs.trails.TrailLists.{literals-append}
use Rattle.theory.proofs.trails.LawfulTrails.{IsLawful-Propagates, IsLawful-append, IsLawful-decide, IsLawful-up_to, current_level-Propagates, least_false-at}
use Rattle.theory.proofs.trails.TrailEntries.{IsAt, entry_of_filter, has-literals_at, level-at, cube_of-decide, cube_of-Propagates, cube_of-up_to, cube_of-cube_trail, has-from_cube_of, literals-consistent}
use Rattle.theory.proofs.trails.TrailLevels.{level_of-most, has-up_to, current_level-up_to, up_to-up_to, up_to-current, up_to-push}
use Rattle.theory.proofs.searching.Rules.{IsRule-by_place}
use Rattle.theory.proofs.searching.OpenTrails.{current_level-cube_trail, IsOpenBelow-cube_trail, IsOpenBelow-Propagates, IsOpenBelow-decide, IsOpenBelow-up_to, IsOpenBelow-learn}
use Rattle.theory.proofs.searching.LearnableLines.{IsLearnable-learn}
use Rattle.cdcl.proofs.SearchingLemmas.{IsOver-learn}
use Rattle.theory.proofs.searching.KeptSearches.{AreOver-Propagates, AreOver-up_to}
use Rattle.theory.proofs.searching.LearntLines.{Passes-learn}
use Rattle.theory.proofs.searching.ReplayedLines.{Passes-true, are_true-push}
use Rattle.theory.proofs.searching.TrueSearches.{IsTrueSearch-conflict}
use Rattle.theory.proofs.searching.SplitSoundness.{Propagates-more}
use Rattle.theory.proofs.searching.ModelLemmas.{length-values, value-values, there-true, quiet-true}
use Rattle.kernel.specs.State.{State}
use Rattle.cdcl.proofs.PlaceLemmas.{placed-there, placed-is, place-split}
use Rattle.session.specs.declared.search.Search.{Search}
use Rattle.session.specs.Choosing.{HasChoice}
use Rattle.session.specs.Answers.{IsCore}
use Rattle.session.specs.Needing.{IsDecided, IsNeeded}
use Rattle.session.specs.Loading.{IsFit, IsLoaded}
use Rattle.session.specs.Asking.{IsOfAssumptions, IsAssumed, IsAsked}

-- a literal of some entries is one of all
has-part : (p : Entry → Bool) (T : Trail) (l : Literal) → has (literals (filter p T)) l ≡ true → has (literals T) l ≡ true
has-part p T l h = let f = entry_of_filter p T l h in subst (λ x. has (literals T) x ≡ true) f.2 (has-literals_at T f.0 f.1)

has-up : (T : Trail) (b : ℕ) (l : Literal) → has (literals (up_to T b)) l ≡ true → has (literals T) l ≡ true
has-up T b l h = has-part (λ e. nat_le e.level b) T l h

-- all is of the current level or below it
levels-within : (K : List Clause) (T : Trail) → IsLawful K T → All (λ e. e.level ≤ current_level T) T
levels-within K T lawful k d inside =
    let there = placed-there T k inside in
    let at : IsAt T there.0 = record { before = take k T; behind = drop (suc k) T; split = place-split T k there.0 there.1 } in
    subst (λ (e : Entry). e.level ≤ current_level T) (placed-is T k there.0 d there.1) (level-at K T there.0 lawful at)

-- assumptions as the trail grows by propagation
decided-Propagates : (rule : Rule) (K : List Clause) (T U : Trail) (a : Closed) (A : List Literal) (base : ℕ) → Propagates rule K T a U → All (IsOfAssumptions A base) T → All (IsOfAssumptions A base) U
decided-Propagates rule K T U a A base (clashes h) all = all
decided-Propagates rule K T U a A base (rests h i) all = all
decided-Propagates rule K T U a A base (grows {u = u} h i more) all =
    decided-Propagates rule K (T ++ unit_entry T u ∷ []) U a A base more (All-push (IsOfAssumptions A base) T (unit_entry T u) all (λ none above low. absurd (let clash : Some u.0 ≡ None = none in cc)))

pub IsAssumed-Propagates : (rule : Rule) (K : List Clause) (T U : Trail) (a : Closed) (A : List Literal) (assumed base : ℕ) → Propagates rule K T a U → IsAssumed A assumed base T → IsAssumed A assumed base U
IsAssumed-Propagates rule K T U a A assumed base closes h = record {
  taken = λ l t.
      let more = Propagates-more rule K T U a closes in
      let grown : literals (up_to U base) ≡ literals (up_to T base) ++ literals (up_to more.0 base) = ap (λ (W : Trail). literals (up_to W base)) more.1 ∙ (ap literals (filter-append (λ e. nat_le e.level base) T more.0) ∙ literals-append (up_to T base) (up_to more.0 base)) in
      subst (λ P. has P l ≡ true) (sym grown) (has-append_left (literals (up_to T base)) (literals (up_to more.0 base)) l (h.taken l t));
  decided = decided-Propagates rule K T U a A base closes h.decided;
  within = λ less. rw (current_level-Propagates rule K T U a closes) (h.within less);
}

-- as it goes back to a level
pub IsAssumed-back : (K : List Clause) (T : Trail) (A : List Literal) (assumed base level : ℕ) → IsLawful K T → level ≤ current_level T → IsAssumed A assumed base T
    → IsAssumed A (if nat_lt level base then 0 else assumed) (min base level) (up_to T level)
IsAssumed-back K T A assumed base level lawful most h = go (nat_lt level base) refl
  where
    below : (e : Entry) (b : ℕ) → b ≤ base → IsOfAssumptions A base e → IsOfAssumptions A b e
    below e b less of none above low = of none above (omega arith)

    kept : (b : ℕ) → b ≤ base → All (IsOfAssumptions A b) (up_to T level)
    kept b less = All-weaker (IsOfAssumptions A base) (IsOfAssumptions A b) (λ e of. below e b less of) (up_to T level) (All-filter (λ e. nat_le e.level level) (IsOfAssumptions A base) T h.decided)

    go : (b : Bool) → nat_lt level base ≡ b → IsAssumed A (if b then 0 else assumed) (min base level) (up_to T level)
    go true e =
        let lower : level < base = ltb-true level base e in
        let is : min base level ≡ level = omega arith in
        subst (λ b. IsAssumed A 0 b (up_to T level)) (sym is) (record {
          taken = λ l t. absurd (let none : has [] l ≡ true = t in cc);
          decided = kept level (omega (arith, lower));
          within = λ less. current_level-up_to T level;
        })
    go false e =
        let higher : base ≤ level = ltb-false level base e in
        let is : min base level ≡ base = omega arith in
        subst (λ b. IsAssumed A assumed b (up_to T level)) (sym is) (record {
          taken = λ l t. subst (λ (U : Trail). has (literals U) l ≡ true) (sym (up_to-up_to T level base higher)) (h.taken l t);
          decided = kept base (omega arith);
          within = λ less. let top = current_level-up_to T level in let low = h.within less in omega (arith, top, low, higher, most);
        })

-- one more assumption is true
pub IsAssumed-next : (K : List Clause) (T : Trail) (A : List Literal) (assumed base : ℕ) (a : Literal) → IsLawful K T → assumed < length A → a ≡ get_or A assumed a → has (literals T) a ≡ true → IsAssumed A assumed base T
    → IsAssumed A (assumed + 1) base T
IsAssumed-next K T A assumed base a lawful less is there h = record {
  taken = λ l t. go l (has-append_cases (take assumed A) (a ∷ []) l (subst (λ P. has P l ≡ true) (take_more A assumed a less ∙ ap (λ x. take assumed A ++ x ∷ []) (sym is)) t));
  decided = h.decided;
  within = λ more. h.within less;
}
  where
    go : (l : Literal) → (has (take assumed A) l ≡ true) ⊎ (has (a ∷ []) l ≡ true) → has (literals (up_to T base)) l ≡ true
    go l (inl before) = h.taken l before
    go l (inr here) = elim (has-cases a l [] here) [
      | inl one ↦
          let low : level_of T a ≤ base = let most = level_of-most K T a lawful there in let high = h.within less in omega (arith, most, high) in
          subst (λ x. has (literals (up_to T base)) x ≡ true) (sym one) (has-up_to K T base a lawful there low)
      | inr none ↦ absurd (cc)
    ]

-- an assumption is decided
pub IsAssumed-assume : (K : List Clause) (T : Trail) (A : List Literal) (assumed base : ℕ) (a : Literal) → IsLawful K T → has_var (literals T) a.var ≡ false → has A a ≡ true → current_level T ≤ base → IsAssumed A assumed base T
    → IsAssumed A assumed (current_level (decide T a)) (decide T a)
IsAssumed-assume K T A assumed base a lawful free of low h = record {
  taken = λ l t.
      let there : has (literals (decide T a)) l ≡ true = subst (λ P. has P l ≡ true) (sym (literals-append T (record { lit = a; reason = None; level = current_level T + 1 } ∷ []))) (has-append_left (literals T) (a ∷ []) l (has-up T base l (h.taken l t))) in
      has-up_to K (decide T a) (current_level (decide T a)) l grown there (level_of-most K (decide T a) l grown there);
  decided = All-push (IsOfAssumptions A (current_level (decide T a))) T (record { lit = a; reason = None; level = current_level T + 1 }) old (λ none above within. of);
  within = λ less. omega arith;
}
  where
    grown : IsLawful K (decide T a)
    grown = IsLawful-decide K T a lawful free

    old : All (IsOfAssumptions A (current_level (decide T a))) T
    old k d inside none above within = let top = levels-within K T lawful k d inside in h.decided k d inside none above (omega (arith, top, low))

-- another literal is decided, where all assumptions are true
pub IsAssumed-decide : (K : List Clause) (T : Trail) (A : List Literal) (assumed base : ℕ) (a : Literal) → IsLawful K T → length A ≤ assumed → IsAssumed A assumed base T
    → IsAssumed A assumed (min base (current_level T)) (decide T a)
IsAssumed-decide K T A assumed base a lawful all h = record {
  taken = λ l t. go l (h.taken l t);
  decided = All-push (IsOfAssumptions A (min base (current_level T))) T (record { lit = a; reason = None; level = current_level T + 1 })
      (All-weaker (IsOfAssumptions A base) (IsOfAssumptions A (min base (current_level T))) (λ e of none above within. of none above (omega (arith, within))) T h.decided) (λ none above within. absurd (omega (arith, within)));
  within = λ less. absurd (omega (arith, less, all));
}
  where
    go : (l : Literal) → has (literals (up_to T base)) l ≡ true → has (literals (up_to (decide T a) (min base (current_level T)))) l ≡ true
    go l there = subst (λ (U : Trail). has (literals U) l ≡ true) (sym (up_to-push T (record { lit = a; reason = None; level = current_level T + 1 }) (min base (current_level T)) (omega arith))) (part (nat_lt (current_level T) base) refl)
      where
        part : (b : Bool) → nat_lt (current_level T) base ≡ b → has (literals (up_to T (min base (current_level T)))) l ≡ true
        part true e =
            let lower : current_level T < base = ltb-true (current_level T) base e in
            let is : min base (current_level T) ≡ current_level T = omega arith in
            subst (λ b. has (literals (up_to T b)) l ≡ true) (sym is) (subst (λ (U : Trail). has (literals U) l ≡ true) (sym (up_to-current K T lawful)) (has-up T base l there))
        part false e =
            let higher : base ≤ current_level T = ltb-false (current_level T) base e in
            let is : min base (current_level T) ≡ base = omega arith in
            subst (λ b. has (literals (up_to T b)) l ≡ true) (sym is) there

-- with nothing but facts on the trail
pub IsAssumed-begin : (A Q : List Literal) → IsAssumed A 0 0 (cube_trail Q)
IsAssumed-begin A Q = record {
  taken = λ l t. absurd (let none : has [] l ≡ true = t in cc);
  decided = none Q;
  within = λ less. low Q;
}
  where
    none : (P : List Literal) → All (IsOfAssumptions A 0) (cube_trail P)
    none P = All-map (IsOfAssumptions A 0) (λ l. record { lit = l; reason = None; level = 0 }) P (λ k d inside reason above within. absurd (omega (arith, above)))

    low : (P : List Literal) → current_level (cube_trail P) ≤ 0
    low P = omega (arith, current_level-cube_trail P)

-- of some clauses and one more
pub are_true-front : (m : ℕ → Bool) (K : List Clause) (c : Clause) → are_true m (K ++ c ∷ []) ≡ true → are_true m K ≡ true
are_true-front m [] c h = refl
are_true-front m (d ∷ K) c h = and-true (is_true_clause m d) (are_true m K) (and-left (is_true_clause m d) (are_true m (K ++ c ∷ [])) h) (are_true-front m K c (and-right (is_true_clause m d) (are_true m (K ++ c ∷ [])) h))

-- the parts of the search beside the kernel
pub IsFit-kernel : (s : Search) (k : State) → IsFit s → k.vars ≡ s.kernel.vars → k.order ≡ s.kernel.order → k.out_of_memory ≡ false → IsFit (record s { kernel = k })
IsFit-kernel s k h vars order memory = record {
  memory = memory;
  order = order ∙ h.order;
  few = rw vars h.few;
  lessons = h.lessons ∙ sym vars;
  choice = rw vars h.choice;
  marked = h.marked ∙ ap (λ v. v + 1) (sym vars);
  facts = rw vars h.facts;
}

-- all else stays as far as it matters
pub IsAsked-with : (F : Formula) (A : List Literal) (s t : Search) → IsAsked F A s → t.kernel ≡ s.kernel → t.facts ≡ s.facts → t.lessons.vars ≡ s.lessons.vars → HasChoice s.kernel.vars t.choice
    → length t.marked.items ≡ length s.marked.items → IsAssumed A t.assumed t.base s.kernel.trail → IsAsked F A t
IsAsked-with F A s t h kernel facts lessons choice marked assumed = record {
  fit = record {
    memory = rw kernel h.fit.memory;
    order = rw kernel h.fit.order;
    few = rw kernel h.fit.few;
    lessons = rw kernel (lessons ∙ h.fit.lessons);
    choice = rw kernel choice;
    marked = rw kernel (marked ∙ h.fit.marked);
    facts = rw (kernel, facts) h.fit.facts;
  };
  meant = rw (kernel, facts) h.meant;
  vars = rw kernel h.vars;
  formula = h.formula;
  assumptions = h.assumptions;
  clauses = rw kernel h.clauses;
  lawful = rw kernel h.lawful;
  trail = rw kernel h.trail;
  open_below = rw kernel h.open_below;
  cube = rw (kernel, facts) h.cube;
  assumed = rw kernel assumed;
}

-- propagation
pub IsAsked-Propagates : (F : Formula) (A : List Literal) (s : Search) (k : State) (a : Closed) → IsAsked F A s → k.vars ≡ s.kernel.vars → k.clauses ≡ s.kernel.clauses → k.order ≡ s.kernel.order → k.out_of_memory ≡ false
    → Propagates by_place s.kernel.clauses s.kernel.trail a k.trail → IsAsked F A (record s { kernel = k })
IsAsked-Propagates F A s k a h vars clauses order memory closes = record {
  fit = IsFit-kernel s k h.fit vars order memory;
  meant = rw clauses h.meant;
  vars = rw vars h.vars;
  formula = h.formula;
  assumptions = h.assumptions;
  clauses = rw (vars, clauses) h.clauses;
  lawful = rw clauses (IsLawful-Propagates by_place IsRule-by_place s.kernel.clauses s.kernel.trail k.trail a closes h.lawful);
  trail = rw vars
      (IsOver-from_AreOver s.kernel.vars (literals k.trail)
      (AreOver-Propagates by_place IsRule-by_place s.kernel.vars s.kernel.clauses s.kernel.trail k.trail a h.clauses closes (AreOver-from_IsOver s.kernel.vars (literals s.kernel.trail) h.trail)));
  open_below = rw clauses (IsOpenBelow-Propagates by_place s.kernel.clauses s.kernel.trail k.trail a closes h.open_below);
  cube = cube_of-Propagates by_place s.kernel.clauses s.kernel.trail k.trail a closes ∙ h.cube;
  assumed = IsAssumed-Propagates by_place s.kernel.clauses s.kernel.trail k.trail a A s.assumed s.base closes h.assumed;
}

-- the kernel's trail changes
module _ (F : Formula) (A : List Literal) (s : Search) (h : IsAsked F A s) where
  IsAsked-trail : (T : Trail) → IsLawful s.kernel.clauses T → IsOver s.kernel.vars (literals T) → IsOpenBelow s.kernel.clauses T → cube_of T ≡ cube_of s.kernel.trail → (assumed base : ℕ) → IsAssumed A assumed base T
      → IsAsked F A (record s { kernel = record s.kernel { trail = T }; assumed = assumed; base = base })
  IsAsked-trail T lawful over open_below cube assumed base is = record {
    fit = record { memory = h.fit.memory; order = h.fit.order; few = h.fit.few; lessons = h.fit.lessons; choice = h.fit.choice; marked = h.fit.marked; facts = h.fit.facts };
    meant = h.meant;
    vars = h.vars;
    formula = h.formula;
    assumptions = h.assumptions;
    clauses = h.clauses;
    lawful = lawful;
    trail = over;
    open_below = open_below;
    cube = cube ∙ h.cube;
    assumed = is;
  }

  -- back to a level
  pub IsAsked-back : (level : ℕ) → level ≤ current_level s.kernel.trail
      → IsAsked F A (record s { kernel = record s.kernel { trail = up_to s.kernel.trail level }; assumed = if nat_lt level s.base then 0 else s.assumed; base = min s.base level })
  IsAsked-back level most =
      IsAsked-trail (up_to s.kernel.trail level) (IsLawful-up_to s.kernel.clauses s.kernel.trail level h.lawful)
      (IsOver-from_AreOver s.kernel.vars (literals (up_to s.kernel.trail level)) (AreOver-up_to s.kernel.vars s.kernel.trail level (AreOver-from_IsOver s.kernel.vars (literals s.kernel.trail) h.trail)))
      (IsOpenBelow-up_to s.kernel.clauses s.kernel.trail level most h.open_below) (cube_of-up_to s.kernel.trail level) (if nat_lt level s.base then 0 else s.assumed) (min s.base level)
      (IsAssumed-back s.kernel.clauses s.kernel.trail A s.assumed s.base level h.lawful most h.assumed)

  -- a decision
  pub IsAsked-decide : (l : Literal) → least_false (literals s.kernel.trail) s.kernel.clauses ≡ None → IsVariable s.kernel.vars l.var → has_var (literals s.kernel.trail) l.var ≡ false → (base : ℕ)
      → IsAssumed A s.assumed base (decide s.kernel.trail l) → IsAsked F A (record s { kernel = record s.kernel { trail = decide s.kernel.trail l }; base = base })
  IsAsked-decide l calm variable free base is =
      IsAsked-trail (decide s.kernel.trail l) (IsLawful-decide s.kernel.clauses s.kernel.trail l h.lawful free)
      (IsOver-from_AreOver s.kernel.vars (literals (decide s.kernel.trail l)) (AreOver-push s.kernel.vars s.kernel.trail (record { lit = l; reason = None; level = current_level s.kernel.trail + 1 }) (AreOver-from_IsOver s.kernel.vars (literals s.kernel.trail) h.trail) variable))
      (IsOpenBelow-decide s.kernel.clauses s.kernel.trail l h.lawful calm h.open_below) (cube_of-decide s.kernel.trail l) s.assumed base is

  -- a clause that follows is learnt
  pub IsAsked-learnt : (c : Clause) (k : State) → k ≡ record s.kernel { clauses = s.kernel.clauses ++ c ∷ [] } → IsOver s.kernel.vars c → IsOpenBelow (s.kernel.clauses ++ c ∷ []) s.kernel.trail
      → ((m : ℕ → Bool) → are_true m s.kernel.clauses ≡ true → AreTrue m s.facts → is_true_clause m c ≡ true) → IsAsked F A (record s { kernel = k })
  IsAsked-learnt c k learns over open_below follows = subst (λ (l : State). IsAsked F A (record s { kernel = l })) (sym learns) (record {
    fit = record { memory = h.fit.memory; order = h.fit.order; few = h.fit.few; lessons = h.fit.lessons; choice = h.fit.choice; marked = h.fit.marked; facts = h.fit.facts };
    meant = record {
      clauses = λ m a. are_true-push m s.kernel.clauses c (h.meant.clauses m a) (follows m (h.meant.clauses m a) (h.meant.facts m a));
      facts = h.meant.facts;
      covers = λ m a q. h.meant.covers m (are_true-front m s.kernel.clauses c a) q;
    };
    vars = h.vars;
    formula = h.formula;
    assumptions = h.assumptions;
    clauses = All-push (IsOver s.kernel.vars) s.kernel.clauses c h.clauses over;
    lawful = IsLawful-append s.kernel.clauses (c ∷ []) s.kernel.trail h.lawful;
    trail = h.trail;
    open_below = open_below;
    cube = h.cube;
    assumed = h.assumed;
  })

  -- the clause that a conflict teaches follows
  pub lesson-true : (n : ℕ) → least_false (literals s.kernel.trail) s.kernel.clauses ≡ Some n → (m : ℕ → Bool) → are_true m s.kernel.clauses ≡ true → AreTrue m s.facts
      → is_true_clause m (lesson_of s.kernel.clauses s.kernel.trail n).line.clause ≡ true
  lesson-true n clash m a q =
      let K = s.kernel.clauses in
      let T = s.kernel.trail in
      let R = removable K T (first_walk K T n).0 T [] in
      let at = least_false-at (literals T) K n clash in
      Passes-true m (length K) (cube_of T) K (learn_removing R K T n) (subst (AreTrue m) (sym h.cube) q) a (Passes-learn (length K) R K T n h.lawful at.0 at.1 at.2)

  -- a conflict at level 0 refutes the clauses
  pub IsCore-conflict : (n : ℕ) → least_false (literals s.kernel.trail) s.kernel.clauses ≡ Some n → current_level s.kernel.trail ≡ 0 → (core : List Literal) → core ≡ [] → IsCore F.clauses A core
  IsCore-conflict n clash level core none = subst (IsCore F.clauses A) (sym none) (record {
    part = All-nil (λ l. has A l ≡ true);
    refuted = λ m a t. IsTrueSearch-conflict m [] s.facts s.kernel.clauses s.kernel.trail [] n (h.meant.facts m a) clash level (record { lawful = h.lawful; cube = h.cube; all_true = h.meant.clauses m a });
  })

  -- what makes an assumption false is a core
  pub IsCore-needed : (failed : Literal) (core : List Literal) → has A failed ≡ true → current_level s.kernel.trail ≤ s.base → IsNeeded s.kernel.clauses s.kernel.trail failed core → IsCore F.clauses A core
  IsCore-needed failed core of low needed = record {
    part = All-weaker (λ l. (l ≡ failed) ⊎ IsDecided s.kernel.trail l) (λ l. has A l ≡ true) one core needed.part;
    refuted = λ m a t. needed.refuted m (h.meant.clauses m a) (subst (AreTrue m) (sym h.cube) (h.meant.facts m a)) t;
  }
    where
      middle : (before behind : Trail) (e : Entry) → All (IsOfAssumptions A s.base) (before ++ e ∷ behind) → IsOfAssumptions A s.base e
      middle [] behind e all = All-head (IsOfAssumptions A s.base) e behind all
      middle (x ∷ before) behind e all = middle before behind e (All-tail (IsOfAssumptions A s.base) x (before ++ e ∷ behind) all)

      one : (l : Literal) → (l ≡ failed) ⊎ IsDecided s.kernel.trail l → has A l ≡ true
      one l (inl is) = subst (λ x. has A x ≡ true) (sym is) of
      one l (inr d) =
          let e = d.0 in
          let at : IsAt s.kernel.trail e = record { before = d.1.before; behind = d.1.behind; split = d.1.place } in
          let top = level-at s.kernel.clauses s.kernel.trail e h.lawful at in
          subst (λ x. has A x ≡ true) d.2 (middle d.1.before d.1.behind e (subst (All (IsOfAssumptions A s.base)) d.1.place h.assumed.decided) d.1.reason d.1.above (omega (arith, top, low)))

-- where propagation came to rest, no clause is false
pub quiet-open : (rule : Rule) (K : List Clause) (T U : Trail) → Propagates rule K T quiet U → least_false (literals U) K ≡ None
quiet-open rule K T U (grows {u = u} h i more) = quiet-open rule K (T ++ unit_entry T u ∷ []) U more
quiet-open rule K T U (rests h i) = h

-- each of the literals is true
AreTrue-each : (m : ℕ → Bool) (P : List Literal) → ((l : Literal) → has P l ≡ true → is_true m l ≡ true) → AreTrue m P
AreTrue-each m [] f = tt
AreTrue-each m (l ∷ P) f = (f l (has-head l P), AreTrue-each m P (λ k a. f k (has-tail l k P a)))

-- truth values that agree on the clauses' variables
clause-agrees : (V : ℕ) (m n : ℕ → Bool) (c : Clause) → IsOver V c → ((v : ℕ) → IsVariable V v → m v ≡ n v) → is_true_clause m c ≡ is_true_clause n c
clause-agrees V m n [] over same = refl
clause-agrees V m n (l ∷ c) over same =
    ap₂ (λ a b. same_sign l.positive a || b) (same l.var (All-head (λ (k : Literal). IsVariable V k.var) l c over)) (clause-agrees V m n c (All-tail (λ (k : Literal). IsVariable V k.var) l c over) same)

pub clauses-agree : (V : ℕ) (m n : ℕ → Bool) (K : List Clause) → All (IsOver V) K → ((v : ℕ) → IsVariable V v → m v ≡ n v) → are_true m K ≡ are_true n K
clauses-agree V m n [] over same = refl
clauses-agree V m n (c ∷ K) over same = ap₂ (λ a b. a && b) (clause-agrees V m n c (All-head (IsOver V) c K over) same) (clauses-agree V m n K (All-tail (IsOver V) c K over) same)

-- where no variable is free and all assumptions are true, the trail is a model
module _ (F : Formula) (A : List Literal) (s : Search) (h : IsAsked F A s) where
  -- what is on the trail is true by its values
  on-trail : (V : ℕ) (l : Literal) → IsVariable V l.var → has (literals s.kernel.trail) l ≡ true → is_true (value (values V s.kernel.trail)) l ≡ true
  on-trail V l variable there = there-true V s.kernel.trail l variable there (false_unless (has (literals s.kernel.trail) (negated l)) (λ t. literals-consistent s.kernel.clauses s.kernel.trail l h.lawful there t))

  pub model-says : (M : Assignment) → M ≡ values F.vars s.kernel.trail → least_free s.kernel.vars s.kernel.trail ≡ None → least_false (literals s.kernel.trail) s.kernel.clauses ≡ None → length A ≤ s.assumed
      → Satisfies F M × AreTrue (value M) A
  model-says M is full calm all = subst (λ N. Satisfies F N × AreTrue (value N) A) (sym is) (
    record { values = length-values F.vars s.kernel.trail; clauses = agreed ∙ h.meant.covers (value whole) (quiet-true s.kernel.vars s.kernel.trail s.kernel.clauses full h.clauses calm) facts },
    AreTrue-each (value (values F.vars s.kernel.trail)) A (λ l a. on-trail F.vars l (AreOver-from_IsOver F.vars A h.assumptions l a) (there l a)),
  )
    where
      whole : Assignment
      whole = values s.kernel.vars s.kernel.trail

      there : (l : Literal) → has A l ≡ true → has (literals s.kernel.trail) l ≡ true
      there l a = has-up s.kernel.trail s.base l (h.assumed.taken l (subst (λ P. has P l ≡ true) (sym (take_all s.assumed A all)) a))

      agreed : are_true (value (values F.vars s.kernel.trail)) F.clauses ≡ are_true (value whole) F.clauses
      agreed = clauses-agree F.vars (value (values F.vars s.kernel.trail)) (value whole) F.clauses h.formula
          (λ v k. value-values F.vars s.kernel.trail v k ∙ sym (value-values s.kernel.vars s.kernel.trail v (let high = k.1 in let more = h.vars in (k.0, omega (arith, high, more)))))

      facts : AreTrue (value whole) s.facts
      facts = AreTrue-each (value whole) s.facts (λ l a.
          let part = (has-from_cube_of s.kernel.clauses s.kernel.trail l h.lawful (subst (λ P. has P l ≡ true) (sym h.cube) a)).0 in
          on-trail s.kernel.vars l (AreOver-from_IsOver s.kernel.vars (literals s.kernel.trail) h.trail l part) part)

-- a question begins
pub IsAsked-begin : (F : Formula) (A : List Literal) (s : Search) (k : State) (n : ℕ) → IsLoaded F.clauses F.clauses s → F.vars ≤ s.kernel.vars → All (IsOver F.vars) F.clauses → IsOver F.vars A
    → k ≡ record s.kernel { first = n; clauses = s.kernel.clauses; trail = cube_trail s.facts } → IsLawful k.clauses k.trail → IsOver k.vars (literals k.trail) → All (IsOver k.vars) k.clauses
    → IsAsked F A (record s { kernel = k; assumed = 0; base = 0 })
IsAsked-begin F A s k n h vars formula assumptions is lawful over clauses = subst (λ (l : State). IsLawful l.clauses l.trail → IsOver l.vars (literals l.trail) → All (IsOver l.vars) l.clauses → IsAsked F A (record s { kernel = l; assumed = 0; base = 0 })) (sym is)
    (λ own_lawful own_over own_clauses. record {
      fit = record { memory = h.fit.memory; order = h.fit.order; few = h.fit.few; lessons = h.fit.lessons; choice = h.fit.choice; marked = h.fit.marked; facts = h.fit.facts };
      meant = h.meant;
      vars = vars;
      formula = formula;
      assumptions = assumptions;
      clauses = own_clauses;
      lawful = own_lawful;
      trail = own_over;
      open_below = IsOpenBelow-cube_trail s.kernel.clauses s.facts;
      cube = cube_of-cube_trail s.facts;
      assumed = IsAssumed-begin A s.facts;
    }) lawful over clauses

-- a conflict teaches a clause, behind which the search s went back to t
module _ (F : Formula) (A : List Literal) (s : Search) (h : IsAsked F A s) (n : ℕ) (clash : least_false (literals s.kernel.trail) s.kernel.clauses ≡ Some n) (above : 1 ≤ current_level s.kernel.trail)
    (t : Search) (went_on : IsAsked F A t) (c : Clause) (level : ℕ) (clause : c ≡ (lesson_of s.kernel.clauses s.kernel.trail n).line.clause)
    (back : level ≡ back_level s.kernel.trail (lesson_of s.kernel.clauses s.kernel.trail n).line.clause) (went : t.kernel ≡ record s.kernel { trail = up_to s.kernel.trail level }) (facts : t.facts ≡ s.facts) where
  R : List Literal
  R = removable s.kernel.clauses s.kernel.trail (first_walk s.kernel.clauses s.kernel.trail n).0 s.kernel.trail []

  learnt : Clause
  learnt = (lesson_of s.kernel.clauses s.kernel.trail n).line.clause

  pub taught-learnable : IsOver t.kernel.vars c × IsLearnable t.kernel.trail c
  unfolding R learnt
  taught-learnable = subst (λ (k : State). IsOver k.vars c × IsLearnable k.trail c) (sym went) (subst (λ d. IsOver s.kernel.vars d × IsLearnable (up_to s.kernel.trail level) d) (sym clause)
      (subst (λ b. IsOver s.kernel.vars learnt × IsLearnable (up_to s.kernel.trail b) learnt) (sym back)
      (IsOver-learn s.kernel.vars R s.kernel.clauses s.kernel.trail n h.lawful h.trail clash, IsLearnable-learn R s.kernel.clauses s.kernel.trail n h.lawful h.open_below above clash)))

  pub IsAsked-taught : (k : State) → k ≡ record t.kernel { clauses = t.kernel.clauses ++ c ∷ [] } → IsAsked F A (record t { kernel = k })
  unfolding R learnt
  IsAsked-taught k learns = IsAsked-learnt F A t went_on c k learns taught-learnable.0
      (subst (λ (l : State). IsOpenBelow (l.clauses ++ c ∷ []) l.trail) (sym went) (subst (λ d. IsOpenBelow (s.kernel.clauses ++ d ∷ []) (up_to s.kernel.trail level)) (sym clause)
      (subst (λ b. IsOpenBelow (s.kernel.clauses ++ learnt ∷ []) (up_to s.kernel.trail b)) (sym back) (IsOpenBelow-learn R s.kernel.clauses s.kernel.trail n h.lawful h.open_below above clash))))
      (λ m a q. subst (λ d. is_true_clause m d ≡ true) (sym clause) (lesson-true F A s h n clash m (subst (λ (l : State). are_true m l.clauses ≡ true) went a) (subst (AreTrue m) facts q)))
