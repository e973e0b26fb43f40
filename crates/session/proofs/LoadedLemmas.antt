-- What a kernel says once it is opened anew.
use Rattle.std.proofs.Common.{◌≡◌, ℕ, zero, suc, ◌+◌, ◌≤◌, Bool, true, false, not, List, [], ◌∷◌, ◌++◌, length, take, filter, refl, ap, sym, subst, ◌∙◌, Option, Some, None, is_some, slice_get, nat_eq, eq-eqb, cond, arith, append_assoc}
use Rattle.std.specs.List.Sorted.{IsPermutation}
use Rattle.std.proofs.Math.Seq.{take-length}
use Rattle.std.proofs.lemmas.List.Sorted.{list_any-IsPermutation}
use Rattle.theory.specs.Literals.{Literal, Clause, negated, without}
use Rattle.theory.specs.Truth.{Formula, AreTrue, IsOver, is_true, is_true_clause, are_true}
use Rattle.theory.specs.Trails.{Entry, Trail, literals, current_level, is_given}
use Rattle.theory.specs.Propagation.{clause_at}
use Rattle.theory.specs.Lawful.{IsLawful, IsLawfulAfter, IsGrounded, cube_of}
use Rattle.theory.proofs.literals.LiteralLemmas.{and-left, and-right, not_true, is_true-negated}
use Rattle.theory.proofs.literals.LiteralSets.{and-true, has-without, Refutes-from_is_false}
use Rattle.theory.proofs.literals.TrueClauses.{AreTrue-has, AreTrue-append}
use Rattle.theory.proofs.literals.ClauseLemmas.{clause_at-true}
use Rattle.theory.proofs.trails.TrailLists.{literals-append, current_level-push}
use Rattle.theory.proofs.trails.LawfulTrails.{current_level-rises}
use Rattle.theory.proofs.searching.ReplayedLines.{are_true-push}
use Rattle.theory.specs.Reading.{large, max_vars}
use Rattle.kernel.specs.State.{State}
use Rattle.kernel.specs.declared.order.Order.TheVariants.{ByPlace}
use Rattle.session.specs.declared.search.Search.{Search}
use Rattle.session.specs.Choosing.{HasChoice}
use Rattle.session.specs.Loading.{IsLoaded, IsPut, IsPutBehind}
use Rattle.session.specs.Asking.{IsAsked}
use Rattle.session.proofs.TrailTruths.{IsOver-more}
use Rattle.session.proofs.AskedLemmas.{are_true-front}
use Rattle.session.proofs.NeededLemmas.{clause-forces}

-- at level 0 all is true where the clauses and the trail's cube are
module _ (m : ℕ → Bool) (K : List Clause) (a : are_true m K ≡ true) where
  given-true : (e : Entry) (T : Trail) → AreTrue m (cube_of (e ∷ T)) → (is_given (Some e) ≡ true → is_true m e.lit ≡ true) × AreTrue m (cube_of T)
  given-true e T h = go (is_given (Some e)) h
    where
      go : (b : Bool) → AreTrue m (literals (cond b (e ∷ filter (λ x. is_given (Some x)) T) (filter (λ x. is_given (Some x)) T))) → (b ≡ true → is_true m e.lit ≡ true) × AreTrue m (cube_of T)
      go true t = ((λ i. t.0), t.1)
      go false t = ((λ i. absurd (cc)), t)

  level-true : (before T : Trail) → IsLawfulAfter K before T → current_level (before ++ T) ≡ 0 → AreTrue m (literals before) → AreTrue m (cube_of T) → AreTrue m (literals T)
  level-true before [] lawful level b c = tt
  level-true before (e ∷ T) lawful level b c = (here, level-true (before ++ e ∷ []) T lawful.1 behind (subst (AreTrue m) (sym (literals-append before (e ∷ []))) (AreTrue-append m (literals before) (e.lit ∷ []) b (here, tt))) (given-true e T c).1)
    where
      behind : current_level ((before ++ e ∷ []) ++ T) ≡ 0
      behind = ap current_level (append_assoc before (e ∷ []) T) ∙ level

      low : e.level ≡ 0
      low = let rises = current_level-rises K (before ++ e ∷ []) T lawful.1 in let top = current_level-push before e in omega (arith, rises, top, behind)

      why : (r : Option ℕ) → e.reason ≡ r → IsGrounded K before e r → is_true m e.lit ≡ true
      why None is g = (given-true e T c).0 (and-true (nat_eq e.level 0) (not (is_some e.reason)) (eq-eqb e.level 0 low) (ap (λ (o : Option ℕ). not (is_some o)) is))
      why (Some n) is g =
          clause-forces m e.lit (clause_at K n)
          (λ k holds other. not_true (is_true m k) (sym (is_true-negated m k) ∙ AreTrue-has m (literals before) (negated k) b (Refutes-from_is_false (literals before) (without (clause_at K n) e.lit) g.1.others k (has-without (clause_at K n) e.lit k holds other))))
          (clause_at-true m K n a g.1.numbered.0 g.1.numbered.1)

      here : is_true m e.lit ≡ true
      here = why e.reason refl lawful.0.grounded

  pub known-true : (T : Trail) → IsLawful K T → current_level T ≡ 0 → AreTrue m (cube_of T) → AreTrue m (literals T)
  known-true T lawful level c = level-true [] T lawful level tt c

-- the cube's literals are among those of the trail
pub cube-true : (m : ℕ → Bool) (T : Trail) → AreTrue m (literals T) → AreTrue m (cube_of T)
cube-true m [] h = tt
cube-true m (e ∷ T) h = go (is_given (Some e)) (cube-true m T h.1)
  where
    go : (b : Bool) → AreTrue m (cube_of T) → AreTrue m (literals (cond b (e ∷ filter (λ x. is_given (Some x)) T) (filter (λ x. is_given (Some x)) T)))
    go true more = (h.0, more)
    go false more = more

-- the last of some clauses
pub are_true-last : (m : ℕ → Bool) (K : List Clause) (c : Clause) → are_true m (K ++ c ∷ []) ≡ true → is_true_clause m c ≡ true
are_true-last m [] c h = and-left (is_true_clause m c) true h
are_true-last m (d ∷ K) c h = are_true-last m K c (and-right (is_true_clause m d) (are_true m (K ++ c ∷ [])) h)

pub take-next : (K : List Clause) (i : ℕ) (c : Clause) → slice_get K i ≡ Some c → take (i + 1) K ≡ take i K ++ c ∷ []
take-next [] i c h = absurd (cc)
take-next (d ∷ K) zero c h = let one : d ≡ c = cc in ap (λ x. x ∷ []) one
take-next (d ∷ K) (suc i) c h = let on : suc i + 1 ≡ suc (i + 1) = omega arith in ap (λ n. take n (d ∷ K)) on ∙ ap (λ (x : List Clause). d ∷ x) (take-next K i c h)

pub IsPut-first : (K : List Clause) (P : List Literal) → IsPut K [] 0 P
IsPut-first K P = record { follows = λ m a. refl; covers = λ m a t. refl }

-- a clause more
pub IsPut-push : (K D : List Clause) (place : ℕ) (P : List Literal) (c : Clause) → slice_get K place ≡ Some c → IsPut K D place P → IsPut K (D ++ c ∷ []) (place + 1) P
IsPut-push K D place P c at h = record {
  follows = λ m a. let b = subst (λ x. are_true m x ≡ true) (take-next K place c at) a in are_true-push m D c (h.follows m (are_true-front m (take place K) c b)) (are_true-last m (take place K) c b);
  covers = λ m a t. subst (λ x. are_true m x ≡ true) (sym (take-next K place c at)) (are_true-push m (take place K) c (h.covers m (are_true-front m D c a) t) (are_true-last m D c a));
}

-- one that is satisfied
pub IsPut-skip : (K D : List Clause) (place : ℕ) (P : List Literal) (c : Clause) → slice_get K place ≡ Some c → ((m : ℕ → Bool) → AreTrue m P → is_true_clause m c ≡ true) → IsPut K D place P → IsPut K D (place + 1) P
IsPut-skip K D place P c at satisfied h = record {
  follows = λ m a. h.follows m (are_true-front m (take place K) c (subst (λ x. are_true m x ≡ true) (take-next K place c at) a));
  covers = λ m a t. subst (λ x. are_true m x ≡ true) (sym (take-next K place c at)) (are_true-push m (take place K) c (h.covers m a t) (satisfied m t));
}

pub IsPutBehind-first : (K old : List Clause) → IsPutBehind K old old
IsPutBehind-first K old = record { follows = λ m a b. b; covers = λ m a. a }

pub IsPutBehind-push : (K old new : List Clause) (n : ℕ) (c : Clause) → 1 ≤ n → n ≤ length K → IsPermutation (clause_at K n) c → IsPutBehind K old new → IsPutBehind K old (new ++ c ∷ [])
IsPutBehind-push K old new n c one end permuted h = record {
  follows = λ m a b. are_true-push m new c (h.follows m a b) (sym (list_any-IsPermutation (is_true m) (clause_at K n) c permuted) ∙ clause_at-true m K n a one end);
  covers = λ m a. h.covers m (are_true-front m new c a);
}

-- what is known at level 0 becomes facts
pub IsLoaded-settled : (F : Formula) (A : List Literal) (s : Search) (facts : List Literal) → IsAsked F A s → current_level s.kernel.trail ≡ 0 → facts ≡ literals s.kernel.trail → IsLoaded F.clauses F.clauses (record s { facts = facts })
IsLoaded-settled F A s facts h level is = record {
  fit = record { memory = h.fit.memory; order = h.fit.order; few = h.fit.few; lessons = h.fit.lessons; choice = h.fit.choice; marked = h.fit.marked; facts = subst (IsOver s.kernel.vars) (sym is) h.trail };
  meant = record {
    clauses = h.meant.clauses;
    facts = λ m a. subst (AreTrue m) (sym is) (known-true m s.kernel.clauses (h.meant.clauses m a) s.kernel.trail h.lawful level (subst (AreTrue m) (sym h.cube) (h.meant.facts m a)));
    covers = λ m a q. h.meant.covers m a (subst (AreTrue m) h.cube (cube-true m s.kernel.trail (subst (AreTrue m) is q)));
  };
}

-- the kernel is opened anew over D, which stands for the clauses that were added and some learnt ones
pub IsLoaded-renewed : (K B D : List Clause) (s t : Search) (room : ℕ) → (E : List Clause) × IsLoaded K E s → IsPut K B (length K) s.facts → IsPutBehind s.kernel.clauses B D
    → t.kernel ≡ record { vars = room; order = ByPlace; first = length D; clauses = D; trail = []; out_of_memory = false } → t.facts ≡ s.facts → t.lessons.vars ≡ room → HasChoice room t.choice → length t.marked.items ≡ room + 1
    → s.kernel.vars ≤ room → room ≤ max_vars large → IsLoaded K K t
IsLoaded-renewed K B D s t room was put behind kernel facts lessons choice marked more few = record {
  fit = record {
    memory = ap (λ (k : State). k.out_of_memory) kernel;
    order = ap (λ (k : State). k.order) kernel;
    few = subst (λ v. v ≤ max_vars large) (sym vars) few;
    lessons = lessons ∙ sym vars;
    choice = subst (λ v. HasChoice v t.choice) (sym vars) choice;
    marked = marked ∙ ap (λ v. v + 1) (sym vars);
    facts = subst (λ v. IsOver v t.facts) (sym vars) (subst (IsOver room) (sym facts) (IsOver-more s.kernel.vars room s.facts more was.1.fit.facts));
  };
  meant = record {
    clauses = λ m a. subst (λ x. are_true m x ≡ true) (sym clauses) (behind.follows m (was.1.meant.clauses m a) (put.follows m (subst (λ x. are_true m x ≡ true) (sym (take-length K)) a)));
    facts = λ m a. subst (AreTrue m) (sym facts) (was.1.meant.facts m a);
    covers = λ m a q. subst (λ x. are_true m x ≡ true) (take-length K) (put.covers m (behind.covers m (subst (λ x. are_true m x ≡ true) clauses a)) (subst (AreTrue m) facts q));
  };
}
  where
    vars : t.kernel.vars ≡ room
    vars = ap (λ (k : State). k.vars) kernel

    clauses : t.kernel.clauses ≡ D
    clauses = ap (λ (k : State). k.clauses) kernel
