-- What a search keeps: it is so at the beginning, and propagation, decisions, learning, going back
-- and forgetting keep it.
use Rattle.std.proofs.Common.{◌≡◌, ℕ, ◌+◌, ◌-◌, ◌<◌, ◌≤◌, true, false, List, [], ◌∷◌, ◌++◌, map, length, ap, sym, subst, ◌∙◌, nat_eq, None, Some, append_assoc, append-nil, arith, All, refl, inl, inr}
use Rattle.std.proofs.lemmas.List.{map-append}
use Rattle.std.proofs.lemmas.List.Elements.{All-push}
use Rattle.std.specs.List.{list_any}
use Rattle.theory.specs.Literals.{Literal, Clause, negations, has, has_var, IsVariable, are_distinct, has_both_signs}
use Rattle.theory.specs.Truth.{IsOver}
use Rattle.theory.specs.Status.{is_false}
use Rattle.theory.specs.Trails.{Trail, literals, current_level, cube_trail, decide, up_to}
use Rattle.theory.specs.Propagation.{clause_at, least_false, Closed, unit_entry, Propagates, clashes, grows, rests, Rule, IsRule}
use Rattle.theory.specs.Lawful.{IsLawful, cube_of}
use Rattle.theory.specs.Learning.{Line, learn_removing, back_level}
use Rattle.theory.specs.Forgetting.{forgotten, forgetting, forget}
use Rattle.theory.specs.Deletions.{is_among}
use Rattle.theory.specs.Proofs.{forgotten_by}
use Rattle.theory.specs.Replaying.{IsReplayed, AreReplayed}
use Rattle.theory.specs.Kept.{clauses_of, AreLeft, IsSearchOf}
use Rattle.theory.proofs.literals.LiteralSets.{true_false, false_unless}
use Rattle.theory.proofs.trails.LawfulTrails.{least_false-at, unit_literal-facts, IsLawful-append, IsLawful-up_to, IsLawful-decide, IsLawful-Propagates}
use Rattle.theory.proofs.trails.TrailLevels.{up_to-up_to}
use Rattle.theory.proofs.searching.Invariants.{AreLearnt}
use Rattle.theory.proofs.searching.ForgettingLines.{length-kept, AreForgetting-push, is_among-push, AreForgetting-line, gone-more, gone-line, gone-forget, forgotten-at}
use Rattle.theory.proofs.literals.OverVariables.{AreOver, IsOver-from_AreOver, AreOver-from_IsOver, IsOver-left, clause_at-over, AreOver-push}
use Rattle.theory.proofs.searching.OpenTrails.{IsOpenBelow-cube_trail, IsOpenBelow-Propagates, IsOpenBelow-decide, IsOpenBelow-up_to, IsOpenBelow-learn}
use Rattle.theory.proofs.searching.LearnableLines.{free-learn, current_level-learn}
use Rattle.theory.proofs.searching.LearntLines.{Passes-learn, has_both_signs-learn, IsVariable-learn, Refutes-learn}
use Rattle.theory.proofs.trails.TrailEntries.{has-literals_at, entry_of_filter, cube_of-decide, cube_of-Propagates, cube_of-up_to, cube_of-cube_trail, IsLawful-cube_trail}
use Rattle.theory.proofs.trails.TrailLists.{literals-cube}
use Rattle.theory.proofs.searching.ForgottenClauses.{AreLeft-refl, AreLeft-append, AreLeft-length, IsLawful-left, conflict-left, learn-left, hints-left}
use Rattle.theory.proofs.searching.ForgettingNumbers.{AreLeft-forget, forget-append, forget-none, forget-push, AreNoReasons, IsLawful-forget, IsOpenBelow-forget, All-forget}

pub AreOver-Propagates : (rule : Rule) → IsRule rule → (V : ℕ) (K : List Clause) (T U : Trail) (a : Closed) → All (IsOver V) K → Propagates rule K T a U → AreOver V (literals T) → AreOver V (literals U)
AreOver-Propagates rule g V K T U a over (clashes h) t = t
AreOver-Propagates rule g V K T U a over (rests h i) t = t
AreOver-Propagates rule g V K T U a over (grows {u = u} h i more) t =
    let at = g.gives T K u i in
    let there = (unit_literal-facts (literals T) (clause_at K u.0) u.1 at.2).0 in
    AreOver-Propagates rule g V K (T ++ unit_entry T u ∷ []) U a over more (AreOver-push V T (unit_entry T u) t (clause_at-over V K u.0 over at.0 at.1 u.1 there))

pub AreOver-up_to : (V : ℕ) (T : Trail) (b : ℕ) → AreOver V (literals T) → AreOver V (literals (up_to T b))
AreOver-up_to V T b h l a =
    let f = entry_of_filter _ T l a in
    h l (subst (λ x. has (literals T) x ≡ true) f.2 (has-literals_at T f.0 f.1))

-- one more line
pub AreReplayed-push : (V N : ℕ) (Q : List Literal) (K : List Clause) (lines : List Line) (line : Line) → AreReplayed V N Q K lines
    → IsReplayed V N Q (K ++ map (λ (x : Line). x.clause) lines) line → AreReplayed V N Q K (lines ++ line ∷ [])
AreReplayed-push V N Q K [] line h one = (rw (append-nil K) at one, tt)
AreReplayed-push V N Q K (l ∷ lines) line h one =
    (h.0, AreReplayed-push V N Q (K ++ l.clause ∷ []) lines line h.1 (rw (append_assoc K (l.clause ∷ []) (map (λ (x : Line). x.clause) lines)) one))

-- the beginning
pub IsSearchOf-begin : (V : ℕ) (K : List Clause) (Q : List Literal) → All (IsOver V) K → are_distinct Q ≡ true → IsOver V Q → IsSearchOf V K Q K (cube_trail Q) []
IsSearchOf-begin V K Q formed distinct over = record {
  learnt = [];
  are_clauses = sym (append-nil K);
  left = tt;
  over = formed;
  lawful = IsLawful-cube_trail K Q distinct;
  open_below = IsOpenBelow-cube_trail K Q;
  cube = cube_of-cube_trail Q;
  variables = subst (IsOver V) (sym (literals-cube Q)) over;
  replayed = tt;
  forgetting = tt;
  gone = λ k a. absurd (cc);
}

pub IsSearchOf-Propagates : (rule : Rule) → IsRule rule → (V : ℕ) (K : List Clause) (Q : List Literal) (C : List Clause) (T U : Trail) (a : Closed) (lines : List Line)
    → Propagates rule C T a U → IsSearchOf V K Q C T lines → IsSearchOf V K Q C U lines
IsSearchOf-Propagates rule g V K Q C T U a lines h i = record {
  learnt = i.learnt;
  are_clauses = i.are_clauses;
  left = i.left;
  over = i.over;
  lawful = IsLawful-Propagates rule g C T U a h i.lawful;
  open_below = IsOpenBelow-Propagates rule C T U a h i.open_below;
  cube = cube_of-Propagates rule C T U a h ∙ i.cube;
  variables = IsOver-from_AreOver V (literals U) (AreOver-Propagates rule g V C T U a i.over h (AreOver-from_IsOver V (literals T) i.variables));
  replayed = i.replayed;
  forgetting = i.forgetting;
  gone = i.gone;
}

pub IsSearchOf-decide : (V : ℕ) (K : List Clause) (Q : List Literal) (C : List Clause) (T : Trail) (lines : List Line) (l : Literal) → least_false (literals T) C ≡ None → IsVariable V l.var
    → has_var (literals T) l.var ≡ false → IsSearchOf V K Q C T lines → IsSearchOf V K Q C (decide T l) lines
IsSearchOf-decide V K Q C T lines l calm variable free i = record {
  learnt = i.learnt;
  are_clauses = i.are_clauses;
  left = i.left;
  over = i.over;
  lawful = IsLawful-decide C T l i.lawful free;
  open_below = IsOpenBelow-decide C T l i.lawful calm i.open_below;
  cube = cube_of-decide T l ∙ i.cube;
  variables = IsOver-from_AreOver V (literals (decide T l)) (AreOver-push V T (record { lit = l; reason = None; level = current_level T + 1 }) (AreOver-from_IsOver V (literals T) i.variables) variable);
  replayed = i.replayed;
  forgetting = i.forgetting;
  gone = i.gone;
}

pub IsSearchOf-up_to : (V : ℕ) (K : List Clause) (Q : List Literal) (C : List Clause) (T : Trail) (lines : List Line) (b : ℕ) → b ≤ current_level T
    → IsSearchOf V K Q C T lines → IsSearchOf V K Q C (up_to T b) lines
IsSearchOf-up_to V K Q C T lines b low i = record {
  learnt = i.learnt;
  are_clauses = i.are_clauses;
  left = i.left;
  over = i.over;
  lawful = IsLawful-up_to C T b i.lawful;
  open_below = IsOpenBelow-up_to C T b low i.open_below;
  cube = cube_of-up_to T b ∙ i.cube;
  variables = IsOver-from_AreOver V (literals (up_to T b)) (AreOver-up_to V T b (AreOver-from_IsOver V (literals T) i.variables));
  replayed = i.replayed;
  forgetting = i.forgetting;
  gone = i.gone;
}

-- all clauses of a search, forgotten ones too
pub AreLeft-all : (V : ℕ) (K : List Clause) (Q : List Literal) (C : List Clause) (T : Trail) (lines : List Line) → IsSearchOf V K Q C T lines → AreLeft (K ++ clauses_of lines) C
AreLeft-all V K Q C T lines i = subst (AreLeft (K ++ clauses_of lines)) (sym i.are_clauses) (AreLeft-append K K (clauses_of lines) i.learnt (AreLeft-refl K) i.left)

-- the line learnt from a conflict replays over all clauses, since none that is forgotten is used
pub IsReplayed-learn : (V : ℕ) (R : List Literal) (K : List Clause) (Q : List Literal) (C : List Clause) (T : Trail) (lines : List Line) (n : ℕ) → least_false (literals T) C ≡ Some n → IsSearchOf V K Q C T lines
    → IsReplayed V (length K) Q (K ++ clauses_of lines) (learn_removing R C T n)
IsReplayed-learn V R K Q C T lines n h i =
    subst (IsReplayed V (length K) Q all) (sym (learn-left R all C T n left i.lawful h))
    (subst (λ (q : List Literal). IsReplayed V (length K) q all (learn_removing R all T n)) i.cube (record {
      passes = Passes-learn (length K) R all T n lawful at.0 within clash;
      one_sign = has_both_signs-learn R all T n lawful clash;
      over = IsOver-from_AreOver V ((learn_removing R all T n).clause ++ negations (cube_of T)) (IsVariable-learn V R all T n lawful (AreOver-from_IsOver V (literals T) i.variables) clash);
    }))
  where
    all : List Clause
    all = K ++ clauses_of lines

    left : AreLeft all C
    left = AreLeft-all V K Q C T lines i

    lawful : IsLawful all T
    lawful = IsLawful-left all C T left i.lawful

    at : (1 ≤ n) × (n ≤ length C) × (is_false (literals T) (clause_at C n) ≡ true)
    at = least_false-at (literals T) C n h

    within : n ≤ length all
    within = subst (λ k. n ≤ k) (AreLeft-length all C left) at.1

    clash : is_false (literals T) (clause_at all n) ≡ true
    clash = subst (λ (c : Clause). is_false (literals T) c ≡ true) (conflict-left all C T n left i.lawful h) at.2

pub IsSearchOf-learn : (V : ℕ) (R : List Literal) (K : List Clause) (Q : List Literal) (C : List Clause) (T : Trail) (lines : List Line) (n : ℕ) → least_false (literals T) C ≡ Some n → 1 ≤ current_level T
    → IsSearchOf V K Q C T lines
    → IsSearchOf V K Q (C ++ (learn_removing R C T n).clause ∷ []) (up_to T (back_level T (learn_removing R C T n).clause)) (lines ++ learn_removing R C T n ∷ [])
IsSearchOf-learn V R K Q C T lines n h above i = record {
  learnt = i.learnt ++ line.clause ∷ [];
  are_clauses = ap (λ (c : List Clause). c ++ line.clause ∷ []) i.are_clauses ∙ append_assoc K i.learnt (line.clause ∷ []);
  left = subst (λ (c : List Clause). AreLeft c (i.learnt ++ line.clause ∷ [])) (sym (map-append (λ (x : Line). x.clause) lines (line ∷ [])))
      (AreLeft-append (clauses_of lines) i.learnt (line.clause ∷ []) (line.clause ∷ []) i.left (AreLeft-refl (line.clause ∷ [])));
  over = All-push (IsOver V) C line.clause i.over (IsOver-left V line.clause (negations Q) replayed.over);
  lawful = IsLawful-append C (line.clause ∷ []) (up_to T b) (IsLawful-up_to C T b i.lawful);
  open_below = IsOpenBelow-learn R C T n i.lawful i.open_below above h;
  cube = cube_of-up_to T b ∙ i.cube;
  variables = IsOver-from_AreOver V (literals (up_to T b)) (AreOver-up_to V T b (AreOver-from_IsOver V (literals T) i.variables));
  replayed = AreReplayed-push V (length K) Q K lines line i.replayed replayed;
  forgetting = AreForgetting-line V K Q C T lines line i refl (λ k e. hints-left R C T n k i.lawful h e);
  gone = gone-line V K Q C T lines line i refl;
}
  where
    line : Line
    line = learn_removing R C T n

    b : ℕ
    b = back_level T line.clause

    replayed : IsReplayed V (length K) Q (K ++ clauses_of lines) line
    replayed = IsReplayed-learn V R K Q C T lines n h i

-- where a line is learnt above level 0, there is a variable
pub some-variable : (V : ℕ) (K : List Clause) (Q : List Literal) (C : List Clause) (T : Trail) (lines : List Line) (n : ℕ) → least_false (literals T) C ≡ Some n → 1 ≤ current_level T
    → IsSearchOf V K Q C T lines → 1 ≤ V
some-variable V K Q C T lines n h above i =
    let f = free-learn [] C T n i.lawful i.open_below above h in
    let clash = (least_false-at (literals T) C n h).2 in
    let v = AreOver-from_IsOver V (literals T) i.variables _ (Refutes-learn [] C T n i.lawful clash f.0 f.1) in
    let low = v.0 in
    let high = v.1 in
    omega arith

-- clauses are forgotten of which none is a first one, and none a reason
pub IsSearchOf-forget : (V : ℕ) (K : List Clause) (Q : List Literal) (C : List Clause) (T : Trail) (lines : List Line) (ns : List ℕ) → 1 ≤ V
    → ((k : ℕ) → list_any (nat_eq k) ns ≡ true → length K < k) → AreNoReasons ns T
    → IsSearchOf V K Q C T lines → IsSearchOf V K Q (forget ns 1 C) T lines
IsSearchOf-forget V K Q C T lines ns some later unused i = record {
  learnt = forget ns (1 + length K) i.learnt;
  are_clauses = ap (forget ns 1) i.are_clauses ∙ (forget-append ns 1 K i.learnt ∙ ap (λ (c : List Clause). c ++ forget ns (1 + length K) i.learnt) first);
  left = AreLeft-forget ns (1 + length K) (clauses_of lines) i.learnt i.left;
  over = All-forget V ns 1 C some i.over;
  lawful = IsLawful-forget ns C T unused i.lawful;
  open_below = IsOpenBelow-forget ns C T i.lawful i.open_below;
  cube = i.cube;
  variables = i.variables;
  replayed = i.replayed;
  forgetting = i.forgetting;
  gone = λ k a. gone-forget ns C k (i.gone k a);
}
  where
    first : forget ns 1 K ≡ K
    first = forget-none ns 1 K (λ k low high. false_unless (list_any (nat_eq k) ns) (λ t. let above = later k t in absurd (omega (arith, above, high))))

-- what is forgotten stands in the last line
IsSearchOf-forgetting : (V : ℕ) (R : List Literal) (K : List Clause) (Q : List Literal) (C : List Clause) (T U : Trail) (lines : List Line) (n : ℕ) (ns : List ℕ)
    → least_false (literals T) C ≡ Some n → AreLearnt ns C lines → IsSearchOf V K Q C T lines
    → IsSearchOf V K Q (forget ns 1 C ++ (learn_removing R C T n).clause ∷ []) U (lines ++ learn_removing R C T n ∷ [])
    → IsSearchOf V K Q (forget ns 1 C ++ (learn_removing R C T n).clause ∷ []) U (lines ++ forgetting ns (learn_removing R C T n) ∷ [])
IsSearchOf-forgetting V R K Q C T U lines n ns h own i after = record {
  learnt = after.learnt;
  are_clauses = after.are_clauses;
  left = subst (λ (c : List Clause). AreLeft c after.learnt) same_clauses after.left;
  over = after.over;
  lawful = after.lawful;
  open_below = after.open_below;
  cube = after.cube;
  variables = after.variables;
  replayed = AreReplayed-push V (length K) Q K lines (forgetting ns line) i.replayed (record { passes = replayed.passes; one_sign = replayed.one_sign; over = replayed.over });
  forgetting = AreForgetting-push (length K) (length K + 1) [] lines (forgetting ns line) i.forgetting (record {
    clear = λ k a. hints-left R C T n k i.lawful h (i.gone k a);
    distinct = own.distinct;
    own = λ k a. own_number k a;
  });
  gone = λ k a. elim (is_among-push k lines (forgetting ns line) a) [
    | inl b ↦ gone-more (forget ns 1 C) line.clause k (gone-forget ns C k (i.gone k b))
    | inr b ↦ (let w = own.within k b in let first = w.0 in gone-more (forget ns 1 C) line.clause k (forgotten-at ns C k (omega (arith, first)) w.1 b))
  ];
}
  where
    line : Line
    line = learn_removing R C T n

    same_clauses : clauses_of (lines ++ line ∷ []) ≡ clauses_of (lines ++ forgetting ns line ∷ [])
    same_clauses = map-append (λ (x : Line). x.clause) lines (line ∷ []) ∙ sym (map-append (λ (x : Line). x.clause) lines (forgetting ns line ∷ []))

    replayed : IsReplayed V (length K) Q (K ++ clauses_of lines) line
    replayed = IsReplayed-learn V R K Q C T lines n h i

    own_number : (k : ℕ) → is_among k ns ≡ true → (length K < k) × (k < length K + 1 + length lines) × (is_among k (forgotten_by lines) ≡ false)
    own_number k a =
        let w = own.within k a in
        let first = w.0 in
        let last = w.1 in
        let many = length-kept V K Q C T lines i in (
          omega (arith, first, many),
          omega (arith, last, many),
          false_unless (is_among k (forgotten_by lines)) (λ t. true_false (has_both_signs forgotten) refl (ap has_both_signs (sym (i.gone k t)) ∙ own.whole k a)),
        )

-- a line is learnt, clauses are forgotten, and the trail goes back
pub IsSearchOf-learnt : (V : ℕ) (R : List Literal) (K : List Clause) (Q : List Literal) (C : List Clause) (T : Trail) (lines : List Line) (n : ℕ) (ns : List ℕ) (level : ℕ) → least_false (literals T) C ≡ Some n
    → 1 ≤ current_level T → level ≤ back_level T (learn_removing R C T n).clause → AreLearnt ns C lines → AreNoReasons ns (up_to T level) → IsSearchOf V K Q C T lines
    → IsSearchOf V K Q (forget ns 1 C ++ (learn_removing R C T n).clause ∷ []) (up_to T level) (lines ++ forgetting ns (learn_removing R C T n) ∷ [])
IsSearchOf-learnt V R K Q C T lines n ns level h above low own unused i =
    IsSearchOf-forgetting V R K Q C T (up_to T level) lines n ns h own i
    (subst (λ (D : List Clause). IsSearchOf V K Q D (up_to T level) (lines ++ learn_removing R C T n ∷ [])) (forget-push ns C c (λ k t. (own.within k t).1))
    (IsSearchOf-forget V K Q (C ++ c ∷ []) (up_to T level) (lines ++ learn_removing R C T n ∷ []) ns (some-variable V K Q C T lines n h above i) (λ k t. later k (own.within k t).0) unused back))
  where
    c : Clause
    c = (learn_removing R C T n).clause

    b : ℕ
    b = back_level T c

    back : IsSearchOf V K Q (C ++ c ∷ []) (up_to T level) (lines ++ learn_removing R C T n ∷ [])
    back =
        let reached : current_level (up_to T b) ≡ b = current_level-learn R C T n i.lawful i.open_below above h in
        subst (λ (U : Trail). IsSearchOf V K Q (C ++ c ∷ []) U (lines ++ learn_removing R C T n ∷ [])) (up_to-up_to T b level low)
        (IsSearchOf-up_to V K Q (C ++ c ∷ []) (up_to T b) (lines ++ learn_removing R C T n ∷ []) level (omega (arith, reached, low)) (IsSearchOf-learn V R K Q C T lines n h above i))

    later : (k : ℕ) → length C - length lines < k → length K < k
    later k first = let many = length-kept V K Q C T lines i in omega (arith, many, first)
