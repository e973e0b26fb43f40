-- What is so of a cube that is looked at: it has one outcome, which says what a search's does.
use Rattle.std.proofs.Common.{◌≡◌, ℕ, zero, suc, ◌+◌, ◌-◌, ◌≤◌, Bool, true, false, List, [], ◌∷◌, ◌++◌, length, refl, ap, ap₂, sym, subst, ◌∙◌, nat_lt, ltb-false, Option, Some, None, inl, inr, length-append, arith, if◌then◌else◌}
use Rattle.theory.specs.Literals.{Literal, Clause, has_var, positive, negative, IsVariable, IsCube}
use Rattle.theory.specs.Truth.{Formula, Assignment, IsOver, IsFormula, Satisfies, AreTrue, value, are_true}
use Rattle.theory.specs.Trails.{Trail, literals, current_level, cube_trail, decide}
use Rattle.theory.specs.Held.{held, least_held}
use Rattle.theory.specs.Propagation.{Closed, quiet, conflict, by_place, Propagates, Rule}
use Rattle.theory.specs.Learning.{Line}
use Rattle.theory.specs.Search.{Outcome, model, refuted, exhausted, values}
use Rattle.theory.specs.Scores.{Scores, best_outside}
use Rattle.theory.specs.Units.{units_of}
use Rattle.theory.specs.Looking.{best_ones, ranks, brought, Brings, worth, Choice, no_choice, better_choice, IsWorth, Chooses, has_chosen, fails, tries, IsChosen, SplitsInto, ComesTo, Looks}
use Rattle.theory.specs.Kept.{IsSearchOf}
use Rattle.theory.proofs.literals.LiteralSets.{or-false_right}
use Rattle.theory.proofs.searching.Rules.{IsRule-by_place}
use Rattle.theory.proofs.searching.PropagationLemmas.{Propagates-unique}
use Rattle.theory.proofs.trails.TrailLists.{literals-append, literals-cube}
use Rattle.theory.proofs.searching.OpenTrails.{current_level-cube_trail}
use Rattle.theory.proofs.searching.SplitSoundness.{Propagates-more, has_var-front}
use Rattle.theory.proofs.searching.SearchSoundness.{Propagates-says}
use Rattle.theory.proofs.searching.BestVariables.{best_outside-some, best_outside-none}
use Rattle.theory.proofs.searching.KeptSearches.{IsSearchOf-begin}
use Rattle.theory.proofs.searching.CubeOutcomes.{CubeSays, CubeSays-true, CubeSays-refuted}
use Rattle.theory.proofs.searching.KeptUnits.{IsInvariant-IsSearchOf}
use Rattle.theory.proofs.searching.UnitWalks.{current_level-units, conflict-units, IsSearchOf-units}
use Rattle.theory.proofs.searching.TrueSearches.{IsTrueSearch-units, IsTrueSearch, IsTrueSearch-begin, IsTrueSearch-conflict, IsInvariant-IsTrueSearch}
use Rattle.theory.proofs.searching.ModelLemmas.{length-values}
use Rattle.theory.proofs.searching.HeldVariables.{held-variable, quiet-held}
use Rattle.theory.proofs.searching.Invariants.{IsAmong}

-- propagation leaves the cube's trail at level 0
level-looked : (rule : Rule) (F : Formula) (Q : List Literal) (T : Trail) (a : Closed) → Propagates rule F.clauses (cube_trail Q) a T → current_level T ≡ 0
level-looked rule F Q T a p = (Propagates-more rule F.clauses (cube_trail Q) T a p).2 ∙ current_level-cube_trail Q

-- one outcome

Brings-unique : (K : List Clause) (T : Trail) (l : Literal) (m n : Option ℕ) → Brings K T l m → Brings K T l n → m ≡ n
Brings-unique K T l m n h k =
    let one = Propagates-unique by_place K (decide T l) h.trail k.trail h.answer k.answer h.propagates k.propagates in
    sym h.counted ∙ ap₂ (λ (U : Trail) (a : Closed). brought T a U) one.0 one.1 ∙ k.counted

IsWorth-unique : (K : List Clause) (T : Trail) (x : ℕ) (m n : Option ℕ) → IsWorth K T x m → IsWorth K T x n → m ≡ n
IsWorth-unique K T x None None h k = refl
IsWorth-unique K T x None (Some w) (inl h) k = absurd (let e = Brings-unique K T (negative x) _ _ h k.2 in cc)
IsWorth-unique K T x None (Some w) (inr h) k = absurd (let e = Brings-unique K T (positive x) _ _ h.2 k.3 in cc)
IsWorth-unique K T x (Some w) None h (inl k) = absurd (let e = Brings-unique K T (negative x) _ _ h.2 k in cc)
IsWorth-unique K T x (Some w) None h (inr k) = absurd (let e = Brings-unique K T (positive x) _ _ h.3 k.2 in cc)
IsWorth-unique K T x (Some v) (Some w) h k =
    let one = Brings-unique K T (negative x) _ _ h.2 k.2 in
    let other = Brings-unique K T (positive x) _ _ h.3 k.3 in
    let first : h.0 ≡ k.0 = cc in
    let second : h.1 ≡ k.1 = cc in
    ap Some (h.4 ∙ ap₂ worth first second ∙ sym k.4)

Chooses-unique : (K : List Clause) (T : Trail) (c : Choice) (xs : List ℕ) (y z : ℕ) → Chooses K T c xs y → Chooses K T c xs z → y ≡ z
Chooses-unique K T c [] y z (has_chosen e) (has_chosen f) = sym e ∙ f
Chooses-unique K T c (x ∷ xs) y z (fails h) (fails k) = refl
Chooses-unique K T c (x ∷ xs) y z (fails h) (tries {w = w} k more) = absurd (let e = IsWorth-unique K T x None (Some w) h k in cc)
Chooses-unique K T c (x ∷ xs) y z (tries {w = w} h more) (fails k) = absurd (let e = IsWorth-unique K T x (Some w) None h k in cc)
Chooses-unique K T c (x ∷ xs) y z (tries {w = v} h more) (tries {w = w} k rest) =
    let e = IsWorth-unique K T x (Some v) (Some w) h k in
    let same : v ≡ w = cc in
    Chooses-unique K T (better_choice c (record { var = x; worth = v })) xs y z more
    (subst (λ n. Chooses K T (better_choice c (record { var = x; worth = n })) xs z) (sym same) rest)

SplitsInto-unique : (F : Formula) (T : Trail) (v : Option ℕ) (o p : Outcome) → SplitsInto F T v o → SplitsInto F T v p → o ≡ p
SplitsInto-unique F T None o p h k = h ∙ sym k
SplitsInto-unique F T (Some v) o p h k = h.1 ∙ ap exhausted (Chooses-unique _ T no_choice _ h.0 k.0 h.2 k.2) ∙ sym k.1

ComesTo-unique : (F : Formula) (a : Closed) (T : Trail) (o p : Outcome) → ComesTo F a T o → ComesTo F a T p → o ≡ p
ComesTo-unique F (conflict n) T o p h k = h ∙ sym k
ComesTo-unique F quiet T o p h k = SplitsInto-unique F T (least_held F T) o p h k

pub Looks-unique : (F : Formula) (Q : List Literal) (o p : Outcome) → Looks F Q o → Looks F Q p → o ≡ p
Looks-unique F Q o p h k =
    let one = Propagates-unique by_place F.clauses (cube_trail Q) h.trail k.trail h.answer k.answer h.propagates k.propagates in
    ComesTo-unique F h.answer h.trail o p h.comes_to (rw one.0 (rw one.1 k.comes_to))

-- what a look says

abbrev Each : (ℕ → Type 0) → List ℕ → Type 0
Each P [] = Unit {0}
Each P (x ∷ xs) = P x × Each P xs

-- each of the best ones is one of these variables that isn't in P
abbrev AreFree : List ℕ → List Literal → List ℕ → Type 0
AreFree vs P xs = Each (λ x. IsAmong vs x × (has_var P x ≡ false)) xs

behind : (vs : List ℕ) (P : List Literal) (l : Literal) (xs : List ℕ) → AreFree vs (l ∷ P) xs → AreFree vs P xs
behind vs P l [] h = tt
behind vs P l (x ∷ xs) h = ((h.0.0, has_var-behind h.0.1), behind vs P l xs h.1)
  where
    has_var-behind : has_var (l ∷ P) x ≡ false → has_var P x ≡ false
    has_var-behind q = or-false_right _ (has_var P x) q

best_ones-free : (n : ℕ) (vs : List ℕ) (s : Scores) (P : List Literal) → AreFree vs P (best_ones n vs s P)
best_ones-free zero vs s P = tt
best_ones-free (suc n) vs s P = go (best_outside vs P s) refl (λ x. best_ones-free n vs s (positive x ∷ P))
  where
    go : (o : Option ℕ) → best_outside vs P s ≡ o → ((x : ℕ) → AreFree vs (positive x ∷ P) (best_ones n vs s (positive x ∷ P)))
        → AreFree vs P (elim o [ None ↦ [] | Some x ↦ x ∷ best_ones n vs s (positive x ∷ P) ])
    go None e more = tt
    go (Some x) e more = (best_outside-some vs P s x e, behind vs P (positive x) _ (more x))

-- what is brought is at least the literal itself
brought-some : (K : List Clause) (T : Trail) (l : Literal) (n : ℕ) → Brings K T l (Some n) → 1 ≤ n
brought-some K T l n h = go h.answer h.counted
  where
    more : (R : Trail) × (h.trail ≡ decide T l ++ R) × (current_level h.trail ≡ current_level (decide T l))
    more = Propagates-more by_place K (decide T l) h.trail h.answer h.propagates

    longer : length T + 1 ≤ length h.trail
    longer =
        let whole = ap length more.1 ∙ length-append (decide T l) more.0 in
        let first = length-append T (record { lit = l; reason = None; level = current_level T + 1 } ∷ []) in
        omega (arith, whole, first)

    go : (a : Closed) → brought T a h.trail ≡ Some n → 1 ≤ n
    go (conflict k) e = absurd (cc)
    go quiet e = let is : length h.trail - length T ≡ n = cc in let l = longer in omega (arith, is, l)

-- a choice was made, or there is something to choose from
abbrev HasChoice : Choice → List ℕ → Type 0
HasChoice c [] = 1 ≤ c.worth
HasChoice c (x ∷ xs) = Unit {0}

-- what is so of each candidate, and of the best one before, is so of the one that is chosen
Chooses-says : (P : ℕ → Type 0) (K : List Clause) (T : Trail) (c : Choice) (xs : List ℕ) (y : ℕ) → Each P xs → (1 ≤ c.worth → P c.var) → HasChoice c xs → Chooses K T c xs y → P y
Chooses-says P K T c [] y all before some (has_chosen e) = subst P e (before some)
Chooses-says P K T c (x ∷ xs) y all before some (fails h) = all.0
Chooses-says P K T c (x ∷ xs) y all before some (tries {w = w} h more) =
    Chooses-says P K T (better_choice c d) xs y all.1 (λ v. (better.0)) (chosen xs) more
  where
    d : Choice
    d = record { var = x; worth = w }

    much : 1 ≤ w
    much = let one = brought-some K T (negative x) h.0 h.2 in let is = h.4 in omega (arith, one, is)

    better : P (better_choice c d).var × (1 ≤ (better_choice c d).worth)
    better = go (nat_lt c.worth d.worth) refl
      where
        go : (t : Bool) → nat_lt c.worth d.worth ≡ t → P (if t then d else c).var × (1 ≤ (if t then d else c).worth)
        go true e = (all.0, much)
        go false e = let low = ltb-false c.worth d.worth e in let m = much in let w : 1 ≤ c.worth = omega (arith, low, m) in (before w, w)

    chosen : (zs : List ℕ) → HasChoice (better_choice c d) zs
    chosen [] = better.1
    chosen (z ∷ zs) = tt

-- the variable that is chosen is held, and free
IsChosen-free : (F : Formula) (T : Trail) (v x : ℕ) → least_held F T ≡ Some v → IsChosen F T x → IsAmong (held F) x × (has_var (literals T) x ≡ false)
IsChosen-free F T v x free h = go (best_outside (held F) (literals T) scores) refl h
  where
    scores : Scores
    scores = ranks F.vars F.clauses

    rest : ℕ → List ℕ
    rest y = best_ones 31 (held F) scores (positive y ∷ literals T)

    go : (o : Option ℕ) → best_outside (held F) (literals T) scores ≡ o → Chooses F.clauses T no_choice (elim o [ None ↦ [] | Some y ↦ y ∷ rest y ]) x
        → IsAmong (held F) x × (has_var (literals T) x ≡ false)
    go None e c =
        let none = best_outside-none (held F) (literals T) scores e in
        absurd (cc)
    go (Some y) e c =
        Chooses-says (λ z. IsAmong (held F) z × (has_var (literals T) z ≡ false)) F.clauses T no_choice (y ∷ rest y) x
        (best_outside-some (held F) (literals T) scores y e, behind (held F) (literals T) (positive y) (rest y) (best_ones-free 31 (held F) scores (positive y ∷ literals T)))
        (λ w. absurd (omega (arith, w))) tt c

ComesTo-says : (F : Formula) (Q : List Literal) (a : Closed) (T : Trail) (o : Outcome) → IsFormula F → Propagates by_place F.clauses (cube_trail Q) a T
    → IsSearchOf F.vars F.clauses Q F.clauses T [] → ComesTo F a T o → CubeSays F.vars F.clauses Q o
ComesTo-says F Q (conflict n) T o formed p i h =
    let level = level-looked by_place F Q T (conflict n) p in
    let u = units_of F.clauses T in
    subst (CubeSays F.vars F.clauses Q) (sym h)
    (CubeSays-refuted F.vars [] F.clauses Q u.clauses u.trail u.lines n (conflict-units F.clauses T n (Propagates-says by_place F.clauses (cube_trail Q) T (conflict n) p))
    (current_level-units F.clauses T ∙ level) (IsSearchOf-units F.vars F.clauses Q F.clauses T [] level i).0)
ComesTo-says F Q quiet T o formed p i h = go (least_held F T) refl h
  where
    go : (v : Option ℕ) → least_held F T ≡ v → SplitsInto F T v o → CubeSays F.vars F.clauses Q o
    go None e s = subst (CubeSays F.vars F.clauses Q) (sym s) (CubeSays-true F.vars F.clauses Q F.clauses T [] (quiet-held F T e formed (Propagates-says by_place F.clauses (cube_trail Q) T quiet p)) i)
    go (Some v) e s = subst (CubeSays F.vars F.clauses Q) (sym s.1) tt

-- its refutation replays, and its model makes the first clauses and the cube true
pub Looks-says : (F : Formula) (Q : List Literal) (o : Outcome) → IsFormula F → IsCube Q → IsOver F.vars Q → Looks F Q o → CubeSays F.vars F.clauses Q o
Looks-says F Q o formed cube over h =
    ComesTo-says F Q h.answer h.trail o formed h.propagates
    ((IsInvariant-IsSearchOf by_place IsRule-by_place F.vars (held F) (held-variable F) F.clauses Q).propagated F.clauses (cube_trail Q) h.trail [] h.answer h.propagates
    (IsSearchOf-begin F.vars F.clauses Q formed cube over)) h.comes_to

-- a refuted cube has no model
pub Looks-refuted : (F : Formula) (Q : List Literal) (lines : List Line) → IsCube Q → Looks F Q (refuted lines) → (M : Assignment) → Satisfies F M → AreTrue (value M) Q → ⊥
Looks-refuted F Q lines cube h M s q = go h.answer h.propagates h.comes_to
  where
    i : IsTrueSearch (value M) Q F.clauses h.trail []
    i = (IsInvariant-IsTrueSearch by_place IsRule-by_place (held F) (value M) Q q).propagated F.clauses (cube_trail Q) h.trail [] h.answer h.propagates (IsTrueSearch-begin (value M) F.clauses Q s.clauses cube)

    free : (v : Option ℕ) → SplitsInto F h.trail v (refuted lines) → ⊥
    free None e = cc
    free (Some v) e = let it = e.1 in cc

    go : (a : Closed) → Propagates by_place F.clauses (cube_trail Q) a h.trail → ComesTo F a h.trail (refuted lines) → ⊥
    go (conflict n) p c =
        let level = level-looked by_place F Q h.trail (conflict n) p in
        let u = units_of F.clauses h.trail in
        IsTrueSearch-conflict (value M) [] Q u.clauses u.trail u.lines n q (conflict-units F.clauses h.trail n (Propagates-says by_place F.clauses (cube_trail Q) h.trail (conflict n) p))
        (current_level-units F.clauses h.trail ∙ level) (IsTrueSearch-units (value M) Q q F.clauses h.trail [] level i)
    go quiet p c = free (least_held F h.trail) c

-- a model satisfies the formula
pub Looks-satisfies : (F : Formula) (Q : List Literal) (M : Assignment) → IsFormula F → Looks F Q (model M) → Satisfies F M
Looks-satisfies F Q M formed h = go h.answer h.propagates h.comes_to
  where
    full : Propagates by_place F.clauses (cube_trail Q) quiet h.trail → (v : Option ℕ) → least_held F h.trail ≡ v → SplitsInto F h.trail v (model M) → Satisfies F M
    full p None e s =
        let is : M ≡ values F.vars h.trail = cc in
        record {
          values = ap length is ∙ length-values F.vars h.trail;
          clauses = ap (λ (x : Assignment). are_true (value x) F.clauses) is
              ∙ quiet-held F h.trail e formed (Propagates-says by_place F.clauses (cube_trail Q) h.trail quiet p);
        }
    full p (Some v) e s = absurd (let it = s.1 in cc)

    go : (a : Closed) → Propagates by_place F.clauses (cube_trail Q) a h.trail → ComesTo F a h.trail (model M) → Satisfies F M
    go (conflict n) p c = absurd (cc)
    go quiet p c = full p (least_held F h.trail) refl c

-- it is split on a held variable that it doesn't have
pub Looks-splits : (F : Formula) (Q : List Literal) (x : ℕ) → Looks F Q (exhausted x) → IsAmong (held F) x × (has_var Q x ≡ false)
Looks-splits F Q x h = go h.answer h.propagates h.comes_to
  where
    on : IsAmong (held F) x × (has_var (literals h.trail) x ≡ false) → Propagates by_place F.clauses (cube_trail Q) quiet h.trail → IsAmong (held F) x × (has_var Q x ≡ false)
    on f p =
        let more = Propagates-more by_place F.clauses (cube_trail Q) h.trail quiet p in
        let parts : literals h.trail ≡ Q ++ literals more.0
        = ap literals more.1 ∙ (literals-append (cube_trail Q) more.0 ∙ ap (λ (P : List Literal). P ++ literals more.0) (literals-cube Q)) in
        (f.0, has_var-front Q (literals more.0) x (subst (λ (P : List Literal). has_var P x ≡ false) parts f.1))

    free : Propagates by_place F.clauses (cube_trail Q) quiet h.trail → (v : Option ℕ) → least_held F h.trail ≡ v → SplitsInto F h.trail v (exhausted x) → IsAmong (held F) x × (has_var Q x ≡ false)
    free p None e s = absurd (cc)
    free p (Some v) e s = let is : s.0 ≡ x = (let it = s.1 in cc) in on (IsChosen-free F h.trail v x e (subst (IsChosen F h.trail) is s.2)) p

    go : (a : Closed) → Propagates by_place F.clauses (cube_trail Q) a h.trail → ComesTo F a h.trail (exhausted x) → IsAmong (held F) x × (has_var Q x ≡ false)
    go (conflict n) p c = absurd (cc)
    go quiet p c = free p (least_held F h.trail) refl c

pub Looks-exhausted : (F : Formula) (Q : List Literal) (x : ℕ) → Looks F Q (exhausted x) → IsVariable F.vars x × (has_var Q x ≡ false)
Looks-exhausted F Q x h = let at = Looks-splits F Q x h in (held-variable F x at.0, at.1)
