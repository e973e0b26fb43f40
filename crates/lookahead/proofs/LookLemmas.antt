-- What a look at a literal leaves.
use Rattle.std.proofs.Common.{◌≡◌, ℕ, zero, suc, ◌+◌, ◌<◌, ◌≤◌, Bool, false, List, [], ◌∷◌, length, length-append, drop, get_or, None, Some, refl, ap, sym, subst, ◌∙◌, if◌then◌else◌, arith}
use Rattle.std.proofs.lemmas.List.{drop_all}
use Rattle.theory.specs.Literals.{Literal, Clause}
use Rattle.theory.specs.Trails.{Trail, Entry, current_level, decide, up_to}
use Rattle.theory.specs.Propagation.{Closed, by_place, Propagates}
use Rattle.theory.specs.Lawful.{IsLawful}
use Rattle.theory.specs.Looking.{IsWorth, Choice, better_choice, Chooses, has_chosen, fails, tries}
use Rattle.theory.proofs.searching.OpenTrails.{up_to-Propagates}
use Rattle.theory.proofs.searching.SplitSoundness.{Propagates-more}
use Rattle.theory.proofs.trails.TrailLevels.{up_to-push, up_to-current}
use Rattle.theory.proofs.trails.TrailLists.{current_level-push}
use Rattle.kernel.specs.State.{State}
use Rattle.kernel.specs.Rules.{rule_of}
use Rattle.kernel.specs.declared.order.Order.TheVariants.{ByPlace}
use Rattle.lookahead.specs.Resting.{IsAtRest}

-- the entry of a decision
abbrev pub decision : Trail → Literal → Entry
decision T l = record { lit = l; reason = None; level = current_level T + 1 }

-- level 1 goes, and the trail is as it was
pub back-at-rest : (K : List Clause) (T U : Trail) (l : Literal) (a : Closed) → IsLawful K T → current_level T ≡ 0 → Propagates by_place K (decide T l) a U → up_to U 0 ≡ T
back-at-rest K T U l a lawful low closes =
    let above : 0 < current_level (decide T l) = let is = current_level-push T (decision T l) in omega (arith, is) in
    up_to-Propagates by_place K (decide T l) U a 0 closes above
    ∙ (up_to-push T (decision T l) 0 (omega arith) ∙ (ap (up_to T) (sym low) ∙ up_to-current K T lawful))

-- the decision and what propagation adds make the trail longer
pub longer : (K : List Clause) (T U : Trail) (l : Literal) (a : Closed) → Propagates by_place K (decide T l) a U → length T + 1 ≤ length U
longer K T U l a closes =
    let more = Propagates-more by_place K (decide T l) U a closes in
    let all = ap length more.1 in
    let parts = length-append (decide T l) more.0 in
    let one = length-append T (decision T l ∷ []) in
    omega (arith, all, parts, one)

if-false : {X : Type 0} (b : Bool) (x y : X) → b ≡ false → (if b then x else y) ≡ y
if-false b x y h = ap (λ c. if c then x else y) h

-- the kernel decides
pub decided : (k d : State) (l : Literal) → k.out_of_memory ≡ false → d ≡ (if k.out_of_memory then k else record k { trail = decide k.trail l }) → d ≡ record k { trail = decide k.trail l }
decided k d l memory went = went ∙ if-false k.out_of_memory k (record k { trail = decide k.trail l }) memory

-- and propagates
pub looked-at : (k d : State) (l : Literal) (a : Closed) (U : Trail) → k.out_of_memory ≡ false → k.order ≡ ByPlace → d ≡ (if k.out_of_memory then k else record k { trail = decide k.trail l })
    → Propagates (rule_of d.order) d.clauses d.trail a U → Propagates by_place k.clauses (decide k.trail l) a U
looked-at k d l a U memory in_order went closes =
    subst (λ o. Propagates (rule_of o) k.clauses (decide k.trail l) a U) in_order
    (subst (λ (s : State). Propagates (rule_of s.order) s.clauses s.trail a U) (decided k d l memory went) closes)

-- so level 1 is there
pub level-1 : (k d : State) (l : Literal) (a : Closed) (U : Trail) → IsAtRest k → d ≡ (if k.out_of_memory then k else record k { trail = decide k.trail l })
    → Propagates (rule_of d.order) d.clauses d.trail a U → 0 < current_level U
level-1 k d l a U rest went closes =
    let more = Propagates-more by_place k.clauses (decide k.trail l) U a (looked-at k d l a U rest.has_memory rest.in_order went closes) in
    let is = current_level-push k.trail (decision k.trail l) in
    let same = more.2 in
    omega (arith, is, same)

-- and goes back to where it was
pub restored : (k d n b : State) (l : Literal) (a : Closed) → IsAtRest k → IsLawful k.clauses k.trail → d ≡ (if k.out_of_memory then k else record k { trail = decide k.trail l })
    → (n.vars ≡ d.vars) × (n.clauses ≡ d.clauses) × (n.first ≡ d.first) × (n.order ≡ d.order) → n.out_of_memory ≡ false → Propagates (rule_of d.order) d.clauses d.trail a n.trail
    → b ≡ (if n.out_of_memory then n else record n { trail = up_to n.trail 0 }) → b ≡ k
restored k d n b l a rest lawful went kept memory closes back =
    let same = decided k d l rest.has_memory went in
    let vars : n.vars ≡ k.vars = kept.0 ∙ ap (λ (s : State). s.vars) same in
    let clauses : n.clauses ≡ k.clauses = kept.1 ∙ ap (λ (s : State). s.clauses) same in
    let first : n.first ≡ k.first = kept.2 ∙ ap (λ (s : State). s.first) same in
    let order : n.order ≡ k.order = kept.3 ∙ ap (λ (s : State). s.order) same in
    let same_memory : n.out_of_memory ≡ k.out_of_memory = memory ∙ sym rest.has_memory in
    let trail : up_to n.trail 0 ≡ k.trail = back-at-rest k.clauses k.trail n.trail l a lawful rest.level (looked-at k d l a n.trail rest.has_memory rest.in_order went closes) in
    back ∙ (if-false n.out_of_memory n (record n { trail = up_to n.trail 0 }) memory ∙ rw (vars, clauses, first, order, same_memory, trail) refl)

-- the candidates from a place on

drop-at : (xs : List ℕ) (i d : ℕ) → i < length xs → drop i xs ≡ get_or xs i d ∷ drop (i + 1) xs
drop-at [] i d h = absurd (omega (arith, h))
drop-at (x ∷ xs) zero d h = refl
drop-at (x ∷ xs) (suc i) d h = drop-at xs i d (omega arith) ∙ ap (λ k. get_or xs i d ∷ drop k (x ∷ xs)) (let e : suc (i + 1) ≡ suc i + 1 = omega arith in e)

pub fails-at : (K : List Clause) (T : Trail) (c : Choice) (xs : List ℕ) (i : ℕ) → i < length xs → IsWorth K T (get_or xs i 0) None → Chooses K T c (drop i xs) (get_or xs i 0)
fails-at K T c xs i inside w = subst (λ ys. Chooses K T c ys (get_or xs i 0)) (sym (drop-at xs i 0 inside)) (fails w)

pub tries-at : (K : List Clause) (T : Trail) (c : Choice) (xs : List ℕ) (i w y : ℕ) → i < length xs → IsWorth K T (get_or xs i 0) (Some w)
    → Chooses K T (better_choice c (record { var = get_or xs i 0; worth = w })) (drop (i + 1) xs) y → Chooses K T c (drop i xs) y
tries-at K T c xs i w y inside h more = subst (λ ys. Chooses K T c ys y) (sym (drop-at xs i 0 inside)) (tries h more)

pub chosen-at : (K : List Clause) (T : Trail) (c : Choice) (xs : List ℕ) (i : ℕ) → length xs ≤ i → Chooses K T c (drop i xs) c.var
chosen-at K T c xs i past = subst (λ ys. Chooses K T c ys c.var) (sym (drop_all i xs past)) (has_chosen refl)
