-- The levels of the literals on a lawful trail, and what going back leaves.
use Rattle.std.proofs.Common.{◌≡◌, ℕ, zero, suc, ◌-◌, ◌<◌, ◌≤◌, Bool, true, false, List, [], ◌∷◌, ◌++◌, length, refl, ap, sym, subst, ◌∙◌, nat_le, le-leb, leb-true, filter, cond, slice_get, append_assoc, append-nil, arith}
use Rattle.std.proofs.lemmas.List.Elements.{filter-append}
use Rattle.theory.specs.Literals.{Literal, Clause, has, has_var}
use Rattle.theory.specs.Trails.{Entry, Trail, literals, level_at, current_level, entry_of, level_of, up_to}
use Rattle.theory.specs.Lawful.{IsLawfulAfter, IsLawful}
use Rattle.theory.proofs.literals.LiteralSets.{true_false, false_unless, has_var-none, literal_of_var}
use Rattle.theory.proofs.trails.LawfulTrails.{IsLawful-up_to}
use Rattle.theory.proofs.trails.TrailEntries.{IsAt, entry_of_literal, entry_of_filter, has-literals_at, entry_of-at, level-at}

-- an entry that passes stands among those that do
IsAt-filter : (p : Entry → Bool) (T : Trail) (e : Entry) → IsAt T e → p e ≡ true → IsAt (filter p T) e
IsAt-filter p T e a t =
    let kept : filter p (e ∷ a.behind) ≡ e ∷ filter p a.behind = rw t refl in
    record {
      before = filter p a.before;
      behind = filter p a.behind;
      split = ap (filter p) a.split ∙ (filter-append p a.before (e ∷ a.behind) ∙ ap (λ (U : Trail). filter p a.before ++ U) kept);
    }

-- the level of a literal is that of its variable's entry
pub level_of-at : (K : List Clause) (T : Trail) (e : Entry) (l : Literal) → IsLawful K T → IsAt T e → e.lit.var ≡ l.var → level_of T l ≡ e.level
level_of-at K T e l h a v = ap level_at (ap (entry_of T) (sym v) ∙ entry_of-at K T e h a)

-- the entry of a literal on the trail, with its level
record EntryOf (T : Trail) (l : Literal) : Type 0 where
  entry : Entry
  at : IsAt T entry
  lit : entry.lit ≡ l
  level : level_of T l ≡ entry.level

entry-of : (K : List Clause) (T : Trail) (l : Literal) → IsLawful K T → has (literals T) l ≡ true → EntryOf T l
entry-of K T l h a =
    let f = entry_of_literal T l a in
    record { entry = f.0; at = f.1; lit = f.2; level = level_of-at K T f.0 l h f.1 (ap (λ (x : Literal). x.var) f.2) }

pub level_of-most : (K : List Clause) (T : Trail) (l : Literal) → IsLawful K T → has (literals T) l ≡ true → level_of T l ≤ current_level T
level_of-most K T l h a = let f = entry-of K T l h a in let m = level-at K T f.entry h f.at in let e = f.level in omega arith

-- going back keeps the literals of the levels left
IsAt-up_to : (K : List Clause) (T : Trail) (b : ℕ) (l : Literal) → IsLawful K T → (f : EntryOf T l) → level_of T l ≤ b → IsAt (up_to T b) f.entry
IsAt-up_to K T b l h f low =
    let e = f.level in
    IsAt-filter (λ x. nat_le x.level b) T f.entry f.at (le-leb f.entry.level b (omega arith))

pub has-up_to : (K : List Clause) (T : Trail) (b : ℕ) (l : Literal) → IsLawful K T → has (literals T) l ≡ true → level_of T l ≤ b → has (literals (up_to T b)) l ≡ true
has-up_to K T b l h a low =
    let f = entry-of K T l h a in
    subst (λ x. has (literals (up_to T b)) x ≡ true) f.lit (has-literals_at (up_to T b) f.entry (IsAt-up_to K T b l h f low))

pub level_of-up_to : (K : List Clause) (T : Trail) (b : ℕ) (l : Literal) → IsLawful K T → has (literals T) l ≡ true → level_of T l ≤ b → level_of (up_to T b) l ≡ level_of T l
level_of-up_to K T b l h a low =
    let f = entry-of K T l h a in
    level_of-at K (up_to T b) f.entry l (IsLawful-up_to K T b h) (IsAt-up_to K T b l h f low) (ap (λ (x : Literal). x.var) f.lit) ∙ sym f.level

-- and no others
pub has_var-up_to : (K : List Clause) (T : Trail) (b : ℕ) (l : Literal) → IsLawful K T → b < level_of T l → has_var (literals (up_to T b)) l.var ≡ false
has_var-up_to K T b l h above = has_var-none (literals (up_to T b)) l.var other
  where
    other : (k : Literal) → has (literals (up_to T b)) k ≡ true → k.var ≡ l.var → ⊥
    other k a v =
        let f = entry_of_filter (λ e. nat_le e.level b) T k a in
        let low : f.0.level ≤ b = leb-true f.0.level b f.3 in
        let level : level_of T l ≡ f.0.level = level_of-at K T f.0 l h f.1 (ap (λ (x : Literal). x.var) f.2 ∙ v) in
        absurd (omega arith)

level_at-up_to : (T : Trail) (b i : ℕ) → level_at (slice_get (up_to T b) i) ≤ b
level_at-up_to [] b i = omega arith
level_at-up_to (e ∷ T) b i = go (nat_le e.level b) refl i (level_at-up_to T b)
  where
    go : (t : Bool) → nat_le e.level b ≡ t → (i : ℕ) → ((j : ℕ) → level_at (slice_get (up_to T b) j) ≤ b) → level_at (slice_get (cond t (e ∷ up_to T b) (up_to T b)) i) ≤ b
    go true q zero more = leb-true e.level b q
    go true q (suc i) more = more i
    go false q i more = more i

pub current_level-up_to : (T : Trail) (b : ℕ) → current_level (up_to T b) ≤ b
current_level-up_to T b = level_at-up_to T b (length (up_to T b) - 1)

-- where a literal is of the level, that is the current one
pub current_level-reached : (K : List Clause) (T : Trail) (b : ℕ) (l : Literal) → IsLawful K T → has (literals T) l ≡ true → level_of T l ≡ b → current_level (up_to T b) ≡ b
current_level-reached K T b l h a e =
    let most = current_level-up_to T b in
    let lawful = IsLawful-up_to K T b h in
    let there = has-up_to K T b l h a (omega arith) in
    let level = level_of-up_to K T b l h a (omega arith) in
    let least = level_of-most K (up_to T b) l lawful there in
    omega arith

-- going back in two steps, or not at all
pub up_to-up_to : (T : Trail) (b j : ℕ) → j ≤ b → up_to (up_to T b) j ≡ up_to T j
up_to-up_to [] b j h = refl
up_to-up_to (e ∷ T) b j h = go (nat_le e.level b) (nat_le e.level j) refl refl (up_to-up_to T b j h)
  where
    go : (x y : Bool) → nat_le e.level b ≡ x → nat_le e.level j ≡ y → up_to (up_to T b) j ≡ up_to T j → up_to (cond x (e ∷ up_to T b) (up_to T b)) j ≡ cond y (e ∷ up_to T j) (up_to T j)
    go true true p q more = rw q (ap (λ (U : Trail). e ∷ U) more)
    go true false p q more = rw q more
    go false false p q more = more
    go false true p q more = true_false (nat_le e.level b) (let l = leb-true e.level j q in le-leb e.level b (omega arith)) p

up_to-whole : (T : Trail) (b : ℕ) → ((e : Entry) → IsAt T e → e.level ≤ b) → up_to T b ≡ T
up_to-whole [] b h = refl
up_to-whole (e ∷ T) b h =
    let here : nat_le e.level b ≡ true = le-leb e.level b (h e (record { before = []; behind = T; split = refl })) in
    let rest : up_to T b ≡ T = up_to-whole T b (λ f a. h f (record { before = e ∷ a.before; behind = a.behind; split = ap (λ (U : Trail). e ∷ U) a.split })) in
    rw here (ap (λ (U : Trail). e ∷ U) rest)

pub up_to-current : (K : List Clause) (T : Trail) → IsLawful K T → up_to T (current_level T) ≡ T
up_to-current K T h = up_to-whole T (current_level T) (λ e a. level-at K T e h a)

pub up_to-push : (T : Trail) (e : Entry) (j : ℕ) → j < e.level → up_to (T ++ e ∷ []) j ≡ up_to T j
up_to-push T e j h =
    let out : nat_le e.level j ≡ false = false_unless (nat_le e.level j) (λ t. let l = leb-true e.level j t in absurd (omega arith)) in
    let none : up_to (e ∷ []) j ≡ [] = rw out refl in
    filter-append (λ x. nat_le x.level j) T (e ∷ []) ∙ (ap (λ (U : Trail). up_to T j ++ U) none ∙ append-nil (up_to T j))

-- the entries before another one
IsLawfulAfter-front : (K : List Clause) (b A B : Trail) → IsLawfulAfter K b (A ++ B) → IsLawfulAfter K b A
IsLawfulAfter-front K b [] B h = tt
IsLawfulAfter-front K b (e ∷ A) B h = (h.0, IsLawfulAfter-front K (b ++ e ∷ []) A B h.1)

pub level_of-before : (K : List Clause) (T before : Trail) (es : Trail) (l : Literal) → IsLawful K T → T ≡ before ++ es → has_var (literals before) l.var ≡ true
    → level_of T l ≤ current_level before
level_of-before K T before es l h place a =
    let k = literal_of_var (literals before) l.var a in
    let f = entry_of_literal before k.0 k.1 in
    let front : IsLawful K before = IsLawfulAfter-front K [] before es (subst (IsLawful K) place h) in
    let low : f.0.level ≤ current_level before = level-at K before f.0 front f.1 in
    let at : IsAt T f.0 = record {
      before = f.1.before;
      behind = f.1.behind ++ es;
      split = place ∙ (ap (λ (U : Trail). U ++ es) f.1.split ∙ append_assoc f.1.before (f.0 ∷ f.1.behind) es);
    } in
    let level : level_of T l ≡ f.0.level = level_of-at K T f.0 l h at (ap (λ (x : Literal). x.var) f.2 ∙ k.2) in
    omega arith
