-- The walk over a trail of level 0 that makes units of its entries: what each of its steps keeps
-- stands at its end.
use Rattle.std.proofs.Common.{◌≡◌, ℕ, ◌+◌, ◌≤◌, Bool, true, false, not, ◌&&◌, nat_le, leb-true, leb-false, find, List, [], ◌∷◌, ◌++◌, length, refl, ap, sym, subst, ◌∙◌, Option, Some, None, option_map, append_assoc, append-nil, length-append, arith, if◌then◌else◌}
use Rattle.std.proofs.lemmas.List.{map-append}
use Rattle.theory.specs.Literals.{Literal, Clause, has, has_var, negated}
use Rattle.theory.specs.Status.{is_false, others_false, unit_literal}
use Rattle.theory.specs.Trails.{Entry, Trail, literals, current_level}
use Rattle.theory.specs.Propagation.{clause_at, least_false, Rule, IsRule, Propagates, quiet, rests}
use Rattle.theory.specs.Lawful.{IsGrounded, IsLawful}
use Rattle.theory.specs.Learning.{Line}
use Rattle.theory.specs.Kept.{clauses_of, IsSearchOf}
use Rattle.theory.specs.Units.{has_two, unit_line, Units, wide_reason, with_reason, with_entry, with_entries, units_of, IsUnit, AreUnits}
use Rattle.theory.proofs.literals.LiteralLemmas.{and-left}
use Rattle.theory.proofs.literals.LiteralSets.{false_unless, has-head, has_var-has}
use Rattle.theory.proofs.trails.LawfulTrails.{clause_at-append}
use Rattle.theory.proofs.trails.TrailEntries.{has-literals_at, literals-consistent}
use Rattle.theory.proofs.searching.Walks.{at-place, entry-place}
use Rattle.theory.proofs.searching.OpenTrails.{least_false-push}
use Rattle.theory.proofs.searching.SearchSteps.{Propagates-quiet, Propagates-none}
use Rattle.theory.proofs.searching.Invariants.{Kept, KeepsUnits}
use Rattle.theory.proofs.searching.KeptUnits.{clause_at-push, current_level-replaced, literals-replaced, IsLawful-with_reason, IsSearchOf-unit}

-- a reason in which two literals differ is one; another has its literal alone
wide_reason-some : (K : List Clause) (r : Option ℕ) (n : ℕ) → wide_reason K r ≡ Some n → r ≡ Some n
wide_reason-some K None n h = absurd (cc)
wide_reason-some K (Some m) n h = go (has_two (clause_at K m)) h
  where
    go : (b : Bool) → (if b then Some m else None) ≡ Some n → Some m ≡ Some n
    go true q = q
    go false q = absurd (cc)

IsUnit-narrow : (K : List Clause) (before : Trail) (e : Entry) (r : Option ℕ) → IsGrounded K before e r → wide_reason K r ≡ None → IsUnit K e.lit r
IsUnit-narrow K before e None g h = tt
IsUnit-narrow K before e (Some n) g h = (g.1.numbered.0, g.1.numbered.1, g.1.holds, go (has_two (clause_at K n)) h)
  where
    go : (b : Bool) → ◌≡◌ {A = Option ℕ} (if b then Some n else None) None → b ≡ false
    go false q = refl
    go true q = absurd (cc)

-- units over more clauses, and one more
IsUnit-append : (K D : List Clause) (l : Literal) (r : Option ℕ) → IsUnit K l r → IsUnit (K ++ D) l r
IsUnit-append K D l None u = tt
IsUnit-append K D l (Some n) u =
    let same_clause = clause_at-append K D n u.0 u.1 in
    let many = length-append K D in
    let most = u.1 in
    (u.0, omega (arith, many, most), subst (λ (c : Clause). has c l ≡ true) (sym same_clause) u.2, subst (λ (c : Clause). has_two c ≡ false) (sym same_clause) u.3)

pub AreUnits-append : (K D : List Clause) (T : Trail) → AreUnits K T → AreUnits (K ++ D) T
AreUnits-append K D [] u = tt
AreUnits-append K D (e ∷ T) u = (IsUnit-append K D e.lit e.reason u.0, AreUnits-append K D T u.1)

AreUnits-push : (K : List Clause) (T : Trail) (e : Entry) → AreUnits K T → IsUnit K e.lit e.reason → AreUnits K (T ++ e ∷ [])
AreUnits-push K [] e u h = (h, tt)
AreUnits-push K (x ∷ T) e u h = (u.0, AreUnits-push K T e u.1 h)

-- what is known of the state where H holds: the trail is lawful, and the entries gone through are
-- units
abbrev pub Grounded : Units → Trail → Type 0
Grounded u es = IsLawful u.clauses (u.trail ++ es) × AreUnits u.clauses u.trail

module _ (H : Type 0) (P : Kept) (keeps : KeepsUnits H P) where
  abbrev Ends : List Line → Units → Type 0
  Ends lines w = P w.clauses w.trail (lines ++ w.lines) × (H → IsLawful w.clauses w.trail × AreUnits w.clauses w.trail)

  pub entries-keep : (u : Units) (es : Trail) (lines : List Line) → current_level (u.trail ++ es) ≡ 0 → (H → Grounded u es) → P u.clauses (u.trail ++ es) (lines ++ u.lines)
      → P (with_entries u es).clauses (with_entries u es).trail (lines ++ (with_entries u es).lines) × (H → IsLawful (with_entries u es).clauses (with_entries u es).trail × AreUnits (with_entries u es).clauses (with_entries u es).trail)
  entries-keep u [] lines level g p = (
    subst (λ (T : Trail). P u.clauses T (lines ++ u.lines)) (append-nil u.trail) p,
    λ h. (subst (IsLawful u.clauses) (append-nil u.trail) (g h).0, (g h).1),
  )
  entries-keep u (e ∷ es) lines level g p = go (wide_reason u.clauses e.reason) refl (λ v. entries-keep v es lines)
    where
      More : Units → Type 0
      More v = current_level (v.trail ++ es) ≡ 0 → (H → Grounded v es) → P v.clauses (v.trail ++ es) (lines ++ v.lines) → Ends lines (with_entries v es)

      passed : Trail
      passed = u.trail ++ e ∷ []

      one_more : passed ++ es ≡ u.trail ++ e ∷ es
      one_more = append_assoc u.trail (e ∷ []) es

      go : (r : Option ℕ) → wide_reason u.clauses e.reason ≡ r → ((v : Units) → More v) → Ends lines (with_entries (with_entry u e r) es)
      go None q more = more (with_entry u e None) (ap current_level one_more ∙ level) (λ h. (
        subst (IsLawful u.clauses) (sym one_more) (g h).0,
        AreUnits-push u.clauses u.trail e (g h).1 (IsUnit-narrow u.clauses u.trail e e.reason (entry-place u.clauses (u.trail ++ e ∷ es) u.trail e es (g h).0 refl).grounded q),
      )) (subst (λ (T : Trail). P u.clauses T (lines ++ u.lines)) (sym one_more) p)
      go (Some n) q more = more (with_entry u e (Some n)) (ap current_level place ∙ (current_level-replaced u.trail e f es refl ∙ level)) (λ h. (
        subst (IsLawful D) (sym place) (IsLawful-with_reason u.clauses u.trail e es n reason (g h).0),
        AreUnits-push D u.trail f (AreUnits-append u.clauses ((e.lit ∷ []) ∷ []) u.trail (g h).1) unit,
      ))
          (subst (λ (T : Trail). P D T (lines ++ (u.lines ++ unit_line u.clauses u.trail e.lit n ∷ []))) (sym place)
          (subst (P D (u.trail ++ f ∷ es)) (append_assoc lines u.lines (unit_line u.clauses u.trail e.lit n ∷ [])) (keeps u.clauses u.trail e es (lines ++ u.lines) n level reason (λ h. (g h).1) p)))
        where
          reason : e.reason ≡ Some n
          reason = wide_reason-some u.clauses e.reason n q

          D : List Clause
          D = u.clauses ++ (e.lit ∷ []) ∷ []

          f : Entry
          f = with_reason e (length u.clauses + 1)

          place : (u.trail ++ f ∷ []) ++ es ≡ u.trail ++ f ∷ es
          place = append_assoc u.trail (f ∷ []) es

          unit : IsUnit D e.lit (Some (length u.clauses + 1))
          unit =
              let there : clause_at D (length u.clauses + 1) ≡ e.lit ∷ [] = clause_at-push u.clauses (e.lit ∷ []) in
              let many = length-append u.clauses ((e.lit ∷ []) ∷ []) in
              (omega arith, omega (arith, many), subst (λ (c : Clause). has c e.lit ≡ true) (sym there) (has-head e.lit []), subst (λ (c : Clause). has_two c ≡ false) (sym there) refl)

  -- the walk over the whole trail
  pub units-keep : (C : List Clause) (T : Trail) (lines : List Line) → current_level T ≡ 0 → (H → IsLawful C T) → P C T lines
      → P (units_of C T).clauses (units_of C T).trail (lines ++ (units_of C T).lines) × (H → IsLawful (units_of C T).clauses (units_of C T).trail × AreUnits (units_of C T).clauses (units_of C T).trail)
  units-keep C T lines level g p =
      entries-keep (record { clauses = C; trail = []; lines = [] }) T lines level (λ h. (g h, tt)) (subst (P C T) (sym (append-nil lines)) p)

-- entries that are units already are passed
wide_reason-unit : (K : List Clause) (l : Literal) (r : Option ℕ) → IsUnit K l r → wide_reason K r ≡ None
wide_reason-unit K l None u = refl
wide_reason-unit K l (Some n) u = ap (λ b. if b then Some n else None) u.3

entries-settled : (u : Units) (A B : Trail) → AreUnits u.clauses A → with_entries u (A ++ B) ≡ with_entries (record u { trail = u.trail ++ A }) B
entries-settled u [] B units = ap (λ (T : Trail). with_entries (record u { trail = T }) B) (sym (append-nil u.trail))
entries-settled u (e ∷ A) B units =
    ap (λ (r : Option ℕ). with_entries (with_entry u e r) (A ++ B)) (wide_reason-unit u.clauses e.lit e.reason units.0)
    ∙ (entries-settled (record u { trail = u.trail ++ e ∷ [] }) A B units.1
    ∙ ap (λ (T : Trail). with_entries (record u { trail = T }) B) (append_assoc u.trail (e ∷ []) A))

pub units-settled : (C : List Clause) (A B : Trail) → AreUnits C A → units_of C (A ++ B) ≡ with_entries (record { clauses = C; trail = A; lines = [] }) B
units-settled C A B units = entries-settled (record { clauses = C; trail = []; lines = [] }) A B units

-- the literals and the current level stay
entries-same : (u : Units) (es : Trail) → (literals (with_entries u es).trail ≡ literals (u.trail ++ es)) × (current_level (with_entries u es).trail ≡ current_level (u.trail ++ es))
entries-same u [] = (ap literals (sym (append-nil u.trail)), ap current_level (sym (append-nil u.trail)))
entries-same u (e ∷ es) = go (wide_reason u.clauses e.reason) (λ v. entries-same v es)
  where
    Same : Units → Type 0
    Same w = (literals w.trail ≡ literals (u.trail ++ e ∷ es)) × (current_level w.trail ≡ current_level (u.trail ++ e ∷ es))

    go : (r : Option ℕ) → ((v : Units) → (literals (with_entries v es).trail ≡ literals (v.trail ++ es)) × (current_level (with_entries v es).trail ≡ current_level (v.trail ++ es)))
        → Same (with_entries (with_entry u e r) es)
    go None more =
        let m = more (with_entry u e None) in
        let place = append_assoc u.trail (e ∷ []) es in
        (m.0 ∙ ap literals place, m.1 ∙ ap current_level place)
    go (Some n) more =
        let m = more (with_entry u e (Some n)) in
        let f = with_reason e (length u.clauses + 1) in
        let place = append_assoc u.trail (f ∷ []) es in
        (m.0 ∙ (ap literals place ∙ literals-replaced u.trail e f es refl), m.1 ∙ (ap current_level place ∙ current_level-replaced u.trail e f es refl))

pub literals-units : (C : List Clause) (T : Trail) → literals (units_of C T).trail ≡ literals T
literals-units C T = (entries-same (record { clauses = C; trail = []; lines = [] }) T).0

pub current_level-units : (C : List Clause) (T : Trail) → current_level (units_of C T).trail ≡ current_level T
current_level-units C T = (entries-same (record { clauses = C; trail = []; lines = [] }) T).1

-- behind the clauses stand those of the lines
entries-clauses : (C : List Clause) (u : Units) (es : Trail) → u.clauses ≡ C ++ clauses_of u.lines → (with_entries u es).clauses ≡ C ++ clauses_of (with_entries u es).lines
entries-clauses C u [] h = h
entries-clauses C u (e ∷ es) h = go (wide_reason u.clauses e.reason) (λ v. entries-clauses C v es)
  where
    go : (r : Option ℕ) → ((v : Units) → v.clauses ≡ C ++ clauses_of v.lines → (with_entries v es).clauses ≡ C ++ clauses_of (with_entries v es).lines)
        → (with_entries (with_entry u e r) es).clauses ≡ C ++ clauses_of (with_entries (with_entry u e r) es).lines
    go None more = more (with_entry u e None) h
    go (Some n) more =
        let line = unit_line u.clauses u.trail e.lit n in
        more (with_entry u e (Some n)) (ap (λ (K : List Clause). K ++ line.clause ∷ []) h ∙ (append_assoc C (clauses_of u.lines) (line.clause ∷ [])
        ∙ ap (λ (K : List Clause). C ++ K) (sym (map-append (λ (x : Line). x.clause) u.lines (line ∷ [])))))

pub clauses-units : (C : List Clause) (T : Trail) → (units_of C T).clauses ≡ C ++ clauses_of (units_of C T).lines
clauses-units C T = entries-clauses C (record { clauses = C; trail = []; lines = [] }) T (sym (append-nil C))

-- a conflict stays the first one, and at rest no unit's clause is false
pub least_false-more : (P : List Literal) (K D : List Clause) (n : ℕ) → least_false P K ≡ Some n → least_false P (K ++ D) ≡ Some n
least_false-more P [] D n h = absurd (cc)
least_false-more P (c ∷ K) D n h = first (is_false P c) h (least_false-more P K D)
  where
    later : (r : Option ℕ) → ((k : ℕ) → r ≡ Some k → least_false P (K ++ D) ≡ Some k) → option_map (λ k. k + 1) r ≡ Some n → option_map (λ k. k + 1) (least_false P (K ++ D)) ≡ Some n
    later None more e = absurd (cc)
    later (Some k) more e = ap (option_map (λ k. k + 1)) (more k refl) ∙ e

    first : (b : Bool) → ◌≡◌ {A = Option ℕ} (elim b [ true ↦ Some 1 | false ↦ option_map (λ k. k + 1) (least_false P K) ]) (Some n) → ((k : ℕ) → least_false P K ≡ Some k → least_false P (K ++ D) ≡ Some k)
        → ◌≡◌ {A = Option ℕ} (elim b [ true ↦ Some 1 | false ↦ option_map (λ k. k + 1) (least_false P (K ++ D)) ]) (Some n)
    first true e more = e
    first false e more = later (least_false P K) more e

-- a lawful trail on which no clause is false
Rests : Kept
Rests C T lines = IsLawful C T × (least_false (literals T) C ≡ None)

Rests-keeps : KeepsUnits (Unit {0}) Rests
unfolding Rests
Rests-keeps C before e es lines n level reason units r = (
  IsLawful-with_reason C before e es n reason r.0,
  subst (λ (P : List Literal). least_false P (C ++ (e.lit ∷ []) ∷ []) ≡ None) (sym (literals-replaced before e (with_reason e (length C + 1)) es refl)) (least_false-push (literals T) C (e.lit ∷ []) r.1 holds),
)
  where
    T : Trail
    T = before ++ e ∷ es

    holds : is_false (literals T) (e.lit ∷ []) ≡ false
    holds = false_unless (is_false (literals T) (e.lit ∷ [])) (λ t. literals-consistent C T e.lit r.0 (has-literals_at T e (at-place T before e es refl)) (and-left (has (literals T) (negated e.lit)) true t))

pub least_false-units : (C : List Clause) (T : Trail) → IsLawful C T → current_level T ≡ 0 → least_false (literals T) C ≡ None → least_false (literals (units_of C T).trail) (units_of C T).clauses ≡ None
unfolding Rests
least_false-units C T lawful level h = (units-keep (Unit {0}) Rests Rests-keeps C T [] level (λ x. lawful) (lawful, h)).0.1

pub conflict-units : (C : List Clause) (T : Trail) (n : ℕ) → least_false (literals T) C ≡ Some n → least_false (literals (units_of C T).trail) (units_of C T).clauses ≡ Some n
conflict-units C T n h =
    subst (λ (K : List Clause). least_false (literals (units_of C T).trail) K ≡ Some n) (sym (clauses-units C T))
    (least_false-more (literals (units_of C T).trail) C (clauses_of (units_of C T).lines) n (subst (λ (P : List Literal). least_false P C ≡ Some n) (sym (literals-units C T)) h))

-- what a search keeps is kept, and each reason is a clause of one literal then
pub IsSearchOf-units : (V : ℕ) (K : List Clause) (Q : List Literal) (C : List Clause) (T : Trail) (lines : List Line) → current_level T ≡ 0 → IsSearchOf V K Q C T lines
    → IsSearchOf V K Q (units_of C T).clauses (units_of C T).trail (lines ++ (units_of C T).lines) × AreUnits (units_of C T).clauses (units_of C T).trail
IsSearchOf-units V K Q C T lines level i =
    let kept = units-keep (Unit {0}) (IsSearchOf V K Q) (λ D before e es ls n l r u s. IsSearchOf-unit V K Q D before e es ls n l r (u tt) s) C T lines level (λ x. i.lawful) i in
    (kept.0, (kept.1 tt).1)

-- at rest no unit's clause is unit either, so propagation rests
IsCalm : Kept
IsCalm C T lines = IsLawful C T × ((n : ℕ) → 1 ≤ n → n ≤ length C → unit_literal (literals T) (clause_at C n) ≡ None)

IsCalm-keeps : KeepsUnits (Unit {0}) IsCalm
unfolding IsCalm
IsCalm-keeps C before e es lines n level reason units r = (
  IsLawful-with_reason C before e es n reason r.0,
  λ m one end. subst (λ (P : List Literal). unit_literal P (clause_at (C ++ (e.lit ∷ []) ∷ []) m) ≡ None) (sym (literals-replaced before e (with_reason e (length C + 1)) es refl)) (at m one end (nat_le m (length C)) refl),
)
  where
    T : Trail
    T = before ++ e ∷ es

    there : has_var (literals T) e.lit.var ≡ true
    there = has_var-has (literals T) e.lit (has-literals_at T e (at-place T before e es refl))

    alone : unit_literal (literals T) (e.lit ∷ []) ≡ None
    alone = ap (λ b. find (λ l. not b && others_false (literals T) (e.lit ∷ []) l) (e.lit ∷ [])) there

    at : (m : ℕ) → 1 ≤ m → m ≤ length (C ++ (e.lit ∷ []) ∷ []) → (b : Bool) → nat_le m (length C) ≡ b → unit_literal (literals T) (clause_at (C ++ (e.lit ∷ []) ∷ []) m) ≡ None
    at m one end true q = ap (unit_literal (literals T)) (clause_at-append C ((e.lit ∷ []) ∷ []) m one (leb-true m (length C) q)) ∙ r.1 m one (leb-true m (length C) q)
    at m one end false q =
        let above = leb-false m (length C) q in
        let many = length-append C ((e.lit ∷ []) ∷ []) in
        let last : m ≡ length C + 1 = omega (arith, end, many, above) in
        ap (λ k. unit_literal (literals T) (clause_at (C ++ (e.lit ∷ []) ∷ []) k)) last ∙ (ap (unit_literal (literals T)) (clause_at-push C (e.lit ∷ [])) ∙ alone)

pub rests-units : (rule : Rule) → IsRule rule → (C : List Clause) (T : Trail) → IsLawful C T → current_level T ≡ 0 → Propagates rule C T quiet T
    → Propagates rule (units_of C T).clauses (units_of C T).trail quiet (units_of C T).trail
unfolding IsCalm
rests-units rule g C T lawful level h = rests (least_false-units C T lawful level (Propagates-quiet rule C T T h)) (none (rule U K) refl)
  where
    K : List Clause
    K = (units_of C T).clauses

    U : Trail
    U = (units_of C T).trail

    calm : IsCalm K U []
    calm = (units-keep (Unit {0}) IsCalm IsCalm-keeps C T [] level (λ x. lawful) (lawful, λ n one end. g.none T C n (Propagates-none rule C T T h) one end)).0

    none : (r : Option (ℕ × Literal)) → rule U K ≡ r → r ≡ None
    none None e = refl
    none (Some u) e =
        let facts = g.gives U K u e in
        let other = calm.1 u.0 facts.0 facts.1 in
        absurd (cc)
