-- One turn of the loop that visits the entries of a list.
use Rattle.std.proofs.Common.{◌≡◌, ◌≢◌, ℕ, suc, zero, ◌+◌, ◌*◌, ◌<◌, ◌≤◌, true, false, List, [], ◌∷◌, ◌++◌, length, get_or, set, take, drop, map, Some, None, refl, ap, sym, subst, ◌∙◌, ◌⊎◌, inl, inr, arith, All, drop-cons, drop_of_length-le, drop-set-lt, take-suc-set, append-nil, append_assoc}
use Rattle.theory.specs.Truth.{IsOver}
use Rattle.kernel.proofs.Visits.{code-within, over-var}
use Rattle.std.proofs.lemmas.List.{map-set, map-append, length-map, length-set, get_or-set_same, get_or-set_other, get_or-take, length-take-le, set-get_or, set_at, take-set}
use Rattle.std.proofs.Math.Seq.{map-set_same, take-set-lt}
use Rattle.std.proofs.Math.ListN.{get_or-map}
use Rattle.std.proofs.lemmas.Bool.{cases_eq}
use Rattle.theory.specs.Literals.{Literal, Clause, same, has, negated}
use Rattle.theory.specs.Trails.{Trail, literals}
use Rattle.theory.proofs.literals.LiteralLemmas.{same-eq, same-refl, true_or_false}
use Rattle.kernel.specs.declared.watches.watch.Watched.{Watched}
use Rattle.kernel.specs.declared.watches.watch.Watch.{Watch}
use Rattle.cnf.specs.Lits.{code}
use Rattle.kernel.specs.Watching.{At, IsConsistent, IsBeside, IsFull, lesser, list_at, moved, Walks, IsNext, Tending, held, other_true, reached, Reached, without_nth}
use Rattle.kernel.specs.Visiting.{WatchLists, places, entries_at, tending, with_list, IsEntry, AreEntriesOf, AreEntries, Replaces, CanVisit, IsStay, IsVisit, satisfied, behind, unit, needless, clashes, moves}
use Rattle.kernel.proofs.LiteralFacts.{true_false}
use Rattle.kernel.proofs.LastLiterals.{all-false-but, all-false}
use Rattle.trail.proofs.Tables.{code-one}
use Rattle.kernel.proofs.Places.{At-one, At-get, At-set, At-push, At-behind}
use Rattle.kernel.proofs.Removing.{without-first-behind, map-without, without-from}
use Rattle.kernel.proofs.Steps.{both, Good-spared}
use Rattle.kernel.proofs.Walking.{Visits, Walks-good, Walks-unit, Walks-false, Walks-move, gone-true}

-- a write is forgotten where a later one goes over it
set-over : {X : Type 0} (xs : List X) (i j : ℕ) (a b c : X) → i ≢ j → set (set (set xs i a) j b) i c ≡ set (set xs j b) i c
set-over [] i j a b c ne = refl
set-over (x ∷ xs) zero zero a b c ne = absurd (ne refl)
set-over (x ∷ xs) zero (suc j) a b c ne = refl
set-over (x ∷ xs) (suc i) zero a b c ne = ap (λ ys. b ∷ ys) (set-set xs i a c)
  where
    set-set : {X : Type 0} (xs : List X) (i : ℕ) (a c : X) → set (set xs i a) i c ≡ set xs i c
    set-set [] i a c = refl
    set-set (x ∷ xs) zero a c = refl
    set-set (x ∷ xs) (suc i) a c = ap (λ ys. x ∷ ys) (set-set xs i a c)
set-over (x ∷ xs) (suc i) (suc j) a b c ne = ap (λ ys. x ∷ ys) (set-over xs i j a b c (λ e. ne (ap suc e)))

pub At-places : (ws : List Watch) (j : ℕ) (e : Watch) → At ws j e → At (places ws) j e.clause
At-places ws j e a = (subst (λ n. j < n) (sym (length-map ws (λ (x : Watch). x.clause))) a.0, get_or-map (λ (x : Watch). x.clause) ws j e ∙ ap (λ (x : Watch). x.clause) a.1)

-- the list that is gone through, among the others
pub list-is : (k : WatchLists) (g : Literal) (ws : List Watch) → code g < length k.lists → list_at (tending (with_list k g ws)).lists g ≡ places ws
list-is k g ws h =
    ap (λ (ls : List (List ℕ)). get_or ls (code g) []) (map-set places k.lists (code g) ws)
    ∙ get_or-set_same (map places k.lists) (code g) (places ws) [] (subst (λ n. code g < n) (sym (length-map k.lists places)) h)

entries-is : (k : WatchLists) (g : Literal) (ws : List Watch) → code g < length k.lists → entries_at (set k.lists (code g) ws) g ≡ ws
entries-is k g ws h = get_or-set_same k.lists (code g) ws [] h

lists-long : (k : WatchLists) (g : Literal) (ws : List Watch) → length (tending (with_list k g ws)).lists ≡ length k.lists
lists-long k g ws = length-map (set k.lists (code g) ws) places ∙ length-set k.lists (code g) ws

module _ (floor : ℕ) (K : List Clause) (T : Trail) (n : ℕ) (g : Literal) (k : WatchLists) (ws : List Watch) (j : ℕ) (e : Watch) (h : code g < length k.lists) (next : IsNext T n g) (s : Walks floor K T n g (tending (with_list k g ws)) j) (entries : AreEntries K (with_list k g ws)) (at : At ws j e) where
  listed : At (list_at (tending (with_list k g ws)).lists g) j e.clause
  listed = subst (λ (ns : List ℕ). At ns j e.clause) (sym (list-is k g ws h)) (At-places ws j e at)

  full : IsFull K e.clause
  full = s.tends.listed.within (code g) (list_at (tending (with_list k g ws)).lists g) e.clause (At-get (tending (with_list k g ws)).lists (code g) [] (subst (λ n. code g < n) (sym (lists-long k g ws)) h)) (j, listed.0, listed.1)

  its-entry : IsEntry K k.pairs g e
  its-entry = entries g j e (subst (λ (xs : List Watch). At xs j e) (sym (entries-is k g ws h)) at)

  nonempty : (c : Clause) → At K e.clause c → c ≡ [] → ⊥
  nonempty c a z = full.1 (subst (λ (x : Clause). At K e.clause x) z a)

  pub can-visit : CanVisit K (literals T) g e k
  can-visit = record {
    within = full.0;
    gone = gone-true T n g next;
    entry = its-entry;
    length_pairs = s.tends.listed.length_pairs;
    pair = λ c w a b. (s.tends.listed.pairs e.clause c w a b (nonempty c a), s.tends.exact.exact g e.clause w (j, listed.0, listed.1) b);
  }

  c-at : At K e.clause (get_or K e.clause [])
  c-at = At-get K e.clause [] full.0

  w-at : (w : Watched) × At k.pairs e.clause w
  w-at = (get_or k.pairs e.clause record { first = g; second = g }, At-get k.pairs e.clause record { first = g; second = g } (omega (arith, full.0, s.tends.listed.length_pairs)))

  visits : Visits K T g (tending (with_list k g ws)) j e.clause (get_or K e.clause []) w-at.0
  visits = record { clause = c-at; watch = w-at.1; listed = listed; gone = gone-true T n g next }

  -- the entry stays with another blocker
  kept-places : (b : Literal) → places (set ws j (record e { blocker = b })) ≡ places ws
  kept-places b = map-set_same (λ (x : Watch). x.clause) ws j (record e { blocker = b }) e (ap (λ (x : Watch). x.clause) (sym at.1))

  same-tending : (u : WatchLists) (b : Literal) → tending (with_list u g (set ws j (record e { blocker = b }))) ≡ tending (with_list u g ws)
  same-tending u b =
      let one : map places (set u.lists (code g) (set ws j (record e { blocker = b }))) ≡ map places (set u.lists (code g) ws) =
      map-set places u.lists (code g) (set ws j (record e { blocker = b })) ∙ ap (λ ns. set (map places u.lists) (code g) ns) (kept-places b) ∙ sym (map-set places u.lists (code g) ws) in
      (λ i. record { pairs = u.pairs; lists = one i; units = u.units; least = u.least })

  pub stays-walk : (u : WatchLists) (b : Literal) → IsVisit K (literals T) g e k u (Some b) → Walks floor K T n g (tending (with_list u g ws)) (j + 1)
  stays-walk u b (satisfied stay t is) =
      subst (λ (x : WatchLists). Walks floor K T n g (tending (with_list x g ws)) (j + 1)) (sym is)
      (Walks-good floor K T n g (tending (with_list k g ws)) j e.clause (get_or K e.clause []) w-at.0 visits (held (other_true (get_or K e.clause []) b c-at (stay.blocker_in (get_or K e.clause []) c-at) t)) s)
  stays-walk u b (behind stay least le is) =
      subst (λ (x : WatchLists). Walks floor K T n g (tending (with_list x g ws)) (j + 1)) (sym is)
      (Walks-good floor K T n g (tending (with_list k g ws)) j e.clause (get_or K e.clause []) w-at.0 visits (reached (subst (λ o. Reached o e.clause) (sym least) le)) s)
  stays-walk u b (unit stay last free perm pairs lists least) =
      Walks-unit floor K T n g b (tending (with_list k g ws)) (tending (with_list u g ws)) j e.clause (get_or K e.clause []) w-at.0 pairs (ap (λ (ls : List (List Watch)). map places (set ls (code g) ws)) lists) least perm next visits
      (last (get_or K e.clause []) w-at.0 c-at w-at.1).0 free (stay.blocker_in (get_or K e.clause []) c-at) (all-false-but (literals T) (get_or K e.clause []) b (last (get_or K e.clause []) w-at.0 c-at w-at.1).1) s
  stays-walk u b (needless {m = m} stay last free least is) =
      subst (λ (x : WatchLists). Walks floor K T n g (tending (with_list x g ws)) (j + 1)) (sym is)
      (Walks-good floor K T n g (tending (with_list k g ws)) j e.clause (get_or K e.clause []) w-at.0 visits
      (Good-spared K (literals (take n T) ++ negated g ∷ []) (literals T) k.units k.least w-at.0 g b e.clause m (last (get_or K e.clause []) w-at.0 c-at w-at.1).0 next free
      (subst (λ o. Reached o m) (sym least) (let z : m ≤ m = omega arith in z))) s)
  stays-walk u b (clashes stay last gone is) =
      subst (λ (x : WatchLists). Walks floor K T n g (tending (with_list x g ws)) (j + 1)) (sym is)
      (Walks-false floor K T n g b (tending (with_list k g ws)) (tending (with_list (record k { least = Some (lesser k.least e.clause) }) g ws)) j e.clause (get_or K e.clause []) w-at.0 refl refl refl refl visits
      (all-false (literals T) (get_or K e.clause []) b (last (get_or K e.clause []) c-at) gone) s)

  pub turn-stays : (u : WatchLists) (b : Literal) → IsVisit K (literals T) g e k u (Some b) → Walks floor K T n g (tending (with_list u g (set ws j (record e { blocker = b })))) (j + 1)
  turn-stays u b v = subst (λ (t : Tending). Walks floor K T n g t (j + 1)) (sym (same-tending u b)) (stays-walk u b v)

  -- what the entries say stays
  same-kept : (u : WatchLists) (b : Literal) → IsVisit K (literals T) g e k u (Some b) → IsStay K e b × (u.pairs ≡ k.pairs) × (u.lists ≡ k.lists)
  same-kept u b (satisfied stay t is) = (stay, ap (λ (x : WatchLists). x.pairs) is, ap (λ (x : WatchLists). x.lists) is)
  same-kept u b (behind stay least le is) = (stay, ap (λ (x : WatchLists). x.pairs) is, ap (λ (x : WatchLists). x.lists) is)
  same-kept u b (unit stay last free perm pairs lists least) = (stay, pairs, lists)
  same-kept u b (needless stay last free least is) = (stay, ap (λ (x : WatchLists). x.pairs) is, ap (λ (x : WatchLists). x.lists) is)
  same-kept u b (clashes stay last gone is) = (stay, ap (λ (x : WatchLists). x.pairs) is, ap (λ (x : WatchLists). x.lists) is)

  new-entry : (b : Literal) → IsStay K e b → IsEntry K k.pairs g (record e { blocker = b })
  new-entry b stay = record {
    blocker_in = stay.blocker_in;
    short = λ x c w p q. let r = its-entry.short x c w p q in (r.0, subst (λ (l : Literal). IsBeside w g l) (sym (stay.short x)) r.1);
    long = its-entry.long;
  }

  of-list : (l : Literal) (xs : List Watch) → code l ≢ code g → entries_at (set k.lists (code g) xs) l ≡ entries_at k.lists l
  of-list l xs ne = get_or-set_other k.lists (code g) (code l) xs [] ne

  other-entries : (l : Literal) → code l ≢ code g → AreEntriesOf K k.pairs l (entries_at k.lists l)
  other-entries l ne p x a = entries l p x (subst (λ (ys : List Watch). At ys p x) (sym (of-list l ws ne)) a)

  g-entries : AreEntriesOf K k.pairs g ws
  g-entries p x a = entries g p x (subst (λ (ys : List Watch). At ys p x) (sym (entries-is k g ws h)) a)

  pub turn-stays-entries : (u : WatchLists) (b : Literal) → IsVisit K (literals T) g e k u (Some b) → AreEntries K (with_list u g (set ws j (record e { blocker = b })))
  turn-stays-entries u b v l p x a = go (cases_eq (code l) (code g))
    where
      r : IsStay K e b × (u.pairs ≡ k.pairs) × (u.lists ≡ k.lists)
      r = same-kept u b v

      a' : At (entries_at (set k.lists (code g) (set ws j (record e { blocker = b }))) l) p x
      a' = subst (λ (ls : List (List Watch)). At (entries_at (set ls (code g) (set ws j (record e { blocker = b }))) l) p x) r.2 a

      found : ((p ≡ j) × (x ≡ record e { blocker = b })) ⊎ ((p ≢ j) × At ws p x) → IsEntry K k.pairs g x
      found (inl (i, f)) = subst (λ (y : Watch). IsEntry K k.pairs g y) (sym f) (new-entry b r.0)
      found (inr (ne, f)) = g-entries p x f

      go : (code l ≡ code g) ⊎ (code l ≢ code g) → IsEntry K u.pairs l x
      go (inl i) =
          let same_lit : l ≡ g = code-one l g i in
          let here : At (set ws j (record e { blocker = b })) p x = subst (λ (ys : List Watch). At ys p x) (entries-is k g (set ws j (record e { blocker = b })) h) (subst (λ (y : Literal). At (entries_at (set k.lists (code g) (set ws j (record e { blocker = b }))) y) p x) same_lit a') in
          rw (r.1, same_lit) (found (At-set ws j (record e { blocker = b }) p x here))
      go (inr ne) = rw r.1 (other-entries l ne p x (subst (λ (ys : List Watch). At ys p x) (of-list l (set ws j (record e { blocker = b })) ne) a'))

  -- another clause's entry says the same where the clause of this one watches another literal
  moved-entry : (y z l : Literal) (x : Watch) → e.is_short ≡ false → IsEntry K k.pairs l x → IsEntry K (set k.pairs e.clause (both y z)) l x
  moved-entry y z l x not_short r = record { blocker_in = r.blocker_in; short = λ i c w a b. go i c w a (At-set k.pairs e.clause (both y z) x.clause w b); long = r.long }
    where
      go : x.is_short ≡ true → (c : Clause) (w : Watched) → At K x.clause c → ((x.clause ≡ e.clause) × (w ≡ both y z)) ⊎ ((x.clause ≢ e.clause) × At k.pairs x.clause w) → (length c ≤ 2) × IsBeside w l x.blocker
      go i c w a (inl (f, _)) =
          let short = (r.short i c w-at.0 a (subst (λ m. At k.pairs m w-at.0) (sym f) w-at.1)).0 in
          let long = its-entry.long not_short c (subst (λ m. At K m c) f a) in
          absurd (omega (arith, short, long))
      go i c w a (inr (_, b)) = r.short i c w a b

  module _ (u : WatchLists) (new : List Watch) (ok : IsConsistent (literals T)) (room : (c : Clause) (l : Literal) → At K e.clause c → has c l ≡ true → code l < length k.lists)
      (was : (p : ℕ) (x : Watch) → At new p x → (q : ℕ) × At ws q x) (gone : places new ≡ without_nth (places ws) j) where
    -- what a move is made of
    record Move (y z : Literal) : Type 0 where
      not_short : e.is_short ≡ false
      beside : IsBeside w-at.0 g y
      y_in : has (get_or K e.clause []) y ≡ true
      replaces : Replaces (literals T) (get_or K e.clause []) y z
      pairs : u.pairs ≡ set k.pairs e.clause (both y z)
      lists : u.lists ≡ set k.lists (code z) (entries_at k.lists z ++ record { clause = e.clause; blocker = y; is_short = false } ∷ [])
      units : u.units ≡ k.units
      least : u.least ≡ k.least

    made : IsVisit K (literals T) g e k u None → (y : Literal) × (z : Literal) × Move y z
    made (moves {k = y} {z = z} long facts pairs lists units least) =
        let f = facts (get_or K e.clause []) w-at.0 c-at w-at.1 in
        (y, z, record { not_short = long; beside = f.0; y_in = f.1; replaces = f.2; pairs = pairs; lists = lists; units = units; least = least })

    module _ (y z : Literal) (m : Move y z) where
      z_g : same z g ≡ false
      z_g = go (true_or_false (same z g))
        where
          go : (same z g ≡ true) ⊎ (same z g ≡ false) → same z g ≡ false
          go (inl f) = absurd (true_false (has (literals T) (negated z)) (subst (λ (x : Literal). has (literals T) (negated x) ≡ true) (sym (same-eq z g f)) (gone-true T n g next)) m.replaces.not_false)
          go (inr f) = f

      codes : code z ≢ code g
      codes f = true_false (same z g) (rw (code-one z g f) (same-refl g)) z_g

      hz : code z < length k.lists
      hz = room (get_or K e.clause []) z c-at m.replaces.member

      lists-moved : (tending (with_list u g new)).lists ≡ moved (tending (with_list k g ws)).lists g z e.clause j
      lists-moved =
          ap (λ (ls : List (List Watch)). map places (set ls (code g) new)) m.lists
          ∙ map-set places (set k.lists (code z) (entries_at k.lists z ++ record { clause = e.clause; blocker = y; is_short = false } ∷ [])) (code g) new
          ∙ (λ i. set (inner i) (code g) (gone i))
          ∙ sym (set-over (map places k.lists) (code g) (code z) (places ws) (places (entries_at k.lists z) ++ e.clause ∷ []) (without_nth (places ws) j) (λ f. codes (sym f)))
          ∙ (λ i. set (set (outer i) (code z) (of_z i ++ e.clause ∷ [])) (code g) (without_nth (of_g i) j))
        where
          outer : set (map places k.lists) (code g) (places ws) ≡ map places (set k.lists (code g) ws)
          outer = sym (map-set places k.lists (code g) ws)

          of_g : places ws ≡ list_at (tending (with_list k g ws)).lists g
          of_g = sym (list-is k g ws h)

          inner : map places (set k.lists (code z) (entries_at k.lists z ++ record { clause = e.clause; blocker = y; is_short = false } ∷ [])) ≡ set (map places k.lists) (code z) (places (entries_at k.lists z) ++ e.clause ∷ [])
          inner = map-set places k.lists (code z) (entries_at k.lists z ++ record { clause = e.clause; blocker = y; is_short = false } ∷ [])
              ∙ ap (λ ns. set (map places k.lists) (code z) ns) (map-append (λ (x : Watch). x.clause) (entries_at k.lists z) (record { clause = e.clause; blocker = y; is_short = false } ∷ []))

          of_z : places (entries_at k.lists z) ≡ list_at (tending (with_list k g ws)).lists z
          of_z = sym (ap (λ (ls : List (List ℕ)). get_or ls (code z) []) (map-set places k.lists (code g) ws) ∙ get_or-set_other (map places k.lists) (code g) (code z) (places ws) [] codes ∙ get_or-map places k.lists (code z) [])

      walks-on : Walks floor K T n g (tending (with_list u g new)) j
      walks-on =
          Walks-move floor K T n g y z (tending (with_list k g ws)) (tending (with_list u g new)) j e.clause (get_or K e.clause []) w-at.0 m.pairs lists-moved m.units m.least ok
          (subst (λ i. code g < i) (sym (lists-long k g ws)) h) (subst (λ i. code z < i) (sym (lists-long k g ws)) hz) next visits m.beside m.replaces s

      entries-on : AreEntries K (with_list u g new)
      entries-on l p x a = rw m.pairs (go (cases_eq (code l) (code g)) (cases_eq (code l) (code z)) (subst (λ (ls : List (List Watch)). At (entries_at (set ls (code g) new) l) p x) m.lists a))
        where
          fresh : Watch
          fresh = record { clause = e.clause; blocker = y; is_short = false }

          its-c : (c : Clause) → At K e.clause c → has c y ≡ true
          its-c c b = subst (λ (d : Clause). has d y ≡ true) (At-one K e.clause (get_or K e.clause []) c c-at b) m.y_in

          new-one : IsEntry K (set k.pairs e.clause (both y z)) z (record { clause = e.clause; blocker = y; is_short = false })
          new-one = record { blocker_in = its-c; short = λ i c w b d. absurd (true_false false i refl); long = λ i c b. its-entry.long m.not_short c b }

          of_g : code l ≡ code g → At (entries_at (set (set k.lists (code z) (entries_at k.lists z ++ fresh ∷ [])) (code g) new) l) p x → IsEntry K (set k.pairs e.clause (both y z)) l x
          of_g i b =
              let lit : l ≡ g = code-one l g i in
              let here : At new p x = subst (λ (ys : List Watch). At ys p x)
              (get_or-set_same (set k.lists (code z) (entries_at k.lists z ++ fresh ∷ [])) (code g) new [] (subst (λ q. code g < q) (sym (length-set k.lists (code z) (entries_at k.lists z ++ fresh ∷ []))) h))
              (subst (λ (v : Literal). At (entries_at (set (set k.lists (code z) (entries_at k.lists z ++ fresh ∷ [])) (code g) new) v) p x) lit b) in
              let old = was p x here in
              moved-entry y z l x m.not_short (rw lit (g-entries old.0 x old.1))

          of_z : code l ≢ code g → code l ≡ code z → At (entries_at (set k.lists (code z) (entries_at k.lists z ++ fresh ∷ [])) l) p x → IsEntry K (set k.pairs e.clause (both y z)) l x
          of_z ne i b =
              let lit : l ≡ z = code-one l z i in
              let here : At (entries_at k.lists z ++ fresh ∷ []) p x = subst (λ (ys : List Watch). At ys p x) (get_or-set_same k.lists (code z) (entries_at k.lists z ++ fresh ∷ []) [] hz)
              (subst (λ (v : Literal). At (entries_at (set k.lists (code z) (entries_at k.lists z ++ fresh ∷ [])) v) p x) lit b) in
              rw lit (split (At-push (entries_at k.lists z) fresh p x here))
            where
              split : At (entries_at k.lists z) p x ⊎ ((p ≡ length (entries_at k.lists z)) × (x ≡ fresh)) → IsEntry K (set k.pairs e.clause (both y z)) z x
              split (inl f) = moved-entry y z z x m.not_short (other-entries z codes p x f)
              split (inr (_, f)) = subst (λ (v : Watch). IsEntry K (set k.pairs e.clause (both y z)) z v) (sym f) new-one

          go : (code l ≡ code g) ⊎ (code l ≢ code g) → (code l ≡ code z) ⊎ (code l ≢ code z) → At (entries_at (set (set k.lists (code z) (entries_at k.lists z ++ fresh ∷ [])) (code g) new) l) p x → IsEntry K (set k.pairs e.clause (both y z)) l x
          go (inl i) _ b = of_g i b
          go (inr ne) (inl i) b = of_z ne i (subst (λ (ys : List Watch). At ys p x) (get_or-set_other (set k.lists (code z) (entries_at k.lists z ++ fresh ∷ [])) (code g) (code l) new [] ne) b)
          go (inr ne) (inr apart) b =
              moved-entry y z l x m.not_short (other-entries l ne p x
              (subst (λ (ys : List Watch). At ys p x) (get_or-set_other (set k.lists (code z) (entries_at k.lists z ++ fresh ∷ [])) (code g) (code l) new [] ne ∙ get_or-set_other k.lists (code z) (code l) (entries_at k.lists z ++ fresh ∷ []) [] apart) b))

    pub turn-moves : IsVisit K (literals T) g e k u None → Walks floor K T n g (tending (with_list u g new)) j
    turn-moves v = let r = made v in walks-on r.0 r.1 r.2

    pub turn-moves-entries : IsVisit K (literals T) g e k u None → AreEntries K (with_list u g new)
    turn-moves-entries v = let r = made v in entries-on r.0 r.1 r.2

-- the entries of a list of so many that was gone through up to a place: those that stay moved
-- together in front, and those from the place on stand where they stood
abbrev pub thinned : List Watch → ℕ → ℕ → ℕ → List Watch
thinned room kept place len = take kept room ++ drop place (take len room)

-- the entry at the place comes behind those that stay
split-at : (room : List Watch) (kept place len : ℕ) (d : Watch) → place < len → len ≤ length room → thinned room kept place len ≡ take kept room ++ get_or room place d ∷ drop (suc place) (take len room)
split-at room kept place len d low high =
    let inside : place < length (take len room) = omega (arith, low, length-take-le len room high) in
    ap (λ (ws : List Watch). take kept room ++ ws) (drop-cons (take len room) place d inside)
    ∙ ap (λ (x : Watch). take kept room ++ x ∷ drop (suc place) (take len room)) (get_or-take len room place d low)

front-long : (room : List Watch) (kept place len : ℕ) → kept ≤ place → place < len → len ≤ length room → length (take kept room) ≡ kept
front-long room kept place len few low high = length-take-le kept room (omega (arith, few, low, high))

pub thinned-begins : (room : List Watch) (len : ℕ) → thinned room 0 0 len ≡ take len room
thinned-begins room len = refl

pub thinned-ends : (room : List Watch) (kept len : ℕ) → len ≤ length room → thinned room kept len len ≡ take kept room
thinned-ends room kept len high =
    let size : length (take len room) ≤ len = omega (arith, length-take-le len room high) in
    ap (λ (ws : List Watch). take kept room ++ ws) (drop_of_length-le (take len room) size) ∙ append-nil (take kept room)

pub read-at : (room : List Watch) (kept place len : ℕ) (e : Watch) → kept ≤ place → place < len → len ≤ length room → e ≡ get_or room place e → At (thinned room kept place len) kept e
read-at room kept place len e few low high read =
    subst (λ (ws : List Watch). At ws kept e) (sym (split-at room kept place len e low high ∙ ap (λ (x : Watch). take kept room ++ x ∷ drop (suc place) (take len room)) (sym read)))
    (At-behind (take kept room) (drop (suc place) (take len room)) e kept (front-long room kept place len few low high))

-- the entry at the place stays, written behind the others that do
pub kept-one : (room : List Watch) (kept place len : ℕ) (y : Watch) → kept ≤ place → place < len → len ≤ length room → thinned (set room kept y) (kept + 1) (place + 1) len ≡ set (thinned room kept place len) kept y
kept-one room kept place len y few low high =
    let inside : kept < length room = omega (arith, few, low, high) in
    let next : kept + 1 ≡ suc kept = omega arith in
    let behind : place + 1 ≡ suc place = omega arith in
    let front : take (kept + 1) (set room kept y) ≡ take kept room ++ y ∷ [] = ap (λ n. take n (set room kept y)) next ∙ take-suc-set room kept y inside in
    let rest : drop (place + 1) (take len (set room kept y)) ≡ drop (suc place) (take len room) =
    ap (λ n. drop n (take len (set room kept y))) behind ∙ ap (drop (suc place)) (take-set-lt len room kept y (omega (arith, few, low))) ∙ drop-set-lt (suc place) (take len room) kept y (omega (arith, few)) in
    (λ i. front i ++ rest i)
    ∙ append_assoc (take kept room) (y ∷ []) (drop (suc place) (take len room))
    ∙ sym (set_at (take kept room) (get_or room place y) (drop (suc place) (take len room)) y kept (front-long room kept place len few low high))
    ∙ ap (λ (ws : List Watch). set ws kept y) (sym (split-at room kept place len y low high))

-- what is written in front of the place, behind those that stay, is none of the list's
pub written-behind : (room : List Watch) (kept place len : ℕ) (y : Watch) → kept < place → kept < len → thinned (set room kept y) kept place len ≡ thinned room kept place len
written-behind room kept place len y below inside =
    let rest : drop place (take len (set room kept y)) ≡ drop place (take len room) = ap (drop place) (take-set-lt len room kept y inside) ∙ drop-set-lt place (take len room) kept y below in
    (λ i. take-set room kept y i ++ rest i)

-- the entry at the place leaves
pub gone-one : (room : List Watch) (kept place len : ℕ) (d : Watch) → kept ≤ place → place < len → len ≤ length room → thinned room kept (place + 1) len ≡ without_nth (thinned room kept place len) kept
gone-one room kept place len d few low high =
    ap (λ n. take kept room ++ drop n (take len room)) (let z : place + 1 ≡ suc place = omega arith in z)
    ∙ sym (without-first-behind (take kept room) (drop (suc place) (take len room)) (get_or room place d) kept (front-long room kept place len few low high))
    ∙ ap (λ (ws : List Watch). without_nth ws kept) (sym (split-at room kept place len d low high))

pub gone-places : (ws : List Watch) (j : ℕ) → places (without_nth ws j) ≡ without_nth (places ws) j
gone-places ws j = map-without (λ (e : Watch). e.clause) ws j

-- an entry written where it stood
pub written-again : (ws : List Watch) (j : ℕ) (e : Watch) → At ws j e → set ws j e ≡ ws
written-again ws j e at = ap (set ws j) (sym at.1) ∙ set-get_or ws j e

-- each that is left was there
pub gone-was : (ws : List Watch) (j p : ℕ) (x : Watch) → j < length ws → At (without_nth ws j) p x → (q : ℕ) × At ws q x
gone-was ws j p x inside a = let r = without-from ws j p x inside a in (r.0, r.1)

-- the lists' length, as a program has it
pub code-inside : {V : Type 0} (f : V → List Watch) (vs : List V) (n : ℕ) (g : Literal) (T : Trail) (served : ℕ) → length vs ≡ 2 * n + 2 → IsOver n (literals T) → IsNext T served g → code g < length (map f vs)
code-inside f vs n g T served long over next = code-within g n (length (map f vs)) (over-var n (literals T) (negated g) over (gone-true T served g next)) (length-map vs f ∙ long)

pub room-of : {V : Type 0} (f : V → List Watch) (vs : List V) (n : ℕ) (K : List Clause) (m : ℕ) → length vs ≡ 2 * n + 2 → All (IsOver n) K → m < length K → (c : Clause) (l : Literal) → At K m c → has c l ≡ true → code l < length (map f vs)
room-of f vs n K m long over inside c l a h =
    code-within l n (length (map f vs)) (over-var n c l (subst (λ (d : Clause). IsOver n d) (At-one K m (get_or K m []) c (At-get K m [] inside) a) (over m [] inside)) h) (length-map vs f ∙ long)

pub all-visited : (k : WatchLists) (g : Literal) (list : List Watch) (end place : ℕ) → code g < length k.lists → end ≤ length list → end ≤ place → length (list_at (tending (with_list k g (take end list))).lists g) ≤ place
all-visited k g list end place h inside done =
    let size : length (list_at (tending (with_list k g (take end list))).lists g) ≡ end =
    ap length (list-is k g (take end list) h) ∙ length-map (take end list) (λ (e : Watch). e.clause) ∙ length-take-le end list inside in
    omega (arith, size, done)

pub gone-inside : {V : Type 0} (vs : List V) (n : ℕ) (g : Literal) (T : Trail) (served : ℕ) → length vs ≡ 2 * n + 2 → IsOver n (literals T) → IsNext T served g → code g < length vs
gone-inside vs n g T served long over next = code-within g n (length vs) (over-var n (literals T) (negated g) over (gone-true T served g next)) long
