-- What a step does to an order and its notes.
use Rattle.std.proofs.Common.{◌≡◌, ◌≢◌, ◌⊎◌, inl, inr, ℕ, zero, suc, ◌+◌, ◌<◌, ◌≤◌, Bool, cond, true, false, eq-eqb, ne_eqb, List, [], ◌∷◌, ◌++◌, length, map, set, sym, refl, ap, ◌∙◌, subst, ⊎_elim, arith}
use Rattle.std.specs.Prelude.{◌==◌}
use mathlib.Core.Option.{some, some-ne-none, some-injective}
use lib.ListN.{get_elem?}
use Rattle.crossbeam_deque.proofs.Lists.{at_set, at_snoc}
use Rattle.theory.specs.Order.{entries_of}
use Rattle.pool.specs.Tally.{Fits, Tally}

module _ {X : Type 0} where
  pub entries-at_end : (k : ℕ) (x : X) (es : List (ℕ × X)) → entries_of k (es ++ (k, x) ∷ []) ≡ entries_of k es ++ x ∷ []
  entries-at_end k x [] = ap (λ b. cond b (x ∷ []) []) (eq-eqb k k refl)
  entries-at_end k x (e ∷ es) = both (k == e.0) e.1 (entries_of k (es ++ (k, x) ∷ [])) (entries_of k es) x (entries-at_end k x es)
    where
      both : (b : Bool) (y : X) (ys zs : List X) (z : X) → ys ≡ zs ++ z ∷ [] → cond b (y ∷ ys) ys ≡ cond b (y ∷ zs) zs ++ z ∷ []
      both true y ys zs z q = ap (λ l. y ∷ l) q
      both false y ys zs z q = q

  pub entries-other : (k j : ℕ) (x : X) (es : List (ℕ × X)) → k ≢ j → entries_of k (es ++ (j, x) ∷ []) ≡ entries_of k es
  entries-other k j x [] n = ap (λ b. cond b (x ∷ []) []) (ne_eqb k j n)
  entries-other k j x (e ∷ es) n = ap (λ l. cond (k == e.0) (e.1 ∷ l) l) (entries-other k j x es n)

  -- an order without entries of any hand is empty
  pub entries-none : (es : List (ℕ × X)) → ((k : ℕ) → entries_of k es ≡ []) → es ≡ []
  entries-none [] h = refl
  entries-none (e ∷ es) h = absurd (no (ap (λ b. cond b (e.1 ∷ entries_of e.0 es) (entries_of e.0 es)) (sym (eq-eqb e.0 e.0 refl)) ∙ h e.0))
    where
      no : e.1 ∷ entries_of e.0 es ≡ [] → ⊥
      no q = cc

  -- an order of the hand 0 alone is its notes
  pub entries-alone : (es : List (ℕ × X)) → ((k : ℕ) → 1 ≤ k → entries_of k es ≡ []) → map (λ e. e.1) es ≡ entries_of 0 es
  entries-alone [] h = refl
  entries-alone ((zero, x) ∷ es) h = ap (λ l. x ∷ l) (entries-alone es (λ k p. ap (λ b. cond b (x ∷ entries_of k es) (entries_of k es)) (sym (ne_eqb k 0 (omega arith))) ∙ h k p))
  entries-alone ((suc j, x) ∷ es) h = absurd (no (ap (λ b. cond b (x ∷ entries_of (suc j) es) (entries_of (suc j) es)) (sym (eq-eqb (suc j) (suc j) refl)) ∙ h (suc j) (omega arith)))
    where
      no : x ∷ entries_of (suc j) es ≡ [] → ⊥
      no q = cc

module _ {X V : Type 0} (notes : V → List (ℕ × List X)) where
  pub Tally-begins : (v : V) → notes v ≡ [] → Tally notes 0 [] (v ∷ [])
  Tally-begins v e = ((λ _. (0, 0)), (λ k _. refl), λ port u at i n there. absurd (none port u at i n there))
    where
      none : (port : ℕ) (u : V) → get_elem? (v ∷ []) port ≡ some u → (i : ℕ) (n : ℕ × List X) → get_elem? (notes u) i ≡ some n → ⊥
      none zero u at i n there = empty i (subst (λ l. get_elem? l i ≡ some n) (ap notes (sym (some-injective _ _ at)) ∙ e) there)
        where
          empty : (j : ℕ) → get_elem? [] j ≡ some n → ⊥
          empty j q = some-ne-none n (sym q)
      none (suc port) u at i n there = some-ne-none u (sym at)

  -- a view changes, and its notes don't
  pub Tally-same : (made : ℕ) (order : List (ℕ × X)) (views : List V) (port : ℕ) (v w : V) → get_elem? views port ≡ some v → notes w ≡ notes v → Tally notes made order views → Tally notes made order (set views port w)
  Tally-same made order views port v w at same h = (
    h.0,
    h.1,
    λ j u e. ⊎_elim
        (λ (x : (j ≡ port) × (w ≡ u)). subst (λ (y : ℕ × V). Fits h.0 made order y.0 (notes y.1)) (λ i. (sym x.0 i, x.1 i)) (subst (Fits h.0 made order port) (sym same) (h.2 port v at)))
        (λ (x : (j ≢ port) × (get_elem? views j ≡ some u)). h.2 j u x.1)
        (at_set views port j w u e),
  )

  -- the hand k does x
  pub Tally-adds : (made : ℕ) (order : List (ℕ × X)) (views : List V) (port : ℕ) (v w : V) (k : ℕ) (xs : List X) (rest : List (ℕ × List X)) (x : X) → get_elem? views port ≡ some v → notes v ≡ (k, xs) ∷ rest → notes w ≡ (k, xs ++ x ∷ []) ∷ rest
      → Tally notes made order views → Tally notes made (order ++ (k, x) ∷ []) (set views port w)
  Tally-adds made order views port v w k xs rest x at was is h =
      let mine : Fits h.0 made order port ((k, xs) ∷ rest) = subst (Fits h.0 made order port) was (h.2 port v at) in
      let head = mine 0 (k, xs) refl in (
        h.0,
        (λ j le. entries-other j k x order (λ p. let lt = head.1 in omega arith) ∙ h.1 j le),
        λ j u e. ⊎_elim
            (λ (y : (j ≡ port) × (w ≡ u)). subst (λ (z : ℕ × V). Fits h.0 made (order ++ (k, x) ∷ []) z.0 (notes z.1)) (λ i. (sym y.0 i, y.1 i)) (subst (Fits h.0 made (order ++ (k, x) ∷ []) port) (sym is) (after mine)))
            (λ (y : (j ≢ port) × (get_elem? views j ≡ some u)). λ i n there. let f = h.2 j u y.1 i n there in
            (f.0, f.1, entries-other n.0 k x order (λ p. y.0 (ap (λ q. q.0) (sym f.0 ∙ ap h.0 p ∙ head.0))) ∙ f.2))
            (at_set views port j w u e),
      )
    where
      after : Fits h.0 made order port ((k, xs) ∷ rest) → Fits h.0 made (order ++ (k, x) ∷ []) port ((k, xs ++ x ∷ []) ∷ rest)
      after mine zero n there = let f = mine 0 (k, xs) refl in let e = some-injective _ _ there in
          subst (λ (m : ℕ × List X). (h.0 m.0 ≡ (port, 0)) × (m.0 < made) × (entries_of m.0 (order ++ (k, x) ∷ []) ≡ m.1)) e (f.0, f.1, entries-at_end k x order ∙ ap (λ l. l ++ x ∷ []) f.2)
      after mine (suc i) n there = let f = mine (suc i) n there in let g = mine 0 (k, xs) refl in
          (f.0, f.1, entries-other n.0 k x order (λ p. let q : 0 ≡ suc i = ap (λ z. z.1) (sym g.0 ∙ ap h.0 (sym p) ∙ f.0) in omega arith) ∙ f.2)

  at_snoc_there : (l : List V) (a b : V) (j : ℕ) → get_elem? (l ++ a ∷ []) j ≡ some b → (get_elem? l j ≡ some b) ⊎ ((j ≡ length l) × (a ≡ b))
  at_snoc_there [] a b zero e = inr (refl, some-injective a b e)
  at_snoc_there [] a b (suc j) e = absurd (some-ne-none b (sym e))
  at_snoc_there (x ∷ xs) a b zero e = inl e
  at_snoc_there (x ∷ xs) a b (suc j) e = ⊎_elim inl (λ (p : (j ≡ length xs) × (a ≡ b)). inr (ap suc p.0, p.1)) (at_snoc_there xs a b j e)

  -- a new view has the notes of one new hand, which are empty
  Tally-more : (made : ℕ) (order : List (ℕ × X)) (vs : List V) (r : V) → notes r ≡ (made, []) ∷ [] → Tally notes made order vs → Tally notes (made + 1) order (vs ++ r ∷ [])
  Tally-more made order vs r new h = (
    seat,
    (λ k le. h.1 k (omega arith)),
    λ j u e. ⊎_elim (λ (was : get_elem? vs j ≡ some u). older j (notes u) (h.2 j u was))
        (λ (p : (j ≡ length vs) × (r ≡ u)). subst (λ (y : ℕ × V). Fits seat (made + 1) order y.0 (notes y.1)) (λ i. (sym p.0 i, p.1 i)) (subst (Fits seat (made + 1) order (length vs)) (sym new) newer))
        (at_snoc_there vs r u j e),
  )
    where
      seat : ℕ → ℕ × ℕ
      seat k = cond (k == made) (length vs, 0) (h.0 k)

      older : (j : ℕ) (ns : List (ℕ × List X)) → Fits h.0 made order j ns → Fits seat (made + 1) order j ns
      older j ns f i n there = let g = f i n there in (ap (λ b. cond b (length vs, 0) (h.0 n.0)) (ne_eqb n.0 made (λ p. let lt = g.1 in omega arith)) ∙ g.0, (let lt = g.1 in omega arith), g.2)

      newer : Fits seat (made + 1) order (length vs) ((made, []) ∷ [])
      newer zero n there = let e = some-injective _ _ there in
          subst (λ (m : ℕ × List X). (seat m.0 ≡ (length vs, 0)) × (m.0 < made + 1) × (entries_of m.0 order ≡ m.1)) e (ap (λ b. cond b (length vs, 0) (h.0 made)) (eq-eqb made made refl), omega arith, h.1 made (omega arith))
      newer (suc i) n there = absurd (some-ne-none n (sym there))

  pub Tally-forks : (made : ℕ) (order : List (ℕ × X)) (views : List V) (port : ℕ) (v l r : V) → get_elem? views port ≡ some v → notes l ≡ notes v → notes r ≡ (made, []) ∷ []
      → Tally notes made order views → Tally notes (made + 1) order (set views port l ++ r ∷ [])
  Tally-forks made order views port v l r at same new h = Tally-more made order (set views port l) r new (Tally-same made order views port v l at same h)

  -- one view takes in the notes of another, which keeps none
  pub Tally-merges : (made : ℕ) (order : List (ℕ × X)) (views : List V) (port : ℕ) (v : V) (other : ℕ) (u b s : V) → get_elem? views port ≡ some v → ¬ (other ≡ port) → get_elem? (set views port b) other ≡ some u
      → notes b ≡ notes v ++ notes u → notes s ≡ [] → Tally notes made order views → Tally notes made order (set (set views port b) other s)
  Tally-merges made order views port v other u b s at apart there both spent h = (
    seat,
    h.1,
    λ j y e. ⊎_elim
        (λ (p : (j ≡ other) × (s ≡ y)). subst (Fits seat made order j) (sym spent ∙ ap notes p.1) (λ i n q. absurd (some-ne-none n (sym q))))
        (λ (p : (j ≢ other) × (get_elem? (set views port b) j ≡ some y)). ⊎_elim
        (λ (q : (j ≡ port) × (b ≡ y)). subst (λ (z : ℕ × V). Fits seat made order z.0 (notes z.1)) (λ i. (sym q.0 i, q.1 i)) (subst (Fits seat made order port) (sym both) mine))
        (λ (q : (j ≢ port) × (get_elem? views j ≡ some y)). alone j (notes y) p.0 (h.2 j y q.1))
        (at_set views port j b y p.1))
        (at_set (set views port b) other j s y e),
  )
    where
      was : get_elem? views other ≡ some u
      was = ⊎_elim (λ (p : (other ≡ port) × (b ≡ u)). absurd (apart p.0)) (λ (p : (other ≢ port) × (get_elem? views other ≡ some u)). p.1) (at_set views port other b u there)

      seat : ℕ → ℕ × ℕ
      seat k = cond ((h.0 k).0 == other) (port, length (notes v) + (h.0 k).1) (h.0 k)

      alone : (j : ℕ) (ns : List (ℕ × List X)) → j ≢ other → Fits h.0 made order j ns → Fits seat made order j ns
      alone j ns ne f i n q = let g = f i n q in (ap (λ c. cond c (port, length (notes v) + (h.0 n.0).1) (h.0 n.0)) (ne_eqb (h.0 n.0).0 other (λ p. ne (ap (λ z. z.0) (sym g.0) ∙ p))) ∙ g.0, g.1, g.2)

      moved : (i : ℕ) (n : ℕ × List X) → get_elem? (notes u) i ≡ some n → (seat n.0 ≡ (port, length (notes v) + i)) × (n.0 < made) × (entries_of n.0 order ≡ n.1)
      moved i n q = let g = h.2 other u was i n q in
          (ap (λ c. cond c (port, length (notes v) + (h.0 n.0).1) (h.0 n.0)) (eq-eqb (h.0 n.0).0 other (ap (λ z. z.0) g.0)) ∙ ap (λ (z : ℕ × ℕ). (port, length (notes v) + z.1)) g.0, g.1, g.2)

      -- the notes that are left of this view's own, from the place `from` on, and then the other's
      joined : (ns : List (ℕ × List X)) (from : ℕ) → from + length ns ≡ length (notes v) → ((i : ℕ) (n : ℕ × List X) → get_elem? ns i ≡ some n → (h.0 n.0 ≡ (port, from + i)) × (n.0 < made) × (entries_of n.0 order ≡ n.1))
          → (i : ℕ) (n : ℕ × List X) → get_elem? (ns ++ notes u) i ≡ some n → (seat n.0 ≡ (port, from + i)) × (n.0 < made) × (entries_of n.0 order ≡ n.1)
      joined [] from len f i n q = let g = moved i n q in (g.0 ∙ ap (λ (z : ℕ). (port, z + i)) (sym (omega arith)), g.1, g.2)
      joined (m ∷ ns) from len f zero n q = let g = f zero n q in (ap (λ c. cond c (port, length (notes v) + (h.0 n.0).1) (h.0 n.0)) (ne_eqb (h.0 n.0).0 other (λ p. apart (sym p ∙ ap (λ z. z.0) g.0))) ∙ g.0, g.1, g.2)
      joined (m ∷ ns) from len f (suc i) n q = let g = joined ns (suc from) (omega arith) (λ j o r. let k = f (suc j) o r in (k.0 ∙ ap (λ (z : ℕ). (port, z)) (omega arith), k.1, k.2)) i n q in
          (g.0 ∙ ap (λ (z : ℕ). (port, z)) (omega arith), g.1, g.2)

      mine : Fits seat made order port (notes v ++ notes u)
      mine i n q = let g = joined (notes v) 0 (omega arith) (λ j o r. let k = h.2 port v at j o r in (k.0 ∙ ap (λ (z : ℕ). (port, z)) (omega arith), k.1, k.2)) i n q in (g.0 ∙ ap (λ (z : ℕ). (port, z)) (omega arith), g.1, g.2)

  -- what the order says of a view's notes
  pub Tally-learns : (made : ℕ) (order : List (ℕ × X)) (views : List V) (port : ℕ) (v : V) (i : ℕ) (n : ℕ × List X) → get_elem? views port ≡ some v → get_elem? (notes v) i ≡ some n → Tally notes made order views → (n.0 < made) × (entries_of n.0 order ≡ n.1)
  Tally-learns made order views port v i n at there h = let g = h.2 port v at i n there in (g.1, g.2)

  -- a view without notes comes
  pub Tally-guest : (made : ℕ) (order : List (ℕ × X)) (views : List V) (w : V) → notes w ≡ [] → Tally notes made order views → Tally notes made order (views ++ w ∷ [])
  Tally-guest made order views w none h = (
    h.0,
    h.1,
    λ j u e. ⊎_elim (λ (was : get_elem? views j ≡ some u). h.2 j u was)
        (λ (is : w ≡ u). subst (Fits h.0 made order j) (sym none ∙ ap notes is) (λ i n q. absurd (some-ne-none n (sym q)))) (at_snoc views w u j e),
  )
