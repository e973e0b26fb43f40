-- Each move of a deque keeps its rule.
use Rattle.std.proofs.Common.{◌≡◌, ◌≢◌, ℕ, zero, suc, ◌+◌, ◌<◌, ◌≤◌, min, Bool, true, false, true≢false, List, [], ◌∷◌, ◌++◌, length, map, set, sym, refl, ap, ◌∙◌, subst, ⊎_elim, arith, append_assoc, append-nil}
use mathlib.Core.Option.{some, some-ne-none, some-injective}
use lib.ListN.{get_elem?}
use Rattle.crossbeam_deque.specs.Tasks.{Pushes, Takes, Finds, FindsFew, Forks, Merges, Admits}
use Rattle.crossbeam_deque.proofs.Lists.{at_set, at_snoc}
use Rattle.pool.specs.declared.task.Task.{Task}
use Rattle.pool.specs.DequeNotes.{DequeNotes}
use Rattle.pool.specs.Tally.{Tally}
use Rattle.pool.specs.DequeNotes.{Cube, owner_notes, thief_notes, spent, with_more, merged}
use Rattle.pool.specs.Deque.{cubes, Fit, AllFit, noted, got_of, Knows, HoldsTasks, Whole, Emptied, EmptyThen, Fronts, Marked}
use Rattle.pool.proofs.Tallies.{entries-none, Tally-begins, Tally-same, Tally-adds, Tally-forks, Tally-merges, Tally-learns, Tally-guest}

off : {P : Type 0} → false ≡ true → P
off e = absurd (true≢false (sym e))

none_at : {A : Type 0} (a : A) (l : List A) → [] ≡ a ∷ l → ⊥
none_at a l e = cc

-- one view changes
knows_set : (b c : DequeNotes) (views : List DequeNotes) (port : ℕ) (w : DequeNotes) → ((j : ℕ) (u : DequeNotes) → j ≢ port → get_elem? views j ≡ some u → Knows c j u) → Knows c port w → (j : ℕ) (u : DequeNotes) → get_elem? (set views port w) j ≡ some u → Knows c j u
knows_set b c views port w others mine j u e =
    ⊎_elim
    (λ (x : (j ≡ port) × (w ≡ u)). subst (λ (y : ℕ × DequeNotes). Knows c y.0 y.1) (λ i. (sym x.0 i, x.1 i)) mine)
    (λ (x : (j ≢ port) × (get_elem? views j ≡ some u)). others j u x.0 x.1)
    (at_set views port j w u e)

pub begins : HoldsTasks [] (owner_notes 0 0 [] ∷ [])
begins = (owner_notes 0 0 [], [], refl, tt, Tally-begins got_of (owner_notes 0 0 []) refl, one)
  where
    one : (port : ℕ) (v : DequeNotes) → get_elem? (owner_notes 0 0 [] ∷ []) port ≡ some v → Knows (owner_notes 0 0 []) port v
    one zero v e = subst (Knows (owner_notes 0 0 []) 0) (some-injective _ _ e) ((λ _. (refl, (refl, refl, refl, refl, refl))), λ n ns q. absurd (none_at n ns q))
    one (suc port) v e = absurd (some-ne-none v (sym e))

AllFit-snoc : (n : ℕ) (ts : List Task) (t : Task) → AllFit n ts → Fit n t → AllFit n (ts ++ t ∷ [])
AllFit-snoc n [] t h f = (f, tt)
AllFit-snoc n (x ∷ xs) t h f = (h.0, AllFit-snoc n xs t h.1 f)

AllFit-right : (n : ℕ) (xs ys : List Task) → AllFit n (xs ++ ys) → AllFit n ys
AllFit-right n [] ys h = h
AllFit-right n (x ∷ xs) ys h = AllFit-right n xs ys h.1

AllFit-left : (n : ℕ) (xs ys : List Task) → AllFit n (xs ++ ys) → AllFit n xs
AllFit-left n [] ys h = tt
AllFit-left n (x ∷ xs) ys h = (h.0, AllFit-left n xs ys h.1)

-- before there is a hand
fresh : (items : List Task) (views : List DequeNotes) (n : ℕ) (put : List Cube) (h : HoldsTasks items views) → get_elem? views 0 ≡ some (owner_notes n 0 put) → (h.1 ≡ []) × (cubes items ≡ put) × (h.0.vars ≡ n) × (h.0.made ≡ 0)
fresh items views n put h at =
    let mine = (h.5 0 (owner_notes n 0 put) at).0 refl in
    let none : h.1 ≡ [] = entries-none h.1 (λ k. h.4.1 k (let e : 0 ≡ h.0.made = mine.1.1 in omega arith)) in
    let g = mine.1 in (
      none,
      ap (λ (l : List Cube). l ++ cubes items) g.4 ∙ ap (λ (o : List (ℕ × Cube)). map (λ e. e.1) o ++ (h.0.left ++ cubes items)) (sym none) ∙ h.2 ∙ ap (λ (l : List Cube). l ++ h.0.put) (sym g.2) ∙ sym g.3,
      sym g.0,
      sym g.1,
    )

-- a change of the one view there is
refresh : (items : List Task) (views : List DequeNotes) (n : ℕ) (put : List Cube) (h : HoldsTasks items views) → get_elem? views 0 ≡ some (owner_notes n 0 put) → (m : ℕ) (now : List Task) → AllFit m now → HoldsTasks now (set views 0 (owner_notes m 0 (cubes now)))
refresh items views n put h at m now fit =
    let f = fresh items views n put h at in
    let w = owner_notes m 0 (cubes now) in (
      w,
      [],
      refl,
      fit,
      subst (λ (y : ℕ × List (ℕ × Cube)). Tally got_of y.0 y.1 (set views 0 w)) (λ i. (f.3 i, f.0 i)) (Tally-same got_of h.0.made h.1 views 0 (owner_notes n 0 put) w at refl h.4),
      knows_set w w views 0 w
          (λ j u other e. ((λ p. absurd (other ((h.5 j u e).0 p).0)), λ k ks q. absurd (let lt = (Tally-learns got_of h.0.made h.1 views j u 0 k e (ap (λ (l : List (ℕ × List Cube)). get_elem? l 0) q) h.4).0 in let z = f.3 in omega arith)))
          ((λ _. (refl, (refl, refl, refl, refl, refl))), λ k ks q. absurd (none_at k ks q)),
    )

no_cubes : (ts : List Task) → cubes ts ≡ [] → ts ≡ []
no_cubes [] e = refl
no_cubes (t ∷ ts) e = absurd (cc)

cubes-append : (a b : List Task) → cubes (a ++ b) ≡ cubes a ++ cubes b
cubes-append [] bs = refl
cubes-append (t ∷ ts) bs = ap (λ (l : List Cube). t.cube ∷ l) (cubes-append ts bs)

pub marks : (x : Task) → Fit x.vars x → Pushes HoldsTasks 0 (owner_notes 0 0 []) (x ∷ []) (Marked (owner_notes 0 0 []) (x ∷ []))
marks x fit items views h at =
    let f = fresh items views 0 [] h at in
    (owner_notes x.vars 0 (x.cube ∷ []), subst (λ (l : List Task). HoldsTasks (l ++ x ∷ []) (set views 0 (owner_notes x.vars 0 (x.cube ∷ [])))) (sym (no_cubes items f.1)) (refresh items views 0 [] h at x.vars (x ∷ []) (fit, tt)), refl)

pub unmarks : (n : ℕ) (x : Cube) → Takes HoldsTasks 0 (owner_notes n 0 (x ∷ [])) 1 (λ xs w. w ≡ owner_notes n 0 [])
unmarks n x xs items views some_task one_task h at =
    let f = fresh (xs ++ items) views n (x ∷ []) h at in
    (owner_notes n 0 [], subst (λ (l : List Task). HoldsTasks l (set views 0 (owner_notes n 0 []))) (sym (rest xs items some_task f.1)) (refresh (xs ++ items) views n (x ∷ []) h at n [] tt), refl)
  where
    rest : (ys zs : List Task) → 0 < length ys → cubes (ys ++ zs) ≡ x ∷ [] → zs ≡ []
    rest [] zs lt e = absurd (omega arith)
    rest (y ∷ []) zs lt e = no_cubes zs (cc)
    rest (y ∷ z ∷ ys) zs lt e = absurd (cc)

pub finds_mark : (n : ℕ) (x : Cube) → Finds HoldsTasks 0 (owner_notes n 0 (x ∷ [])) ⊥
finds_mark n x views h at = let f = fresh [] views n (x ∷ []) h at in none_at x [] f.1

pub nexts : (port : ℕ) (v : DequeNotes) → v.is_owner ≡ true → v.left ≡ [] → Forks HoldsTasks port v (record v { made = v.made + 1 }) (thief_notes v.vars v.made)
nexts port v is_owner left items views h at =
    let mine = (h.5 port v at).0 is_owner in
    let l : DequeNotes = record v { made = v.made + 1 } in
    let r : DequeNotes = thief_notes v.vars v.made in
    let c : DequeNotes = record h.0 { made = h.0.made + 1 } in
    let g = mine.1 in (
      c,
      h.1,
      h.2,
      h.3,
      Tally-forks got_of h.0.made h.1 views port v l r at refl (ap (λ (k : ℕ). (k, []) ∷ []) g.1) h.4,
      λ j u e. ⊎_elim
          (λ (was : get_elem? (set views port l) j ≡ some u). knows_set h.0 c views port l
          (λ i y other q. ((λ p. absurd (other (((h.5 i y q).0 p).0 ∙ sym mine.0))), (h.5 i y q).1))
          ((λ _. (mine.0, (g.0, ap (λ (k : ℕ). k + 1) g.1, g.2, g.3, g.4))), (h.5 port v at).1) j u was)
          (λ (is : r ≡ u). subst (Knows c j) is ((λ p. off p), λ n ns q. (g.0, λ _. sym g.4 ∙ left)))
          (at_snoc (set views port l) r u j e),
    )

pub merges : (port : ℕ) (v : DequeNotes) (other : ℕ) (u : DequeNotes) → v.is_owner ≡ true → Merges HoldsTasks port v other u (merged v u) spent
merges port v other u is_owner items views h at apart there =
    let mine = (h.5 port v at).0 is_owner in
    let b : DequeNotes = merged v u in
    let g = mine.1 in (
      h.0,
      h.1,
      h.2,
      h.3,
      Tally-merges got_of h.0.made h.1 views port v other u b spent at apart there refl refl h.4,
      knows_set h.0 h.0 (set views port b) other spent
          (λ j y _ e. knows_set h.0 h.0 views port b (λ i z _ q. h.5 i z q) ((λ _. mine), λ n ns q. (g.0, λ p. off (sym p ∙ is_owner))) j y e)
          ((λ p. off p), λ n ns q. absurd (none_at n ns q)),
    )

snoc_right : (a b c d : List Cube) → a ++ (b ++ c) ≡ d → (x : List Cube) → a ++ (b ++ (c ++ x)) ≡ d ++ x
snoc_right a b c d e x = ap (λ (l : List Cube). a ++ l) (sym (append_assoc b c x)) ∙ sym (append_assoc a (b ++ c) x) ∙ ap (λ (l : List Cube). l ++ x) e

pub puts : (port : ℕ) (v : DequeNotes) (x : Task) → v.is_owner ≡ true → Fit v.vars x → Pushes HoldsTasks port v (x ∷ []) (λ w. w ≡ record v { put = v.put ++ x.cube ∷ [] })
puts port v x is_owner fit items views h at =
    let mine = (h.5 port v at).0 is_owner in
    let w : DequeNotes = record v { put = v.put ++ x.cube ∷ [] } in
    let c : DequeNotes = record h.0 { put = h.0.put ++ x.cube ∷ [] } in
    let g = mine.1 in (
      w,
      (
        c,
        h.1,
        ap (λ (l : List Cube). map (λ e. e.1) h.1 ++ (h.0.left ++ l)) (cubes-append items (x ∷ [])) ∙ snoc_right (map (λ e. e.1) h.1) h.0.left (cubes items) (h.0.roots ++ h.0.put) h.2 (x.cube ∷ []) ∙ append_assoc h.0.roots h.0.put (x.cube ∷ []),
        AllFit-snoc h.0.vars items x h.3 (subst (λ (n : ℕ). Fit n x) g.0 fit),
        Tally-same got_of h.0.made h.1 views port v w at refl h.4,
        knows_set h.0 c views port w
            (λ j u other e. ((λ p. absurd (other (((h.5 j u e).0 p).0 ∙ sym mine.0))), (h.5 j u e).1))
            ((λ _. (mine.0, (g.0, g.1, g.2, ap (λ (l : List Cube). l ++ x.cube ∷ []) g.3, g.4))), (h.5 port v at).1),
      ),
      refl,
    )

pub puts_root : (port : ℕ) (v : DequeNotes) (x : Task) → v.is_owner ≡ true → v.put ≡ [] → Fit v.vars x → Pushes HoldsTasks port v (x ∷ []) (λ w. w ≡ record v { roots = v.roots ++ x.cube ∷ [] })
puts_root port v x is_owner none fit items views h at =
    let mine = (h.5 port v at).0 is_owner in
    let w : DequeNotes = record v { roots = v.roots ++ x.cube ∷ [] } in
    let c : DequeNotes = record h.0 { roots = h.0.roots ++ x.cube ∷ [] } in
    let g = mine.1 in
    let nothing : h.0.put ≡ [] = sym g.3 ∙ none in (
      w,
      (
        c,
        h.1,
        ap (λ (l : List Cube). map (λ e. e.1) h.1 ++ (h.0.left ++ l)) (cubes-append items (x ∷ [])) ∙ snoc_right (map (λ e. e.1) h.1) h.0.left (cubes items) (h.0.roots ++ h.0.put) h.2 (x.cube ∷ []) ∙ ap (λ (l : List Cube). (h.0.roots ++ l) ++ x.cube ∷ []) nothing ∙ ap (λ (l : List Cube). l ++ x.cube ∷ []) (append-nil h.0.roots) ∙ sym (append-nil (h.0.roots ++ x.cube ∷ [])) ∙ ap (λ (l : List Cube). (h.0.roots ++ x.cube ∷ []) ++ l) (sym nothing),
        AllFit-snoc h.0.vars items x h.3 (subst (λ (n : ℕ). Fit n x) g.0 fit),
        Tally-same got_of h.0.made h.1 views port v w at refl h.4,
        knows_set h.0 c views port w
            (λ j u other e. ((λ p. absurd (other (((h.5 j u e).0 p).0 ∙ sym mine.0))), (h.5 j u e).1))
            ((λ _. (mine.0, (g.0, g.1, ap (λ (l : List Cube). l ++ x.cube ∷ []) g.2, g.3, g.4))), (h.5 port v at).1),
      ),
      refl,
    )

map-snoc : (order : List (ℕ × Cube)) (k : ℕ) (x : Cube) → map (λ e. e.1) (order ++ (k, x) ∷ []) ≡ map (λ e. e.1) order ++ x ∷ []
map-snoc [] k x = refl
map-snoc (e ∷ es) k x = ap (λ (l : List Cube). e.1 ∷ l) (map-snoc es k x)

-- a view with notes, and nothing left over, shows that nothing is
left_none : (b v : DequeNotes) (port : ℕ) (n : ℕ × List Cube) (ns : List (ℕ × List Cube)) → Knows b port v → v.got ≡ n ∷ ns → v.left ≡ [] → b.left ≡ []
left_none b v port n ns h is left = by_boss v.is_owner refl
  where
    by_boss : (a : Bool) → v.is_owner ≡ a → b.left ≡ []
    by_boss true p = sym (h.0 p).1.4 ∙ left
    by_boss false p = (h.1 n ns is).1 p

one_of : (xs : List Task) → 0 < length xs → length xs < 2 → (x : Task) × (xs ≡ x ∷ [])
one_of [] a b = absurd (omega arith)
one_of (x ∷ []) a b = (x, refl)
one_of (x ∷ y ∷ xs) a b = absurd (omega arith)

pub gets : (port : ℕ) (v : DequeNotes) (k : ℕ) (ys : List Cube) (ns : List (ℕ × List Cube)) → v.got ≡ (k, ys) ∷ ns → v.left ≡ [] → Takes HoldsTasks port v 1 (λ xs w. (w ≡ noted v xs) × AllFit v.vars xs)
gets port v k ys ns is left xs items views some_task one_task h at =
    let one = one_of xs some_task one_task in
    subst (λ (l : List Task). (w : DequeNotes) × HoldsTasks items (set views port w) × ((w ≡ noted v l) × AllFit v.vars l)) (sym one.1) (got one.0 (subst (λ (l : List Task). HoldsTasks (l ++ items) views) one.1 h))
  where
    got : (x : Task) → HoldsTasks (x ∷ items) views → (w : DequeNotes) × HoldsTasks items (set views port w) × ((w ≡ noted v (x ∷ [])) × AllFit v.vars (x ∷ []))
    got x h =
        let w : DequeNotes = noted v (x ∷ []) in
        let now : w.got ≡ (k, ys ++ x.cube ∷ []) ∷ ns = ap (with_more (x.cube ∷ [])) is in
        let mine = h.5 port v at in
        let nothing = left_none h.0 v port (k, ys) ns mine is left in
        let vars = (mine.1 (k, ys) ns is).0 in (
          w,
          (
            h.0,
            h.1 ++ (k, x.cube) ∷ [],
            ap (λ (l : List Cube). l ++ (h.0.left ++ cubes items)) (map-snoc h.1 k x.cube) ∙ append_assoc (map (λ e. e.1) h.1) (x.cube ∷ []) (h.0.left ++ cubes items)
                ∙ ap (λ (l : List Cube). map (λ e. e.1) h.1 ++ (x.cube ∷ (l ++ cubes items))) nothing ∙ ap (λ (l : List Cube). map (λ e. e.1) h.1 ++ (l ++ (x.cube ∷ cubes items))) (sym nothing) ∙ h.2,
            h.3.1,
            Tally-adds got_of h.0.made h.1 views port v w k ys ns x.cube at is now h.4,
            knows_set h.0 h.0 views port w (λ j u _ e. h.5 j u e) (mine.0, λ n l q. mine.1 (k, ys) ns is),
          ),
          (refl, (subst (λ (n : ℕ). Fit n x) (sym vars) h.3.0, tt)),
        )

pub drains : (port : ℕ) (v : DequeNotes) → v.is_owner ≡ true → Whole v → Takes HoldsTasks port v 1 (λ xs w. (w ≡ record v { left = v.left ++ cubes xs }) × AllFit v.vars xs)
drains port v is_owner whole xs items views some_task one_task h at =
    let mine = (h.5 port v at).0 is_owner in
    let w : DequeNotes = record v { left = v.left ++ cubes xs } in
    let c : DequeNotes = record h.0 { left = h.0.left ++ cubes xs } in
    let g = mine.1 in (
      w,
      (
        c,
        h.1,
        ap (λ (l : List Cube). map (λ e. e.1) h.1 ++ l) (append_assoc h.0.left (cubes xs) (cubes items) ∙ ap (λ (l : List Cube). h.0.left ++ l) (sym (cubes-append xs items))) ∙ h.2,
        AllFit-right h.0.vars xs items h.3,
        Tally-same got_of h.0.made h.1 views port v w at refl h.4,
        knows_set h.0 c views port w
            (λ j u other e. ((λ p. absurd (other (((h.5 j u e).0 p).0 ∙ sym mine.0))), λ n ns q. (((h.5 j u e).1 n ns q).0, λ _. absurd (other (lone j u n ns e q)))))
            ((λ _. (mine.0, (g.0, g.1, g.2, g.3, ap (λ (l : List Cube). l ++ cubes xs) g.4))), λ n ns q. (g.0, λ p. off (sym p ∙ is_owner))),
      ),
      (refl, subst (λ (n : ℕ). AllFit n xs) (sym g.0) (AllFit-left h.0.vars xs items h.3)),
    )
  where
    lone : (j : ℕ) (u : DequeNotes) (n : ℕ × List Cube) (ns : List (ℕ × List Cube)) → get_elem? views j ≡ some u → u.got ≡ n ∷ ns → j ≡ port
    lone j u n ns e q =
        let theirs = h.4.2 j u e 0 n (ap (λ (l : List (ℕ × List Cube)). get_elem? l 0) q) in
        let g = ((h.5 port v at).0 is_owner).1 in
        let here = whole n.0 (subst (λ (m : ℕ). n.0 < m) (sym g.1) theirs.1) in
        let ours = h.4.2 port v at here.0 (n.0, here.1) here.2 in
        ap (λ (z : ℕ × ℕ). z.0) (sym theirs.0 ∙ ours.0)

pub finds : (port : ℕ) (v : DequeNotes) → v.is_owner ≡ true → Finds HoldsTasks port v (Emptied v)
finds port v is_owner views h at =
    let g = ((h.5 port v at).0 is_owner).1 in (
      h.1,
      ap (λ (l : List Cube). map (λ e. e.1) h.1 ++ l) (g.4 ∙ sym (append-nil h.0.left)) ∙ h.2 ∙ ap (λ (l : List Cube). l ++ h.0.put) (sym g.2) ∙ ap (λ (l : List Cube). v.roots ++ l) (sym g.3),
      (λ k le. h.4.1 k (subst (λ (m : ℕ). m ≤ k) g.1 le)),
      λ i n there. (Tally-learns got_of h.0.made h.1 views port v i n at there h.4).1,
    )

-- the same as a thief sees it
pub misses : (port : ℕ) (v : DequeNotes) (n : ℕ × List Cube) (ns : List (ℕ × List Cube)) → v.got ≡ n ∷ ns → v.left ≡ [] → FindsFew HoldsTasks 0 port v (EmptyThen v)
misses port v n ns is left items views few h at =
    let nothing = left_none h.0 v port n ns (h.5 port v at) is left in (
      h.0.roots ++ h.0.put,
      h.1,
      sym (append-nil (map (λ e. e.1) h.1)) ∙ ap (λ (l : List Cube). map (λ e. e.1) h.1 ++ l) (sym (ap (λ (l : List Cube). l ++ cubes items) nothing ∙ none_left items few)) ∙ h.2,
      λ i m there. (Tally-learns got_of h.0.made h.1 views port v i m at there h.4).1,
    )
  where
    none_left : (l : List Task) → length l ≤ 0 → cubes l ≡ []
    none_left [] le = refl
    none_left (x ∷ xs) le = absurd (omega arith)

-- the first moves, at a worker that is known
pub marks_as : (port : ℕ) (v : DequeNotes) (x : Task) → port ≡ 0 → v ≡ owner_notes 0 0 [] → Fit x.vars x → Pushes HoldsTasks port v (x ∷ []) (Marked v (x ∷ []))
marks_as port v x at is fit = subst (λ (y : ℕ × DequeNotes). Pushes HoldsTasks y.0 y.1 (x ∷ []) (Marked y.1 (x ∷ []))) (λ i. (sym at i, sym is i)) (marks x fit)

pub unmarks_as : (port : ℕ) (v : DequeNotes) (n : ℕ) (x : Cube) → port ≡ 0 → v ≡ owner_notes n 0 (x ∷ []) → Takes HoldsTasks port v 1 (λ xs w. w ≡ owner_notes v.vars 0 [])
unmarks_as port v n x at is = subst (λ (y : ℕ × DequeNotes). Takes HoldsTasks y.0 y.1 1 (λ xs w. w ≡ owner_notes y.1.vars 0 [])) (λ i. (sym at i, sym is i)) (unmarks n x)

pub finds_mark_as : (port : ℕ) (v : DequeNotes) (n : ℕ) (x : Cube) → port ≡ 0 → v ≡ owner_notes n 0 (x ∷ []) → Finds HoldsTasks port v ⊥
finds_mark_as port v n x at is = subst (λ (y : ℕ × DequeNotes). Finds HoldsTasks y.0 y.1 ⊥) (λ i. (sym at i, sym is i)) (finds_mark n x)

pub misses_as : (few port : ℕ) (v : DequeNotes) (n : ℕ × List Cube) (ns : List (ℕ × List Cube)) → few ≡ 0 → v.got ≡ n ∷ ns → v.left ≡ [] → FindsFew HoldsTasks (min few 1) port v (EmptyThen v)
misses_as few port v n ns is got left = subst (λ (k : ℕ). FindsFew HoldsTasks (min k 1) port v (EmptyThen v)) (sym is) (misses port v n ns got left)

fronts : (port : ℕ) (v : DequeNotes) (xs items : List Task) (views : List DequeNotes) → v.is_owner ≡ true → HoldsTasks (xs ++ items) views → get_elem? views port ≡ some v → Fronts v (cubes xs)
fronts port v xs items views is_owner h at =
    let g = ((h.5 port v at).0 is_owner).1 in (
      h.1,
      cubes items,
      ap (λ (l : List Cube). map (λ e. e.1) h.1 ++ (l ++ (cubes xs ++ cubes items))) g.4 ∙ ap (λ (l : List Cube). map (λ e. e.1) h.1 ++ (h.0.left ++ l)) (sym (cubes-append xs items)) ∙ h.2
          ∙ ap (λ (l : List Cube). l ++ h.0.put) (sym g.2) ∙ ap (λ (l : List Cube). v.roots ++ l) (sym g.3),
      (λ k le. h.4.1 k (subst (λ (m : ℕ). m ≤ k) g.1 le)),
      λ i n there. (Tally-learns got_of h.0.made h.1 views port v i n at there h.4).1,
    )

-- the owner takes, and learns that it was the front
pub takes : (port : ℕ) (v : DequeNotes) (k : ℕ) (ys : List Cube) (ns : List (ℕ × List Cube)) → v.is_owner ≡ true → v.got ≡ (k, ys) ∷ ns → v.left ≡ [] → Takes HoldsTasks port v 1 (λ xs w. (w ≡ noted v xs) × AllFit v.vars xs × Fronts v (cubes xs))
takes port v k ys ns is_owner is left xs items views some_task one_task h at =
    let g = gets port v k ys ns is left xs items views some_task one_task h at in (g.0, g.1, (g.2.0, g.2.1, fronts port v xs items views is_owner h at))

-- a guest may come
pub admits : Admits HoldsTasks spent
admits items views h = (h.0, h.1, h.2, h.3, Tally-guest got_of h.0.made h.1 views spent refl h.4, λ j u e. ⊎_elim (h.5 j u) (λ (is : spent ≡ u). subst (Knows h.0 j) is ((λ p. off p), λ n ns q. absurd (none_at n ns q))) (at_snoc views spent u j e))

-- the last takes, which end since each is one of the cubes that were put
pub drains_front : (port : ℕ) (v : DequeNotes) → v.is_owner ≡ true → Whole v → Takes HoldsTasks port v 1 (λ xs w. (w ≡ record v { left = v.left ++ cubes xs }) × AllFit v.vars xs × Fronts v (cubes xs))
drains_front port v is_owner whole xs items views some_task one_task h at =
    let g = drains port v is_owner whole xs items views some_task one_task h at in (g.0, g.1, (g.2.0, g.2.1, fronts port v xs items views is_owner h at))
