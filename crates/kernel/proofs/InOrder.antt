-- Unit clauses that wait in a queue, in the order in which they go, and in a heap.
use Rattle.std.proofs.Common.{◌≡◌, ℕ, suc, zero, ◌+◌, ◌<◌, ◌≤◌, List, [], ◌∷◌, ◌++◌, drop, take, length, get_or, All, Option, Some, None, IfSome, sym, subst, ap, arith, ◌∙◌, ◌-◌, inl, inr, refl}
use Rattle.std.specs.List.{Contains}
use Rattle.std.proofs.Math.Seq.{drop-nil}
use Rattle.std.proofs.lemmas.List.{get_or-drop, get_or-take, length-drop, length-take, get_or_default}
use Rattle.std.specs.Prelude.{insert}
use Rattle.std.proofs.lemmas.List.Elements.{All-append, All-weaker}
use Rattle.kernel.specs.declared.units.unit_queue.Waiting.{Waiting}
use Rattle.kernel.specs.Placing.{GoesFirst, AreInOrder}

pub GoesFirst-trans : (a b c : Waiting) → GoesFirst a b → GoesFirst b c → GoesFirst a c
GoesFirst-trans a b c (inl h) (inl k) = inl (omega (arith, h, k))
GoesFirst-trans a b c (inl h) (inr k) = let x = k.0 in inl (omega (arith, h, x))
GoesFirst-trans a b c (inr h) (inl k) = let x = h.0 in inl (omega (arith, x, k))
GoesFirst-trans a b c (inr h) (inr k) = let x = h.1 in let y = k.1 in inr (h.0 ∙ k.0, omega (arith, x, y))

goes-itself : (a : Waiting) → GoesFirst a a
goes-itself a = inr (refl, omega arith)

-- what goes behind x goes behind what goes before x
pub All-behind : (w x : Waiting) (ws : List Waiting) → GoesFirst w x → All (λ v. GoesFirst x v) ws → All (λ v. GoesFirst w v) ws
All-behind w x ws h all = All-weaker (λ v. GoesFirst x v) (λ v. GoesFirst w v) (λ v f. GoesFirst-trans w x v h f) ws all

-- all but the first
pub drop-next : {X : Type 0} (h : ℕ) (ws : List X) → drop (h + 1) ws ≡ drop 1 (drop h ws)
drop-next zero [] = refl
drop-next zero (w ∷ ws) = refl
drop-next (suc h) [] = drop-nil (suc h + 1)
drop-next (suc h) (w ∷ ws) = let up : suc h + 1 ≡ suc (h + 1) = omega arith in rw up (drop-next h ws)

pub AreInOrder-next : (ws : List Waiting) → AreInOrder ws → AreInOrder (drop 1 ws)
AreInOrder-next [] h = tt
AreInOrder-next (w ∷ ws) h = h.1

-- one more at the end, behind all others
pub AreInOrder-push : (ws : List Waiting) (w : Waiting) → AreInOrder ws → All (λ v. GoesFirst v w) ws → AreInOrder (ws ++ w ∷ [])
AreInOrder-push [] w h all = ((λ k d l. absurd (omega (arith, l))), tt)
AreInOrder-push (x ∷ ws) w h all =
    (All-append (λ v. GoesFirst x v) ws (w ∷ []) h.0 one, AreInOrder-push ws w h.1 (λ k d l. all (suc k) d (omega (arith, l))))
  where
    here : GoesFirst x w
    here = all 0 w (omega arith)

    one : All (λ v. GoesFirst x v) (w ∷ [])
    one zero d l = here
    one (suc k) d l = absurd (omega (arith, l))

-- all go before the last one
before-last : (ws : List Waiting) (n : ℕ) (d x : Waiting) → AreInOrder ws → length ws ≡ n + 1 → x ≡ get_or ws n d → All (λ v. GoesFirst v x) ws
before-last [] n d x h long e = absurd (omega (arith, long))
before-last (w ∷ []) zero d x h long e = one
  where
    one : All (λ v. GoesFirst v x) (w ∷ [])
    one zero c l = subst (λ (v : Waiting). GoesFirst v x) e (goes-itself x)
    one (suc k) c l = absurd (omega (arith, l))
before-last (w ∷ []) (suc n) d x h long e = absurd (omega (arith, long))
before-last (w ∷ v ∷ ws) zero d x h long e = absurd (omega (arith, long))
before-last (w ∷ v ∷ ws) (suc n) d x h long e = one (before-last (v ∷ ws) n d x h.1 (omega (arith, long)) e)
  where
    one : All (λ y. GoesFirst y x) (v ∷ ws) → All (λ y. GoesFirst y x) (w ∷ v ∷ ws)
    one rest zero c l = subst (λ (y : Waiting). GoesFirst w y) (sym e) (h.0 n d (omega (arith, long)))
    one rest (suc k) c l = rest k c (omega (arith, l))

pub before-next : (head : ℕ) (ws : List Waiting) (d last w : Waiting) → head < length ws → last ≡ get_or ws (length ws - 1) d → AreInOrder (drop head ws) → GoesFirst last w → All (λ v. GoesFirst v w) (drop head ws)
before-next head ws d last w inside is order h =
    All-weaker (λ v. GoesFirst v last) (λ v. GoesFirst v w) (λ v f. GoesFirst-trans v last w f h) (drop head ws)
    (before-last (drop head ws) (length ws - 1 - head) d last order (let e = length-drop head ws in omega (arith, e, inside)) same)
  where
    at : head + (length ws - 1 - head) ≡ length ws - 1
    at = omega (arith, inside)

    same : last ≡ get_or (drop head ws) (length ws - 1 - head) d
    same = is ∙ ap (λ k. get_or ws k d) (sym at) ∙ sym (get_or-drop head ws (length ws - 1 - head) d)

in-order-at : (ws : List Waiting) (i j : ℕ) (d : Waiting) → AreInOrder ws → i ≤ j → j < length ws → GoesFirst (get_or ws i d) (get_or ws j d)
in-order-at [] i j d h le lt = absurd (omega (arith, lt))
in-order-at (w ∷ ws) zero zero d h le lt = goes-itself w
in-order-at (w ∷ ws) zero (suc j) d h le lt = h.0 j d (omega (arith, lt))
in-order-at (w ∷ ws) (suc i) zero d h le lt = absurd (omega (arith, le))
in-order-at (w ∷ ws) (suc i) (suc j) d h le lt = in-order-at ws i j d h.1 (omega (arith, le)) (omega (arith, lt))

-- what stands before one that goes before w goes before w
pub before-place : (head at : ℕ) (ws : List Waiting) (last w : Waiting) → head < at → at ≤ length ws → last ≡ get_or ws (at - 1) last → AreInOrder (drop head ws) → GoesFirst last w
    → (k : ℕ) (d : Waiting) → head ≤ k → k < at → GoesFirst (get_or ws k d) w
before-place head at ws last w some inside is order h k d low high = GoesFirst-trans (get_or ws k d) last w (subst (λ (v : Waiting). GoesFirst (get_or ws k d) v) there (subst (λ (v : Waiting). GoesFirst v (get_or (drop head ws) (at - 1 - head) d)) here goes)) h
  where
    long : length (drop head ws) ≡ length ws - head
    long = length-drop head ws

    goes : GoesFirst (get_or (drop head ws) (k - head) d) (get_or (drop head ws) (at - 1 - head) d)
    goes = in-order-at (drop head ws) (k - head) (at - 1 - head) d order (omega (arith, low, high)) (omega (arith, some, inside, long))

    back : head + (k - head) ≡ k
    back = omega (arith, low)

    last-back : head + (at - 1 - head) ≡ at - 1
    last-back = omega (arith, some)

    here : get_or (drop head ws) (k - head) d ≡ get_or ws k d
    here = get_or-drop head ws (k - head) d ∙ ap (λ n. get_or ws n d) back

    there : get_or (drop head ws) (at - 1 - head) d ≡ last
    there = get_or-drop head ws (at - 1 - head) d ∙ ap (λ n. get_or ws n d) last-back ∙ get_or_default ws (at - 1) d last (omega (arith, some, inside)) ∙ sym is

All-cons : (P : Waiting → Type 0) (x : Waiting) (xs : List Waiting) → P x → All P xs → All P (x ∷ xs)
All-cons P x xs h t zero d l = h
All-cons P x xs h t (suc k) d l = t k d (omega (arith, l))

All-put : (P : Waiting → Type 0) (ws : List Waiting) (p : ℕ) (w : Waiting) → P w → All P ws → All P (insert ws p w)
All-put P ws zero w h all = All-cons P w ws h all
All-put P [] (suc p) w h all = All-cons P w [] h all
All-put P (x ∷ ws) (suc p) w h all = All-cons P x (insert ws p w) (all 0 x (omega arith)) (All-put P ws p w h (λ k d l. all (suc k) d (omega (arith, l))))

-- one more between what goes before it and what goes behind it
AreInOrder-put : (ws : List Waiting) (p : ℕ) (w : Waiting) → AreInOrder ws → All (λ v. GoesFirst v w) (take p ws) → All (λ v. GoesFirst w v) (drop p ws) → AreInOrder (insert ws p w)
AreInOrder-put ws zero w h before after = (after, h)
AreInOrder-put [] (suc p) w h before after = (after, tt)
AreInOrder-put (x ∷ ws) (suc p) w h before after =
    (All-put (λ v. GoesFirst x v) ws p w (before 0 x (omega arith)) h.0, AreInOrder-put ws p w h.1 (λ k d l. before (suc k) d (omega (arith, l))) after)

pub insert-behind : (head p : ℕ) (ws : List Waiting) (w : Waiting) → head ≤ p → p ≤ length ws → drop head (insert ws p w) ≡ insert (drop head ws) (p - head) w
insert-behind zero p ws w low high = let e : p - 0 ≡ p = omega arith in ap (insert ws p) refl ∙ ap (λ n. insert ws n w) (sym e)
insert-behind (suc head) zero ws w low high = absurd (omega (arith, low))
insert-behind (suc head) (suc p) [] w low high = absurd (omega (arith, high))
insert-behind (suc head) (suc p) (x ∷ ws) w low high =
    let e : p - head ≡ suc p - suc head = omega arith in
    insert-behind head p ws w (omega (arith, low)) (omega (arith, high)) ∙ ap (λ n. insert (drop head ws) n w) e

-- the same in a queue of which some were taken out
pub AreInOrder-insert : (head p : ℕ) (ws : List Waiting) (w : Waiting) → head ≤ p → p ≤ length ws → AreInOrder (drop head ws)
    → ((k : ℕ) (d : Waiting) → head ≤ k → k < p → GoesFirst (get_or ws k d) w) → ((k : ℕ) (d : Waiting) → p ≤ k → k < length ws → GoesFirst w (get_or ws k d)) → AreInOrder (insert (drop head ws) (p - head) w)
AreInOrder-insert head p ws w low high order before after = AreInOrder-put (drop head ws) (p - head) w order front rest
  where
    long : length (drop head ws) ≡ length ws - head
    long = length-drop head ws

    front : All (λ v. GoesFirst v w) (take (p - head) (drop head ws))
    front k d l =
        let count = length-take (p - head) (drop head ws) in
        let less : k < p - head = omega (arith, l, count) in
        subst (λ (v : Waiting). GoesFirst v w) (sym (get_or-take (p - head) (drop head ws) k d less ∙ get_or-drop head ws k d)) (before (head + k) d (omega arith) (omega (arith, less)))

    rest : All (λ v. GoesFirst w v) (drop (p - head) (drop head ws))
    rest k d l =
        let count = length-drop (p - head) (drop head ws) in
        subst (λ (v : Waiting). GoesFirst w v) (sym (get_or-drop (p - head) (drop head ws) k d ∙ get_or-drop head ws (p - head + k) d)) (after (head + (p - head + k)) d (omega (arith, low)) (omega (arith, l, count, long, low, high)))

-- one of the heap that goes before the first of the queue
pub first-unheaped : (o : Option Waiting) (q h : List Waiting) (m first : Waiting) → Contains h m → GoesFirst m first → All (λ v. GoesFirst first v) q → IfSome o (λ w. All (λ v. GoesFirst w v) h) → IfSome o (λ w. All (λ v. GoesFirst w v) (q ++ h))
first-unheaped None q h m first there before queue all = tt
first-unheaped (Some w) q h m first there before queue all =
    let here : GoesFirst w m = subst (λ (v : Waiting). GoesFirst w v) there.2 (all there.0 m there.1) in
    All-append (λ v. GoesFirst w v) q h (All-behind w first q (GoesFirst-trans w m first here before) queue) all

-- the first of the queue, where none of the heap goes before it
pub first-queued : (o : Option Waiting) (q h : List Waiting) (first : Waiting) → Contains q first → All (λ v. GoesFirst first v) h → IfSome o (λ w. All (λ v. GoesFirst w v) q) → IfSome o (λ w. All (λ v. GoesFirst w v) (q ++ h))
first-queued None q h first there heap all = tt
first-queued (Some w) q h first there heap all =
    let here : GoesFirst w first = subst (λ (v : Waiting). GoesFirst w v) there.2 (all there.0 first there.1) in
    All-append (λ v. GoesFirst w v) q h all (All-behind w first h here heap)
