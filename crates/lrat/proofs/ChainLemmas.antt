-- Chains of places: one more entry, a link set past entries.
use Rattle.std.proofs.Common.{◌≡◌, ◌≢◌, ℕ, zero, suc, ◌+◌, ◌<◌, ◌≤◌, Bool, true, false, List, [], ◌∷◌, ◌++◌, length, get_or, take, replicate, nat_eq, eqb-true, eq-eqb, refl, ap, sym, subst, ◌∙◌, slice_set, arith, get_or-set_other, get_or-set_same}
use Rattle.std.proofs.lemmas.List.{get_or_append_left, get_or_push}
use Rattle.lrat.specs.declared.chains.Entry.{Entry}
use Rattle.lrat.specs.Chained.{entry_at, Meets, IsOn, head_at}

-- what was read
pub read : (es : List Entry) (j : ℕ) (e : Entry) → j < length es → e ≡ get_or es j e → e ≡ entry_at es j
read [] j e less r = absurd (omega arith)
read (x ∷ es) zero e less r = r
read (x ∷ es) (suc j) e less r = read es j e (omega arith) r

pub read-head : (hs : List ℕ) (j h : ℕ) → j < length hs → h ≡ get_or hs j h → h ≡ head_at hs j
read-head [] j h less r = absurd (omega arith)
read-head (x ∷ hs) zero h less r = r
read-head (x ∷ hs) (suc j) h less r = read-head hs j h (omega arith) r

-- further chains are empty
zeros : (n k : ℕ) → head_at (replicate n 0) k ≡ 0
zeros zero k = refl
zeros (suc n) zero = refl
zeros (suc n) (suc k) = zeros n k

head-more : (hs : List ℕ) (count n k : ℕ) → length hs ≤ count → head_at (take count hs ++ replicate n 0) k ≡ head_at hs k
head-more [] zero n k less = zeros n k
head-more [] (suc count) n k less = zeros n k
head-more (x ∷ hs) zero n k less = absurd (omega arith)
head-more (x ∷ hs) (suc count) n zero less = refl
head-more (x ∷ hs) (suc count) n (suc k) less = head-more hs count n k (omega arith)

pub more-keeps : (hs gs : List ℕ) (es fs : List Entry) (count n : ℕ) → length hs ≤ count → gs ≡ take count hs ++ replicate n 0 → fs ≡ es → (k i : ℕ) → IsOn es (head_at hs k) i → IsOn fs (head_at gs k) i
more-keeps hs gs es fs count n less grown same k i on =
    subst (λ xs. IsOn xs (head_at gs k) i) (sym same)
    (subst (λ h. IsOn es h i) (sym (ap (λ xs. head_at xs k) grown ∙ head-more hs count n k less)) on)

-- nothing is on a chain at its end
pub not-at-end : (es : List Entry) (i : ℕ) → IsOn es 0 i → ⊥
not-at-end es i (zero, m) = m
not-at-end es i (suc n, m) = m

-- an entry is met, or leads on
IsOn-here : (es : List Entry) (j i : ℕ) → (entry_at es j).place ≡ i → IsOn es (suc j) i
IsOn-here es j i here = (suc zero, λ other. other here)

IsOn-behind : (es : List Entry) (j i : ℕ) → IsOn es (entry_at es j).next i → IsOn es (suc j) i
IsOn-behind es j i on = (suc on.0, λ _. on.1)

-- chains that begin below an index are the same where the entries below it are
Meets-agree : (n : ℕ) (es fs : List Entry) (m link i : ℕ) → ((j : ℕ) → (entry_at es j).next ≤ j) → ((j : ℕ) → j < m → entry_at fs j ≡ entry_at es j)
    → link ≤ m → Meets n es link i → Meets n fs link i
Meets-agree zero es fs m link i down same low h = h
Meets-agree (suc n) es fs m zero i down same low h = h
Meets-agree (suc n) es fs m (suc j) i down same low h = λ other.
    let e = same j (omega arith) in
    let d = down j in
    subst (λ (x : Entry). Meets n fs x.next i) (sym e)
    (Meets-agree n es fs m (entry_at es j).next i down same (omega arith) (h (subst (λ (x : Entry). x.place ≢ i) e other)))

IsOn-agree : (es fs : List Entry) (m link i : ℕ) → ((j : ℕ) → (entry_at es j).next ≤ j) → ((j : ℕ) → j < m → entry_at fs j ≡ entry_at es j) → link ≤ m → IsOn es link i → IsOn fs link i
IsOn-agree es fs m link i down same low on = (on.0, Meets-agree on.0 es fs m link i down same low on.1)

-- one entry more, and the head of its chain
entry-last : (es : List Entry) (e : Entry) → entry_at (es ++ e ∷ []) (length es) ≡ e
entry-last es e = get_or_push es e _ (length es) refl

entry-front : (es : List Entry) (e : Entry) (j : ℕ) → j < length es → entry_at (es ++ e ∷ []) j ≡ entry_at es j
entry-front es e j less = get_or_append_left es (e ∷ []) _ j less

push-keeps : (hs : List ℕ) (es : List Entry) (code : ℕ) (e : Entry) → code < length hs → e.next ≡ head_at hs code → ((j : ℕ) → (entry_at es j).next ≤ j) → ((n : ℕ) → head_at hs n ≤ length es)
    → (n i : ℕ) → IsOn es (head_at hs n) i → IsOn (es ++ e ∷ []) (head_at (slice_set hs code (length es + 1)) n) i
push-keeps hs es code e less next down within n i on = go (nat_eq n code) refl
  where
    kept : IsOn (es ++ e ∷ []) (head_at hs n) i
    kept = IsOn-agree es (es ++ e ∷ []) (length es) (head_at hs n) i down (entry-front es e) (within n) on

    go : (b : Bool) → nat_eq n code ≡ b → IsOn (es ++ e ∷ []) (head_at (slice_set hs code (length es + 1)) n) i
    go true t =
        let same : n ≡ code = eqb-true n code t in
        let head : head_at (slice_set hs code (length es + 1)) n ≡ suc (length es) = ap (head_at (slice_set hs code (length es + 1))) same ∙ (get_or-set_same hs code (length es + 1) 0 less ∙ omega arith) in
        let link : (entry_at (es ++ e ∷ []) (length es)).next ≡ head_at hs n = ap (λ (x : Entry). x.next) (entry-last es e) ∙ (next ∙ ap (head_at hs) (sym same)) in
        subst (λ h. IsOn (es ++ e ∷ []) h i) (sym head) (IsOn-behind (es ++ e ∷ []) (length es) i (subst (λ l. IsOn (es ++ e ∷ []) l i) (sym link) kept))
    go false f =
        let other : n ≢ code = (λ same. let x : true ≡ false = sym (eq-eqb n code same) ∙ f in cc) in
        subst (λ h. IsOn (es ++ e ∷ []) h i) (sym (get_or-set_other hs code n (length es + 1) 0 other)) kept

pub put-keeps : (hs : List ℕ) (es fs : List Entry) (code link : ℕ) (e : Entry) → fs ≡ es ++ e ∷ [] → link ≡ length es + 1 → code < length hs → e.next ≡ head_at hs code → ((j : ℕ) → (entry_at es j).next ≤ j)
    → ((n : ℕ) → head_at hs n ≤ length es) → (n i : ℕ) → IsOn es (head_at hs n) i → IsOn fs (head_at (slice_set hs code link) n) i
put-keeps hs es fs code link e grown is less next down within n i on =
    subst (λ xs. IsOn xs (head_at (slice_set hs code link) n) i) (sym grown)
    (subst (λ l. IsOn (es ++ e ∷ []) (head_at (slice_set hs code l) n) i) (sym is) (push-keeps hs es code e less next down within n i on))

-- a head is set
pub set-within : (hs : List ℕ) (code h m : ℕ) → h ≤ m → ((n : ℕ) → head_at hs n ≤ m) → (n : ℕ) → head_at (slice_set hs code h) n ≤ m
set-within [] code h m low all n = all n
set-within (x ∷ hs) zero h m low all zero = low
set-within (x ∷ hs) zero h m low all (suc n) = all (suc n)
set-within (x ∷ hs) (suc code) h m low all zero = all zero
set-within (x ∷ hs) (suc code) h m low all (suc n) = set-within hs code h m low (λ k. all (suc k)) n

pub head-keeps : (hs : List ℕ) (es : List Entry) (code h i : ℕ) → code < length hs → (IsOn es (head_at hs code) i → IsOn es h i) → (n : ℕ) → IsOn es (head_at hs n) i → IsOn es (head_at (slice_set hs code h) n) i
head-keeps [] es code h i less past n on = on
head-keeps (x ∷ hs) es zero h i less past zero on = past on
head-keeps (x ∷ hs) es zero h i less past (suc n) on = on
head-keeps (x ∷ hs) es (suc code) h i less past zero on = on
head-keeps (x ∷ hs) es (suc code) h i less past (suc n) on = head-keeps hs es code h i (omega arith) past n on

-- the link of an entry is set past some
pub other-set : (es : List Entry) (at k : ℕ) (e : Entry) → k ≢ at → entry_at (slice_set es at e) k ≡ entry_at es k
other-set es at k e apart = get_or-set_other es at k e _ apart

pub this-set : (es : List Entry) (at : ℕ) (e : Entry) → at < length es → entry_at (slice_set es at e) at ≡ e
this-set es at e less = get_or-set_same es at e _ less

apart-unless : (j at : ℕ) → nat_eq j at ≡ false → j ≢ at
apart-unless j at f same = let x : true ≡ false = sym (eq-eqb j at same) ∙ f in cc

place-kept : (es : List Entry) (at j : ℕ) (e : Entry) → at < length es → e.place ≡ (entry_at es at).place → (b : Bool) → nat_eq j at ≡ b → (entry_at (slice_set es at e) j).place ≡ (entry_at es j).place
place-kept es at j e less place true t =
    subst (λ k. (entry_at (slice_set es at e) k).place ≡ (entry_at es k).place) (sym (eqb-true j at t)) (ap (λ (x : Entry). x.place) (this-set es at e less) ∙ place)
place-kept es at j e less place false f = ap (λ (x : Entry). x.place) (other-set es at j e (apart-unless j at f))

behind-set : (es : List Entry) (at j : ℕ) (e : Entry) (i : ℕ) → at < length es → e.next ≤ at → ((k : ℕ) → (entry_at es k).next ≤ k) → (IsOn es (entry_at es at).next i → IsOn es e.next i)
    → IsOn es (entry_at es j).next i → IsOn (slice_set es at e) (entry_at es j).next i → (b : Bool) → nat_eq j at ≡ b → IsOn (slice_set es at e) (entry_at (slice_set es at e) j).next i
behind-set es at j e i less low down past on kept true t =
    let same : j ≡ at = eqb-true j at t in
    let below : (k : ℕ) → k < at → entry_at (slice_set es at e) k ≡ entry_at es k = (λ k lt. other-set es at k e (omega arith)) in
    let moved : IsOn (slice_set es at e) e.next i = IsOn-agree es (slice_set es at e) at e.next i down below low (past (subst (λ k. IsOn es (entry_at es k).next i) same on)) in
    subst (λ k. IsOn (slice_set es at e) (entry_at (slice_set es at e) k).next i) (sym same) (subst (λ (x : Entry). IsOn (slice_set es at e) x.next i) (sym (this-set es at e less)) moved)
behind-set es at j e i less low down past on kept false f =
    subst (λ (x : Entry). IsOn (slice_set es at e) x.next i) (sym (other-set es at j e (apart-unless j at f))) kept

set-step : (es : List Entry) (at j : ℕ) (e : Entry) (i : ℕ) → at < length es → e.place ≡ (entry_at es at).place → e.next ≤ at → ((k : ℕ) → (entry_at es k).next ≤ k) → (IsOn es (entry_at es at).next i → IsOn es e.next i)
    → ((entry_at es j).place ≢ i → IsOn es (entry_at es j).next i × IsOn (slice_set es at e) (entry_at es j).next i) → (b : Bool) → nat_eq (entry_at es j).place i ≡ b → IsOn (slice_set es at e) (suc j) i
set-step es at j e i less place low down past rest true t = IsOn-here (slice_set es at e) j i (place-kept es at j e less place (nat_eq j at) refl ∙ eqb-true (entry_at es j).place i t)
set-step es at j e i less place low down past rest false f =
    let on = rest (apart-unless (entry_at es j).place i f) in
    IsOn-behind (slice_set es at e) j i (behind-set es at j e i less low down past on.0 on.1 (nat_eq j at) refl)

pub set-keeps : (n : ℕ) (es : List Entry) (at : ℕ) (e : Entry) (link i : ℕ) → at < length es → e.place ≡ (entry_at es at).place → e.next ≤ at → ((k : ℕ) → (entry_at es k).next ≤ k)
    → (IsOn es (entry_at es at).next i → IsOn es e.next i) → Meets n es link i → IsOn (slice_set es at e) link i
set-keeps zero es at e link i less place low down past m = absurd m
set-keeps (suc n) es at e zero i less place low down past m = absurd m
set-keeps (suc n) es at e (suc j) i less place low down past m =
    set-step es at j e i less place low down past (λ other. ((n, m other), set-keeps n es at e (entry_at es j).next i less place low down past (m other))) (nat_eq (entry_at es j).place i) refl
