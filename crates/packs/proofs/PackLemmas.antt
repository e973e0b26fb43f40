-- Packs: what is written is read, and one fact more.
use Rattle.std.proofs.Common.{◌≡◌, ◌≢◌, ℕ, suc, ◌+◌, ◌<◌, ◌≤◌, ◌^◌, Bool, true, false, List, [], ◌∷◌, ◌++◌, length, refl, ap, sym, subst, ◌∙◌, arith, append_assoc, All, Option, Some, None, MatchOption}
use Rattle.std.proofs.lemmas.List.{append-nil}
use Rattle.std.proofs.lemmas.List.Elements.{All-head, All-tail}
use Rattle.lines.specs.Rows.{row}
use Rattle.packs.specs.declared.fact.Fact.{Fact}
use Rattle.packs.specs.Facts.{IsBody, IsFactOver, IsReadAs}
use Rattle.packs.specs.Packs.{framed, IsPackOf, nothing, first, Reads, ends, breaks_off, reads, passes_over}
use Rattle.packs.proofs.FrameLemmas.{frame-short, frame-same, length-framed}
use Rattle.packs.proofs.FactLemmas.{fact-same}

-- a fact at the end
pub IsPackOf-push : (bytes body : List ℕ) (fs : List Fact) (f : Fact) → IsBody body f → IsPackOf bytes fs → IsPackOf (bytes ++ framed body) (fs ++ f ∷ [])
IsPackOf-push bytes body fs f is nothing = first {body = body} {rest = []} (sym (append-nil (framed body))) is nothing
IsPackOf-push bytes body fs f is (first {body = b} {rest = r} {f = g} {fs = gs} e h p) =
    first {body = b} {rest = r ++ framed body} (ap (λ (xs : List ℕ). xs ++ framed body) e ∙ append_assoc (framed b) r (framed body)) h (IsPackOf-push r body gs f is p)

no-frame : (body rest : List ℕ) → [] ≡ framed body ++ rest → ⊥
no-frame body rest e = frame-short [] body rest (omega arith) e

-- Facts over the variables that were written are what is read.
pub read-written : (V : ℕ) (bytes : List ℕ) (fs gs : List Fact) (n : ℕ) (w : Bool) → length bytes < 2 ^ 64 → IsPackOf bytes fs → All (IsFactOver V) fs → Reads V bytes gs n w
    → (gs ≡ fs) × (n ≡ 0) × (w ≡ true)
read-written V bytes fs gs n w few nothing all ends = (refl, refl, refl)
read-written V bytes fs gs n w few nothing all (breaks_off some none) = absurd (some refl)
read-written V bytes fs gs n w few nothing all (reads {body = b} {rest = r} e h more) = absurd (no-frame b r e)
read-written V bytes fs gs n w few nothing all (passes_over {body = b} {rest = r} e h more) = absurd (no-frame b r e)
read-written V bytes fs gs n w few (first {body = b} {rest = r} e h p) all ends = absurd (no-frame b r e)
read-written V bytes fs gs n w few (first {body = b} {rest = r} e h p) all (breaks_off some none) = absurd (none b r e)
read-written V bytes fs gs n w few (first {body = b} {rest = r} {f = f} {fs = fs2} e h p) all (reads {body = c} {rest = s} {f = g} {fs = gs2} d k more) =
    let same = frame-same b r c s (subst (λ (xs : List ℕ). length xs < 2 ^ 64) e few) (sym e ∙ d) in
    let lesser = ap length e ∙ length-framed b r in
    let rest = read-written V r fs2 gs2 n w (omega (arith, lesser, few)) p (All-tail (IsFactOver V) f fs2 all) (subst (λ (xs : List ℕ). Reads V xs gs2 n w) (sym same.1) more) in
    let one : g ≡ f = fact-same g f (sym k.body.lines ∙ (ap (λ xs. (row xs).lines) (sym same.0) ∙ h.lines)) in
    ((λ i. one i ∷ rest.0 i), rest.1, rest.2)
read-written V bytes fs gs n w few (first {body = b} {rest = r} {f = f} {fs = fs2} e h p) all (passes_over {body = c} {rest = s} d none more) =
    let same = frame-same b r c s (subst (λ (xs : List ℕ). length xs < 2 ^ 64) e few) (sym e ∙ d) in
    absurd (none f (record { body = subst (λ (xs : List ℕ). IsBody xs f) same.0 h; over = All-head (IsFactOver V) f fs2 all }))

-- a read pack, as far as it was read: what the rest is read as comes behind
abbrev pub LeadsTo : ℕ → List ℕ → List Fact → ℕ → List ℕ → Type 0
LeadsTo V bytes facts passed left = (fs : List Fact) (n : ℕ) (w : Bool) → Reads V left fs n w → Reads V bytes (facts ++ fs) (passed + n) w

pub LeadsTo-none : (V : ℕ) (bytes : List ℕ) → LeadsTo V bytes [] 0 bytes
LeadsTo-none V bytes fs n w h = let e : 0 + n ≡ n = omega arith in subst (λ m. Reads V bytes fs m w) (sym e) h

LeadsTo-fact : (V : ℕ) (bytes : List ℕ) (facts : List Fact) (passed : ℕ) (left body rest : List ℕ) (f : Fact) → left ≡ framed body ++ rest → IsReadAs V body f
    → LeadsTo V bytes facts passed left → LeadsTo V bytes (facts ++ f ∷ []) passed rest
LeadsTo-fact V bytes facts passed left body rest f e h lead fs n w k =
    subst (λ gs. Reads V bytes gs (passed + n) w) (sym (append_assoc facts (f ∷ []) fs)) (lead (f ∷ fs) n w (reads {body = body} {rest = rest} e h k))

LeadsTo-passed : (V : ℕ) (bytes : List ℕ) (facts : List Fact) (passed more : ℕ) (left body rest : List ℕ) → left ≡ framed body ++ rest → ((f : Fact) → ¬ (IsReadAs V body f))
    → more ≡ passed + 1 → LeadsTo V bytes facts passed left → LeadsTo V bytes facts more rest
LeadsTo-passed V bytes facts passed more left body rest e h count lead fs n w k =
    let sum : passed + suc n ≡ more + n = omega (arith, count) in
    subst (λ m. Reads V bytes (facts ++ fs) m w) sum (lead fs (suc n) w (passes_over {body = body} {rest = rest} e h k))

-- a body more, whatever it is read as
pub LeadsTo-read : (V : ℕ) (bytes : List ℕ) (facts all : List Fact) (passed more : ℕ) (left body rest : List ℕ) (o : Option Fact) → left ≡ framed body ++ rest
    → MatchOption o ((f : Fact) → ¬ (IsReadAs V body f)) (λ f. IsReadAs V body f)
    → MatchOption o ((all ≡ facts) × (more ≡ passed + 1)) (λ f. (all ≡ facts ++ f ∷ []) × (more ≡ passed))
    → LeadsTo V bytes facts passed left → LeadsTo V bytes all more rest × (more ≤ passed + 1)
LeadsTo-read V bytes facts all passed more left body rest None e none put lead =
    (subst (λ gs. LeadsTo V bytes gs more rest) (sym put.0) (LeadsTo-passed V bytes facts passed more left body rest e none put.1 lead), (let m = put.1 in omega arith))
LeadsTo-read V bytes facts all passed more left body rest (Some f) e read put lead = (
  subst (λ gs. LeadsTo V bytes gs more rest) (sym put.0)
      (subst (λ n. LeadsTo V bytes (facts ++ f ∷ []) n rest) (sym put.1) (LeadsTo-fact V bytes facts passed left body rest f e read lead)),
  (let m = put.1 in omega arith),
)

-- the last bytes
pub LeadsTo-end : (V : ℕ) (bytes : List ℕ) (facts : List Fact) (passed : ℕ) (left : List ℕ) (w : Bool) → ((body rest : List ℕ) → left ≢ framed body ++ rest)
    → (w ≡ true → left ≡ []) → (left ≡ [] → w ≡ true) → LeadsTo V bytes facts passed left → Reads V bytes facts passed w
LeadsTo-end V bytes facts passed left w none to from lead =
    let e : passed + 0 ≡ passed = omega arith in
    subst (λ gs. Reads V bytes gs passed w) (append-nil facts) (subst (λ m. Reads V bytes (facts ++ []) m w) e (lead [] 0 w (end w refl)))
  where
    end : (b : Bool) → w ≡ b → Reads V left [] 0 b
    end true k = subst (λ (xs : List ℕ). Reads V xs [] 0 true) (sym (to k)) ends
    end false k = breaks_off (λ h. absurd (let a : true ≡ false = sym (from h) ∙ k in cc)) none
