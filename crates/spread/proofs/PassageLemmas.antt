-- Going through a pack.
use Rattle.std.proofs.Common.{◌≡◌, ◌≢◌, ◌≤◌, ◌<◌, ◌+◌, ◌^◌, w64, ℕ, List, [], ◌∷◌, ◌++◌, length, take, drop, Bool, true, false, Option, Some, refl, sym, ap, ◌∙◌, append_assoc, append-nil, length-append, subst, arith}
use Rattle.std.specs.Int.{to_le_bytes}
use Rattle.std.specs.Str.{bytes_eq}
use Rattle.std.proofs.lemmas.Slice.Eq.{bytes_eq-Decides}
use Rattle.std.proofs.Math.Seq.{take-append_seam}
use Rattle.packs.specs.Packs.{framed}
use Rattle.packs.proofs.FrameLemmas.{frame-cut, frame-split}
use Rattle.sha2.specs.Hashers.{Holds256}
use Rattle.spread.specs.declared.pack_file.Passage.{Passage}
use Rattle.spread.specs.Passages.{IsBetween, IsWithin, IsFilled, IsMet, IsLength, IsNext, HasNoBody}

module _ {R : Type 0} (remaining : R → Option (List ℕ)) where
  -- what was filled is within the same bytes
  pub IsWithin-filled : (old new : Passage R) (bytes buffer : List ℕ) (filled : Bool) → ((before behind : List ℕ) → IsBetween remaining old before behind → IsFilled remaining new before behind buffer filled)
      → IsWithin remaining old bytes → IsWithin remaining new bytes
  IsWithin-filled old new bytes buffer filled step within = go filled (step within.before within.behind within.between)
    where
      go : (b : Bool) → IsFilled remaining new within.before within.behind buffer b → IsWithin remaining new bytes
      go true (rest, e, between) = record {
        before = within.before ++ buffer;
        behind = rest;
        joined = within.joined ∙ (ap (λ (xs : List ℕ). within.before ++ xs) e ∙ sym (append_assoc within.before buffer rest));
        between = between;
      }
      go false (few, between) = record { before = within.before; behind = within.behind; joined = within.joined; between = between }

  -- where nothing is left, the sum is that of all bytes
  pub IsWithin-end : (p : Passage R) (bytes : List ℕ) → p.left ≤ 0 → IsWithin remaining p bytes → Holds256 p.hasher bytes
  IsWithin-end p bytes none within = go within.behind within.joined within.between
    where
      go : (behind : List ℕ) → bytes ≡ within.before ++ behind → IsBetween remaining p within.before behind → Holds256 p.hasher bytes
      go [] e between = subst (λ (xs : List ℕ). Holds256 p.hasher xs) (sym (e ∙ append-nil within.before)) between.summed
      go (x ∷ xs) e between = absurd (omega (arith, none, between.left))

  -- a flag says nothing of the bytes
  pub IsBetween-flag : (p : Passage R) (before behind : List ℕ) (flag : Bool) → IsBetween remaining p before behind → IsBetween remaining (record p { is_broken_off = flag }) before behind
  IsBetween-flag p before behind flag h = record { rest = h.rest; left = h.left; at = h.at; fits = h.fits; summed = h.summed }

  -- a length that is too long
  pub IsLength-cut : (p : Passage R) (before behind head : List ℕ) (n : ℕ) → to_le_bytes w64 n ≡ head → length head ≡ 8 → n < 2 ^ 64 → p.left < n → IsFilled remaining p before behind head true
      → IsWithin remaining p (before ++ behind) × HasNoBody behind
  IsLength-cut p before behind head n h eight fits cut (rest, e, between) = (
    record { before = before ++ head; behind = rest; joined = ap (λ (xs : List ℕ). before ++ xs) e ∙ sym (append_assoc before head rest); between = between },
    λ body more. frame-cut behind head rest body more n e eight h fits (let few = between.left in omega (arith, few, cut)) (let all = ap length e ∙ length-append head rest in let long = length-append before head in let f = between.fits in omega (arith, all, long, f)),
  )

  -- and one that isn't
  pub IsLength-there : (p : Passage R) (before behind head : List ℕ) (n : ℕ) → to_le_bytes w64 n ≡ head → n ≤ p.left → IsFilled remaining p before behind head true → IsLength remaining p before behind (Some n)
  IsLength-there p before behind head n h few (rest, e, between) = (
    rest,
    e ∙ ap (λ (xs : List ℕ). xs ++ rest) (sym h),
    (let left = between.left in omega (arith, left, few)),
    subst (λ (xs : List ℕ). IsBetween remaining p (before ++ xs) rest) (sym h) between,
  )

  -- the body behind its length
  pub IsNext-read : (old p : Passage R) (before behind body : List ℕ) (n : ℕ) → n ≡ length body → IsLength remaining old before behind (Some n) → ((b r : List ℕ) → IsBetween remaining old b r → IsFilled remaining p b r body true)
      → IsNext remaining (record p { is_broken_off = false }) before behind body (Some (record { start = old.at; length = n }))
  IsNext-read old p before behind body n long (rest, e, few, between) filled = go (filled (before ++ to_le_bytes w64 n) rest between)
    where
      go : IsFilled remaining p (before ++ to_le_bytes w64 n) rest body true → IsNext remaining (record p { is_broken_off = false }) before behind body (Some (record { start = old.at; length = n }))
      go (more, d, after) =
          let joined : (before ++ to_le_bytes w64 n) ++ body ≡ before ++ framed body
          = append_assoc before (to_le_bytes w64 n) body ∙ ap (λ (m : ℕ). before ++ (to_le_bytes w64 m ++ body)) long in
          let at : old.at ≡ length before + 8 = between.at ∙ length-append before (to_le_bytes w64 n) in (
            more,
            frame-split behind (to_le_bytes w64 n) rest body more n e d refl long,
            (λ i. record { start = at i; length = long i }),
            subst (λ (xs : List ℕ). IsBetween remaining (record p { is_broken_off = false }) xs more) joined (IsBetween-flag p ((before ++ to_le_bytes w64 n) ++ body) more false after),
          )

-- a list over another one of its length
pub seam : (len : ℕ) (buffer items : List ℕ) → length buffer ≡ len → take len (buffer ++ drop (length buffer) items) ≡ buffer
seam len buffer items e = subst (λ (n : ℕ). take n (buffer ++ drop (length buffer) items) ≡ buffer) e (take-append_seam buffer (drop (length buffer) items))

module _ {R : Type 0} (remaining : R → Option (List ℕ)) where
  -- bytes that were read are those that were asked for
  pub IsMet-same : (p : Passage R) (before behind wanted buffer : List ℕ) → buffer ≡ wanted → IsFilled remaining p before behind buffer true → IsMet remaining p before behind wanted true
  IsMet-same p before behind wanted buffer same (rest, e, between) =
      (rest, e ∙ ap (λ (xs : List ℕ). xs ++ rest) same, subst (λ (xs : List ℕ). IsBetween remaining p (before ++ xs) rest) same between)

  -- or others
  pub IsMet-other : (p : Passage R) (before behind wanted buffer : List ℕ) → length buffer ≡ length wanted → buffer ≢ wanted → IsFilled remaining p before behind buffer true → IsMet remaining p before behind wanted false
  IsMet-other p before behind wanted buffer long other (rest, e, between) more d =
      other (sym (take-append_seam buffer rest) ∙ (ap (λ (n : ℕ). take n (buffer ++ rest)) long ∙ (ap (take (length wanted)) (sym e ∙ d) ∙ take-append_seam wanted more)))

  -- which of both is told
  pub IsMet-told : (p : Passage R) (before behind wanted buffer shown : List ℕ) (same : Bool) → same ≡ bytes_eq shown wanted → shown ≡ buffer → length buffer ≡ length wanted → IsFilled remaining p before behind buffer true
      → IsMet remaining p before behind wanted same
  IsMet-told p before behind wanted buffer shown true e s long filled = IsMet-same p before behind wanted buffer (sym s ∙ (bytes_eq-Decides shown wanted).0 (sym e)) filled
  IsMet-told p before behind wanted buffer shown false e s long filled = IsMet-other p before behind wanted buffer long (λ q. let yes = (bytes_eq-Decides shown wanted).1 (s ∙ q) in cc) filled
