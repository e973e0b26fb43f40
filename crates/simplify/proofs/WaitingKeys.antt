-- The tree of the keys of those that wait: a variable's key is written, and the root tells the
-- lightest.
use Rattle.std.proofs.Common.{◌≡◌, ◌≢◌, ℕ, ◌+◌, ◌-◌, ◌*◌, ◌%◌, ◌<◌, ◌≤◌, inl, inr, Bool, true, false, ◌&&◌, cond, nat_le, List, length, Some, None, slice_index, ap, sym, ◌∙◌, arith}
use Rattle.std.proofs.lemmas.Bool.Decides.{nat_tests}
use Rattle.theory.specs.Literals.{IsVariable}
use Rattle.theory.specs.Truth.{Assignment, value}
use Rattle.theory.specs.Trying.{most_pairs}
use Rattle.theory.proofs.literals.LiteralLemmas.{true_or_false, and-right}
use Rattle.theory.proofs.literals.LiteralSets.{false_unless}
use Rattle.simplify.specs.Candidates.{weight_of, first_of}
use Rattle.simplify.specs.LeastKeys.{key_of, AreKeys}
use Rattle.simplify.proofs.LeastKeyLemmas.{IsLeafWith, root-least, root-from_leaf}
use Rattle.simplify.proofs.Lightest.{lightest-is, lightest-nobody}

key-waits : (b : Bool) (w v : ℕ) → b && nat_le w most_pairs ≡ true → key_of b w v ≡ w * 4294967296 + v
key-waits b w v e = ap (λ (c : Bool). cond c (w * 4294967296 + v) 18446744073709551615) e

key-none : (b : Bool) (w v : ℕ) → b && nat_le w most_pairs ≡ false → key_of b w v ≡ 18446744073709551615
key-none b w v e = ap (λ (c : Bool). cond c (w * 4294967296 + v) 18446744073709551615) e

light : (b : Bool) (w : ℕ) → b && nat_le w most_pairs ≡ true → w ≤ 100
light b w e = let le : nat_le w 100 ≡ true = and-right b (nat_le w most_pairs) e in grind (arith, nat_tests)

module _ (W : List ℕ) (M : Assignment) (T : List ℕ) (h : AreKeys W M T) (some : 1 ≤ length M) where
  abbrev passes : ℕ → Bool
  passes v = value M v && nat_le (weight_of W v) most_pairs

  even : length T % 2 ≡ 0
  even = let long = h.leaves in omega arith

  leaf-least : (v : ℕ) → IsVariable (length M) v → slice_index T 1 ≤ key_of (value M v) (weight_of W v) v
  leaf-least v is =
      let low = is.0 in
      let most = is.1 in
      let long = h.leaves in
      let leaf = h.keys v low most in
      let least = root-least T (length M + (v - 1)) even (omega arith) (omega arith) h.lesser in
      omega arith

  few : length M < 4294967296
  few = let most = h.few in omega arith

  pub first-none : slice_index T 1 ≡ 18446744073709551615 → first_of (record { weights = W; waits = M }) ≡ None
  first-none e = lightest-nobody (weight_of W) passes (length M) few (λ v is. false_unless (passes v) (λ q.
      let least = leaf-least v is in
      let key = key-waits (value M v) (weight_of W v) v q in
      let low = light (value M v) (weight_of W v) q in
      let most = is.1 in
      let all = few in
      omega arith))

  -- the root's leaf
  leaf : IsLeafWith T (slice_index T 1)
  leaf = root-from_leaf T even (let long = h.leaves in omega arith) h.lesser

  abbrev of_root : ℕ
  of_root = leaf.place - length M + 1

  of_root-variable : IsVariable (length M) of_root
  of_root-variable = let long = h.leaves in let low = leaf.low in let high = leaf.high in (omega arith, omega arith)

  root-key : slice_index T 1 ≡ key_of (value M of_root) (weight_of W of_root) of_root
  root-key =
      let long = h.leaves in
      let low = leaf.low in
      let high = leaf.high in
      sym leaf.key ∙ (ap (slice_index T) (let at : leaf.place ≡ length M + (of_root - 1) = omega arith in at) ∙ h.keys of_root of_root-variable.0 of_root-variable.1)

  root-passes : slice_index T 1 ≢ 18446744073709551615 → passes of_root ≡ true
  root-passes ne = elim (true_or_false (passes of_root)) [ inl e ↦ e | inr e ↦ absurd (ne (root-key ∙ key-none (value M of_root) (weight_of W of_root) of_root e)) ]

  pub first-some : slice_index T 1 ≢ 18446744073709551615 → first_of (record { weights = W; waits = M }) ≡ Some (slice_index T 1 % 4294967296)
  first-some ne =
      let root : slice_index T 1 ≡ weight_of W of_root * 4294967296 + of_root = root-key ∙ key-waits (value M of_root) (weight_of W of_root) of_root (root-passes ne) in
      let most = of_root-variable.1 in
      let all = few in
      let small : of_root < 4294967296 = omega arith in
      lightest-is (weight_of W) passes (length M) of_root few of_root-variable (root-passes ne) (λ v is q.
      let least = leaf-least v is in
      let key = key-waits (value M v) (weight_of W v) v q in
      omega (arith, least, key, root))
      ∙ ap Some (rest (slice_index T 1) (weight_of W of_root) of_root small root)
    where
      rest : (r w v : ℕ) → v < 4294967296 → r ≡ w * 4294967296 + v → v ≡ r % 4294967296
      rest r w v small e = omega arith
