-- The size of a tree's nodes, one node more at a time.
use Rattle.std.proofs.Common.{◌≡◌, ◌<◌, ◌≤◌, ◌+◌, ◌-◌, ◌^◌, ◌∙◌, ℕ, List, length, length-take-le, take, get_or, min, not, ap, sym, arith}
use Rattle.std.specs.List.{count_by}
use Rattle.std.proofs.lemmas.List.Elements.{All-more, All-weaker}
use Rattle.std.proofs.lemmas.List.Sums.{count_by-le-length, count_by_more_no, count_by_more_yes}
use Rattle.theory.specs.Learning.{Line}
use Rattle.cubes.specs.Result.{LinesNode}
use Rattle.cubes.specs.declared.tree.Node.TheVariants.{Split, Leaf}
use Rattle.cubes.specs.declared.size.TreeSize.{TreeSize}
use Rattle.cubes.specs.Sizes.{Fits, FitsLeaf, IsNoSmaller, IsSizeOf, is_split}

fits-kept : (s t : TreeSize) → IsNoSmaller s t → (n : LinesNode) → Fits s n → Fits t n
fits-kept s t more (Split var) h = tt
fits-kept s t more (Leaf lines) h = record {
  count = omega (arith, h.count, more.lines);
  literals = All-weaker (λ (l : Line). length l.clause ≤ s.most_literals) (λ (l : Line). length l.clause ≤ t.most_literals) (λ l w. omega (arith, w, more.literals)) lines h.literals;
  numbers = All-weaker (λ (l : Line). (length l.hints ≤ s.most_numbers) × (length l.forgets ≤ s.most_numbers)) (λ (l : Line). (length l.hints ≤ t.most_numbers) × (length l.forgets ≤ t.most_numbers))
      (λ l w. (let a = w.0 in omega (arith, more.numbers), let a = w.1 in omega (arith, more.numbers))) lines h.numbers;
}

-- there is room for one split more
pub splits-short : (nodes : List LinesNode) (i : ℕ) (s : TreeSize) → i < length nodes → length nodes < 2 ^ 64 → IsSizeOf (take i nodes) s → min (s.splits + 1) (2 ^ 64 - 1) ≡ s.splits + 1
splits-short nodes i s inside few h =
    let below : count_by is_split (take i nodes) ≤ length (take i nodes) = count_by-le-length is_split (take i nodes) in
    let short : length (take i nodes) ≡ i = length-take-le i nodes (omega arith) in
    omega (arith, h.splits, below, short)

-- a split more
pub size-split : (nodes : List LinesNode) (i var : ℕ) (s t : TreeSize) → i < length nodes → get_or nodes i (Split var) ≡ Split var → IsSizeOf (take i nodes) s →
    t ≡ record s { splits = s.splits + 1 } → IsSizeOf (take (i + 1) nodes) t
size-split nodes i var s t inside here h is = rw is (record {
  splits = ap (λ k. k + 1) h.splits ∙ sym (count_by_more_yes is_split nodes i (Split var) inside (ap is_split here));
  leaves = h.leaves ∙ sym (count_by_more_no (λ n. not (is_split n)) nodes i (Split var) inside (ap (λ n. not (is_split n)) here));
  fits = All-more (Fits (record s { splits = s.splits + 1 })) nodes i (Split var) inside
      (All-weaker (Fits s) (Fits (record s { splits = s.splits + 1 })) (fits-kept s (record s { splits = s.splits + 1 }) (record { lines = omega arith; literals = omega arith; numbers = omega arith })) (take i nodes) h.fits)
      (rw here tt);
})

-- a leaf more
pub size-leaf : (nodes : List LinesNode) (i : ℕ) (lines : List Line) (s t : TreeSize) → i < length nodes → get_or nodes i (Leaf lines) ≡ Leaf lines → IsSizeOf (take i nodes) s →
    t.leaves ≡ s.leaves + 1 → t.splits ≡ s.splits → FitsLeaf t lines → IsNoSmaller s t → IsSizeOf (take (i + 1) nodes) t
size-leaf nodes i lines s t inside here h leaves splits fits more = record {
  splits = splits ∙ (h.splits ∙ sym (count_by_more_no is_split nodes i (Leaf lines) inside (ap is_split here)));
  leaves = leaves ∙ (ap (λ k. k + 1) h.leaves ∙ sym (count_by_more_yes (λ n. not (is_split n)) nodes i (Leaf lines) inside (ap (λ n. not (is_split n)) here)));
  fits = All-more (Fits t) nodes i (Leaf lines) inside (All-weaker (Fits s) (Fits t) (fits-kept s t more) (take i nodes) h.fits) (rw here fits);
}
