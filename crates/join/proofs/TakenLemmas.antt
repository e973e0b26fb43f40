-- A leaf that is taken: all its lines are to come, and none is marked.
use Rattle.std.proofs.Common.{◌≡◌, ℕ, ◌+◌, ◌-◌, ◌<◌, Bool, true, false, not, List, [], ◌∷◌, ◌++◌, map, filter, length, take, replicate, Vec, Global, refl, ap, sym, ◌∙◌, append-nil, arith}
use Rattle.std.proofs.lemmas.List.{take_all}
use Rattle.std.specs.Vec.Iter.{into_iter_items}
use Rattle.theory.specs.Literals.{Literal}
use Rattle.theory.specs.Learning.{Line}
use Rattle.theory.specs.Steps.{Step}
use Rattle.theory.specs.Trees.{refuted_leaf}
use Rattle.theory.specs.Deletions.{is_among}
use Rattle.theory.specs.Proofs.{renumbered, forgotten_by, leaf_steps, refuted_steps, unit_steps, undeleted, deletion, numbers_from}
use Rattle.cubes.specs.declared.traversal.Split.{Split}
use Rattle.cubes.specs.Traversal.{path}
use Rattle.join.specs.declared.joiner.Joiner.{Joiner}
use Rattle.join.specs.declared.joiner.Stage.TheVariants.{Between, Within}
use Rattle.join.specs.Deleted.{is_marked}
use Rattle.join.specs.Joining.{Joined, behind, climb, leaf_left, on_node}
use Rattle.join.specs.Walking.{at_stage, joined, IsNextLine}
use Rattle.join.proofs.DeletedLemmas.{left-begun, none-marked}
use Rattle.join.proofs.WalkLemmas.{climb-behind}

-- what is left of a leaf of which no line came yet
leaf-whole : (N n : ℕ) (Q : List Literal) (marks : List Bool) (lines : List Line) → 0 < length lines → ((k : ℕ) → is_marked n marks k ≡ false) → leaf_left N n n Q marks lines ≡ refuted_steps N n Q lines
leaf-whole N n Q marks [] some none = absurd (omega arith)
leaf-whole N n Q marks (line ∷ lines) some none =
    let last : n + length lines ≡ n + length (line ∷ lines) - 1 = omega arith in
    let count : n + length lines - n ≡ length (line ∷ lines) - 1 = omega arith in
    ap (λ ns. leaf_steps N n n Q (line ∷ lines) ++ deletion Q (n + length lines) ns) (left-begun N n (n + length lines) marks (line ∷ lines) none ∙ ap (λ c. filter (λ k. not (is_among k (map (renumbered N n) (forgotten_by (line ∷ lines))))) (numbers_from n c)) count)
    ∙ ap (λ k. leaf_steps N n n Q (line ∷ lines) ++ deletion Q k (undeleted N n (line ∷ lines))) last

-- where none of a leaf's lines is marked and nothing is due, all its lines are to come
at-taken : (N n : ℕ) (hs : List (Split ℕ)) (marks : List Bool) (lines : List Line) → 0 < length lines → ((k : ℕ) → is_marked n marks k ≡ false)
    → at_stage N Within n n [] marks hs lines ≡ climb hs (n + length lines) (refuted_steps N n (path hs) lines)
at-taken N n hs marks lines some none = ap (climb hs (n + length lines)) (leaf-whole N n (path hs) marks lines some none)

-- a joiner between two nodes takes a leaf
pub taken-leaf : (old : Joiner) (due : Vec ℕ Global) (deleted : Vec Bool Global) (lines : List Line) → old.stage ≡ Between → 0 < length lines → due.items ≡ [] → deleted.items ≡ replicate (length lines) false
    → joined (record old { first = old.next; leaf = lines; deleted = deleted; stage = Within; due = due }) ≡ on_node old.clauses (joined old) (refuted_leaf lines)
taken-leaf old due deleted lines at some nothing marks =
    let U = unit_steps old.unit (into_iter_items old.units) in
    let N = old.clauses in
    let n = old.next in
    let hs = old.place in
    let R = refuted_steps N n (path hs) lines in
    let none = λ (k : ℕ). ap (λ ms. is_marked n ms k) marks ∙ none-marked n (length lines) k in
    ap (λ ns. behind U (at_stage N Within n n ns deleted.items hs lines)) nothing
    ∙ ap (behind U) (at-taken N n hs deleted.items lines some none)
    ∙ sym (climb-behind hs (n + length lines) U R)
    ∙ ap (λ S. climb hs (n + length lines) (S ++ R)) (sym (append-nil U))
    ∙ sym (ap (λ s. on_node N (behind U (at_stage N s old.first n old.due.items old.deleted.items hs old.leaf)) (refuted_leaf lines)) at)

-- no marks, filled up to so many
pub filled : (marks cleared : List Bool) (n len count : ℕ) → cleared ≡ [] → marks ≡ take n cleared ++ replicate (n - len) false → len ≡ 0 → n ≡ count → marks ≡ replicate count false
filled marks cleared n len count none is few many =
    let none_there : take n cleared ≡ [] = ap (take n) none ∙ take_all n [] (omega arith) in
    let long : n - len ≡ count = omega (arith, few, many) in
    is ∙ ap (λ xs. xs ++ replicate (n - len) false) none_there ∙ ap (λ k. replicate k false) long

-- where no lines were to come, none was the next
pub next-none : (old new : Joined) (line : Step) (more : Bool) → old.steps ≡ [] → IsNextLine old new line more → (new ≡ old) × (more ≡ false)
next-none old new line true none next = absurd (let some : line ∷ new.steps ≡ [] = sym (ap (λ (s : Joined). s.steps) next) ∙ none in cc)
next-none old new line false none next = (next.1, refl)
