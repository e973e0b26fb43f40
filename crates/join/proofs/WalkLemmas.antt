-- What is still to come, by where a joiner stands: the first line of it, and the rest.
use Rattle.std.proofs.Common.{◌≡◌, ℕ, zero, suc, ◌+◌, ◌-◌, ◌<◌, ◌≤◌, Bool, true, false, IsTrue, not, ◌||◌, Option, List, [], ◌∷◌, ◌++◌, map, filter, length, Some, None, refl, ap, sym, ◌∙◌, append_assoc, append-nil, add-zero, arith}
use Rattle.theory.specs.Steps.{Step}
use Rattle.theory.specs.Learning.{Line}
use Rattle.theory.specs.Trees.{Node, split_on, refuted_leaf}
use Rattle.theory.specs.Literals.{Literal}
use Rattle.theory.specs.Deletions.{is_among}
use Rattle.theory.specs.Proofs.{renumbered, leaf_steps, refuted_steps, split_steps, deletion, forget_steps, numbers_from}
use Rattle.cubes.specs.declared.traversal.Split.{Split}
use Rattle.cubes.specs.Traversal.{half, path}
use Rattle.join.specs.declared.joiner.Stage.TheVariants.{Between, Within}
use Rattle.join.specs.Deleted.{is_marked, left_by, in_half, due_behind}
use Rattle.join.specs.Joining.{Joined, climb, on_node, on_nodes, behind, learnt_line, split_line, leaf_left, from_leaf}
use Rattle.join.specs.Walking.{at_stage}
use Rattle.join.proofs.DeletedLemmas.{left-last, left-line, deletion-in_half, in_half-snoc}

pub climb-behind : (hs : List (Split ℕ)) (n : ℕ) (S T : List Step) → climb hs n (S ++ T) ≡ behind S (climb hs n T)
climb-behind [] n S T = refl
climb-behind (h ∷ hs) n S T = go h.left (λ U. climb-behind hs (n + 1) S U)
  where
    go : (o : Option ℕ) → ((U : List Step) → climb hs (n + 1) (S ++ U) ≡ behind S (climb hs (n + 1) U))
        → elim o [ None ↦ record { halves = record { var = h.var; left = Some (n - 1) } ∷ hs; next = n; steps = S ++ T } | Some left ↦ climb hs (n + 1) ((S ++ T) ++ split_steps n (path hs) left (n - 1)) ]
        ≡ behind S (elim o [ None ↦ record { halves = record { var = h.var; left = Some (n - 1) } ∷ hs; next = n; steps = T } | Some left ↦ climb hs (n + 1) (T ++ split_steps n (path hs) left (n - 1)) ])
    go None more = refl
    go (Some left) more =
        ap (climb hs (n + 1)) (append_assoc S T (split_steps n (path hs) left (n - 1))) ∙ more (T ++ split_steps n (path hs) left (n - 1))

pub on_nodes-behind : (N : ℕ) (S : List Step) (s : Joined) (nodes : List Node) → on_nodes N (behind S s) nodes ≡ behind S (on_nodes N s nodes)
on_nodes-behind N S s [] = refl
on_nodes-behind N S s (split_on x ∷ nodes) = on_nodes-behind N S (on_node N s (split_on x)) nodes
on_nodes-behind N S s (refuted_leaf lines ∷ nodes) =
    ap (λ t. on_nodes N t nodes)
    (ap (climb s.halves (s.next + length lines)) (append_assoc S s.steps (refuted_steps N s.next (path s.halves) lines))
    ∙ climb-behind s.halves (s.next + length lines) S (s.steps ++ refuted_steps N s.next (path s.halves) lines))
    ∙ on_nodes-behind N S (on_node N s (refuted_leaf lines)) nodes

-- lines, and what follows them
climbed : (hs : List (Split ℕ)) (n m : ℕ) (S : List Step) → n ≡ m → climb hs n S ≡ behind S (climb hs m [])
climbed hs n m S e = ap (climb hs n) (sym (append-nil S)) ∙ climb-behind hs n S [] ∙ ap (λ k. behind S (climb hs k [])) e

-- what is left behind a leaf's line, the last one or not; what it forgets is marked then
leaf-last : (N first n : ℕ) (Q : List Literal) (marks marks2 : List Bool) (line : Line) → line.forgets ≡ []
    → ((k : ℕ) → is_marked first marks2 k ≡ is_marked first marks k || is_among k (map (renumbered N first) line.forgets))
    → leaf_left N first n Q marks (line ∷ []) ≡ learnt_line N first n Q line ∷ forget_steps n (due_behind N first n Q marks2 line [])
leaf-last N first n Q marks marks2 line keeps marked =
    let here = learnt_line N first n Q line in
    let last : n + length {A = Line} [] ≡ n = omega arith in
    ap (λ ns. (here ∷ forget_steps n (map (renumbered N first) ns) ++ []) ++ deletion Q (n + length {A = Line} []) (left_by N first (n + length {A = Line} []) marks (line ∷ []))) keeps
    ∙ ap (λ k. here ∷ deletion Q k (left_by N first k marks (line ∷ []))) last
    ∙ ap (λ ns. here ∷ deletion Q n ns) (left-line N first n marks marks2 line [] marked)
    ∙ ap (λ D. here ∷ D) (deletion-in_half Q n (left_by N first n marks2 []))

leaf-more : (N first n : ℕ) (Q : List Literal) (marks marks2 : List Bool) (line next : Line) (leaf : List Line)
    → ((k : ℕ) → is_marked first marks2 k ≡ is_marked first marks k || is_among k (map (renumbered N first) line.forgets))
    → leaf_left N first n Q marks (line ∷ next ∷ leaf)
    ≡ (learnt_line N first n Q line ∷ forget_steps n (due_behind N first n Q marks2 line (next ∷ leaf))) ++ leaf_left N first (n + 1) Q marks2 (next ∷ leaf)
leaf-more N first n Q marks marks2 line next leaf marked =
    let here = learnt_line N first n Q line in
    let forget = forget_steps n (map (renumbered N first) line.forgets) in
    let more = leaf_steps N first (n + 1) Q (next ∷ leaf) in
    let last : n + length (next ∷ leaf) ≡ n + 1 + length leaf = omega arith in
    ap (λ S. here ∷ S) (append_assoc forget more (deletion Q (n + length (next ∷ leaf)) (left_by N first (n + length (next ∷ leaf)) marks (line ∷ next ∷ leaf))))
    ∙ ap (λ k. here ∷ forget ++ (more ++ deletion Q k (left_by N first k marks (line ∷ next ∷ leaf)))) last
    ∙ ap (λ ns. here ∷ forget ++ (more ++ deletion Q (n + 1 + length leaf) ns)) (left-line N first (n + 1 + length leaf) marks marks2 line (next ∷ leaf) marked)

-- a leaf's line, what is deleted behind it, and what follows
from_leaf-learnt : (N first n : ℕ) (hs : List (Split ℕ)) (marks marks2 : List Bool) (line : Line) (leaf : List Line) → (leaf ≡ [] → line.forgets ≡ [])
    → ((k : ℕ) → is_marked first marks2 k ≡ is_marked first marks k || is_among k (map (renumbered N first) line.forgets))
    → from_leaf N first n hs marks (line ∷ leaf)
    ≡ behind (learnt_line N first n (path hs) line ∷ forget_steps n (due_behind N first n (path hs) marks2 line leaf)) (from_leaf N first (n + 1) hs marks2 leaf)
from_leaf-learnt N first n hs marks marks2 line [] keeps marked =
    let number : n + length (line ∷ []) ≡ n + 1 + length {A = Line} [] = omega arith in
    ap (climb hs (n + length (line ∷ []))) (leaf-last N first n (path hs) marks marks2 line (keeps refl) marked)
    ∙ climbed hs (n + length (line ∷ [])) (n + 1 + length {A = Line} []) (learnt_line N first n (path hs) line ∷ forget_steps n (due_behind N first n (path hs) marks2 line [])) number
from_leaf-learnt N first n hs marks marks2 line (next ∷ leaf) keeps marked =
    let number : n + length (line ∷ next ∷ leaf) ≡ n + 1 + length (next ∷ leaf) = omega arith in
    let front = learnt_line N first n (path hs) line ∷ forget_steps n (due_behind N first n (path hs) marks2 line (next ∷ leaf)) in
    ap (climb hs (n + length (line ∷ next ∷ leaf))) (leaf-more N first n (path hs) marks marks2 line next leaf marked)
    ∙ ap (λ m. climb hs m (front ++ leaf_left N first (n + 1) (path hs) marks2 (next ∷ leaf))) number
    ∙ climb-behind hs (n + 1 + length (next ∷ leaf)) front (leaf_left N first (n + 1) (path hs) marks2 (next ∷ leaf))

-- a leaf's line comes first
pub at-learnt : (N first n : ℕ) (hs : List (Split ℕ)) (marks marks2 : List Bool) (due : List ℕ) (all leaf : List Line) (line : Line) → all ≡ line ∷ leaf → (leaf ≡ [] → line.forgets ≡ [])
    → ((k : ℕ) → is_marked first marks2 k ≡ is_marked first marks k || is_among k (map (renumbered N first) line.forgets)) → due ≡ due_behind N first n (path hs) marks2 line leaf
    → at_stage N Within first n [] marks hs all ≡ behind (learnt_line N first n (path hs) line ∷ []) (at_stage N Within first (n + 1) due marks2 hs leaf)
at-learnt N first n hs marks marks2 due all leaf line e keeps marked is =
    let same : n ≡ n + 1 - 1 = omega arith in
    ap (from_leaf N first n hs marks) e
    ∙ from_leaf-learnt N first n hs marks marks2 line leaf keeps marked
    ∙ ap (λ ns. behind (learnt_line N first n (path hs) line ∷ forget_steps n ns) (from_leaf N first (n + 1) hs marks2 leaf)) (sym is)
    ∙ ap (λ k. behind (learnt_line N first n (path hs) line ∷ forget_steps k due) (from_leaf N first (n + 1) hs marks2 leaf)) same

-- the line of the split above comes first
pub at-split : (N first n x left : ℕ) (old hs : List (Split ℕ)) (marks : List Bool) (due : List ℕ) (leaf : List Line) → leaf ≡ [] → old ≡ record { var = x; left = Some left } ∷ hs
    → due ≡ in_half (path hs) (left ∷ (n - 1) ∷ [])
    → at_stage N Within first n [] marks old leaf ≡ behind (split_line n (path hs) left (n - 1) ∷ []) (at_stage N Within first (n + 1) due marks hs leaf)
at-split N first n x left old hs marks due leaf over was is =
    let same : n ≡ n + 1 - 1 = omega arith in
    let line = split_line n (path hs) left (n - 1) in
    rw (over, was)
    (ap (λ m. climb (record { var = x; left = Some left } ∷ hs) m []) (add-zero n)
    ∙ climbed hs (n + 1) (n + 1 + 0) (split_steps n (path hs) left (n - 1)) (sym (add-zero (n + 1)))
    ∙ ap (λ D. behind (line ∷ D) (from_leaf N first (n + 1) hs marks [])) (deletion-in_half (path hs) n (left ∷ (n - 1) ∷ []) ∙ ap (forget_steps n) (sym is))
    ∙ ap (λ k. behind (line ∷ forget_steps k due) (from_leaf N first (n + 1) hs marks [])) same)

-- behind a left half comes a node
pub at-right : (N first n x : ℕ) (old above new : List (Split ℕ)) (marks : List Bool) (due : List ℕ) (leaf : List Line) → leaf ≡ [] → old ≡ record { var = x; left = None } ∷ above
    → new ≡ record { var = x; left = Some (n - 1) } ∷ above → at_stage N Between first n due marks new leaf ≡ at_stage N Within first n [] marks old leaf
at-right N first n x old above new marks due leaf over was is =
    sym (rw (over, was, is) (ap (λ m. climb (record { var = x; left = None } ∷ above) m []) (add-zero n)))

pub none-left : (leaf : List Line) (n : ℕ) → n ≡ length leaf → n ≡ 0 → leaf ≡ []
none-left [] n count none = refl
none-left (line ∷ leaf) n count none = absurd (omega (arith, count, none))

pub not-half : (n : ℕ) (b : Bool) → (0 < n → IsTrue b) → b ≡ false → n ≤ 0
not-half zero b h e = omega arith
not-half (suc n) b h e = absurd (let t : true ≡ false = sym (h (omega arith)) ∙ e in cc)

-- behind the line of a split its halves are deleted, or nothing behind the root's
pub due-split : (hs : List (Split ℕ)) (ns : List ℕ) → 0 < length hs → ns ≡ in_half (path hs) ns
due-split [] ns some = absurd (omega arith)
due-split (h ∷ hs) ns some = sym (in_half-snoc (path hs) (half h.var h.left) ns)

pub due-nothing : (hs : List (Split ℕ)) (ns : List ℕ) → length hs ≤ 0 → [] ≡ in_half (path hs) ns
due-nothing [] ns none = refl
due-nothing (h ∷ hs) ns none = absurd (omega arith)

-- the numbers that are due behind a leaf's line: it isn't the last one, or the root's, or a half's
pub due-more : (N first n : ℕ) (Q : List Literal) (marks : List Bool) (line : Line) (leaf : List Line) → 0 < length leaf → map (renumbered N first) line.forgets ≡ due_behind N first n Q marks line leaf
due-more N first n Q marks line [] some = absurd (omega arith)
due-more N first n Q marks line (next ∷ leaf) some = refl

pub due-root : (N first n : ℕ) (hs : List (Split ℕ)) (marks : List Bool) (line : Line) (leaf : List Line) → leaf ≡ [] → line.forgets ≡ [] → length hs ≤ 0
    → map (renumbered N first) line.forgets ≡ due_behind N first n (path hs) marks line leaf
due-root N first n [] marks line leaf over keeps none = rw (over, keeps) refl
due-root N first n (h ∷ hs) marks line leaf over keeps none = absurd (omega arith)

pub due-half : (N first n : ℕ) (hs : List (Split ℕ)) (marks : List Bool) (line : Line) (leaf : List Line) → leaf ≡ [] → line.forgets ≡ [] → 0 < length hs
    → map (renumbered N first) line.forgets ++ filter (λ k. not (is_marked first marks k)) (numbers_from first (n - first)) ≡ due_behind N first n (path hs) marks line leaf
due-half N first n [] marks line leaf over keeps some = absurd (omega arith)
due-half N first n (h ∷ hs) marks line leaf over keeps some =
    rw (over, keeps) (left-last N first n marks ∙ sym (in_half-snoc (path hs) (half h.var h.left) (left_by N first n marks [])))

-- the lines of all nodes, where those that came gave one more
pub left-more : (N M : ℕ) (old new : Joined) (line : Step) (nodes : List Node) → M ≡ N → old ≡ behind (line ∷ []) new → (on_nodes N old nodes).steps ≡ line ∷ (on_nodes M new nodes).steps
left-more N M old new line nodes count is =
    ap (λ s. (on_nodes N s nodes).steps) is
    ∙ ap (λ (s : Joined). s.steps) (on_nodes-behind N (line ∷ []) new nodes)
    ∙ ap (λ n. line ∷ (on_nodes n new nodes).steps) (sym count)
