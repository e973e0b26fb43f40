-- What is found by the literals of a cube in a map and in a set, whose keys are lists of literals.
use Rattle.std.specs.Prelude.{if◌then◌else◌, nat_eq}
use Rattle.std.proofs.Common.{◌≡◌, ℕ, ◌+◌, ◌*◌, ◌≤◌, ◌<◌, Bool, true, false, cond, List, [], ◌∷◌, ◌++◌, Option, Some, None, All, length, length-take-le, take, min, max, reverse, ◌⊎◌, inl, inr, refl, arith, sym, ap, subst, ◌∙◌, Vec, Global}
use Rattle.std.specs.Bool.{Decides}
use Rattle.std.specs.List.{list_any}
use Rattle.std.specs.HashSet.{contains_by}
use Rattle.std.specs.Map.{lookup, IsKeyTest, AreApart, KeepsOthers}
use Rattle.std.specs.Set as sets
use Rattle.std.proofs.lemmas.Bool.Decides.{nat_tests}
use Rattle.std.proofs.lemmas.Slice.Eq.{slice_eq-Decides}
use Rattle.std.proofs.lemmas.List.{length-append, take-append-le, take_all, reverse-append}
use Rattle.std.proofs.lemmas.List.Elements.{All-head, All-tail, All-cons, All-weaker, All-same, All-push}
use Rattle.theory.specs.Literals.{Literal, negative, positive}
use Rattle.theory.specs.Truth.{Formula}
use Rattle.theory.specs.Trees.{false_half, true_half}
use Rattle.cnf.specs.contracts.lit.LitPartialEq.TheImpl.{ghosts}
use Rattle.cnf.specs.declared.lit.Lit.{Lit}
use Rattle.spread.specs.OpenCubes.{same_cube, word_by, said_behind, has_cube, said_in, IsTop, IsBelowTop, IsNoWord, LeavesOpen, at_end, at_refuted, at_model, at_split, at_open, AreWordsOf, AreLeftOpen}
use Rattle.spread.specs.declared.open_cubes.Words.{Words}
use Rattle.spread.specs.declared.open_cubes.Tops.{Tops}
use Rattle.packs.specs.declared.fact.Fact.{Fact}
use Rattle.spread.specs.declared.open_cubes.Word.{Word}

-- one literal has one code
same-code : (x y : ℕ) (c d : Bool) → 2 * x + cond c 1 0 ≡ 2 * y + cond d 1 0 → (x ≡ y) × (c ≡ d)
same-code x y true true e = (omega arith, refl)
same-code x y true false e = absurd (omega arith)
same-code x y false true e = absurd (omega arith)
same-code x y false false e = (omega arith, refl)

equal-so : (m n : ℕ) → nat_eq m n ≡ true → m ≡ n
equal-so m n h = grind (arith, nat_tests)

so-equal : (m n : ℕ) → m ≡ n → nat_eq m n ≡ true
so-equal m n h = grind (arith, nat_tests)

pub lit-decides : (a b : Literal) → Decides (ghosts.eq a b) (a ≡ b)
lit-decides a b = (
  λ h. let e = same-code a.var b.var a.positive b.positive (equal-so (2 * a.var + cond a.positive 1 0) (2 * b.var + cond b.positive 1 0) h) in
      ap (λ (x : ℕ). record { var = x; positive = a.positive }) e.0 ∙ ap (λ (c : Bool). record { var = b.var; positive = c }) e.1,
  λ e. so-equal (2 * a.var + cond a.positive 1 0) (2 * b.var + cond b.positive 1 0) (ap (λ (l : Literal). 2 * l.var + cond l.positive 1 0) e),
)

pub same-decides : (Q R : List Literal) → Decides (same_cube Q R) (Q ≡ R)
same-decides Q R = slice_eq-Decides lit-decides Q R (same_cube Q R) refl

pub not-same : (Q R : List Literal) → (Q ≡ R → ⊥) → same_cube Q R ≡ false
not-same Q R h = by (same_cube Q R) (λ e. h ((same-decides Q R).0 e))
  where
    by : (b : Bool) → (b ≡ true → ⊥) → b ≡ false
    by true f = absurd (f refl)
    by false f = refl

kept-entry : {K X : Type 0} (eq : K → K → Bool) (test : K → Bool) (old new : List (K × X)) → KeepsOthers eq test old new → (other : K → Bool) → IsKeyTest eq other → AreApart test other → lookup other new ≡ lookup other old
unfolding KeepsOthers
kept-entry eq test old new h = h

kept-key : {K : Type 0} (eq : K → K → Bool) (test : K → Bool) (old new : List K) → sets.KeepsOthers eq test old new → (other : K → Bool) → IsKeyTest eq other → AreApart test other → list_any other new ≡ list_any other old
unfolding sets.KeepsOthers
kept-key eq test old new h = h

-- keys with their literals
module _ {K : Type 0} (items : K → List Literal) where
  abbrev same_keys : K → K → Bool
  same_keys x y = same_cube (items x) (items y)

  abbrev is_of : List Literal → K → Bool
  is_of Q k = same_cube Q (items k)

  is-test : (Q : List Literal) → IsKeyTest same_keys (is_of Q)
  is-test Q x y h = ap (λ (P : List Literal). same_cube P (items y)) ((same-decides Q (items x)).0 h)

  are-apart : (Q : List Literal) (key : K) → same_cube Q (items key) ≡ false → AreApart (same_keys key) (is_of Q)
  are-apart Q key apart k h = subst (λ (P : List Literal). same_cube Q P ≡ false) ((same-decides (items key) (items k)).0 h) apart

  -- what a look-up finds behind an insertion
  pub after-insert : {X : Type 0} (Q : List Literal) (key : K) (old new : List (K × X)) (value : X) → lookup (same_keys key) new ≡ Some value → KeepsOthers same_keys (same_keys key) old new
      → lookup (is_of Q) new ≡ cond (same_cube Q (items key)) (Some value) (lookup (is_of Q) old)
  after-insert {X} Q key old new value here others = by (same_cube Q (items key)) refl
    where
      by : (b : Bool) → same_cube Q (items key) ≡ b → lookup (is_of Q) new ≡ cond b (Some value) (lookup (is_of Q) old)
      by true e = ap (λ (P : List Literal). lookup (is_of P) new) ((same-decides Q (items key)).0 e) ∙ here
      by false e = kept-entry same_keys (same_keys key) old new others (is_of Q) (is-test Q) (are-apart Q key e)

  -- whether one is found in a set
  pub after-put : (Q : List Literal) (key : K) (old new : List K) → list_any (same_keys key) new ≡ true → sets.KeepsOthers same_keys (same_keys key) old new
      → list_any (is_of Q) new ≡ cond (same_cube Q (items key)) true (list_any (is_of Q) old)
  after-put Q key old new here others = by (same_cube Q (items key)) refl
    where
      by : (b : Bool) → same_cube Q (items key) ≡ b → list_any (is_of Q) new ≡ cond b true (list_any (is_of Q) old)
      by true e = ap (λ (P : List Literal). list_any (is_of P) new) ((same-decides Q (items key)).0 e) ∙ here
      by false e = kept-key same_keys (same_keys key) old new others (is_of Q) (is-test Q) (are-apart Q key e)

-- what is said behind one fact more
pub one-behind : (Q : List Literal) (word : Option Word) (fs : List Fact) (f : Fact) → said_behind Q word (fs ++ f ∷ []) ≡ (if same_cube Q f.cube then Some (word_by f.claim) else said_behind Q word fs)
one-behind Q word [] f = refl
one-behind Q word (g ∷ gs) f = one-behind Q (if same_cube Q g.cube then Some (word_by g.claim) else word) gs f

if-not : {A : Type 0} (b : Bool) (x y : A) → b ≡ false → cond b x y ≡ y
if-not b x y e = ap (λ (c : Bool). cond c x y) e

-- and behind one of another cube
pub other-behind : (Q : List Literal) (word : Option Word) (fs : List Fact) (f : Fact) → (Q ≡ f.cube → ⊥) → said_behind Q word (fs ++ f ∷ []) ≡ said_behind Q word fs
other-behind Q word fs f h = one-behind Q word fs f ∙ if-not (same_cube Q f.cube) (Some (word_by f.claim)) (said_behind Q word fs) (not-same Q f.cube h)

-- no beginning of Q that is shorter than that is one of the cubes
pub record NoneBelow (tops : Tops) (Q : List Literal) (count : ℕ) : Type 0 where
  pub none : (k : ℕ) → tops.shortest ≤ k → k < count → has_cube tops (take k Q) ≡ false

pub none-yet : (tops : Tops) (Q : List Literal) → NoneBelow tops Q tops.shortest
none-yet tops Q = record { none = λ k low high. absurd (omega arith) }

pub none-more : (tops : Tops) (Q : List Literal) (count : ℕ) → NoneBelow tops Q count → has_cube tops (take count Q) ≡ false → NoneBelow tops Q (count + 1)
none-more tops Q count h here = record { none = λ k low high. at k low (upto k high) }
  where
    upto : (k : ℕ) → k < count + 1 → (k < count) ⊎ (k ≡ count)
    upto k high = grind arith

    at : (k : ℕ) → tops.shortest ≤ k → (k < count) ⊎ (k ≡ count) → has_cube tops (take k Q) ≡ false
    at k low (inl less) = h.none k low less
    at k low (inr same) = ap (λ (n : ℕ). has_cube tops (take n Q)) same ∙ here

pub none-above : (tops : Tops) (Q : List Literal) (count end : ℕ) → NoneBelow tops Q count → end ≤ count → end ≡ min tops.longest (length Q) + 1 → IsBelowTop tops Q → ⊥
none-above tops Q count end h all e below =
    let n : length (take below.0 Q) ≡ below.0 = length-take-le below.0 Q below.1 in
    let low : tops.shortest ≤ length (take below.0 Q) = below.2.shortest in
    let high : length (take below.0 Q) ≤ tops.longest = below.2.longest in
    let fits : below.0 ≤ length Q = below.1 in
    let none : has_cube tops (take below.0 Q) ≡ false = h.none below.0 (omega arith) (omega arith) in
    let some : has_cube tops (take below.0 Q) ≡ true = below.2.one in
    absurd (cc)

pub one-above : (tops : Tops) (Q : List Literal) (count end : ℕ) → has_cube tops (take count Q) ≡ true → tops.shortest ≤ count → count < end → end ≡ min tops.longest (length Q) + 1 → IsBelowTop tops Q
one-above tops Q count end here low less e =
    let fits : count ≤ length Q = omega arith in
    let n : length (take count Q) ≡ count = length-take-le count Q fits in
    (count, fits, record { one = here; shortest = omega arith; longest = omega arith })

-- one cube more
module _ (old new : Tops) (key : Vec Lit Global) (here : contains_by (λ k. same_cube key.items k.items) new.lits ≡ true) (others : sets.KeepsOthers (λ x y. same_cube x.items y.items) (λ k. same_cube key.items k.items) old.lits.keys new.lits.keys)
    (shortest : new.shortest ≡ min old.shortest (length key.items)) (longest : new.longest ≡ max old.longest (length key.items)) where
  cond-true : (b c : Bool) → c ≡ true → cond b true c ≡ true
  cond-true true c e = refl
  cond-true false c e = e

  pub top-stays : (T : List Literal) → IsTop old T → IsTop new T
  top-stays T h =
      let low : old.shortest ≤ length T = h.shortest in
      let high : length T ≤ old.longest = h.longest in
      record {
        one = after-put (λ (k : Vec Lit Global). k.items) T key old.lits.keys new.lits.keys here others ∙ cond-true (same_cube T key.items) (has_cube old T) h.one;
        shortest = omega arith;
        longest = omega arith;
      }

  pub top-comes : IsTop new key.items
  top-comes = record { one = here; shortest = omega arith; longest = omega arith }

-- what is said where one fact more is taken up, whose cube is below one of the cubes
pub said-more : (Q R : List Literal) (word : Option Word) (facts longer : List Fact) (f : Fact) (w : Word) (new old : Option Word) → new ≡ cond (same_cube Q R) (Some w) old → R ≡ f.cube → w ≡ word_by f.claim → old ≡ said_behind Q word facts
    → facts ++ f ∷ [] ≡ longer → new ≡ said_behind Q word longer
said-more Q R word facts longer f w new old put cube says before all =
    put
    ∙ (ap (λ (P : List Literal). cond (same_cube Q P) (Some w) old) cube
    ∙ (ap (λ (v : Word). cond (same_cube Q f.cube) (Some v) old) says
    ∙ (ap (λ (o : Option Word). cond (same_cube Q f.cube) (Some (word_by f.claim)) o) before
    ∙ (sym (one-behind Q word facts f) ∙ ap (λ (fs : List Fact). said_behind Q word fs) all))))

-- and where it isn't
pub said-still : (Q : List Literal) (word : Option Word) (facts longer : List Fact) (f : Fact) (old : Option Word) → (Q ≡ f.cube → ⊥) → old ≡ said_behind Q word facts → facts ++ f ∷ [] ≡ longer → old ≡ said_behind Q word longer
said-still Q word facts longer f old other before all = before ∙ (sym (other-behind Q word facts f other) ∙ ap (λ (fs : List Fact). said_behind Q word fs) all)

-- one list of facts behind another
pub both-behind : (Q : List Literal) (word : Option Word) (fs gs : List Fact) → said_behind Q (said_behind Q word fs) gs ≡ said_behind Q word (fs ++ gs)
both-behind Q word [] gs = refl
both-behind Q word (f ∷ fs) gs = both-behind Q (if same_cube Q f.cube then Some (word_by f.claim) else word) fs gs

-- a half lies below what its cube lies below
below-half : (tops : Tops) (Q : List Literal) (l : Literal) → IsBelowTop tops Q → IsBelowTop tops (Q ++ l ∷ [])
below-half tops Q l below =
    let n : length (Q ++ l ∷ []) ≡ length Q + 1 = length-append Q (l ∷ []) in
    let fits : below.0 ≤ length Q = below.1 in
    (below.0, omega arith, subst (λ (P : List Literal). IsTop tops P) (sym (take-append-le below.0 Q (l ∷ []) below.1)) below.2)

pub top-below : (tops : Tops) (Q : List Literal) → IsTop tops Q → IsBelowTop tops Q
top-below tops Q top = (length Q, omega arith, subst (λ (P : List Literal). IsTop tops P) (sym (take_all (length Q) Q (omega arith))) top)

-- what cubes leave is by what is said of them and of those below them
module _ (F : Formula) (tops : Tops) (said other : List Literal → Option Word) (agree : (Q : List Literal) → IsBelowTop tops Q → said Q ≡ other Q) where
  same-leaves : (cubes left : List (List Literal)) (m : Bool) → LeavesOpen F said cubes left m → All (IsBelowTop tops) cubes → LeavesOpen F other cubes left m
  same-leaves cubes left m at_end all = at_end
  same-leaves cubes left m (at_refuted {Q = Q} {cubes = others} {left = rest} e h) all =
      at_refuted (sym (agree Q (All-head (IsBelowTop tops) Q others all)) ∙ e) (same-leaves others rest m h (All-tail (IsBelowTop tops) Q others all))
  same-leaves cubes left m (at_model {Q = Q} {cubes = others} e) all = at_model (sym (agree Q (All-head (IsBelowTop tops) Q others all)) ∙ e)
  same-leaves cubes left m (at_split {Q = Q} {cubes = others} {left = rest} x e fit h) all =
      let here = All-head (IsBelowTop tops) Q others all in
      at_split x (sym (agree Q here) ∙ e) fit
      (same-leaves (false_half Q x ∷ true_half Q x ∷ others) rest m h
      (All-cons (IsBelowTop tops) (false_half Q x) (true_half Q x ∷ others) (below-half tops Q (negative x) here)
      (All-cons (IsBelowTop tops) (true_half Q x) others (below-half tops Q (positive x) here) (All-tail (IsBelowTop tops) Q others all))))
  same-leaves cubes left m (at_open {Q = Q} {cubes = others} {left = rest} none h) all =
      at_open (subst (λ (w : Option Word). IsNoWord F Q w) (agree Q (All-head (IsBelowTop tops) Q others all)) none) (same-leaves others rest m h (All-tail (IsBelowTop tops) Q others all))

all-reversed : (P : List Literal → Type 0) (xs : List (List Literal)) → All P xs → All P (reverse xs)
all-reversed P [] h = h
all-reversed P (x ∷ xs) h = All-same P (reverse (x ∷ xs)) (reverse xs ++ x ∷ []) (reverse-append (x ∷ []) xs) (All-push P (reverse xs) x (all-reversed P xs (All-tail P x xs h)) (All-head P x xs h))

pub left-by-facts : (F : Formula) (words : Words) (way left : List (List Literal)) (m : Bool) → AreWordsOf way words → LeavesOpen F (said_in words) (reverse way) left m → AreLeftOpen F way left m
left-by-facts F words way left m of h = record {
  facts = of.facts;
  leaves = same-leaves F words.tops (said_in words) (λ Q. said_behind Q None of.facts) of.says (reverse way) left m h
      (all-reversed (IsBelowTop words.tops) way (All-weaker (IsTop words.tops) (IsBelowTop words.tops) (top-below words.tops) way of.asked));
}

-- nothing is said yet
pub no-words : (cubes : List (List Literal)) (words : Words) → All (IsTop words.tops) cubes → ((Q : List Literal) → said_in words Q ≡ None) → AreWordsOf cubes words
no-words cubes words asked none = record { facts = []; asked = asked; says = λ Q below. none Q }

-- what further facts say
pub words-more : (cubes : List (List Literal)) (old new : Words) (facts : List Fact) → AreWordsOf cubes old → new.tops ≡ old.tops → ((Q : List Literal) → IsBelowTop old.tops Q → said_in new Q ≡ said_behind Q (said_in old Q) facts) → AreWordsOf cubes new
words-more cubes old new facts of same says = record {
  facts = of.facts ++ facts;
  asked = subst (λ (tops : Tops). All (IsTop tops) cubes) (sym same) of.asked;
  says = λ Q below.
      let here : IsBelowTop old.tops Q = subst (λ (tops : Tops). IsBelowTop tops Q) same below in
      says Q here ∙ (ap (λ (w : Option Word). said_behind Q w facts) (of.says Q here) ∙ both-behind Q None of.facts facts);
}
