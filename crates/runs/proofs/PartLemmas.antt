-- The parts of a proof, one after the other: each is given its lines, and then its text is written.
use Rattle.std.proofs.Common.{◌≡◌, ℕ, ◌+◌, ◌<◌, suc, List, [], ◌∷◌, ◌++◌, map, length, take, drop, set, get_or, Option, refl, ap, sym, subst, ◌∙◌, append-nil, append_assoc, arith, All, drop-set-lt}
use Rattle.std.proofs.lemmas.List.{drop_more, map-append, take_more_set}
use Rattle.std.proofs.lemmas.List.Elements.{All-push, All-same, All-tail}
use Rattle.std.specs.Io.KnownBytes.{Appends}
use Rattle.theory.specs.Steps.{Step}
use Rattle.theory.specs.Texts.{proof_text}
use Rattle.join.specs.Walking.{lines_left}
use Rattle.runs.specs.declared.by_hands.Part.{Part}
use Rattle.runs.specs.Parts.{text_of, whole, AreMade, IsMade}
use Rattle.runs.specs.Written.{IsOnItsWay}
use Rattle.runs.proofs.ProofLemmas.{ended, written-on, stopped}
use Rattle.runs.proofs.LineTexts.{proof_text-append}

-- the parts from one on
pub part-first : (ps : List Part) (i : ℕ) (d : Part) → i < length ps → drop i ps ≡ get_or ps i d ∷ drop (i + 1) ps
part-first ps i d within = drop_more ps i d within

-- one more has changed
pub All-changed : (P : Part → Type 0) (ps : List Part) (i : ℕ) (p : Part) → i < length ps → All P (take i ps) → P p → All P (take (i + 1) (set ps i p))
All-changed P ps i p within all one = All-same P (take (i + 1) (set ps i p)) (take i ps ++ p ∷ []) (take_more_set ps i p within) (All-push P (take i ps) p all one)

pub rest-kept : (ps : List Part) (i : ℕ) (p : Part) → drop (i + 1) (set ps i p) ≡ drop (i + 1) ps
rest-kept ps i p = drop-set-lt (i + 1) ps i p (omega arith)

pub All-left : (P : Part → Type 0) (ps : List Part) (i : ℕ) (p : Part) → i < length ps → All P (drop i ps) → All P (drop (i + 1) (set ps i p))
All-left P ps i p within all =
    All-same P (drop (i + 1) (set ps i p)) (drop (i + 1) ps) (rest-kept ps i p) (All-tail P (get_or ps i p) (drop (i + 1) ps) (subst (All P) (part-first ps i p within) all))

whole-append : (xs ys : List (List ℕ)) → whole (xs ++ ys) ≡ whole xs ++ whole ys
whole-append [] ys = refl
whole-append (x ∷ xs) ys = ap (λ t. x ++ t) (whole-append xs ys) ∙ sym (append_assoc x (whole xs) (whole ys))

-- one part more has lines, the next of those that were left
pub text-given : (ps : List Part) (i : ℕ) (p : Part) (all : List ℕ) (old new : List Step) → i < length ps → all ≡ whole (map text_of (take i ps)) ++ proof_text old → p.buffer.items ≡ [] → old ≡ lines_left p.lines ++ new
    → all ≡ whole (map text_of (take (i + 1) (set ps i p))) ++ proof_text new
text-given ps i p all old new within was none left =
    let so_far = map text_of (take i ps) in
    let here : text_of p ≡ proof_text (lines_left p.lines) = ap (λ t. t ++ proof_text (lines_left p.lines)) none in
    let more : whole (map text_of (take (i + 1) (set ps i p))) ≡ whole so_far ++ text_of p =
    ap (λ qs. whole (map text_of qs)) (take_more_set ps i p within) ∙ ap whole (map-append text_of (take i ps) (p ∷ [])) ∙ whole-append so_far (text_of p ∷ []) ∙ ap (λ t. whole so_far ++ t) (append-nil (text_of p)) in
    was
    ∙ ap (λ ls. whole so_far ++ proof_text ls) left
    ∙ ap (λ t. whole so_far ++ t) (proof_text-append (lines_left p.lines) new ∙ ap (λ t. t ++ proof_text new) (sym here))
    ∙ sym (append_assoc (whole so_far) (text_of p) (proof_text new))
    ∙ ap (λ t. t ++ proof_text new) (sym more)

-- each part is made
pub each-made : (ps qs : List Part) → length qs ≡ length ps → ((i : ℕ) (d : Part) → i < length ps → IsMade (text_of (get_or ps i d)) (get_or qs i d)) → AreMade (map text_of ps) qs
each-made [] [] same each = tt
each-made [] (q ∷ qs) same each = absurd (omega arith)
each-made (p ∷ ps) [] same each = absurd (omega arith)
each-made (p ∷ ps) (q ∷ qs) same each = (each 0 p (omega arith), each-made ps qs (omega arith) (λ i d lt. each (suc i) d (omega arith)))

-- these texts are left, of parts that are made, and those before them are written
pub record AreLeft (a b : Option (List ℕ)) (texts : List (List ℕ)) (parts : List Part) : Type 0 where
  pub left : List (List ℕ)
  pub made : AreMade left parts
  pub way : IsOnItsWay a b (whole left) (whole texts)

-- the next part has a text
pub next-made : (left : List (List ℕ)) (parts rest : List Part) (p : Part) → AreMade left parts → parts ≡ p ∷ rest → (text : List ℕ) × IsMade text p
next-made [] parts rest p made is = absurd (subst (AreMade []) is made)
next-made (t ∷ ts) parts rest p made is = (t, (subst (AreMade (t ∷ ts)) is made).0)

-- which is written
pub text-written : (a b d : Option (List ℕ)) (texts left : List (List ℕ)) (parts rest : List Part) (p : Part) → AreMade left parts → IsOnItsWay a b (whole left) (whole texts) → parts ≡ p ∷ rest → ((t : List ℕ) → IsMade t p → Appends b d t) → AreLeft a d texts rest
text-written a b d texts [] parts rest p made way is writes = absurd (subst (AreMade []) is made)
text-written a b d texts (t ∷ ts) parts rest p made way is writes =
    let here = subst (AreMade (t ∷ ts)) is made in
    record { left = ts; made = here.1; way = written-on a b d t (whole ts) (whole (t ∷ ts)) (whole texts) way refl (writes t here.0) }

-- or a beginning of it
pub text-stopped : (a b d : Option (List ℕ)) (texts left : List (List ℕ)) (parts rest : List Part) (p : Part) → AreMade left parts → IsOnItsWay a b (whole left) (whole texts) → parts ≡ p ∷ rest
    → ((t : List ℕ) → IsMade t p → (count : ℕ) × Appends b d (take count t)) → (n : ℕ) × Appends a d (take n (whole texts))
text-stopped a b d texts [] parts rest p made way is writes = absurd (subst (AreMade []) is made)
text-stopped a b d texts (t ∷ ts) parts rest p made way is writes =
    let here = subst (AreMade (t ∷ ts)) is made in
    let w = writes t here.0 in
    stopped a b d t (whole ts) (whole (t ∷ ts)) (whole texts) w.0 way refl w.1

-- no part is left
pub none-left : (a b : Option (List ℕ)) (texts : List (List ℕ)) → AreLeft a b texts [] → Appends a b (whole texts)
none-left a b texts h = go h.left h.made h.way
  where
    go : (left : List (List ℕ)) → AreMade left [] → IsOnItsWay a b (whole left) (whole texts) → Appends a b (whole texts)
    go [] made way = ended a b [] (whole texts) way refl
    go (t ∷ ts) made way = absurd made
