-- The negations of a place's literals, by its splits.
use Rattle.std.proofs.Common.{◌≡◌, ℕ, List, [], ◌∷◌, ◌++◌, map, reverse, Option, Some, None, All, refl, ap, sym, ◌∙◌, subst}
use Rattle.std.specs.Option.{is_none}
use Rattle.std.proofs.lemmas.List.{map-append, reverse-append}
use Rattle.std.proofs.lemmas.List.Elements.{All-head, All-tail, All-push}
use Rattle.theory.specs.Literals.{Literal, negated, negations}
use Rattle.cubes.specs.declared.traversal.Split.{Split}
use Rattle.cubes.specs.Traversal.{half, path}

-- the negation of the literal of a split
abbrev pub opposite : Split ℕ → Literal
opposite h = record { var = h.var; positive = is_none h.left }

negated-half : (x : ℕ) (o : Option ℕ) → negated (half x o) ≡ record { var = x; positive = is_none o }
negated-half x None = refl
negated-half x (Some left) = refl

-- in the order in which the splits came
pub negations-path : (hs : List (Split ℕ)) → negations (path hs) ≡ map opposite (reverse hs)
negations-path [] = refl
negations-path (h ∷ hs) =
    map-append negated (path hs) (half h.var h.left ∷ [])
    ∙ (ap (λ Q. Q ++ negated (half h.var h.left) ∷ []) (negations-path hs)
    ∙ (ap (λ l. map opposite (reverse hs) ++ l ∷ []) (negated-half h.var h.left)
    ∙ (sym (map-append opposite (reverse hs) (h ∷ [])) ∙ ap (map opposite) (sym (reverse-append (h ∷ []) hs)))))

pub All-reverse : {X : Type 0} (P : X → Type 0) (xs : List X) → All P xs → All P (reverse xs)
All-reverse P [] h = h
All-reverse P (x ∷ xs) h = subst (All P) (sym (reverse-append (x ∷ []) xs)) (All-push P (reverse xs) x (All-reverse P xs (All-tail P x xs h)) (All-head P x xs h))
