-- Line feeds of a text, counted piece by piece.
use Rattle.std.proofs.Common.{◌≡◌, ℕ, suc, ◌+◌, ◌-◌, ◌≤◌, List, [], ◌∷◌, ◌++◌, length, take, drop, nat_eq, true, false, if◌then◌else◌, sym, ap, ◌∙◌, arith}
use Rattle.std.proofs.lemmas.List.{take-append-drop, drop-drop, length-take-le, length-drop}
use Rattle.messages.specs.Lines.{line_feeds}

line_feeds-append : (xs ys : List ℕ) → line_feeds (xs ++ ys) ≡ line_feeds xs + line_feeds ys
line_feeds-append [] ys = omega arith
line_feeds-append (b ∷ bs) ys =
    let more = line_feeds-append bs ys in
    elim (nat_eq b 10) as (λ t. (if t then suc (line_feeds (bs ++ ys)) else line_feeds (bs ++ ys)) ≡ (if t then suc (line_feeds bs) else line_feeds bs) + line_feeds ys) [
      | true ↦ omega (arith, more)
      | false ↦ more
    ]

line_feeds-few : (xs : List ℕ) → line_feeds xs ≤ length xs
line_feeds-few [] = omega arith
line_feeds-few (b ∷ bs) =
    let few = line_feeds-few bs in
    elim (nat_eq b 10) as (λ t. (if t then suc (line_feeds bs) else line_feeds bs) ≤ suc (length bs)) [
      | true ↦ omega (arith, few)
      | false ↦ omega (arith, few)
    ]

-- a part of the text more
module _ (text : List ℕ) (at end part : ℕ) (rises : at ≤ end) (within : end ≤ length text) (is : part ≡ line_feeds (take (end - at) (drop at text))) where
  pub part-counted : (count : ℕ) → count + line_feeds (drop at text) ≡ line_feeds text → count + part + line_feeds (drop end text) ≡ line_feeds text
  part-counted count before = omega (arith, is, before, both)
    where
      rest : drop (end - at) (drop at text) ≡ drop end text
      rest = drop-drop (end - at) at text ∙ ap (λ n. drop n text) (omega (arith, rises))

      both : line_feeds (take (end - at) (drop at text)) + line_feeds (drop end text) ≡ line_feeds (drop at text)
      both =
          ap (λ xs. line_feeds (take (end - at) (drop at text)) + line_feeds xs) (sym rest)
          ∙ (sym (line_feeds-append (take (end - at) (drop at text)) (drop (end - at) (drop at text))) ∙ ap line_feeds (take-append-drop (end - at) (drop at text)))

  pub part-few : part ≤ end - at
  part-few =
      let few = line_feeds-few (take (end - at) (drop at text)) in
      let rest = length-drop at text in
      let long = length-take-le (end - at) (drop at text) (omega (arith, rest, within)) in
      omega (arith, is, few, long)
