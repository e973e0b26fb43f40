use Rattle.std.proofs.Common.{◌≡◌, ◌+◌, ◌++◌, ◌∷◌, [], take, set, arith, length-set, append_assoc, ap, ◌∙◌}
use Rattle.std.proofs.lemmas.Fmt.{length-decimal-le}
use Rattle.std.proofs.lemmas.Grind.{take-set_at}
use Rattle.theory.specs.Texts.{space}
use Rattle.lrat_text.proofs.WordLemmas.{line-begun}
use Rattle.lrat_text.proofs.placed.place_clause.Goals as goal

pub place_number-behind_id-requires : goal.place_number-behind_id-requires
place_number-behind_id-requires c = omega (arith, length-decimal-le 20 c.args.id (omega arith) (omega arith) (omega arith))

pub place_literals-behind_clause-requires : goal.place_literals-behind_clause-requires
place_literals-behind_clause-requires c = omega (arith, length-decimal-le 20 c.args.id (omega arith) (omega arith) (omega arith))

pub bounds-bytes-behind_clause : goal.bounds-bytes-behind_clause
bounds-bytes-behind_clause c = omega (arith, length-decimal-le 20 c.args.id (omega arith) (omega arith) (omega arith))

pub bounds-bytes-behind_clause-2 : goal.bounds-bytes-behind_clause-2
bounds-bytes-behind_clause-2 c =
    let bytes = c.place_literals-behind_clause.new.bytes in
    omega (arith, length-decimal-le 20 c.args.id (omega arith) (omega arith) (omega arith), length-set bytes c.place_literals-behind_clause.result 48)

pub place_numbers-requires : goal.place_numbers-requires
place_numbers-requires c =
    let bytes = c.place_literals-behind_clause.new.bytes in
    let at = c.place_literals-behind_clause.result in
    omega (arith, length-decimal-le 20 c.args.id (omega arith) (omega arith) (omega arith), length-set bytes at 48, length-set (set bytes at 48) (at + 1) 32)

pub returns-clause-within : goal.returns-clause-within
returns-clause-within c =
    let bytes = c.place_literals-behind_clause.new.bytes in
    let at = c.place_literals-behind_clause.result in
    omega (arith, length-decimal-le 20 c.args.id (omega arith) (omega arith) (omega arith), length-set bytes at 48, length-set (set bytes at 48) (at + 1) 32)

pub returns-clause-text : goal.returns-clause-text
returns-clause-text c =
    let bytes = c.place_literals-behind_clause.new.bytes in
    let at = c.place_literals-behind_clause.result in
    let long = length-decimal-le 20 c.args.id (omega arith) (omega arith) (omega arith) in
    let mark : take (at + 2) (set (set bytes at 48) (at + 1) 32) ≡ take at bytes ++ 48 ∷ space ∷ [] =
    take-set_at (set bytes at 48) (at + 1) (at + 2) 32 (omega arith) (omega (arith, length-set bytes at 48))
    ∙ ap (λ xs. xs ++ 32 ∷ []) (take-set_at bytes at (at + 1) 48 (omega arith) (omega arith))
    ∙ append_assoc (take at bytes) (48 ∷ []) (32 ∷ []) in
    line-begun c.args.id c.args.clause.now c.args.hints.now _ _ _ _ _ c.place_number-behind_id.ensures.text c.place_literals-behind_clause.ensures.text mark c.place_numbers.ensures.text
