use Rattle.std.proofs.Common.{◌≡◌, ℕ, List, [], ◌∷◌, ◌++◌, sym, subst, ◌∙◌, ap}
use Rattle.theory.specs.Learning.{Line}
use Rattle.lines.specs.Rows.{row}
use Rattle.packs.specs.Facts.{IsBody, hints_of}
use Rattle.packs.specs.Packs.{IsPackOf}
use Rattle.packs.proofs.FactLemmas.{bytes-joined}
use Rattle.packs.proofs.PackLemmas.{IsPackOf-push}
use Rattle.packs.proofs.writing.write_fact.Goals as goal

pub returns-in-Ok-clause-ok : goal.returns-in-Ok-clause-ok
returns-in-Ok-clause-ok c = λ fs p.
    let line : Line = record { clause = c.args.fact.now.cube; hints = hints_of c.args.fact.now.claim; forgets = [] } in
    let first : (row c.bytes.result.now).lines ≡ line ∷ [] = c.bytes.ensures.lines ∙ c.in_ok-first.ensures in
    let joined = bytes-joined c.bytes.result.now c.bytes_behind.result.now line c.bytes.ensures.whole c.bytes_behind.ensures.whole first in
    let body : IsBody (c.bytes.result.now ++ c.bytes_behind.result.now) c.args.fact.now
    = record { whole = joined.0; lines = joined.1 ∙ ap (λ (ls : List Line). line ∷ ls) c.bytes_behind.ensures.lines } in
    subst (λ (xs : List ℕ). IsPackOf xs (fs ++ c.args.fact.now ∷ [])) (sym c.in-Ok.ensures.framed)
    (IsPackOf-push c.args.bytes.now.items (c.bytes.result.now ++ c.bytes_behind.result.now) fs c.args.fact.now body p)
