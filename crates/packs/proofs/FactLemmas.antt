-- Facts and their lines.
use Rattle.std.proofs.Common.{◌≡◌, ℕ, List, [], ◌∷◌, ◌++◌, refl, ap, sym, ◌∙◌}
use Rattle.theory.specs.Learning.{Line}
use Rattle.lines.specs.Rows.{Part, row, whole, with_bytes, IsWhole}
use Rattle.lines.proofs.RowLemmas.{with_bytes-append}
use Rattle.lines.proofs.ReadingLemmas.{behind, lines-behind}
use Rattle.packs.specs.declared.fact.Claim.{Claim}
use Rattle.packs.specs.declared.fact.Claim.TheVariants.{Split, Refuted, Model}
use Rattle.packs.specs.declared.fact.Fact.{Fact}
use Rattle.packs.specs.Facts.{hints_of, lines_behind, lines_of}

claim-same : (a b : Claim) → hints_of a ≡ hints_of b → lines_behind a ≡ lines_behind b → a ≡ b
claim-same (Split x) (Split y) h k = cc
claim-same (Split x) (Refuted lines) h k = absurd (cc)
claim-same (Split x) Model h k = absurd (cc)
claim-same (Refuted lines) (Split y) h k = absurd (cc)
claim-same (Refuted lines) (Refuted others) h k = ap Refuted k
claim-same (Refuted lines) Model h k = absurd (cc)
claim-same Model (Split y) h k = absurd (cc)
claim-same Model (Refuted lines) h k = absurd (cc)
claim-same Model Model h k = refl

-- lines are those of one fact at most
pub fact-same : (f g : Fact) → lines_of f ≡ lines_of g → f ≡ g
fact-same f g e =
    let head : Fact → Line = λ (h : Fact). record { clause = h.cube; hints = hints_of h.claim; forgets = [] } in
    let heads : head f ≡ head g = cc in
    let behinds : lines_behind f.claim ≡ lines_behind g.claim = cc in
    let claims : f.claim ≡ g.claim = claim-same f.claim g.claim (ap (λ (l : Line). l.hints) heads) behinds in
    let cubes : f.cube ≡ g.cube = ap (λ (l : Line). l.clause) heads in
    (λ i. record { cube = cubes i; claim = claims i })

-- a line in front of others, as bytes
pub bytes-joined : (xs ys : List ℕ) (l : Line) → IsWhole xs → IsWhole ys → (row xs).lines ≡ l ∷ [] → IsWhole (xs ++ ys) × ((row (xs ++ ys)).lines ≡ l ∷ (row ys).lines)
bytes-joined xs ys l a b e =
    let first : row xs ≡ behind l (whole []) = a ∙ ap whole e in
    let all : row (xs ++ ys) ≡ behind l (row ys) = with_bytes-append (whole []) xs ys ∙ (ap (λ (p : Part). with_bytes p ys) first ∙ lines-behind l (whole []) ys) in
    let lines : (row (xs ++ ys)).lines ≡ l ∷ (row ys).lines = ap (λ (p : Part). p.lines) all in
    let rest : behind l (row ys) ≡ whole (l ∷ (row ys).lines) = ap (behind l) b in
    (all ∙ (rest ∙ ap whole (sym lines)), lines)
