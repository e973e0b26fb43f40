-- A line that replays.
use Rattle.std.proofs.Common.{◌≡◌, ◌↔◌, ℕ, Bool, true, false, IsTrue, List, ◌++◌, ap, sym, ◌∙◌}
use Rattle.std.proofs.lemmas.List.Elements.{All-append}
use Rattle.theory.specs.Literals.{Literal, Clause, IsVariable, has_both_signs, negations}
use Rattle.theory.specs.Truth.{IsOver}
use Rattle.theory.specs.Checking.{take_hints}
use Rattle.theory.specs.Replaying.{carrying_from, IsReplayed}
use Rattle.theory.proofs.literals.LiteralSets.{true_false}
use Rattle.theory.proofs.literals.OverVariables.{AreOver-from_IsOver, IsOver-from_AreOver, AreOver-negations, IsOver-left}
use Rattle.lrat.proofs.SameLiterals.{take_hints-same}
use Rattle.packs.specs.Known.{is_conflict}
use Rattle.packs.proofs.KnownLemmas.{conflicts-from_is, is_conflict-same}
use Rattle.packs.proofs.HoldingLemmas.{Denies}
use Rattle.packs.proofs.PastLines.{line_of}

-- what a line has that replays
pub beyond-fails : (V N : ℕ) (Q : List Literal) (K : List Clause) (c : Clause) (hints forgets : List ℕ) → ¬ (IsOver V c) → IsTrue false ↔ IsReplayed V N Q K (line_of c hints forgets)
beyond-fails V N Q K c hints forgets h = (λ t. absurd (cc), λ r. absurd (h (IsOver-left V c (negations Q) r.over)))

pub signs-fail : (V N : ℕ) (Q : List Literal) (K : List Clause) (c : Clause) (hints forgets : List ℕ) → true ≡ has_both_signs (c ++ negations Q) → IsTrue false ↔ IsReplayed V N Q K (line_of c hints forgets)
signs-fail V N Q K c hints forgets h = (λ t. absurd (cc), λ r. true_false (has_both_signs (c ++ negations Q)) (sym h) r.one_sign)

pub taken-replays : (V N : ℕ) (Q P : List Literal) (K : List Clause) (c : Clause) (hints forgets : List ℕ) (b : Bool) → b ≡ is_conflict (take_hints (carrying_from 1 N Q K) P hints)
    → Denies c Q P → false ≡ has_both_signs (c ++ negations Q) → IsOver V c → IsOver V Q → IsTrue b ↔ IsReplayed V N Q K (line_of c hints forgets)
taken-replays V N Q P K c hints forgets b e held signs over cube = (
  λ t. record {
    passes = conflicts-from_is (take_hints (carrying_from 1 N Q K) (negations (c ++ negations Q)) hints) (alike ∙ (sym e ∙ t));
    one_sign = sym signs;
    over = All-append (λ (l : Literal). IsVariable V l.var) c (negations Q) over (IsOver-from_AreOver V (negations Q) (AreOver-negations V Q (AreOver-from_IsOver V Q cube)));
  },
  λ r. e ∙ (sym alike ∙ ap is_conflict r.passes),
)
  where
    alike : is_conflict (take_hints (carrying_from 1 N Q K) (negations (c ++ negations Q)) hints) ≡ is_conflict (take_hints (carrying_from 1 N Q K) P hints)
    alike = is_conflict-same (take_hints (carrying_from 1 N Q K) (negations (c ++ negations Q)) hints) (take_hints (carrying_from 1 N Q K) P hints)
        (take_hints-same (carrying_from 1 N Q K) (negations (c ++ negations Q)) P hints held.same)
