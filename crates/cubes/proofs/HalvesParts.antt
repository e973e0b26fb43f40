-- Both halves of a cube are handed on, or memory runs short on the way.
use Rattle.std.proofs.Common.{◌≡◌, ℕ, Bool, false, List, [], ◌++◌, sym, ◌∙◌, subst, append-nil}
use Rattle.theory.specs.Literals.{Literal}
use Rattle.theory.specs.Truth.{Formula}
use Rattle.theory.specs.Plans.{Plan}
use Rattle.theory.specs.Trees.{false_half, true_half}
use Rattle.theory.specs.Ledger.{Ledger, joined, empty}
use Rattle.theory.specs.Results.{Solved}
use Rattle.theory.specs.Round.{IsHandOn}
use Rattle.theory.proofs.hands.Joining.{joined-empty}
use Rattle.theory.proofs.hands.HalvesOn.{IsHandOn-nothing}
use Rattle.cubes.specs.Hands.{AddsHandOn, AddsHalves}

-- neither half
pub no-halves : (F : Formula) (plan : Plan) (ok : Bool) (Q : List Literal) (x : ℕ) (l : Ledger) (s : List Solved) → ok ≡ false → AddsHalves F plan ok Q x l l s s
no-halves F plan ok Q x l s o = record {
  left_done = false;
  right_done = false;
  left_piece = empty;
  right_piece = empty;
  left_results = [];
  right_results = [];
  left = IsHandOn-nothing F plan (false_half Q x);
  right = IsHandOn-nothing F plan (true_half Q x);
  both_done = λ e. absurd (cc);
  is_new = sym (joined-empty (joined l empty) ∙ joined-empty l);
  is_after = sym (append-nil (s ++ []) ∙ append-nil s);
}

-- the left one alone
pub left-half : (F : Formula) (plan : Plan) (a ok : Bool) (Q H : List Literal) (x : ℕ) (l0 l1 : Ledger) (s t : List Solved) → ok ≡ false → H ≡ false_half Q x → AddsHandOn F plan a H l0 l1 s t → AddsHalves F plan ok Q x l0 l1 s t
left-half F plan a ok Q H x l0 l1 s t o h p = record {
  left_done = a;
  right_done = false;
  left_piece = p.piece;
  right_piece = empty;
  left_results = p.results;
  right_results = [];
  left = subst (λ R. IsHandOn F plan a R p.piece p.results) h p.is_part;
  right = IsHandOn-nothing F plan (true_half Q x);
  both_done = λ e. absurd (cc);
  is_new = p.is_new ∙ sym (joined-empty (joined l0 p.piece));
  is_after = p.is_after ∙ sym (append-nil (s ++ p.results));
}
