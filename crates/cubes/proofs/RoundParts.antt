-- The parts of a round over what a hand's calls have noted.
use Rattle.std.proofs.lemmas.List.Elements.{All-push}
use Rattle.std.proofs.Common.{◌≡◌, ℕ, ◌<◌, ◌≤◌, Bool, true, false, Option, Some, None, List, [], ◌∷◌, ◌++◌, sym, ap, ◌∙◌, subst, append-nil, append_assoc}
use Rattle.theory.specs.Literals.{Literal, IsVariable}
use Rattle.theory.specs.Truth.{Formula, Assignment, IsOver}
use Rattle.theory.specs.Plans.{Plan}
use Rattle.theory.specs.Learning.{Line}
use Rattle.theory.specs.Search.{model, refuted, exhausted}
use Rattle.theory.specs.Runs.{Runs}
use Rattle.theory.specs.Trees.{false_half, true_half}
use Rattle.theory.specs.Places.{place_of}
use Rattle.theory.specs.Results.{Solved, done, skipped}
use Rattle.theory.specs.Ledger.{Ledger, joined, putting, calling, offer, look, more, less}
use Rattle.theory.specs.Work.{IsNotBelow}
use Rattle.theory.specs.Round.{IsHandOn, IsRound, Adds}
use Rattle.theory.proofs.hands.Joining.{joined-assoc}
use Rattle.theory.proofs.hands.RoundEnds.{only_calls, IsRound-short, IsRound-skipped, IsRound-refuted, IsRound-model}
use Rattle.theory.proofs.hands.HalvesOn.{looked_then, IsRound-exhausted, IsRound-right_short, IsHandOn-put, IsHandOn-refused}

-- one piece after another
pub after-two : (l0 l1 l2 a b : Ledger) → l1 ≡ joined l0 a → l2 ≡ joined l1 b → l2 ≡ joined l0 (joined a b)
after-two l0 l1 l2 a b e f = f ∙ ap (λ l. joined l b) e ∙ joined-assoc l0 a b

pub put-part : (F : Formula) (plan : Plan) (H : List Literal) (l0 l1 l2 : Ledger) (s : List Solved) → l1 ≡ joined l0 (calling more) → l2 ≡ joined l1 (putting H) → Adds (IsHandOn F plan true H) l0 l2 s s
put-part F plan H l0 l1 l2 s e f = record {
  piece = joined (calling more) (putting H);
  results = [];
  is_new = after-two l0 l1 l2 (calling more) (putting H) e f;
  is_after = sym (append-nil s);
  is_part = IsHandOn-put F plan H;
}

pub refused-part : (F : Formula) (plan : Plan) (ok : Bool) (H R : List Literal) (l0 l1 l2 l3 l4 : Ledger) (s t : List Solved) → l1 ≡ joined l0 (calling more) → R ≡ H → l2 ≡ l1 → l3 ≡ joined l2 (calling less)
    → Adds (λ p t. (p.put ≡ []) × IsHandOn F plan ok R p t) l3 l4 s t → Adds (IsHandOn F plan ok H) l0 l4 s t
refused-part F plan ok H R l0 l1 l2 l3 l4 s t e r f g a = record {
  piece = joined (joined (calling more) (calling less)) a.piece;
  results = a.results;
  is_new = after-two l0 l3 l4 (joined (calling more) (calling less)) a.piece (after-two l0 l2 l3 (calling more) (calling less) (f ∙ e) g) a.is_new;
  is_after = a.is_after;
  is_part = IsHandOn-refused F plan ok H a.piece a.results (subst (λ Q. IsHandOn F plan ok Q a.piece a.results) r a.is_part.1) a.is_part.0;
}

pub look-part : (F : Formula) (plan : Plan) (Q : List Literal) (l0 l1 : Ledger) (s t : List Solved) (seen : Option ℕ) (ok : Bool) → ok ≡ false → l1 ≡ joined l0 (calling (look seen)) → t ≡ s → Adds (IsRound F plan ok Q) l0 l1 s t
look-part F plan Q l0 l1 s t seen ok o e f = record {
  piece = only_calls (look seen ∷ []);
  results = [];
  is_new = e;
  is_after = f ∙ sym (append-nil s);
  is_part = subst (λ b. IsRound F plan b Q (only_calls (look seen ∷ [])) []) (sym o) (IsRound-short F plan Q seen);
}

pub skip-part : (F : Formula) (plan : Plan) (Q : List Literal) (l0 l1 l2 : Ledger) (s t : List Solved) (seen : Option ℕ) (least : ℕ) → l1 ≡ joined l0 (calling (look seen)) → seen ≡ Some least → least < place_of Q
    → l2 ≡ joined l1 (calling less) → t ≡ s ++ record { cube = Q; what = skipped least } ∷ [] → Adds (IsRound F plan true Q) l0 l2 s t
skip-part F plan Q l0 l1 l2 s t seen least e n b f h = record {
  piece = only_calls (look (Some least) ∷ less ∷ []);
  results = record { cube = Q; what = skipped least } ∷ [];
  is_new = after-two l0 l1 l2 (calling (look (Some least))) (calling less) (e ∙ ap (λ a. joined l0 (calling (look a))) n) f;
  is_after = h;
  is_part = IsRound-skipped F plan Q least b;
}

pub refuted-part : (F : Formula) (plan : Plan) (Q : List Literal) (l0 l1 l2 : Ledger) (s t : List Solved) (seen : Option ℕ) (lines : List Line) → l1 ≡ joined l0 (calling (look seen)) → IsNotBelow seen (place_of Q)
    → Runs F plan Q (refuted lines) → l2 ≡ joined l1 (calling less) → t ≡ s ++ record { cube = Q; what = done (refuted lines) } ∷ [] → Adds (IsRound F plan true Q) l0 l2 s t
refuted-part F plan Q l0 l1 l2 s t seen lines e b r f h = record {
  piece = only_calls (look seen ∷ less ∷ []);
  results = record { cube = Q; what = done (refuted lines) } ∷ [];
  is_new = after-two l0 l1 l2 (calling (look seen)) (calling less) e f;
  is_after = h;
  is_part = IsRound-refuted F plan Q seen lines b r;
}

pub model-part : (F : Formula) (plan : Plan) (Q : List Literal) (l0 l1 l2 l3 : Ledger) (s t : List Solved) (seen : Option ℕ) (M : Assignment) (place : ℕ) → l1 ≡ joined l0 (calling (look seen)) → IsNotBelow seen (place_of Q)
    → Runs F plan Q (model M) → place ≡ place_of Q → l2 ≡ joined l1 (calling (offer place)) → l3 ≡ joined l2 (calling less) → t ≡ s ++ record { cube = Q; what = done (model M) } ∷ [] → Adds (IsRound F plan true Q) l0 l3 s t
model-part F plan Q l0 l1 l2 l3 s t seen M place e b r p f g h = record {
  piece = only_calls (look seen ∷ offer (place_of Q) ∷ less ∷ []);
  results = record { cube = Q; what = done (model M) } ∷ [];
  is_new = after-two l0 l2 l3 (joined (calling (look seen)) (calling (offer (place_of Q)))) (calling less)
      (after-two l0 l1 l2 (calling (look seen)) (calling (offer (place_of Q))) e (f ∙ ap (λ a. joined l1 (calling (offer a))) p)) g;
  is_after = h;
  is_part = IsRound-model F plan Q seen M b r;
}

both-after : (s t u v : List Solved) (x : Solved) (p q : List Solved) → t ≡ s ++ x ∷ [] → u ≡ t ++ p → v ≡ u ++ q → v ≡ s ++ (x ∷ p ++ q)
both-after s t u v x p q f g h = h ∙ ap (λ y. y ++ q) (g ∙ ap (λ y. y ++ p) f ∙ append_assoc s (x ∷ []) p) ∙ append_assoc s (x ∷ p) q

pub right-short : (F : Formula) (plan : Plan) (Q H K : List Literal) (x : ℕ) (l0 l1 l2 l3 : Ledger) (s t u v : List Solved) (seen : Option ℕ) (a b ok : Bool) → ok ≡ false → l1 ≡ joined l0 (calling (look seen))
    → Runs F plan Q (exhausted x) → H ≡ false_half Q x → K ≡ true_half Q x → t ≡ s ++ record { cube = Q; what = done (exhausted x) } ∷ [] → Adds (IsHandOn F plan a H) l1 l2 t u
    → Adds (IsHandOn F plan b K) l2 l3 u v → Adds (IsRound F plan ok Q) l0 l3 s v
right-short F plan Q H K x l0 l1 l2 l3 s t u v seen a b ok o e r h k f p q = record {
  piece = joined (looked_then seen p.piece) q.piece;
  results = record { cube = Q; what = done (exhausted x) } ∷ p.results ++ q.results;
  is_new = after-two l0 l2 l3 (looked_then seen p.piece) q.piece (after-two l0 l1 l2 (calling (look seen)) p.piece e p.is_new) q.is_new;
  is_after = both-after s t u v (record { cube = Q; what = done (exhausted x) }) p.results q.results f p.is_after q.is_after;
  is_part = subst (λ c. IsRound F plan c Q (joined (looked_then seen p.piece) q.piece) (record { cube = Q; what = done (exhausted x) } ∷ p.results ++ q.results)) (sym o)
      (IsRound-right_short F plan Q x seen a b p.piece q.piece p.results q.results r (subst (λ R. IsHandOn F plan a R p.piece p.results) h p.is_part) (subst (λ R. IsHandOn F plan b R q.piece q.results) k q.is_part));
}

pub exhausted-part : (F : Formula) (plan : Plan) (Q H K : List Literal) (x : ℕ) (l0 l1 l2 l3 l4 : Ledger) (s t u v : List Solved) (seen : Option ℕ) (a b : Bool) → a ≡ true → b ≡ true → l1 ≡ joined l0 (calling (look seen))
    → IsNotBelow seen (place_of Q) → Runs F plan Q (exhausted x) → H ≡ false_half Q x → K ≡ true_half Q x → t ≡ s ++ record { cube = Q; what = done (exhausted x) } ∷ []
    → Adds (IsHandOn F plan a H) l1 l2 t u → Adds (IsHandOn F plan b K) l2 l3 u v → l4 ≡ joined l3 (calling less) → Adds (IsRound F plan true Q) l0 l4 s v
exhausted-part F plan Q H K x l0 l1 l2 l3 l4 s t u v seen a b i j e n r h k f p q g = record {
  piece = joined (joined (looked_then seen p.piece) q.piece) (calling less);
  results = record { cube = Q; what = done (exhausted x) } ∷ p.results ++ q.results;
  is_new = after-two l0 l3 l4 (joined (looked_then seen p.piece) q.piece) (calling less)
      (after-two l0 l2 l3 (looked_then seen p.piece) q.piece (after-two l0 l1 l2 (calling (look seen)) p.piece e p.is_new) q.is_new) g;
  is_after = both-after s t u v (record { cube = Q; what = done (exhausted x) }) p.results q.results f p.is_after q.is_after;
  is_part = IsRound-exhausted F plan Q x seen p.piece q.piece p.results q.results r n
      (subst (λ c. IsHandOn F plan c (false_half Q x) p.piece p.results) i (subst (λ R. IsHandOn F plan a R p.piece p.results) h p.is_part))
      (subst (λ c. IsHandOn F plan c (true_half Q x) q.piece q.results) j (subst (λ R. IsHandOn F plan b R q.piece q.results) k q.is_part));
}

pub not-below-some : (seen : Option ℕ) (least place p : ℕ) → seen ≡ Some least → place ≤ least → place ≡ p → IsNotBelow seen p
not-below-some seen least place p e l f = subst (λ o. IsNotBelow o p) (sym e) (subst (λ q. q ≤ least) f l)

pub not-below-none : (seen : Option ℕ) (p : ℕ) → seen ≡ None → IsNotBelow seen p
not-below-none seen p e = subst (λ o. IsNotBelow o p) (sym e) tt

pub over-half : (V : ℕ) (Q H : List Literal) (l : Literal) → IsOver V Q → IsVariable V l.var → H ≡ Q ++ l ∷ [] → IsOver V H
over-half V Q H l o v e = subst (IsOver V) (sym e) (All-push (λ k. IsVariable V k.var) Q l o v)
