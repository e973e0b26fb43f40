use Rattle.std.proofs.Common.{◌≡◌, ◌+◌, ◌∙◌, ◌++◌, ◌∷◌, [], take, sym, ap, get_or, List, append_assoc}
use Rattle.std.proofs.lemmas.List.{map-append, take_more}
use Rattle.std.proofs.lemmas.List.Elements.{All-cons, All-nil}
use Rattle.theory.specs.Literals.{Literal, Clause, IsVariable}
use Rattle.theory.specs.Pure.{unit_clauses}
use Rattle.kernel.proofs.propagator.Propagator.attach_units.Goals as goal

pub loop-lit-preserved : goal.loop-lit-preserved
loop-lit-preserved c =
    let i = c.loop-lit.invariant in
    let e = c.in_ok-attach_first.ensures in
    let xs = c.args.units.now in
    let K = c.args.self.now.clauses.given in
    let at = c.loop-lit.lit-index in
    let x = c.lit-item.result in
    let one : unit_clauses (take at xs) ++ (x ∷ []) ∷ [] ≡ unit_clauses (take (at + 1) xs) = ap (λ (l : Literal). unit_clauses (take at xs) ++ (l ∷ []) ∷ []) c.lit-item.is
    ∙ sym (ap unit_clauses (take_more xs at x c.loop-lit-test.true) ∙ map-append (λ l. l ∷ []) (take at xs) (get_or xs at x ∷ [])) in
    record {
      clauses = e.clauses ∙ (ap (λ (ks : List Clause). ks ++ (x ∷ []) ∷ []) i.clauses ∙ (append_assoc K (unit_clauses (take at xs)) ((x ∷ []) ∷ []) ∙ ap (λ (ks : List Clause). K ++ ks) one));
      lists = e.lists ∙ i.lists;
      watching = λ V over s. e.watching V (All-cons (λ l. IsVariable V l.var) x [] (rw c.lit-item.is (over at x c.loop-lit-test.true)) (All-nil (λ l. IsVariable V l.var))) (i.watching V over s);
    }
