use Rattle.std.proofs.Common.{◌≡◌, ◌∙◌, ◌++◌, ◌∷◌, [], length, take, ap, ap₂, sym, subst, arith, ℕ, Bool}
use Rattle.std.proofs.lemmas.List.{map_push, take_more}
use Rattle.std.proofs.lemmas.List.Elements.{All-push, All-more}
use Rattle.theory.specs.Literals.{Literal, Clause, IsVariable}
use Rattle.theory.specs.Truth.{IsOver}
use Rattle.session.specs.Naming.{IsMore, variable_of, outward, all_outward}
use Rattle.session.proofs.TrailTruths.{IsOver-more}
use Rattle.session.proofs.NamingLemmas.{IsMore-then, literals-same}
use Rattle.session.proofs.names.Names.put_numbers.Goals as goal

pub loop-lit-preserved : goal.loop-lit-preserved
loop-lit-preserved c =
    let h = c.loop-lit.invariant in
    let N = c.loop-lit.self in
    let P = c.number_of.new.self in
    let before = c.loop-lit.numbered.items in
    let i = c.loop-lit.lit-index in
    let lits = c.args.lits.now in
    let lit = c.lit-item.result in
    let l = c.of.result in
    let V = length P.variables in
    let W = length P.numbers in
    let more : IsMore N P = c.number_of.ensures.more in
    let number : l.var ≡ c.in_ok-number.number = ap (λ (k : Literal). k.var) c.of.ensures in
    let var : variable_of P l.var ≡ lit.var = ap (variable_of P) number ∙ (c.in_ok-number.ensures.number.1 ∙ c.var.ensures.var) in
    let positive : l.positive ≡ lit.positive = ap (λ (k : Literal). k.positive) c.of.ensures ∙ c.positive.ensures in
    let same : outward P l ≡ lit = ap₂ (λ (v : ℕ) (p : Bool). record { var = v; positive = p }) var positive in
    let numbered : IsVariable V l.var = subst (IsVariable V) (sym number) c.in_ok-number.ensures.number.0 in
    let named : IsVariable W lit.var = let is = c.var.ensures.var in let some = c.var.ensures.some in let high = c.in_ok-number.ensures.named in (omega (arith, is, some), omega (arith, is, high)) in
    record {
      outward = ap (all_outward P) c.in_ok-push.ensures.items
          ∙ (map_push (outward P) before l
          ∙ (ap₂ (λ (ls : Clause) (k : Literal). ls ++ k ∷ []) (literals-same N P more before h.over ∙ h.outward) (same ∙ c.lit-item.is) ∙ sym (take_more lits i lit c.loop-lit-test.true)));
      over = subst (IsOver V) (sym c.in_ok-push.ensures.items) (All-push (λ (k : Literal). IsVariable V k.var) before l (IsOver-more (length N.variables) V before more.variables h.over) numbered);
      named = All-more (λ (k : Literal). IsVariable W k.var) lits i lit c.loop-lit-test.true (IsOver-more (length N.numbers) W (take i lits) more.numbers h.named) (subst (λ (k : Literal). IsVariable W k.var) c.lit-item.is named);
      more = IsMore-then c.args.self.now N P h.more more;
    }
