use Rattle.std.proofs.Common.{◌≡◌, ◌∙◌, ◌+◌, ◌-◌, ◌++◌, ◌∷◌, [], List, take, drop, ap, sym, length, length-append, arith, refl, subst, true}
use Rattle.std.specs.Vec.{with_items}
use Rattle.std.specs.List.Sorted.{IsPermutation}
use Rattle.std.proofs.lemmas.List.{with_items_is}
use Rattle.std.proofs.lemmas.List.Sorted.{length_permutation}
use Rattle.theory.specs.Literals.{Literal, Clause, has}
use Rattle.cnf.specs.Pieces.{pieces}
use Rattle.kernel.specs.Shown.{shown}
use Rattle.cnf.proofs.Pieces.{pieces-push, AreEnds-push, tail-written, tail-read}
use Rattle.kernel.proofs.Shown.{shown-push}
use Rattle.kernel.proofs.clauses.clauses.Clauses.push_led.Goals as goal

some : (c : Clause) (l : Literal) → has c l ≡ true → length c ≡ 0 → ⊥
some [] l h e = absurd (cc)
some (k ∷ c) l h e = omega (arith, e)

abbrev now : goal.In-Ok → List Literal
now c = take c.len-start.result c.deref_mut.result.now ++ (c.lead.new.lits ++ drop (length c.deref_mut.result.now - c.len-start.result) (drop c.len-start.result c.deref_mut.result.now))

lits-are : (c : goal.In-Ok) → c.deref_mut.result.now ≡ c.self.inside.lits.items ++ c.args.clause.now
lits-are c = c.deref_mut.ensures.value ∙ c.in_ok-put_literals.ensures.ok

count-is : (c : goal.In-Ok) → c.len-start.result ≡ length c.self.inside.lits.items
count-is c = c.len-start.ensures ∙ c.self.inside.lits.ok.0

permutes : (c : goal.In-Ok) → IsPermutation c.args.clause.now c.lead.new.lits
permutes c = subst (λ (xs : List Literal). IsPermutation xs c.lead.new.lits) (tail-read c.deref_mut.result.now c.self.inside.lits.items c.args.clause.now c.len-start.result (lits-are c) (count-is c)) c.lead.ensures.permutes

now-is : (c : goal.In-Ok) → now c ≡ c.self.inside.lits.items ++ c.lead.new.lits
now-is c = tail-written c.deref_mut.result.now c.self.inside.lits.items c.args.clause.now c.lead.new.lits (now c) c.len-start.result (lits-are c) (count-is c) (length_permutation c.args.clause.now c.lead.new.lits (permutes c)) refl

same-length : (c : goal.In-Ok) → length (now c) ≡ length c.put_literals.new.literals.items
same-length c =
    let p = length_permutation c.args.clause.now c.lead.new.lits (permutes c) in
    ap length (now-is c) ∙ (length-append c.self.inside.lits.items c.lead.new.lits ∙ (ap (λ n. length c.self.inside.lits.items + n) p ∙ (sym (length-append c.self.inside.lits.items c.args.clause.now) ∙ ap length (sym c.in_ok-put_literals.ensures.ok))))

items : (c : goal.In-Ok) → (with_items c.put_literals.new.literals (now c)).items ≡ c.self.inside.lits.items ++ c.lead.new.lits
items c = with_items_is c.put_literals.new.literals (now c) (same-length c ∙ sym c.put_literals.new.literals.ok.0) ∙ now-is c

-- the end of the clause put behind the others
end : (c : goal.In-Ok) → c.len-end.result ≡ length c.self.inside.lits.items + length c.lead.new.lits
end c = c.len-end.ensures ∙ (c.put_literals.new.literals.ok.0 ∙ (sym (same-length c) ∙ (ap length (now-is c) ∙ length-append c.self.inside.lits.items c.lead.new.lits)))

pub invariant_of-self-in-Ok : goal.invariant_of-self-in-Ok
invariant_of-self-in-Ok c =
    let last = end c in
    rw (c.in-Ok.ensures.items, items c, length-append, ← last) (AreEnds-push _ _ _ _ c.self.invariant.0 (omega (arith, last)), c.self.invariant.1)

pub returns-in-Ok-clause-ok : goal.returns-in-Ok-clause-ok
returns-in-Ok-clause-ok c = (
  c.lead.new.lits,
  rw (c.in-Ok.ensures.items, items c, ← c.self.view_is)
      (ap (shown c.self.inside.first) (pieces-push _ _ _ _ _ c.self.invariant.0 (end c))
      ∙ shown-push c.self.inside.first (pieces 0 c.self.inside.lits.items c.self.inside.ends.items) c.lead.new.lits (λ none. absurd (some c.args.clause.now c.args.watched.first c.requires.first_in (sym (length_permutation c.args.clause.now c.lead.new.lits (permutes c)) ∙ ap length none)))),
  permutes c,
  c.lead.ensures.front,
)
