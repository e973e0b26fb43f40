use Rattle.std.proofs.Common.{◌≡◌, vec_len, eqb-true, eq-eqb, sym, subst, arith, ◌∙◌}
use Rattle.theory.specs.Truth.{Formula}
use Rattle.theory.specs.Reading.{ReadsWithin, formula}
use Rattle.theory.proofs.reading.LimitLemmas.{within-large}
use Rattle.cnf.specs.Limits.{limits_of}
use Rattle.cnf.specs.Faults.{place_in}
use Rattle.cnf.proofs.ReadLemmas.{Reads-inside, Reads-few, Reads-whole}
use Rattle.cnf.proofs.clauses.Clauses.finish.Goals as goal

pub returns-then-not-is_empty : goal.returns-then-not-is_empty
returns-then-not-is_empty c =
    let s = c.args.self in
    let cs = s.whole in
    Reads-inside (limits_of s.limits) s.vars s.wanted cs s.begun.items c.args.bytes.now c.requires.short c.requires.all (place_in c.place_at.result) c.place_at.ensures
    (λ e. let none : vec_len s.begun ≡ 0 = s.begun.ok.0 ∙ e in let h = eq-eqb (vec_len s.begun) 0 none in let k = c.is_empty.ensures in let f = c.if-not-is_empty.true in cc)

pub returns-then-len-self : goal.returns-then-len-self
returns-then-len-self c =
    let s = c.args.self in
    let cs = s.whole in
    Reads-few (limits_of s.limits) s.vars s.wanted cs s.begun.items c.args.bytes.now c.requires.short c.requires.all (place_in c.place_at-then-len-self.result) c.place_at-then-len-self.ensures (let k = eqb-true (vec_len s.begun) 0 (sym c.is_empty.ensures ∙ c.if-not-is_empty.false) in omega (arith, s.begun.ok.0))
    (λ e. c.if-len-self.true (omega (arith, c.len.ensures)))

pub new-requires : goal.new-requires
new-requires c =
    let s = c.args.self in
    let cs = s.whole in
    within-large (limits_of s.limits) (record { vars = s.vars; clauses = cs })
    (Reads-whole (limits_of s.limits) s.vars s.wanted cs s.begun.items c.args.bytes.now c.requires.short c.requires.all (let k = eqb-true (vec_len s.begun) 0 (sym c.is_empty.ensures ∙ c.if-not-is_empty.false) in omega (arith, s.begun.ok.0))
    (omega (arith, c.len.ensures))).1.within

pub returns : goal.returns
returns c =
    let s = c.args.self in
    let cs = s.whole in
    subst (λ (F : Formula). ReadsWithin (limits_of s.limits) c.args.bytes.now (formula F)) (sym c.new.ensures) (Reads-whole (limits_of s.limits) s.vars s.wanted cs s.begun.items c.args.bytes.now c.requires.short c.requires.all (let k = eqb-true (vec_len s.begun) 0 (sym c.is_empty.ensures ∙ c.if-not-is_empty.false) in omega (arith, s.begun.ok.0))
    (omega (arith, c.len.ensures)))
