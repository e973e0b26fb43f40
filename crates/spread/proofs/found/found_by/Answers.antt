use Rattle.std.proofs.Common.{List, ℕ, ◌++◌, ap, sym, ◌∙◌, subst, Bool, [], codes}
use Rattle.spread.specs.Passages.{IsMet}
use Rattle.spread.proofs.PackFileLemmas.{not-other, other}
use Rattle.spread.proofs.FoundLemmas.{IsTaken-whole, IsTaken-front, IsTaken-name}
use Rattle.std.specs.String.{string_bytes}
use Rattle.spread.proofs.found.found_by.Goals as goal

pub returns : goal.returns
returns g c bytes between =
    IsTaken-whole g.R.Read.remaining c.args.reader.now c.has.new.self c.found_in.new.passage (string_bytes c.args.run.now.sum) c.args.name.now bytes c.as_bytes.result.now (string_bytes c.in_ok-sum.sum) c.in_ok-found.found
    (subst (λ (b : Bool). IsMet g.R.Read.remaining c.has.new.self [] bytes c.as_bytes.result.now b) c.if-not-branch.false (c.in_ok-has.ensures [] bytes between))
    (c.as_bytes.ensures.value ∙ c.in_ok-head.ensures) c.in_ok-found.ensures c.in_ok-sum.ensures
    (not-other c.ne.result c.args.name.now c.as_str-2.result.now c.ne.ensures c.if-ne.false ∙ (c.as_str-2.ensures.value ∙ (c.in_ok-own.ensures ∙ ap (λ (xs : List ℕ). xs ++ codes ".pack") c.as_str.ensures.value)))

pub returns-then-not-branch : goal.returns-then-not-branch
returns-then-not-branch g c bytes between =
    IsTaken-front g.R.Read.remaining c.has.new.self (string_bytes c.args.run.now.sum) c.args.name.now bytes c.as_bytes.result.now
    (subst (λ (b : Bool). IsMet g.R.Read.remaining c.has.new.self [] bytes c.as_bytes.result.now b) c.if-not-branch.true (c.in_ok-has.ensures [] bytes between)) (c.as_bytes.ensures.value ∙ c.in_ok-head.ensures)

pub returns-then-ne : goal.returns-then-ne
returns-then-ne g c bytes between =
    let own = c.as_str-2.ensures.value ∙ (c.in_ok-own.ensures ∙ ap (λ (xs : List ℕ). xs ++ codes ".pack") c.as_str.ensures.value) in
    IsTaken-name g.R.Read.remaining c.args.reader.now c.has.new.self c.found_in.new.passage (string_bytes c.args.run.now.sum) c.args.name.now bytes c.as_bytes.result.now (string_bytes c.in_ok-sum.sum) c.in_ok-found.found
    (subst (λ (b : Bool). IsMet g.R.Read.remaining c.has.new.self [] bytes c.as_bytes.result.now b) c.if-not-branch.false (c.in_ok-has.ensures [] bytes between)) c.in_ok-found.ensures c.in_ok-sum.ensures
    (λ same. other c.ne.result c.args.name.now c.as_str-2.result.now c.ne.ensures c.if-ne.true (same ∙ sym own))
