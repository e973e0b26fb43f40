use Rattle.std.proofs.Common.{◌≡◌, ◌<◌, ◌≤◌, ◌-◌, ◌∙◌, ℕ, suc, ap, length, subst, sym, arith, slice_set, get_or-set_same}
use Rattle.lrat.specs.Chained.{entry_at, head_at, IsOn}
use Rattle.lrat.proofs.ChainLemmas.{read-head, set-within, head-keeps}
use Rattle.lrat.proofs.SweepLemmas.{IsSwept, swept-more, swept-there, leads-set}
use Rattle.lrat.proofs.chains.Chains.sweep.Goals as goal

pub loop-link-init : goal.loop-link-init
loop-link-init c =
    let heads = c.args.self.now.heads in
    let entries = c.args.self.now.entries in
    let long = heads.ok.0 in
    let less : c.args.code < length heads.items = (let a = c.if-code-len.false in omega arith) in
    let is : c.index.result.now ≡ head_at heads.items c.args.code = read-head heads.items c.args.code c.index.result.now less c.index.ensures in
    let first = c.requires.chains.heads c.args.code in
    let low : c.first_there-link.result ≤ length entries.items = (let a = c.first_there-link.ensures.down in omega arith) in
    record {
      within = (let whole = entries.ok.0 in omega arith);
      chains = record { down = c.requires.chains.down; heads = set-within heads.items c.args.code c.first_there-link.result (length entries.items) low c.requires.chains.heads };
      there = c.first_there-link.ensures.there;
      swept = (0, get_or-set_same heads.items c.args.code c.first_there-link.result 0 less);
      keeps = λ n i s g t. head-keeps heads.items entries.items c.args.code c.first_there-link.result i less
          (λ h. c.first_there-link.ensures.keeps i s g t (subst (λ m. IsOn entries.items m i) (sym is) h)) n;
    }

pub loop-link-preserved : goal.loop-link-preserved
loop-link-preserved c =
    let slots = c.args.clauses.now.slots in
    let es = c.loop-link.self.entries.items in
    let fs = c.shorten-link.new.self.entries.items in
    let set : (at : ℕ) → suc at ≡ c.loop-link.link → fs ≡ slice_set es at (record { place = (entry_at es at).place; next = c.shorten-link.result }) = (λ at e.
    c.shorten-link.ensures.set ∙ ap (λ k. slice_set es k (record { place = (entry_at es k).place; next = c.shorten-link.result })) (let x : c.loop-link.link - 1 ≡ at = omega arith in x)) in
    let low : c.shorten-link.result < c.loop-link.link = (let a = c.shorten-link.ensures.down in let e = c.loop-link-test.true in omega arith) in
    let within : c.loop-link.link ≤ length es = (let a = c.loop-link.invariant.within in let b = c.loop-link.self.entries.ok.0 in omega arith) in record {
      within = (let a = c.shorten-link.ensures.down in let b = c.shorten-link.ensures.len in let d = c.loop-link.invariant.within in let e = c.loop-link-test.true in omega arith);
      chains = c.shorten-link.ensures.chains;
      there = leads-set slots es fs c.loop-link.link c.shorten-link.result c.loop-link-test.true low set c.shorten-link.ensures.there;
      swept = subst (λ hs. IsSwept slots fs (head_at hs c.args.code) c.shorten-link.result) (sym c.shorten-link.ensures.heads)
          (swept-more slots es fs (head_at c.loop-link.self.heads.items c.args.code) c.loop-link.link c.shorten-link.result c.loop-link-test.true within c.loop-link.invariant.chains.down set c.loop-link.invariant.there c.loop-link.invariant.swept);
      keeps = λ n i s g t on. c.shorten-link.ensures.keeps n i s g t (c.loop-link.invariant.keeps n i s g t on);
    }

pub returns-clause-swept : goal.returns-clause-swept
returns-clause-swept c = swept-there c.args.clauses.now.slots c.loop-link.self.entries.items (head_at c.loop-link.self.heads.items c.args.code) c.loop-link.link c.loop-link-test.false c.loop-link.invariant.swept
