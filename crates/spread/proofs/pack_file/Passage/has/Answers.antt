use Rattle.std.proofs.Common.{◌≡◌, ◌∙◌, length, subst, Bool, arith}
use Rattle.spread.specs.Passages.{IsFilled}
use Rattle.spread.proofs.PassageLemmas.{IsMet-told, seam}
use Rattle.spread.proofs.pack_file.Passage.has.Goals as goal

pub returns : goal.returns
returns g c before behind between =
    let len : length c.fill.new.buffer ≡ c.in_ok-next.next.len = omega (arith, c.fill.auto.buffer, c.deref_mut.ensures.len) in
    let long : length c.fill.new.buffer ≡ length c.args.bytes.now = omega (arith, len, c.in_ok-next.ensures.len) in
    IsMet-told g.R.Read.remaining c.fill.new.self before behind c.args.bytes.now c.fill.new.buffer c.as_slice.result.now c.eq.result c.eq.ensures
    (c.as_slice.ensures.value ∙ seam c.in_ok-next.next.len c.fill.new.buffer c.in_ok-next.next.items len) long
    (subst (λ (b : Bool). IsFilled g.R.Read.remaining c.fill.new.self before behind c.fill.new.buffer b) c.if-not-branch.false (c.in_ok-fill.ensures.bytes before behind between))
