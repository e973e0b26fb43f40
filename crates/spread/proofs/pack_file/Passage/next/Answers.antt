use Rattle.std.proofs.Common.{◌≡◌, length, subst, Bool, arith}
use Rattle.spread.specs.Passages.{IsFilled}
use Rattle.spread.proofs.PassageLemmas.{IsNext-read, IsBetween-flag, seam}
use Rattle.spread.proofs.pack_file.Passage.next.Goals as goal

pub returns-clause-bytes : goal.returns-clause-bytes
returns-clause-bytes g c before behind between =
    let len : length c.fill.new.buffer ≡ c.resize.new.self.len = omega (arith, c.fill.auto.buffer, c.deref_mut.ensures.len) in
    let long : c.in-Some.length ≡ length c.fill.new.buffer = omega (arith, len, c.in_ok-resize.ensures.len) in
    let there = c.in_ok-length.ensures.bytes before behind (IsBetween-flag g.R.Read.remaining c.args.self.now before behind _ between) in
    rw (seam c.resize.new.self.len c.fill.new.buffer c.resize.new.self.items len)
    (IsNext-read g.R.Read.remaining c.next_length.new.self c.fill.new.self before behind c.fill.new.buffer c.in-Some.length long (rw c.in-Some.is at there)
    (λ b r h. subst (λ (x : Bool). IsFilled g.R.Read.remaining c.fill.new.self b r c.fill.new.buffer x) c.if-not-branch.false (c.in_ok-fill.ensures.bytes b r h)))
