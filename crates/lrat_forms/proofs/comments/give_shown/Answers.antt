use Rattle.std.proofs.Common.{◌≤◌, length, take, subst, arith, rules}
use Rattle.std.specs.Io.BufRead.{FillKeeps}
use Rattle.std.proofs.BufReadLemmas.{Consumes_shown}
use Rattle.lrat_forms.proofs.CommentLemmas.{shown-given, after-lines}
use Rattle.lrat_forms.proofs.comments.give_shown.Goals as goal

pub returns : goal.returns
returns g c =
    let shown = c.in_ok-shown.shown.now in
    let plain = c.plain_count in
    let count = c.min-count.result in
    let rested = c.fill_buf.follows.lender-at-none in
    let filled = subst (FillKeeps _ (g.B.Read.remaining rested) (g.B.BufRead.consumable_len rested)) c.in_ok-shown.was c.fill_buf.follows.holds-at-none in
    let less : count ≤ plain.result = omega (arith, c.min-count.ensures) in
    let fits : count ≤ length shown = omega (arith, c.min-count.ensures, plain.ensures.bound) in
    let moved = Consumes_shown _ _ _ _ shown count fits c.in_ok-shown.ensures.front c.in_ok-shown.ensures.end filled.0 filled.1 c.consume.ensures.bytes in
    rw c.line_after-behind.ensures
    (search rules, shown-given _ _ c.args.line shown c.copy_from_slice.new.self _ plain.result count c.requires plain.ensures.plain less fits c.copy_from_slice.ensures.after moved.0, after-lines c.args.line (take count shown) c.requires)
