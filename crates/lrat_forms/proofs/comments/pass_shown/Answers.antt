use Rattle.std.proofs.Common.{subst}
use Rattle.std.specs.Io.BufRead.{FillKeeps}
use Rattle.std.proofs.BufReadLemmas.{Consumes_shown}
use Rattle.lrat_forms.proofs.CommentLemmas.{passed-shown}
use Rattle.lrat_forms.proofs.comments.pass_shown.Goals as goal

pub returns : goal.returns
returns g c =
    let shown = c.in_ok-shown.shown.now in
    let counted = c.comment_count-count in
    let rested = c.fill_buf.follows.lender-at-none in
    let filled = subst (FillKeeps _ (g.B.Read.remaining rested) (g.B.BufRead.consumable_len rested)) c.in_ok-shown.was c.fill_buf.follows.holds-at-none in
    let moved = Consumes_shown _ _ _ _ shown counted.result.0 counted.ensures.bound c.in_ok-shown.ensures.front c.in_ok-shown.ensures.end filled.0 filled.1 c.consume.ensures.bytes in
    passed-shown _ _ shown counted.result.0 counted.result.1 counted.ensures.bound moved.0 counted.ensures.passes c.in_ok-shown.ensures.front
