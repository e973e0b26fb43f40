use Rattle.std.proofs.Common.{◌≡◌, ◌+◌, ◌<◌, [], drop, get_or, length, subst, arith, All}
use Rattle.std.proofs.lemmas.List.Elements.{All-head}
use Rattle.theory.specs.Texts.{proof_text}
use Rattle.join.specs.Walking.{lines_left}
use Rattle.runs.specs.declared.by_hands.Part.{Part}
use Rattle.runs.specs.Parts.{IsGiven, IsIdle}
use Rattle.runs.proofs.PartLemmas.{All-changed, All-left, part-first, text-given}
use Rattle.runs.proofs.by_hands.hand_out.Goals as goal

pub loop-part-preserved : goal.loop-part-preserved
loop-part-preserved c =
    let ps = c.loop-part.parts in
    let i = c.loop-part.part-index in
    let was = get_or ps i c.part-item.result in
    let now : Part = record { lines = c.hand_over.new.part; buffer = was.buffer; failed = was.failed } in
    let e = c.in_ok-hand_over.ensures in
    let v = c.loop-part.invariant in
    let within : i < length ps = omega arith in
    let empty : was.buffer.items ≡ [] = (All-head IsIdle was (drop (i + 1) ps) (subst (All IsIdle) (part-first ps i c.part-item.result within) v.idle)).buffer in
    record {
      lines = e.lines;
      given = All-changed IsGiven ps i now within v.given (record { buffer = empty; lines = e.part });
      idle = All-left IsIdle ps i now within v.idle;
      text = text-given ps i now (proof_text (lines_left c.args.lines.now)) (lines_left c.loop-part.lines) (lines_left c.hand_over.new.self) within v.text empty e.left;
      fewer = λ some. omega (arith, e.fewer, v.no_more);
      no_more = omega (arith, e.fewer, v.no_more);
    }
