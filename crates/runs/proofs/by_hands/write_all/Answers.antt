use Rattle.std.proofs.Common.{◌+◌, ◌<◌, ◌≤◌, drop, get_or, length, refl, subst, sym, arith, All}
use Rattle.std.proofs.lemmas.List.{drop_all, take_all}
use Rattle.runs.specs.Parts.{IsIdle}
use Rattle.runs.proofs.PartLemmas.{AreLeft, All-changed, next-made, none-left, part-first, rest-kept, text-stopped, text-written}
use Rattle.runs.proofs.by_hands.write_all.Goals as goal

pub write-requires : goal.write-requires
write-requires g c =
    let ps = c.loop-part.parts in
    let i = c.loop-part.part-index in
    let within : i < length ps = omega arith in
    let was = c.loop-part.invariant.written c.requires.0 c.requires.1 in
    next-made was.left (drop i ps) (drop (i + 1) ps) (get_or ps i c.part-item.result) was.made (part-first ps i c.part-item.result within)

pub returns-in_default-clause-written : goal.returns-in_default-clause-written
returns-in_default-clause-written g c = λ texts made.
    let ps = c.loop-part.parts in
    let i = c.loop-part.part-index in
    let within : i < length ps = omega arith in
    let was = c.loop-part.invariant.written texts made in
    let s = text-stopped (g.W.Write.contents c.args.writer.now) (g.W.Write.contents c.loop-part.writer) (g.W.Write.contents c.write.new.writer) texts was.left (drop i ps) (drop (i + 1) ps) (get_or ps i c.part-item.result) was.made was.way
    (part-first ps i c.part-item.result within) (λ t m. let w = c.in_default.ensures.written t m in (w.1, w.2)) in
    (refl, s.0, s.1)

pub loop-part-preserved : goal.loop-part-preserved
loop-part-preserved g c =
    let ps = c.loop-part.parts in
    let i = c.loop-part.part-index in
    let now = c.write.new.self in
    let a = g.W.Write.contents c.args.writer.now in
    let d = g.W.Write.contents c.write.new.writer in
    let within : i < length ps = omega arith in
    record {
      idle = All-changed IsIdle ps i now within c.loop-part.invariant.idle c.in-Ok.ensures.idle;
      written = λ texts made.
          let was = c.loop-part.invariant.written texts made in
          subst (AreLeft a d texts) (sym (rest-kept ps i now))
          (text-written a (g.W.Write.contents c.loop-part.writer) d texts was.left (drop i ps) (drop (i + 1) ps) (get_or ps i c.part-item.result) was.made was.way (part-first ps i c.part-item.result within) (λ t m. c.in-Ok.ensures.written t m));
    }

pub returns-clause-written : goal.returns-clause-written
returns-clause-written g c = λ texts made.
    let ps = c.loop-part.parts in
    let i = c.loop-part.part-index in
    let a = g.W.Write.contents c.args.writer.now in
    let b = g.W.Write.contents c.loop-part.writer in
    let past : length ps ≤ i = omega arith in
    none-left a b texts (subst (AreLeft a b texts) (drop_all i ps past) (c.loop-part.invariant.written texts made))

pub returns-clause-idle : goal.returns-clause-idle
returns-clause-idle g c =
    let ps = c.loop-part.parts in
    let i = c.loop-part.part-index in
    let past : length ps ≤ i = omega arith in
    subst (All IsIdle) (take_all i ps past) c.loop-part.invariant.idle
