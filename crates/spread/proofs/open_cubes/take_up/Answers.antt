use Rattle.std.proofs.Common.{◌≡◌, ◌++◌, ◌∷◌, [], true, false, Some, None, reverse, sym, ap, ◌∙◌}
use Rattle.theory.specs.Trees.{false_half, true_half}
use Rattle.spread.specs.declared.open_cubes.Word.TheVariants.{Split}
use Rattle.spread.specs.OpenCubes.{said_in}
use Rattle.spread.proofs.OpenCubeLemmas.{refuted-on, model-on, split-on, open-on, two-first, if-true, if-false}
use Rattle.spread.proofs.open_cubes.take_up.Goals.{in-Some-Split+in_ok-put_halves-in-Some-Split+else-branch, in-None}
use Rattle.spread.proofs.open_cubes.take_up.Goals as goal

pub returns-in-Some-Refuted-clause-goes_on : goal.returns-in-Some-Refuted-clause-goes_on
returns-in-Some-Refuted-clause-goes_on c cubes before same =
    refuted-on c.args.formula.now (said_in c.args.words.now) cubes c.args.left.now.items c.args.cube (reverse c.args.way.now.items) before (sym c.of_cube.ensures ∙ (c.in-Some-Refuted.is ∙ ap (λ w. Some w) c.in-Some-Refuted.field-0-is))

pub returns-in-Some-Model-clause-model : goal.returns-in-Some-Model-clause-model
returns-in-Some-Model-clause-model c cubes before same =
    model-on c.args.formula.now (said_in c.args.words.now) cubes c.args.left.now.items c.args.cube (reverse c.args.way.now.items) before (sym c.of_cube.ensures ∙ (c.in-Some-Model.is ∙ ap (λ w. Some w) c.in-Some-Model.field-0-is))

pub returns-then-branch-clause-goes_on : goal.returns-then-branch-clause-goes_on
returns-then-branch-clause-goes_on c cubes before same =
    let Q = c.args.cube in
    let x = c.in-Some-Split.var in
    let old = c.args.way.now.items in
    let fit = c.in_ok-put_halves-in-Some-Split.field-0 in
    let way = if-true fit (old ++ true_half Q x ∷ false_half Q x ∷ []) old c.put_halves.new.way.items c.in_ok-put_halves-in-Some-Split.ensures.way c.if-branch.true in
    split-on c.args.formula.now (said_in c.args.words.now) cubes c.args.left.now.items Q (reverse old) before x (reverse c.put_halves.new.way.items)
    (sym c.of_cube.ensures ∙ (c.in-Some-Split.is ∙ ap (λ w. Some w) c.in-Some-Split.field-0-is))
    (c.in_ok-put_halves-in-Some-Split.ensures.fit.0 c.if-branch.true)
    (two-first old c.put_halves.new.way.items (false_half Q x) (true_half Q x) way)

pub returns-clause-goes_on : goal.returns-clause-goes_on
returns-clause-goes_on c cubes before same =
    let Q = c.args.cube in
    let old = c.args.way.now.items in
    let F = c.args.formula.now in
    elim c.match-of_cube.branch [
      | in-Some-Split+in_ok-put_halves-in-Some-Split+else-branch w ↦
          let x = w.in-Some-Split.var in
          let fit = w.in_ok-put_halves-in-Some-Split.field-0 in
          let way = if-false fit (old ++ true_half Q x ∷ false_half Q x ∷ []) old w.put_halves.new.way.items w.in_ok-put_halves-in-Some-Split.ensures.way w.if-branch.false in
          open-on F (said_in c.args.words.now) cubes c.args.left.now.items Q (reverse old) before (Some (Split x)) (reverse c.match-of_cube.way'.items) c.push.new.self.items
          (sym c.of_cube.ensures ∙ (w.in-Some-Split.is ∙ ap (λ w. Some w) w.in-Some-Split.field-0-is))
          (λ f. let yes : fit ≡ true = w.in_ok-put_halves-in-Some-Split.ensures.fit.1 f in let no : fit ≡ false = w.if-branch.false in absurd (cc))
          (ap (λ v. reverse v.items) w.way'-is ∙ ap reverse way) c.in_ok-push.ensures.items
      | in-None w ↦
          open-on F (said_in c.args.words.now) cubes c.args.left.now.items Q (reverse old) before None (reverse c.match-of_cube.way'.items) c.push.new.self.items
          (sym c.of_cube.ensures ∙ w.in-None.is) tt (ap (λ v. reverse v.items) w.way'-is) c.in_ok-push.ensures.items
    ]
