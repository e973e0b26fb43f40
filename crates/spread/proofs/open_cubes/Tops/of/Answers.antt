use Rattle.std.proofs.Common.{◌≡◌, ◌+◌, ◌++◌, ◌∷◌, [], length, take, min, max, sym, ap, subst, ◌∙◌}
use Rattle.std.proofs.lemmas.List.{take_more, take_all}
use Rattle.std.proofs.lemmas.List.Elements.{All-push, All-same, All-weaker}
use Rattle.spread.specs.OpenCubes.{IsTop}
use Rattle.spread.specs.declared.open_cubes.Tops.{Tops}
use Rattle.spread.proofs.WordLemmas.{top-stays, top-comes}
use Rattle.spread.proofs.open_cubes.Tops.of.Goals as goal

pub loop-cube-preserved : goal.loop-cube-preserved
loop-cube-preserved c =
    let cubes = c.args.cubes.now in
    let at = c.loop-cube.cube-index in
    let T = c.cube-item.result in
    let old = c.loop-cube.tops in
    let key = c.in_ok-from_slice.field-0 in
    let new : Tops = record { lits = c.insert.new.self; shortest = c.min.result; longest = c.max.result } in
    let is : key.items ≡ T = c.in_ok-from_slice.ensures.items ∙ c.lits-lits.ensures.lits in
    let updates = c.in_ok-insert.ensures.updates in
    let n = ap length (sym c.in_ok-from_slice.ensures.items) in
    let shortest = c.min.ensures ∙ ap (λ k. min old.shortest k) n in
    let longest = c.max.ensures ∙ ap (λ k. max old.longest k) n in
    let before = All-weaker (IsTop old) (IsTop new) (top-stays old new key updates.1 updates.3 shortest longest) (take at cubes) c.loop-cube.invariant in
    let here : IsTop new T = subst (IsTop new) is (top-comes old new key updates.1 updates.3 shortest longest) in
    let longer : take at cubes ++ T ∷ [] ≡ take (at + 1) cubes = ap (λ k. take at cubes ++ k ∷ []) c.cube-item.is ∙ sym (take_more cubes at T c.loop-cube-test.true) in
    All-same (IsTop new) (take (at + 1) cubes) (take at cubes ++ T ∷ []) (sym longer) (All-push (IsTop new) (take at cubes) T before here)

pub returns : goal.returns
returns c = All-same (IsTop c.loop-cube.tops) c.args.cubes.now (take c.loop-cube.cube-index c.args.cubes.now) (sym (take_all c.loop-cube.cube-index c.args.cubes.now c.loop-cube-test.false)) c.loop-cube.invariant
