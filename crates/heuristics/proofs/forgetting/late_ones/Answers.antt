use Rattle.std.proofs.Common.{◌≡◌, ℕ, ◌/◌, ◌∙◌, List, [], length, map, filter, not, ap, sym, arith}
use Rattle.std.proofs.lemmas.List.{nil_from_length}
use Rattle.std.proofs.lemmas.List.Sorted.{length_permutation}
use Rattle.std.proofs.lemmas.Result.{IfOk-weaker}
use Rattle.theory.specs.Forgetting.{Candidate, goes_before, late_ones}
use Rattle.heuristics.proofs.LateLemmas.{late-numbers, count-late}
use Rattle.heuristics.proofs.forgetting.late_ones.Goals as goal
use Rattle.heuristics.proofs.forgetting.late_ones.Goals.{After-drop-sorted, After-drop-sorted-2}

-- those that don't go before the first one behind the quarter are the late ones
found : (c : After-drop-sorted-2) → map (λ (a : Candidate). a.number) (filter (λ a. not (goes_before a c.in-Some.first.now)) c.args.candidates.now) ≡ late_ones c.args.candidates.now
found c =
    let read = c.in-Some.ensures.lookup.3 in
    let ys = c.in_ok-sorted.sorted.items in
    let same : c.deref.result.now ≡ ys = c.deref.ensures.value in
    let long = c.len.ensures in
    let is = c.in_ok-sorted.sorted.ok.0 in
    let quarter : c.len.result / 4 ≡ length ys / 4 = ap (λ n. n / 4) (long ∙ is) in
    late-numbers c.args.candidates.now ys c.requires c.in_ok-sorted.ensures.permutation c.in_ok-sorted.ensures.sorted c.in-Some.first.now (c.len.result / 4) quarter (rw same at read.0) (rw same at (read.1 c.in-Some.first.now))

pub returns-clause-numbers : goal.returns-clause-numbers
returns-clause-numbers c = IfOk-weaker c.not_before.result _ _ (λ numbers is. is ∙ found c) c.not_before.ensures

pub returns-clause-count : goal.returns-clause-count
returns-clause-count c =
    IfOk-weaker c.not_before.result _ _
    (λ numbers is. numbers.ok.0 ∙ (ap (λ (ns : List ℕ). length ns) (is ∙ found c)
    ∙ count-late c.args.candidates.now c.in_ok-sorted.sorted.items c.requires c.in_ok-sorted.ensures.permutation c.in_ok-sorted.ensures.sorted)) c.not_before.ensures

-- there is none
none : (c : After-drop-sorted) → c.args.candidates.now ≡ []
none c =
    let few = c.in-None.ensures.lookup.3 in
    let same = ap (λ (ys : List Candidate). length ys) c.deref.ensures.value in
    let long = c.len.ensures in
    let is = c.in_ok-sorted.sorted.ok.0 in
    let moved = length_permutation c.args.candidates.now c.in_ok-sorted.sorted.items c.in_ok-sorted.ensures.permutation in
    nil_from_length c.args.candidates.now (omega arith)

pub returns-in-None-clause-numbers : goal.returns-in-None-clause-numbers
returns-in-None-clause-numbers c = c.new.ensures.items ∙ ap late_ones (sym (none c))

pub returns-in-None-clause-count : goal.returns-in-None-clause-count
returns-in-None-clause-count c = let new = c.new.ensures.len in let long = ap (λ (xs : List Candidate). length xs) (none c) in omega (arith, new, long)
