use Rattle.std.specs.Prelude.{if◌then◌else◌, MatchOption, IsSome}
use Rattle.std.proofs.Common.{◌≡◌, Bool, true, false, List, [], ◌++◌, All, ◌∷◌, refl, subst, sym, ap, ◌∙◌}
use Rattle.std.proofs.lemmas.List.Elements.{All-nil, All-cons, All-same, All-head, All-tail}
use Rattle.theory.specs.Literals.{Literal}
use Rattle.theory.specs.Beginnings.{begun_by}
use Rattle.cubes.specs.Division.{IsSolverOf}
use Rattle.gathering.specs.Facts.{IsTrueFact}
use Rattle.spread.specs.Dividing.{longer_first, IsBreadth}
use Rattle.spread.specs.Solving.{IsOfTree}
use Rattle.spread.proofs.BreadthLemmas.{root}
use Rattle.spread.proofs.DividingLemmas.{longer-cubes, root-waits, sorted}
use Rattle.spread.proofs.breadth.by_breadth.Goals.{then-found, else-found, else-cubes-test, then-cubes-test+then-len-wanted, then-cubes-test+else-len-wanted+in_default, then-cubes-test+else-len-wanted+in-Some+in_ok-found+in_default-2}
use Rattle.spread.proofs.breadth.by_breadth.Goals as goal

pub cubes-preserved : goal.cubes-preserved
cubes-preserved g c =
    let F = c.args.formula.now in
    let plan = c.args.plan in
    let Q = c.in-Some.cube in
    let rest = c.pop_front.new.self.items in
    let all = All-same (IsOfTree F plan) (Q ∷ rest) c.cubes.queue.items (sym c.in-Some.ensures.items) c.cubes.invariant.cubes in
    let here = All-head (IsOfTree F plan) Q rest all in
    record {
      solver = subst (λ o. IsSome o → IsSolverOf (begun_by plan.search F) plan c.step.new.solver) c.in-Some-2.is c.in_ok-found.ensures.solver refl;
      facts = c.in_ok-found.ensures.facts;
      cubes = c.in_ok-found.ensures.cubes here (All-tail (IsOfTree F plan) Q rest all);
      waits =
          let known = c.cubes.has_model in
          let found = c.in-Some-2.found in
          let popped : IsBreadth F plan c.cubes.facts.items (Q ∷ rest) known = subst (λ Qs. IsBreadth F plan c.cubes.facts.items Qs known) c.in-Some.ensures.items c.cubes.invariant.waits in
          let next : IsBreadth F plan c.step.new.facts.items c.step.new.queue.items (if found then true else known) =
          subst (λ o. MatchOption o (IsBreadth F plan c.step.new.facts.items c.step.new.queue.items known) (λ (b : Bool). IsBreadth F plan c.step.new.facts.items c.step.new.queue.items (if b then true else known))) c.in-Some-2.is
          (c.in_ok-found.ensures.waits known here popped) in
          let same : (if found then true else known) ≡ c.if-found.has_model = elim c.if-found.branch [
            | then-found w ↦ ap (λ (b : Bool). if b then true else known) w.if-found.true ∙ sym w.has_model-is
            | else-found w ↦ ap (λ (b : Bool). if b then true else known) w.if-found.false ∙ sym w.has_model-is
          ] in
          subst (λ (m : Bool). IsBreadth F plan c.step.new.facts.items c.step.new.queue.items m) same next;
    }

pub cubes-init : goal.cubes-init
cubes-init g c =
    let F = c.args.formula.now in
    let plan = c.args.plan in
    let alone : c.push_back.new.self.items ≡ [] ∷ [] = c.in_ok-push_back.ensures.items ∙ (ap (λ (Qs : List (List Literal)). Qs ++ c.root.result ∷ []) c.new-queue.ensures.items ∙ ap (λ (Q : List Literal). Q ∷ []) c.root.ensures) in
    let none = c.new-facts.ensures.items in
    record {
      solver = c.in_ok-solver.ensures;
      facts = All-same (IsTrueFact F plan) c.new-facts.result.items [] none (All-nil (IsTrueFact F plan));
      cubes = All-same (IsOfTree F plan) c.push_back.new.self.items ([] ∷ []) alone (All-cons (IsOfTree F plan) [] [] (root F plan) (All-nil (IsOfTree F plan)));
      waits = subst (λ fs. IsBreadth F plan fs c.push_back.new.self.items false) (sym none) (subst (λ Qs. IsBreadth F plan [] Qs false) (sym alone) (root-waits F plan));
    }

pub returns-clause-facts : goal.returns-clause-facts
returns-clause-facts g c =
    let P = IsTrueFact c.args.formula.now c.args.plan in
    let before = c.cubes.invariant.facts in
    elim c.cubes-test.branch [
      | else-cubes-test w ↦ subst (λ fs. All P fs.items) (sym w.facts-is) before
      | then-cubes-test+then-len-wanted w ↦ subst (λ fs. All P fs.items) (sym w.facts-is) before
      | then-cubes-test+else-len-wanted+in_default w ↦ subst (λ fs. All P fs.items) (sym w.facts-is) before
      | then-cubes-test+else-len-wanted+in-Some+in_ok-found+in_default-2 w ↦ subst (λ fs. All P fs.items) (sym w.facts-is) w.in_ok-found.ensures.facts
    ]

pub returns-clause-cubes : goal.returns-clause-cubes
returns-clause-cubes g c =
    let F = c.args.formula.now in
    let plan = c.args.plan in
    let P = IsOfTree F plan in
    let waiting = c.cubes-test.queue.items in
    let before : All P waiting = elim c.cubes-test.branch [
      | else-cubes-test w ↦ subst (λ q. All P q.items) (sym w.queue-is) c.cubes.invariant.cubes
      | then-cubes-test+then-len-wanted w ↦ subst (λ q. All P q.items) (sym w.queue-is) c.cubes.invariant.cubes
      | then-cubes-test+else-len-wanted+in_default w ↦ subst (λ q. All P q.items) (sym w.queue-is) (All-same P w.pop_front.new.self.items c.cubes.queue.items (sym w.in_default.ensures.items) c.cubes.invariant.cubes)
      | then-cubes-test+else-len-wanted+in-Some+in_ok-found+in_default-2 w ↦
          let Q = w.in-Some.cube in
          let rest = w.pop_front.new.self.items in
          let all = All-same P (Q ∷ rest) c.cubes.queue.items (sym w.in-Some.ensures.items) c.cubes.invariant.cubes in
          subst (λ q. All P q.items) (sym w.queue-is) (w.in_ok-found.ensures.cubes (All-head P Q rest all) (All-tail P Q rest all))
    ] in
    All-same P c.put_in_order.new.queue.items (longer_first waiting) c.in_ok-put_in_order.ensures (longer-cubes P waiting before)

pub returns-clause-divides : goal.returns-clause-divides
returns-clause-divides g c =
    let F = c.args.formula.now in
    let plan = c.args.plan in
    let facts = c.cubes-test.facts.items in
    let known = c.cubes.has_model in
    let waiting = c.cubes-test.queue.items in
    let stays : (fs : List _) → fs ≡ c.cubes.facts.items → IsBreadth F plan fs c.cubes.queue.items known = λ fs e. subst (λ xs. IsBreadth F plan xs c.cubes.queue.items known) (sym e) c.cubes.invariant.waits in
    let waits : IsBreadth F plan facts waiting known = elim c.cubes-test.branch [
      | else-cubes-test w ↦ subst (λ q. IsBreadth F plan facts q.items known) (sym w.queue-is) (stays facts (ap (λ fs. fs.items) w.facts-is))
      | then-cubes-test+then-len-wanted w ↦ subst (λ q. IsBreadth F plan facts q.items known) (sym w.queue-is) (stays facts (ap (λ fs. fs.items) w.facts-is))
      | then-cubes-test+else-len-wanted+in_default w ↦
          subst (λ q. IsBreadth F plan facts q.items known) (sym w.queue-is) (subst (λ Qs. IsBreadth F plan facts Qs known) w.in_default.ensures.items (stays facts (ap (λ fs. fs.items) w.facts-is)))
      | then-cubes-test+else-len-wanted+in-Some+in_ok-found+in_default-2 w ↦
          let Q = w.in-Some.cube in
          let rest = w.pop_front.new.self.items in
          let all = All-same (IsOfTree F plan) (Q ∷ rest) c.cubes.queue.items (sym w.in-Some.ensures.items) c.cubes.invariant.cubes in
          let popped : IsBreadth F plan c.cubes.facts.items (Q ∷ rest) known = subst (λ Qs. IsBreadth F plan c.cubes.facts.items Qs known) w.in-Some.ensures.items c.cubes.invariant.waits in
          let left : IsBreadth F plan w.step.new.facts.items w.step.new.queue.items known =
          subst (λ o. MatchOption o (IsBreadth F plan w.step.new.facts.items w.step.new.queue.items known) (λ (b : Bool). IsBreadth F plan w.step.new.facts.items w.step.new.queue.items (if b then true else known))) w.in_default-2.is
          (w.in_ok-found.ensures.waits known (All-head (IsOfTree F plan) Q rest all) popped) in
          subst (λ q. IsBreadth F plan facts q.items known) (sym w.queue-is) (subst (λ fs. IsBreadth F plan fs.items w.step.new.queue.items known) (sym w.facts-is) left)
    ] in
    sorted F plan facts waiting c.put_in_order.new.queue.items known waits c.in_ok-put_in_order.ensures
