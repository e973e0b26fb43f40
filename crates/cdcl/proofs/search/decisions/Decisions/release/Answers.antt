use Rattle.std.proofs.Common.{◌≡◌, ◌∙◌, ◌+◌, ◌-◌, ◌<◌, length, take, get_or, ap, sym, subst, refl, arith, false}
use Rattle.std.proofs.Math.Seq.{take-length}
use Rattle.std.proofs.lemmas.List.{length-set}
use Rattle.theory.specs.Literals.{IsVariable, has_var}
use Rattle.theory.specs.Trails.{Trail, literals}
use Rattle.heuristics.specs.Rankings.{Ranking}
use Rattle.cdcl.specs.Saving.{AreWaiting}
use Rattle.cdcl.proofs.WaitingLemmas.{value-saved_free, AreWaiting-free, AgreeOutside-free, entry-variable}
use Rattle.cdcl.proofs.search.decisions.Decisions.release.Goals as goal
use Rattle.cdcl.proofs.search.decisions.Decisions.release.Goals.{After-index-trail-count}

pub loop-count-init : goal.loop-count-init
loop-count-init c =
    let T = c.args.kernel.now.trail in
    let same : length c.trail-trail.result.now ≡ length T = ap length c.trail-trail.ensures.trail in
    let whole : take (length c.trail-trail.result.now) T ≡ T = ap (λ n. take n T) same ∙ take-length T in
    record {
      within = omega arith;
      most = let kept = c.requires.kept in omega arith;
      waiting = rw whole c.requires.waiting;
      saved = rw whole (λ v variable free. sym (value-saved_free c.args.kernel.now.vars T c.args.self.now.saved v variable free));
      same = record { scores = refl; constants = refl; held = refl };
    }

variable : (c : After-index-trail-count) → IsVariable c.args.kernel.now.vars c.index-trail-count.result.lit.var
variable c = entry-variable c.args.kernel.now.vars c.args.kernel.now.trail (c.loop-count.count - 1) c.index-trail-count.result c.trail-trail.ensures.over (let within = c.loop-count.invariant.within in let some = c.loop-count-test.true in omega arith) (read c)
  where
    read : (c : After-index-trail-count) → c.index-trail-count.result ≡ get_or c.args.kernel.now.trail (c.loop-count.count - 1) c.index-trail-count.result
    read c = c.index-trail-count.is ∙ ap (λ (U : Trail). get_or U (c.loop-count.count - 1) c.index-trail-count.result) c.trail-trail.ensures.trail

pub free-requires-clause-scores : goal.free-requires-clause-scores
free-requires-clause-scores c = rw c.loop-count.invariant.waiting.vars (variable c)

pub free-requires-clause-saved : goal.free-requires-clause-saved
free-requires-clause-saved c = rw c.loop-count.invariant.waiting.saved (variable c)

pub loop-count-preserved : goal.loop-count-preserved
loop-count-preserved c =
    let T = c.args.kernel.now.trail in
    let V = c.args.kernel.now.vars in
    let e = c.index-trail-count.result in
    let n = c.loop-count.count - 1 in
    let some = c.loop-count-test.true in
    let within = c.loop-count.invariant.within in
    let inside : n < length T = omega arith in
    let up : c.loop-count.count ≡ n + 1 = omega arith in
    let is : e ≡ get_or T n e = c.index-trail-count.is ∙ ap (λ (U : Trail). get_or U n e) c.trail-trail.ensures.trail in
    let variable : IsVariable V e.lit.var = entry-variable V T n e c.trail-trail.ensures.over inside is in
    let before : AreWaiting V (literals (take (n + 1) T)) c.loop-count.self = subst (λ k. AreWaiting V (literals (take k T)) c.loop-count.self) up c.loop-count.invariant.waiting in
    record {
      within = omega arith;
      most = omega arith;
      waiting = AreWaiting-free V T n c.loop-count.self c.free.new.self e inside is variable before c.in_ok-free.ensures.scores
          (ap length c.in_ok-free.ensures.saved ∙ length-set c.loop-count.self.saved (e.lit.var - 1) e.lit.positive) c.in_ok-free.ensures.held;
      saved = AgreeOutside-free V c.args.kernel.now.clauses T n c.loop-count.self.saved c.free.new.self.saved c.args.self.now.saved e c.trail-trail.ensures.lawful inside is variable before.saved c.in_ok-free.ensures.saved
          (λ v k free. c.loop-count.invariant.saved v k (subst (λ i. has_var (literals (take i T)) v ≡ false) (sym up) free));
      same = record {
        scores = ap (λ (r : Ranking). r.scores) c.in_ok-free.ensures.scores ∙ c.loop-count.invariant.same.scores;
        constants = ap (λ (r : Ranking). r.constants) c.in_ok-free.ensures.scores ∙ c.loop-count.invariant.same.constants;
        held = c.in_ok-free.ensures.held ∙ c.loop-count.invariant.same.held;
      };
    }
