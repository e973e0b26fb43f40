use Rattle.std.proofs.Common.{◌∙◌, [], ap}
use Rattle.theory.specs.Learning.{Line}
use Rattle.theory.proofs.searching.LearnableLines.{back_level-learn}
use Rattle.kernel.specs.declared.order.Order.TheVariants.{ByNumber}
use Rattle.cdcl.proofs.SearchingLemmas.{may_learn}
use Rattle.cdcl.proofs.search.ordered.OrderedSearch.go_back.Goals as goal

pub back_to-requires : goal.back_to-requires
back_to-requires c _ =
    rw c.in_ok-analyze_in.ensures.level
    (back_level-learn [] _ _ _ c.requires.searching.lawful c.requires.searching.open_below c.requires.level c.requires.conflict)

pub learn-requires : goal.learn-requires
learn-requires c _ =
    may_learn ByNumber [] c.args.self.now.kernel c.back_to.new.self c.deref.result.now c.analyze_in.new.learnt.level c.args.number c.requires.searching c.requires.level c.requires.conflict
    (c.deref.ensures.value ∙ ap (λ (l : Line). l.clause) c.in_ok-analyze_in.ensures.line) c.in_ok-analyze_in.ensures.level c.back_to.ensures
