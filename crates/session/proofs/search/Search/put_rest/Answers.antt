use Rattle.std.proofs.Common.{refl}
use Rattle.session.proofs.GatheredLemmas.{IsLoaded-attached, IsLoaded-all_attached}
use Rattle.session.proofs.search.Search.put_rest.Goals as goal

pub returns-clause-all : goal.returns-clause-all
returns-clause-all c is =
    let K = c.args.formula.now.clauses in
    IsLoaded-all_attached K c.args.loaded c.args.self.now _ c.put_from.new.kernel c.requires.loaded (c.in_ok-all.ensures.all is) c.in_ok-all.ensures.kept refl refl refl refl refl

pub returns-clause-part : goal.returns-clause-part
returns-clause-part c is =
    IsLoaded-attached c.args.formula.now.clauses c.args.loaded c.args.loaded c.args.self.now _ c.put_from.new.kernel c.requires.loaded (c.in_ok-all.ensures.part is) c.in_ok-all.ensures.kept refl refl refl refl refl
