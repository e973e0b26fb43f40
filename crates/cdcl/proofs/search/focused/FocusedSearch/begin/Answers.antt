use Rattle.std.proofs.Common.{refl}
use Rattle.cdcl.proofs.FocusedBeginnings.{Begins-focused}
use Rattle.cdcl.proofs.search.focused.FocusedSearch.begin.Goals as goal

pub returns : goal.returns
returns c F ready =
    Begins-focused F c.args.cube.now c.args.self.now _ c.release.new.self c.requires.equipped ready c.in_ok-release.ensures.waiting c.in_ok-release.ensures.kept
    c.begin_again.ensures.scores c.begin_again.ensures.long c.begin_again.ensures.all c.begin_again.ensures.held c.in_ok-restart.ensures.ok c.in_ok-restart.ensures.lawful c.in_ok-restart.ensures.over c.in_ok-restart.ensures.clauses_over
    refl refl refl c.clear.ensures c.clear-2.ensures.items c.begin_again-2.ensures refl c.first-self.ensures c.first-self-2.ensures refl refl
