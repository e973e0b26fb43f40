use Rattle.std.proofs.Common.{◌<◌, ◌∙◌, [], length, sym, subst, arith}
use Rattle.std.proofs.lemmas.List.{length-map}
use Rattle.kernel.specs.EntryLists.{entries_of}
use Rattle.kernel.specs.Visiting.{kept_of}
use Rattle.kernel.specs.Forgetting.{names, entries_left}
use Rattle.kernel.proofs.LeftLists.{changed-more}
use Rattle.kernel.proofs.propagator.Propagator.drop_all_entries.Goals as goal

pub loop-at-preserved : goal.loop-at-preserved
loop-at-preserved c =
    let i = c.loop-at.invariant in
    let e = c.drop_entries.ensures in
    let old = (kept_of c.args.self.now).lists in
    let long = length-map c.args.self.now.lists entries_of in
    let inside : c.loop-at.at < length old = subst (λ n. c.loop-at.at < n) (sym long) (let z = c.len-at-end.ensures in omega (arith, c.loop-at-test.true, z)) in
    record {
      lists = e.list ∙ changed-more (entries_left (names c.args.named.now)) old (kept_of c.loop-at.self).lists c.loop-at.at [] inside i.lists;
      long = e.long ∙ i.long;
      clauses = e.kept.0 ∙ i.clauses;
      pairs = e.kept.1 ∙ i.pairs;
      units = e.kept.2 ∙ i.units;
      conflict = e.kept.3 ∙ i.conflict;
    }
