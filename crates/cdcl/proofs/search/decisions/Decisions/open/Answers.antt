use Rattle.std.proofs.Common.{ℕ, List, Bool, length, true, false, ap, ◌∙◌}
use Rattle.theory.specs.Held.{is_held}
use Rattle.theory.proofs.searching.MappedVariables.{at-variable, length-mapped}
use Rattle.cdcl.specs.Searching.{formula_of}
use Rattle.cdcl.proofs.search.decisions.Decisions.open.Goals as goal

pub returns-clause-waiting : goal.returns-clause-waiting
returns-clause-waiting c =
    let k = c.args.kernel.now in
    let V = k.vars in
    let first = c.vars.ensures in
    let second = c.vars-2.ensures in
    rw (c.in_ok-open.ensures, first) (record {
      vars = length-mapped {X = ℕ} (λ v. 0) V;
      long = length-mapped (λ v. true) V;
      saved = c.in_ok-with_room.ensures.long ∙ second;
      flags = ap (λ (bs : List Bool). length bs) c.in_ok-held.ensures ∙ length-mapped (is_held (formula_of k).clauses) V;
      waits = λ v is t free. at-variable (λ v. true) V v false (rw (length-mapped {X = ℕ} (λ v. 0) V) at is);
    })
