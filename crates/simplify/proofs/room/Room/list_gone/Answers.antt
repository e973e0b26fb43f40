use Rattle.std.proofs.Common.{◌≡◌, ap, ap₂, ◌∙◌}
use Rattle.simplify.specs.MergedLists.{merged}
use Rattle.simplify.specs.Tried.{gone_in, vars_of}
use Rattle.simplify.proofs.GoneClauses.{gone-merged, gone-there}
use Rattle.simplify.proofs.OnResults.{on_ok}
use Rattle.simplify.proofs.room.Room.list_gone.Goals as goal

pub list_variables-requires : goal.list_variables-requires
list_variables-requires c =
    let K = c.args.database.now.entries in
    let x = c.args.variable in
    let merged_is : c.merge.new.out.items ≡ gone_in x K = c.in_ok-merge.ensures ∙ (ap₂ merged (c.deref.ensures.value ∙ c.requires.found.positive) (c.deref-2.ensures.value ∙ c.requires.found.negative) ∙ gone-merged c.args.database.now.vars x K c.vars-vars.ensures.sets) in
    rw (c.deref-3.ensures.value ∙ merged_is) (gone-there x K)

pub returns-clause-listed : goal.returns-clause-listed
returns-clause-listed c =
    let K = c.args.database.now.entries in
    let x = c.args.variable in
    let merged_is : c.merge.new.out.items ≡ gone_in x K = c.in_ok-merge.ensures ∙ (ap₂ merged (c.deref.ensures.value ∙ c.requires.found.positive) (c.deref-2.ensures.value ∙ c.requires.found.negative) ∙ gone-merged c.args.database.now.vars x K c.vars-vars.ensures.sets) in
    on_ok c.list_variables.result (λ e. record { gone = merged_is; touched = e ∙ ap (vars_of K) (c.deref-3.ensures.value ∙ merged_is) }) c.list_variables.ensures
