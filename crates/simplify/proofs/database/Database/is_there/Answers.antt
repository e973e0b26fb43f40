use Rattle.std.proofs.Common.{◌≡◌, ◌<◌, ◌≤◌, ◌-◌, ap, sym, ◌∙◌, length, arith, is_some, false}
use Rattle.std.proofs.lemmas.List.{get_or_default}
use Rattle.simplify.specs.Entries.{Clauses, entry_at}
use Rattle.simplify.proofs.EntryLemmas.{length-entries, live-at}
use Rattle.simplify.proofs.database.Database.is_there.Goals as goal

long : (c : goal.After-self) → length c.args.self.now.entries ≡ length c.self.inside.there.items
long c = sym (ap (λ (d : Clauses). length d.entries) c.self.view_is) ∙ length-entries _ _ c.self.invariant.each

pub index-requires : goal.index-requires
index-requires c = let l = long c in let r = c.requires.0 in let s = c.requires.1 in let len = c.self.inside.there.ok.0 in omega arith

pub returns : goal.returns
returns c =
    let l = sym (ap (λ (d : Clauses). length d.entries) c.self.view_is) ∙ length-entries _ _ c.self.invariant.each in
    let r = c.requires.0 in
    let s = c.requires.1 in
    let most : c.args.number ≤ length c.self.inside.there.items = omega arith in
    let less : c.args.number - 1 < length c.self.inside.there.items = omega arith in
    c.index.ensures ∙ (get_or_default c.self.inside.there.items (c.args.number - 1) c.index.result.now false less
    ∙ (sym (live-at c.self.inside.there.items c.self.inside.sets.clauses c.args.number c.self.invariant.each r most)
    ∙ ap (λ (d : Clauses). is_some (entry_at d.entries c.args.number)) c.self.view_is))
