use Rattle.std.proofs.Common.{◌≡◌, ◌∙◌, ◌-◌, ◌++◌, rules, not, ap, drop, take, length, arith}
use Rattle.std.proofs.lemmas.Fn.{filter_same}
use Rattle.kernel.specs.Forgetting.{names, places_left}
use Rattle.kernel.proofs.LeftLists.{turned-front, falls-left}
use Rattle.kernel.proofs.units.queue.Queue.drop_named.Goals as goal

kept : (c : goal.After-retain) → c.retain.new.self.items ≡ places_left (names c.args.named.now) (drop c.self.inside.head c.self.inside.items.items)
kept c =
    let whole : c.len.result ≡ length c.self.inside.items.items = c.len.ensures ∙ (c.rotate_left.ensures.len ∙ c.self.inside.items.ok.0) in
    let front : c.truncate.new.self.items ≡ drop c.self.inside.head c.self.inside.items.items =
    c.truncate.ensures.items ∙ (ap (take (c.len.result - c.self.inside.head)) c.rotate_left.ensures.items
    ∙ (ap (λ n. take (n - c.self.inside.head) (drop c.self.inside.head c.self.inside.items.items ++ take c.self.inside.head c.self.inside.items.items)) whole
    ∙ turned-front c.self.inside.head c.self.inside.items.items (let within = c.self.invariant.0 in omega (arith, within)))) in
    filter_same _ (λ n. not (names c.args.named.now n)) _ (λ x b f' k. search rules) c.truncate.new.self.items c.retain.new.self.items c.retain.ensures.filtered ∙ ap (places_left (names c.args.named.now)) front

pub invariant_of-self : goal.invariant_of-self
invariant_of-self c = rw (kept c) (omega arith, falls-left (λ n. not (names c.args.named.now n)) c.self.inside.head c.self.inside.items.items c.self.invariant.1)

pub returns : goal.returns
returns c = kept c ∙ ap (places_left (names c.args.named.now)) c.self.view_is
