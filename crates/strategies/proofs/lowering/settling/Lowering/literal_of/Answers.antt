use Rattle.std.proofs.Common.{◌≡◌, ◌∙◌, [], ◌∷◌, ◌++◌, true, false, refl, sym, ap, Vec, Global}
use Rattle.theory.specs.Literals.{Literal, negative, same_sign}
use Rattle.theory.specs.FirstModel.{IsModelIn}
use Rattle.theory.specs.Truth.{value}
use Rattle.theory.specs.Pure.{searched}
use Rattle.strategies.proofs.FirstBelow.{IsFirstBelow-false}
use Rattle.strategies.proofs.SettledPrefixes.{value-at, false-question, IsFirstBelow-refuted, IsFirstBelow-model, IsPrefix-model}
use Rattle.strategies.proofs.lowering.settling.Lowering.literal_of.Goals as goal

pub returns-then-not-is_true : goal.returns-then-not-is_true
returns-then-not-is_true g c =
    let F = searched c.args.formula.now in
    let M = c.args.self.now.model.items in
    let h = c.requires.lowering in
    let low : value M c.args.var ≡ false = value-at F M c.args.var c.index-is_true.result.now h.first.satisfies c.requires.variable c.index-is_true.ensures ∙ c.if-not-is_true.true in
    record {
      var = rw c.of-negative.ensures refl;
      holds = rw c.of-negative.ensures (ap (same_sign false) low);
      first = IsFirstBelow-false F c.args.var M c.requires.variable.0 h.first low;
      prefix = h.prefix;
      kept = refl;
      units = h.units;
      session = h.session;
    }

pub returns-in-Model : goal.returns-in-Model
returns-in-Model g c =
    let p = c.args.self.now.prefix in
    let M = c.args.self.now.model.items in
    let N = c.in-Model.values.items in
    let h = c.requires.lowering in
    let model : IsModelIn (searched c.args.formula.now) (p.cube ++ negative c.args.var ∷ []) N = rw (sym c.lits-settled.ensures.lits, sym c.of-negative.ensures) (rw c.in-Model.is at c.in_ok-values.ensures.reply) in
    record {
      var = rw c.of-negative.ensures refl;
      holds = rw c.of-negative.ensures (false-question c.args.formula.now c.args.var p (negative c.args.var) refl N model);
      first = IsFirstBelow-model c.args.formula.now c.args.var M N p c.requires.variable.0 h.first h.prefix model;
      prefix = IsPrefix-model c.args.formula.now c.args.var M N p (negative c.args.var ∷ []) h.prefix model.cube;
      kept = refl;
      units = ap (λ (v : Vec Literal Global). v.items) c.ask.ensures.units ∙ h.units;
      session = rw c.lits-settled.ensures.lits at c.in_ok-values.ensures.session;
    }

pub returns-in-NoModel : goal.returns-in-NoModel
returns-in-NoModel g c =
    let M = c.args.self.now.model.items in
    let h = c.requires.lowering in
    let high : value M c.args.var ≡ true = value-at (searched c.args.formula.now) M c.args.var c.index-is_true.result.now h.first.satisfies c.requires.variable c.index-is_true.ensures ∙ c.if-not-is_true.false in
    record {
      var = rw c.of.ensures refl;
      holds = rw c.of.ensures (ap (same_sign true) high);
      first = IsFirstBelow-refuted c.args.formula.now c.args.var M c.args.self.now.prefix h.first h.prefix high (rw (sym c.lits-settled.ensures.lits, sym c.of-negative.ensures) (rw c.in-NoModel.is at c.in_ok-values.ensures.reply));
      prefix = h.prefix;
      kept = refl;
      units = ap (λ (v : Vec Literal Global). v.items) c.ask.ensures.units ∙ h.units;
      session = rw c.lits-settled.ensures.lits at c.in_ok-values.ensures.session;
    }

pub returns-in-Stopped : goal.returns-in-Stopped
returns-in-Stopped g c =
    let h = c.requires.lowering in
    record {
      first = h.first;
      prefix = h.prefix;
      units = ap (λ (v : Vec Literal Global). v.items) c.ask.ensures.units ∙ h.units;
      session = rw c.lits-settled.ensures.lits at c.in_ok-values.ensures.session;
    }
