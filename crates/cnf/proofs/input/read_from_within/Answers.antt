use Rattle.std.proofs.Common.{◌≡◌, ℕ, ◌+◌, take, IfSome, List, inr, subst, ap, ◌∙◌, Err, arith}
use Rattle.std.proofs.lemmas.Result.{err_from_is_err_and}
use Rattle.theory.specs.Reading.{max_bytes}
use Rattle.cnf.specs.Limits.{limits_of}
use Rattle.cnf.specs.Faults.{IsReadAs}
use Rattle.cnf.proofs.InputLemmas.{stopped, all-read}
use Rattle.cnf.proofs.input.read_from_within.Goals as goal

pub returns-in_err-text : goal.returns-in_err-text
returns-in_err-text g c =
    let p = err_from_is_err_and c.from_residual.result c.from_residual.ensures.1 in
    stopped (limits_of c.args.limits) _ _ _ (p.1 ∙ ap Err p.2) c.in_err-text.ensures.bytes

pub returns : goal.returns
returns g c =
    let text = c.in_ok-text.text.items in
    let most = max_bytes (limits_of c.args.limits) + 1 in
    let read : IsReadAs (limits_of c.args.limits) text c.read_formula_within.result = subst (λ (bytes : List ℕ). IsReadAs (limits_of c.args.limits) bytes c.read_formula_within.result) c.deref.ensures.value c.read_formula_within.ensures in
    let are : IfSome (g.R.Read.remaining c.args.input) (λ xs. text ≡ take most xs) = subst (λ n. IfSome (g.R.Read.remaining c.args.input) (λ xs. text ≡ take (n + 1) xs)) c.bytes.ensures.is c.in_ok-text.ensures.bytes in
    inr (record {
      bytes = text;
      are = are;
      is_read = read;
      whole = all-read (limits_of c.args.limits) most (g.R.Read.remaining c.args.input) text c.read_formula_within.result (omega arith) are read;
    })
