use Rattle.std.proofs.Common.{◌≡◌, sym, subst, true}
use Rattle.theory.specs.Literals.{Literal, has}
use Rattle.kernel.proofs.Visits.{has-get}
use Rattle.kernel.proofs.watches.replacement.next_replacement.Goals as goal

pub returns-then-is_replacement-clause-some : goal.returns-then-is_replacement-clause-some
returns-then-is_replacement-clause-some c =
    let found = c.is_replacement.ensures.yes c.if-is_replacement.true in (
      c.loop-place.invariant.0,
      record {
        lit = c.index-clause-place.result;
        at = (c.loop-place-test.true, sym c.index-clause-place.is);
        replaces = record {
          member = subst (λ (l : Literal). has c.args.clause.now l ≡ true) (sym c.index-clause-place.is) (has-get c.args.clause.now c.loop-place.place c.index-clause-place.result c.loop-place-test.true);
          apart = found.0;
          not_false = found.1;
        };
      },
    )
