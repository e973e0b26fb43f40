-- The results that are kept: one fact more; they are checked, and true where the facts are.
use Rattle.std.proofs.Common.{◌≡◌, List, [], ◌∷◌, ◌++◌, Option, Some, None, MatchOption, All, sym, subst}
use Rattle.std.proofs.lemmas.List.Elements.{All-nil, All-cons, All-head, All-tail}
use Rattle.theory.specs.Literals.{Literal}
use Rattle.theory.specs.Truth.{Formula}
use Rattle.theory.specs.Plans.{Search, Plan}
use Rattle.theory.specs.Search.{Outcome, model, refuted, exhausted}
use Rattle.theory.specs.Runs.{Runs}
use Rattle.theory.specs.Beginnings.{begun_by}
use Rattle.theory.specs.Results.{What, IsTrueOf}
use Rattle.theory.specs.Checked.{IsCheckedOf}
use Rattle.cubes.specs.Solved.{LinesSolved, what_by, AreCheckedResults, AreTrueResults}
use Rattle.packs.specs.declared.fact.Claim.{Claim}
use Rattle.packs.specs.declared.fact.Claim.TheVariants.{Split, Refuted, Model}
use Rattle.packs.specs.declared.fact.Fact.{Fact}
use Rattle.gathering.specs.Facts.{claim_of, IsTrueFact, IsDoneAs, IsSolvedAs}
use Rattle.packs.specs.Checking.{IsCheckedClaim, IsCheckedFact}
use Rattle.gathering.specs.Kept.{Keeps, nothing, keeps, leaves_out}

-- one fact more
pub Keeps-more : (search : Search) (F : Formula) (fs : List Fact) (ss rs : List LinesSolved) (f : Fact) (o : Option LinesSolved)
    → MatchOption o (¬ (IsCheckedFact search F f)) (λ s. IsCheckedFact search F f × IsSolvedAs f s)
    → MatchOption o (rs ≡ ss) (λ s. rs ≡ ss ++ s ∷ []) → Keeps search F fs ss → Keeps search F (fs ++ f ∷ []) rs
Keeps-more search F fs ss rs f None h put k = subst (Keeps search F (fs ++ f ∷ [])) (sym put) (out fs ss k)
  where
    out : (fs : List Fact) (ss : List LinesSolved) → Keeps search F fs ss → Keeps search F (fs ++ f ∷ []) ss
    out fs ss nothing = leaves_out h nothing
    out fs ss (keeps {fs = gs} {ss = ts} c is more) = keeps c is (out gs ts more)
    out fs ss (leaves_out {fs = gs} c more) = leaves_out c (out gs ss more)
Keeps-more search F fs ss rs f (Some s) h put k = subst (Keeps search F (fs ++ f ∷ [])) (sym put) (kept fs ss k)
  where
    kept : (fs : List Fact) (ss : List LinesSolved) → Keeps search F fs ss → Keeps search F (fs ++ f ∷ []) (ss ++ s ∷ [])
    kept fs ss nothing = keeps h.0 h.1 nothing
    kept fs ss (keeps {fs = gs} {ss = ts} c is more) = keeps c is (kept gs ts more)
    kept fs ss (leaves_out {fs = gs} c more) = leaves_out c (kept gs ss more)

-- the result of a checked fact is checked
pub checked-done : (search : Search) (F : Formula) (Q : List Literal) (claim : Claim) (what : What) → IsCheckedClaim search F Q claim → IsDoneAs claim what → IsCheckedOf search F Q what
checked-done search F Q (Split x) what h is = subst (IsCheckedOf search F Q) (sym is) (λ cube over. h)
checked-done search F Q (Refuted lines) what h is = subst (IsCheckedOf search F Q) (sym is) (λ cube over. h)
checked-done search F Q Model what h is = absurd is

pub Keeps-checked : (search : Search) (F : Formula) (fs : List Fact) (ss : List LinesSolved) → Keeps search F fs ss → AreCheckedResults search (begun_by search F) ss
Keeps-checked search F fs ss nothing = All-nil (λ (s : LinesSolved). IsCheckedOf search (begun_by search F) s.cube (what_by (λ lines. lines) s.what))
Keeps-checked search F fs ss (keeps {f = f} {fs = gs} {s = s} {ss = ts} c is more) =
    let G = begun_by search F in
    All-cons (λ (t : LinesSolved). IsCheckedOf search G t.cube (what_by (λ lines. lines) t.what)) s ts
    (subst (λ Q. IsCheckedOf search G Q (what_by (λ lines. lines) s.what)) (sym is.cube) (checked-done search G f.cube f.claim (what_by (λ lines. lines) s.what) c.claim is.what))
    (Keeps-checked search F gs ts more)
Keeps-checked search F fs ss (leaves_out {fs = gs} c more) = Keeps-checked search F gs ss more

-- and that of a true one is true
pub true-done : (F : Formula) (plan : Plan) (Q : List Literal) (o : Outcome) (claim : Claim) (what : What) → Runs F plan Q o → claim ≡ claim_of o → IsDoneAs claim what → IsTrueOf F plan Q what
true-done F plan Q (model M) claim what runs says is = absurd (subst (λ c. IsDoneAs c what) says is)
true-done F plan Q (refuted lines) claim what runs says is = subst (IsTrueOf F plan Q) (sym (subst (λ c. IsDoneAs c what) says is)) runs
true-done F plan Q (exhausted x) claim what runs says is = subst (IsTrueOf F plan Q) (sym (subst (λ c. IsDoneAs c what) says is)) runs

pub Keeps-true : (search : Search) (F : Formula) (plan : Plan) (fs : List Fact) (ss : List LinesSolved) → All (IsTrueFact F plan) fs → Keeps search F fs ss → AreTrueResults (begun_by plan.search F) plan ss
Keeps-true search F plan fs ss all nothing = All-nil (λ (s : LinesSolved). IsTrueOf (begun_by plan.search F) plan s.cube (what_by (λ lines. lines) s.what))
Keeps-true search F plan fs ss all (keeps {f = f} {fs = gs} {s = s} {ss = ts} c is more) =
    let h = All-head (IsTrueFact F plan) f gs all in
    let G = begun_by plan.search F in
    All-cons (λ (t : LinesSolved). IsTrueOf G plan t.cube (what_by (λ lines. lines) t.what)) s ts
    (subst (λ Q. IsTrueOf G plan Q (what_by (λ lines. lines) s.what)) (sym is.cube) (true-done G plan f.cube h.outcome f.claim (what_by (λ lines. lines) s.what) h.runs h.says is.what))
    (Keeps-true search F plan gs ts (All-tail (IsTrueFact F plan) f gs all) more)
Keeps-true search F plan fs ss all (leaves_out {f = f} {fs = gs} c more) = Keeps-true search F plan gs ss (All-tail (IsTrueFact F plan) f gs all) more
