-- That the status of a session is that of its last answer.
use Rattle.std.proofs.Common.{◌≡◌, ℕ, Bool, List, [], ◌++◌, Option, inl, inr, refl}
use Rattle.std.specs.Prelude.{OnOk, Result, Ok, Err}
use Rattle.std.proofs.Transfers.{starts_with_of_append, starts_with_of_eq}
use Rattle.std.specs.Io.{StartsWith}
use Rattle.std.specs.Io.KnownBytes.{Keeps}
use Rattle.std.proofs.KnownBytes.{Appends-kept, Appends-nil, Appends-trans}
use Rattle.theory.specs.Literals.{Literal}
use Rattle.theory.specs.Truth.{Formula, Assignment}
use Rattle.commands.specs.declared.questions.item.Item.{Item}
use Rattle.commands.specs.declared.questions.item.Item.TheVariants.{Clause, Question, Limit}
use Rattle.commands.specs.Questions.{satisfiable_line, unsatisfiable_line, IsModelText, IsAnswered, IsFollowed, IsLast, IsSessionStatus}

model-line : (shows : Bool) (M : Assignment) (lines : List ℕ) → IsModelText shows M lines → StartsWith lines satisfiable_line
model-line shows M lines (inl shown) = starts_with_of_append lines satisfiable_line _ shown.1
model-line shows M lines (inr plain) = starts_with_of_eq lines satisfiable_line plain.1

answered-last : (F : Formula) (A : List Literal) (shows : Bool) (status : ℕ) (before lines : List ℕ) → IsAnswered F A shows status lines → IsLast status before lines
answered-last F A shows status before lines (inl model) = inl (model.0, model-line shows model.1 lines model.4)
answered-last F A shows status before lines (inr (inl core)) = inr (inl (core.0, starts_with_of_append lines unsatisfiable_line _ core.3))
answered-last F A shows status before lines (inr (inr unknown)) = inr (inr (unknown.0, inl unknown.1))

-- behind what follows
kept-status : (old status : ℕ) (a b c : Option (List ℕ)) → status ≡ old → Keeps b c → IsSessionStatus old a b → IsSessionStatus status a c
kept-status old status a b c same kept s = record {
  before = s.before;
  last = s.last;
  written = Appends-kept a b c (s.before ++ s.last) s.written kept;
  is_last = rw same s.is_last;
}

pub followed-status : (item : Item) (F : Formula) (A : List Literal) (shows : Bool) (old status : ℕ) (a b c : Option (List ℕ))
    → IsFollowed item F A shows old status b c → IsSessionStatus old a b → IsSessionStatus status a c
followed-status Question F A shows old status a b c f s = record {
  before = s.before ++ s.last;
  last = f.0;
  written = Appends-trans a b c (s.before ++ s.last) f.0 s.written f.1;
  is_last = answered-last F A shows status (s.before ++ s.last) f.0 f.2;
}
followed-status Clause F A shows old status a b c f s = kept-status old status a b c f.0 f.1 s
followed-status (Limit seconds) F A shows old status a b c f s = kept-status old status a b c f.0 f.1 s

-- where nothing was asked
pub first-status : (a : Option (List ℕ)) → IsSessionStatus 0 a a
first-status a = record { before = []; last = []; written = Appends-nil a; is_last = inr (inr (refl, inr refl)) }

pub always-ok : {X E : Type 0} (r : Result X E) (P : Type 0) → P → OnOk r P
always-ok (Ok x) P p = p
always-ok (Err e) P p = tt
