-- When the focused search restarts: in restarting mode, where the clauses learnt of late have
-- greater glues than those of all restarting modes of the cube. Source: glue, and restarts by its
-- averages (Audemard and Simon, IJCAI 2009 and CP 2012).
use Rattle.std.specs.Prelude.{ℕ, ◌+◌, ◌-◌, ◌*◌, nat_eq, nat_le, nat_lt, Bool, ◌&&◌, List, [], ◌∷◌, ◌++◌, length, drop, sum, count_by, if◌then◌else◌}
use Rattle.std.specs.List.{list_any}
use Rattle.theory.specs.Literals.{Clause}
use Rattle.theory.specs.Trails.{Trail, current_level, level_of, variables}
use Rattle.theory.specs.Plans.{Constants}
use Rattle.theory.specs.Modes.{Mode, is_restarting}

-- the glue of a clause: of how many levels above 0 it has literals
abbrev pub glue : Trail → Clause → ℕ
glue T c = count_by (λ level. list_any (λ l. nat_eq (level_of T l) level) c) (variables (current_level T))

-- of the lines learnt in restarting mode the recent glues, which are the last ones, the sum of all
-- glues, and how many these are
pub record Glues : Type 0 where
  pub recent : List ℕ
  pub total : ℕ
  pub count : ℕ

abbrev pub no_glues : Glues
no_glues = record { recent = []; total = 0; count = 0 }

abbrev pub last_ones : ℕ → List ℕ → List ℕ
last_ones n xs = drop (length xs - n) xs

abbrev pub with_glue : Constants → ℕ → Glues → Glues
with_glue c g s = record { recent = last_ones c.window (s.recent ++ g ∷ []); total = s.total + g; count = s.count + 1 }

-- in stable mode no glue is taken
abbrev pub glues_after : Constants → Mode → ℕ → Glues → Glues
glues_after c mode g s = if is_restarting mode then with_glue c g s else s

-- whether the average of the recent glues is above above/window of that of all
abbrev pub are_greater : Constants → Glues → Bool
are_greater c s = nat_eq (length s.recent) c.window && nat_lt (s.total * c.above) (sum s.recent * s.count)

-- whether it is so at conflict n in restarting mode, some conflicts after the last restart
abbrev pub restarts : Constants → Mode → ℕ → ℕ → Glues → Bool
restarts c mode last n s = is_restarting mode && (nat_le (last + c.apart) n && are_greater c s)
