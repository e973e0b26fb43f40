-- How a formula is searched.
use Rattle.std.specs.Prelude.{List, []}
use Rattle.theory.specs.Literals.{Literal}
use Rattle.theory.specs.Truth.{Formula}
use Rattle.theory.specs.Pure.{pure_literals}
use Rattle.theory.specs.Plans as plans
use Rattle.theory.specs.Plans.{Constants, default_constants}
use Rattle.theory.specs.Beginnings.{Beginning, as_it_is, by_pure_units}
use Rattle.cdcl.specs.declared.api.plan.Search.{Search}
use Rattle.cdcl.specs.declared.api.plan.Search.TheVariants.{Ordered, Focused}

-- the search with these numbers, as the definitions have it
abbrev pub search_of : Search → Constants → plans.Search
search_of Ordered c = plans.ordered
search_of Focused c = plans.focused c

-- how the search begins
abbrev pub beginning_of : Search → Beginning
beginning_of Ordered = by_pure_units
beginning_of Focused = as_it_is

-- the literals whose unit clauses it begins with too
abbrev pub first_units : Search → Formula → List Literal
first_units Ordered F = pure_literals F
first_units Focused F = []

-- the search without its numbers
abbrev pub search_from : plans.Search → Search
search_from plans.ordered = Ordered
search_from (plans.focused c) = Focused

-- the numbers of a search; the ordered one has none, and keeps those that are usual
abbrev pub constants_from : plans.Search → Constants
constants_from plans.ordered = default_constants
constants_from (plans.focused c) = c
