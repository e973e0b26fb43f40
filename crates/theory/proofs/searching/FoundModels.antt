-- A model that a search finds satisfies the formula, whichever search it is.
use Rattle.theory.specs.Truth.{Formula, Assignment, Satisfies}
use Rattle.theory.specs.Plans.{Search, ordered, focused}
use Rattle.theory.specs.FirstModel.{IsFound}

pub IsFound-satisfies : (search : Search) (F : Formula) (M : Assignment) → IsFound search F M → Satisfies F M
IsFound-satisfies ordered F M h = h.satisfies
IsFound-satisfies (focused c) F M h = h
