-- The rule of propagation that an order stands for.
use Rattle.theory.specs.Propagation.{Rule, by_number, by_place}
use Rattle.kernel.specs.declared.order.Order.{Order}
use Rattle.kernel.specs.declared.order.Order.TheVariants.{ByNumber, ByPlace}

abbrev pub rule_of : Order → Rule
rule_of ByNumber = by_number
rule_of ByPlace = by_place
