-- The limits of a formula as the definitions have them.
use Rattle.theory.specs.Reading as reading
use Rattle.cnf.specs.declared.limits.Limits.{Limits}
use Rattle.cnf.specs.declared.limits.Limits.TheVariants.{Standard, Large}

abbrev pub limits_of : Limits → reading.Limits
limits_of Standard = reading.standard
limits_of Large = reading.large
