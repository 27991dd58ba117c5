-- When two listed values are equal: their fields hold the same octets and numbers.
use Rattle.std.specs.Prelude.{Bool, nat_eq}
use Rattle.std.specs.Ordering.{on, eq_of_both, int_eq}
use Rattle.std.specs.Cmp.Lexicographic.{pointwise}
use Rattle.dm_tables.specs.declared.values.EnumValue.{EnumValue}

abbrev pub value_eq : EnumValue → EnumValue → Bool
value_eq = eq_of_both (on (λ v. v.name) (pointwise nat_eq)) (on (λ v. v.number) int_eq)
