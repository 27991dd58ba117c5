-- The vendors of a dictionary and their indexes.
use Rattle.std.specs.Prelude.{◌≡◌, map}
use Rattle.dm_tables.specs.declared.vendors.Vendors.{Vendors}
use Rattle.dm_tables.specs.Positions.{places}

-- each index has the keys of the vendors, in order, that of the names with their places
pub record IsVendored (t : Vendors) : Type 0 where
  pub names : map (λ e. (e.0.items, e.1)) t.names.entries ≡ places (λ v. v.name) 0 t.items.items
  pub numbers : t.numbers.keys ≡ map (λ v. v.number) t.items.items
