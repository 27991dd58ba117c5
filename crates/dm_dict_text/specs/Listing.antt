-- What is kept of the values of a list while it is read.
use Rattle.std.specs.Prelude.{◌≡◌, true, map}
use Rattle.dm_dict_text.specs.declared.value_list.Listing.{Listing}

-- of a long list the names and the numbers in order
pub record IsListing (b : Listing) : Type 0 where
  pub names : b.is_long ≡ true → map (λ k. k.now) b.names.keys ≡ map (λ v. v.name) b.values.items
  pub numbers : b.is_long ≡ true → b.numbers.keys ≡ map (λ v. v.number) b.values.items
