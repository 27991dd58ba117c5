-- What is kept of the entries of a rule while it is read.
use Rattle.std.specs.Prelude.{ℕ, ◌≡◌, true, nat_lt, map}
use Rattle.dm_dict_text.specs.declared.entries.Entries.{Entries}
use Rattle.dm_tables.specs.Forms.{form_number}
use Rattle.dm_tables.specs.Sound.{is_late}

-- of a long rule the names in order, and the last form
pub record IsNoted (b : Entries) : Type 0 where
  pub names : b.is_long ≡ true → map (λ k. k.now) b.names.keys ≡ map (λ e. e.name) b.entries.items
  pub reached : (n : ℕ) → is_late b.entries.items n ≡ nat_lt n (form_number b.reached)
