-- Guesses where definitions stand, by their names.
use Rattle.std.specs.Prelude.{◌≡◌, ◌-◌, ℕ, nat_eq, nat_lt, min, if◌then◌else◌, List, length, set, slice_index}
use Rattle.std.specs.Prelude.{None, bit_and}
use Rattle.std.specs.Hash.FoldHasher as folding
use Rattle.std.specs.List.{position_from}
use Rattle.dm_tables.specs.declared.def.AvpDef.{AvpDef}
use Rattle.dm_tables.specs.Definitions.{is_named}
use Rattle.dm_tables.specs.Limits.{no_guess, last_guess}

-- the guess of a name's slot, where an AVP of this place has it too: the first one stays, and a late place is guessed
-- as the last one that is
abbrev pub kept_place : ℕ → ℕ → ℕ
kept_place guess place = if nat_eq guess no_guess then min place last_guess else guess

-- a hash of all octets of a name
abbrev pub name_hash : List ℕ → ℕ
name_hash name = folding.finish (folding.write folding.initial name)

-- the slot of a name among so many
abbrev pub slot_of : ℕ → List ℕ → ℕ
slot_of slots name = bit_and (name_hash name) (slots - 1)

-- the guesses behind the AVP of a name at a place
abbrev pub with_guess : List ℕ → List ℕ → ℕ → List ℕ
with_guess guesses name place =
    let slot = slot_of (length guesses) name in
    if nat_lt slot (length guesses) then set guesses slot (kept_place (slice_index guesses slot) place) else guesses

-- a name for whose slot nothing is guessed is no AVP's
abbrev pub AreGuessed : List AvpDef → List ℕ → Type 0
AreGuessed avps guesses = (name : List ℕ) → slice_index guesses (slot_of (length guesses) name) ≡ no_guess
    → position_from (is_named name) 0 avps ≡ None
