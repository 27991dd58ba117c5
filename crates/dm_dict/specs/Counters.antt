-- Counters of entries of a rule that stand one behind the other, each of which stops at 65535.
use Rattle.std.specs.Prelude.{◌≡◌, ℕ, ◌+◌, ◌<◌, ◌≤◌, Bool, ◌||◌, nat_lt, Option, None}
use Rattle.std.specs.Prelude.{Some, List, length, min, slice_index, slice_index_or}
use Rattle.dm_wire.specs.declared.avp.Avp.{Avp}
use Rattle.dm_tables.specs.declared.rule.Entry.{Entry}
use Rattle.dm_tables.specs.declared.def.AvpDef.{AvpDef}
use Rattle.dm_dict.specs.Rules.{count}
use Rattle.dm_dict.specs.Limits.{counter_limit}

-- each counter and what m still has for its entry, from the one at `from` on, are what l has, up to 65535
abbrev pub IsCountedBut : List AvpDef → List Entry → List Avp → List Avp → ℕ → List ℕ → Type 0
IsCountedBut avps rule l m from numbers =
    (i : ℕ) (e : Entry) → i < length numbers → from + i < length rule → e ≡ slice_index_or rule (from + i) e →
    (slice_index numbers i ≤ counter_limit)
    × (min (slice_index numbers i + count avps rule m e) counter_limit ≡ min (count avps rule l e) counter_limit)

-- each counter is what l has for its entry, up to 65535
abbrev pub IsCounted : List AvpDef → List Entry → List Avp → ℕ → List ℕ → Type 0
IsCounted avps rule l from numbers =
    (i : ℕ) (e : Entry) → i < length numbers → from + i < length rule → e ≡ slice_index_or rule (from + i) e →
    slice_index numbers i ≡ min (count avps rule l e) counter_limit

-- the number of an entry's AVPs has a bound: a min, or a max other than 0, where the counts say nothing
abbrev pub is_bound : ℕ → Option ℕ → Bool
is_bound min None = nat_lt 0 min
is_bound min (Some max) = nat_lt 0 min || nat_lt 0 max

abbrev pub is_bounded : Entry → Bool
is_bounded e = is_bound e.min e.max
