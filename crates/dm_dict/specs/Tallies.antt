-- Tallies of the entries of a rule: what each lacks and has room for, and the first AVP past its maximum.
use Rattle.std.specs.Prelude.{◌≡◌, ◌<◌, ℕ, nat_lt, Option, None, Some, option_map, List, length, slice_get}
use Rattle.std.specs.Prelude.{slice_index_or}
use Rattle.std.specs.Option.{option_or}
use Rattle.dm_wire.specs.declared.avp.Avp.{Avp}
use Rattle.dm_wire.specs.Borrowed.{avp_of}
use Rattle.dm_tables.specs.declared.rule.Entry.{Entry}
use Rattle.dm_tables.specs.declared.def.AvpDef.{AvpDef}
use Rattle.dm_dict.specs.declared.tallies.Tally.{Tally}
use Rattle.dm_dict.specs.Rules.{counted_avps}

-- the first of these AVPs past the maximum
abbrev pub past_max : Option ℕ → List Avp → Option Avp
past_max None l = None
past_max (Some max) l = slice_get l max

-- the tally of an entry that counts l, where those of m are still to be counted
pub record IsTally (e : Entry) (l m : List Avp) (t : Tally) : Type 0 where
  pub lack : nat_lt (length m) t.lack ≡ nat_lt (length l) e.min
  pub excess : option_or (option_map avp_of t.excess) (past_max t.room m) ≡ past_max e.max l

-- the tallies of the entries of a rule over the AVPs of l, where those of m are still to be counted
pub record AreTallied (avps : List AvpDef) (rule : List Entry) (l m : List Avp) (tallies : List Tally) : Type 0 where
  pub size : length tallies ≡ length rule
  pub each : (i : ℕ) (e : Entry) (t : Tally) → i < length rule → e ≡ slice_index_or rule i e
      → t ≡ slice_index_or tallies i t → IsTally e (counted_avps avps rule l e) (counted_avps avps rule m e) t
