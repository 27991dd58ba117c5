use Rattle.std.proofs.Common.{◌≡◌, ◌≤◌, drop}
use Rattle.dm_dict_text.specs.Meaning.{number_behind, number_of}
use Rattle.dm_dict_text.proofs.number.number_if_within_limit.Given as goal

abbrev pub invariant-loop-digit : goal.invariant-loop-digit
invariant-loop-digit l = record {
  small : l.number ≤ l.limit;
  value : number_behind l.number (drop l.digit-index l.digits) ≡ number_of l.digits;
}
