use Rattle.std.proofs.Common.{◌≡◌, ◌≤◌, take}
use Rattle.std.specs.Str.Parse.{AllDigits, digits_value}
use Rattle.dm_text.proofs.number.read_number_up_to.Given as goal

-- the digits so far write the number so far
abbrev pub invariant-loop-octet : goal.invariant-loop-octet
invariant-loop-octet l =
    AllDigits 10 (take l.octet-index l.word) × (l.number ≡ digits_value 10 (take l.octet-index l.word)) ×
    (l.number ≤ l.most)
