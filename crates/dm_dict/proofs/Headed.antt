-- A command that has a code with REQ and ERR is the first that has them.
use Rattle.std.proofs.Common.{◌≡◌, ℕ, Bool, true, false, not, Some, List, [], slice_get, nat_eq, eqb-true, refl, arith}
use Rattle.std.proofs.lemmas.Bool.{and_parts}
use Rattle.std.specs.Bool.{beq}
use Rattle.std.specs.List.{list_any, position_from}
use Rattle.dm_tables.specs.declared.def.CommandDef.{CommandDef}
use Rattle.dm_tables.specs.Definitions.{Definitions, is_headed}
use Rattle.dm_tables.specs.Sound.{each_after, is_sound, is_sound_command}
use Rattle.dm_dict.proofs.Firsts.{first_place}

is_not : (b : Bool) → not b ≡ true → b ≡ false
is_not true e = cc
is_not false e = refl

same_bit : (a b : Bool) → beq a b ≡ true → a ≡ b
same_bit true true e = refl
same_bit true false e = absurd (cc)
same_bit false true e = absurd (cc)
same_bit false false e = refl

own_bit : (a : Bool) → beq a a ≡ true
own_bit true = refl
own_bit false = refl

abbrev has_head : CommandDef → CommandDef → Bool
has_head c x = is_headed c.code c.request c.err x

own_head : (c : CommandDef) → has_head c c ≡ true
own_head c =
    let same : nat_eq c.code c.code ≡ true = grind arith in
    rw (same, own_bit c.request, own_bit c.err) refl

new_head : (before : List CommandDef) (c : CommandDef) → is_sound_command before c ≡ true
    → list_any (has_head c) before ≡ false
new_head before c h =
    let (h5, rule) = and_parts _ _ h in
    let (h4, application) = and_parts _ _ h5 in
    let (h3, new) = and_parts _ _ h4 in
    is_not _ new

pub headed_place : (d : Definitions) (code : ℕ) (request err : Bool) (i : ℕ) (c : CommandDef) → is_sound d ≡ true
    → slice_get d.commands i ≡ Some c → is_headed code request err c ≡ true
    → position_from (is_headed code request err) 0 d.commands ≡ Some i
headed_place d code request err i c sound at is =
    let (vendors_and_avps, commands) = and_parts _ (each_after is_sound_command [] d.commands) sound in
    let (front, last) = and_parts _ _ is in
    let (first, second) = and_parts _ _ front in
    let codes : code ≡ c.code = eqb-true code c.code first in
    let requests : request ≡ c.request = same_bit request c.request second in
    let errs : err ≡ c.err = same_bit err c.err last in
    rw (codes, requests, errs) (first_place is_sound_command has_head new_head own_head d.commands i c commands at)
