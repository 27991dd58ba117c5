-- The definitions of the base dictionary are sound, and each entry names one.
use Rattle.std.proofs.Common.{◌≡◌, true, List, [], refl}
use Rattle.dm_tables.specs.declared.def.VendorDef.{VendorDef}
use Rattle.dm_tables.specs.declared.def.AvpDef.{AvpDef}
use Rattle.dm_tables.specs.declared.def.CommandDef.{CommandDef}
use Rattle.dm_tables.specs.Definitions.{Definitions}
use Rattle.dm_tables.specs.Base.{base_avps, base_commands, base_definitions}
use Rattle.dm_tables.specs.Sound.{each_after, is_sound_avp, is_sound_command, is_closed}

avps_sound : each_after is_sound_avp [] base_avps ≡ true
avps_sound = refl

commands_sound : each_after is_sound_command [] base_commands ≡ true
commands_sound = refl

base_closed : is_closed base_definitions ≡ true
base_closed = refl

pub avp_rows_sound : (before rows : List AvpDef) → before ≡ [] → rows ≡ base_avps
    → each_after is_sound_avp before rows ≡ true
avp_rows_sound before rows e f = rw (e, f) avps_sound

pub command_rows_sound : (before rows : List CommandDef) → before ≡ [] → rows ≡ base_commands
    → each_after is_sound_command before rows ≡ true
command_rows_sound before rows e f = rw (e, f) commands_sound

pub closed_base : (d : Definitions) → d ≡ base_definitions → is_closed d ≡ true
closed_base d e = rw e base_closed

pub both_base : (vendors : List VendorDef) (avps : List AvpDef) (commands : List CommandDef) → vendors ≡ []
    → avps ≡ base_avps → commands ≡ base_commands
    → record { vendors = vendors; avps = avps; commands = commands } ≡ base_definitions
both_base vendors avps commands none e f = λ i. record { vendors = none i; avps = e i; commands = f i }
