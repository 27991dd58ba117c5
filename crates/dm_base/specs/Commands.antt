-- The commands of the base messages (RFC 6733, 5.3 to 5.5).
use Rattle.std.specs.Prelude.{ℕ, Bool, nat_eq, Option, None, Some, is_some, if◌then◌else◌}
use Rattle.dm_base.specs.Codes.{capabilities_exchange, device_watchdog, disconnect_peer}
use Rattle.dm_base.specs.declared.base_command.BaseCommand.{BaseCommand}
use Rattle.dm_base.specs.declared.base_command.BaseCommand.TheVariants.{CapabilitiesExchange}
use Rattle.dm_base.specs.declared.base_command.BaseCommand.TheVariants.{DeviceWatchdog, DisconnectPeer}

-- the base command of a code
abbrev pub base_command : ℕ → Option BaseCommand
base_command code =
    if nat_eq code capabilities_exchange then Some CapabilitiesExchange
    else (if nat_eq code device_watchdog then Some DeviceWatchdog
    else (if nat_eq code disconnect_peer then Some DisconnectPeer else None))

-- one of the commands that are read
abbrev pub is_base_command : ℕ → Bool
is_base_command code = is_some (base_command code)
