-- The default of an action.
use Rattle.std.specs.Prelude.{◌≡◌}
use Rattle.dm_peer.specs.declared.actions.Action.{Action}
use Rattle.dm_peer.specs.declared.actions.Action.TheVariants.{Close}

-- it closes connection 0
abbrev pub IsDefaultAction : Action → Type 0
IsDefaultAction a = a ≡ Close (record { 0 = 0 })
