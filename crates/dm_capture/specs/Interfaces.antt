-- Descriptions of interfaces.
use Rattle.std.specs.Prelude.{◌≡◌, ℕ, ◌-◌, ◌<◌, ◌≤◌, MatchOption, List, length, take, drop, slice_index}
use Rattle.dm_capture.specs.declared.order.Order.{Order}
use Rattle.dm_capture.specs.declared.time.Resolution.{Resolution}
use Rattle.dm_capture.specs.declared.time.Resolution.TheVariants.{Decimal}
use Rattle.dm_capture.specs.declared.interface.Interface.{Interface}
use Rattle.dm_capture.specs.declared.fault.FaultKind.{FaultKind}
use Rattle.dm_capture.specs.declared.fault.FaultKind.TheVariants.{WrongLength, TooManyInterfaces}
use Rattle.dm_capture.specs.Numbers.{ordered_number}
use Rattle.dm_capture.specs.Options.{BlockOption, AreOptions, first_value}
use Rattle.dm_capture.specs.Times.{resolution_of}

-- if_tsresol, the option 9 of one octet, says it, or it is microseconds
abbrev pub IsResolution : Order → List ℕ → Resolution → Type 0
IsResolution order s resolution =
    (options : List BlockOption) → AreOptions order s options →
    MatchOption (first_value 9 1 options) (resolution ≡ Decimal 6)
    (λ value. resolution ≡ resolution_of (slice_index value 0))

-- if_tsoffset, the option 14 of eight octets, says it, or it is 0
abbrev pub IsOffset : Order → List ℕ → ℕ → Type 0
IsOffset order s offset =
    (options : List BlockOption) → AreOptions order s options →
    MatchOption (first_value 14 8 options) (offset ≡ 0) (λ value. offset ≡ ordered_number order 8 value)

-- the options of a block, which begin behind so many octets and end before the second length
abbrev pub options_from : ℕ → List ℕ → List ℕ
options_from start s = take (length s - 4 - start) (drop start s)

-- what a block says that is the description of an interface
pub record IsInterface (order : Order) (s : List ℕ) (interface : Interface) : Type 0 where
  pub least : 20 ≤ length s
  pub link : interface.link ≡ ordered_number order 2 (drop 8 s)
  pub limit : interface.limit ≡ ordered_number order 4 (drop 12 s)
  pub resolution : IsResolution order (options_from 16 s) interface.resolution
  pub offset : IsOffset order (options_from 16 s) interface.offset

-- why it says none, in a section that describes these interfaces before it
abbrev pub HasInterfaceFault : List Interface → List ℕ → FaultKind → Type 0
HasInterfaceFault interfaces s WrongLength = length s < 20
HasInterfaceFault interfaces s TooManyInterfaces = (20 ≤ length s) × (65536 ≤ length interfaces)
HasInterfaceFault interfaces s _ = ⊥
