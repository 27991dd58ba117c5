-- Blocks of a pcapng file: four octets of type, four of length, what the block says, and its length again.
use Rattle.std.specs.Prelude.{◌≡◌, ◌≢◌, ◌⊎◌, ℕ, ◌-◌, ◌%◌, ◌<◌, ◌≤◌, List, length, drop}
use Rattle.dm_capture.specs.declared.order.Order.{Order}
use Rattle.dm_capture.specs.declared.fault.FaultKind.{FaultKind}
use Rattle.dm_capture.specs.declared.fault.FaultKind.TheVariants.{WrongLength, RecordTooLong, LengthsDiffer}
use Rattle.dm_capture.specs.Numbers.{ordered_number}

-- the type of a section's header
abbrev pub section_type : ℕ
section_type = 0x0a0d0d0a

abbrev pub block_type : Order → List ℕ → ℕ
block_type order s = ordered_number order 4 s

-- what the block at the front of s says that it takes
abbrev pub block_size : Order → List ℕ → ℕ
block_size order s = ordered_number order 4 (drop 4 s)

-- a length that a block may have
pub record IsBlockLength (n : ℕ) : Type 0 where
  pub least : 12 ≤ n
  pub aligned : n % 4 ≡ 0
  pub most : n ≤ 16777216

-- a whole block: its two lengths are the number of its octets
pub record IsBlock (order : Order) (s : List ℕ) : Type 0 where
  pub size : block_size order s ≡ length s
  pub fits : IsBlockLength (length s)
  pub again : ordered_number order 4 (drop (length s - 4) s) ≡ length s

-- the block at the front isn't whole yet, and its length is as it may be
abbrev pub IsBlockPart : Order → List ℕ → Type 0
IsBlockPart order s = (length s < 8) ⊎ ((length s < block_size order s) × IsBlockLength (block_size order s))

-- what is wrong with the length of the block at the front, of which eight octets are there
abbrev pub HasLengthFault : Order → List ℕ → FaultKind → Type 0
HasLengthFault order s WrongLength =
    (8 ≤ length s) × ((block_size order s < 12) ⊎ (block_size order s % 4 ≢ 0))
HasLengthFault order s RecordTooLong =
    (8 ≤ length s) × (12 ≤ block_size order s) × (block_size order s % 4 ≡ 0) × (16777216 < block_size order s)
HasLengthFault order s LengthsDiffer =
    (8 ≤ length s) × (block_size order s ≤ length s) × IsBlockLength (block_size order s) ×
    (ordered_number order 4 (drop (block_size order s - 4) s) ≢ block_size order s)
HasLengthFault order s _ = ⊥
