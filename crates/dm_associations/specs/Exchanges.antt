-- Packets in which a Capabilities-Exchange-Request begins (RFC 6733, 5.3.1).
use Rattle.std.specs.Prelude.{◌≡◌, ◌⊎◌, ℕ, true, List, [], ◌∷◌}
use Rattle.dm_association.specs.SctpFlows.{is_clear_text}
use Rattle.dm_flows.specs.Headers.{BeginsWithExchange}
use Rattle.dm_flows.specs.Sctps.{SeenData, AreData}

-- a DATA chunk of Diameter begins a user message, and that a Capabilities-Exchange-Request
pub record ChunkBeginsExchange (chunk : SeenData) : Type 0 where
  pub beginning : chunk.beginning ≡ true
  pub clear : is_clear_text chunk.payload_protocol ≡ true
  pub exchange : BeginsWithExchange chunk.user_data

abbrev pub OneBeginsExchange : List SeenData → Type 0
OneBeginsExchange [] = ⊥
OneBeginsExchange (chunk ∷ chunks) = ChunkBeginsExchange chunk ⊎ OneBeginsExchange chunks

-- one of the DATA chunks of a packet does so
abbrev pub ChunksBeginExchange : List ℕ → Type 0
ChunksBeginExchange octets = (chunks : List SeenData) × AreData octets chunks × OneBeginsExchange chunks
