-- A neighbour more, or why there is none.
use Rattle.std.specs.Prelude.{◌≡◌, ◌⊎◌, ℕ, Option, None, Some, List, codes}
use Rattle.dm_node.specs.Adding.{with_new}
use Rattle.dm_node.specs.Holding.{IsKnown}
use Rattle.dm_node.specs.NodeStates.{NodeState, with_node_peers}
use Rattle.dm_peer.specs.declared.config.Config.{Config}
use Rattle.dm_peer.specs.declared.fault.ConfigFault.{ConfigFault}
use Rattle.dm_peer.specs.declared.peer.Peer.{Peer}
use Rattle.dm_peer.specs.Hosts.{config_fault}
use Rattle.dm_live.specs.Beginnings.{config_fault_name}

-- a closed peer of the host stands behind the others, of a configuration that is this one but for its peer
pub record AddsLike (template : Config) (host : List ℕ) (s t : NodeState) : Type 0 where
  pub config : Config
  pub node : config.node ≡ template.node
  pub peer : config.peer ≡ host
  pub first_id : config.first_id ≡ template.first_id
  pub compares : config.compares ≡ template.compares
  pub added : t ≡ with_node_peers (with_new s.peers config) s

-- a node of this host can't have it as a peer, or one of its neighbours has it
abbrev pub RefusesHost : List ℕ → List (Option Peer) → List ℕ → List ℕ → Type 0
RefusesHost own ps host name =
    ((f : ConfigFault) × (config_fault own host ≡ Some f) × (name ≡ config_fault_name f))
    ⊎ ((config_fault own host ≡ None) × IsKnown ps host × (name ≡ codes "Known"))
