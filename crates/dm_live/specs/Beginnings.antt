-- What a configuration makes.
use Rattle.std.specs.Prelude.{◌≡◌, ℕ, Bool, true, false, ◌||◌, not, cond, nat_eq, is_some, length, if◌then◌else◌}
use Rattle.std.specs.Prelude.{Option, None, Some, List, [], ◌∷◌, ◌++◌, codes, bytes_eq, nat_lt}
use Rattle.std.specs.List.{AllByRecursion, list_any}
use Rattle.std.specs.Option.{option_map, option_or}
use Rattle.dm_base.specs.Before.{lower}
use Rattle.dm_base.specs.declared.node.Node.{Node}
use Rattle.dm_base.specs.declared.node_fault.NodeFault.{NodeFault}
use Rattle.dm_base.specs.declared.node_fault.NodeFault.TheVariants as node_faults
use Rattle.dm_base.specs.declared.extras.Extras.{Extras}
use Rattle.dm_base.specs.Refusals.{node_fault, are_extras_long}
use Rattle.dm_peer.specs.declared.config.Config.{Config}
use Rattle.dm_peer.specs.declared.fault.ConfigFault.{ConfigFault}
use Rattle.dm_peer.specs.declared.fault.ConfigFault.TheVariants as config_faults
use Rattle.dm_peer.specs.Hosts.{config_fault}
use Rattle.dm_peer.specs.declared.peer.Peer.{Peer}
use Rattle.dm_peer.specs.After.{fresh_standing}
use Rattle.dm_node.specs.NodeStates.{NodeState}
use Rattle.dm_slots.specs.Acquaintances.{Acquaintance, nobody}
use Rattle.dm_slots.specs.Intakes.{none_there}
use Rattle.dm_live.specs.declared.form.Form.{Form}
use Rattle.dm_live.specs.declared.form.Form.TheVariants.{Alone, Several}
use Rattle.dm_live.specs.Meetings.{Meeting}
use Rattle.dm_live.specs.Settings.{Settings}

abbrev pub node_fault_name : NodeFault → List ℕ
node_fault_name node_faults.BadHost = codes "BadHost"
node_fault_name node_faults.NoAddress = codes "NoAddress"
node_fault_name node_faults.TooLong = codes "TooLong"

-- want of memory has no name
abbrev pub config_fault_name : ConfigFault → List ℕ
config_fault_name config_faults.BadHost = codes "BadHost"
config_fault_name config_faults.SameHost = codes "SameHost"
config_fault_name config_faults.NoMemory = codes ""

-- the settings say more of the node than it must say
abbrev pub has_extras : Settings → Bool
has_extras s =
    not (nat_eq (length s.applications) 0)
    || (not (nat_eq (length s.vendors) 0) || (is_some s.firmware || is_some s.state_id))

-- the hosts of a node's peers: those of the lines; where none tells one, that of an empty name, which no host has
abbrev pub hosts_told : List (List ℕ) → List (List ℕ)
hosts_told [] = [] ∷ []
hosts_told (host ∷ hosts) = host ∷ hosts

abbrev pub first_told : List (List ℕ) → List ℕ
first_told [] = []
first_told (host ∷ hosts) = host

-- one of these hosts is this one, upper and lower case taken as one
abbrev pub is_named_among : List (List ℕ) → List ℕ → Bool
is_named_among hosts host = list_any (λ other. bytes_eq (lower other) (lower host)) hosts

-- why a node of this host can't have a peer behind these others
abbrev pub peer_fault : List ℕ → List (List ℕ) → List ℕ → Option (List ℕ)
peer_fault own before host =
    option_or (option_map config_fault_name (config_fault own host))
    (if is_named_among before host then Some (codes "Known") else None)

-- why it can't have the first of these that it can't have
abbrev pub peers_fault : List ℕ → List (List ℕ) → List (List ℕ) → Option (List ℕ)
peers_fault own before [] = None
peers_fault own before (host ∷ hosts) =
    option_or (peer_fault own before host) (peers_fault own (before ++ host ∷ []) hosts)

-- why the settings make no node that says all they say: there is no node, or what it says beyond is too long
abbrev pub node_told_fault : Settings → Option (List ℕ)
node_told_fault s =
    option_or (option_map node_fault_name (node_fault s.host s.realm s.addresses s.product s.auth s.acct))
    (if are_extras_long s.applications s.vendors then Some (codes "TooLong") else None)

-- why they begin nothing: there is no such node, or it can't have one of these peers
abbrev pub go_fault : Settings → Option (List ℕ)
go_fault s = option_or (node_told_fault s) (peers_fault s.host [] (hosts_told s.peers))

-- what a node says beyond what it must is what the settings say, and it says none where they say none
abbrev pub AreExtrasOf : Settings → Option Extras → Type 0
AreExtrasOf s None = has_extras s ≡ false
AreExtrasOf s (Some e) =
    (has_extras s ≡ true) × (e.applications ≡ s.applications) × (e.vendors ≡ s.vendors) × (e.firmware ≡ s.firmware)
    × (e.state_id ≡ s.state_id)

-- the node that the settings make
pub record IsNodeOf (s : Settings) (n : Node) : Type 0 where
  pub host : n.host ≡ s.host
  pub realm : n.realm ≡ s.realm
  pub addresses : n.addresses ≡ s.addresses
  pub vendor : n.vendor ≡ s.vendor
  pub product : n.product ≡ s.product
  pub auth : n.auth ≡ s.auth
  pub acct : n.acct ≡ s.acct
  pub extras : AreExtrasOf s n.extras

-- the host that a CEA names is compared with the peer's (own)
abbrev pub compares_hosts : Settings → Bool
compares_hosts s = not (nat_eq s.compare 0)

-- the configuration that they make for a peer of this host; its dictionary is the base one, as of each configuration
pub record IsConfiguredFor (s : Settings) (host : List ℕ) (c : Config) : Type 0 where
  pub node : IsNodeOf s c.node
  pub peer : c.peer ≡ host
  pub first_id : c.first_id ≡ s.first_id
  pub compares : c.compares ≡ compares_hosts s

-- a closed peer of the configuration that they make for this host
pub record IsNewFor (s : Settings) (host : List ℕ) (p : Peer) : Type 0 where
  pub config : IsConfiguredFor s host p.config
  pub standing : p.standing ≡ fresh_standing s.first_id

-- these neighbours are such peers of these hosts, one of each, in order
abbrev pub AreNewFor : Settings → List (List ℕ) → List (Option Peer) → Type 0
AreNewFor s [] ps = ps ≡ []
AreNewFor s (host ∷ hosts) ps =
    (p : Peer) × (qs : List (Option Peer)) × (ps ≡ Some p ∷ qs) × IsNewFor s host p × AreNewFor s hosts qs

-- their node with closed neighbours of these hosts, without connections
pub record BeginsForHosts (s : Settings) (hosts : List (List ℕ)) (t : NodeState) : Type 0 where
  pub node : IsNodeOf s t.node
  pub peers : AreNewFor s hosts t.peers
  pub intakes : t.intakes ≡ none_there
  pub first_max : t.first_max ≡ s.first_max
  pub most : t.most ≡ s.most

-- nobody was met yet
abbrev pub AreUnmet : List (Option Acquaintance) → Type 0
AreUnmet known = AllByRecursion (λ k. k ≡ Some nobody) known

-- what the settings begin: their node with its peers, which met nobody yet
pub record Begins (s : Settings) (m : Meeting) : Type 0 where
  pub node : BeginsForHosts s s.peers m.node
  pub unmet : AreUnmet m.known

-- they tell one peer alone, or several
abbrev pub form_told : Settings → Form
form_told s = cond (nat_lt 1 (length s.peers)) Several Alone
