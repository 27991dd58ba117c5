-- Whether two sides have an application in common, and whether one takes connections without security (RFC 6733, 5.3).
use Rattle.std.specs.Prelude.{◌≡◌, ◌↔◌, ◌⊎◌, ℕ, Bool, true, ◌||◌, nat_eq, List, [], length, Contains}
use Rattle.std.specs.List.{list_any}
use Rattle.dm_base.specs.Codes.{relay, no_inband_security}
use Rattle.dm_base.specs.Built.{own_caps}
use Rattle.dm_base.specs.Extra.{specific_ids, own_ids}
use Rattle.dm_base.specs.declared.kind.Caps.{Caps}
use Rattle.dm_base.specs.declared.node.Node.{Node}

-- the id is in the list
abbrev pub lists_id : List ℕ → ℕ → Bool
lists_id l id = list_any (λ other. nat_eq other id) l

-- the node has the Application-ID of a relay (2.4)
abbrev pub is_relay : Node → Bool
is_relay n = lists_id n.auth relay || lists_id n.acct relay || lists_id (specific_ids n) relay

-- the id is among the own ones, or a relay's
abbrev pub is_own : List ℕ → List ℕ → List ℕ → ℕ → Bool
is_own auth acct specific id = nat_eq id relay || lists_id auth id || lists_id acct id || lists_id specific id

-- some of these ids is the node's, or a relay's
abbrev pub meets : Node → List ℕ → Bool
meets n theirs = list_any (is_own n.auth n.acct (specific_ids n)) theirs

-- some Application-ID is on both sides, or one side is a relay
abbrev pub is_common : Caps → Node → Bool
is_common c n = is_relay n || meets n c.applications

-- the same of two nodes
abbrev pub are_common : Node → Node → Bool
are_common n m = is_relay n || is_relay m || meets n m.auth || meets n m.acct || meets n (specific_ids m)

-- no Inband-Security-Id, or NO_INBAND_SECURITY among them (6.10)
abbrev pub are_secure : List ℕ → Bool
are_secure ids = nat_eq (length ids) 0 || lists_id ids no_inband_security

abbrev pub is_secure : Caps → Bool
is_secure c = are_secure c.security

-- some Application-ID is on both sides, or one side has that of a relay (5.3)
abbrev pub Share : List ℕ → List ℕ → Type 0
Share ids others = Contains ids relay ⊎ Contains others relay ⊎ ((id : ℕ) × Contains ids id × Contains others id)

-- capabilities and a node have an application in common just where they share one
abbrev pub CommonIsShared : Type 0
CommonIsShared = (c : Caps) (n : Node) → (is_common c n ≡ true) ↔ Share c.applications (own_ids n)

abbrev pub NodesShare : Type 0
NodesShare = (n m : Node) → (are_common n m ≡ true) ↔ Share (own_ids m) (own_ids n)

-- what a node says of itself has an application in common with another just where the two nodes have
abbrev pub OwnInCommon : Type 0
OwnInCommon = (n m : Node) → is_common (own_caps n) m ≡ are_common n m

-- and the other way round
abbrev pub CommonBothWays : Type 0
CommonBothWays = (n m : Node) → are_common n m ≡ are_common m n

-- a side takes connections without security just where it names no Inband-Security-Id, or that of none
abbrev pub SecureNamesNone : Type 0
SecureNamesNone = (c : Caps) → (is_secure c ≡ true) ↔ ((c.security ≡ []) ⊎ Contains c.security no_inband_security)
