-- Two peers over octets that are configured for each other, as the laws of clean runs see them.
use Rattle.std.specs.Prelude.{◌≡◌, ℕ, Bool, true, false, not, ◌&&◌, ◌||◌, is_none, None, List, IsTrue}
use Rattle.dm_wire.specs.declared.message.Header.{Header}
use Rattle.dm_base.specs.Codes.{capabilities_exchange, success}
use Rattle.dm_base.specs.Built.{request_header, answer_header, built_cer, built_cea}
use Rattle.dm_base.specs.Common.{are_common}
use Rattle.dm_base.specs.Fit.{is_number}
use Rattle.dm_machine.specs.Node.{is_shaped}
use Rattle.dm_peer.specs.declared.config.Config.{Config}
use Rattle.dm_peer.specs.declared.peer.Peer.{Peer}
use Rattle.dm_peer.specs.Configs as configs
use Rattle.dm_peer.specs.Hosts.{is_same_host}
use Rattle.dm_peer.specs.Octets.{octets_of}
use Rattle.dm_two_peers.specs.Links.{Side, A, B}
use Rattle.dm_two_peers.specs.Worlds.{World}
use Rattle.dm_machine.specs.Awaiting.{holds_cer}
use Rattle.dm_two_peers.specs.Electing.{Talks}
use Rattle.dm_two_peers.specs.Joining.{is_returning}

-- each is configured for the other's host, and they have an application in common (RFC 6733, 5.3)
pub record ArePaired (a b : Config) : Type 0 where
  pub left : is_same_host a.node.host b.peer ≡ true
  pub right : is_same_host b.node.host a.peer ≡ true
  pub common : are_common a.node b.node ≡ true

abbrev pub config_at : Config → Config → Side → Config
config_at a b A = a
config_at a b B = b

-- a peer as every list of events leaves it: the shape of its node, its next number, and a CER waits for its CEA in the
-- states for it alone
abbrev pub is_standing : Peer → Bool
is_standing p =
    is_number p.standing.next
    && (is_shaped p.standing.core && (holds_cer p.standing.core.state || is_none p.standing.waiting))

-- a peer that wins its elections isn't in Wait-Returns (5.6.4)
abbrev pub returns_as_loser : Peer → Bool
returns_as_loser p = not (is_returning p.standing.core.state && configs.wins p.config)

-- the octets of a CER under a number, and of the CEA that accepts it (5.3)
abbrev pub cer_octets : Config → ℕ → List ℕ
cer_octets c n = octets_of (built_cer c.node n)

abbrev pub cea_octets : Config → ℕ → List ℕ
cea_octets c n = octets_of (built_cea c.node (request_header capabilities_exchange n) success None)

-- the peers of a world are configured for each other, each stands so, and none is in Wait-Returns but one that loses
pub record ArePeers (w : World Peer (List ℕ)) : Type 0 where
  pub paired : ArePaired w.a.config w.b.config
  pub left : IsTrue (is_standing w.a)
  pub right : IsTrue (is_standing w.b)
  pub left_returns : IsTrue (returns_as_loser w.a)
  pub right_returns : IsTrue (returns_as_loser w.b)

abbrev pub octet_talks : Config → Config → Talks Peer (List ℕ) Config Header
octet_talks a b =
    record {
      config_of = λ p. p.config;
      next_of = λ p. p.standing.next;
      awaited_of = λ p. p.standing.awaited.cea;
      waiting_of = λ p. p.standing.waiting;
      is_standing = is_standing;
      config = config_at a b;
      wins = λ s. configs.wins (config_at a b s);
      is_number = is_number;
      cer = cer_octets;
      cea = cea_octets;
      cer_header = λ n. request_header capabilities_exchange n;
      cea_header = λ n. answer_header false (request_header capabilities_exchange n);
    }
