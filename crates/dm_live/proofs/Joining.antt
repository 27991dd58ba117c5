-- The neighbours that a configuration tells, one by one.
use Rattle.std.proofs.Common.{◌≡◌, ◌≢◌, ◌⊎◌, inl, inr, ℕ, zero, suc, Bool, true, false, ◌||◌, if◌then◌else◌, Option, None, Some}
use Rattle.std.proofs.Common.{List, [], ◌∷◌, ◌++◌, codes, ap, ◌∙◌, sym, subst, refl, append_assoc}
use Rattle.std.specs.Prelude.{bytes_eq}
use Rattle.std.specs.Option.{option_map, option_or}
use Rattle.std.proofs.lemmas.Slice.Eq.{bytes_eq-Decides}
use Rattle.dm_base.specs.Before.{lower}
use Rattle.dm_base.specs.declared.node.Node.{Node}
use Rattle.dm_history.specs.History.{new_peer}
use Rattle.dm_node.specs.Adding.{with_new}
use Rattle.dm_node.specs.Holding.{host_at, IsKnown}
use Rattle.dm_node.specs.NodeStates.{NodeState, with_node_peers}
use Rattle.dm_peer.specs.declared.config.Config.{Config}
use Rattle.dm_peer.specs.declared.fault.ConfigFault.{ConfigFault}
use Rattle.dm_peer.specs.declared.fault.ConfigFault.TheVariants.{NoMemory}
use Rattle.dm_peer.specs.declared.peer.Peer.{Peer}
use Rattle.dm_peer.specs.After.{fresh_standing}
use Rattle.dm_peer.specs.Hosts.{config_fault}
use Rattle.dm_live.specs.Beginnings.{config_fault_name, hosts_told, first_told, is_named_among, peer_fault, peers_fault}
use Rattle.dm_live.specs.Beginnings.{node_told_fault, go_fault, IsNodeOf, IsConfiguredFor, IsNewFor}
use Rattle.dm_live.specs.Beginnings.{AreNewFor, AreUnmet, compares_hosts}
use Rattle.dm_slots.specs.Acquaintances.{Acquaintance}
use Rattle.dm_node.specs.NodeKnown.{with_nobody}
use Rattle.dm_live.specs.Beginnings.{BeginsForHosts}
use Rattle.dm_live.specs.Joining.{AddsLike, RefusesHost}
use Rattle.dm_live.specs.Settings.{Settings}

abbrev known_if : Bool → Option (List ℕ)
known_if b = if b then Some (codes "Known") else None

-- the first peer can't be had, which stands behind no other
pub first_refused : (s : Settings) (f : ConfigFault) (own host name : List ℕ) → node_told_fault s ≡ None
    → own ≡ s.host → host ≡ first_told s.peers → (f ≡ NoMemory) ⊎ (config_fault own host ≡ Some f) → f ≢ NoMemory
    → name ≡ config_fault_name f → go_fault s ≡ Some name
first_refused s f own host name good same first (inl none) known named = absurd (known none)
first_refused s f own host name good same first (inr is) known named =
    ap (λ v. option_or v (peers_fault s.host [] (hosts_told s.peers))) good
    ∙ by s.peers (sym (ap (λ v. config_fault v host) same ∙ ap (λ v. config_fault s.host v) first) ∙ is) ∙ ap Some (sym named)
  where
    by : (peers : List (List ℕ)) → config_fault s.host (first_told peers) ≡ Some f
        → peers_fault s.host [] (hosts_told peers) ≡ Some (config_fault_name f)
    by [] is = ap (λ v. option_or (option_or (option_map config_fault_name v) None) None) is
    by (host ∷ hosts) is =
        ap (λ v. option_or (option_or (option_map config_fault_name v) None) (peers_fault s.host (host ∷ []) hosts)) is

-- the hosts that are told, or none, whose name no host has
hosts_fault : (own : List ℕ) (peers : List (List ℕ)) → config_fault own (first_told peers) ≡ None
    → peers_fault own [] (hosts_told peers) ≡ peers_fault own [] peers
hosts_fault own [] fits = ap (λ v. option_or (option_or (option_map config_fault_name v) None) None) fits
hosts_fault own (host ∷ hosts) fits = refl

-- where there is such a node, and the first host can be a peer's, all hangs on the hosts
pub goes_by_peers : (s : Settings) → node_told_fault s ≡ None → config_fault s.host (first_told s.peers) ≡ None
    → go_fault s ≡ peers_fault s.host [] s.peers
goes_by_peers s good fits =
    ap (λ v. option_or v (peers_fault s.host [] (hosts_told s.peers))) good ∙ hosts_fault s.host s.peers fits

-- a neighbour of a host has it, and no other host is known
among_known : (s : Settings) (hosts : List (List ℕ)) (ps : List (Option Peer)) (host : List ℕ) → AreNewFor s hosts ps
    → is_named_among hosts host ≡ true → IsKnown ps host
among_known s [] ps host are is = absurd (cc)
among_known s (other ∷ hosts) ps host (p, qs, ps_is, new, rest) is =
    let Known : List (Option Peer) → Type 0 = λ v. IsKnown v host in
    let behind : is_named_among hosts host ≡ true → IsKnown qs host = λ more. among_known s hosts qs host rest more in
    subst Known (sym ps_is) (by behind (bytes_eq (lower other) (lower host)) refl is) where
      by : (is_named_among hosts host ≡ true → IsKnown qs host) → (b : Bool)
          → bytes_eq (lower other) (lower host) ≡ b → (b || is_named_among hosts host) ≡ true
          → IsKnown (Some p ∷ qs) host
      by behind true same _ =
          record {
            number = 0;
            named = ap (λ v. Some (lower v)) new.config.peer
                ∙ ap Some ((bytes_eq-Decides (lower other) (lower host)).0 same);
          }
      by behind false other_host more = let so = behind more in record { number = suc so.number; named = so.named }

or_true : (b : Bool) → (b || true) ≡ true
or_true true = refl
or_true false = refl

known_among : (s : Settings) (hosts : List (List ℕ)) (ps : List (Option Peer)) (host : List ℕ) (i : ℕ)
    → AreNewFor s hosts ps → host_at ps i ≡ Some (lower host) → is_named_among hosts host ≡ true
known_among s [] ps host i are named =
    let never : host_at [] i ≡ Some (lower host) = ap (λ v. host_at v i) (sym are) ∙ named in absurd (cc never)
known_among s (other ∷ hosts) ps host i (p, qs, is, new, rest) named =
    by (λ k at. known_among s hosts qs host k rest at) i (ap (λ v. host_at v i) (sym is) ∙ named) where
      by : ((k : ℕ) → host_at qs k ≡ Some (lower host) → is_named_among hosts host ≡ true) → (i : ℕ)
          → host_at (Some p ∷ qs) i ≡ Some (lower host) → is_named_among (other ∷ hosts) host ≡ true
      by behind zero at =
          let same : lower other ≡ lower host = ap lower (sym new.config.peer) ∙ cc at in
          ap (λ v. v || is_named_among hosts host) ((bytes_eq-Decides (lower other) (lower host)).1 same)
      by behind (suc k) at =
          ap (λ v. bytes_eq (lower other) (lower host) || v) (behind k at)
          ∙ or_true (bytes_eq (lower other) (lower host))

unknown_among : (s : Settings) (hosts : List (List ℕ)) (ps : List (Option Peer)) (host : List ℕ) → AreNewFor s hosts ps
    → (IsKnown ps host → ⊥) → is_named_among hosts host ≡ false
unknown_among s hosts ps host are none = by (is_named_among hosts host) refl where
  by : (b : Bool) → is_named_among hosts host ≡ b → b ≡ false
  by true is = absurd (none (among_known s hosts ps host are is))
  by false is = refl

peer_fits : (s : Settings) (before : List (List ℕ)) (ps : List (Option Peer)) (own host : List ℕ)
    → AreNewFor s before ps
    → config_fault own host ≡ None → (IsKnown ps host → ⊥) → peer_fault own before host ≡ None
peer_fits s before ps own host are fits new =
    ap (λ v. option_or (option_map config_fault_name v) (known_if (is_named_among before host))) fits
    ∙ ap known_if (unknown_among s before ps host are new)

peer_refused : (s : Settings) (before : List (List ℕ)) (ps : List (Option Peer)) (own host name : List ℕ)
    → AreNewFor s before ps → RefusesHost own ps host name → peer_fault own before host ≡ Some name
peer_refused s before ps own host name are (inl (f, is, named)) =
    ap (λ v. option_or (option_map config_fault_name v) (known_if (is_named_among before host))) is ∙ ap Some (sym named)
peer_refused s before ps own host name are (inr (fits, known, named)) =
    ap (λ v. option_or (option_map config_fault_name v) (known_if (is_named_among before host))) fits
    ∙ ap known_if (known_among s before ps host known.number are known.named) ∙ ap Some (sym named)

-- one neighbour more
new_push : (s : Settings) (hosts : List (List ℕ)) (ps : List (Option Peer)) (host : List ℕ) (p : Peer)
    → AreNewFor s hosts ps → IsNewFor s host p → AreNewFor s (hosts ++ host ∷ []) (ps ++ Some p ∷ [])
new_push s [] ps host p are new = (p, [], ap (λ v. v ++ Some p ∷ []) are, new, refl)
new_push s (other ∷ hosts) ps host p (q, qs, is, old, rest) new =
    (q, qs ++ Some p ∷ [], ap (λ v. v ++ Some p ∷ []) is, old, new_push s hosts qs host p rest new)

pub begun_more : (s : Settings) (first : List ℕ) (before : List (List ℕ)) (template : Config) (host : List ℕ)
    (t u : NodeState) → IsConfiguredFor s first template → BeginsForHosts s before t → AddsLike template host t u
    → BeginsForHosts s (before ++ host ∷ []) u
begun_more s first before template host t u made so adds =
    let Node : Node → Type 0 = λ v. IsNodeOf s v in
    let Begun : NodeState → Type 0 = λ v. BeginsForHosts s (before ++ host ∷ []) v in
    let id : adds.config.first_id ≡ s.first_id = adds.first_id ∙ made.first_id in
    let compares : adds.config.compares ≡ compares_hosts s = adds.compares ∙ made.compares in
    let new : IsNewFor s host (new_peer adds.config adds.config.first_id) = record {
      config = record { node = subst Node (sym adds.node) made.node; peer = adds.peer; first_id = id; compares = compares };
      standing = ap fresh_standing id;
    } in
    let more : Begun (with_node_peers (with_new t.peers adds.config) t) = record {
      node = so.node;
      peers = new_push s before t.peers host _ so.peers new;
      intakes = so.intakes;
      first_max = so.first_max;
      most = so.most;
    } in subst Begun (sym adds.added) more

-- what is begun of hosts, and which are left
pub record Joining (s : Settings) (hosts : List (List ℕ)) (t : NodeState) : Type 0 where
  pub before : List (List ℕ)
  pub whole : before ++ hosts ≡ s.peers
  pub begun : BeginsForHosts s before t
  pub fault : peers_fault s.host [] s.peers ≡ peers_fault s.host before hosts

pub joining_more : (s : Settings) (first : List ℕ) (template : Config) (host : List ℕ) (hosts : List (List ℕ))
    (t u : NodeState) → IsConfiguredFor s first template → Joining s (host ∷ hosts) t → AddsLike template host t u
    → config_fault template.node.host host ≡ None → (IsKnown t.peers host → ⊥) → Joining s hosts u
joining_more s first template host hosts t u made so adds fits new =
    let own = ap (λ v. config_fault v host) (sym made.node.host) ∙ fits in
    let none = peer_fits s so.before t.peers s.host host so.begun.peers own new in
    record {
      before = so.before ++ host ∷ [];
      whole = append_assoc so.before (host ∷ []) hosts ∙ so.whole;
      begun = begun_more s first so.before template host t u made so.begun adds;
      fault = so.fault ∙ ap (λ v. option_or v (peers_fault s.host (so.before ++ host ∷ []) hosts)) none;
    }

pub joining_refused : (s : Settings) (first : List ℕ) (template : Config) (host name : List ℕ) (hosts : List (List ℕ))
    (t : NodeState) → IsConfiguredFor s first template → Joining s (host ∷ hosts) t
    → RefusesHost template.node.host t.peers host name → peers_fault s.host [] s.peers ≡ Some name
joining_refused s first template host name hosts t made so refuses =
    let Refuses : List ℕ → Type 0 = λ v. RefusesHost v t.peers host name in
    let is = peer_refused s so.before t.peers s.host host name so.begun.peers (subst Refuses made.node.host refuses) in
    so.fault ∙ ap (λ v. option_or v (peers_fault s.host (so.before ++ host ∷ []) hosts)) is

-- one more who was met by nobody
pub unmet_more : (known new : List (Option Acquaintance)) → AreUnmet known → new ≡ with_nobody known → AreUnmet new
unmet_more known new none is = subst AreUnmet (sym is) (all known none)
  where
    all : (known : List (Option Acquaintance)) → AreUnmet known → AreUnmet (with_nobody known)
    all [] none = (refl, tt)
    all (k ∷ known) none = (none.0, all known none.1)
