-- Two configurations of one host for another are one.
use Rattle.std.proofs.Common.{◌≡◌, ℕ, Bool, true, false, Option, None, List, [], ◌∷◌, codes, ap, sym, ◌∙◌, refl, subst}
use Rattle.std.proofs.Math.Bool.{Bool-set}
use Rattle.std.proofs.Math.Path.{path_j'}
use Rattle.dm_value.specs.declared.address.Ip.{Ip}
use Rattle.dm_value.specs.declared.address.Ip.TheVariants.{V4}
use Rattle.dm_tables.specs.Base.{base_definitions}
use Rattle.dm_base.specs.Fit.{is_name, are_addresses, is_number, is_product, are_ids}
use Rattle.dm_base.specs.declared.extras.Extras.{Extras}
use Rattle.dm_base.specs.declared.node.Node.{Node}
use Rattle.dm_peer.specs.declared.config.Config.{Config}
use Rattle.dm_peer.specs.Hosts.{is_same_host}
use Rattle.dm_replay.specs.HostLines.{Host}
use Rattle.dm_replay.specs.ReadScript.{IsNodeOfHost, IsConfigOf}

-- two proofs that a test answers so are one
one_proof : (b v : Bool) (p q : b ≡ v) → p ≡ q
one_proof b v p q = Bool-set b v p q

-- the parts of a node, and what holds of them
abbrev NodeParts : Type 0
NodeParts = List ℕ × List ℕ × List Ip × ℕ × List ℕ × List ℕ × List ℕ × Option Extras

abbrev AllFit : NodeParts → Type 0
AllFit x =
    (is_name x.0 ≡ true) × (is_name x.1 ≡ true) × (are_addresses x.2 ≡ true) × (is_number x.3 ≡ true) ×
    (is_product x.4 ≡ true)
    × (are_ids x.5 ≡ true) × (are_ids x.6 ≡ true)

abbrev node_of : (x : NodeParts) → AllFit x → Node
node_of x f =
    record {
      host = x.0;
      realm = x.1;
      addresses = x.2;
      vendor = x.3;
      product = x.4;
      auth = x.5;
      acct = x.6;
      extras = x.7;
      fit_host = f.0;
      fit_realm = f.1;
      fit_addresses = f.2;
      fit_vendor = f.3;
      fit_product = f.4;
      fit_auth = f.5;
      fit_acct = f.6;
    }

abbrev parts : Node → NodeParts
parts n = (n.host, n.realm, n.addresses, n.vendor, n.product, n.auth, n.acct, n.extras)

abbrev fits : (n : Node) → AllFit (parts n)
fits n = (n.fit_host, n.fit_realm, n.fit_addresses, n.fit_vendor, n.fit_product, n.fit_auth, n.fit_acct)

one_fit : (x : NodeParts) (f g : AllFit x) → f ≡ g
one_fit x f g = λ i. (
  one_proof _ _ f.0 g.0 i,
  one_proof _ _ f.1 g.1 i,
  one_proof _ _ f.2 g.2 i,
  one_proof _ _ f.3 g.3 i,
  one_proof _ _ f.4 g.4 i,
  one_proof _ _ f.5 g.5 i,
  one_proof _ _ f.6 g.6 i,
)

same_node : (n m : Node) → parts n ≡ parts m → n ≡ m
same_node n m e =
    let To : NodeParts → Type 0 = λ y. (g : AllFit y) → n ≡ node_of y g in
    let here : To (parts n) = λ g. ap (node_of (parts n)) (one_fit (parts n) (fits n) g) in
    subst To e here (fits m)

one_node : (h : Host) (n m : Node) → IsNodeOfHost h n → IsNodeOfHost h m → n ≡ m
one_node h n m a b =
    let of : (k : Node) → IsNodeOfHost h k → parts k ≡
    (h.host, codes "example", V4 (127 ∷ 0 ∷ 0 ∷ 1 ∷ []) ∷ [], 0, codes "dmpeer", h.application ∷ [], [], None) =
    λ k c. λ i. (c.host i, c.realm i, c.addresses i, c.vendor i, c.product i, c.auth i, c.acct i, c.extras i)
    in same_node n m (of n a ∙ sym (of m b))

-- a configuration with the base dictionary itself
abbrev based : (n : Node) (peer : List ℕ) (first_id : ℕ) (compares : Bool) → is_name peer ≡ true
    → is_same_host n.host peer ≡ false → Config
based n peer first_id compares fit other =
    record {
      node = n;
      peer = peer;
      first_id = first_id;
      dictionary = base_definitions;
      compares = compares;
      fit_peer = fit;
      other_host = other;
      based = refl;
    }

on_base : (c : Config) → c ≡ based c.node c.peer c.first_id c.compares c.fit_peer c.other_host
on_base c =
    path_j' {y = base_definitions}
    (λ d is. record {
      node = c.node;
      peer = c.peer;
      first_id = c.first_id;
      dictionary = d;
      compares = c.compares;
      fit_peer = c.fit_peer;
      other_host = c.other_host;
      based = is;
    }
    ≡ based c.node c.peer c.first_id c.compares c.fit_peer c.other_host)
    refl c.based

abbrev Names : Type 0
Names = Node × List ℕ × ℕ × Bool

abbrev Differ : Names → Type 0
Differ x = (is_name x.1 ≡ true) × (is_same_host x.0.host x.1 ≡ false)

same_config : (c d : Config) → c.node ≡ d.node → c.peer ≡ d.peer → c.first_id ≡ d.first_id → c.compares ≡ d.compares
    → c ≡ d
same_config c d n p k w =
    let here : Names = (c.node, c.peer, c.first_id, c.compares) in
    let there : Names = (d.node, d.peer, d.first_id, d.compares) in
    let e : here ≡ there = λ i. (n i, p i, k i, w i) in
    let To : Names → Type 0 = λ y. (g : Differ y) → based c.node c.peer c.first_id c.compares c.fit_peer c.other_host
    ≡ based y.0 y.1 y.2 y.3 g.0 g.1 in
    let at : To here = λ g. λ i. based c.node c.peer c.first_id c.compares (one_proof _ _ c.fit_peer g.0 i)
    (one_proof _ _ c.other_host g.1 i) in
    on_base c ∙ subst To e at (d.fit_peer, d.other_host) ∙ sym (on_base d)

pub one_config : (own other : Host) (c d : Config) → IsConfigOf own other c → IsConfigOf own other d → c ≡ d
one_config own other c d a b =
    same_config c d (one_node own c.node d.node a.node b.node) (a.peer ∙ sym b.peer) (a.first_id ∙ sym b.first_id)
    (a.compares ∙ sym b.compares)
