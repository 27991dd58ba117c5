-- What comparing changes: a CEA's word goes by the test of its sender, and nothing else by the option.
use Rattle.std.proofs.Common.{◌≡◌, ℕ, Bool, true, false, not, ◌&&◌, Option, None, Some, List, Result, Ok, Err, if◌then◌else◌, refl, sym, ap, ◌∙◌}
use Rattle.dm_wire.specs.declared.message.Message.{Message}
use Rattle.dm_dict.specs.Faults.{Fault}
use Rattle.dm_base.specs.declared.kind.Caps.{Caps}
use Rattle.dm_base.specs.declared.kind.Kind.{Kind}
use Rattle.dm_base.specs.declared.kind.Kind.TheVariants as kinds
use Rattle.dm_base.specs.declared.node.Node.{Node}
use Rattle.dm_base.specs.Common.{is_common, is_secure}
use Rattle.dm_base.specs.Kinds.{kind}
use Rattle.dm_machine.specs.declared.inputs.Word.TheVariants.{CeaFailed}
use Rattle.dm_peer.specs.declared.config.Config.{Config}
use Rattle.dm_peer.specs.Hosts.{is_same_host}
use Rattle.dm_peer.specs.Said.{good, heard_caps, heard_in, is_other_sender, kind_under, refusal_of_caps, said, sender_host, word_of_code}
use Rattle.dm_peer.specs.Comparing.{PlainGoesByCode, OtherSenderFails, PeerIsHeardAlike, OthersAreHeardAlike}

-- the test of a sender
not_compared : (compares same : Bool) → compares ≡ false → (compares && not same) ≡ false
not_compared compares same off = rw (off) refl

is_another : (compares same : Bool) → compares ≡ true → same ≡ false → (compares && not same) ≡ true
is_another compares same on other = rw (on, other) refl

is_peer : (compares same : Bool) → same ≡ true → (compares && not same) ≡ false
is_peer true same e = ap not e
is_peer false same e = refl

-- a CEA that passes its check, where the test of its sender comes out so
cea_heard : (c : Config) (m : Message) (code : ℕ) (other : Bool) → kind_under c m ≡ Ok (kinds.Cea code) →
    is_other_sender c m ≡ other → heard_in c m ≡ good m.header (if other then CeaFailed else word_of_code code)
cea_heard c m code other is told =
    ap (said c m) is ∙ ap (λ b. good m.header (if b then CeaFailed else word_of_code code)) told

pub plain_goes_by_code : PlainGoesByCode
plain_goes_by_code c m code off is =
    cea_heard c m code false is (not_compared c.compares (is_same_host (sender_host m) c.peer) off)

pub other_sender_fails : OtherSenderFails
other_sender_fails c m code on other is =
    cea_heard c m code true is (is_another c.compares (is_same_host (sender_host m) c.peer) on other)

-- the kind goes by the base dictionary, and a refusal of capabilities by the node and the peer
same_kind : (c d : Config) (m : Message) → kind_under c m ≡ kind_under d m
unfolding kind_under
same_kind c d m = ap (λ x. kind x m) (c.based ∙ sym d.based)

abbrev refused_by : Node → List ℕ → Caps → Option ℕ
refused_by node peer caps =
    if not (is_same_host caps.host peer) then Some 3010
    else (if not (is_common caps node) then Some 5010 else (if not (is_secure caps) then Some 5017 else None))

same_refusal : (c d : Config) (caps : Caps) → c.node ≡ d.node → c.peer ≡ d.peer →
    refusal_of_caps c caps ≡ refusal_of_caps d caps
same_refusal c d caps n p = λ i. refused_by (n i) (p i) caps

-- a message that is no CEA, or whose sender is no other to either, says the same
said_alike : (c d : Config) (m : Message) (r : Result Kind Fault) → c.node ≡ d.node → c.peer ≡ d.peer →
    ((code : ℕ) → r ≡ Ok (kinds.Cea code) → is_other_sender c m ≡ is_other_sender d m) → said c m r ≡ said d m r
said_alike c d m (Ok (kinds.Cer caps)) n p alike = ap (heard_caps m.header) (same_refusal c d caps n p)
said_alike c d m (Ok (kinds.Cea code)) n p alike =
    ap (λ b. good m.header (if b then CeaFailed else word_of_code code)) (alike code refl)
said_alike c d m (Ok kinds.Dwr) n p alike = refl
said_alike c d m (Ok kinds.Dwa) n p alike = refl
said_alike c d m (Ok (kinds.Dpr cause)) n p alike = refl
said_alike c d m (Ok kinds.Dpa) n p alike = refl
said_alike c d m (Ok kinds.Other) n p alike = refl
said_alike c d m (Err f) n p alike = refl

heard_alike : (c d : Config) (m : Message) → c.node ≡ d.node → c.peer ≡ d.peer →
    ((code : ℕ) → kind_under c m ≡ Ok (kinds.Cea code) → is_other_sender c m ≡ is_other_sender d m) →
    heard_in c m ≡ heard_in d m
heard_alike c d m n p alike =
    said_alike c d m (kind_under c m) n p alike ∙ ap (said d m) (same_kind c d m)

pub peer_is_heard_alike : PeerIsHeardAlike
peer_is_heard_alike c d m n p same =
    heard_alike c d m n p
    (λ code is. is_peer c.compares (is_same_host (sender_host m) c.peer) same
    ∙ sym (is_peer d.compares (is_same_host (sender_host m) d.peer)
    (sym (ap (is_same_host (sender_host m)) p) ∙ same)))

pub others_are_heard_alike : OthersAreHeardAlike
others_are_heard_alike c d m n p none = heard_alike c d m n p (λ code is. absurd (none code is))
