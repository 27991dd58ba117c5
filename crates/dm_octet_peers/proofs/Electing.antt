-- Two peers over octets elect.
use Rattle.std.proofs.Common.{◌≡◌, ◌<◌, ℕ, ◌^◌, Bool, true, false, not, ◌&&◌, ◌||◌, nat_eq, Option, Some, None, option_map, List, if◌then◌else◌, refl, sym, ap, subst, ◌∙◌, arith}
use Rattle.std.specs.Prelude.{is_none}
use Rattle.std.specs.Option.{option_eq}
use Rattle.std.proofs.lemmas.Bool.{and_parts}
use Rattle.std.proofs.lemmas.Bool.Decides.{nat_tests}
use Rattle.dm_wire.specs.declared.message.Header.{Header}
use Rattle.dm_wire.specs.declared.message.Message.{Message}
use Rattle.dm_wire.specs.Limits.{HeaderFits}
use Rattle.dm_wire.specs.Whole.{message_in}
use Rattle.dm_base.specs.Codes.{capabilities_exchange}
use Rattle.dm_base.specs.Built.{request_header, answer_header}
use Rattle.dm_base.specs.Common.{are_common, CommonBothWays}
use Rattle.dm_machine.specs.declared.connection.Conn.{Conn}
use Rattle.dm_machine.specs.declared.inputs.Input.{Input}
use Rattle.dm_machine.specs.declared.inputs.Word.TheVariants.{Cer, Cea}
use Rattle.dm_machine.specs.declared.state_name.State.{State}
use Rattle.dm_machine.specs.Node.{is_shaped}
use Rattle.dm_machine.specs.EachStep.{EachStepHolds}
use Rattle.dm_machine.specs.Shape.{EachStepKeepsShape}
use Rattle.dm_machine.specs.Connection.{Hold, NotHeld, Made, hold_of}
use Rattle.dm_machine.specs.Unread.{reads_first}
use Rattle.dm_machine.specs.Moves.{machine_outcome}
use Rattle.dm_peer.specs.declared.config.Config.{Config}
use Rattle.dm_peer.specs.declared.peer.Peer.{Peer}
use Rattle.dm_peer.specs.Events as told
use Rattle.dm_peer.specs.Configs.{wins}
use Rattle.dm_peer.specs.Hosts.{is_same_host}
use Rattle.dm_peer.specs.Said.{Heard, good, heard_in, heard_at, header_heard}
use Rattle.dm_peer.specs.Laws.{CerIsGood, CeaIsGood}
use Rattle.dm_peer.specs.Acts.{acts, steps, is_made, is_unread, is_unawaited, is_dropped}
use Rattle.dm_peer.specs.Acts as peer_acts
use Rattle.dm_two_peers.specs.Links.{Side, A, B, flip}
use Rattle.dm_two_peers.specs.Peers.{Event}
use Rattle.dm_machine.specs.Awaiting.{holds_cer}
use Rattle.dm_two_peers.specs.Electing.{IsPeerOf, IsReadAs, reads_start, reads_ack, reads_end, reads_cer, leaves_cer, reads_cea, RepliesAs}
use Rattle.dm_octet_peers.specs.Octets.{as_reply, octet_peers}
use Rattle.dm_base.specs.Fit.{is_number}
use Rattle.dm_octet_peers.specs.Talking.{ArePaired, config_at, is_standing, cer_octets, cea_octets, octet_talks}
use Rattle.dm_octet_peers.specs.Laws.{OctetsAreElecting}
use Rattle.dm_octet_peers.proofs.Bases.{heard_header}
use Rattle.dm_octet_peers.proofs.Winning.{one_wins}
use Rattle.dm_octet_peers.proofs.Replying.{step_replies}

if_true : {X : Type 0} (b : Bool) (x y : X) → b ≡ true → (if b then x else y) ≡ x
if_true true x y e = refl
if_true false x y e = cc

if_false : {X : Type 0} (b : Bool) (x y : X) → b ≡ false → (if b then x else y) ≡ y
if_false true x y e = cc
if_false false x y e = refl

-- what is heard of octets that are looked at, and aren't dropped
heard_of : (p : Peer) (e : told.PeerEvent) (c : Conn) (o : Option Message) (h : Heard) →
    option_map (heard_in p.config) o ≡ Some h → ((k : Header) → k ≡ h.header → is_dropped p c k ≡ false) →
    peer_acts.heard_outcome p e c o ≡ steps p e (Some h)
heard_of p e c None h is kept = cc
heard_of p e c (Some m) h is kept =
    let this : heard_in p.config m ≡ h = cc in
    let header : m.header ≡ h.header =
    sym (heard_header p.config m) ∙ ap (λ (x : Heard). x.header) this in
    if_false (is_dropped p c m.header) _ _ (kept m.header header) ∙ ap (λ x. steps p e (Some x)) this

acts_heard : (p : Peer) (c : Conn) (x : List ℕ) (h : Heard) →
    is_unread p.standing.core.state (hold_of p.standing.core c) ≡ false → heard_at p.config x ≡ Some h →
    ((k : Header) → k ≡ h.header → is_dropped p c k ≡ false) →
    acts p (told.Arrived c x) ≡ steps p (told.Arrived c x) (Some h)
acts_heard p c x h read is kept =
    if_false (is_unread p.standing.core.state (hold_of p.standing.core c)) _ _ read
    ∙ heard_of p (told.Arrived c x) c (message_in x) h is kept

reads_new : (s : State) (h : Hold) → reads_first s ≡ true → h ≡ NotHeld → is_unread s h ≡ false
reads_new s h first new = ap (is_unread s) new ∙ ap (λ b. not b) first

passes_new : (s : State) (h : Hold) → not (reads_first s) ≡ true → h ≡ NotHeld → is_unread s h ≡ true
passes_new s h first new = ap (is_unread s) new ∙ first

reads_made : (s : State) (h : Hold) → h ≡ Made → is_unread s h ≡ false
reads_made s h made = ap (is_unread s) made

new_kept : (p : Peer) (c : Conn) → hold_of p.standing.core c ≡ NotHeld → (k : Header) → is_dropped p c k ≡ false
new_kept p c new k = ap (λ h. is_made h && is_unawaited p.standing.awaited k) new

and_none : (b : Bool) → (b && false) ≡ false
and_none true = refl
and_none false = refl

same_number : (n : ℕ) → nat_eq n n ≡ true
same_number n = grind (arith, nat_tests)

-- an awaited CEA isn't dropped
awaited_kept : (p : Peer) (c : Conn) (n : ℕ) → p.standing.awaited.cea ≡ Some n → (k : Header) →
    k ≡ answer_header false (request_header capabilities_exchange n) → is_dropped p c k ≡ false
awaited_kept p c n awaited k is =
    let at : (o : Option ℕ) → o ≡ Some n → option_eq nat_eq o (Some n) ≡ true =
    λ o e. ap (λ x. option_eq nat_eq x (Some n)) e ∙ same_number n in
    let made = is_made (hold_of p.standing.core c) in
    ap (λ (h : Header). made && is_unawaited p.standing.awaited h) is
    ∙ ap (λ b. made && not b) (at p.standing.awaited.cea awaited) ∙ and_none made

fits : (n : ℕ) → is_number n ≡ true → n < 256 ^ 4
fits n h = grind (arith, nat_tests)

header_fits : (n : ℕ) → is_number n ≡ true → HeaderFits (request_header capabilities_exchange n)
header_fits n h = record { command = grind (arith); application = grind (arith); hop = fits n h; end = fits n h }

-- each side is configured for the other
named : (a b : Config) → ArePaired a b → (s : Side) →
    is_same_host (config_at a b (flip s)).node.host (config_at a b s).peer ≡ true
named a b paired A = paired.right
named a b paired B = paired.left

shares : CommonBothWays → (a b : Config) → ArePaired a b → (s : Side) →
    are_common (config_at a b (flip s)).node (config_at a b s).node ≡ true
shares both a b paired A = both b.node a.node ∙ paired.common
shares both a b paired B = paired.common

-- what is used of the crates below
pub record Below : Type 0 where
  pub steps : EachStepHolds
  pub shape : EachStepKeepsShape
  pub both : CommonBothWays
  pub cer : CerIsGood
  pub cea : CeaIsGood

-- the reply where the peer takes a step
stepped : Below → (a b : Config) (s : Side) (p : Peer) (e : told.PeerEvent) (h : Option Heard) →
    IsPeerOf (octet_talks a b) s p → acts p e ≡ steps p e h →
    RepliesAs octet_peers (octet_talks a b) s p (header_heard h)
    (machine_outcome p.standing.core (peer_acts.input_of e h) (wins (config_at a b s))) (as_reply (acts p e))
stepped below a b s p e h is steps_so =
    subst (λ o. RepliesAs octet_peers (octet_talks a b) s p (header_heard h)
    (machine_outcome p.standing.core (peer_acts.input_of e h) (wins (config_at a b s))) (as_reply o)) (sym steps_so)
    (step_replies below.steps below.shape a b s p e h is)

octet_replies : Below → (a b : Config) → ArePaired a b →
    (s : Side) (p : Peer) (e : Event (List ℕ)) (i : Input) (heard : Option Header) →
    IsPeerOf (octet_talks a b) s p →
    IsReadAs octet_peers (octet_talks a b) s p e i heard →
    RepliesAs octet_peers (octet_talks a b) s p heard (machine_outcome p.standing.core i (wins (config_at a b s)))
    (octet_peers.reply p e)
octet_replies below a b paired s p e i heard is (reads_start c) = stepped below a b s p (told.Start c) None is refl
octet_replies below a b paired s p e i heard is (reads_ack c) = stepped below a b s p (told.Ack c) None is refl
octet_replies below a b paired s p e i heard is (reads_end c) = stepped below a b s p (told.Gone c) None is refl
octet_replies below a b paired s p e i heard is (reads_cer c n number first new) =
    let x = cer_octets (config_at a b (flip s)) n in
    let h = good (request_header capabilities_exchange n) Cer in
    let from = config_at a b (flip s) in
    let to = config_at a b s in
    let good_here = below.cer from to n (fits n number) (named a b paired s) (shares below.both a b paired s) in
    let hears : heard_at p.config x ≡ Some h = ap (λ (k : Config). heard_at k x) is.configured ∙ good_here in
    stepped below a b s p (told.Arrived c x) (Some h) is
    (acts_heard p c x h (reads_new p.standing.core.state (hold_of p.standing.core c) first new) hears
    (λ k same. new_kept p c new k))
octet_replies below a b paired s p e i heard is (leaves_cer c n first new) =
    let x = cer_octets (config_at a b (flip s)) n in
    stepped below a b s p (told.Arrived c x) None is
    (if_true (is_unread p.standing.core.state (hold_of p.standing.core c)) _ _
    (passes_new p.standing.core.state (hold_of p.standing.core c) first new))
octet_replies below a b paired s p e i heard is (reads_cea c n number awaited made) =
    let x = cea_octets (config_at a b (flip s)) n in
    let h = good (answer_header false (request_header capabilities_exchange n)) Cea in
    let from = config_at a b (flip s) in
    let same : is_same_host from.node.host p.config.peer ≡ true =
    ap (λ (k : Config). is_same_host from.node.host k.peer) is.configured ∙ named a b paired s in
    let good_here = below.cea p.config from (request_header capabilities_exchange n) (header_fits n number) refl
    (λ compared. same) in
    stepped below a b s p (told.Arrived c x) (Some h) is
    (acts_heard p c x h (reads_made p.standing.core.state (hold_of p.standing.core c) made) good_here
    (awaited_kept p c n awaited))

none_of : (b : Bool) (o : Option Header) → (b || is_none o) ≡ true → not b ≡ true → o ≡ None
none_of true o h e = cc
none_of false None h e = refl
none_of false (Some n) h e = cc

parts : (p : Peer) → is_standing p ≡ true →
    (is_number p.standing.next ≡ true) × ((holds_cer p.standing.core.state || is_none p.standing.waiting) ≡ true)
parts p h =
    let waits = holds_cer p.standing.core.state || is_none p.standing.waiting in
    let one = and_parts (is_number p.standing.next) (is_shaped p.standing.core && waits) h in
    (one.0, (and_parts (is_shaped p.standing.core) waits one.1).1)

pub octets_are_electing : Below → OctetsAreElecting
octets_are_electing below a b paired =
    record {
      one_wins = one_wins a b paired;
      numbers = λ p h. (parts p h).0;
      keeps_none = λ p h free. none_of (holds_cer p.standing.core.state) p.standing.waiting (parts p h).1 free;
      replies = octet_replies below a b paired;
    }
