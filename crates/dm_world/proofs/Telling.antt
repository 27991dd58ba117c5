-- What a side is told comes to one step of the world.
use Rattle.std.proofs.Common.{◌≡◌, ℕ, Option, Some, None, List, [], ◌∷◌, ◌++◌, length, refl, ap, subst, ◌∙◌}
use Rattle.std.proofs.Common.{arith}
use Rattle.std.specs.Prelude.{Result, Ok, Err, IfOk, IfSome, IsTrue}
use Rattle.arrayvec.specs.ArrayVec.{ArrayVec}
use Rattle.dm_machine.specs.Node.{is_shaped}
use Rattle.dm_peer.specs.declared.actions.Action as declared_action
use Rattle.dm_peer.specs.declared.peer.Peer.{Peer}
use Rattle.dm_peer.specs.Acts.{Outcome, Moved, Refused, acts}
use Rattle.dm_peer.specs.Events as told
use Rattle.dm_two_peers.specs.Machine.{Conn, conn}
use Rattle.dm_two_peers.specs.Links.{Side, A, B, flip, Link, new_link}
use Rattle.dm_two_peers.specs.Peers.{Event, StartEvent, ActsBy, Declines}
use Rattle.dm_two_peers.specs.Worlds.{peer_on, with_peer, enter, perform, puts_of, puts_at_entry, DoneWith, after_reply}
use Rattle.dm_two_peers.specs.Worlds as worlds
use Rattle.dm_world.specs.declared.fault.Effect as effect_of
use Rattle.dm_world.specs.declared.fault.Effect.TheVariants as effect
use Rattle.dm_world.specs.declared.net.Net.{Net}
use Rattle.dm_world.specs.declared.pair.Pair.{Pair}
use Rattle.dm_world.specs.Asking.{peer_of, IsAnswerOf}
use Rattle.dm_wire.specs.Octets.{AreOctets}
use Rattle.dm_octet_peers.specs.Frames.{submitted_in, OctetsAreFrames}
use Rattle.dm_octet_peers.specs.Octets.{as_cause, of_cause, of_event, as_event, as_actions, as_reply, octet_peers}
use Rattle.dm_world.specs.declared.link.Link as declared_link
use Rattle.dm_world.specs.Rooms.{HasRoomToSend, CanSend, named}
use Rattle.dm_world.proofs.Sending.{SendLaws, room_for_reply}
use Rattle.dm_world.specs.Seen.{as_link, as_links}
use Rattle.dm_world.specs.Telling.{links_after}
use Rattle.dm_world.specs.Views.{as_world, Effects}
use Rattle.dm_base.specs.declared.kind.Cause as declared_cause
use Rattle.dm_base.specs.declared.kind.Cause.TheVariants as cause

cause_same : (c : declared_cause.Cause) → of_cause (as_cause c) ≡ c
cause_same cause.Rebooting = refl
cause_same cause.Busy = refl
cause_same cause.DoNotWantToTalkToYou = refl

pub event_same : (e : told.PeerEvent) → of_event (as_event e) ≡ e
event_same (told.Start c) = refl
event_same (told.Stop c) = ap (λ x. told.Stop x) (cause_same c)
event_same told.Timeout = refl
event_same told.Tick = refl
event_same (told.Ack c) = refl
event_same (told.Nack c) = refl
event_same (told.Gone c) = refl
event_same (told.Submit s) = refl
event_same (told.Arrived c s) = refl

-- what a peer answers is its reply
pub reply_is : (p : Peer) (e : told.PeerEvent) (o : Outcome) → acts p e ≡ o →
    octet_peers.reply p (as_event e) ≡ as_reply o
reply_is p e o is = ap (λ x. as_reply (acts p x)) (event_same e) ∙ ap as_reply is

peer_same : (s : Side) (n : Net) → peer_on s (as_world n) ≡ peer_of s n.pair
peer_same A n = refl
peer_same B n = refl

world_is : (s : Side) (old new : Net) (next : Peer) (links : List (Link (List ℕ))) → peer_of s new.pair ≡ next →
    peer_of (flip s) new.pair ≡ peer_of (flip s) old.pair → as_links new.links.items ≡ links →
    with_peer s next links (as_world old) ≡ as_world new
world_is A old new next links is other ls = cc
world_is B old new next links is other ls = cc

world_same : (s : Side) (old new : Net) → peer_of s new.pair ≡ peer_of s old.pair →
    peer_of (flip s) new.pair ≡ peer_of (flip s) old.pair → as_links new.links.items ≡ as_links old.links.items →
    as_world new ≡ as_world old
world_same A old new is other ls = cc
world_same B old new is other ls = cc

pub done_step : (s : Side) (e : told.PeerEvent) (old new : Net) (actions : ArrayVec declared_action.Action) →
    IsAnswerOf s e (Some actions) old.pair new.pair →
    as_links new.links.items ≡ links_after s (as_event e) actions.items (peer_of s new.pair)
    (as_links old.links.items) →
    Effects effect.Done (worlds.tell octet_peers s (as_event e) (as_world old)) (as_world old) (as_world new)
done_step s e old new actions answer links =
    let w = as_world old in
    let next = peer_of s new.pair in
    let put = puts_at_entry s (as_event e) w.links ++
    puts_of s (as_actions actions.items) (enter s (as_event e) w.links) in
    let reply : octet_peers.reply (peer_on s w) (as_event e) ≡ ActsBy (as_actions actions.items) next =
    ap (λ p. octet_peers.reply p (as_event e)) (peer_same s old) ∙
    reply_is (peer_of s old.pair) e (Moved actions.items next) answer.0 in (
      put,
      ap (λ r. after_reply octet_peers s (as_event e) w r) reply
          ∙ ap (λ v. DoneWith v put)
          (world_is s old new next (links_after s (as_event e) actions.items next (as_links old.links.items)) refl
          answer.1 links),
    )

-- a peer that was asked stands behind the event, and its links are those that it was asked with
pub followed : (s : Side) (e : Event (List ℕ)) (actions : List declared_action.Action) (p q : Peer)
    (mid old done : List (Link (List ℕ))) → p ≡ q → mid ≡ old → done ≡ links_after s e actions p mid →
    done ≡ links_after s e actions q old
followed s e actions p q mid old done is room follows =
    follows
    ∙ ap (λ (x : Peer). links_after s e actions x mid) is
    ∙ ap (λ ls. links_after s e actions q ls) room

pub room_seen : (s : Side) (ls : List declared_link.Link) (p q : Peer) (a b : Option Conn) → q ≡ p → b ≡ a →
    HasRoomToSend s ls q.standing.core b → HasRoomToSend s ls p.standing.core a
room_seen s ls p q a b is names h =
    subst (λ (x : Peer). HasRoomToSend s ls x.standing.core a) is
    (subst (λ n. HasRoomToSend s ls q.standing.core n) names h)

-- what is sent has room, and is a frame
pub can_send : {E : Type 0} (r : Result (Option (ArrayVec declared_action.Action)) E) (s : Side) (e : told.PeerEvent)
    (old new : Pair) (ls : List declared_link.Link) → SendLaws → OctetsAreFrames → AreOctets (submitted_in e) →
    IsTrue (is_shaped (peer_of s old).standing.core) →
    HasRoomToSend s ls (peer_of s old).standing.core (named (as_event e)) →
    IfOk r (λ answer. IsAnswerOf s e answer old new) →
    IfOk r (λ answer. IfSome answer (λ actions. CanSend s ls actions.items))
can_send (Err f) s e old new ls laws frames octets shaped room answer = tt
can_send (Ok None) s e old new ls laws frames octets shaped room answer = tt
can_send (Ok (Some actions)) s e old new ls laws frames octets shaped room answer =
    let p = peer_of s old in
    let next = peer_of s new in
    record {
      room = room_for_reply s ls p next (as_event e) actions.items laws shaped room
          (reply_is p e (Moved actions.items next) answer.0);
      frames = frames p next e actions.items octets answer.0;
    }

pub world_unchanged : (old new : Net) → new.pair ≡ old.pair → as_links new.links.items ≡ as_links old.links.items →
    as_world new ≡ as_world old
world_unchanged old new pair links = cc

-- a refusal is ignored
pub ignored_step : (s : Side) (e : told.PeerEvent) (old new : Net) → IsAnswerOf s e None old.pair new.pair →
    as_links new.links.items ≡ as_links old.links.items →
    Effects effect.Ignored (worlds.tell octet_peers s (as_event e) (as_world old)) (as_world old) (as_world new)
ignored_step s e old new answer links =
    let w = as_world old in
    let refused = answer.0.0 in
    let reply : octet_peers.reply (peer_on s w) (as_event e) ≡ Declines =
    ap (λ p. octet_peers.reply p (as_event e)) (peer_same s old) ∙
    reply_is (peer_of s old.pair) e (Refused refused.0) refused.1 in (
      ap (λ r. after_reply octet_peers s (as_event e) w r) reply,
      world_same s old new answer.0.1 answer.1 links,
    )

-- a Start names the next link
abbrev pub Starting : effect_of.Effect → ℕ → Side → Net → Net → Type 0
Starting outcome n s old new = Effects outcome (worlds.tell octet_peers s (StartEvent (conn n)) (as_world old))
    (as_world old) (as_world new)

pub started : (s : Side) (n : ℕ) (old new : Net) (actions : ArrayVec declared_action.Action) →
    n ≡ length (as_links old.links.items) → IsAnswerOf s (told.Start (conn n)) (Some actions) old.pair new.pair →
    as_links new.links.items ≡ perform s (as_actions actions.items) (as_links old.links.items ++ new_link s ∷ []) →
    Starting effect.Done (length (as_links old.links.items)) s old new
started s n old new actions is answer links =
    subst (λ k. Starting effect.Done k s old new) is (done_step s (told.Start (conn n)) old new actions answer links)

pub not_started : (s : Side) (n : ℕ) (old new : Net) → n ≡ length (as_links old.links.items) →
    IsAnswerOf s (told.Start (conn n)) None old.pair new.pair → as_links new.links.items ≡ as_links old.links.items →
    Starting effect.Ignored (length (as_links old.links.items)) s old new
not_started s n old new is answer links =
    subst (λ k. Starting effect.Ignored k s old new) is (ignored_step s (told.Start (conn n)) old new answer links)

links_append : (ls : List declared_link.Link) (l : declared_link.Link) →
    as_links (ls ++ l ∷ []) ≡ as_links ls ++ as_link l ∷ []
links_append [] l = refl
links_append (x ∷ ls) l = ap (λ z. as_link x ∷ z) (links_append ls l)

pub start_links : (s : Side) (actions : List declared_action.Action) (old roomy pushed : List declared_link.Link)
    (done : List (Link (List ℕ))) (l : declared_link.Link) → roomy ≡ old → pushed ≡ roomy ++ l ∷ [] →
    as_link l ≡ new_link s → done ≡ perform s (as_actions actions) (as_links pushed) →
    done ≡ perform s (as_actions actions) (as_links old ++ new_link s ∷ [])
start_links s actions old roomy pushed done l room pushes new performs =
    performs
    ∙ ap (λ ls. perform s (as_actions actions) (as_links ls)) (pushes ∙ ap (λ ls. ls ++ l ∷ []) room)
    ∙ ap (λ ls. perform s (as_actions actions) ls) (links_append old l ∙ ap (λ z. as_links old ++ z ∷ []) new)

-- no octets are octets
pub no_octets : AreOctets []
no_octets i = omega arith
