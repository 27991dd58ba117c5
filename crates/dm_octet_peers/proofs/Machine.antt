-- Peers over octets move as the state machine.
use Rattle.std.proofs.Common.{◌≡◌, ℕ, ◌==◌, Bool, true, false, if◌then◌else◌, List, [], ◌∷◌, map, refl, sym, ap, subst, ◌∙◌, inl, inr, arith}
use Rattle.std.proofs.lemmas.Bool.Decides.{nat_tests}
use Rattle.dm_machine.specs.declared.connection.Conn.{Conn}
use Rattle.dm_machine.specs.Connection as machine
use Rattle.dm_peer.specs.declared.actions.Action as declared_action
use Rattle.dm_peer.specs.declared.actions.Action.TheVariants as action
use Rattle.dm_peer.specs.declared.peer.Peer.{Peer}
use Rattle.dm_peer.specs.Events as told
use Rattle.dm_peer.specs.Configs.{wins}
use Rattle.dm_peer.specs.Said.{word_heard}
use Rattle.dm_peer.specs.Acts.{Outcome, Moved, Refused, acts, input_of, is_made}
use Rattle.dm_peer.specs.Steps as peer
use Rattle.dm_two_peers.specs.Machine.{conn, Elsewhere, HeardOnLink, tie_as, tie_of}
use Rattle.dm_two_peers.specs.Peers.{Event, ArrivedEvent, concern_by, deed_in}
use Rattle.dm_two_peers.specs.Follows.{StepsAsMachine, DropsMessage, is_droppable, FollowsMachine, IsMachine}
use Rattle.dm_octet_peers.proofs.Declining.{same_input, Declined, octets_decline}
use Rattle.dm_octet_peers.specs.Octets.{of_event, as_action, as_actions, as_reply, octet_peers}

-- deeds are the same on both sides
action_done : (a : declared_action.Action) → deed_in (as_action a) ≡ peer.deed_of a
action_done (action.Connect c) = refl
action_done (action.Send c s) = refl
action_done (action.Close c) = refl
action_done (action.Up s) = refl

actions_done : (l : List declared_action.Action) → map deed_in (as_actions l) ≡ map peer.deed_of l
actions_done [] = refl
actions_done (a ∷ l) = ap (λ o. o ∷ map deed_in (as_actions l)) (action_done a)
    ∙ ap (λ os. peer.deed_of a ∷ os) (actions_done l)

step_taken : (p next : Peer) (e : Event (List ℕ)) (actions : List declared_action.Action) →
    peer.IsStep p (of_event e) actions next → StepsAsMachine octet_peers p e (as_actions actions) next
step_taken p next e actions step =
    record {
      input = input_of (of_event e) step.heard;
      word = word_heard step.heard;
      wins = wins p.config;
      commands = step.commands;
      told = same_input e step.heard;
      moves = step.moves;
      deeds = actions_done actions ∙ step.deeds;
    }

-- what is dropped may be
made_droppable : (h : machine.Hold) → is_made h ≡ true → is_droppable HeardOnLink (tie_as h) ≡ true
made_droppable machine.NotHeld m = cc
made_droppable machine.Pending m = cc
made_droppable _ m = refl

same_number : (a b : ℕ) → (a == b) ≡ true → a ≡ b
same_number a b h = grind (arith, nat_tests)

dropped_at : (p : Peer) (d : Conn) (c : ℕ) (b : Bool) → (d.0 == c) ≡ b →
    is_made (machine.hold_of p.standing.core d) ≡ true →
    is_droppable (if b then HeardOnLink else Elsewhere) (tie_of p.standing.core c) ≡ true
dropped_at p d c true e made =
    let at_d = made_droppable (machine.hold_of p.standing.core d) made in
    subst (λ n. is_droppable HeardOnLink (tie_of p.standing.core n) ≡ true) (same_number d.0 c e) at_d
dropped_at p d c false e made = refl

-- the event that brings octets
pub arrives : (e : Event (List ℕ)) (d : Conn) (s : List ℕ) → of_event e ≡ told.Arrived d s → e ≡ ArrivedEvent d s
arrives (ArrivedEvent d' s') d s is = cc
arrives _ d s is = cc

drop_heard : (p : Peer) (e : Event (List ℕ)) (d : Conn) (s : List ℕ) (c : ℕ) → of_event e ≡ told.Arrived d s →
    is_made (machine.hold_of p.standing.core d) ≡ true →
    is_droppable (concern_by e (conn c)) (tie_of p.standing.core c) ≡ true
drop_heard p e d s c is made =
    subst (λ (f : Event (List ℕ)). is_droppable (concern_by f (conn c)) (tie_of p.standing.core c) ≡ true)
    (sym (arrives e d s is)) (dropped_at p d c (d.0 == c) refl made)

drop_taken : (p next : Peer) (e : Event (List ℕ)) (actions : List declared_action.Action) →
    peer.IsDrop p (of_event e) actions next → DropsMessage octet_peers p e (as_actions actions) next
drop_taken p next e actions drop =
    record {
      on = drop.conn;
      message = drop.octets;
      arrived = arrives e drop.conn drop.octets drop.arrived;
      heard = λ c. drop_heard p e drop.conn drop.octets c drop.arrived drop.made;
      silent = ap as_actions drop.silent;
      stays = ap (λ (q : Peer). q.standing.core) drop.same;
    }

reply_follows : (p : Peer) (e : Event (List ℕ)) (o : Outcome) → peer.Follows p (of_event e) o → Declined p e o →
    FollowsMachine octet_peers p e (as_reply o)
reply_follows p e (Moved actions next) (inl step) may = inl (step_taken p next e actions step)
reply_follows p e (Moved actions next) (inr drop) may = inr (drop_taken p next e actions drop)
reply_follows p e (Refused fault) h may = may

pub octets_follow : peer.EachEventIsOneStep → IsMachine octet_peers
octets_follow law =
    record {
      follows = λ p e. reply_follows p e (acts p (of_event e)) (law p (of_event e)) (octets_decline p e);
      resets = λ p. refl;
    }
