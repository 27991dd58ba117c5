-- A step of a peer keeps a link's standing sound: checked at every standing.
use Rattle.std.proofs.Common.{◌≡◌, Bool, true, false, not, ◌&&◌, refl}
use Rattle.dm_two_peers.specs.Machine.{LinkConcern, Elsewhere, StartsLink, MakesLink, FailsLink, EndsLink, HeardOnLink, Tie, Unheld}
use Rattle.dm_two_peers.specs.Machine.{Connecting, Connected, ConnectedOpen, AcceptedTie, is_tie_held}
use Rattle.dm_two_peers.specs.Steps.{own_settled}
use Rattle.dm_two_peers.specs.Worlds.{takes_more}
use Rattle.dm_two_peers.specs.Facts.{Standing, turned_over, is_sound_standing, is_pending, is_up}
use Rattle.dm_two_peers.specs.Facts.{is_shut, is_coming}
use Rattle.dm_two_peers.proofs.Columns.{phase_at, own_at, other_at, incoming_mark_at, outgoing_mark_at, phase_after}
use Rattle.dm_two_peers.proofs.Columns.{own_after, mark_after}
use Rattle.dm_two_peers.proofs.Every.{all_true, every_bool, every_tie, every_concern, every_phase, every_end}
use Rattle.dm_two_peers.proofs.Every.{every_mark, every_standing}

-- where the first test holds, the second
abbrev pub when : Bool → Bool → Bool
when b x = elim b [ false ↦ true | true ↦ x ]

pub is_when : (b x : Bool) → when b x ≡ true → b ≡ true → x ≡ true
is_when true x h e = h
is_when false x h e = cc

-- the changes that a step of the peer may make to a link: how the event concerns it, how the node held and holds it,
-- whether it is closed, and whether something is sent on it
abbrev pub is_allowed : LinkConcern → Tie → Tie → Bool → Bool → Bool
is_allowed Elsewhere Unheld Unheld false sent = not sent
is_allowed Elsewhere Connecting Connecting false sent = not sent
is_allowed Elsewhere Connecting Unheld true sent = not sent
is_allowed Elsewhere Connected Connected false sent = true
is_allowed Elsewhere Connected Unheld true sent = true
is_allowed Elsewhere ConnectedOpen ConnectedOpen false sent = true
is_allowed Elsewhere ConnectedOpen Connected false sent = true
is_allowed Elsewhere ConnectedOpen Unheld true sent = true
is_allowed Elsewhere AcceptedTie AcceptedTie false sent = true
is_allowed Elsewhere AcceptedTie Unheld true sent = true
is_allowed StartsLink Unheld Connecting false sent = not sent
is_allowed MakesLink Connecting Connected false sent = sent
is_allowed MakesLink Connecting Unheld true sent = true
is_allowed FailsLink Connecting Unheld false sent = not sent
is_allowed EndsLink Unheld Unheld false sent = not sent
is_allowed EndsLink Connected Unheld true sent = true
is_allowed EndsLink ConnectedOpen Unheld true sent = true
is_allowed EndsLink AcceptedTie Unheld true sent = true
is_allowed HeardOnLink Unheld AcceptedTie false sent = true
is_allowed HeardOnLink Unheld Unheld true sent = true
is_allowed HeardOnLink Connected Connected false sent = true
is_allowed HeardOnLink Connected ConnectedOpen false sent = true
is_allowed HeardOnLink Connected Unheld true sent = true
is_allowed HeardOnLink ConnectedOpen ConnectedOpen false sent = true
is_allowed HeardOnLink ConnectedOpen Connected false sent = true
is_allowed HeardOnLink ConnectedOpen Unheld true sent = true
is_allowed HeardOnLink AcceptedTie AcceptedTie false sent = true
is_allowed HeardOnLink AcceptedTie Unheld true sent = true
is_allowed _ _ _ _ _ = false

-- what the world hands over: an Ack and a Nack of a pending link, a message and an end of one that is up
abbrev pub is_ready : LinkConcern → Tie → Bool
is_ready Elsewhere _ = true
is_ready StartsLink Unheld = true
is_ready MakesLink Connecting = true
is_ready FailsLink Connecting = true
is_ready HeardOnLink Connecting = false
is_ready HeardOnLink _ = true
is_ready EndsLink Connecting = false
is_ready EndsLink _ = true
is_ready _ _ = false

-- what the world looked at
abbrev pub is_handed : Bool → LinkConcern → Standing → Bool
is_handed mine Elsewhere s = true
is_handed mine StartsLink s = false
is_handed mine MakesLink s = mine && is_pending s.phase
is_handed mine FailsLink s = mine && is_pending s.phase
is_handed mine EndsLink s = is_up s.phase && not (is_shut s.own) && s.in_empty && is_coming s.in_mark
is_handed mine HeardOnLink s = is_up s.phase && not (is_shut s.own) && not s.in_empty

-- whether the lists may be empty afterwards: the incoming one loses its front, the outgoing one takes what is sent,
-- which is something unless a Close came before it
abbrev pub after_pop : LinkConcern → Bool → (Bool → Bool) → Bool
after_pop HeardOnLink empty f = every_bool f
after_pop k empty f = f empty

abbrev pub after_put : Bool → Bool → Bool → (Bool → Bool) → Bool
after_put true true empty f = every_bool f
after_put true false empty f = f false
after_put false closed empty f = f empty

abbrev pub standing_after : LinkConcern → Tie → Bool → Bool → Bool → Standing → Standing
standing_after k t closed in_empty out_empty s =
    record {
      own_tie = t;
      other_tie = s.other_tie;
      phase = phase_after closed (phase_at k s.phase);
      own = own_settled k (is_tie_held t) (own_after closed (phase_at k s.phase) (own_at k s.own));
      other = other_at k s.other;
      in_empty = in_empty;
      out_empty = out_empty;
      in_mark = incoming_mark_at k s.in_mark;
      out_mark = mark_after closed (phase_at k s.phase) (outgoing_mark_at k s.own s.out_mark);
    }

abbrev pub puts_in : LinkConcern → Bool → Standing → Bool
puts_in k sent s = sent && takes_more (phase_at k s.phase) (outgoing_mark_at k s.own s.out_mark)

abbrev pub step_to : Bool → LinkConcern → Standing → Tie → Bool → Bool → Bool
step_to mine k s t closed sent =
    when (is_allowed k s.own_tie t closed sent)
    (after_pop k s.in_empty
    (λ ie. after_put (puts_in k sent s) closed s.out_empty
    (λ oe. is_sound_standing (turned_over mine (standing_after k t closed ie oe s)))))

abbrev pub step_by : Bool → LinkConcern → Standing → Bool
step_by mine k s =
    when (is_handed mine k s)
    (is_ready k s.own_tie && every_tie
    (λ t. every_bool (λ closed. every_bool (λ sent. step_to mine k s t closed sent))))

abbrev pub steps : Standing → Bool
steps s = when (is_sound_standing s) (every_bool (λ mine. every_concern (λ k. step_by mine k (turned_over mine s))))

pub steps_checked : every_standing steps ≡ true
unfolding all_true every_bool every_tie every_concern every_phase every_end every_mark
steps_checked = refl
