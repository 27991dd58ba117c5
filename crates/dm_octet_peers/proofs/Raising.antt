-- A message of an application is handed up where it comes on the connection on which the peer is open, and no other is.
use Rattle.std.proofs.Common.{nat_eq, ◌≡◌, ℕ, Bool, true, false, not, ◌&&◌, Option, None, Some, List, [], ◌∷◌, if◌then◌else◌, refl, sym, ap, subst, ◌∙◌}
use Rattle.std.specs.Prelude.{⊤}
use Rattle.std.specs.Option.{option_eq}
use Rattle.dm_wire.specs.declared.message.Message.{Message}
use Rattle.dm_wire.specs.Whole.{message_in}
use Rattle.dm_base.specs.Commands.{is_base_command}
use Rattle.dm_machine.specs.declared.inputs.Input.TheVariants as input
use Rattle.dm_machine.specs.declared.inputs.Word.TheVariants.{Other}
use Rattle.dm_machine.specs.declared.state_name.State.{State}
use Rattle.dm_machine.specs.Node.{is_shaped}
use Rattle.dm_machine.specs.Upward.{is_open_hold, has_up, IsHeardOpen, HandsUpWhereOpen, HandsUpEach}
use Rattle.dm_machine.specs.Connection.{Hold, hold_of}
use Rattle.dm_machine.specs.Connection as hold
use Rattle.dm_machine.specs.Changes.{EachConnectionChangesAsAllowed}
use Rattle.dm_machine.specs.Moves as moves
use Rattle.dm_machine.specs.Moves.{machine_outcome}
use Rattle.dm_peer.specs.declared.peer.Peer.{Peer}
use Rattle.dm_peer.specs.Events as told
use Rattle.dm_peer.specs.Configs.{wins}
use Rattle.dm_peer.specs.Said.{Heard, heard_in, word_heard}
use Rattle.dm_peer.specs.After.{awaited_of}
use Rattle.dm_peer.specs.Acts.{Outcome, Moved, Refused, turned, input_of, outcome_of, steps, is_made, is_unread, is_dropped, heard_outcome, can_submit, acts}
use Rattle.dm_two_peers.specs.Machine.{conn}
use Rattle.dm_two_peers.specs.Delivery.{ups_of, HandsUpHeard}
use Rattle.dm_octet_peers.specs.Octets.{as_actions}
use Rattle.dm_octet_peers.specs.Carrying.{is_app}
use Rattle.dm_octet_peers.proofs.Replying.{turned_is}
use Rattle.dm_octet_peers.proofs.Bases.{is_other, other_heard, base_heard}
use Rattle.dm_octet_peers.proofs.Silent.{is_silent, silent_step}
use Rattle.dm_octet_peers.proofs.Upward.{ups_none, not_up}
use Rattle.dm_octet_peers.proofs.Ending.{ends_word, done_after}

-- one step, at a message that comes on a connection
abbrev pub RaisesAt : Peer → ℕ → List ℕ → Outcome → Type 0
RaisesAt p c s (Moved actions next) =
    HandsUpHeard is_app (hold_of p.standing.core (conn c)) (hold_of next.standing.core (conn c)) s
    (ups_of (as_actions actions))
RaisesAt p c s (Refused f) = ⊤

module _ (changes : EachConnectionChangesAsAllowed) (ups : HandsUpWhereOpen) (each : HandsUpEach) (p : Peer)
    (shaped : is_shaped p.standing.core ≡ true) (c : ℕ) (s : List ℕ) where
  abbrev before : Hold
  before = hold_of p.standing.core (conn c)

  abbrev now : told.PeerEvent
  now = told.Arrived (conn c) s

  -- nothing is handed up
  quiet_step : (h : Option Heard) → is_silent (machine_outcome p.standing.core (input_of now h) (wins p.config)) ≡ true →
      (is_app s && is_open_hold before) ≡ false → (is_app s ≡ true → ends_word (word_heard h) ≡ true) →
      RaisesAt p c s (steps p now h)
  quiet_step h silent none ends =
      by_outcome (turned p.standing.core (input_of now h) (wins p.config)) (turned_is p.standing.core (input_of now h)
      (wins p.config)) (subst (λ o. is_silent o ≡ true)
      (sym (turned_is p.standing.core (input_of now h) (wins p.config))) silent)
    where
      by_outcome : (o : moves.NodeOutcome) → o ≡ machine_outcome p.standing.core (input_of now h) (wins p.config) →
          is_silent o ≡ true → RaisesAt p c s (outcome_of p now h o)
      by_outcome (moves.NodeRefused r) is quiet = tt
      by_outcome (moves.NodeMoved commands core) is quiet =
          record {
            hands = ups_none p now h commands (not_up (has_up commands) quiet)
                ∙ sym (ap (λ b. if b then s ∷ [] else []) none);
            ends = λ app opened unmade.
                done_after changes p.standing.core core c (word_heard h) (wins p.config) commands shaped (sym is)
                (ends app) opened unmade;
          }

  -- on the connection on which the peer is open it is
  open_step : (h : Option Heard) → word_heard h ≡ Other → is_app s ≡ true → is_open_hold before ≡ true →
      RaisesAt p c s (steps p now h)
  open_step h other app opened =
      let n = p.standing.core in
      let up = each n (conn c) (wins p.config) shaped opened in
      subst (λ o. RaisesAt p c s (outcome_of p now h o))
      (sym (turned_is n (input_of now h) (wins p.config)
      ∙ (ap (λ w. machine_outcome n (input.Heard (conn c) w) (wins p.config)) other ∙ up)))
      (record {
        hands = sym (ap (λ b. if b then s ∷ [] else []) (both app opened));
        ends = λ a closed_now made. cc;
      })
    where
      both : {a b : Bool} → a ≡ true → b ≡ true → (a && b) ≡ true
      both e f = rw (e, f) refl

  -- what isn't looked at
  none_open : (a b : Bool) → b ≡ false → (a && b) ≡ false
  none_open true b h = h
  none_open false b h = refl

  unread_closed : (state : State) (h : Hold) → is_unread state h ≡ true → is_open_hold h ≡ false
  unread_closed state hold.OpenAsI h = cc
  unread_closed state hold.OpenAsR h = cc
  unread_closed state _ h = refl

  closed_silent : (h : Option Heard) → (word_heard h ≡ Other → is_open_hold before ≡ false) →
      is_silent (machine_outcome p.standing.core (input_of now h) (wins p.config)) ≡ true
  closed_silent h closed = silent_step ups p.standing.core shaped (input_of now h) (wins p.config) none
    where
      none : IsHeardOpen p.standing.core (input_of now h) → ⊥
      none here =
          let there : conn c ≡ here.conn = cc here.heard in
          let opened : is_open_hold before ≡ true =
          ap (λ d. is_open_hold (hold_of p.standing.core d)) there ∙ here.opened in
          let both = sym opened ∙ closed (cc here.heard) in
          cc

  unheard_silent : (h : Option Heard) → is_other (word_heard h) ≡ false →
      is_silent (machine_outcome p.standing.core (input_of now h) (wins p.config)) ≡ true
  unheard_silent h other = closed_silent h (λ word. let both = sym (ap is_other word) ∙ other in cc)

  unread_step : is_unread p.standing.core.state before ≡ true → RaisesAt p c s (steps p now None)
  unread_step unread =
      quiet_step None (unheard_silent None refl)
      (none_open (is_app s) (is_open_hold before) (unread_closed p.standing.core.state before unread)) (λ app. refl)

  no_app_step : (h : Option Heard) → is_other (word_heard h) ≡ false → is_app s ≡ false →
      RaisesAt p c s (steps p now h)
  no_app_step h other app =
      quiet_step h (unheard_silent h other) (ap (λ b. b && is_open_hold before) app) (λ yes. cc)

  -- a message of an application
  app_step : (m : Message) → is_base_command m.header.command ≡ false → is_app s ≡ true → (opened : Bool) →
      is_open_hold before ≡ opened → RaisesAt p c s (steps p now (Some (heard_in p.config m)))
  app_step m base app true opened = open_step (Some (heard_in p.config m)) (other_heard p.config m base) app opened
  app_step m base app false opened =
      quiet_step (Some (heard_in p.config m)) (closed_silent (Some (heard_in p.config m)) (λ word. opened))
      (none_open (is_app s) (is_open_hold before) opened) (λ yes. ap ends_word (other_heard p.config m base))

  message_step : (m : Message) → message_in s ≡ Some m → (base : Bool) → is_base_command m.header.command ≡ base →
      RaisesAt p c s (steps p now (Some (heard_in p.config m)))
  message_step m spelled true base =
      no_app_step (Some (heard_in p.config m)) (base_heard p.config m base)
      (ap can_submit spelled ∙ ap (λ b. not b) base)
  message_step m spelled false base =
      app_step m base (ap can_submit spelled ∙ ap (λ b. not b) base) (is_open_hold before) refl

  -- a message that is dropped is one of a base command
  dropped_base : (made request base awaited : Bool) → (made && (not request && (base && not awaited))) ≡ true →
      base ≡ true
  dropped_base true false true awaited h = refl
  dropped_base true false false awaited h = cc
  dropped_base true true base awaited h = cc
  dropped_base false request base awaited h = cc

  drop_step : (m : Message) → message_in s ≡ Some m → is_base_command m.header.command ≡ true →
      RaisesAt p c s (Moved [] p)
  drop_step m spelled base =
      let app : is_app s ≡ false = ap can_submit spelled ∙ ap (λ b. not b) base in
      record {
        hands = sym (ap (λ b. if b && is_open_hold before then s ∷ [] else []) app);
        ends = λ yes opened made. cc;
      }

  read_step : (m : Message) → message_in s ≡ Some m → (b : Bool) → is_dropped p (conn c) m.header ≡ b →
      RaisesAt p c s (if b then Moved [] p else steps p now (Some (heard_in p.config m)))
  read_step m spelled true is =
      drop_step m spelled
      (dropped_base (is_made before) m.header.request (is_base_command m.header.command)
      (option_eq nat_eq (awaited_of p.standing.awaited m.header.command) (Some m.header.hop_id)) is)
  read_step m spelled false is = message_step m spelled (is_base_command m.header.command) refl

  heard_step : (o : Option Message) → message_in s ≡ o → RaisesAt p c s (heard_outcome p now (conn c) o)
  heard_step None spelled = no_app_step None refl (ap can_submit spelled)
  heard_step (Some m) spelled = read_step m spelled (is_dropped p (conn c) m.header) refl

  arrived_step : (b : Bool) → is_unread p.standing.core.state before ≡ b →
      RaisesAt p c s (if b then steps p now None else heard_outcome p now (conn c) (message_in s))
  arrived_step true unread = unread_step unread
  arrived_step false unread = heard_step (message_in s) refl

  pub arrival_raises : RaisesAt p c s (acts p now)
  arrival_raises = arrived_step (is_unread p.standing.core.state before) refl
