-- What is handed up was heard on the open connection, and what is sent is the node's own or submitted.
use Rattle.std.proofs.Common.{◌≡◌, ◌⊎◌, inl, inr, ℕ, Bool, true, false, not, ◌&&◌, Option, None, Some, List, [], ◌∷◌, ◌++◌, if◌then◌else◌, refl, sym, subst, ap, ◌∙◌}
use Rattle.std.proofs.lemmas.Bool.{and_parts}
use Rattle.dm_wire.specs.declared.message.Message.{Message}
use Rattle.dm_wire.specs.Whole.{message_in}
use Rattle.dm_base.specs.Commands.{is_base_command}
use Rattle.dm_machine.specs.declared.connection.Conn.{Conn}
use Rattle.dm_machine.specs.declared.state_name.State.{State}
use Rattle.dm_machine.specs.declared.inputs.Input.TheVariants as input
use Rattle.dm_machine.specs.declared.inputs.Word.TheVariants.{Other}
use Rattle.dm_machine.specs.declared.outputs.Command.{Command}
use Rattle.dm_machine.specs.declared.outputs.Command.TheVariants as command
use Rattle.dm_machine.specs.Node.{node_at}
use Rattle.dm_machine.specs.Moves as moves
use Rattle.dm_machine.specs.Moves.{machine_outcome}
use Rattle.dm_machine.specs.Connection.{Hold, OpenAsI, OpenAsR, hold_of, concern_of, SendsCea, SendsSubmit, orders_to, AtConnection}
use Rattle.dm_machine.specs.Openings.{has_order, OpensAcceptedWithCea}
use Rattle.dm_machine.specs.Answering.{AnswersWhatIsHeard}
use Rattle.dm_machine.specs.Ordered.{OrdersAreToldApart}
use Rattle.dm_machine.specs.Upward.{is_open_hold, is_submitted, SubmitsWhereOpen, has_up, UpIsHeard, HandsUpWhereOpen, HandsUpEach, OpenOnOne}
use Rattle.dm_peer.specs.declared.actions.Action.{Action}
use Rattle.dm_peer.specs.declared.actions.Action.TheVariants.{Send, Up}
use Rattle.dm_peer.specs.declared.peer.Peer.{Peer}
use Rattle.dm_peer.specs.Events.{PeerEvent, Arrived, octets_in}
use Rattle.dm_peer.specs.Configs.{wins}
use Rattle.dm_peer.specs.Said.{Heard, heard_in, word_heard}
use Rattle.dm_peer.specs.Sent.{action_of}
use Rattle.dm_peer.specs.After.{standing_after}
use Rattle.dm_peer.specs.Acts.{Moved, acts, input_of, outcome_of, standing_at, steps, is_unread, is_made, is_unawaited, heard_outcome}
use Rattle.dm_peer.specs.Settled.{IsSettled}
use Rattle.dm_history.specs.History.{Happened, StandsAmong}
use Rattle.dm_history.specs.Carrying.{StandsOpen, CameOnOpen, AreOwn, IsPassedOn, IsCarried, CarriesNext, EachRunCarries}
use Rattle.dm_history.proofs.Among.{none_among, sourced}
use Rattle.dm_history.proofs.Commands.{other_word, other_command}
use Rattle.dm_history.proofs.Turning.{IsTurn, TurnsAs, turns, turned_is}
use Rattle.dm_history.proofs.Lasting.{stays_configured}
use Rattle.dm_history.proofs.Coming.{came_by}
use Rattle.dm_history.proofs.Sending.{AnswersBase, up_command, own_sent}
use Rattle.dm_history.proofs.Answering.{cea_answers_base, prompt_answers_base}
use Rattle.dm_history.proofs.Submitting.{submitted_by, passed_on}
use Rattle.dm_history.proofs.Stories.{StepLaws, IsTold}
use Rattle.dm_history.proofs.Telling.{stays_told}

-- the laws of one step that it rests on, besides those of openings
pub record CarryLaws : Type 0 where
  pub steps : StepLaws
  pub accepted : OpensAcceptedWithCea
  pub answers : AnswersWhatIsHeard
  pub submits : SubmitsWhereOpen
  pub up : HandsUpWhereOpen
  pub each : HandsUpEach
  pub one : OpenOnOne
  pub apart : OrdersAreToldApart

up_behind : (a : Command) (l : List Command) → has_up l ≡ true → has_up (a ∷ l) ≡ true
up_behind command.Up l e = refl
up_behind _ l e = e

up_at : (before behind : List Command) → has_up (before ++ command.Up ∷ behind) ≡ true
up_at [] behind = refl
up_at (a ∷ before) behind = up_behind a (before ++ command.Up ∷ behind) (up_at before behind)

has_up_at : (l : List Command) (a : Command) (before behind : List Command) → l ≡ before ++ a ∷ behind →
    a ≡ command.Up → has_up l ≡ true
has_up_at l a before behind is up =
    ap has_up (is ∙ ap (λ x. before ++ x ∷ behind) up) ∙ up_at before behind

heard_by : (e : PeerEvent) (h : Option Heard) (c : Conn) (s : List ℕ) → input_of e h ≡ input.Heard c Other →
    octets_in e ≡ s → (e ≡ Arrived c s) × (word_heard h ≡ Other)
heard_by (Arrived d t) h c s i is = (cc (i, is), cc i)
heard_by _ h c s i is = absurd (cc i)

spelled_as : (t s : List ℕ) (m : Message) → t ≡ s → message_in t ≡ Some m → message_in s ≡ Some m
spelled_as t s m same is = subst (λ (x : List ℕ). message_in x ≡ Some m) same is

pub handed_up : HandsUpWhereOpen → (p : Peer) → IsSettled p → (e : PeerEvent) (actions : List Action) (next : Peer) →
    IsTurn p e actions next → (s : List ℕ) → StandsAmong actions (Up s) → CameOnOpen p e s
handed_up law p was e actions next t s (earlier, later, stands) =
    let n = p.standing.core in
    let i = input_of e t.heard in
    let a = sourced (action_of p e t.heard) t.commands (Up s) earlier later (sym t.acted ∙ stands) in
    let u = up_command p e t.heard a.command s a.gives in
    let has = has_up_at t.commands a.command a.before a.behind a.stands u.0 in
    let o : UpIsHeard n i (moves.NodeMoved t.commands t.core) =
    subst (UpIsHeard n i) t.moves (law n i (wins p.config) was.shaped) in
    let g = o has in
    let here = heard_by e t.heard g.conn s g.heard u.1 in
    let m = came_by p e t.heard g.conn Other t.read (λ x. cc x) s here.0 here.1 in
    let same : m.octets ≡ s = cc (here.0, m.came) in
    record {
      conn = g.conn;
      came = here.0;
      opened = g.opened;
      said = record {
        message = m.message;
        spelled = spelled_as m.octets s m.message same m.spelled;
        other = other_command p.config m.message m.word;
      };
    }

sent_by : CarryLaws → (p : Peer) (past : List Happened) → IsTold p past → (e : PeerEvent) (actions : List Action)
    (next : Peer) → acts p e ≡ Moved actions next → IsTurn p e actions next → (c : Conn) (s : List ℕ) →
    StandsAmong actions (Send c s) → AreOwn p.config.node s ⊎ IsPassedOn p e c s
sent_by laws p past told e actions next is t c s (earlier, later, stands) =
    let n = p.standing.core in
    let i = input_of e t.heard in
    let a = sourced (action_of p e t.heard) t.commands (Send c s) earlier later (sym t.acted ∙ stands) in
    let there : StandsAmong t.commands a.command = (a.before, a.behind, a.stands) in
    let base : AnswersBase p t.heard c a.command = (
      λ cea. cea_answers_base laws.accepted laws.steps.caused laws.steps.closes p told.settled e t.heard t.commands
          t.core t.moves t.read c past (told.story c) (laws.steps.orders SendsCea c t.commands a.command there cea),
      λ o answer prompt. prompt_answers_base laws.answers laws.apart p told.settled e t.heard t.commands t.core t.moves
          t.read c o prompt (laws.steps.orders o c t.commands a.command there answer),
    ) in
    elim (own_sent p e t.heard c s a.command a.gives base) [
      | inl own ↦ inl own
      | inr x ↦
          let law : has_order SendsSubmit (orders_to c t.commands)
          ≡ (is_submitted (concern_of i c) && is_open_hold (hold_of n c)) =
          subst (AtConnection (λ k before after orders.
          has_order SendsSubmit orders ≡ (is_submitted k && is_open_hold before)) n i c) t.moves
          (laws.submits n i (wins p.config) c told.settled.shaped) in
          let both = and_parts (is_submitted (concern_of i c)) (is_open_hold (hold_of n c))
          (sym law ∙ laws.steps.orders SendsSubmit c t.commands a.command there x.1) in
          inr (passed_on p e actions next is c s (submitted_by e t.heard c s both.0 x.0) both.1)
    ]

carried : CarryLaws → (p : Peer) (past : List Happened) → IsTold p past → (e : PeerEvent) (actions : List Action)
    (next : Peer) → acts p e ≡ Moved actions next → TurnsAs p e (Moved actions next) →
    IsCarried p.config.node p e actions
carried laws p past told e actions next is (inr d) =
    record {
      up = λ s a. absurd (none_among (Up s) (subst (λ (l : List Action). StandsAmong l (Up s)) d.none a));
      sent = λ c s a. absurd (none_among (Send c s) (subst (λ (l : List Action). StandsAmong l (Send c s)) d.none a));
    }
carried laws p past told e actions next is (inl t) =
    record {
      up = handed_up laws.up p told.settled e actions next t;
      sent = sent_by laws p past told e actions next is t;
    }

-- each message of another command goes up
open_unread : (s : State) (h : Hold) → is_open_hold h ≡ true → is_unread s h ≡ false
open_unread s OpenAsI e = refl
open_unread s OpenAsR e = refl
open_unread s _ e = cc

not_dropped : (a b d r : Bool) → b ≡ false → (a && (not r && (b && d))) ≡ false
not_dropped true b d true e = refl
not_dropped true b d false e = rw e refl
not_dropped false b d r e = refl

none_dropped : (p : Peer) (c : Conn) (m : Message) → is_base_command m.header.command ≡ false →
    (is_made (hold_of p.standing.core c) && is_unawaited p.standing.awaited m.header) ≡ false
none_dropped p c m other =
    not_dropped (is_made (hold_of p.standing.core c)) (is_base_command m.header.command) _ m.header.request other

pub each_up : HandsUpEach → (p : Peer) → IsSettled p → (c : Conn) (s : List ℕ) (m : Message) → StandsOpen p c →
    message_in s ≡ Some m → is_base_command m.header.command ≡ false →
    (next : Peer) × (acts p (Arrived c s) ≡ Moved (Up s ∷ []) next)
each_up law p was c s m opened is other =
    let n = p.standing.core in
    let e = Arrived c s in
    let h = Some (heard_in p.config m) in
    let core = node_at n.state n.held 0 in
    let i = input_of e h in
    let word = other_word p.config m other in
    let out = turned_is n i (wins p.config) ∙ (ap (λ w. machine_outcome n (input.Heard c w) (wins p.config)) word
    ∙ law n c (wins p.config) was.shaped opened) in (
      standing_at p (standing_after p.standing h None core),
      ap (λ b. if b then steps p e None else heard_outcome p e c (message_in s)) (open_unread n.state (hold_of n c) opened)
          ∙ (ap (heard_outcome p e c) is
          ∙ (ap (λ b. if b then Moved [] p else steps p e h) (none_dropped p c m other) ∙ ap (outcome_of p e h) out)),
    )

pub carries : CarryLaws → EachRunCarries
carries laws config next past p lived =
    let told = stays_told laws.steps config next past p lived in
    subst (λ k. CarriesNext k.node p) (stays_configured config next past p lived)
    (record {
      only = λ e actions after is. carried laws p past told e actions after is (turns p e actions after is);
      each = each_up laws.each p told.settled;
      one = λ c d e f. laws.one p.standing.core c d told.settled.shaped e f;
    })
