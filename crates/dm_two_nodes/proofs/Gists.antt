-- What passes a peer by leaves it as it was, and so the gist of a story makes of it what the story does.
use Rattle.std.proofs.Common.{◌≡◌, ℕ, Bool, true, false, not, ◌&&◌, if◌then◌else◌, Option, Some, None, List, [], ◌∷◌, refl, sym, ap, subst, ◌∙◌}
use Rattle.std.specs.Prelude.{is_some, option_map}
use Rattle.std.proofs.lemmas.Bool.{and_parts}
use Rattle.dm_wire.specs.declared.message.Header.{Header}
use Rattle.dm_machine.specs.declared.connection.Conn.{Conn}
use Rattle.dm_machine.specs.declared.state_name.State.{State}
use Rattle.dm_machine.specs.declared.state_name.State.TheVariants.{ROpen, IOpen}
use Rattle.dm_machine.specs.Forms.{EachShapeIsAForm}
use Rattle.dm_machine.specs.Reading.{conn_named}
use Rattle.dm_machine.specs.Connection.{Hold, NotHeld, hold_of}
use Rattle.dm_machine.specs.Unread.{reads_first}
use Rattle.dm_machine.specs.Upward.{has_up}
use Rattle.dm_machine.specs.declared.outputs.Command.{Command}
use Rattle.dm_machine.specs.declared.outputs.Command.TheVariants as command
use Rattle.dm_two_peers.specs.Delivery.{ups_of}
use Rattle.dm_octet_peers.specs.Octets.{as_actions}
use Rattle.dm_machine.specs.Awaiting.{awaits_cea, awaits_dwa, awaits_dpa, holds_cer, number_after, waiting_after}
use Rattle.dm_machine.specs.Moves.{NodeOutcome, is_open}
use Rattle.dm_peer.specs.declared.standing.Standing.{Standing}
use Rattle.dm_peer.specs.declared.standing.Awaited.{Awaited}
use Rattle.dm_peer.specs.declared.peer.Peer.{Peer}
use Rattle.dm_peer.specs.Events.{PeerEvent, Start, Ack, Nack, Arrived, Gone}
use Rattle.dm_peer.specs.Configs.{wins}
use Rattle.dm_peer.specs.Sent.{actions_of}
use Rattle.dm_peer.specs.Said.{Heard, word_heard, header_heard}
use Rattle.dm_peer.specs.After.{is_dwa, standing_after}
use Rattle.dm_peer.specs.Holding.{is_held, holds}
use Rattle.dm_peer.specs.KeptAt.{IsSettledAt}
use Rattle.dm_peer.specs.Settled.{IsSettled, FreshIsSettled, LeavesSettled, EachEventKeepsSettled}
use Rattle.dm_peer.specs.Acts.{Outcome, Moved, Refused, input_of, outcome_of, standing_at, turned, is_unread, acts}
use Rattle.dm_peer.specs.Cases.{Hears, unread, no_message, message, submits_it, bare, Case, step, drop, refusal, EachEventIsACase}
use Rattle.dm_history.specs.Replaying.{peer_left}
use Rattle.dm_node.specs.Emptying.{set_back}
use Rattle.dm_node.specs.Telling.{conn_of}
use Rattle.dm_two_nodes.specs.Numbering.{IsOneToOne, renumbered}
use Rattle.dm_two_nodes.specs.Renaming.{renumbered_event, renumbered_peer, PeersGoByNoNumber}
use Rattle.dm_two_nodes.specs.Stories.{renumbered_story, Chapter, TakesEvent, IsSetBack, holds_neither, passes_by, gist}
use Rattle.dm_two_nodes.proofs.Numbered.{hold_of-renumbered}
use Rattle.dm_two_nodes.proofs.Acting.{turned_is}
use Rattle.dm_two_nodes.proofs.Behind.{peer_behind, left_renumbered, deeds}
use Rattle.dm_two_nodes.proofs.Unheld.{Passed, left_it, took_it, refused_it, passed}

-- where a peer stands after a step to the same node that sends no request
number_kept : (awaits : Bool) (next : ℕ) (old : Option ℕ) → (awaits ≡ false → old ≡ None) →
    number_after awaits false next old ≡ old
number_kept true next old none = refl
number_kept false next old none = sym (none refl)

waiting_kept : (holds : Bool) (heard old : Option Header) → (holds ≡ false → old ≡ None) →
    (if holds then (if holds then old else heard) else None) ≡ old
waiting_kept true heard old none = refl
waiting_kept false heard old none = sym (none refl)

none_if : {X : Type 0} (o : Option X) (b : Bool) → is_some o ≡ b → b ≡ false → o ≡ None
none_if None b is un = refl
none_if (Some x) b is un = cc

dwa_kept : (b : Bool) (old : Option ℕ) → b ≡ false → (if b then None else old) ≡ old
dwa_kept true old un = cc
dwa_kept false old un = refl

same_awaited : (a : Awaited) (cea dwa dpa : Option ℕ) → cea ≡ a.cea → dwa ≡ a.dwa → dpa ≡ a.dpa →
    record { cea = cea; dwa = dwa; dpa = dpa } ≡ a
same_awaited a cea dwa dpa x y z =
    ap (λ (n : Option ℕ). record { cea = n; dwa = dwa; dpa = dpa }) x
    ∙ ap (λ (n : Option ℕ). record { cea = a.cea; dwa = n; dpa = dpa }) y
    ∙ ap (λ (n : Option ℕ). record { cea = a.cea; dwa = a.dwa; dpa = n }) z

same_standing : (s : Standing) (waiting : Option Header) (awaited : Awaited) → waiting ≡ s.waiting →
    awaited ≡ s.awaited → record { core = s.core; next = s.next; waiting = waiting; awaited = awaited } ≡ s
same_standing s waiting awaited x y =
    ap (λ (o : Option Header). record { core = s.core; next = s.next; waiting = o; awaited = awaited }) x
    ∙ ap (λ (a : Awaited). record { core = s.core; next = s.next; waiting = s.waiting; awaited = a }) y

stands_as_before : (s : Standing) (h : Option Heard) → IsSettledAt s →
    (is_open s.core.state && is_dwa (word_heard h)) ≡ false → standing_after s h None s.core ≡ s
stands_as_before s h settled un =
    let state = s.core.state in
    same_standing s (waiting_after state (header_heard h) state s.waiting) _
    (waiting_kept (holds_cer state) (header_heard h) s.waiting (none_if s.waiting (holds_cer state) settled.waiting))
    (same_awaited s.awaited _ _ _
    (number_kept (awaits_cea state) s.next s.awaited.cea (none_if s.awaited.cea (awaits_cea state) settled.cea))
    (ap (number_after (awaits_dwa state) false s.next)
    (dwa_kept (is_open state && is_dwa (word_heard h)) s.awaited.dwa un)
    ∙ number_kept (awaits_dwa state) s.next s.awaited.dwa settled.dwa)
    (number_kept (awaits_dpa state) s.next s.awaited.dpa settled.dpa))

-- no DWA is heard in an open state on a connection that isn't held
no_dwa : (b : Bool) → (b && false) ≡ false
no_dwa true = refl
no_dwa false = refl

reads_shut : (s : State) → not (reads_first s) ≡ false → is_open s ≡ false
reads_shut ROpen reads = cc
reads_shut IOpen reads = cc
reads_shut _ reads = refl

free_reads : (s : State) (hold : Hold) → hold ≡ NotHeld → is_unread s hold ≡ false → is_open s ≡ false
free_reads s hold free reads = reads_shut s (sym (ap (is_unread s) free) ∙ reads)

not_held : (hold : Hold) → is_held hold ≡ false → hold ≡ NotHeld
not_held NotHeld un = refl
not_held _ un = cc

same_conn : (c d : Conn) → Some c ≡ Some d → c ≡ d
same_conn c d e = cc

free_hears : (p : Peer) (e : PeerEvent) (h : Option Heard) (c : Conn) → Hears p e h → conn_of e ≡ Some c →
    hold_of p.standing.core c ≡ NotHeld → (is_open p.standing.core.state && is_dwa (word_heard h)) ≡ false
free_hears p e h c (unread d s deaf) named free = no_dwa (is_open p.standing.core.state)
free_hears p e h c (no_message d s deaf none) named free = no_dwa (is_open p.standing.core.state)
free_hears p e h c (message d s m deaf is kept) named free =
    ap (λ (b : Bool). b && is_dwa (word_heard h))
    (free_reads p.standing.core.state (hold_of p.standing.core d)
    (ap (hold_of p.standing.core) (same_conn d c named) ∙ free) deaf)
free_hears p e h c (submits_it s opened can) named free = no_dwa (is_open p.standing.core.state)
free_hears p e h c (bare e' is) named free = no_dwa (is_open p.standing.core.state)

named_in : (e : PeerEvent) (h : Option Heard) → conn_named (input_of e h) ≡ conn_of e
named_in (Start c) h = refl
named_in (Ack c) h = refl
named_in (Nack c) h = refl
named_in (Arrived c s) h = refl
named_in (Gone c) h = refl
named_in _ h = refl

-- what is done where nothing is handed up
silent_actions : (p : Peer) (e : PeerEvent) (h : Option Heard) (commands : List Command) → has_up commands ≡ false →
    ups_of (as_actions (actions_of p e h commands)) ≡ []
silent_actions p e h [] un = refl
silent_actions p e h (command.Up ∷ more) un = cc
silent_actions p e h (command.Connect c ∷ more) un = silent_actions p e h more un
silent_actions p e h (command.SendCer c ∷ more) un = silent_actions p e h more un
silent_actions p e h (command.SendCea c ∷ more) un = silent_actions p e h more un
silent_actions p e h (command.SendRefusal c ∷ more) un = silent_actions p e h more un
silent_actions p e h (command.SendDwr c ∷ more) un = silent_actions p e h more un
silent_actions p e h (command.SendDwa c ∷ more) un = silent_actions p e h more un
silent_actions p e h (command.SendDpr c ∷ more) un = silent_actions p e h more un
silent_actions p e h (command.SendDpa c ∷ more) un = silent_actions p e h more un
silent_actions p e h (command.SendSubmit c ∷ more) un = silent_actions p e h more un
silent_actions p e h (command.Close c ∷ more) un = silent_actions p e h more un

module _ (p : Peer) (settled : IsSettled p) (c : Conn) where
  abbrev Stays : Outcome → Type 0
  Stays o = holds c (peer_left p o) ≡ false → (peer_left p o ≡ p) × (ups_of (as_actions (deeds o)) ≡ [])

  stays_at : (e : PeerEvent) (h : Option Heard) (o : NodeOutcome) →
      (is_open p.standing.core.state && is_dwa (word_heard h)) ≡ false → Passed p.standing.core c o →
      Stays (outcome_of p e h o)
  stays_at e h o un (left_it commands none silent) = λ free. (
    ap (λ r. standing_at p (standing_after p.standing h r p.standing.core)) none
        ∙ ap (standing_at p) (stands_as_before p.standing h settled un),
    silent_actions p e h commands silent,
  )
  stays_at e h o un (took_it commands next held) = λ free. absurd (cc)
  stays_at e h o un (refused_it r) = λ free. (refl, refl)

  stays_by : EachShapeIsAForm → (e : PeerEvent) (o : Outcome) → Case p e o → conn_of e ≡ Some c →
      hold_of p.standing.core c ≡ NotHeld → Stays o
  stays_by forms e o (step e' h hears) named free =
      let n = p.standing.core in
      let w = wins p.config in
      let i = input_of e h in
      stays_at e h (turned n i w) (free_hears p e h c hears named free)
      (subst (Passed n c) (sym (turned_is n i w)) (passed forms n c w i settled.shaped (named_in e h ∙ named) free))
  stays_by forms e o (drop d s m deaf is dropped) named free = λ held. (refl, refl)
  stays_by forms e o (refusal s f is) named free = λ held. (refl, refl)

-- what the laws of peers say, for a story
pub record StoryLaws : Type 0 where
  pub forms : EachShapeIsAForm
  pub cases : EachEventIsACase
  pub fresh : FreshIsSettled
  pub kept : EachEventKeepsSettled

not_true : (b : Bool) → not b ≡ true → b ≡ false
not_true true is = cc
not_true false is = refl

module _ (laws : StoryLaws) where
  pub passed_by : (p : Peer) (e : PeerEvent) (o : Option Conn) → IsSettled p → conn_of e ≡ o →
      holds_neither p (peer_left p (acts p e)) o ≡ true →
      (peer_left p (acts p e) ≡ p) × (ups_of (as_actions (deeds (acts p e))) ≡ [])
  passed_by p e None settled named is = cc
  passed_by p e (Some c) settled named is =
      let q = peer_left p (acts p e) in
      let parts = and_parts (not (holds c p)) (not (holds c q)) is in
      stays_by p settled c laws.forms e (acts p e) (laws.cases p e) named
      (not_held (hold_of p.standing.core c) (not_true (holds c p) parts.0)) (not_true (holds c q) parts.1)

  settled_left : (p : Peer) (o : Outcome) → IsSettled p → LeavesSettled o → IsSettled (peer_left p o)
  settled_left p (Moved actions next) was is = is
  settled_left p (Refused f) was is = was

  pub settled_next : (p : Peer) (e : PeerEvent) → IsSettled p → IsSettled (peer_left p (acts p e))
  settled_next p e was = settled_left p (acts p e) was (laws.kept p e was)

  gist_if : (p : Peer) (e : PeerEvent) (more rest : List Chapter) (b : Bool) → passes_by p e ≡ b → IsSettled p →
      peer_behind (peer_left p (acts p e)) rest ≡ peer_behind (peer_left p (acts p e)) more →
      peer_behind p (if b then rest else TakesEvent e ∷ rest) ≡ peer_behind (peer_left p (acts p e)) more
  gist_if p e more rest true is was so =
      ap (λ (q : Peer). peer_behind q rest) (sym (passed_by p e (conn_of e) was refl is).0) ∙ so
  gist_if p e more rest false is was so = so

  -- the gist of a story makes of a peer what the story does
  pub gist_is : (p : Peer) (xs : List Chapter) → IsSettled p → peer_behind p (gist p xs) ≡ peer_behind p xs
  gist_is p [] was = refl
  gist_is p (TakesEvent e ∷ more) was =
      let q = peer_left p (acts p e) in
      gist_if p e more (gist q more) (passes_by p e) refl was (gist_is q more (settled_next p e was))
  gist_is p (IsSetBack ∷ more) was = gist_is (set_back p) more (laws.fresh p.config p.standing.next)

-- the gist of a story under other numbers
module _ (law : PeersGoByNoNumber) (f : ℕ → ℕ) (one : IsOneToOne f) where
  conn_renumbered : (e : PeerEvent) → conn_of (renumbered_event f e) ≡ option_map (renumbered f) (conn_of e)
  conn_renumbered (Start c) = refl
  conn_renumbered (Ack c) = refl
  conn_renumbered (Nack c) = refl
  conn_renumbered (Arrived c s) = refl
  conn_renumbered (Gone c) = refl
  conn_renumbered _ = refl

  holds_renumbered : (c : Conn) (p : Peer) → holds (renumbered f c) (renumbered_peer f p) ≡ holds c p
  holds_renumbered c p = ap is_held (hold_of-renumbered f one p.standing.core c)

  neither_renumbered : (p q : Peer) (o : Option Conn) →
      holds_neither (renumbered_peer f p) (renumbered_peer f q) (option_map (renumbered f) o) ≡ holds_neither p q o
  neither_renumbered p q None = refl
  neither_renumbered p q (Some c) =
      ap (λ (b : Bool). not b && not (holds (renumbered f c) (renumbered_peer f q))) (holds_renumbered c p)
      ∙ ap (λ (b : Bool). not (holds c p) && not b) (holds_renumbered c q)

  left_same : (p : Peer) (e : PeerEvent) →
      peer_left (renumbered_peer f p) (acts (renumbered_peer f p) (renumbered_event f e))
      ≡ renumbered_peer f (peer_left p (acts p e))
  left_same p e = ap (peer_left (renumbered_peer f p)) (law f p e one) ∙ left_renumbered f p (acts p e)

  passes_renumbered : (p : Peer) (e : PeerEvent) →
      passes_by (renumbered_peer f p) (renumbered_event f e) ≡ passes_by p e
  passes_renumbered p e =
      ap (λ (q : Peer). holds_neither (renumbered_peer f p) q (conn_of (renumbered_event f e))) (left_same p e)
      ∙ ap (holds_neither (renumbered_peer f p) (renumbered_peer f (peer_left p (acts p e)))) (conn_renumbered e)
      ∙ neither_renumbered p (peer_left p (acts p e)) (conn_of e)

  with_event : (b : Bool) (e : PeerEvent) (rest : List Chapter) →
      (if b then renumbered_story f rest else TakesEvent (renumbered_event f e) ∷ renumbered_story f rest)
      ≡ renumbered_story f (if b then rest else TakesEvent e ∷ rest)
  with_event true e rest = refl
  with_event false e rest = refl

  pub gist_renumbered : (p : Peer) (xs : List Chapter) →
      gist (renumbered_peer f p) (renumbered_story f xs) ≡ renumbered_story f (gist p xs)
  gist_renumbered p [] = refl
  gist_renumbered p (TakesEvent e ∷ more) =
      let here = renumbered_peer f p in
      let event = renumbered_event f e in
      let rest = gist (peer_left here (acts here event)) (renumbered_story f more) in
      ap (λ (b : Bool). if b then rest else TakesEvent event ∷ rest) (passes_renumbered p e)
      ∙ ap (λ (l : List Chapter). if passes_by p e then l else TakesEvent event ∷ l)
      (ap (λ (q : Peer). gist q (renumbered_story f more)) (left_same p e)
      ∙ gist_renumbered (peer_left p (acts p e)) more)
      ∙ with_event (passes_by p e) e (gist (peer_left p (acts p e)) more)
  gist_renumbered p (IsSetBack ∷ more) =
      ap (λ (l : List Chapter). IsSetBack ∷ l) (gist_renumbered (set_back p) more)
