-- Every message that a peer over octets sends has octets.
use Rattle.std.proofs.Common.{◌≡◌, ℕ, suc, Bool, true, false, ◌||◌, nat_lt, nat_le, Option, None, Some, List, [], ◌∷◌, length, if◌then◌else◌, refl, sym, subst, ap, ◌∙◌, arith}
use Rattle.std.specs.Prelude.{⊤, option_map, drop}
use Rattle.std.specs.List.{list_all}
use Rattle.std.proofs.lemmas.Bool.{and_parts, and_from}
use Rattle.std.proofs.lemmas.Bool.Decides.{nat_tests}
use Rattle.dm_wire.specs.declared.message.Message.{Message}
use Rattle.dm_wire.specs.Members.{members}
use Rattle.dm_wire.specs.Whole.{message_in, has_header, with_header}
use Rattle.dm_machine.specs.declared.outputs.Command.{Command}
use Rattle.dm_machine.specs.declared.outputs.Command.TheVariants as command
use Rattle.dm_machine.specs.Moves as moves
use Rattle.dm_machine.specs.Moves.{is_open}
use Rattle.dm_peer.specs.declared.actions.Action as declared_action
use Rattle.dm_peer.specs.declared.fault.PeerFault.TheVariants.{NotOpen, BadSubmit}
use Rattle.dm_peer.specs.declared.peer.Peer.{Peer}
use Rattle.dm_peer.specs.Events as told
use Rattle.dm_peer.specs.Events.{octets_in}
use Rattle.dm_peer.specs.Configs.{wins}
use Rattle.dm_peer.specs.Octets.{octets_of}
use Rattle.dm_peer.specs.Said.{Heard}
use Rattle.dm_peer.specs.Sent.{action_of, actions_of}
use Rattle.dm_peer.specs.Acts.{Outcome, Moved, Refused, turned, input_of, outcome_of, steps, can_submit, acts}
use Rattle.dm_two_peers.specs.Peers.{ActsBy}
use Rattle.dm_two_peers.specs.Streams.{sends_sized}
use Rattle.dm_octet_peers.specs.Octets.{of_event, as_actions, as_reply}
use Rattle.dm_octet_peers.specs.Laws.{OctetsAreSized}
use Rattle.dm_octet_peers.proofs.Plain.{is_plain, are_plain, is_submit_input, PlainOutcome, outcome_plain}
use Rattle.dm_octet_peers.proofs.Replying.{turned_is}
use Rattle.dm_octet_peers.proofs.Walking.{no_submit, walked}

abbrev has_octets : List ℕ → Bool
has_octets s = nat_lt 0 (length s)

above_none : (n : ℕ) → nat_lt 0 (suc n) ≡ true
above_none n = grind (arith, nat_tests)

first_sized : (s t : List ℕ) (x : ℕ) → s ≡ x ∷ t → has_octets s ≡ true
first_sized s t x is = ap has_octets is ∙ above_none (length t)

message_sized : (m : Message) → has_octets (octets_of m) ≡ true
unfolding octets_of
message_sized m = first_sized (octets_of m) _ 1 refl

-- and so have octets that spell a message
header_sized : (s : List ℕ) → nat_le 20 (length s) ≡ true → has_octets s ≡ true
header_sized s h = grind (arith, nat_tests)

spelled_sized : (s : List ℕ) (m : Message) → message_in s ≡ Some m → has_octets s ≡ true
unfolding message_in
spelled_sized s m is = by_header (has_header s) refl is
  where
    by_header : (b : Bool) → has_header s ≡ b →
        (if b then option_map (with_header s) (members (drop 20 s)) else None) ≡ Some m → has_octets s ≡ true
    by_header true whole e =
        header_sized s (and_parts (nat_le 20 (length s)) _ whole).0
    by_header false whole e = cc

-- the actions of commands
abbrev sized : List declared_action.Action → Bool
sized l = sends_sized (λ s. length s) (as_actions l)

no_false : (b : Bool) → (b || false) ≡ true → b ≡ true
no_false true e = refl
no_false false e = e

one_sized : (p : Peer) (e : told.PeerEvent) (h : Option Heard) (c : Command) (more : List declared_action.Action) →
    (has_octets (octets_in e) || is_plain c) ≡ true → sized more ≡ true → sized (action_of p e h c ∷ more) ≡ true
one_sized p e h (command.Connect c) more own rest = rest
one_sized p e h (command.Close c) more own rest = rest
one_sized p e h command.Up more own rest = rest
one_sized p e h (command.SendSubmit c) more own rest =
    and_from (has_octets (octets_in e)) (sized more) (no_false (has_octets (octets_in e)) own) rest
one_sized p e h (command.SendCer c) more own rest = and_from _ (sized more) (message_sized _) rest
one_sized p e h (command.SendCea c) more own rest = and_from _ (sized more) (message_sized _) rest
one_sized p e h (command.SendRefusal c) more own rest = and_from _ (sized more) (message_sized _) rest
one_sized p e h (command.SendDwr c) more own rest = and_from _ (sized more) (message_sized _) rest
one_sized p e h (command.SendDwa c) more own rest = and_from _ (sized more) (message_sized _) rest
one_sized p e h (command.SendDpr c) more own rest = and_from _ (sized more) (message_sized _) rest
one_sized p e h (command.SendDpa c) more own rest = and_from _ (sized more) (message_sized _) rest

all_sized : (p : Peer) (e : told.PeerEvent) (h : Option Heard) (commands : List Command) →
    list_all (λ c. has_octets (octets_in e) || is_plain c) commands ≡ true →
    sized (actions_of p e h commands) ≡ true
all_sized p e h [] own = refl
all_sized p e h (c ∷ commands) own =
    let has = has_octets (octets_in e) in
    let parts = and_parts (has || is_plain c) (list_all (λ d. has || is_plain d) commands) own in
    one_sized p e h c (actions_of p e h commands) parts.0 (all_sized p e h commands parts.1)

abbrev SizedOutcome : Outcome → Type 0
SizedOutcome (Moved actions next) = sized actions ≡ true
SizedOutcome (Refused f) = ⊤

-- each command is fine where the event has octets, and else where none asks for them
all_fine : (has : Bool) → has ≡ true → (commands : List Command) → list_all (λ c. has || is_plain c) commands ≡ true
all_fine has is [] = refl
all_fine has is (c ∷ commands) =
    and_from (has || is_plain c) (list_all (λ d. has || is_plain d) commands) (ap (λ b. b || is_plain c) is)
    (all_fine has is commands)

plain_fine : (has : Bool) (commands : List Command) → are_plain commands ≡ true →
    list_all (λ c. has || is_plain c) commands ≡ true
plain_fine true commands plain = all_fine true refl commands
plain_fine false commands plain = plain

step_sized : (p : Peer) (e : told.PeerEvent) (h : Option Heard) →
    ((o : moves.NodeOutcome) → turned p.standing.core (input_of e h) (wins p.config) ≡ o → PlainOutcome o) →
    SizedOutcome (steps p e h)
step_sized p e h plain =
    by_outcome (turned p.standing.core (input_of e h) (wins p.config)) (plain _ refl)
  where
    by_outcome : (o : moves.NodeOutcome) → PlainOutcome o → SizedOutcome (outcome_of p e h o)
    by_outcome (moves.NodeMoved commands core) is =
        all_sized p e h commands (plain_fine (has_octets (octets_in e)) commands is)
    by_outcome (moves.NodeRefused r) is = tt

plain_step : (p : Peer) (e : told.PeerEvent) (h : Option Heard) → is_submit_input (input_of e h) ≡ false →
    SizedOutcome (steps p e h)
plain_step p e h other =
    let i = input_of e h in
    let n = p.standing.core in
    let w = wins p.config in
    step_sized p e h (λ o is. subst PlainOutcome (sym (turned_is n i w) ∙ is) (outcome_plain n i w other))

submit_step : (p : Peer) (s : List ℕ) → has_octets s ≡ true → SizedOutcome (steps p (told.Submit s) None)
submit_step p s has = by_outcome (turned p.standing.core (input_of (told.Submit s) None) (wins p.config))
  where
    by_outcome : (o : moves.NodeOutcome) → SizedOutcome (outcome_of p (told.Submit s) None o)
    by_outcome (moves.NodeMoved commands core) =
        all_sized p (told.Submit s) None commands (all_fine (has_octets s) has commands)
    by_outcome (moves.NodeRefused r) = tt

submits : (p : Peer) (s : List ℕ) (is_open_now can : Bool) → (can ≡ true → has_octets s ≡ true) →
    SizedOutcome
    (if is_open_now then (if can then steps p (told.Submit s) None else Refused BadSubmit) else Refused NotOpen)
submits p s false can has = tt
submits p s true false has = tt
submits p s true true has = submit_step p s (has refl)

can_sized : (s : List ℕ) (o : Option Message) → message_in s ≡ o → can_submit o ≡ true → has_octets s ≡ true
can_sized s None is can = cc
can_sized s (Some m) is can = spelled_sized s m is

acts_sized : (p : Peer) (e : told.PeerEvent) → SizedOutcome (acts p e)
acts_sized p (told.Submit s) =
    submits p s (is_open p.standing.core.state) (can_submit (message_in s)) (can_sized s (message_in s) refl)
acts_sized p e = walked p SizedOutcome refl e (λ is f. tt) (λ h may. plain_step p e h (no_submit e h refl))

pub octets_are_sized : OctetsAreSized
octets_are_sized p next e actions is = by_reply (acts p (of_event e)) (acts_sized p (of_event e)) is
  where
    by_reply : (o : Outcome) → SizedOutcome o → as_reply o ≡ ActsBy actions next →
        sends_sized (λ s. length s) actions ≡ true
    by_reply (Moved done after) has same =
        let this : as_actions done ≡ actions = cc in
        subst (λ l. sends_sized (λ s. length s) l ≡ true) this has
    by_reply (Refused f) has same = cc
