-- A peer sends on the links that it holds, and on the one that the event names.
use Rattle.std.proofs.Common.{◌≡◌, ℕ, suc, ◌≤◌, Bool, true, false, not, ◌&&◌, ◌||◌, ◌==◌, if◌then◌else◌, List, [], ◌∷◌, length, map, refl, sym, ap, subst, ◌∙◌, inl, inr, arith}
use Rattle.std.specs.Prelude.{◌⊎◌, IsTrue, nat_le}
use Rattle.std.proofs.lemmas.Bool.Decides.{nat_tests}
use Rattle.dm_machine.specs.declared.inputs.Word.{Word}
use Rattle.dm_machine.specs.declared.outputs.Command.{Command}
use Rattle.dm_machine.specs.declared.outputs.Command.TheVariants as command
use Rattle.dm_machine.specs.Moves as moves
use Rattle.dm_machine.specs.Connection as machine
use Rattle.dm_machine.specs.Connection.{Hold, AtConnection, if_ordered, with_order, orders_to, hold_of}
use Rattle.dm_machine.specs.Openings.{LeavesOthersAlone, is_hold, names_it}
use Rattle.dm_machine.specs.Shape.{KeepsShape}
use Rattle.dm_peer.specs.declared.actions.Action as declared_action
use Rattle.dm_peer.specs.declared.peer.Peer.{Peer}
use Rattle.dm_two_peers.specs.Machine.{Conn, conn, Node, is_shaped, LinkConcern, Elsewhere, StartsLink, MakesLink, FailsLink, EndsLink, HeardOnLink, EachStepKeepsShape, Tie, Unheld, Connecting, Connected, ConnectedOpen, AcceptedTie, tie_as, tie_of, is_tie_held, held_as, Initiated, Accepted}
use Rattle.dm_two_peers.specs.Links.{Side}
use Rattle.dm_machine.specs.Deeds.{Deed, deed_of_command}
use Rattle.dm_two_peers.specs.Peers.{Event, StartEvent, StopEvent, TimeoutEvent, TickEvent, AckEvent, NackEvent, GoneEvent, SubmitEvent, ArrivedEvent, concern_by, deed_in, sends_at, Reply, ActsBy}
use Rattle.dm_two_peers.specs.Follows.{input_told, StepsAsMachine, FollowsMachine, IsMachine}
use Rattle.dm_world.specs.declared.link.Link.{Link}
use Rattle.dm_octet_peers.specs.Octets.{as_actions, octet_peers}
use Rattle.dm_world.specs.Rooms.{HasRoomFor, is_conn, named, HasRoomToSend}
use Rattle.dm_world.proofs.Changed.{less}
use Rattle.dm_world.proofs.Held.{held_by_role}

-- the three laws that it rests on
pub record SendLaws : Type 0 where
  pub machine : IsMachine octet_peers
  pub alone : LeavesOthersAlone
  pub keeps : EachStepKeepsShape

-- no order, no message
send_case : (b : Bool) (o : machine.ConnOrder) (more : List machine.ConnOrder) (rest : Bool) →
    with_order (if_ordered b o) more ≡ [] → (more ≡ [] → rest ≡ false) → (b || rest) ≡ false
send_case true o more rest h f = cc
send_case false o more rest h f = f h

other_case : (b : Bool) (o : machine.ConnOrder) (more : List machine.ConnOrder) (rest : Bool) →
    with_order (if_ordered b o) more ≡ [] → (more ≡ [] → rest ≡ false) → rest ≡ false
other_case true o more rest h f = cc
other_case false o more rest h f = f h

unordered : (c : ℕ) (l : List Command) → orders_to (conn c) l ≡ [] → sends_at c (map deed_of_command l) ≡ false
unordered c [] h = refl
unordered c (command.Connect d ∷ l) h = other_case (d.0 == c) machine.Connects (orders_to (conn c) l) _ h
    (unordered c l)
unordered c (command.SendCer d ∷ l) h = send_case (d.0 == c) machine.SendsCer (orders_to (conn c) l) _ h (unordered c l)
unordered c (command.SendCea d ∷ l) h = send_case (d.0 == c) machine.SendsCea (orders_to (conn c) l) _ h (unordered c l)
unordered c (command.SendRefusal d ∷ l) h = send_case (d.0 == c) machine.SendsRefusal (orders_to (conn c) l) _ h
    (unordered c l)
unordered c (command.SendDwr d ∷ l) h = send_case (d.0 == c) machine.SendsDwr (orders_to (conn c) l) _ h (unordered c l)
unordered c (command.SendDwa d ∷ l) h = send_case (d.0 == c) machine.SendsDwa (orders_to (conn c) l) _ h (unordered c l)
unordered c (command.SendDpr d ∷ l) h = send_case (d.0 == c) machine.SendsDpr (orders_to (conn c) l) _ h (unordered c l)
unordered c (command.SendDpa d ∷ l) h = send_case (d.0 == c) machine.SendsDpa (orders_to (conn c) l) _ h (unordered c l)
unordered c (command.SendSubmit d ∷ l) h = send_case (d.0 == c) machine.SendsSubmit (orders_to (conn c) l) _ h
    (unordered c l)
unordered c (command.Close d ∷ l) h = other_case (d.0 == c) machine.Closes (orders_to (conn c) l) _ h (unordered c l)
unordered c (command.Up ∷ l) h = unordered c l h

-- a connection that isn't held and isn't named is ordered nothing
unheld_is : (h : Hold) → tie_as h ≡ Unheld → is_hold machine.NotHeld h ≡ true
unheld_is machine.NotHeld e = refl
unheld_is machine.Pending e = cc
unheld_is machine.Made e = cc
unheld_is machine.OpenAsI e = cc
unheld_is machine.ClosingAsI e = cc
unheld_is machine.Taken e = cc
unheld_is machine.OpenAsR e = cc
unheld_is machine.ClosingAsR e = cc

-- what an event doesn't concern it doesn't name
unless_named : (b : Bool) (k : LinkConcern) (told : machine.Concern) → (k ≡ Elsewhere → ⊥) →
    (if b then k else Elsewhere) ≡ Elsewhere → not (names_it (machine.if_named b told)) ≡ true
unless_named true k told other e = absurd (other e)
unless_named false k told other e = refl

elsewhere_is : (e : Event (List ℕ)) (w : Word) (c : Conn) → concern_by e c ≡ Elsewhere →
    not (names_it (machine.concern_of (input_told e w) c)) ≡ true
elsewhere_is (StartEvent d) w c e = unless_named (d.0 == c.0) StartsLink machine.StartsIt (λ k. cc) e
elsewhere_is (StopEvent cause) w c e = refl
elsewhere_is TimeoutEvent w c e = refl
elsewhere_is TickEvent w c e = refl
elsewhere_is (AckEvent d) w c e = unless_named (d.0 == c.0) MakesLink machine.AcksIt (λ k. cc) e
elsewhere_is (NackEvent d) w c e = unless_named (d.0 == c.0) FailsLink machine.NacksIt (λ k. cc) e
elsewhere_is (GoneEvent d) w c e = unless_named (d.0 == c.0) EndsLink machine.EndsIt (λ k. cc) e
elsewhere_is (SubmitEvent s) w c e = refl
elsewhere_is (ArrivedEvent d s) w c e = unless_named (d.0 == c.0) HeardOnLink (machine.HeardOnIt w) (λ k. cc) e

both_true : (a b : Bool) → a ≡ true → b ≡ true → (a && b) ≡ true
both_true true b h g = g
both_true false b h g = cc

abbrev Alone : machine.Concern → Hold → Hold → List machine.ConnOrder → Type 0
Alone k before after orders = IsTrue (is_hold machine.NotHeld before && not (names_it k)) →
    (after ≡ machine.NotHeld) × (orders ≡ [])

step_unsent : (p next : Peer) (e : Event (List ℕ)) (actions : List declared_action.Action) (c : ℕ) → LeavesOthersAlone →
    IsTrue (is_shaped p.standing.core) → StepsAsMachine octet_peers p e (as_actions actions) next →
    tie_of p.standing.core c ≡ Unheld → concern_by e (conn c) ≡ Elsewhere →
    sends_at c (map deed_in (as_actions actions)) ≡ false
step_unsent p next e actions c law shaped step unheld elsewhere =
    let at : AtConnection Alone p.standing.core step.input (conn c) (moves.NodeMoved step.commands next.standing.core) =
    subst (λ (o : moves.NodeOutcome). AtConnection Alone p.standing.core step.input (conn c) o) step.moves
    (law p.standing.core step.input step.wins (conn c) shaped) in
    let orders =
    (at (both_true (is_hold machine.NotHeld (hold_of p.standing.core (conn c)))
    (not (names_it (machine.concern_of step.input (conn c))))
    (unheld_is (hold_of p.standing.core (conn c)) unheld)
    (ap (λ i. not (names_it (machine.concern_of i (conn c)))) step.told
    ∙ elsewhere_is e step.word (conn c) elsewhere))).1 in
    ap (λ (os : List Deed). sends_at c os) step.deeds ∙ unordered c step.commands orders

reply_unsent : (p next : Peer) (e : Event (List ℕ)) (actions : List declared_action.Action) (c : ℕ) → SendLaws →
    IsTrue (is_shaped p.standing.core) → octet_peers.reply p e ≡ ActsBy (as_actions actions) next →
    tie_of p.standing.core c ≡ Unheld → concern_by e (conn c) ≡ Elsewhere →
    sends_at c (map deed_in (as_actions actions)) ≡ false
reply_unsent p next e actions c laws shaped is unheld elsewhere =
    let follows : FollowsMachine octet_peers p e (ActsBy (as_actions actions) next) =
    subst (λ (r : Reply Peer (List ℕ)). FollowsMachine octet_peers p e r) is (laws.machine.follows p e) in
    elim follows [
      | inl step ↦ step_unsent p next e actions c laws.alone shaped step unheld elsewhere
      | inr drop ↦ ap (λ l. sends_at c (map deed_in l)) drop.silent
    ]

-- at most four actions
length_mapped : {X Y : Type 0} (f : X → Y) (xs : List X) → length (map f xs) ≡ length xs
length_mapped f [] = refl
length_mapped f (x ∷ xs) = ap (λ n. suc n) (length_mapped f xs)

le_of : (a b : ℕ) → nat_le a b ≡ true → a ≤ b
le_of a b h = grind (arith, nat_tests)

step_few : (p next : Peer) (e : Event (List ℕ)) (actions : List declared_action.Action) → EachStepKeepsShape →
    IsTrue (is_shaped p.standing.core) → StepsAsMachine octet_peers p e (as_actions actions) next →
    length (as_actions actions) ≤ 4
step_few p next e actions law shaped step =
    let keeps : KeepsShape (moves.NodeMoved step.commands next.standing.core) = subst (λ (o : moves.NodeOutcome). KeepsShape o)
    step.moves (law p.standing.core step.input step.wins shaped) in
    let few = le_of (length step.commands) 4 keeps.1 in
    let same = sym (length_mapped deed_in (as_actions actions)) ∙ ap (λ (os : List Deed). length os) step.deeds ∙
    length_mapped deed_of_command step.commands in
    subst (λ n. n ≤ 4) (sym same) few

reply_few : (p next : Peer) (e : Event (List ℕ)) (actions : List declared_action.Action) → SendLaws →
    IsTrue (is_shaped p.standing.core) → octet_peers.reply p e ≡ ActsBy (as_actions actions) next →
    length (as_actions actions) ≤ 4
reply_few p next e actions laws shaped is =
    let follows : FollowsMachine octet_peers p e (ActsBy (as_actions actions) next) =
    subst (λ (r : Reply Peer (List ℕ)). FollowsMachine octet_peers p e r) is (laws.machine.follows p e) in
    elim follows [
      | inl step ↦ step_few p next e actions laws.keeps shaped step
      | inr drop ↦ let none : length (as_actions actions) ≡ 0 = ap (λ l. length l) drop.silent in omega arith
    ]

-- a link that is held or named
tie_decided : (t : Tie) → (is_tie_held t ≡ true) ⊎ (t ≡ Unheld)
tie_decided Unheld = inr refl
tie_decided Connecting = inl refl
tie_decided Connected = inl refl
tie_decided ConnectedOpen = inl refl
tie_decided AcceptedTie = inl refl

if_decided : (b : Bool) (k : LinkConcern) → (b ≡ true) ⊎ ((if b then k else Elsewhere) ≡ Elsewhere)
if_decided true k = inl refl
if_decided false k = inr refl

named_decided : (e : Event (List ℕ)) (c : ℕ) → (is_conn (named e) c ≡ true) ⊎ (concern_by e (conn c) ≡ Elsewhere)
named_decided (StartEvent d) c = if_decided (d.0 == c) StartsLink
named_decided (AckEvent d) c = if_decided (d.0 == c) MakesLink
named_decided (NackEvent d) c = if_decided (d.0 == c) FailsLink
named_decided (GoneEvent d) c = if_decided (d.0 == c) EndsLink
named_decided (ArrivedEvent d s) c = if_decided (d.0 == c) HeardOnLink
named_decided (StopEvent cause) c = inr refl
named_decided TimeoutEvent c = inr refl
named_decided TickEvent c = inr refl
named_decided (SubmitEvent s) c = inr refl

or_left : (a b : Bool) → a ≡ true → (a || b) ≡ true
or_left true b h = refl
or_left false b h = cc

or_right : (a b : Bool) → b ≡ true → (a || b) ≡ true
or_right true b h = refl
or_right false b h = h

-- what is sent at an event has room
pub room_for_reply : (s : Side) (ls : List Link) (p next : Peer) (e : Event (List ℕ))
    (actions : List declared_action.Action) → SendLaws → IsTrue (is_shaped p.standing.core) →
    HasRoomToSend s ls p.standing.core (named e) → octet_peers.reply p e ≡ ActsBy (as_actions actions) next →
    HasRoomFor s ls (as_actions actions)
room_for_reply s ls p next e actions laws shaped room is c sends =
    let n = p.standing.core in
    let held = is_conn (held_as Initiated n.held) c || is_conn (held_as Accepted n.held) c in
    let few = reply_few p next e actions laws shaped is in
    less s (length (as_actions actions)) 4 c ls few
    (elim (tie_decided (tie_of n c)) [
      | inl held_there ↦ room c (or_left held (is_conn (named e) c) (sym (held_by_role n c shaped) ∙ held_there))
      | inr unheld ↦
          elim (named_decided e c) [
            | inl there ↦ room c (or_right held (is_conn (named e) c) there)
            | inr elsewhere ↦ let clash : true ≡ false = sym sends ∙
                reply_unsent p next e actions c laws shaped is unheld elsewhere in absurd (cc)
          ]
    ])

-- a reply keeps the node's shape
pub reply_shaped : (p next : Peer) (e : Event (List ℕ)) (actions : List declared_action.Action) → SendLaws →
    IsTrue (is_shaped p.standing.core) → octet_peers.reply p e ≡ ActsBy (as_actions actions) next →
    IsTrue (is_shaped next.standing.core)
reply_shaped p next e actions laws shaped is =
    let follows : FollowsMachine octet_peers p e (ActsBy (as_actions actions) next) =
    subst (λ (r : Reply Peer (List ℕ)). FollowsMachine octet_peers p e r) is (laws.machine.follows p e) in
    elim follows [
      | inl step ↦
          (subst (λ (o : moves.NodeOutcome). KeepsShape o) step.moves
          (laws.keeps p.standing.core step.input step.wins shaped)).0
      | inr drop ↦ subst (λ (n : Node). IsTrue (is_shaped n)) (sym drop.stays) shaped
    ]
