-- Where nothing is sent or handed up, no room is needed and memory isn't wanted.
use Rattle.std.proofs.Common.{◌≡◌, ℕ, Bool, true, false, ◌||◌, Some, None, List, [], ◌∷◌, map, refl, sym, ap, ◌∙◌}
use Rattle.std.proofs.Common.{inl, inr}
use Rattle.std.specs.Prelude.{IsTrue}
use Rattle.std.specs.List.{list_any}
use Rattle.arrayvec.specs.ArrayVec.{ArrayVec}
use Rattle.dm_machine.specs.Moves as moves
use Rattle.dm_machine.specs.Node.{is_shaped}
use Rattle.dm_machine.specs.declared.outputs.Refusal.TheVariants as refusal
use Rattle.dm_peer.specs.declared.actions.Action as declared_action
use Rattle.dm_peer.specs.declared.actions.Action.TheVariants as action
use Rattle.dm_peer.specs.declared.fault.PeerFault.TheVariants.{NoMemory}
use Rattle.dm_peer.specs.declared.peer.Peer.{Peer}
use Rattle.dm_peer.specs.Acts.{Refused, acts, wants_memory, outcome_of, turned, input_of}
use Rattle.dm_peer.specs.Configs.{wins}
use Rattle.dm_peer.specs.Sent.{takes_memory}
use Rattle.dm_peer.specs.Silence.{is_silent, SilentTakesNone}
use Rattle.dm_peer.specs.Events as told
use Rattle.dm_two_peers.specs.Links.{Side}
use Rattle.dm_two_peers.specs.Peers.{deed_in, sends_at}
use Rattle.dm_world.specs.declared.link.Link.{Link}
use Rattle.dm_world.specs.declared.net.Net.{Net}
use Rattle.dm_world.specs.declared.pair.Pair.{Pair}
use Rattle.dm_world.specs.Asking.{peer_of, IsAnswerOf, IsWant}
use Rattle.dm_octet_peers.specs.Octets.{as_actions}
use Rattle.dm_world.specs.Rooms.{HasRoomFor}

or_false_left : (a b : Bool) → (a || b) ≡ false → a ≡ false
or_false_left true b h = cc
or_false_left false b h = refl

or_false_right : (a b : Bool) → (a || b) ≡ false → b ≡ false
or_false_right true b h = cc
or_false_right false b h = h

none_sent : (c : ℕ) (l : List declared_action.Action) → list_any takes_memory l ≡ false →
    sends_at c (map deed_in (as_actions l)) ≡ false
none_sent c [] h = refl
none_sent c (action.Connect d ∷ l) h =
    none_sent c l (or_false_right (takes_memory (action.Connect d)) (list_any takes_memory l) h)
none_sent c (action.Close d ∷ l) h =
    none_sent c l (or_false_right (takes_memory (action.Close d)) (list_any takes_memory l) h)
none_sent c (action.Send d s ∷ l) h = cc (or_false_left (takes_memory (action.Send d s)) (list_any takes_memory l) h)
none_sent c (action.Up s ∷ l) h =
    none_sent c l (or_false_right (takes_memory (action.Up s)) (list_any takes_memory l) h)

-- actions that take no memory need no room
pub silent_room : (s : Side) (e : told.PeerEvent) (old : Net) (new : Pair) (actions : ArrayVec declared_action.Action)
    (ls : List Link) → SilentTakesNone →
    IsTrue (is_shaped (peer_of s old.pair).standing.core) → is_silent (peer_of s old.pair) e ≡ true →
    IsAnswerOf s e (Some actions) old.pair new → HasRoomFor s ls (as_actions actions.items)
silent_room s e old new actions ls law shaped silent answer =
    let p = peer_of s old.pair in
    let none : list_any takes_memory actions.items ≡ false = ap wants_memory (sym answer.0) ∙
    law p e shaped silent in
    λ c sends. let clash : true ≡ false = sym sends ∙ none_sent c actions.items none in absurd (cc)

-- the machine never refuses for want of memory
no_fault : (p : Peer) (e : told.PeerEvent) (o : moves.NodeOutcome) → outcome_of p e None o ≡ Refused NoMemory → ⊥
no_fault p e (moves.NodeMoved commands core) h = cc
no_fault p e (moves.NodeRefused refusal.NotClosed) h = cc
no_fault p e (moves.NodeRefused refusal.NotOpen) h = cc

-- at a Timeout memory can't be wanted
pub timeout_wants_none : (s : Side) (old : Net) → SilentTakesNone →
    IsTrue (is_shaped (peer_of s old.pair).standing.core) →
    IsWant (acts (peer_of s old.pair) told.Timeout) → ⊥
timeout_wants_none s old law shaped (inl wants) =
    let p = peer_of s old.pair in
    let clash : true ≡ false = sym wants ∙ law p told.Timeout shaped refl in cc
timeout_wants_none s old law shaped (inr refused) =
    let p = peer_of s old.pair in
    no_fault p told.Timeout (turned p.standing.core (input_of told.Timeout None) (wins p.config)) refused
