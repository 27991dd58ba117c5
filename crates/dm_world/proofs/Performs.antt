-- The actions of a peer, one after the other, and the room that is left for the rest.
use Rattle.std.proofs.Common.{◌≡◌, ℕ, suc, ◌+◌, Bool, true, false, ◌||◌, ◌==◌, Some, None, List, [], ◌∷◌, length, map, slice_get, refl, sym, ap, subst, ◌∙◌, arith, add-one}
use Rattle.std.specs.Prelude.{IsTrue}
use Rattle.std.specs.List.{remove}
use Rattle.dm_two_peers.specs.Links.{Side}
use Rattle.dm_two_peers.specs.Links as links
use Rattle.dm_machine.specs.Deeds.{Deed, SendsOn, ConnectsOn, ClosesOn, HandsUp}
use Rattle.dm_two_peers.specs.Peers.{Action, Connect, Send, Close, HandUp, deed_in, sends_at}
use Rattle.dm_two_peers.specs.Worlds.{perform}
use Rattle.dm_world.specs.declared.link.Link.{Link}
use Rattle.dm_peer.specs.declared.actions.Action as declared_action
use Rattle.dm_octet_peers.specs.Frames.{SendFrames}
use Rattle.dm_octet_peers.specs.Octets.{as_action, as_actions}
use Rattle.dm_world.specs.Rooms.{HasRoom, HasRoomFor}
use Rattle.dm_world.proofs.Changed.{less}

pub took : {X : Type 0} (items new : List X) (x : X) → Some x ≡ slice_get items 0 → new ≡ remove items 0 →
    items ≡ x ∷ new
took [] new x at rest = cc
took (y ∷ ys) new x at rest = let same : x ≡ y = cc in ap (λ z. z ∷ ys) (sym same) ∙ ap (λ z. x ∷ z) (sym rest)

pub performed_step : (s : Side) (a : Action (List ℕ)) (rest : List (Action (List ℕ)))
    (ls next : List (links.Link (List ℕ))) → next ≡ perform s (a ∷ []) ls →
    perform s rest next ≡ perform s (a ∷ rest) ls
performed_step s (Connect c) rest ls next is = ap (λ l. perform s rest l) is
performed_step s (Send c m) rest ls next is = ap (λ l. perform s rest l) is
performed_step s (Close c) rest ls next is = ap (λ l. perform s rest l) is
performed_step s (HandUp m) rest ls next is = ap (λ l. perform s rest l) is

or_true : (a b : Bool) → b ≡ true → (a || b) ≡ true
or_true true b h = refl
or_true false b h = h

true_or : (a b c : Bool) → (a || false) ≡ true → (a || b) ≡ true
true_or true b c h = refl
true_or false b c h = cc

sends_later : (c : ℕ) (o : Deed) (os : List Deed) → sends_at c os ≡ true → sends_at c (o ∷ os) ≡ true
sends_later c (ConnectsOn d) os h = h
sends_later c (SendsOn d) os h = or_true (d.0 == c) (sends_at c os) h
sends_later c (ClosesOn d) os h = h
sends_later c HandsUp os h = h

sends_first : (c : ℕ) (o : Deed) (os : List Deed) → sends_at c (o ∷ []) ≡ true → sends_at c (o ∷ os) ≡ true
sends_first c (ConnectsOn d) os h = cc
sends_first c (SendsOn d) os h = true_or (d.0 == c) (sends_at c os) false h
sends_first c (ClosesOn d) os h = cc
sends_first c HandsUp os h = cc

one_more : (s : Side) (n c : ℕ) (ls : List Link) → HasRoom s ls (suc n) c → HasRoom s ls (n + 1) c
one_more s n c ls h = subst (λ k. HasRoom s ls k c) (sym (add-one n)) h

pub room_one : (s : Side) (a : Action (List ℕ)) (rest : List (Action (List ℕ))) (ls : List Link) →
    HasRoomFor s ls (a ∷ rest) → (c : ℕ) → IsTrue (sends_at c (deed_in a ∷ [])) → HasRoom s ls 1 c
room_one s a rest ls h c sends =
    less s 1 (suc (length rest)) c ls (omega arith) (h c (sends_first c (deed_in a) (map deed_in rest) sends))

pub room_rest : (s : Side) (a : Action (List ℕ)) (rest : List (Action (List ℕ))) (ls next : List Link) →
    HasRoomFor s ls (a ∷ rest) → ((n c : ℕ) → HasRoom s ls (n + 1) c → HasRoom s next n c) → HasRoomFor s next rest
room_rest s a rest ls next h keeps c sends =
    keeps (length rest) c (one_more s (length rest) c ls (h c (sends_later c (deed_in a) (map deed_in rest) sends)))

-- one turn over the actions
pub room_now : (s : Side) (items new : List declared_action.Action) (x : declared_action.Action) (ls : List Link) →
    items ≡ x ∷ new → HasRoomFor s ls (as_actions items) → HasRoomFor s ls (as_action x ∷ as_actions new)
room_now s items new x ls is h = subst (λ l. HasRoomFor s ls (as_actions l)) is h

pub performed_turn : (s : Side) (items new : List declared_action.Action) (x : declared_action.Action)
    (ls next : List (links.Link (List ℕ))) → items ≡ x ∷ new → next ≡ perform s (as_action x ∷ []) ls →
    perform s (as_actions new) next ≡ perform s (as_actions items) ls
performed_turn s items new x ls next is one =
    performed_step s (as_action x) (as_actions new) ls next one ∙ ap (λ l. perform s (as_actions l) ls) (sym is)

pub none_left : {X : Type 0} (items : List X) → None ≡ slice_get items 0 → items ≡ []
none_left [] h = refl
none_left (x ∷ xs) h = cc

pub performed_end : (s : Side) (items : List declared_action.Action) (ls : List (links.Link (List ℕ))) →
    None ≡ slice_get items 0 → ls ≡ perform s (as_actions items) ls
performed_end s items ls h = ap (λ l. perform s (as_actions l) ls) (sym (none_left items h))

-- what is sent are frames, the first action's and the others'
pub frames_now : (items new : List declared_action.Action) (x : declared_action.Action) → items ≡ x ∷ new →
    SendFrames (as_actions items) → SendFrames (as_action x ∷ as_actions new)
frames_now items new x is frames = subst (λ l. SendFrames (as_actions l)) is frames

pub frames_one : (a : Action (List ℕ)) (rest : List (Action (List ℕ))) → SendFrames (a ∷ rest) → SendFrames (a ∷ [])
frames_one (Connect c) rest frames = tt
frames_one (Send c m) rest frames = (frames.0, tt)
frames_one (Close c) rest frames = tt
frames_one (HandUp m) rest frames = tt

pub frames_rest : (a : Action (List ℕ)) (rest : List (Action (List ℕ))) → SendFrames (a ∷ rest) → SendFrames rest
frames_rest (Connect c) rest frames = frames
frames_rest (Send c m) rest frames = frames.1
frames_rest (Close c) rest frames = frames
frames_rest (HandUp m) rest frames = frames
