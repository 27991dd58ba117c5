-- What a side hears comes to one step of the world, and how an event enters its link.
use Rattle.std.proofs.Common.{◌≡◌, ℕ, ◌<◌, ◌≤◌, Bool, true, false, Option, None, Some, List, [], ◌∷◌, length, get_or}
use Rattle.std.proofs.Common.{slice_get, zero, suc, refl, sym, ap, subst, ◌∙◌, arith}
use Rattle.std.specs.Prelude.{Result, Ok, Err, IfOk}
use Rattle.dm_peer.specs.Events as told
use Rattle.dm_two_peers.specs.Machine.{Conn, conn, Elsewhere, StartsLink, MakesLink, FailsLink, EndsLink, HeardOnLink}
use Rattle.dm_two_peers.specs.Links.{Side, opens, Link, view_of, link_of, by_side}
use Rattle.dm_two_peers.specs.Peers.{ArrivedEvent}
use Rattle.dm_two_peers.specs.Steps.{entered}
use Rattle.dm_two_peers.specs.Happens.{own_view}
use Rattle.dm_two_peers.specs.Worlds.{change_at, enter}
use Rattle.dm_two_peers.specs.Worlds as worlds
use Rattle.dm_world.specs.declared.fault.Effect.{Effect}
use Rattle.dm_world.specs.declared.link.Link as declared_link
use Rattle.dm_octet_peers.specs.Octets.{as_event, octet_peers}
use Rattle.dm_world.specs.Rooms.{named}
use Rattle.dm_world.specs.Seen.{as_link, as_links}
use Rattle.dm_world.specs.Telling.{is_start, concern_in}
use Rattle.dm_world.specs.Views.{OctetWorld, Effects, front_of}

-- a link by its number
pub link_at : (i : ℕ) (ls : List declared_link.Link) (x : declared_link.Link) → i < length ls → x ≡ get_or ls i x →
    slice_get (as_links ls) i ≡ Some (as_link x)
link_at i [] x lt at = absurd (omega arith)
link_at zero (l ∷ ls) x lt at = ap (λ z. Some (as_link z)) (sym at)
link_at (suc i) (l ∷ ls) x lt at = link_at i ls x (omega arith) at

pub link_found : (c i : ℕ) (ls : List declared_link.Link) (x : declared_link.Link) → (i ≡ c) × (i < length ls) →
    x ≡ get_or ls i x → slice_get (as_links ls) c ≡ Some (as_link x)
link_found c i ls x there at =
    subst (λ k. slice_get (as_links ls) k ≡ Some (as_link x)) there.0 (link_at i ls x there.1 at)

pub link_past : (i : ℕ) (ls : List declared_link.Link) → length ls ≤ i → slice_get (as_links ls) i ≡ None
link_past i [] h = refl
link_past zero (l ∷ ls) h = absurd (omega arith)
link_past (suc i) (l ∷ ls) h = link_past i ls (omega arith)

-- the front message that is read is the one that comes
pub front_read : (s : Side) (i : ℕ) (ls : List declared_link.Link) (l : declared_link.Link) (x y : List ℕ) →
    i < length ls → l ≡ get_or ls i l → Some y ≡ slice_get (own_view s (as_link l)).incoming.messages 0 →
    front_of s (slice_get (as_links ls) i) ≡ Some x → y ≡ x
front_read s i ls l x y lt at read front =
    let both : Some y ≡ Some x = read ∙ ap (λ o. front_of s o) (sym (link_at i ls l lt at)) ∙ front in
    cc

pub heard_result : {E : Type 0} (r : Result Effect E) (s : Side) (c : ℕ) (y : List ℕ) (o : Option (Link (List ℕ)))
    (w w' : OctetWorld) → ((x : List ℕ) → front_of s o ≡ Some x → y ≡ x) →
    IfOk r (λ effect. Effects effect (worlds.tell octet_peers s (ArrivedEvent (conn c) y) w) w w') →
    IfOk r (λ effect. (x : List ℕ) → front_of s o ≡ Some x →
    Effects effect (worlds.tell octet_peers s (ArrivedEvent (conn c) x) w) w w')
heard_result (Err f) s c y o w w' same step = tt
heard_result (Ok effect) s c y o w w' same step =
    λ x front. subst (λ z. Effects effect (worlds.tell octet_peers s (ArrivedEvent (conn c) z) w) w w') (same x front) step

-- an event that concerns no link leaves it, and so does a Start
entered_elsewhere : (b : Bool) (l : Link (List ℕ)) → l ≡ link_of b l.opener (entered Elsewhere (view_of b l))
entered_elsewhere true l = refl
entered_elsewhere false l = refl

pub not_entered : (s : Side) (l : Link (List ℕ)) → l ≡ by_side s (entered Elsewhere) l
not_entered s l = entered_elsewhere (opens s l.opener) l

pub not_started_on : (s : Side) (l : Link (List ℕ)) → l ≡ by_side s (entered StartsLink) l
not_started_on s l = entered_elsewhere (opens s l.opener) l

-- an event enters the link that it names
pub entered_at : (s : Side) (e : told.PeerEvent) (n : Option Conn) (c : Conn) (ls next : List (Link (List ℕ))) →
    is_start e ≡ false → n ≡ named (as_event e) → n ≡ Some c →
    next ≡ change_at c.0 (by_side s (entered (concern_in e))) ls → next ≡ enter s (as_event e) ls
entered_at s (told.Start d) n c ls next known is at done = cc
entered_at s (told.Ack d) n c ls next known is at done =
    let same : c ≡ d = cc in done ∙ ap (λ (x : Conn). change_at x.0 (by_side s (entered MakesLink)) ls) same
entered_at s (told.Nack d) n c ls next known is at done =
    let same : c ≡ d = cc in done ∙ ap (λ (x : Conn). change_at x.0 (by_side s (entered FailsLink)) ls) same
entered_at s (told.Gone d) n c ls next known is at done =
    let same : c ≡ d = cc in done ∙ ap (λ (x : Conn). change_at x.0 (by_side s (entered EndsLink)) ls) same
entered_at s (told.Arrived d x) n c ls next known is at done =
    let same : c ≡ d = cc in done ∙ ap (λ (x : Conn). change_at x.0 (by_side s (entered HeardOnLink)) ls) same
entered_at s (told.Stop cause) n c ls next known is at done = let clash : None ≡ Some c = sym is ∙ at in cc
entered_at s told.Timeout n c ls next known is at done = let clash : None ≡ Some c = sym is ∙ at in cc
entered_at s told.Tick n c ls next known is at done = let clash : None ≡ Some c = sym is ∙ at in cc
entered_at s (told.Submit x) n c ls next known is at done = let clash : None ≡ Some c = sym is ∙ at in cc

-- one that names none enters none
pub entered_none : (s : Side) (e : told.PeerEvent) (n : Option Conn) (ls : List (Link (List ℕ))) →
    n ≡ named (as_event e) → n ≡ None → ls ≡ enter s (as_event e) ls
entered_none s (told.Start d) n ls is at = let clash : Some d ≡ None = sym is ∙ at in cc
entered_none s (told.Ack d) n ls is at = let clash : Some d ≡ None = sym is ∙ at in cc
entered_none s (told.Nack d) n ls is at = let clash : Some d ≡ None = sym is ∙ at in cc
entered_none s (told.Gone d) n ls is at = let clash : Some d ≡ None = sym is ∙ at in cc
entered_none s (told.Arrived d x) n ls is at = let clash : Some d ≡ None = sym is ∙ at in cc
entered_none s (told.Stop cause) n ls is at = refl
entered_none s told.Timeout n ls is at = refl
entered_none s told.Tick n ls is at = refl
entered_none s (told.Submit x) n ls is at = refl
