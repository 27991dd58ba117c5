-- One event more that a peer is told, and its reply.
use Rattle.std.proofs.Common.{◌≡◌, ℕ, ◌+◌, ◌<◌, List, [], ◌∷◌, ◌++◌, length, take, reverse, map, get_or, sym, subst, ap, ◌∙◌}
use Rattle.std.proofs.lemmas.List.{reverse-append, take-map, take_more, map-append}
use Rattle.dm_peer.specs.declared.events.Event as declared_event
use Rattle.dm_peer.specs.declared.peer.Peer.{Peer}
use Rattle.dm_peer.specs.Events.{PeerEvent, event_told}
use Rattle.dm_history.specs.Telling.{EventReply, RepliesSo, Replied, unasked, asked, events_told}

reverse_more : {A : Type 0} (l after : List A) (x : A) → after ≡ l ++ x ∷ [] → reverse after ≡ x ∷ reverse l
reverse_more l after x is = ap reverse is ∙ reverse-append l (x ∷ [])

pub one_more : (first : Peer) (events : List PeerEvent) (replies after : List EventReply) (reply : EventReply) (p : Peer)
    (e : PeerEvent) (next : Peer) → after ≡ replies ++ reply ∷ [] → Replied first events (reverse replies) p →
    RepliesSo p e reply next → Replied first (e ∷ events) (reverse after) next
one_more first events replies after reply p e next is before so =
    subst (λ (l : List EventReply). Replied first (e ∷ events) l next) (sym (reverse_more replies after reply is))
    (asked events (reverse replies) p e reply next before so)

-- the events so far, and the next
next_told : (events : List declared_event.Event) (i : ℕ) (d : declared_event.Event) → i < length events →
    reverse (take (i + 1) (map event_told events)) ≡ event_told (get_or events i d) ∷ reverse (take i (map event_told events))
next_told events i d below =
    let e = get_or events i d in
    let mapped = take-map event_told (i + 1) events
    ∙ (ap (map event_told) (take_more events i d below) ∙ (map-append event_told (take i events) (e ∷ [])
    ∙ ap (λ l. l ++ event_told e ∷ []) (sym (take-map event_told i events)))) in
    reverse_more (take i (map event_told events)) (take (i + 1) (map event_told events)) (event_told e) mapped

pub more_replied : (first : Peer) (events : List declared_event.Event) (i : ℕ) (d : declared_event.Event)
    (replies after : List EventReply) (p next : Peer) → i < length events →
    ((f : Peer) (es : List PeerEvent) → Replied f es (reverse replies) p →
    Replied f (event_told (get_or events i d) ∷ es) (reverse after) next) →
    Replied first (reverse (take i (map event_told events))) (reverse replies) p →
    Replied first (reverse (take (i + 1) (map event_told events))) (reverse after) next
more_replied first events i d replies after p next below more before =
    subst (λ (l : List PeerEvent). Replied first l (reverse after) next) (sym (next_told events i d below))
    (more first (reverse (take i (map event_told events))) before)

-- where nothing more was told
pub still_replied : (first : Peer) (events : List declared_event.Event) (i : ℕ) (replies after : List EventReply)
    (p next : Peer) → length replies ≡ i → after ≡ replies → next ≡ p →
    Replied first (reverse (take i (map event_told events))) (reverse replies) p →
    Replied first (events_told events after) (reverse after) next
still_replied first events i replies after p next count same there before =
    subst (λ (q : Peer). Replied first (events_told events after) (reverse after) q) (sym there)
    (subst (λ (l : List EventReply). Replied first (events_told events l) (reverse l) p) (sym same)
    (subst (λ (n : ℕ). Replied first (reverse (take n (map event_told events))) (reverse replies) p) (sym count) before))

pub none_replied : (first : Peer) (replies : List EventReply) → replies ≡ [] → Replied first [] (reverse replies) first
none_replied first replies none = subst (λ (l : List EventReply). Replied first [] (reverse l) first) (sym none) unasked
