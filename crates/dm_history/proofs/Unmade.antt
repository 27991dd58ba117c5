-- A connection that wasn't made isn't held, or pends; so its Nack ends it, and its disconnect ends any.
use Rattle.std.proofs.Common.{◌≡◌, inl, inr, ℕ, Bool, true, false, List, refl, subst, ap, ◌∙◌}
use Rattle.std.specs.Prelude.{Contains}
use Rattle.std.specs.List.{list_all}
use Rattle.std.proofs.lemmas.List.Elements.{All-contains}
use Rattle.std.proofs.lemmas.List.Sums.{AllPass-from_list_all}
use Rattle.dm_machine.specs.declared.connection.Conn.{Conn}
use Rattle.dm_machine.specs.Connection.{Hold, NotHeld, Pending, hold_of, Concern, AcksIt, NacksIt, EndsIt, HeardOnIt, if_named, concern_of, orders_to, AtConnection}
use Rattle.dm_machine.specs.Changes.{Change, changed_to, allowed, at_nack, at_end, EachConnectionChangesAsAllowed}
use Rattle.dm_machine.specs.Openings.{is_hold}
use Rattle.dm_peer.specs.declared.actions.Action.{Action}
use Rattle.dm_peer.specs.declared.config.Config.{Config}
use Rattle.dm_peer.specs.declared.peer.Peer.{Peer}
use Rattle.dm_peer.specs.Events.{PeerEvent, Nack, Gone}
use Rattle.dm_peer.specs.Configs.{wins}
use Rattle.dm_peer.specs.Acts.{Moved, input_of}
use Rattle.dm_peer.specs.Settled.{IsSettled, FreshIsSettled, EachEventKeepsSettled}
use Rattle.dm_history.specs.History.{Happened, new_peer, Became, untold, done, declined, Once}
use Rattle.dm_history.specs.Naming.{tells_made, event_ends, NacksUnmade}
use Rattle.dm_history.proofs.Concerns.{is_making, makes_as}
use Rattle.dm_history.proofs.Turning.{IsTurn, TurnsAs, turns}
use Rattle.dm_history.proofs.Holding.{is_free}
use Rattle.dm_history.proofs.Lasting.{stays_settled}

abbrev pub is_unmade : Hold → Bool
is_unmade NotHeld = true
is_unmade Pending = true
is_unmade _ = false

abbrev is_unmade_then : Change → Bool
is_unmade_then x = is_unmade x.next

abbrev is_free_then : Change → Bool
is_free_then x = is_hold NotHeld x.next

unmade_listed : (k : Concern) (h : Hold) → is_making k ≡ false → is_unmade h ≡ true →
    list_all is_unmade_then (allowed k h) ≡ true
unmade_listed AcksIt h other is = cc other
unmade_listed (HeardOnIt w) h other is = cc other
unmade_listed _ NotHeld other is = refl
unmade_listed _ Pending other is = refl
unmade_listed _ _ other is = cc is

nacked_listed : (h : Hold) → is_unmade h ≡ true → list_all is_free_then (at_nack h) ≡ true
nacked_listed NotHeld is = refl
nacked_listed Pending is = refl
nacked_listed _ is = cc is

gone_listed : (h : Hold) → list_all is_free_then (at_end h) ≡ true
gone_listed NotHeld = refl
gone_listed Pending = refl
gone_listed _ = refl

-- what holds of all changes that are allowed holds of the one that was made
passes : EachConnectionChangesAsAllowed → (p : Peer) → IsSettled p → (e : PeerEvent) (actions : List Action)
    (next : Peer) → (t : IsTurn p e actions next) → (c : Conn) (k : Concern) → concern_of (input_of e t.heard) c ≡ k →
    (test : Change → Bool) → list_all test (allowed k (hold_of p.standing.core c)) ≡ true →
    test (changed_to (hold_of t.core c) (orders_to c t.commands)) ≡ true
passes changes p was e actions next t c k is test all =
    let n = p.standing.core in
    let i = input_of e t.heard in
    let x = changed_to (hold_of t.core c) (orders_to c t.commands) in
    let there : Contains (allowed (concern_of i c) (hold_of n c)) x =
    subst (AtConnection (λ j before after orders. Contains (allowed j before) (changed_to after orders)) n i c) t.moves
    (changes n i (wins p.config) c was.shaped) in
    let list = allowed k (hold_of n c) in
    All-contains (λ y. test y ≡ true) list x (AllPass-from_list_all test list all)
    (subst (λ j. Contains (allowed j (hold_of n c)) x) is there)

pub ended_free : EachConnectionChangesAsAllowed → (p : Peer) → IsSettled p → (e : PeerEvent) (actions : List Action)
    (next : Peer) (c : Conn) (past : List Happened) → event_ends e c ≡ true → NacksUnmade c e past →
    ((Once (λ x earlier. tells_made x.event c ≡ true) past → ⊥) → is_unmade (hold_of p.standing.core c) ≡ true) →
    TurnsAs p e (Moved actions next) → hold_of next.standing.core c ≡ NotHeld
ended_free changes p was (Nack d) actions next c past named first unmade (inl t) =
    ap (λ q. hold_of q.standing.core c) t.stands
    ∙ is_free (hold_of t.core c)
    (passes changes p was (Nack d) actions next t c NacksIt (ap (λ b. if_named b NacksIt) named) is_free_then
    (nacked_listed (hold_of p.standing.core c) (unmade first)))
ended_free changes p was (Gone d) actions next c past named first unmade (inl t) =
    ap (λ q. hold_of q.standing.core c) t.stands
    ∙ is_free (hold_of t.core c)
    (passes changes p was (Gone d) actions next t c EndsIt (ap (λ b. if_named b EndsIt) named) is_free_then
    (gone_listed (hold_of p.standing.core c)))
ended_free changes p was (Nack d) actions next c past named first unmade (inr x) = absurd (cc x.came)
ended_free changes p was (Gone d) actions next c past named first unmade (inr x) = absurd (cc x.came)
ended_free changes p was _ actions next c past named first unmade t = absurd (cc named)

unmade_next : EachConnectionChangesAsAllowed → (p : Peer) → IsSettled p → (e : PeerEvent) (actions : List Action)
    (next : Peer) (c : Conn) → tells_made e c ≡ false → is_unmade (hold_of p.standing.core c) ≡ true →
    TurnsAs p e (Moved actions next) → is_unmade (hold_of next.standing.core c) ≡ true
unmade_next changes p was e actions next c other before (inr d) =
    ap (λ q. is_unmade (hold_of q.standing.core c)) d.same ∙ before
unmade_next changes p was e actions next c other before (inl t) =
    let k = concern_of (input_of e t.heard) c in
    ap (λ q. is_unmade (hold_of q.standing.core c)) t.stands
    ∙ passes changes p was e actions next t c k refl is_unmade_then
    (unmade_listed k (hold_of p.standing.core c) (makes_as e t.heard c ∙ other) before)

not_told : (b : Bool) → (b ≡ true → ⊥) → b ≡ false
not_told true none = absurd (none refl)
not_told false none = refl

-- no event told that it was made
pub stays_unmade : FreshIsSettled → EachEventKeepsSettled → EachConnectionChangesAsAllowed → (config : Config)
    (next : ℕ) (past : List Happened) (p : Peer) (c : Conn) → Became (new_peer config next) past p →
    (Once (λ x earlier. tells_made x.event c ≡ true) past → ⊥) → is_unmade (hold_of p.standing.core c) ≡ true
stays_unmade fresh kept changes config next past p c untold none = refl
stays_unmade fresh kept changes config next past p c (done older q e actions after lived is) none =
    unmade_next changes q (stays_settled fresh kept config next older q lived) e actions p c
    (not_told (tells_made e c) (λ told. none (inl told)))
    (stays_unmade fresh kept changes config next older q c lived (λ earlier. none (inr earlier)))
    (turns q e actions after is)
stays_unmade fresh kept changes config next past p c (declined older q e lived) none =
    stays_unmade fresh kept changes config next older q c lived (λ earlier. none (inr earlier))
