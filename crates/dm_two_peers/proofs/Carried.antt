-- What each direction of each link carries, and what the world looked at before it tells a side of a link.
use Rattle.std.proofs.Common.{IsTrue, ◌≡◌, ℕ, ◌==◌, Bool, true, false, not, ◌&&◌, if◌then◌else◌, Option, Some, None}
use Rattle.std.proofs.Common.{List, [], ◌∷◌, slice_get, refl, ap, ◌∙◌}
use Rattle.std.specs.Prelude.{⊤}
use Rattle.std.proofs.lemmas.Bool.{and_parts}
use Rattle.dm_machine.specs.Connection.{Hold, hold_of}
use Rattle.dm_machine.specs.Connection as hold
use Rattle.dm_two_peers.specs.Machine.{conn, Node, LinkConcern, MakesLink, EndsLink, HeardOnLink, Tie, ConnectedOpen, AcceptedTie, tie_as}
use Rattle.dm_two_peers.specs.Machine.{is_tie_held}
use Rattle.dm_two_peers.specs.Links.{Side, A, B, flip, opens, LinkPhase, LinkPending, LinkUp, LinkCancelled, End, Fresh, Open, Shut}
use Rattle.dm_two_peers.specs.Links.{Link, View}
use Rattle.dm_two_peers.specs.Peers.{Event, ArrivedEvent, Action, Send, Close, Connect, Peers}
use Rattle.dm_two_peers.specs.Peers as peers
use Rattle.dm_two_peers.specs.Worlds.{World, peer_on}
use Rattle.dm_two_peers.specs.Happens.{Happening, Loses, own_view}
use Rattle.dm_two_peers.specs.Facts.{Standing, turned_over, is_sound_standing, is_up, is_pending, is_open_end, is_shut}
use Rattle.dm_two_peers.specs.Facts.{is_none, is_coming, IsSoundWorld}
use Rattle.dm_two_peers.specs.Turns.{WorldTurn}
use Rattle.dm_two_peers.specs.Delivery.{apps, is_closing_hold, is_done_hold, is_unmade, sends_all, IsCarrier}
use Rattle.dm_machine.specs.Upward.{is_open_hold}
use Rattle.dm_two_peers.proofs.Columns.{words_at}
use Rattle.dm_two_peers.proofs.Every.{all_true, every_bool, every_tie, every_phase, every_end, every_mark, every_standing}
use Rattle.dm_two_peers.proofs.Every.{at_standing}
use Rattle.dm_two_peers.proofs.StandingSteps.{is_ready, when, is_when, is_handed}
use Rattle.dm_two_peers.proofs.StandingOthers.{is_open_tie, same_bool}
use Rattle.dm_two_peers.proofs.Events.{side_sound}
use Rattle.dm_two_peers.proofs.Hearing.{is_ack, is_end}
use Rattle.dm_two_peers.proofs.Ways.{Way}

-- what a direction of a link carries
abbrev pub WayOnView : {M : Type 0} → (M → Bool) → Bool → Bool → View M → List M → List M → Type 0
WayOnView is_app lost over v said up =
    Way is_app lost v.phase v.own v.other v.incoming.messages v.incoming.mark over said up

abbrev pub WayOnLink : {M : Type 0} → (M → Bool) → Bool → Bool → Side → Option (Link M) → List M → List M → Type 0
WayOnLink is_app lost over t None said up = (said ≡ []) × (up ≡ [])
WayOnLink is_app lost over t (Some l) said up = WayOnView is_app lost over (own_view t l) said up

abbrev pub over_of : Node → ℕ → Bool
over_of n c = is_done_hold (hold_of n (conn c))

abbrev pub Carried : {P M : Type 0} → Peers P M → (M → Bool) → Bool → World P M → Side → ℕ → List M → List M → Type 0
Carried m is_app lost w t c said up =
    WayOnLink is_app lost (over_of (m.node_of (peer_on t w)) c) t (slice_get w.links c) said up

-- a pending link has no marks
abbrev is_blank_at : Standing → Bool
is_blank_at s = when (is_sound_standing s) (when (is_pending s.phase) (is_none s.in_mark && is_none s.out_mark))

blank_checked : every_standing is_blank_at ≡ true
unfolding all_true every_bool every_tie every_phase every_end every_mark
blank_checked = refl

pub blank_in : (mine : Bool) (s : Standing) → is_sound_standing (turned_over mine s) ≡ true → is_pending s.phase
    ≡ true →
    is_none s.in_mark ≡ true
blank_in true s good pending =
    (and_parts (is_none s.in_mark) (is_none s.out_mark) (is_when (is_pending s.phase) _
    (is_when (is_sound_standing s) _ (at_standing is_blank_at blank_checked s) good) pending)).0
blank_in false s good pending =
    let t = turned_over false s in
    (and_parts (is_none t.in_mark) (is_none t.out_mark) (is_when (is_pending t.phase) _
    (is_when (is_sound_standing t) _ (at_standing is_blank_at blank_checked t) good) pending)).1

pub blank_out : (mine : Bool) (s : Standing) → is_sound_standing (turned_over mine s) ≡ true → is_pending s.phase
    ≡ true →
    is_none s.out_mark ≡ true
blank_out true s good pending =
    (and_parts (is_none s.in_mark) (is_none s.out_mark) (is_when (is_pending s.phase) _
    (is_when (is_sound_standing s) _ (at_standing is_blank_at blank_checked s) good) pending)).1
blank_out false s good pending =
    let t = turned_over false s in
    (and_parts (is_none t.in_mark) (is_none t.out_mark) (is_when (is_pending t.phase) _
    (is_when (is_sound_standing t) _ (at_standing is_blank_at blank_checked t) good) pending)).0

-- what the world looked at
pub handed_ack : (mine : Bool) (k : LinkConcern) (s : Standing) → is_handed mine k s ≡ true → is_ack k ≡ true →
    is_pending s.phase ≡ true
handed_ack mine MakesLink s h e = (and_parts mine (is_pending s.phase) h).1
handed_ack mine _ s h e = cc

pub handed_end : (mine : Bool) (k : LinkConcern) (s : Standing) → is_handed mine k s ≡ true → is_end k ≡ true →
    is_coming s.in_mark ≡ true
handed_end mine EndsLink s h e = (and_parts (is_up s.phase && not (is_shut s.own) && s.in_empty) (is_coming s.in_mark)
    h).1
handed_end mine _ s h e = cc

pub not_is : (b : Bool) → not b ≡ true → b ≡ false
not_is true h = cc
not_is false h = refl

pub up_is : (p : LinkPhase) → is_up p ≡ true → p ≡ LinkUp
up_is LinkUp h = refl
up_is LinkPending h = cc
up_is LinkCancelled h = cc

pub open_unshut : (e : End) → is_open_end e ≡ true → is_shut e ≡ false
open_unshut Open h = refl
open_unshut Fresh h = cc
open_unshut Shut h = cc

pub held_over : (h : Hold) → is_tie_held (tie_as h) ≡ true → is_done_hold h ≡ true → is_closing_hold h ≡ true
held_over hold.ClosingAsI e g = refl
held_over hold.ClosingAsR e g = refl
held_over hold.NotHeld e g = cc
held_over _ e g = cc

pub made_is : (h : Hold) → is_ready HeardOnLink (tie_as h) ≡ true → is_unmade h ≡ false
made_is hold.Pending e = cc
made_is hold.NotHeld e = refl
made_is hold.Made e = refl
made_is hold.OpenAsI e = refl
made_is hold.ClosingAsI e = refl
made_is hold.Taken e = refl
made_is hold.OpenAsR e = refl
made_is hold.ClosingAsR e = refl

pub open_tied : (h : Hold) → is_open_hold h ≡ true → is_open_tie (tie_as h) ≡ true
open_tied hold.OpenAsI e = refl
open_tied hold.OpenAsR e = refl
open_tied _ e = cc

pub open_held : (t : Tie) → is_open_tie t ≡ true → is_tie_held t ≡ true
open_held t h = by_tie t h
  where
    by_tie : (t : Tie) → is_open_tie t ≡ true → is_tie_held t ≡ true
    by_tie ConnectedOpen h = refl
    by_tie AcceptedTie h = refl
    by_tie _ h = cc

pub same_left : (a b : Bool) → same_bool a b ≡ true → b ≡ true → a ≡ true
same_left true b h g = refl
same_left false true h g = cc
same_left false false h g = cc

pub same_right : (a b : Bool) → same_bool a b ≡ true → a ≡ true → b ≡ true
same_right true b h g = h
same_right false b h g = cc

-- what an event of the own side submits to it, or one of the other side hands up to it: nothing
pub no_own_submit : {M : Type 0} (t : Side) (b : Bool) (xs : List M) →
    (if opens (flip t) t && b then xs else []) ≡ []
no_own_submit A b xs = refl
no_own_submit B b xs = refl

pub no_other_raise : {M : Type 0} (t : Side) (b : Bool) (xs : List M) →
    (if opens t (flip t) && b then xs else []) ≡ []
no_other_raise A b xs = refl
no_other_raise B b xs = refl

pub no_other_up : {M : Type 0} (t : Side) (xs : List M) → (if opens t (flip t) then xs else []) ≡ []
no_other_up A xs = refl
no_other_up B xs = refl

pub no_own_up : {M : Type 0} (t : Side) (xs : List M) → xs ≡ [] → (if opens t t then xs else []) ≡ []
no_own_up A xs h = h
no_own_up B xs h = h

pub own_opens : {M : Type 0} (t : Side) (b : Bool) (xs : List M) →
    (if opens t t && b then xs else []) ≡ (if b then xs else [])
own_opens A b xs = refl
own_opens B b xs = refl

-- what is said and is no message of an application
pub plain_words : {M : Type 0} (is_app : M → Bool) (d : ℕ) (actions : List (Action M)) →
    sends_all (λ x. not (is_app x)) actions ≡ true → apps is_app (words_at d actions) ≡ []
plain_words is_app d [] h = refl
plain_words is_app d (Send c x ∷ more) h =
    let parts = and_parts (not (is_app x)) (sends_all (λ x. not (is_app x)) more) h in
    by_test (c.0 == d) (is_app x) (not_is (is_app x) parts.0) refl (plain_words is_app d more parts.1)
  where
    by_test : (b a : Bool) → a ≡ false → is_app x ≡ a → apps is_app (words_at d more) ≡ [] →
        apps is_app (if b then x ∷ words_at d more else words_at d more) ≡ []
    by_test true a e is rest =
        ap (λ a. if a then x ∷ apps is_app (words_at d more) else apps is_app (words_at d more)) (is ∙ e) ∙ rest
    by_test false a e is rest = rest
plain_words is_app d (Close c ∷ more) h = by_test (c.0 == d) (plain_words is_app d more h)
  where
    by_test : (b : Bool) → apps is_app (words_at d more) ≡ [] → apps is_app (if b then [] else words_at d more) ≡ []
    by_test true rest = refl
    by_test false rest = rest
plain_words is_app d (Connect c ∷ more) h = plain_words is_app d more h
plain_words is_app d (peers.HandUp x ∷ more) h = plain_words is_app d more h

-- a world with its peers as they carry messages
pub record IsCarrying {P M : Type 0} (m : Peers P M) (stands : P → Bool) (w : World P M) : Type 0 where
  pub sound : IsSoundWorld m w
  pub fits : (s : Side) → IsTrue (stands (peer_on s w))

pub carrier : {P M : Type 0} (m : Peers P M) (stands : P → Bool) (s : Side) (w : World P M) → IsCarrying m stands w →
    IsCarrier m stands (peer_on s w)
carrier m stands s w good =
    record { shaped = (side_sound m s w good.sound).own_shaped; fit = good.fits s }

-- where a message comes from
abbrev pub Front : {P M : Type 0} → World P M → Side → Event M → Type 0
Front {P} {M} w t (ArrivedEvent d x) =
    (l : Link M) × ((xs : List M) × ((slice_get w.links d.0 ≡ Some l) × ((own_view t l).incoming.messages ≡ x ∷ xs)))
Front w t _ = ⊤

abbrev pub turn_with : {M : Type 0} → Side → Event M → List (Action M) → WorldTurn M
turn_with s e actions = record { side = s; event = e; actions = actions }

abbrev pub names_loss : {M : Type 0} → ℕ → Happening M → Bool
names_loss c (Loses d a b) = d == c
names_loss c _ = false
