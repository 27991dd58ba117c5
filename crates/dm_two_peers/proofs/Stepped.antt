-- Each link after an event and the actions that answer it is one before, changed in the side's view.
use Rattle.std.proofs.Common.{◌≡◌, ℕ, ◌==◌, Bool, true, false, if◌then◌else◌, Option, Some, None, List, []}
use Rattle.std.proofs.Common.{◌∷◌, length, slice_get, refl, sym, ap, ◌∙◌}
use Rattle.std.specs.Prelude.{option_map}
use Rattle.dm_two_peers.specs.Machine.{Conn, conn, Node, LinkConcern, Elsewhere, MakesLink, FailsLink, EndsLink, HeardOnLink, tie_of}
use Rattle.dm_two_peers.specs.Machine.{is_tie_held, concern_if_named}
use Rattle.dm_two_peers.specs.Links.{Side, opens, Link, View, view_of, link_of, by_side}
use Rattle.dm_two_peers.specs.Peers.{Event, StartEvent, StopEvent, TimeoutEvent, TickEvent, AckEvent, NackEvent, GoneEvent, SubmitEvent, ArrivedEvent, Action, Connect}
use Rattle.dm_two_peers.specs.Peers.{Send, Close, concern_by}
use Rattle.dm_two_peers.specs.Peers as peers
use Rattle.dm_two_peers.specs.Steps.{entered, with_sent, with_close, settled_view}
use Rattle.dm_two_peers.specs.Worlds.{change_at, enter, perform, settle}
use Rattle.dm_two_peers.proofs.Columns.{acted, stepped}
use Rattle.dm_two_peers.proofs.Lists.{length-change_at, if_same, change_at-tested, by_side-twice, by_side-same}

-- each link after the actions
acted_if : {M : Type 0} (s : Side) (b : Bool) (f g : View M → View M) (l : Link M) →
    by_side s g (if b then by_side s f l else l) ≡ by_side s (λ v. g (if b then f v else v)) l
acted_if s true f g l = by_side-twice s g f l
acted_if s false f g l = refl

mapped_if : {M : Type 0} (s : Side) (b : Bool) (f g : View M → View M) (o : Option (Link M)) →
    option_map (by_side s g) (option_map (λ l. if b then by_side s f l else l) o) ≡ option_map
    (by_side s (λ v. g (if b then f v else v))) o
mapped_if s b f g None = refl
mapped_if s b f g (Some l) = ap (λ x. Some x) (acted_if s b f g l)

mapped_id : {M : Type 0} (s : Side) (o : Option (Link M)) → o ≡ option_map (by_side s (λ v. v)) o
mapped_id s None = refl
mapped_id s (Some l) = ap (λ x. Some x) (sym (by_side-same s l))

pub performed_at : {M : Type 0} (s : Side) (actions : List (Action M)) (d : ℕ) (links : List (Link M)) →
    slice_get (perform s actions links) d ≡ option_map (by_side s (acted d actions)) (slice_get links d)
performed_at s [] d links = mapped_id s (slice_get links d)
performed_at s (Send c m ∷ actions) d links =
    performed_at s actions d (change_at c.0 (by_side s (with_sent m)) links)
    ∙ (ap (option_map (by_side s (acted d actions)))
    (change_at-tested c.0 d (c.0 == d) (by_side s (with_sent m)) links refl)
    ∙ mapped_if s (c.0 == d) (with_sent m) (acted d actions) (slice_get links d))
performed_at s (Close c ∷ actions) d links =
    performed_at s actions d (change_at c.0 (by_side s with_close) links)
    ∙ (ap (option_map (by_side s (acted d actions))) (change_at-tested c.0 d (c.0 ==
    d) (by_side s with_close) links refl)
    ∙ mapped_if s (c.0 == d) with_close (acted d actions) (slice_get links d))
performed_at s (Connect c ∷ actions) d links = performed_at s actions d links
performed_at s (peers.HandUp m ∷ actions) d links = performed_at s actions d links

pub length-perform : {M : Type 0} (s : Side) (actions : List (Action M)) (links : List (Link M)) →
    length (perform s actions links) ≡ length links
length-perform s [] links = refl
length-perform s (Send c m ∷ actions) links = length-perform s actions (change_at c.0 (by_side s (with_sent m)) links)
    ∙ length-change_at c.0 (by_side s (with_sent m)) links
length-perform s (Close c ∷ actions) links = length-perform s actions (change_at c.0 (by_side s with_close) links)
    ∙ length-change_at c.0 (by_side s with_close) links
length-perform s (Connect c ∷ actions) links = length-perform s actions links
length-perform s (peers.HandUp m ∷ actions) links = length-perform s actions links

-- each link as the event reaches it, but for a Start
pub data IsStart {M : Type 0} : Event M → Type 0 where
  at_start : (c : Conn) → IsStart (StartEvent c)

entered_if : {M : Type 0} (s : Side) (k : LinkConcern) (b : Bool) (l : Link M) →
    (if b then by_side s (entered k) l else l) ≡ by_side s (entered (if b then k else Elsewhere)) l
entered_if s k true l = refl
entered_if s k false l = sym (by_side-same s l)

mapped_entered : {M : Type 0} (s : Side) (k : LinkConcern) (b : Bool) (o : Option (Link M)) →
    option_map (λ l. if b then by_side s (entered k) l else l) o ≡ option_map
    (by_side s (entered (if b then k else Elsewhere))) o
mapped_entered s k b None = refl
mapped_entered s k b (Some l) = ap (λ x. Some x) (entered_if s k b l)

entered_named : {M : Type 0} (s : Side) (k : LinkConcern) (c : Conn) (d : ℕ) (links : List (Link M)) →
    slice_get (change_at c.0 (by_side s (entered k)) links) d ≡ option_map
    (by_side s (entered (concern_if_named c (conn d) k))) (slice_get links d)
entered_named s k c d links = change_at-tested c.0 d (c.0 == d) (by_side s (entered k)) links refl
    ∙ mapped_entered s k (c.0 == d) (slice_get links d)

pub entered_at : {M : Type 0} (s : Side) (e : Event M) (d : ℕ) (links : List (Link M)) → (IsStart e → ⊥) →
    slice_get (enter s e links) d ≡ option_map (by_side s (entered (concern_by e (conn d)))) (slice_get links d)
entered_at s (StartEvent c) d links h = absurd (h (at_start c))
entered_at s (StopEvent c) d links h = mapped_id s (slice_get links d)
entered_at s TimeoutEvent d links h = mapped_id s (slice_get links d)
entered_at s TickEvent d links h = mapped_id s (slice_get links d)
entered_at s (SubmitEvent m) d links h = mapped_id s (slice_get links d)
entered_at s (AckEvent c) d links h = entered_named s MakesLink c d links
entered_at s (NackEvent c) d links h = entered_named s FailsLink c d links
entered_at s (GoneEvent c) d links h = entered_named s EndsLink c d links
entered_at s (ArrivedEvent c m) d links h = entered_named s HeardOnLink c d links

pub length-enter : {M : Type 0} (s : Side) (e : Event M) (links : List (Link M)) → (IsStart e → ⊥) →
    length (enter s e links) ≡ length links
length-enter s (StartEvent c) links h = absurd (h (at_start c))
length-enter s (StopEvent c) links h = refl
length-enter s TimeoutEvent links h = refl
length-enter s TickEvent links h = refl
length-enter s (SubmitEvent m) links h = refl
length-enter s (AckEvent c) links h = length-change_at c.0 (by_side s (entered MakesLink)) links
length-enter s (NackEvent c) links h = length-change_at c.0 (by_side s (entered FailsLink)) links
length-enter s (GoneEvent c) links h = length-change_at c.0 (by_side s (entered EndsLink)) links
length-enter s (ArrivedEvent c m) links h = length-change_at c.0 (by_side s (entered HeardOnLink)) links

-- each link once a fresh end is settled
settled_if : {M : Type 0} (s : Side) (n : Node) (b : Bool) (c d : ℕ) (l : Link M) → (c == d) ≡ b →
    (if b then by_side s (settled_view HeardOnLink (is_tie_held (tie_of n c))) l else l) ≡ by_side s
    (settled_view (if b then HeardOnLink else Elsewhere) (is_tie_held (tie_of n d))) l
settled_if s n true c d l e = ap (λ x. by_side s (settled_view HeardOnLink (is_tie_held (tie_of n x))) l) (if_same c d e)
settled_if s n false c d l e = sym (by_side-same s l)

mapped_settled : {M : Type 0} (s : Side) (n : Node) (b : Bool) (c d : ℕ) (o : Option (Link M)) → (c == d) ≡ b →
    option_map (λ l. if b then by_side s (settled_view HeardOnLink (is_tie_held (tie_of n c))) l else l) o ≡ option_map
    (by_side s (settled_view (if b then HeardOnLink else Elsewhere) (is_tie_held (tie_of n d)))) o
mapped_settled s n b c d None e = refl
mapped_settled s n b c d (Some l) e = ap (λ x. Some x) (settled_if s n b c d l e)

unsettled : {M : Type 0} (s : Side) (k : LinkConcern) (o : Option (Link M)) (holds : Bool) →
    ((v : View M) → settled_view k holds v ≡ v) → o ≡ option_map (by_side s (settled_view k holds)) o
unsettled s k None holds h = refl
unsettled s k (Some l) holds h =
    ap (λ x. Some x) (sym
    (ap (λ v. link_of (opens s l.opener) l.opener v) (h (view_of (opens s l.opener) l)) ∙ by_side-same s l))

settled_named : {M : Type 0} (k : LinkConcern) (b : Bool) (holds : Bool) (v : View M) →
    ((e : View M) → settled_view k holds e ≡ e) → settled_view (if b then k else Elsewhere) holds v ≡ v
settled_named k true holds v h = h v
settled_named k false holds v h = refl

pub settled_at : {M : Type 0} (s : Side) (e : Event M) (n : Node) (d : ℕ) (links : List (Link M)) →
    (IsStart e → ⊥) → slice_get (settle s e n links) d ≡ option_map
    (by_side s (settled_view (concern_by e (conn d)) (is_tie_held (tie_of n d)))) (slice_get links d)
settled_at s (StartEvent c) n d links h = absurd (h (at_start c))
settled_at s (StopEvent c) n d links h = unsettled s Elsewhere (slice_get links d) (is_tie_held (tie_of n d)) (λ v. refl)
settled_at s TimeoutEvent n d links h = unsettled s Elsewhere (slice_get links d) (is_tie_held (tie_of n d)) (λ v. refl)
settled_at s TickEvent n d links h = unsettled s Elsewhere (slice_get links d) (is_tie_held (tie_of n d)) (λ v. refl)
settled_at s (SubmitEvent m) n d links h = unsettled s Elsewhere (slice_get links d) (is_tie_held (tie_of n d)) (λ v. refl)
settled_at s (AckEvent c) n d links h = unsettled s (concern_if_named c (conn d) MakesLink) (slice_get links d)
    (is_tie_held (tie_of n d)) (λ v. settled_named MakesLink (c.0 == d) (is_tie_held (tie_of n d)) v (λ e. refl))
settled_at s (NackEvent c) n d links h = unsettled s (concern_if_named c (conn d) FailsLink) (slice_get links d)
    (is_tie_held (tie_of n d)) (λ v. settled_named FailsLink (c.0 == d) (is_tie_held (tie_of n d)) v (λ e. refl))
settled_at s (GoneEvent c) n d links h = unsettled s (concern_if_named c (conn d) EndsLink) (slice_get links d)
    (is_tie_held (tie_of n d)) (λ v. settled_named EndsLink (c.0 == d) (is_tie_held (tie_of n d)) v (λ e. refl))
settled_at s (ArrivedEvent c m) n d links h =
    change_at-tested c.0 d (c.0 == d) (by_side s (settled_view HeardOnLink (is_tie_held (tie_of n c.0)))) links refl
    ∙ mapped_settled s n (c.0 == d) c.0 d (slice_get links d) refl

pub length-settle : {M : Type 0} (s : Side) (e : Event M) (n : Node) (links : List (Link M)) →
    length (settle s e n links) ≡ length links
length-settle s (ArrivedEvent c m) n links = length-change_at c.0
    (by_side s (settled_view HeardOnLink (is_tie_held (tie_of n c.0)))) links
length-settle s _ n links = refl

-- all three
mapped_thrice : {M : Type 0} (s : Side) (f g h : View M → View M) (o : Option (Link M)) →
    option_map (by_side s f) (option_map (by_side s g) (option_map (by_side s h) o)) ≡ option_map
    (by_side s (λ v. f (g (h v)))) o
mapped_thrice s f g h None = refl
mapped_thrice s f g h (Some l) =
    ap (λ x. Some x) (ap (by_side s f) (by_side-twice s g h l) ∙ by_side-twice s f (λ v. g (h v)) l)

pub stepped_at : {M : Type 0} (s : Side) (e : Event M) (actions : List (Action M)) (n : Node) (d : ℕ)
    (links : List (Link M)) → (IsStart e → ⊥) →
    slice_get (settle s e n (perform s actions (enter s e links))) d ≡ option_map
    (by_side s (stepped (concern_by e (conn d)) (is_tie_held (tie_of n d)) d actions)) (slice_get links d)
stepped_at s e actions n d links h =
    let k = concern_by e (conn d) in
    settled_at s e n d (perform s actions (enter s e links)) h
    ∙ (ap (option_map (by_side s (settled_view k (is_tie_held (tie_of n d)))))
    (performed_at s actions d (enter s e links)
    ∙ ap (option_map (by_side s (acted d actions))) (entered_at s e d links h))
    ∙ mapped_thrice s (settled_view k (is_tie_held (tie_of n d))) (acted d actions) (entered k) (slice_get links d))
