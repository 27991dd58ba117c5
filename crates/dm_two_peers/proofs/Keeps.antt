-- An event that a side's peer takes keeps the links sound.
use Rattle.std.proofs.Common.{◌≡◌, ℕ, ◌≤◌, Bool, true, false, ◌&&◌, Some, List, [], ◌∷◌, ◌++◌, length}
use Rattle.std.proofs.Common.{map, slice_get, refl, sym, subst, ◌∙◌, arith, append-nil}
use Rattle.dm_two_peers.specs.Machine.{conn, Node, LinkConcern, Elsewhere, StartsLink, MakesLink, FailsLink, EndsLink, HeardOnLink, Tie}
use Rattle.dm_two_peers.specs.Machine.{Unheld, Connecting, Connected, ConnectedOpen, AcceptedTie, tie_of, is_tie_held}
use Rattle.dm_two_peers.specs.Links.{Side, A, B, flip, opens, LinkPhase, LinkPending, LinkUp, LinkCancelled, Mark, NoMark, Coming}
use Rattle.dm_two_peers.specs.Links.{Delivered, Link, View, view_of, by_side}
use Rattle.dm_two_peers.specs.Peers.{Event, Action, deed_in, closes_at, sends_at, concern_by}
use Rattle.dm_two_peers.specs.Steps.{queued, settled_view}
use Rattle.dm_two_peers.specs.Worlds.{takes_more, enter, perform, settle}
use Rattle.dm_two_peers.specs.Facts.{turned_over, is_empty, is_sound_standing, standing_of, IsSoundView, IsSoundLink}
use Rattle.dm_two_peers.specs.Facts.{AreSound}
use Rattle.dm_two_peers.proofs.Columns.{phase_at, messages_at, outgoing_mark_at, words_at, is_closed_at}
use Rattle.dm_two_peers.proofs.Columns.{stepped}
use Rattle.dm_two_peers.proofs.Every.{at_bool}
use Rattle.dm_two_peers.proofs.StandingSteps.{is_ready, is_allowed, is_handed, after_pop, after_put, puts_in}
use Rattle.dm_two_peers.proofs.StandingSteps.{standing_after}
use Rattle.dm_two_peers.proofs.Checks.{step_at}
use Rattle.dm_two_peers.proofs.Ties.{KeepsTies}
use Rattle.dm_two_peers.proofs.Views.{acted_entered, unsent_unsaid, sent_said}
use Rattle.dm_two_peers.proofs.Stepped.{IsStart, length-perform, length-enter}
use Rattle.dm_two_peers.proofs.Lists.{view_link, mapped_some}
use Rattle.dm_two_peers.proofs.Stepped.{length-settle, stepped_at}

popped : {M : Type 0} (k : LinkConcern) (f : Bool → Bool) (ms : List M) → after_pop k (is_empty ms) f ≡ true →
    f (is_empty (messages_at k ms)) ≡ true
popped HeardOnLink f ms h = at_bool f h (is_empty (messages_at HeardOnLink ms))
popped Elsewhere f ms h = h
popped StartsLink f ms h = h
popped MakesLink f ms h = h
popped FailsLink f ms h = h
popped EndsLink f ms h = h

none_put : {M : Type 0} (f : Bool → Bool) (words old : List M) → f (is_empty old) ≡ true → is_empty words ≡ true →
    f (is_empty (old ++ words)) ≡ true
none_put f [] old h e = subst (λ xs. f (is_empty xs) ≡ true) (sym (append-nil old)) h
none_put f (x ∷ xs) old h e = cc

some_put : {M : Type 0} (f : Bool → Bool) (words old : List M) → f false ≡ true → is_empty words ≡ false →
    f (is_empty (old ++ words)) ≡ true
some_put f words (y ∷ ys) h e = h
some_put f (x ∷ xs) [] h e = h
some_put f [] [] h e = cc

pub put_in : {M : Type 0} (sent closed : Bool) (p : LinkPhase) (mark : Mark) (f : Bool → Bool) (words old : List M) →
    after_put (sent && takes_more p mark) closed (is_empty old) f ≡ true → (sent ≡ false → is_empty words ≡ true) →
    (sent ≡ true → closed ≡ false → is_empty words ≡ false) → f (is_empty (queued p mark words old)) ≡ true
put_in true true LinkUp NoMark f words old h g k = at_bool f h (is_empty (old ++ words))
put_in true false LinkUp NoMark f words old h g k = some_put f words old h (k refl refl)
put_in false closed LinkUp NoMark f words old h g k = none_put f words old h (g refl)
put_in true closed LinkUp Coming f words old h g k = h
put_in false closed LinkUp Coming f words old h g k = h
put_in true closed LinkUp Delivered f words old h g k = h
put_in false closed LinkUp Delivered f words old h g k = h
put_in true closed LinkPending mark f words old h g k = h
put_in false closed LinkPending mark f words old h g k = h
put_in true closed LinkCancelled mark f words old h g k = h
put_in false closed LinkCancelled mark f words old h g k = h

-- a step keeps a link sound, in the view of the side that steps
view_keeps : {M : Type 0} (mine : Bool) (k : LinkConcern) (own own' other : Tie) (d : ℕ) (actions : List (Action M))
    (v : View M) →
    IsSoundView mine own other v → is_handed mine k (standing_of own other v) ≡ true →
    (is_ready k own ≡ true →
    is_allowed k own own' (closes_at d (map deed_in actions)) (sends_at d (map deed_in actions)) ≡ true) →
    IsSoundView mine own' other (stepped k (is_tie_held own') d actions v)
view_keeps mine k own own' other d actions v good handed law =
    let s = standing_of own other v in
    let closed = is_closed_at d actions in
    let sent = sends_at d (map deed_in actions) in
    let words = words_at d actions in
    let step = step_at mine k s good handed in
    let result : Bool → Bool → Bool = λ ie oe. is_sound_standing
    (turned_over mine (standing_after k own' closed ie oe s)) in
    let pop = popped k (λ ie. after_put (puts_in k sent s) closed s.out_empty (λ oe. result ie oe)) v.incoming.messages
    (step.after own' closed sent (law step.ready)) in
    let put = put_in sent closed (phase_at k v.phase) (outgoing_mark_at k v.own v.outgoing.mark)
    (λ oe. result (is_empty (messages_at k v.incoming.messages)) oe) words v.outgoing.messages pop
    (unsent_unsaid d actions) (λ a b. sent_said d actions a b) in
    subst (λ x. IsSoundView mine own' other (settled_view k (is_tie_held own') x))
    (sym (acted_entered d actions k v)) put

pub link_keeps : {M : Type 0} (s : Side) (own own' other : Node) (e : Event M) (actions : List (Action M)) (d : ℕ)
    (l : Link M) →
    IsSoundLink s own other d l →
    is_handed (opens s l.opener) (concern_by e (conn d))
    (standing_of (tie_of own d) (tie_of other d) (view_of (opens s l.opener) l)) ≡ true →
    KeepsTies own e actions own' →
    IsSoundLink s own' other d
    (by_side s (stepped (concern_by e (conn d)) (is_tie_held (tie_of own' d)) d actions) l)
link_keeps s own own' other e actions d l good handed ties =
    let mine = opens s l.opener in
    let k = concern_by e (conn d) in
    let v = view_of mine l in
    let after = view_keeps mine k (tie_of own d) (tie_of own' d) (tie_of other d) d actions v good handed
    (ties.changes d) in
    subst (λ x. IsSoundView mine (tie_of own' d) (tie_of other d) x)
    (sym (view_link mine l.opener (stepped k (is_tie_held (tie_of own' d)) d actions v))) after

-- what the world looked at, of each link
pub record Hands {M : Type 0} (s : Side) (own other : Node) (e : Event M) (links : List (Link M)) : Type 0 where
  pub handed : (d : ℕ) (l : Link M) → slice_get links d ≡ Some l →
      is_handed (opens s l.opener) (concern_by e (conn d))
      (standing_of (tie_of own d) (tie_of other d) (view_of (opens s l.opener) l)) ≡ true

stays_unheld : (t : Tie) (closed sent : Bool) → is_allowed Elsewhere Unheld t closed sent ≡ true → t ≡ Unheld
stays_unheld Unheld closed sent h = refl
stays_unheld Connecting true sent h = cc
stays_unheld Connecting false sent h = cc
stays_unheld Connected true sent h = cc
stays_unheld Connected false sent h = cc
stays_unheld ConnectedOpen true sent h = cc
stays_unheld ConnectedOpen false sent h = cc
stays_unheld AcceptedTie true sent h = cc
stays_unheld AcceptedTie false sent h = cc

pub unheld_later : {M : Type 0} (own own' : Node) (e : Event M) (actions : List (Action M)) (c : ℕ) →
    KeepsTies own e actions own' → tie_of own c ≡ Unheld → concern_by e (conn c) ≡ Elsewhere →
    tie_of own' c ≡ Unheld
unheld_later own own' e actions c ties none k =
    let closed = closes_at c (map deed_in actions) in
    let sent = sends_at c (map deed_in actions) in
    let F : LinkConcern → Tie → Type 0 = λ x t. is_ready x t ≡ true →
    is_allowed x t (tie_of own' c) closed sent ≡ true in
    let law : F Elsewhere Unheld = subst (λ t. F Elsewhere t) none
    (subst (λ x. F x (tie_of own c)) k (ties.changes c)) in
    stays_unheld (tie_of own' c) closed sent (law refl)

pub step_keeps : {M : Type 0} (s : Side) (own own' other : Node) (e : Event M) (actions : List (Action M))
    (links : List (Link M)) →
    AreSound s own other links → Hands s own other e links → KeepsTies own e actions own' → (IsStart e → ⊥) →
    ((c : ℕ) → length links ≤ c → concern_by e (conn c) ≡ Elsewhere) →
    AreSound s own' other (settle s e own' (perform s actions (enter s e links)))
step_keeps s own own' other e actions links good hands ties no_start later =
    let len = length-settle s e own' (perform s actions (enter s e links))
    ∙ (length-perform s actions (enter s e links) ∙ length-enter s e links no_start) in
    record {
      own_shaped = ties.shaped;
      other_shaped = good.other_shaped;
      each = λ c l at.
          let f = by_side s (stepped (concern_by e (conn c)) (is_tie_held (tie_of own' c)) c actions) in
          let old = mapped_some f (slice_get links c) l (sym (stepped_at s e actions own' c links no_start) ∙ at) in
          subst (λ x. IsSoundLink s own' other c x) (sym old.2)
          (link_keeps s own own' other e actions c old.0 (good.each c old.0 old.1)
          (hands.handed c old.0 old.1) ties);
      own_later = λ c h.
          let h' : length links ≤ c = omega (arith, len, h) in
          unheld_later own own' e actions c ties (good.own_later c h') (later c h');
      other_later = λ c h. let h' : length links ≤ c = omega (arith, len, h) in good.other_later c h';
    }

-- the two sides
pub flip_link : {M : Type 0} (s o : Side) (own other : Tie) (l : Link M) →
    IsSoundView (opens s o) own other (view_of (opens s o) l) →
    IsSoundView (opens (flip s) o) other own (view_of (opens (flip s) o) l)
flip_link A A own other l h = h
flip_link A B own other l h = h
flip_link B A own other l h = h
flip_link B B own other l h = h

pub sound_flip : {M : Type 0} (s : Side) (own other : Node) (links : List (Link M)) → AreSound s own other links →
    AreSound (flip s) other own links
sound_flip s own other links good =
    record {
      own_shaped = good.other_shaped;
      other_shaped = good.own_shaped;
      each = λ c l at. flip_link s l.opener (tie_of own c) (tie_of other c) l (good.each c l at);
      own_later = good.other_later;
      other_later = good.own_later;
    }
