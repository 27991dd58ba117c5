-- What a side is told keeps what is under way of the exchanges on each link.
use Rattle.std.proofs.Common.{◌≡◌, ℕ, ◌==◌, Bool, true, false, not, ◌&&◌, ◌||◌, if◌then◌else◌}
use Rattle.std.proofs.Common.{Option, Some, None, List, [], ◌∷◌, slice_get, refl, sym, ap, subst, ◌∙◌}
use Rattle.std.proofs.lemmas.Bool.{and_parts, eqb-true}
use Rattle.dm_machine.specs.Connection.{Hold, hold_of}
use Rattle.dm_machine.specs.Connection as hold
use Rattle.dm_two_peers.specs.Machine.{Conn, conn, LinkConcern, Elsewhere, MakesLink, FailsLink, EndsLink, HeardOnLink, tie_of, tie_as}
use Rattle.dm_two_peers.specs.Machine.{is_tie_held}
use Rattle.dm_two_peers.specs.Links.{Side, A, B, flip, opens, Link, View, view_of, by_side}
use Rattle.dm_two_peers.specs.Peers.{Event, StartEvent, StopEvent, TimeoutEvent, TickEvent, AckEvent, NackEvent, GoneEvent, SubmitEvent, ArrivedEvent, Action, Send}
use Rattle.dm_two_peers.specs.Peers.{Close, Connect, Reply, ActsBy, Declines, Peers, concern_by}
use Rattle.dm_two_peers.specs.Peers as peers
use Rattle.dm_two_peers.specs.Steps.{settled_view}
use Rattle.dm_two_peers.specs.Worlds.{World, peer_on, with_peer, with_links, enter, perform, settle, after_reply, tell}
use Rattle.dm_two_peers.specs.Happens.{own_view, world_after}
use Rattle.dm_two_peers.specs.Facts.{Standing, turned_over, is_empty, is_sound_standing, is_pending}
use Rattle.dm_two_peers.specs.Requests.{Requests, heard_on, sent_on, MatchesOn, AnswersMatch}
use Rattle.dm_two_peers.proofs.Columns.{words_at, is_closed_at, stepped}
use Rattle.dm_two_peers.proofs.Every.{all_true, every_bool, every_tie, every_phase, every_end, every_mark, every_standing}
use Rattle.dm_two_peers.proofs.Every.{at_standing}
use Rattle.dm_two_peers.proofs.StandingSteps.{when, is_when, is_handed}
use Rattle.dm_two_peers.proofs.StandingOthers.{is_connecting}
use Rattle.dm_two_peers.proofs.Checks.{step_at}
use Rattle.dm_two_peers.proofs.Views.{acted_entered}
use Rattle.dm_two_peers.proofs.Stepped.{IsStart, at_start, stepped_at}
use Rattle.dm_two_peers.proofs.Lists.{mapped_some}
use Rattle.dm_two_peers.proofs.Keeps.{Hands}
use Rattle.dm_two_peers.proofs.Events.{side_sound}
use Rattle.dm_two_peers.proofs.Comings.{standing_at}
use Rattle.dm_two_peers.proofs.Mirrors.{mirrored, view_own}
use Rattle.dm_two_peers.proofs.Carried.{Front, IsCarrying, carrier, made_is}
use Rattle.dm_two_peers.proofs.RequestedViews.{AskBoth, both_turned, IsHanded, passes, acks, nacks, ends, hears, step_asks}

-- what is sent on a link that isn't closed is said on it
words_sent : {M : Type 0} (c : ℕ) (actions : List (Action M)) → is_closed_at c actions ≡ false →
    words_at c actions ≡ sent_on c actions
words_sent c [] h = refl
words_sent c (Send d x ∷ actions) h = by_test (d.0 == c) (words_sent c actions h)
  where
    by_test : (b : Bool) → words_at c actions ≡ sent_on c actions →
        (if b then x ∷ words_at c actions else words_at c actions)
        ≡ (if b then x ∷ sent_on c actions else sent_on c actions)
    by_test true e = ap (λ ys. x ∷ ys) e
    by_test false e = e
words_sent c (Close d ∷ actions) h = by_test (d.0 == c) h (λ g. words_sent c actions g)
  where
    by_test : (b : Bool) → (b || is_closed_at c actions) ≡ false →
        (is_closed_at c actions ≡ false → words_at c actions ≡ sent_on c actions) →
        (if b then [] else words_at c actions) ≡ sent_on c actions
    by_test true h f = cc
    by_test false h f = f h
words_sent c (Connect d ∷ actions) h = words_sent c actions h
words_sent c (peers.HandUp x ∷ actions) h = words_sent c actions h

-- a pending link from its opener
abbrev waits_pending : Standing → Bool
waits_pending s =
    when (is_sound_standing s) (when (is_pending s.phase)
    (is_connecting s.own_tie && (not (is_tie_held s.other_tie) && (s.in_empty && s.out_empty))))

pending_checked : every_standing waits_pending ≡ true
unfolding all_true every_bool every_tie every_phase every_end every_mark
pending_checked = refl

record IsWaiting (s : Standing) : Type 0 where
  pub own : is_connecting s.own_tie ≡ true
  pub other : not (is_tie_held s.other_tie) ≡ true
  pub inc : s.in_empty ≡ true
  pub out : s.out_empty ≡ true

waiting_at : (mine : Bool) (s : Standing) → is_sound_standing (turned_over mine s) ≡ true →
    is_handed mine MakesLink s ≡ true → IsWaiting s
waiting_at false s good h = cc
waiting_at true s good h =
    let all = is_when (is_pending s.phase) _
    (is_when (is_sound_standing s) _ (at_standing waits_pending pending_checked s) good) h in
    let parts = and_parts (is_connecting s.own_tie) (not (is_tie_held s.other_tie) && (s.in_empty && s.out_empty)) all in
    let more = and_parts (not (is_tie_held s.other_tie)) (s.in_empty && s.out_empty) parts.1 in
    let last = and_parts s.in_empty s.out_empty more.1 in
    record { own = parts.0; other = more.0; inc = last.0; out = last.1 }

pends_by : (h : Hold) → is_connecting (tie_as h) ≡ true → h ≡ hold.Pending
pends_by hold.Pending e = refl
pends_by _ e = cc

unheld_by : (h : Hold) → not (is_tie_held (tie_as h)) ≡ true → h ≡ hold.NotHeld
unheld_by hold.NotHeld e = refl
unheld_by _ e = cc

empty_is : {M : Type 0} (ms : List M) → is_empty ms ≡ true → ms ≡ []
empty_is [] e = refl
empty_is (x ∷ xs) e = cc

module _ {P M : Type 0} (m : Peers P M) (r : Requests P M) (stands : P → Bool) where
  abbrev pub AskAt : P → P → ℕ → View M → Type 0
  AskAt p p' c v = AskBoth r p p' (hold_of (m.node_of p) (conn c)) (hold_of (m.node_of p') (conn c)) v

  -- on each link, from each side
  abbrev pub AllAsk : World P M → Type 0
  AllAsk w =
      (s : Side) (c : ℕ) (l : Link M) → slice_get w.links c ≡ Some l →
      AskAt (peer_on s w) (peer_on (flip s) w) c (own_view s l)

  turned_view : (s o : Side) (p p' : P) (c : ℕ) (l : Link M) → AskAt p p' c (view_of (opens s o) l) →
      AskAt p' p c (view_of (opens (flip s) o) l)
  turned_view s o p p' c l h =
      subst (λ v. AskAt p' p c v) (sym (mirrored s o l))
      (both_turned r p p' (hold_of (m.node_of p) (conn c)) (hold_of (m.node_of p') (conn c)) (view_of (opens s o) l) h)

  -- from one side it is so from the other
  pub from_side : (s : Side) (p : P) (links : List (Link M)) (w : World P M) →
      ((c : ℕ) (l : Link M) → slice_get links c ≡ Some l → AskAt p (peer_on (flip s) w) c (own_view s l)) →
      AllAsk (with_peer s p links w)
  from_side A p links w each A c l at = each c l at
  from_side A p links w each B c l at = turned_view A l.opener p w.b c l (each c l at)
  from_side B p links w each B c l at = each c l at
  from_side B p links w each A c l at = turned_view B l.opener p w.a c l (each c l at)

  pub from_links : (s : Side) (links : List (Link M)) (w : World P M) →
      ((c : ℕ) (l : Link M) → slice_get links c ≡ Some l →
      AskAt (peer_on s w) (peer_on (flip s) w) c (own_view s l)) →
      AllAsk (with_links links w)
  from_links A links w each t c l at = from_side A w.a links w each t c l at
  from_links B links w each t c l at = from_side B w.b links w each t c l at

  -- what the world hands over
  abbrev Handed : Side → World P M → ℕ → Link M → LinkConcern → Option M → Type 0
  Handed s w c l k heard =
      IsHanded (own_view s l) (hold_of (m.node_of (peer_on s w)) (conn c))
      (hold_of (m.node_of (peer_on (flip s) w)) (conn c)) k heard

  module _ (s : Side) (w : World P M) (good : IsCarrying m stands w) (c : ℕ) (l : Link M)
      (at : slice_get w.links c ≡ Some l) where
    handed_ack : (b : Bool) → is_handed (opens s l.opener) (if b then MakesLink else Elsewhere) (standing_at m s w c l)
        ≡ true →
        Handed s w c l (if b then MakesLink else Elsewhere) None
    handed_ack false h = passes
    handed_ack true h =
        let st = standing_at m s w c l in
        let is = waiting_at (opens s l.opener) st ((side_sound m s w good.sound).each c l at) h in
        acks (pends_by _ is.own) (unheld_by _ is.other) (empty_is _ is.inc) (empty_is _ is.out)

    handed_nack : (b : Bool) → Handed s w c l (if b then FailsLink else Elsewhere) None
    handed_nack false = passes
    handed_nack true = nacks

    handed_end : (b : Bool) → Handed s w c l (if b then EndsLink else Elsewhere) None
    handed_end false = passes
    handed_end true = ends

    handed_word : (b : Bool) (x : M) → is_handed (opens s l.opener) (if b then HeardOnLink else Elsewhere)
        (standing_at m s w c l) ≡ true →
        (b ≡ true → (xs : List M) × ((own_view s l).incoming.messages ≡ x ∷ xs)) →
        Handed s w c l (if b then HeardOnLink else Elsewhere) (if b then Some x else None)
    handed_word false x h front = passes
    handed_word true x h front =
        let ms = front refl in
        hears x ms.0 ms.1
        (made_is (hold_of (m.node_of (peer_on s w)) (conn c)) (step_at (opens s l.opener) HeardOnLink
        (standing_at m s w c l) ((side_sound m s w good.sound).each c l at) h).ready)

    handed_by : (e : Event M) → (IsStart e → ⊥) →
        is_handed (opens s l.opener) (concern_by e (conn c)) (standing_at m s w c l) ≡ true → Front w s e →
        Handed s w c l (concern_by e (conn c)) (heard_on c e)
    handed_by (StartEvent d) no_start h front = absurd (no_start (started d))
      where
        started : (d : Conn) → IsStart {M = M} (StartEvent d)
        started d = at_start d
    handed_by (StopEvent cause) no_start h front = passes
    handed_by TimeoutEvent no_start h front = passes
    handed_by TickEvent no_start h front = passes
    handed_by (SubmitEvent x) no_start h front = passes
    handed_by (AckEvent d) no_start h front = handed_ack (d.0 == c) h
    handed_by (NackEvent d) no_start h front = handed_nack (d.0 == c)
    handed_by (GoneEvent d) no_start h front = handed_end (d.0 == c)
    handed_by (ArrivedEvent d x) no_start h front =
        handed_word (d.0 == c) x h (λ named.
        let there : slice_get w.links c ≡ Some front.0 =
        subst (λ n. slice_get w.links n ≡ Some front.0) (eqb-true d.0 c named) front.1.1.0 in
        let same : front.0 ≡ l = cc (at, there) in
        (front.1.0, subst (λ z. (own_view s z).incoming.messages ≡ x ∷ front.1.0) same front.1.1.1))

  module _ (match : AnswersMatch m r stands) where
    -- a step of a side
    pub turn_of_step : (s : Side) (w : World P M) (p : P) (e : Event M) (actions : List (Action M)) (c : ℕ) →
        IsCarrying m stands w → m.reply (peer_on s w) e ≡ ActsBy actions p → is_closed_at c actions ≡ false →
        MatchesOn r (peer_on s w) p (hold_of (m.node_of (peer_on s w)) (conn c)) (hold_of (m.node_of p) (conn c))
        (concern_by e (conn c)) (heard_on c e) (words_at c actions)
    turn_of_step s w p e actions c good replies open_still =
        subst (λ ws. MatchesOn r (peer_on s w) p (hold_of (m.node_of (peer_on s w)) (conn c))
        (hold_of (m.node_of p) (conn c)) (concern_by e (conn c)) (heard_on c e) ws)
        (sym (words_sent c actions open_still))
        (match.matches (peer_on s w) p e actions c (carrier m stands s w good) replies open_still)

    stepped_asks : (s : Side) (w : World P M) (p : P) (e : Event M) (actions : List (Action M)) (c : ℕ) (l : Link M) →
        (IsStart e → ⊥) → IsCarrying m stands w → slice_get w.links c ≡ Some l →
        is_handed (opens s l.opener) (concern_by e (conn c)) (standing_at m s w c l) ≡ true → Front w s e →
        m.reply (peer_on s w) e ≡ ActsBy actions p → AskAt (peer_on s w) (peer_on (flip s) w) c (own_view s l) →
        AskAt p (peer_on (flip s) w) c
        (own_view s (by_side s (stepped (concern_by e (conn c)) (is_tie_held (tie_of (m.node_of p) c)) c actions) l))
    stepped_asks s w p e actions c l no_start good at handed front replies both =
        let k = concern_by e (conn c) in
        let holds = is_tie_held (tie_of (m.node_of p) c) in
        let v = own_view s l in
        subst (λ u. AskAt p (peer_on (flip s) w) c u)
        (sym (view_own s (stepped k holds c actions) l
        ∙ ap (λ (u : View M). settled_view k holds u) (acted_entered c actions k v)))
        (step_asks r (peer_on s w) p (peer_on (flip s) w) (hold_of (m.node_of (peer_on s w)) (conn c))
        (hold_of (m.node_of p) (conn c)) (hold_of (m.node_of (peer_on (flip s) w)) (conn c)) k (heard_on c e)
        (is_closed_at c actions) holds (words_at c actions) v
        (handed_by s w good c l at e no_start handed front)
        (λ open_still. turn_of_step s w p e actions c good replies open_still) both)

    answered_asks : (s : Side) (w : World P M) (e : Event M) (o : Reply P M) → (IsStart e → ⊥) →
        IsCarrying m stands w →
        Hands s (m.node_of (peer_on s w)) (m.node_of (peer_on (flip s) w)) e w.links → Front w s e →
        m.reply (peer_on s w) e ≡ o → AllAsk w → AllAsk (world_after w (after_reply m s e w o))
    answered_asks s w e Declines no_start good hands front replies all = all
    answered_asks s w e (ActsBy actions p) no_start good hands front replies all =
        from_side s p (settle s e (m.node_of p) (perform s actions (enter s e w.links))) w (λ c l at.
        let f = by_side s (stepped (concern_by e (conn c)) (is_tie_held (tie_of (m.node_of p) c)) c actions) in
        let old = mapped_some f (slice_get w.links c) l
        (sym (stepped_at s e actions (m.node_of p) c w.links no_start) ∙ at) in
        subst (λ z. AskAt p (peer_on (flip s) w) c (own_view s z)) (sym old.2)
        (stepped_asks s w p e actions c old.0 no_start good old.1 (hands.handed c old.0 old.1) front replies
        (all s c old.0 old.1)))

    pub told_asks : (s : Side) (w : World P M) (e : Event M) → (IsStart e → ⊥) → IsCarrying m stands w →
        Hands s (m.node_of (peer_on s w)) (m.node_of (peer_on (flip s) w)) e w.links → Front w s e →
        AllAsk w → AllAsk (world_after w (tell m s e w))
    told_asks s w e no_start good hands front all =
        answered_asks s w e (m.reply (peer_on s w) e) no_start good hands front refl all
