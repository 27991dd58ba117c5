-- Fewer octets are delivered of a front message than it has.
use Rattle.std.proofs.Common.{◌≡◌, ℕ, ◌+◌, ◌==◌, Bool, true, false, nat_lt, if◌then◌else◌, Option}
use Rattle.std.proofs.Common.{Some, None, IfSome, List, [], ◌∷◌, ◌++◌, length, slice_get, refl, sym, subst, ◌∙◌, inl}
use Rattle.std.proofs.Common.{inr}
use Rattle.std.proofs.lemmas.Bool.{eqb-true, cases_Bool}
use Rattle.std.proofs.lemmas.Option.{slice_get-map}
use Rattle.dm_two_peers.specs.Machine.{conn, Node, tie_of}
use Rattle.dm_two_peers.specs.Machine.{is_tie_held}
use Rattle.dm_two_peers.specs.Links.{Side, opens, LinkPhase, LinkPending, LinkUp, LinkCancelled, End, Fresh, Open, Shut, Mark}
use Rattle.dm_two_peers.specs.Links.{NoMark, Coming, Delivered, Link, view_of, by_side, new_link}
use Rattle.dm_two_peers.specs.Peers.{Event, StartEvent, StopEvent, TimeoutEvent, TickEvent, AckEvent, NackEvent, GoneEvent, SubmitEvent, ArrivedEvent, Action}
use Rattle.dm_two_peers.specs.Peers.{Reply, ActsBy, Declines, Peers, concern_by}
use Rattle.dm_two_peers.specs.Steps.{entered}
use Rattle.dm_two_peers.specs.Worlds.{World, peer_on, with_peer, with_links, change_at, enter, perform, settle, After, DoneWith}
use Rattle.dm_two_peers.specs.Worlds.{Ignored, NoLink, after_reply, tell, after_drop}
use Rattle.dm_two_peers.specs.Happens.{Happening, Starts, Stops, TimesOut, Ticks, Restarts, Acks, Nacks, Delivers, Pieces}
use Rattle.dm_two_peers.specs.Happens.{Loses, Submits, Next, NextMessage, NextDisconnect, NextNothing, next_in, comes}
use Rattle.dm_two_peers.specs.Happens.{deliver_next, take_part, deliver_part}
use Rattle.dm_two_peers.specs.Happens.{lost_link, are_shut, restarted, restart_links, if_up, if_pending, at_link}
use Rattle.dm_two_peers.specs.Happens.{own_view, happens, world_after, RunEnd, ran_on, run_from}
use Rattle.dm_two_peers.specs.Streams.{is_cut_link, AreCut, sends_sized, IsMeasured}
use Rattle.dm_two_peers.proofs.Columns.{acted}
use Rattle.dm_two_peers.proofs.Columns.{stepped}
use Rattle.dm_two_peers.proofs.Stepped.{IsStart, performed_at, entered_at, stepped_at}
use Rattle.dm_two_peers.proofs.Lists.{mapped_some, change_at-tested}
use Rattle.dm_two_peers.proofs.StartKeeps.{appended_at}
use Rattle.dm_two_peers.proofs.Pairs.{links_after}
use Rattle.dm_two_peers.proofs.CutViews.{view_cut, link_cut, side_cut, entered_cut, acted_cut, stepped_cut, taking_cut}
use Rattle.dm_two_peers.proofs.CutViews.{lost_cut, restarted_cut}

-- all links
abbrev CutLinks : {M : Type 0} → (M → ℕ) → List (Link M) → Type 0
CutLinks {M} size links = (c : ℕ) (l : Link M) → slice_get links c ≡ Some l → is_cut_link size l ≡ true

changed_cut : {M : Type 0} (size : M → ℕ) (links : List (Link M)) (c : ℕ) (f : Link M → Link M) →
    CutLinks size links →
    ((l : Link M) → slice_get links c ≡ Some l → is_cut_link size l ≡ true → is_cut_link size (f l) ≡ true) →
    CutLinks size (change_at c f links)
changed_cut size links c f good keeps d l at =
    elim (cases_Bool (c == d)) [
      | inl e ↦
          let old = mapped_some f (slice_get links d) l (sym (change_at-tested c d true f links e) ∙ at) in
          subst (λ k. is_cut_link size k ≡ true) (sym old.2)
          (keeps old.0 (subst (λ n. slice_get links n ≡ Some old.0) (sym (eqb-true c d e)) old.1)
          (good d old.0 old.1))
      | inr e ↦
          let old = mapped_some (λ k. k) (slice_get links d) l (sym (change_at-tested c d false f links e) ∙ at) in
          subst (λ k. is_cut_link size k ≡ true) (sym old.2) (good d old.0 old.1)
    ]

performed_cut : {M : Type 0} (size : M → ℕ) (s : Side) (actions : List (Action M)) (links : List (Link M)) →
    sends_sized size actions ≡ true → CutLinks size links → CutLinks size (perform s actions links)
performed_cut size s actions links g good d l at =
    let f = by_side s (acted d actions) in
    let old = mapped_some f (slice_get links d) l (sym (performed_at s actions d links) ∙ at) in
    subst (λ k. is_cut_link size k ≡ true) (sym old.2)
    (side_cut size s (acted d actions) old.0 (λ v h. acted_cut size d actions v g h) (good d old.0 old.1))

new_cut : {M : Type 0} (size : M → ℕ) (s : Side) (links : List (Link M)) → CutLinks size links →
    CutLinks size (links ++ new_link s ∷ [])
new_cut size s links good d l at =
    elim (appended_at links (new_link s) d l at)
    [ inl there ↦ good d l there | inr q ↦ subst (λ k. is_cut_link size k ≡ true) (sym q.1) refl ]

links_cut : {P M : Type 0} (m : Peers P M) (s : Side) (p : P) (links : List (Link M)) (w : World P M) →
    CutLinks m.size links → AreCut m (with_peer s p links w)
links_cut {P} {M} m s p links w good = subst (λ (ls : List (Link M)). CutLinks m.size ls)
    (links_after s p links w) good

stepped_links : {P M : Type 0} (m : Peers P M) (s : Side) (e : Event M) (actions : List (Action M)) (n : Node)
    (links : List (Link M)) → (IsStart e → ⊥) → sends_sized m.size actions ≡ true → CutLinks m.size links →
    CutLinks m.size (settle s e n (perform s actions (enter s e links)))
stepped_links m s e actions n links no_start g good d l at =
    let f = stepped (concern_by e (conn d)) (is_tie_held (tie_of n d)) d actions in
    let old = mapped_some (by_side s f) (slice_get links d) l
    (sym (stepped_at s e actions n d links no_start) ∙ at) in
    subst (λ k. is_cut_link m.size k ≡ true) (sym old.2)
    (side_cut m.size s f old.0
    (λ v h. stepped_cut m.size (concern_by e (conn d)) (is_tie_held (tie_of n d)) d actions v g h)
    (good d old.0 old.1))

module _ {P M : Type 0} (m : Peers P M) (sized : IsMeasured m) where
  abbrev pub KeepsCut : World P M → After P M → Type 0
  KeepsCut w after = AreCut m w → AreCut m (world_after w after)

  answered_cut : (s : Side) (e : Event M) (w : World P M) (r : Reply P M) → m.reply (peer_on s w) e ≡ r →
      (IsStart e → ⊥) → KeepsCut w (after_reply m s e w r)
  answered_cut s e w Declines eq no_start good = good
  answered_cut s e w (ActsBy actions p) eq no_start good =
      links_cut m s p (settle s e (m.node_of p) (perform s actions (enter s e w.links))) w
      (stepped_links m s e actions (m.node_of p) w.links no_start (sized (peer_on s w) p e actions eq) good)

  told_cut : (s : Side) (e : Event M) (w : World P M) → (IsStart e → ⊥) → KeepsCut w (tell m s e w)
  told_cut s e w no_start good = answered_cut s e w (m.reply (peer_on s w) e) refl no_start good

  started_cut : (s : Side) (w : World P M) (r : Reply P M) →
      m.reply (peer_on s w) (StartEvent (conn (length w.links))) ≡ r →
      KeepsCut w (after_reply m s (StartEvent (conn (length w.links))) w r)
  started_cut s w Declines eq good = good
  started_cut s w (ActsBy actions p) eq good =
      links_cut m s p (perform s actions (w.links ++ new_link s ∷ [])) w
      (performed_cut m.size s actions (w.links ++ new_link s ∷ [])
      (sized (peer_on s w) p (StartEvent (conn (length w.links))) actions eq) (new_cut m.size s w.links good))

  dropped_cut : (s : Side) (e : Event M) (w : World P M) → (IsStart e → ⊥) → KeepsCut w (after_drop s e w)
  dropped_cut s e w no_start good d l at =
      let k = concern_by e (conn d) in
      let old = mapped_some (by_side s (entered k)) (slice_get w.links d) l
      (sym (entered_at s e d w.links no_start) ∙ at) in
      subst (λ z. is_cut_link m.size z ≡ true) (sym old.2)
      (side_cut m.size s (entered k) old.0 (λ v h. entered_cut m.size k v h) (good d old.0 old.1))

  comes_cut : (s : Side) (e : Event M) (end : End) (w : World P M) → (IsStart e → ⊥) →
      KeepsCut w (comes m s e end w)
  comes_cut s e Shut w no_start good = dropped_cut s e w no_start good
  comes_cut s e Open w no_start good = told_cut s e w no_start good
  comes_cut s e Fresh w no_start good = told_cut s e w no_start good

  delivered_cut : (c : ℕ) (s : Side) (end : End) (nx : Next M) (w : World P M) →
      KeepsCut w (deliver_next m c s end nx w)
  delivered_cut c s end NextNothing w good = good
  delivered_cut c s end (NextMessage x) w good = comes_cut s (ArrivedEvent (conn c) x) end w (λ q. elim q [ ]) good
  delivered_cut c s end NextDisconnect w good = comes_cut s (GoneEvent (conn c)) end w (λ q. elim q [ ]) good

  front_of : (ms : List M) (mark : Mark) (x : M) → next_in ms mark ≡ NextMessage x → (xs : List M) × (ms ≡ x ∷ xs)
  front_of (y ∷ ys) mark x h = (ys, cc)
  front_of [] NoMark x h = cc
  front_of [] Coming x h = cc
  front_of [] Delivered x h = cc

  taken_cut : (w : World P M) (c : ℕ) (s : Side) (k : ℕ) (l : Link M) (x : M) (xs : List M) →
      slice_get w.links c ≡ Some l → (own_view s l).incoming.messages ≡ x ∷ xs →
      nat_lt ((own_view s l).incoming.taken + k) (m.size x) ≡ true →
      AreCut m w → AreCut m (with_links (change_at c (by_side s (take_part k)) w.links) w)
  taken_cut w c s k l x xs at front low good =
      changed_cut m.size w.links c (by_side s (take_part k)) good (λ q there h.
      let same : l ≡ q = cc (at, there) in
      let mine = opens s l.opener in
      subst (λ z. is_cut_link m.size (by_side s (take_part k) z) ≡ true) same
      (link_cut m.size mine l.opener (take_part k (view_of mine l))
      (taking_cut m.size k (view_of mine l) x xs front low (view_cut m.size mine l (good c l at)))))

  piece_size_cut : (b : Bool) (w w1 : World P M) (after : After P M) → (b ≡ true → AreCut m w1) →
      AreCut m (world_after w after) → AreCut m (world_after w (if b then DoneWith w1 [] else after))
  piece_size_cut true w w1 after f g = f refl
  piece_size_cut false w w1 after f g = g

  pieced_cut : (c : ℕ) (s : Side) (k : ℕ) (l : Link M) (nx : Next M) (w : World P M) →
      slice_get w.links c ≡ Some l → next_in (own_view s l).incoming.messages (own_view s l).incoming.mark ≡ nx →
      KeepsCut w (deliver_part m c s k (own_view s l).own (own_view s l).incoming.taken nx w)
  pieced_cut c s k l NextNothing w at nx good = good
  pieced_cut c s k l NextDisconnect w at nx good = good
  pieced_cut c s k l (NextMessage x) w at nx good =
      let v = own_view s l in
      let front = front_of v.incoming.messages v.incoming.mark x nx in
      piece_size_cut (nat_lt (v.incoming.taken + k) (m.size x)) w
      (with_links (change_at c (by_side s (take_part k)) w.links) w) (comes m s (ArrivedEvent (conn c) x) v.own w)
      (λ low. taken_cut w c s k l x front.0 at front.1 low good)
      (comes_cut s (ArrivedEvent (conn c) x) v.own w (λ q. elim q [ ]) good)

  if_cut : (w : World P M) (b : Bool) (x y : After P M) → AreCut m (world_after w x) → AreCut m (world_after w y) →
      AreCut m (world_after w (if b then x else y))
  if_cut w true x y g h = g
  if_cut w false x y g h = h

  up_cut : (w : World P M) (p : LinkPhase) (after : After P M) → KeepsCut w after →
      KeepsCut w (if_up p after Ignored)
  up_cut w LinkUp after f good = f good
  up_cut w LinkPending after f good = good
  up_cut w LinkCancelled after f good = good

  pending_cut : (w : World P M) (p : LinkPhase) (after : After P M) → KeepsCut w after →
      KeepsCut w (if_pending p after Ignored)
  pending_cut w LinkPending after f good = f good
  pending_cut w LinkUp after f good = good
  pending_cut w LinkCancelled after f good = good

  there_cut : (w : World P M) (c : ℕ) (o : Option (Link M)) (f : Link M → After P M) → slice_get w.links c ≡ o →
      ((l : Link M) → slice_get w.links c ≡ Some l → KeepsCut w (f l)) → KeepsCut w (at_link o f)
  there_cut w c None f e keeps good = good
  there_cut w c (Some l) f e keeps good = keeps l e good

  restart_cut : (s : Side) (w : World P M) → AreCut m w →
      AreCut m (with_peer s (m.reset (peer_on s w)) (restart_links s w.links) w)
  restart_cut s w good =
      links_cut m s (m.reset (peer_on s w)) (restart_links s w.links) w (λ c l at.
      let f : Link M → Link M = λ z. by_side s (restarted (opens s z.opener)) z in
      let old = mapped_some f (slice_get w.links c) l (sym (slice_get-map f w.links c) ∙ at) in
      let mine = opens s old.0.opener in
      subst (λ z. is_cut_link m.size z ≡ true) (sym old.2)
      (side_cut m.size s (restarted mine) old.0 (λ v h. restarted_cut m.size mine v h) (good c old.0 old.1)))

  lost_links_cut : (w : World P M) (c a b : ℕ) → AreCut m w →
      AreCut m (with_links (change_at c (lost_link m.size a b) w.links) w)
  lost_links_cut w c a b good = changed_cut m.size w.links c (lost_link m.size a b) good
      (λ l at h. lost_cut m.size a b l h)

  pub happening_cut : (w : World P M) (h : Happening M) → KeepsCut w (happens m w h)
  happening_cut w (Starts s) good = started_cut s w
      (m.reply (peer_on s w) (StartEvent (conn (length w.links)))) refl good
  happening_cut w (Stops s cause) good = told_cut s (StopEvent cause) w (λ q. elim q [ ]) good
  happening_cut w (TimesOut s) good = told_cut s TimeoutEvent w (λ q. elim q [ ]) good
  happening_cut w (Ticks s) good = told_cut s TickEvent w (λ q. elim q [ ]) good
  happening_cut w (Submits s x) good = told_cut s (SubmitEvent x) w (λ q. elim q [ ]) good
  happening_cut w (Restarts s) good = restart_cut s w good
  happening_cut w (Acks c) good =
      there_cut w c (slice_get w.links c) _ refl
      (λ l at. pending_cut w l.phase (tell m l.opener (AckEvent (conn c)) w)
      (told_cut l.opener (AckEvent (conn c)) w (λ q. elim q [ ]))) good
  happening_cut w (Nacks c) good =
      there_cut w c (slice_get w.links c) _ refl
      (λ l at. pending_cut w l.phase (tell m l.opener (NackEvent (conn c)) w)
      (told_cut l.opener (NackEvent (conn c)) w (λ q. elim q [ ]))) good
  happening_cut w (Delivers c s) good =
      there_cut w c (slice_get w.links c) _ refl
      (λ l at. up_cut w l.phase
      (deliver_next m c s (own_view s l).own
      (next_in (own_view s l).incoming.messages (own_view s l).incoming.mark) w)
      (delivered_cut c s (own_view s l).own
      (next_in (own_view s l).incoming.messages (own_view s l).incoming.mark) w)) good
  happening_cut w (Pieces c s k) good =
      there_cut w c (slice_get w.links c) _ refl (λ l at.
      let nx = next_in (own_view s l).incoming.messages (own_view s l).incoming.mark in
      let one = deliver_part m c s k (own_view s l).own (own_view s l).incoming.taken nx w in
      up_cut w l.phase (if k == 0 then Ignored else one)
      (λ g. if_cut w (k == 0) Ignored one g (pieced_cut c s k l nx w at refl g))) good
  happening_cut w (Loses c a b) good =
      there_cut w c (slice_get w.links c) _ refl
      (λ l at. up_cut w l.phase _ (λ g. if_cut w (are_shut l.opener_end l.other_end) Ignored _ g
      (lost_links_cut w c a b g)))
      good

  ran_cut : (r : RunEnd P M) (after : After P M) → AreCut m (world_after r.world after) →
      IfSome (ran_on r after) (λ z. AreCut m z.world)
  ran_cut r (DoneWith w put) good = good
  ran_cut r Ignored good = good
  ran_cut r NoLink good = tt

  pub run_cut : (o : Option (RunEnd P M)) (hs : List (Happening M)) → IfSome o (λ z. AreCut m z.world) →
      IfSome (run_from m o hs) (λ z. AreCut m z.world)
  run_cut None hs good = tt
  run_cut (Some r) [] good = good
  run_cut (Some r) (h ∷ hs) good = run_cut (ran_on r (happens m r.world h)) hs
      (ran_cut r (happens m r.world h) (happening_cut r.world h good))
