-- Every run hands up in order what was submitted.
use Rattle.std.proofs.Common.{◌≡◌, ℕ, ◌==◌, Bool, true, false, ◌||◌, Option, Some, None, IfSome, IsTrue, List, [], ◌∷◌}
use Rattle.std.proofs.Common.{◌++◌, slice_get, refl, sym, ap, subst, ◌∙◌, append-nil, append_assoc}
use Rattle.std.proofs.lemmas.Option.{IfSome_then}
use Rattle.dm_machine.specs.Connection.{hold_of}
use Rattle.dm_two_peers.specs.Machine.{conn}
use Rattle.dm_two_peers.specs.Links.{Side, A, B, Link}
use Rattle.dm_two_peers.specs.Peers.{Peers}
use Rattle.dm_two_peers.specs.Worlds.{World, peer_on, After, DoneWith, Ignored, NoLink}
use Rattle.dm_two_peers.specs.Happens.{Happening, Starts, Stops, TimesOut, Ticks, Restarts, Acks, Nacks, Delivers, Pieces}
use Rattle.dm_two_peers.specs.Happens.{Loses, Submits, own_view, happens, world_after, RunEnd, ran_on, run_from, run}
use Rattle.dm_two_peers.specs.Follows.{IsMachine}
use Rattle.dm_two_peers.specs.Facts.{IsSoundWorld}
use Rattle.dm_two_peers.specs.Laws.{world_of}
use Rattle.dm_two_peers.specs.Turns.{WorldTurn, turns, all_turns}
use Rattle.dm_two_peers.specs.Delivery.{submitted_by, submitted_on, handed_up_by, handed_up_on, apps, CarriesMessages}
use Rattle.dm_two_peers.specs.Delivery.{has_loss_of, DeliversInOrder}
use Rattle.dm_two_peers.proofs.Ties.{MachineLaws}
use Rattle.dm_two_peers.proofs.Happenings.{happens_sound}
use Rattle.dm_two_peers.proofs.Closing.{CarriesOn, carries_on_proof}
use Rattle.dm_two_peers.proofs.WaysHeard.{hears_now}
use Rattle.dm_two_peers.proofs.Carried.{WayOnLink, over_of, Carried, names_loss, IsCarrying, carrier}
use Rattle.dm_two_peers.proofs.CarriedViews.{tie_open}
use Rattle.dm_two_peers.proofs.CarriedHappenings.{happening_keeps}
use Rattle.dm_two_peers.proofs.BothPeers.{happening_both}

submitted_append : {M : Type 0} (t : Side) (c : ℕ) (us vs : List (WorldTurn M)) →
    submitted_on t c (us ++ vs) ≡ submitted_on t c us ++ submitted_on t c vs
submitted_append t c [] vs = refl
submitted_append t c (u ∷ us) vs = ap (λ xs. submitted_by t c u ++ xs) (submitted_append t c us vs)
    ∙ sym (append_assoc (submitted_by t c u) (submitted_on t c us) (submitted_on t c vs))

raised_append : {M : Type 0} (t : Side) (c : ℕ) (us vs : List (WorldTurn M)) →
    handed_up_on t c (us ++ vs) ≡ handed_up_on t c us ++ handed_up_on t c vs
raised_append t c [] vs = refl
raised_append t c (u ∷ us) vs = ap (λ xs. handed_up_by t c u ++ xs) (raised_append t c us vs)
    ∙ sym (append_assoc (handed_up_by t c u) (handed_up_on t c us) (handed_up_on t c vs))

or_left : (a b : Bool) → a ≡ true → (a || b) ≡ true
or_left true b h = refl
or_left false b h = cc

or_right : (a b : Bool) → b ≡ true → (a || b) ≡ true
or_right true b h = refl
or_right false b h = h

first_loss : {M : Type 0} (c : ℕ) (h : Happening M) (hs : List (Happening M)) → names_loss c h ≡ true →
    has_loss_of c (h ∷ hs) ≡ true
first_loss c (Loses d a b) hs e = or_left (d == c) (has_loss_of c hs) e
first_loss c _ hs e = cc

later_loss : {M : Type 0} (c : ℕ) (h : Happening M) (hs : List (Happening M)) → has_loss_of c hs ≡ true →
    has_loss_of c (h ∷ hs) ≡ true
later_loss c (Loses d a b) hs e = or_right (d == c) (has_loss_of c hs) e
later_loss c (Starts s) hs e = e
later_loss c (Stops s cause) hs e = e
later_loss c (TimesOut s) hs e = e
later_loss c (Ticks s) hs e = e
later_loss c (Restarts s) hs e = e
later_loss c (Acks d) hs e = e
later_loss c (Nacks d) hs e = e
later_loss c (Delivers d s) hs e = e
later_loss c (Pieces d s k) hs e = e
later_loss c (Submits s x) hs e = e

module _ {P M : Type 0} (m : Peers P M) (laws : MachineLaws) (is : IsMachine m) (is_app : M → Bool)
    (stands : P → Bool) (carries : CarriesOn m is_app stands) (lost : Bool) (t : Side) (c : ℕ) where
  record Runs (w : World P M) (said up : List M) : Type 0 where
    pub carrying : IsCarrying m stands w
    pub carried : Carried m is_app lost w t c said up

  pub happening_carries : (w : World P M) (h : Happening M) → IsCarrying m stands w →
      IsCarrying m stands (world_after w (happens m w h))
  happening_carries w h good =
      record {
        sound = happens_sound m laws is w h good.sound;
        fits = happening_both m (λ p. IsTrue (stands p)) w good.fits
            (λ s e actions next replies. carries.does.keeps (peer_on s w) next e actions
            (carrier m stands s w good) replies)
            (λ s. carries.does.resets (peer_on s w) (carrier m stands s w good)) h;
      }

  abbrev RunsFrom : List (Happening M) → Type 0
  RunsFrom hs =
      (r : RunEnd P M) (said up : List M) → (has_loss_of c hs ≡ true → lost ≡ true) → Runs r.world said up →
      IfSome (run_from m (Some r) hs) (λ z. Runs z.world (said ++ submitted_on t c (all_turns m r.world hs))
      (up ++ handed_up_on t c (all_turns m r.world hs)))

  went_on : (hs : List (Happening M)) → RunsFrom hs → (r : RunEnd P M) (after : After P M) (us : List (WorldTurn M))
      (said up : List M) → (has_loss_of c hs ≡ true → lost ≡ true) →
      Runs (world_after r.world after) (said ++ submitted_on t c us) (up ++ handed_up_on t c us) →
      IfSome (run_from m (ran_on r after) hs) (λ z. Runs z.world
      (said ++ submitted_on t c (us ++ all_turns m (world_after r.world after) hs))
      (up ++ handed_up_on t c (us ++ all_turns m (world_after r.world after) hs)))
  went_on hs ih r after us said up loss now = by_after after now
    where
      both_are : (vs : List (WorldTurn M)) (o : Option (RunEnd P M)) →
          IfSome o (λ z. Runs z.world ((said ++ submitted_on t c us) ++ submitted_on t c vs)
          ((up ++ handed_up_on t c us) ++ handed_up_on t c vs)) →
          IfSome o (λ z. Runs z.world (said ++ submitted_on t c (us ++ vs)) (up ++ handed_up_on t c (us ++ vs)))
      both_are vs o h =
          subst (λ (xs : List M). IfSome o (λ z. Runs z.world xs (up ++ handed_up_on t c (us ++ vs))))
          (append_assoc said (submitted_on t c us) (submitted_on t c vs)
          ∙ ap (λ xs. said ++ xs) (sym (submitted_append t c us vs)))
          (subst (λ (ys : List M). IfSome o (λ z. Runs z.world
          ((said ++ submitted_on t c us) ++ submitted_on t c vs) ys))
          (append_assoc up (handed_up_on t c us) (handed_up_on t c vs)
          ∙ ap (λ ys. up ++ ys) (sym (raised_append t c us vs))) h)

      by_after : (after : After P M) →
          Runs (world_after r.world after) (said ++ submitted_on t c us) (up ++ handed_up_on t c us) →
          IfSome (run_from m (ran_on r after) hs) (λ z. Runs z.world
          (said ++ submitted_on t c (us ++ all_turns m (world_after r.world after) hs))
          (up ++ handed_up_on t c (us ++ all_turns m (world_after r.world after) hs)))
      by_after (DoneWith w put) now =
          both_are (all_turns m w hs) _
          (ih (record { world = w; put = r.put ++ put }) (said ++ submitted_on t c us) (up
          ++ handed_up_on t c us) loss now)
      by_after Ignored now =
          both_are (all_turns m r.world hs) _ (ih r (said ++ submitted_on t c us) (up ++ handed_up_on t c us) loss now)
      by_after NoLink now = tt

  runs : (hs : List (Happening M)) → RunsFrom hs
  runs [] r said up loss now =
      record {
        carrying = now.carrying;
        carried = subst (λ (xs : List M). Carried m is_app lost r.world t c xs (up ++ [])) (sym (append-nil said))
            (subst (λ (ys : List M). Carried m is_app lost r.world t c said ys) (sym (append-nil up)) now.carried);
      }
  runs (h ∷ hs) r said up loss now =
      went_on hs (runs hs) r (happens m r.world h) (turns m r.world h) said up
      (λ e. loss (later_loss c h hs e))
      (record {
        carrying = happening_carries r.world h now.carrying;
        carried = happening_keeps m is_app stands carries lost is t c r.world h now.carrying
            (λ e. loss (first_loss c h hs e)) said up now.carried;
      })

  delivered_at : (w : World P M) (said up : List M) → Runs w said up → DeliversInOrder m is_app w t c lost said up
  delivered_at w said up now = by_link (slice_get w.links c) refl now.carried
    where
      by_link : (o : Option (Link M)) → slice_get w.links c ≡ o →
          WayOnLink is_app lost (over_of (m.node_of (peer_on t w)) c) t o said up →
          DeliversInOrder m is_app w t c lost said up
      by_link None at h =
          record {
            rest = [];
            front = h.0 ∙ sym (ap (λ ys. ys ++ []) h.1);
            whole = λ l there opened sure. cc (at, there);
          }
      by_link (Some l) at h =
          record {
            rest = h.rest;
            front = h.whole;
            whole = λ z there opened sure.
                let same : l ≡ z = cc (at, there) in
                let ready = tie_open m is_app stands carries lost t w c l now.carrying at opened in
                let hears = hears_now is_app lost l.phase (own_view t l).own
                (hold_of (m.node_of (peer_on t w)) (conn c)) ready.0 ready.1 opened in
                let u = h.under hears in
                subst (λ k. said ≡ up ++ apps is_app (own_view t k).incoming.messages) same
                (h.whole ∙ ap (λ xs. up ++ xs)
                (u.is ∙ (ap (λ xs. apps is_app (own_view t l).incoming.messages ++ xs) (u.sure sure)
                ∙ append-nil (apps is_app (own_view t l).incoming.messages))));
          }

  pub run_delivered : (w : World P M) (hs : List (Happening M)) → IsCarrying m stands w →
      Carried m is_app lost w t c [] [] → (has_loss_of c hs ≡ true → lost ≡ true) →
      IfSome (run m w hs) (λ r. DeliversInOrder m is_app r.world t c lost (submitted_on t c (all_turns m w hs))
      (handed_up_on t c (all_turns m w hs)))
  run_delivered w hs carrying carried loss =
      IfSome_then (run m w hs)
      (runs hs (record { world = w; put = [] }) [] [] loss (record { carrying = carrying; carried = carried }))
      (λ r now. delivered_at r.world _ _ now)

pub run_delivers : {P M : Type 0} (m : Peers P M) → MachineLaws → IsMachine m →
    (is_app : M → Bool) (stands : P → Bool) →
    CarriesMessages m is_app stands → (a b : P) → IsSoundWorld m (world_of a b) → IsTrue (stands a) →
    IsTrue (stands b) →
    (hs : List (Happening M)) (t : Side) (c : ℕ) →
    IfSome (run m (world_of a b) hs) (λ r. DeliversInOrder m is_app r.world t c (has_loss_of c hs)
    (submitted_on t c (all_turns m (world_of a b) hs)) (handed_up_on t c (all_turns m (world_of a b) hs)))
run_delivers {P} {M} m laws is is_app stands carries a b sound left right hs t c =
    run_delivered m laws is is_app stands (carries_on_proof m is_app stands laws is carries) (has_loss_of c hs) t c
    (world_of a b)
    hs
    (record { sound = sound; fits = both }) (refl, refl) (λ e. e)
  where
    both : (s : Side) → IsTrue (stands (peer_on s (world_of {M = M} a b)))
    both A = left
    both B = right
