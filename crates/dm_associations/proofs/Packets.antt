-- Packets that change nothing.
use Rattle.std.proofs.Common.{◌≡◌, ◌≢◌, inl, inr, ℕ, Bool, true, false, Some, refl, sym, ◌∙◌, ap}
use Rattle.std.proofs.lemmas.Bool.{ne_eqb}
use Rattle.dm_associations.specs.declared.front_chunk.Front.{Front}
use Rattle.dm_associations.specs.declared.front_chunk.Front.TheVariants.{Begins, Answers, Ends, Carries}
use Rattle.dm_associations.specs.Associations.{BothWays, HearsFront, is_own_packet, TakesCarried}
use Rattle.dm_associations.specs.Fronts.{HasFront}
use Rattle.dm_associations.specs.Laws.{ForeignPacketsChangeNothing, EndedUntilInit}

-- the sender's direction is as it was, and so all is
same_ways : (old new : BothWays) → new.own ≡ old.own → new ≡ record old { own = new.own } → new ≡ old
same_ways old new own others = others ∙ ap (λ w. record old { own = w }) own

-- another tag than the one that is known isn't its own
not_known : (tag known : ℕ) (ended : Bool) → tag ≢ known → is_own_packet tag (Some known) ended ≡ false
not_known tag known true other = refl
not_known tag known false other = ne_eqb known tag (λ same. other (sym same))

pub foreign_packets : ForeignPacketsChangeNothing
foreign_packets old new packet known h tag other front = by h.0 h.1 h.2
  where
    by : (found : Front) → HasFront packet.chunks found → HearsFront found old packet new → new ≡ old
    by (Begins init) is goes = absurd (front.0 init is.0)
    by (Answers init) is goes = absurd (front.0 init is.0)
    by (Ends reflected) is goes = absurd (front.1 is.0)
    by Carries is goes = carried goes.0
      where
        carried : TakesCarried old.own old.ended packet new.own → new ≡ old
        carried (inl takes) =
            let own = rw tag at takes.own in
            let no = not_known packet.verification_tag known old.ended other in
            cc
        carried (inr same) = same_ways old new same.1 goes.1

pub ended_packets : EndedUntilInit
ended_packets old new packet h ended acks = by h.0 h.1 h.2
  where
    still : new ≡ record old { ended = true } → new ≡ old
    still same = same ∙ ap (λ b. record old { ended = b }) (sym ended)

    by : (found : Front) → HasFront packet.chunks found → HearsFront found old packet new → new ≡ old
    by (Begins init) is goes = let ack = acks init is.0 in let no = is.1 in cc
    by (Answers init) is goes = still (rw ended at goes)
    by (Ends reflected) is goes = still (rw ended at goes)
    by Carries is goes = carried goes.0
      where
        carried : TakesCarried old.own old.ended packet new.own → new ≡ old
        carried (inl takes) = let own = rw ended at takes.own in cc
        carried (inr same) = same_ways old new same.1 goes.1
