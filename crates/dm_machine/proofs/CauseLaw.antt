-- What brings a connection to what it is, and what an answer answers: computed at every listed change.
use Rattle.std.proofs.Common.{◌≡◌, ◌⊎◌, inl, inr, Bool, true, false, ◌&&◌, ◌||◌, List, refl}
use Rattle.std.proofs.lemmas.Bool.{and_parts, or_cases}
use Rattle.std.specs.List.{list_all}
use Rattle.dm_machine.specs.declared.inputs.Word.TheVariants.{Cer, Cea}
use Rattle.dm_machine.specs.Connection.{Hold, NotHeld, Pending, Made, OpenAsI, Taken, OpenAsR, Concern, AcksIt, HeardOnIt, ConnOrder, SendsCer, SendsCea}
use Rattle.dm_machine.specs.Openings.{is_hold, has_order, is_ack, is_good_cea}
use Rattle.dm_machine.specs.Causes.{IsCaused, EachHoldIsCaused}
use Rattle.dm_machine.specs.Answering.{has_its_request, AnswersWhatIsHeard}
use Rattle.dm_machine.specs.EachStep.{everywhere}
use Rattle.dm_machine.proofs.ChangeLemmas.{same_hold}
use Rattle.dm_machine.proofs.OpeningLaw.{ChangeTest, every_change, passes, from_changes, SeenTest, from_agreed, is_any}

abbrev is_good_cer : Concern → Bool
is_good_cer (HeardOnIt Cer) = true
is_good_cer _ = false

-- the law as a test of each listed change
abbrev fits_cause : Concern → Hold → Hold → List ConnOrder → Bool
fits_cause k before OpenAsR orders =
    is_hold before OpenAsR
    || (has_order SendsCea orders && (is_hold before Taken || (is_hold before NotHeld && is_good_cer k)))
fits_cause k before Taken orders = is_hold before Taken || (is_hold before NotHeld && is_good_cer k)
fits_cause k before OpenAsI orders = is_hold before OpenAsI || (is_hold before Made && is_good_cea k)
fits_cause k before Made orders =
    is_hold before Made || (is_hold before Pending && (is_ack k && has_order SendsCer orders))
fits_cause k before _ orders = true

abbrev caused_test : ChangeTest
caused_test k h x = fits_cause k h x.next x.orders

checked : every_change caused_test ≡ true
unfolding everywhere
checked = refl

the_cer : (k : Concern) → is_good_cer k ≡ true → k ≡ HeardOnIt Cer
the_cer (HeardOnIt Cer) e = refl
the_cer (HeardOnIt _) e = cc
the_cer _ e = cc

the_cea : (k : Concern) → is_good_cea k ≡ true → k ≡ HeardOnIt Cea
the_cea (HeardOnIt Cea) e = refl
the_cea (HeardOnIt _) e = cc
the_cea _ e = cc

the_ack : (k : Concern) → is_ack k ≡ true → k ≡ AcksIt
the_ack AcksIt e = refl
the_ack _ e = cc

by_cer : (k : Concern) (h : Hold) → (is_hold h NotHeld && is_good_cer k) ≡ true →
    (h ≡ NotHeld) × (k ≡ HeardOnIt Cer)
by_cer k h e =
    let p = and_parts (is_hold h NotHeld) (is_good_cer k) e in
    (same_hold h NotHeld p.0, the_cer k p.1)

taken_by : (k : Concern) (h : Hold) → (is_hold h Taken || (is_hold h NotHeld && is_good_cer k)) ≡ true →
    (h ≡ Taken) ⊎ ((h ≡ NotHeld) × (k ≡ HeardOnIt Cer))
taken_by k h e = elim (or_cases (is_hold h Taken) (is_hold h NotHeld && is_good_cer k) e) [
  | inl l ↦ inl (same_hold h Taken l)
  | inr r ↦ inr (by_cer k h r)
]

caused : (k : Concern) (before after : Hold) (orders : List ConnOrder) → fits_cause k before after orders ≡ true →
    IsCaused k before after orders
caused k h OpenAsR orders e =
    let how = is_hold h Taken || (is_hold h NotHeld && is_good_cer k) in
    elim (or_cases (is_hold h OpenAsR) (has_order SendsCea orders && how) e) [
      | inl l ↦ inl (same_hold h OpenAsR l)
      | inr r ↦
          let p = and_parts (has_order SendsCea orders) how r in
          inr (p.0, taken_by k h p.1)
    ]
caused k h Taken orders e = taken_by k h e
caused k h OpenAsI orders e = elim (or_cases (is_hold h OpenAsI) (is_hold h Made && is_good_cea k) e) [
  | inl l ↦ inl (same_hold h OpenAsI l)
  | inr r ↦
      let p = and_parts (is_hold h Made) (is_good_cea k) r in
      inr (same_hold h Made p.0, the_cea k p.1)
]
caused k h Made orders e =
    let how = is_ack k && has_order SendsCer orders in
    elim (or_cases (is_hold h Made) (is_hold h Pending && how) e) [
      | inl l ↦ inl (same_hold h Made l)
      | inr r ↦
          let p = and_parts (is_hold h Pending) how r in
          let q = and_parts (is_ack k) (has_order SendsCer orders) p.1 in
          inr (same_hold h Pending p.0, the_ack k q.0, q.1)
    ]
caused k h _ orders e = tt

pub each_hold : EachHoldIsCaused
each_hold = from_changes IsCaused (λ k h x m. caused k h x.next x.orders (passes caused_test checked k h x m))

abbrev all_answer : SeenTest
all_answer k before after orders = list_all (has_its_request k) orders

pub answers_heard : AnswersWhatIsHeard
unfolding everywhere
answers_heard = from_agreed all_answer is_any refl
