-- The instants whose date is told are those of values of type Time.
use Rattle.std.proofs.Common.{◌≡◌, ◌≢◌, ◌<◌, ◌%◌, ◌^◌, ◌∙◌, inl, inr, ℕ, ℤ, pos, negsuc, Bool, true, false, cond, List, ◌++◌, codes, append_assoc, refl, ap, sym, arith}
use Rattle.std.proofs.lemmas.Bool.Decides.{nat_tests}
use Rattle.std.proofs.lemmas.Int.{ints}
use Rattle.std.proofs.lemmas.List.{append_cancel_right}
use Rattle.std.specs.Fmt.{signed_decimal}
use Rattle.dm_capture.specs.declared.time.Time.{Time}
use Rattle.dm_value.specs.declared.date.Utc.{Utc}
use Rattle.dm_value.specs.Dates.{from_1900, utc_at, utc_text}
use Rattle.dm_value.specs.Times.{unix_time}
use Rattle.dm_trace.specs.Dates.{since_1900, is_dated, date_and_time}
use Rattle.dm_trace.specs.Laws.{SaysDate, SaysInstant}
use Rattle.dm_trace.specs.Times.{fraction_text, instant_text}

-- a value of type Time with these seconds
record IsValueAt (seconds : ℤ) (t : ℕ) : Type 0 where
  fits : t < 2 ^ 32
  same : unix_time t ≡ seconds
  counted : from_1900 t ≡ since_1900 seconds

dated_has_value : (seconds : ℤ) → is_dated (since_1900 seconds) ≡ true
    → IsValueAt seconds (since_1900 seconds % 2 ^ 32)
dated_has_value (pos n) dated = record {
  fits = grind (arith, nat_tests);
  same = grind (arith, nat_tests, ints);
  counted = grind (arith, nat_tests);
}
dated_has_value (negsuc n) dated = record {
  fits = grind (arith, nat_tests);
  same = grind (arith, nat_tests, ints);
  counted = grind (arith, nat_tests);
}

value_is_dated : (t : ℕ) → t < 2 ^ 32 → is_dated (since_1900 (unix_time t)) ≡ true
value_is_dated t fits = grind (arith, nat_tests, ints)

value_is_counted : (t : ℕ) → t < 2 ^ 32 → since_1900 (unix_time t) ≡ from_1900 t
value_is_counted t fits = grind (arith, nat_tests, ints)

pub displayed_front : (utc : Utc) → utc_text utc ≡ date_and_time utc ++ codes "Z"
unfolding date_and_time
displayed_front utc = simp append_assoc

-- the text of an instant by whether its date is told
abbrev said_by : Bool → Time → List ℕ
said_by dated time =
    cond dated (date_and_time (utc_at (since_1900 time.seconds)) ++ fraction_text time ++ codes "Z")
    (signed_decimal time.seconds ++ fraction_text time)

date_said : (time : Time) (t : ℕ) → IsValueAt time.seconds t
    → SaysDate time (date_and_time (utc_at (since_1900 time.seconds)) ++ fraction_text time ++ codes "Z")
date_said time t value = record {
  t = t;
  front = date_and_time (utc_at (since_1900 time.seconds));
  fits = value.fits;
  same = value.same;
  displayed = rw value.counted (displayed_front (utc_at (since_1900 time.seconds)));
  said = refl;
}

pub each_said : (time : Time) → SaysInstant time (instant_text time)
each_said time = by (is_dated (since_1900 time.seconds)) refl
  where
    by : (dated : Bool) → is_dated (since_1900 time.seconds) ≡ dated → SaysInstant time (said_by dated time)
    by true is = inl (date_said time _ (dated_has_value time.seconds is))
    by false is = inr (record { none = λ t fits same. none t fits same; said = refl })
      where
        none : (t : ℕ) → t < 2 ^ 32 → unix_time t ≢ time.seconds
        none t fits same =
            let dated = value_is_dated t fits in
            let also : is_dated (since_1900 time.seconds) ≡ true = rw (← same) dated in cc

pub one_said : (time : Time) (text : List ℕ) → SaysInstant time text → text ≡ instant_text time
one_said time text (inl date) =
    let dated : is_dated (since_1900 time.seconds) ≡ true = rw (← date.same) (value_is_dated date.t date.fits) in
    let counted : since_1900 time.seconds ≡ from_1900 date.t = rw (← date.same) (value_is_counted date.t date.fits) in
    let front : date.front ≡ date_and_time (utc_at (from_1900 date.t)) =
    append_cancel_right date.front _ (codes "Z") (sym date.displayed ∙ displayed_front (utc_at (from_1900 date.t))) in
    date.said
    ∙ ap (λ f. f ++ fraction_text time ++ codes "Z") front
    ∙ ap (λ n. date_and_time (utc_at n) ++ fraction_text time ++ codes "Z") (sym counted)
    ∙ ap (λ b. said_by b time) (sym dated)
one_said time text (inr seconds) = by (is_dated (since_1900 time.seconds)) refl
  where
    by : (dated : Bool) → is_dated (since_1900 time.seconds) ≡ dated → text ≡ said_by dated time
    by true is = let value = dated_has_value time.seconds is in absurd (seconds.none _ value.fits value.same)
    by false is = seconds.said
