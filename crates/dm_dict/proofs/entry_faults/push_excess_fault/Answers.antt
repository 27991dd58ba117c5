-- With none past the maximum there is no fault.
use Rattle.std.proofs.Common.{◌≡◌, ◌<◌, ◌≤◌, ◌⊎◌, inl, inr, ℕ, Bool, true, false, ◌&&◌, nat_lt, if◌then◌else◌, Option, None, Some, List, [], length, get_or, slice_get, refl, sym, ◌∙◌, arith}
use Rattle.std.proofs.lemmas.Bool.{le-ltb}
use Rattle.std.proofs.lemmas.Option.{slice_get_cases, slice_get_past}
use Rattle.std.proofs.lemmas.List.{append-nil}
use Rattle.dm_wire.specs.declared.avp.Avp.{Avp}
use Rattle.dm_tables.specs.declared.rule.Entry.{Entry}
use Rattle.dm_dict.specs.declared.tallies.Tally.{Tally}
use Rattle.dm_dict.specs.Faults.{Fault, excess_faults}
use Rattle.dm_dict.specs.Listing.{all_told}
use Rattle.dm_dict.specs.Tallies.{IsTally, past_max}
use Rattle.dm_dict.proofs.entry_faults.push_excess_fault.Goals as goal

without : (b c : Bool) (fs : List Fault) → c ≡ false → (if b && c then fs else []) ≡ []
without true c fs is = rw is refl
without false c fs is = refl

no_excess : (max : Option ℕ) (l : List Avp) → past_max max l ≡ None → excess_faults max l ≡ []
no_excess None l is = refl
no_excess (Some max) l is = by (slice_get_cases l max).1 where
  by : ((x : Avp) × (max < length l) × (slice_get l max ≡ Some x) × (get_or l max x ≡ x)) ⊎ ((length l ≤ max) × (slice_get l max ≡ None))
      → excess_faults (Some max) l ≡ []
  by (inl (x, within, some, at)) = absurd (cc)
  by (inr (past, none)) = without (nat_lt 0 max) (nat_lt max (length l)) _ (le-ltb max (length l) past)

none_past : (room : Option ℕ) → past_max room [] ≡ None
none_past None = refl
none_past (Some room) = slice_get_past [] room (omega arith)

untold : (e : Entry) (l : List Avp) (t : Tally) → t.excess ≡ None → IsTally e l [] t → past_max e.max l ≡ None
untold e l t none h = sym (rw none at h.excess) ∙ none_past t.room

pub returns-in-None : goal.returns-in-None
returns-in-None c = λ l h.
    rw (no_excess c.args.entry.now.max l (untold c.args.entry.now l c.args.tally c.in-None.is h))
    (sym (append-nil (all_told c.args.faults.now.items)))
