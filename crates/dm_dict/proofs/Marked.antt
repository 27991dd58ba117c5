-- The marks of codes, one definition at a time.
use Rattle.std.proofs.Common.{◌≡◌, ◌≢◌, ◌<◌, ◌+◌, ◌%◌, ℕ, zero, suc, Bool, true, false, nat_eq, Option, None, List, length, take, set, get_or, refl, sym, ◌∙◌, ap, arith}
use Rattle.std.proofs.lemmas.Bool.{eqb-true, eq-eqb}
use Rattle.std.proofs.lemmas.Bool.Decides.{nat_tests}
use Rattle.std.proofs.lemmas.List.{get_or-set_same, get_or-set_other}
use Rattle.std.proofs.lemmas.Nat.{mod_below}
use Rattle.std.specs.List.{position_from}
use Rattle.dm_tables.specs.declared.def.AvpDef.{AvpDef}
use Rattle.dm_tables.specs.Definitions.{is_coded}
use Rattle.dm_dict.specs.Marks.{kept_mark, AreMarked}
use Rattle.dm_dict.proofs.Noting.{position_push}
use Rattle.dm_dict.proofs.Seated.{other_code}

-- a definition has a mark
pub some_mark : (mark place : ℕ) → 0 < kept_mark mark place
some_mark zero place = omega arith
some_mark (suc n) place = grind (arith, nat_tests)

-- one definition more
pub marked_step : (avps : List AvpDef) (i : ℕ) (d x : AvpDef) (marks : List ℕ) (mark : ℕ) → i < length avps
    → d ≡ get_or avps i x → length marks ≡ 512 → 0 < mark → AreMarked (take i avps) marks
    → AreMarked (take (i + 1) avps) (set marks (d.code % 512) mark)
marked_step avps i d x marks mark h at size some before = λ code vendor unmarked.
    by code vendor unmarked (nat_eq (d.code % 512) (code % 512)) refl
  where
    by : (code : ℕ) (vendor : Option ℕ) → get_or (set marks (d.code % 512) mark) (code % 512) 0 ≡ 0 → (b : Bool)
        → nat_eq (d.code % 512) (code % 512) ≡ b → position_from (is_coded code vendor) 0 (take (i + 1) avps) ≡ None
    by code vendor unmarked true t =
        let same : d.code % 512 ≡ code % 512 = eqb-true (d.code % 512) (code % 512) t in
        let low = mod_below d.code 512 (omega arith) in
        let one : get_or (set marks (d.code % 512) mark) (d.code % 512) 0 ≡ mark =
        get_or-set_same marks (d.code % 512) mark 0 (omega arith) in
        let none : get_or (set marks (d.code % 512) mark) (d.code % 512) 0 ≡ 0 =
        ap (λ n. get_or (set marks (d.code % 512) mark) n 0) same ∙ unmarked in
        absurd (omega (arith, one, none, some))
    by code vendor unmarked false t =
        let apart : code % 512 ≢ d.code % 512 = λ e.
        (let same : nat_eq (d.code % 512) (code % 512) ≡ true = eq-eqb (d.code % 512) (code % 512) (sym e) in cc) in
        let kept : get_or marks (code % 512) 0 ≡ 0 =
        sym (get_or-set_other marks (d.code % 512) (code % 512) mark 0 apart) ∙ unmarked in
        let other = other_code 512 d.code code t in
        let push = position_push (is_coded code vendor) 0 avps i x h in
        push ∙ rw (← at, before code vendor kept, other) refl
