-- What is taken of a piece, and what is taken away again.
use Rattle.std.proofs.Common.{◌≡◌, ◌≤◌, ◌<◌, ◌-◌, ◌+◌, ℕ, Bool, true, false, cond, nat_eq, Option, None, Some, List, [], ◌++◌, length, take, drop, refl, sym, ap, ◌∙◌, subst, arith, length-append, append_assoc}
use Rattle.std.proofs.lemmas.List.{append-nil, take-append-drop, length-take-le}
use Rattle.std.proofs.Math.Seq.{take-append_seam}
use Rattle.std.proofs.Math.Path.{fun_ext}
use Rattle.std.specs.Option.{option_map}
use Rattle.dm_framer.specs.Frames.{IsFrame, BeginsWithNoFrame}
use Rattle.dm_framer.specs.Laws.{OneFront}
use Rattle.dm_slots.specs.Hearing.{IsWholeIn, TakesFront, TakesFrontAt, WholeIsTaken}
use Rattle.dm_slots.specs.Intakes.{Intake, fed_intake, unfed_intake}
use Rattle.dm_slots.specs.Staying.{TakingBackUndoes}

-- what is taken of a connection that is there
pub taken_there : (o : Option Intake) (i : Intake) (piece : List ℕ) (size : ℕ) → Some i ≡ o → TakesFront i piece size
    → TakesFrontAt o piece size
taken_there o i piece size e is = subst (λ v. TakesFrontAt v piece size) e is

pub taken_nowhere : (o : Option Intake) (piece : List ℕ) → None ≡ o → TakesFrontAt o piece (length piece)
taken_nowhere o piece e = subst (λ v. TakesFrontAt v piece (length piece)) e refl

-- what is kept of a piece and taken away again
both_fed_at : (piece octets : List ℕ) (max : ℕ) (b : Bool) →
    unfed_intake (length piece) (fed_intake piece (record { octets = octets; max = max; is_broken = b }))
    ≡ record { octets = octets; max = max; is_broken = b }
both_fed_at piece octets max true = refl
both_fed_at piece octets max false =
    let many : length (octets ++ piece) - length piece ≡ length octets = omega (arith, length-append octets piece) in
    let front : take (length (octets ++ piece) - length piece) (octets ++ piece) ≡ octets =
    ap (λ n. take n (octets ++ piece)) many ∙ take-append_seam octets piece in
    ap with_these front
  where
    with_these : List ℕ → Intake
    with_these l = record { octets = l; max = max; is_broken = false }

undone_at : (piece : List ℕ) (b : Bool) (o : Option Intake) →
    cond b (option_map (unfed_intake (length piece)) (cond b (option_map (fed_intake piece) o) o))
    (cond b (option_map (fed_intake piece) o) o) ≡ o
undone_at piece true None = refl
undone_at piece true (Some i) = ap (λ v. Some v) (both_fed_at piece i.octets i.max i.is_broken)
undone_at piece false o = refl

pub taking_back_undoes : TakingBackUndoes
taking_back_undoes c piece f = fun_ext (λ d. undone_at piece (nat_eq c d) (f d))

-- no frame stands in the front of another
none_within : OneFront → (max : ℕ) (piece : List ℕ) (size k : ℕ) → size ≤ length piece → IsFrame max (take size piece) →
    k < size → BeginsWithNoFrame max (take k piece)
none_within one max piece size k within frame less f r is at =
    let whole : f ++ (r ++ drop k piece) ≡ take size piece ++ drop size piece =
    sym (append_assoc f r (drop k piece)) ∙ ap (λ l. l ++ drop k piece) (sym at) ∙ take-append-drop k piece
    ∙ sym (take-append-drop size piece) in
    let same = one max f (take size piece) (r ++ drop k piece) (drop size piece) is frame whole in
    let long : length f ≡ size = ap length same.0 ∙ length-take-le size piece within in
    let short : length (take k piece) ≡ k = length-take-le k piece (omega (arith, less, within)) in
    let parts : length (take k piece) ≡ length f + length r = ap length at ∙ length-append f r in
    omega (arith, long, short, parts, less)

whole_of : OneFront → (i : Intake) (piece : List ℕ) (size : ℕ) → size ≤ length piece
    → IsWholeIn i piece (take size piece) (drop size piece) → TakesFront i piece size
whole_of one i piece size within front =
    let kept : (n : ℕ) → i.octets ++ take n piece ≡ take n piece = λ n. ap (λ l. l ++ take n piece) front.none_kept in
    record {
      within = within;
      front = λ less. (take size piece, [], front.frame, kept size ∙ sym (append-nil (take size piece)));
      least = λ unbroken k less. subst (BeginsWithNoFrame i.max) (sym (kept k))
          (none_within one i.max piece size k within front.frame less);
      thrown = λ broken. let clash : true ≡ false = sym broken ∙ front.whole in absurd (cc clash);
    }

pub whole_is_taken : OneFront → WholeIsTaken
whole_is_taken one o piece size h =
    taken_there o h.intake piece size (sym h.there) (whole_of one h.intake piece size h.within h.front)
