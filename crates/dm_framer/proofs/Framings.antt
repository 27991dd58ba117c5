-- How streams are cut into frames: in one way, and whatever pieces they come in.
use Rattle.std.proofs.Common.{◌≡◌, ◌<◌, ◌≤◌, ◌⊎◌, inl, inr, ℕ, zero, suc, ◌%◌, Option, None, Some, List, [], ◌∷◌, ◌++◌, length, take, drop, slice_index, refl, sym, ◌∙◌, ap, arith, append_assoc, append-nil, length-append}
use Rattle.std.proofs.lemmas.List.{take-append-drop, length-drop}
use Rattle.std.proofs.lemmas.Bool.{cases_lt, cases_eq}
use Rattle.std.proofs.lemmas.List.Folds.{concat-append}
use Rattle.std.specs.List.{AllByRecursion, concat}
use Rattle.dm_framer.specs.declared.fault.FrameFault.{FrameFault}
use Rattle.dm_framer.specs.declared.fault.FrameFault.TheVariants.{BadVersion, BadLength, TooLong, NoMemory}
use Rattle.dm_framer.specs.Frames.{message_length, IsFrame, HasFault, IsFaultOf, IsPartial, Framed}
use Rattle.dm_framer.proofs.Fronts.{Front, front, frame_taken, no_fault_at, one_frame, one_fault, partial_empty, partial_header, partial_body, version_front, length_front}

-- one frame more, in front
pub frame_before : (max : ℕ) (s f : List ℕ) (frames : List (List ℕ)) (rest : List ℕ) (fault : Option FrameFault) →
    IsFrame max f → Framed max s frames rest fault → Framed max (f ++ s) (f ∷ frames) rest fault
frame_before max s f frames rest fault is h =
    record {
      whole = ap (λ l. f ++ l) h.whole ∙ sym (append_assoc f (concat frames) rest);
      each = (is, h.each);
      longest = h.longest;
      fault_is = h.fault_is;
    }

-- a fault leaves no frame at the front
pub fault_alone : (max : ℕ) (s : List ℕ) (fault : FrameFault) → HasFault max s fault → Framed max s [] s (Some fault)
fault_alone max s fault h =
    record {
      whole = refl;
      each = tt;
      longest = λ f t is at. no_fault_at max (length f) s fault (front max s f t is at)
          h;
      fault_is = h;
    }

pub partial_alone : (max : ℕ) (s : List ℕ) → IsPartial max s → Framed max s [] s None
partial_alone max s h = record { whole = refl; each = tt; longest = h.no_frame; fault_is = h.no_fault }

-- the three that can stand at a front
data Stands (max : ℕ) (s : List ℕ) : Type 0 where
  a_frame : (n : ℕ) → Front max n s → Stands max s
  a_fault : (fault : FrameFault) → HasFault max s fault → Stands max s
  a_part : IsPartial max s → Stands max s

stands : (max : ℕ) (s : List ℕ) → Stands max s
stands max s = by_empty (cases_eq (length s) 0)
  where
    n : ℕ
    n = message_length s

    by_whole : slice_index s 0 ≡ 1 → 20 ≤ message_length s → message_length s % 4 ≡ 0 → message_length s ≤ max →
        (length s < message_length s) ⊎ (message_length s ≤ length s) → Stands max s
    by_whole v low four most (inl less) = a_part (partial_body max s v low four most less)
    by_whole v low four most (inr all) =
        a_frame (message_length s)
        (record { version = v; size = refl; least = low; aligned = four; most = most; within = all })

    by_most : slice_index s 0 ≡ 1 → 4 ≤ length s → 20 ≤ message_length s → message_length s % 4 ≡ 0 →
        (max < message_length s) ⊎ (message_length s ≤ max) → Stands max s
    by_most v l low four (inl above) = a_fault TooLong (l, v, low, four, above)
    by_most v l low four (inr most) = by_whole v low four most (cases_lt (length s) (message_length s))

    by_four : slice_index s 0 ≡ 1 → 4 ≤ length s → 20 ≤ message_length s →
        (message_length s % 4 ≡ 0) ⊎ (message_length s % 4 ≡ 0 → ⊥) → Stands max s
    by_four v l low (inl four) = by_most v l low four (cases_lt max (message_length s))
    by_four v l low (inr odd) = a_fault BadLength (l, v, inr odd)

    by_least : slice_index s 0 ≡ 1 → 4 ≤ length s → (message_length s < 20) ⊎ (20 ≤ message_length s) → Stands max s
    by_least v l (inl low) = a_fault BadLength (l, v, inl low)
    by_least v l (inr least) = by_four v l least (cases_eq (message_length s % 4) 0)

    by_header : slice_index s 0 ≡ 1 → (length s < 4) ⊎ (4 ≤ length s) → Stands max s
    by_header v (inl short) = a_part (partial_header max s v short)
    by_header v (inr long) = by_least v long (cases_lt (message_length s) 20)

    by_version : (length s ≡ 0 → ⊥) → (slice_index s 0 ≡ 1) ⊎ (slice_index s 0 ≡ 1 → ⊥) → Stands max s
    by_version some (inl v) = by_header v (cases_lt (length s) 4)
    by_version some (inr other) = a_fault BadVersion (omega arith, other)

    by_empty : (length s ≡ 0) ⊎ (length s ≡ 0 → ⊥) → Stands max s
    by_empty (inl none) = a_part (partial_empty max s none)
    by_empty (inr some) = by_version some (cases_eq (slice_index s 0) 1)

-- some framing of s
abbrev Cut : ℕ → List ℕ → Type 0
Cut max s = (frames : List (List ℕ)) × (rest : List ℕ) × (fault : Option FrameFault) × Framed max s frames rest fault

-- a stream is framed where what is left of it behind a frame is
framed_at : (max : ℕ) (s : List ℕ) → Stands max s → ((k : ℕ) → 0 < k → k ≤ length s → Cut max (drop k s)) → Cut max s
framed_at max s (a_fault fault is) rest = ([], s, Some fault, fault_alone max s fault is)
framed_at max s (a_part is) rest = ([], s, None, partial_alone max s is)
framed_at max s (a_frame k f) rest =
    let l : 20 ≤ k = f.least in
    let later = rest k (omega arith) f.within in
    let whole : take k s ++ drop k s ≡ s = take-append-drop k s in
    let joined = frame_before max (drop k s) (take k s) later.0 later.1 later.2 (frame_taken max k s f) later.3 in (
      take k s ∷ later.0,
      later.1,
      later.2,
      record {
        whole = sym whole ∙ joined.whole;
        each = joined.each;
        longest = joined.longest;
        fault_is = joined.fault_is;
      },
    )

-- a stream of at most n octets is framed
framed_within : (n max : ℕ) (s : List ℕ) → length s ≤ n → Cut max s
framed_within zero max s h = framed_at max s (stands max s) (λ k pos w. absurd (omega arith))
framed_within (suc n) max s h =
    framed_at max s (stands max s) (λ k pos w. framed_within n max (drop k s) (omega (arith, length-drop k s)))

pub each_stream_is_framed : (max : ℕ) (s : List ℕ) →
    (frames : List (List ℕ)) × (rest : List ℕ) × (fault : Option FrameFault) × Framed max s frames rest fault
each_stream_is_framed max s = framed_within (length s) max s (omega arith)

-- a front has one fault at most
same_fault : (max : ℕ) (s : List ℕ) (f g : Option FrameFault) → IsFaultOf max s f → IsFaultOf max s g → f ≡ g
same_fault max s None None h k = refl
same_fault max s None (Some g) h k = absurd (h g k)
same_fault max s (Some f) None h k = absurd (k f h)
same_fault max s (Some f) (Some g) h k = ap (λ v. Some v) (one_fault max s f g h k)

same_cons : (f g : List ℕ) (frames others : List (List ℕ)) → f ≡ g → frames ≡ others → f ∷ frames ≡ g ∷ others
same_cons f g frames others e d = rw (e, d) refl

same_fault_along : (max : ℕ) (s t : List ℕ) (f g : Option FrameFault) → s ≡ t → IsFaultOf max s f → IsFaultOf max t g →
    f ≡ g
same_fault_along max s t f g e h k = same_fault max s f g h (rw e k)

-- a stream is framed in one way
pub one_framing : (max : ℕ) (s : List ℕ) (frames others : List (List ℕ)) (rest left : List ℕ)
    (fault other : Option FrameFault) → Framed max s frames rest fault → Framed max s others left other →
    (frames ≡ others) × (rest ≡ left) × (fault ≡ other)
one_framing max s [] [] rest left fault other h k =
    let e : rest ≡ left = sym h.whole ∙ k.whole in
    (refl, e, same_fault_along max rest left fault other e h.fault_is k.fault_is)
one_framing max s [] (g ∷ others) rest left fault other h k =
    absurd (h.longest g (concat others ++ left) k.each.0 (sym h.whole ∙ k.whole ∙ append_assoc g (concat others) left))
one_framing max s (f ∷ frames) [] rest left fault other h k =
    absurd (k.longest f (concat frames ++ rest) h.each.0 (sym k.whole ∙ h.whole ∙ append_assoc f (concat frames) rest))
one_framing max s (f ∷ frames) (g ∷ others) rest left fault other h k =
    let joined : f ++ (concat frames ++ rest) ≡ g ++ (concat others ++ left) =
    sym (append_assoc f (concat frames) rest) ∙ sym h.whole ∙ k.whole ∙ append_assoc g (concat others) left in
    let same = one_frame max f g (concat frames ++ rest) (concat others ++ left) h.each.0 k.each.0 joined in
    let later = one_framing max (concat frames ++ rest) frames others rest left fault other
    (record { whole = refl; each = h.each.1; longest = h.longest; fault_is = h.fault_is })
    (record { whole = same.1; each = k.each.1; longest = k.longest; fault_is = k.fault_is }) in
    (same_cons f g frames others same.0 later.0, later.1, later.2)

all_append : (max : ℕ) (l k : List (List ℕ)) → AllByRecursion (IsFrame max) l → AllByRecursion (IsFrame max) k →
    AllByRecursion (IsFrame max) (l ++ k)
all_append max [] k h g = g
all_append max (f ∷ l) k h g = (h.0, all_append max l k h.1 g)

pub cuts : (max : ℕ) (s t : List ℕ) (frames more : List (List ℕ)) (rest left : List ℕ) (fault : Option FrameFault) →
    Framed max s frames rest None → Framed max (rest ++ t) more left fault →
    Framed max (s ++ t) (frames ++ more) left fault
cuts max s t frames more rest left fault h k =
    record {
      whole = ap (λ l. l ++ t) h.whole ∙ append_assoc (concat frames) rest t ∙ ap (λ l. concat frames ++ l) k.whole ∙
          sym (append_assoc (concat frames) (concat more) left) ∙ ap (λ l. l ++ left) (sym (concat-append frames more));
      each = all_append max frames more h.each k.each;
      longest = k.longest;
      fault_is = k.fault_is;
    }

-- a fault stays at the front
pub fault_front : (max : ℕ) (s t : List ℕ) (fault : FrameFault) → HasFault max s fault → HasFault max (s ++ t) fault
fault_front max s t BadVersion h =
    (omega (arith, length-append s t, h.0), rw (version_front s t h.0) h.1)
fault_front max s t BadLength h =
    (omega (arith, length-append s t, h.0), version_front s t (omega (arith, h.0)) ∙ h.1, rw (length_front s t h.0) h.2)
fault_front max s t TooLong h =
    let e = length_front s t h.0 in
    (omega (arith, length-append s t, h.0), version_front s t (omega (arith, h.0)) ∙ h.1, rw e h.2, rw e h.3, rw e h.4)
fault_front max s t NoMemory h = h

pub fault_stays : (max : ℕ) (s t : List ℕ) (frames : List (List ℕ)) (rest : List ℕ) (fault : FrameFault) →
    Framed max s frames rest (Some fault) → Framed max (s ++ t) frames (rest ++ t) (Some fault)
fault_stays max s t frames rest fault h =
    let stays = fault_alone max (rest ++ t) fault (fault_front max rest t fault h.fault_is) in
    record {
      whole = ap (λ l. l ++ t) h.whole ∙ append_assoc (concat frames) rest t;
      each = h.each;
      longest = stays.longest;
      fault_is = stays.fault_is;
    }

pub whole_frames : (max : ℕ) (frames : List (List ℕ)) → AllByRecursion (IsFrame max) frames →
    Framed max (concat frames) frames [] None
whole_frames max frames each =
    let nothing = partial_empty max [] refl in
    record {
      whole = sym (append-nil (concat frames));
      each = each;
      longest = nothing.no_frame;
      fault_is = nothing.no_fault;
    }

-- what a frame at the front says of a framing
pub frame_is_first : (max n : ℕ) (s m : List ℕ) (frames : List (List ℕ)) (rest : List ℕ) (fault : Option FrameFault) →
    IsFrame max (take n s) → Framed max s (m ∷ frames) rest fault → (take n s ≡ m) × (drop n s ≡ concat frames ++ rest)
frame_is_first max n s m frames rest fault is h =
    one_frame max (take n s) m (drop n s) (concat frames ++ rest) is h.each.0
    (take-append-drop n s ∙ h.whole ∙ append_assoc m (concat frames) rest)

pub frame_goes_first : (max n : ℕ) (s rest : List ℕ) (fault : Option FrameFault) → IsFrame max (take n s) →
    Framed max s [] rest fault → ⊥
frame_goes_first max n s rest fault is h = h.longest (take n s) (drop n s) is (sym h.whole ∙ sym (take-append-drop n s))

-- what a fault at the front says of a framing
pub fault_has_no_frame : (max : ℕ) (s m : List ℕ) (frames : List (List ℕ)) (rest : List ℕ) (fault : Option FrameFault)
    (found : FrameFault) → HasFault max s found → Framed max s (m ∷ frames) rest fault → ⊥
fault_has_no_frame max s m frames rest fault found is h =
    (fault_alone max s found is).longest m (concat frames ++ rest) h.each.0
    (h.whole ∙ append_assoc m (concat frames) rest)

pub fault_is_told : (max : ℕ) (s rest : List ℕ) (fault : Option FrameFault) (found : FrameFault) →
    HasFault max s found → Framed max s [] rest fault → Some found ≡ fault
fault_is_told max s rest fault found is h = same_fault_along max s rest (Some found) fault h.whole is h.fault_is

-- what a part of a message says of a framing
pub part_has_no_frame : (max : ℕ) (s m : List ℕ) (frames : List (List ℕ)) (rest : List ℕ) (fault : Option FrameFault) →
    IsPartial max s → Framed max s (m ∷ frames) rest fault → ⊥
part_has_no_frame max s m frames rest fault is h =
    is.no_frame m (concat frames ++ rest) h.each.0 (h.whole ∙ append_assoc m (concat frames) rest)

pub part_has_no_fault : (max : ℕ) (s rest : List ℕ) (fault : Option FrameFault) → IsPartial max s →
    Framed max s [] rest fault → None ≡ fault
part_has_no_fault max s rest fault is h = same_fault_along max s rest None fault h.whole is.no_fault h.fault_is

-- no fault stands where a frame does
pub frame_or_fault : (max : ℕ) (f t : List ℕ) (fault : FrameFault) → IsFrame max f → HasFault max (f ++ t) fault → ⊥
frame_or_fault max f t fault is h =
    no_fault_at max (length f) (f ++ t) fault (front max (f ++ t) f t is refl) h
