-- What the header at the front says of the octets that are still to come.
use Rattle.std.proofs.Common.{◌≡◌, ◌<◌, ◌≤◌, ◌⊎◌, inl, inr, ℕ, zero, suc, ◌+◌, ◌-◌, ◌%◌, Option, None, Some, IfSome, IfNone, List, [], ◌∷◌, ◌++◌, length, take, drop, slice_index, refl, sym, ◌∙◌, ap, subst, arith, length-append, append_assoc}
use Rattle.std.proofs.lemmas.List.{take-append-drop}
use Rattle.std.proofs.lemmas.Bool.{cases_lt, cases_eq}
use Rattle.std.proofs.Math.Seq.{take-add}
use Rattle.dm_framer.specs.declared.fault.FrameFault.{FrameFault}
use Rattle.dm_framer.specs.declared.fault.FrameFault.TheVariants.{BadVersion, BadLength, TooLong}
use Rattle.dm_framer.specs.Frames.{message_length, IsFrame, HasFault, HasLength, IsPartial, BeginsWithFrame, BeginsWithNoFrame}
use Rattle.dm_framer.proofs.Fronts.{Front, front, frame_taken, version_front, length_front}
use Rattle.dm_framer.proofs.Framings.{fault_front, frame_or_fault}

-- where a message isn't whole yet, and four octets are there, its length is told
pub told_by_part : (max : ℕ) (s : List ℕ) → 4 ≤ length s → IsPartial max s → HasLength max s (message_length s)
told_by_part max s there is = by_version (cases_eq (slice_index s 0) 1)
  where
    by_most : slice_index s 0 ≡ 1 → 20 ≤ message_length s → message_length s % 4 ≡ 0
        → (max < message_length s) ⊎ (message_length s ≤ max) → HasLength max s (message_length s)
    by_most v low four (inl above) = absurd (is.no_fault TooLong (there, v, low, four, above))
    by_most v low four (inr most) =
        record { there = there; version = v; told = refl; least = low; aligned = four; most = most }

    by_four : slice_index s 0 ≡ 1 → 20 ≤ message_length s
        → (message_length s % 4 ≡ 0) ⊎ (message_length s % 4 ≡ 0 → ⊥) → HasLength max s (message_length s)
    by_four v low (inl four) = by_most v low four (cases_lt max (message_length s))
    by_four v low (inr odd) = absurd (is.no_fault BadLength (there, v, inr odd))

    by_least : slice_index s 0 ≡ 1 → (message_length s < 20) ⊎ (20 ≤ message_length s)
        → HasLength max s (message_length s)
    by_least v (inl low) = absurd (is.no_fault BadLength (there, v, inl low))
    by_least v (inr least) = by_four v least (cases_eq (message_length s % 4) 0)

    by_version : (slice_index s 0 ≡ 1) ⊎ (slice_index s 0 ≡ 1 → ⊥) → HasLength max s (message_length s)
    by_version (inl v) = by_least v (cases_lt (message_length s) 20)
    by_version (inr other) = absurd (is.no_fault BadVersion (omega (arith, there), other))

-- and where one stands there
pub told_by_frame : (max size : ℕ) (s : List ℕ) → IsFrame max (take size s) → HasLength max s (message_length s)
told_by_frame max size s is =
    let f = front max s (take size s) (drop size s) is (sym (take-append-drop size s)) in
    record {
      there = let l = f.least in let w = f.within in omega arith;
      version = f.version;
      told = refl;
      least = let l = f.least in let e = f.size in omega arith;
      aligned = ap (λ n. n % 4) f.size ∙ f.aligned;
      most = let m = f.most in let e = f.size in omega arith;
    }

-- the length stays, whatever comes behind
length_stays : (max size : ℕ) (s t : List ℕ) → HasLength max s size → HasLength max (s ++ t) size
length_stays max size s t h =
    let there : 4 ≤ length s = h.there in
    record {
      there = omega (arith, length-append s t);
      version = version_front s t (omega arith) ∙ h.version;
      told = length_front s t there ∙ h.told;
      least = h.least;
      aligned = h.aligned;
      most = h.most;
    }

-- a frame stands where as many octets are there as its length says
frame_there : (max size : ℕ) (s : List ℕ) → HasLength max s size → size ≤ length s → BeginsWithFrame max s
frame_there max size s h within =
    let f : Front max size s = record {
      version = h.version;
      size = h.told;
      least = h.least;
      aligned = h.aligned;
      most = h.most;
      within = within;
    } in
    (take size s, drop size s, frame_taken max size s f, sym (take-append-drop size s))

-- and none where fewer are
none_there : (max size : ℕ) (s : List ℕ) → HasLength max s size → length s < size → BeginsWithNoFrame max s
none_there max size s h few f t is at =
    let a = front max s f t is at in
    let e = a.size in let told = h.told in let w = a.within in omega arith

-- with what is wanted a frame stands there
pub frame_wanted : (max size : ℕ) (s t : List ℕ) → HasLength max s size → size - length s ≤ length t
    → BeginsWithFrame max (s ++ t)
frame_wanted max size s t h all =
    frame_there max size (s ++ t) (length_stays max size s t h) (omega (arith, length-append s t))

-- and with less none does
pub none_wanted : (max size : ℕ) (s t : List ℕ) → HasLength max s size → length t < size - length s
    → BeginsWithNoFrame max (s ++ t)
none_wanted max size s t h few =
    none_there max size (s ++ t) (length_stays max size s t h) (omega (arith, length-append s t))

-- where no length is told behind four octets, no frame comes
pub none_untold : (max : ℕ) (s t : List ℕ) → (length s < 4) ⊎ ((fault : FrameFault) × HasFault max s fault)
    → 4 ≤ length s → BeginsWithNoFrame max (s ++ t)
none_untold max s t (inl short) there f r is at = omega (arith, short, there)
none_untold max s t (inr fault) there f r is at =
    frame_or_fault max f r fault.0 is (subst-fault at (fault_front max s t fault.0 fault.1))
  where
    subst-fault : s ++ t ≡ f ++ r → HasFault max (s ++ t) fault.0 → HasFault max (f ++ r) fault.0
    subst-fault e h = rw (← e) h

-- no frame stands in less than a header
pub none_in_few : (max : ℕ) (s : List ℕ) → length s < 20 → BeginsWithNoFrame max s
none_in_few max s few f t is at =
    let a = front max s f t is at in let l = a.least in let w = a.within in omega arith

length-take-most : (n : ℕ) (l : List ℕ) → length (take n l) ≤ n
length-take-most zero l = omega arith
length-take-most (suc n) [] = omega arith
length-take-most (suc n) (x ∷ l) = let h = length-take-most n l in omega (arith, h)

-- a frame or a part of one at the front, as the code finds it
pub told_either : (max : ℕ) (s : List ℕ) (o : Option ℕ) → 4 ≤ length s → IfSome o (λ size. IsFrame max (take size s))
    → IfNone o (IsPartial max s) → HasLength max s (message_length s)
told_either max s (Some size) there frame part = told_by_frame max size s frame
told_either max s None there frame part = told_by_part max s there part

-- the octets of a piece, one part behind the other
pub pieces_fed : (s p : List ℕ) (h m : ℕ) → (s ++ take h p) ++ take m (drop h p) ≡ s ++ take (h + m) p
pieces_fed s p h m = append_assoc s (take h p) (take m (drop h p)) ∙ ap (λ l. s ++ l) (sym (take-add h m p))

-- no frame stands in fewer octets than are fed
pub none_before : (max : ℕ) (s p : List ℕ) (h m k : ℕ) → (0 < h → length s + h ≤ 4)
    → (length (s ++ take h p) < 4 → m ≡ 0)
    → ((t : List ℕ) → 4 ≤ length (s ++ take h p) → length t < m
    → BeginsWithNoFrame max ((s ++ take h p) ++ t))
    → k < h + m → BeginsWithNoFrame max (s ++ take k p)
none_before max s p h m k short few least less = by_part (cases_lt k h)
  where
    within : length (take k p) ≤ k
    within = length-take-most k p

    behind : (j : ℕ) → k ≡ h + j → j < m → BeginsWithNoFrame max (s ++ take k p)
    behind j is lesser = by_header (cases_lt (length (s ++ take h p)) 4)
      where
        by_header : (length (s ++ take h p) < 4) ⊎ (4 ≤ length (s ++ take h p))
            → BeginsWithNoFrame max (s ++ take k p)
        by_header (inl small) = let none = few small in absurd (omega (arith, none, lesser))
        by_header (inr there) =
            subst (λ n. BeginsWithNoFrame max (s ++ take n p)) (sym is)
            (subst (BeginsWithNoFrame max) (pieces_fed s p h j)
            (least (take j (drop h p)) there (let w = length-take-most j (drop h p) in omega (arith, w, lesser))))

    by_part : (k < h) ⊎ (h ≤ k) → BeginsWithNoFrame max (s ++ take k p)
    by_part (inl inside) =
        none_in_few max (s ++ take k p)
        (let e = length-append s (take k p) in let w = within in let at = short (omega (arith, inside)) in
        omega (arith, e, w, at, inside))
    by_part (inr beyond) = behind (k - h) (omega (arith, beyond)) (omega (arith, beyond, less))
