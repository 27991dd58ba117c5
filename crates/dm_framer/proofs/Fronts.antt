-- What stands at the front of a stream: a frame, a fault or neither.
use Rattle.std.proofs.Common.{◌≡◌, ◌≢◌, ◌<◌, ◌≤◌, ◌⊎◌, inl, inr, ℕ, ◌%◌, List, [], ◌∷◌, ◌++◌, length, take, drop, slice_index, refl, sym, ◌∙◌, ap, arith, length-append}
use Rattle.std.proofs.lemmas.List.{take-append-drop, length-take-le, take_at, drop_at}
use Rattle.dm_framer.specs.declared.fault.FrameFault.{FrameFault}
use Rattle.dm_framer.specs.declared.fault.FrameFault.TheVariants.{BadVersion, BadLength, TooLong, NoMemory}
use Rattle.dm_framer.specs.Frames.{message_length, IsFrame, HasFault, IsPartial}

-- the header's first octets are those of the front
pub version_front : (f t : List ℕ) → 0 < length f → slice_index (f ++ t) 0 ≡ slice_index f 0
version_front [] t h = absurd (omega arith)
version_front (a ∷ f) t h = refl

pub length_front : (f t : List ℕ) → 4 ≤ length f → message_length (f ++ t) ≡ message_length f
length_front [] t h = absurd (omega arith)
length_front (a ∷ []) t h = absurd (omega arith)
length_front (a ∷ b ∷ []) t h = absurd (omega arith)
length_front (a ∷ b ∷ c ∷ []) t h = absurd (omega arith)
length_front (a ∷ b ∷ c ∷ d ∷ f) t h = refl

-- what a stream says that begins with a frame
pub record Front (max : ℕ) (n : ℕ) (s : List ℕ) : Type 0 where
  pub version : slice_index s 0 ≡ 1
  pub size : message_length s ≡ n
  pub least : 20 ≤ n
  pub aligned : n % 4 ≡ 0
  pub most : n ≤ max
  pub within : n ≤ length s

pub front : (max : ℕ) (s f t : List ℕ) → IsFrame max f → s ≡ f ++ t → Front max (length f) s
front max s f t is e =
    let least : 20 ≤ length f = is.least in
    rw e (record {
      version = version_front f t (omega arith) ∙ is.version;
      size = length_front f t (omega arith) ∙ is.size;
      least = least;
      aligned = is.aligned;
      most = is.most;
      within = omega (arith, length-append f t);
    })

-- and the other way round
pub frame_taken : (max n : ℕ) (s : List ℕ) → Front max n s → IsFrame max (take n s)
frame_taken max n s h =
    let least : 20 ≤ n = h.least in
    let in_s : n ≤ length s = h.within in
    let size : length (take n s) ≡ n = length-take-le n s in_s in
    let whole : take n s ++ drop n s ≡ s = take-append-drop n s in
    let version : slice_index (take n s) 0 ≡ 1 =
    sym (version_front (take n s) (drop n s) (omega arith)) ∙ ap (λ l. slice_index l 0) whole ∙ h.version in
    let told : message_length (take n s) ≡ n =
    sym (length_front (take n s) (drop n s) (omega arith)) ∙ ap message_length whole ∙ h.size in
    record {
      version = version;
      size = told ∙ sym size;
      least = omega arith;
      aligned = ap (λ k. k % 4) size ∙ h.aligned;
      most = let m : n ≤ max = h.most in omega arith;
    }

-- no fault stands before a frame
pub no_fault_at : (max n : ℕ) (s : List ℕ) (fault : FrameFault) → Front max n s → HasFault max s fault → ⊥
no_fault_at max n s BadVersion f h = h.1 f.version
no_fault_at max n s BadLength f h = by h.2 where
  by : (message_length s < 20) ⊎ (message_length s % 4 ≢ 0) → ⊥
  by (inl low) = let e = f.size in let l = f.least in omega arith
  by (inr odd) = odd (ap (λ k. k % 4) f.size ∙ f.aligned)
no_fault_at max n s TooLong f h = let e = f.size in let m = f.most in let above = h.4 in omega arith
no_fault_at max n s NoMemory f h = h

-- a stream begins with one frame at most
pub one_frame : (max : ℕ) (f g t u : List ℕ) → IsFrame max f → IsFrame max g → f ++ t ≡ g ++ u → (f ≡ g) × (t ≡ u)
one_frame max f g t u is also e =
    let a = front max (f ++ t) f t is refl in
    let b = front max (f ++ t) g u also e in
    let n : length g ≡ length f = sym b.size ∙ a.size in (
      sym (take_at f t (length f) refl) ∙ ap (take (length f)) e ∙ take_at g u (length f) n,
      sym (drop_at f t (length f) refl) ∙ ap (drop (length f)) e ∙ drop_at g u (length f) n,
    )

short_and_long : (s : List ℕ) → (message_length s < 20) ⊎ (message_length s % 4 ≢ 0) → 20 ≤ message_length s →
    message_length s % 4 ≡ 0 → ⊥
short_and_long s (inl low) least four = omega arith
short_and_long s (inr odd) least four = odd four

-- a stream has one fault at most
pub one_fault : (max : ℕ) (s : List ℕ) (f g : FrameFault) → HasFault max s f → HasFault max s g → f ≡ g
one_fault max s BadVersion BadVersion h k = refl
one_fault max s BadVersion BadLength h k = absurd (h.1 k.1)
one_fault max s BadVersion TooLong h k = absurd (h.1 k.1)
one_fault max s BadLength BadVersion h k = absurd (k.1 h.1)
one_fault max s BadLength BadLength h k = refl
one_fault max s BadLength TooLong h k = absurd (short_and_long s h.2 k.2 k.3)
one_fault max s TooLong BadVersion h k = absurd (k.1 h.1)
one_fault max s TooLong BadLength h k = absurd (short_and_long s k.2 h.2 h.3)
one_fault max s TooLong TooLong h k = refl
one_fault max s NoMemory g h k = absurd h
one_fault max s f NoMemory h k = absurd k

-- nothing is wrong yet where less than the Message Length came
pub partial_empty : (max : ℕ) (s : List ℕ) → length s ≡ 0 → IsPartial max s
partial_empty max s e = record {
  no_frame = λ f t is at. let a = front max s f t is at in let l = a.least in let w = a.within in omega arith;
  no_fault = none;
} where
  none : (fault : FrameFault) → HasFault max s fault → ⊥
  none BadVersion h = let l = h.0 in omega arith
  none BadLength h = let l = h.0 in omega arith
  none TooLong h = let l = h.0 in omega arith
  none NoMemory h = h

pub partial_header : (max : ℕ) (s : List ℕ) → slice_index s 0 ≡ 1 → length s < 4 → IsPartial max s
partial_header max s v e = record {
  no_frame = λ f t is at. let a = front max s f t is at in let l = a.least in let w = a.within in omega arith;
  no_fault = none;
} where
  none : (fault : FrameFault) → HasFault max s fault → ⊥
  none BadVersion h = h.1 v
  none BadLength h = let l = h.0 in omega arith
  none TooLong h = let l = h.0 in omega arith
  none NoMemory h = h

pub partial_body : (max : ℕ) (s : List ℕ) → slice_index s 0 ≡ 1 → 20 ≤ message_length s → message_length s % 4 ≡ 0 →
    message_length s ≤ max → length s < message_length s → IsPartial max s
partial_body max s v low four most e = record {
  no_frame = λ f t is at. let a = front max s f t is at in let l = a.size in let w = a.within in omega arith;
  no_fault = none;
} where
  none : (fault : FrameFault) → HasFault max s fault → ⊥
  none BadVersion h = h.1 v
  none BadLength h = by h.2 where
    by : (message_length s < 20) ⊎ (message_length s % 4 ≢ 0) → ⊥
    by (inl less) = omega arith
    by (inr odd) = odd four
  none TooLong h = let above = h.4 in omega arith
  none NoMemory h = h
