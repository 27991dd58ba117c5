-- A run over a reader behind a buffer.
use Rattle.std.proofs.Common.{◌≡◌, ◌==◌, if◌then◌else◌, inr, ℕ, Option, None, IfSome, Result, Ok, Err, IfErr, OnOk, List, [], ap, ◌∙◌, subst, refl}
use Rattle.std.specs.Io.KnownBytes.{prepend_known}
use Rattle.std.proofs.KnownBytes.{prepend_known-nil}
use Rattle.dm_live.specs.declared.fault.LiveFault.{LiveFault}
use Rattle.dm_live.specs.declared.fault.LiveFault.TheVariants.{Memory}
use Rattle.dm_live.specs.Ending.{Ran}
use Rattle.dm_live.specs.Served.{Drafting, Serves, StopsShort}
use Rattle.dm_live.specs.Settings.{no_settings}
use Rattle.dm_live.proofs.Serving.{served_none, stopped}

-- what a reader behind a buffer of this capacity has left
abbrev pub LeftBehind : ℕ → List ℕ → Option (List ℕ) → Option (List ℕ)
LeftBehind capacity buffer left = if capacity == 0 then None else prepend_known buffer left

-- where the buffer is empty that is the reader's own
unread : {R : Type 0} (left : R → Option (List ℕ)) (inner reader : R) (buffer : List ℕ) (capacity : ℕ)
    → inner ≡ reader → buffer ≡ [] → capacity ≡ 65536 → LeftBehind capacity buffer (left inner) ≡ left reader
unread left inner reader buffer capacity same none size =
    ap (λ v. LeftBehind v buffer (left inner)) size ∙ ap (λ v. prepend_known v (left inner)) none
    ∙ prepend_known-nil (left inner) ∙ ap left same

either_way : {T : Type 0} (r : Result T LiveFault) (input old new : Option (List ℕ))
    → OnOk r (IfSome input (λ octets. Serves octets old new))
    → IfErr r (λ fault. IfSome input (λ octets. StopsShort fault octets old new))
    → IfSome input (λ octets. Ran r octets old new)
either_way (Ok v) input old new whole stopped = whole
either_way (Err fault) input old new whole stopped = stopped

pub ran_behind : {R T : Type 0} (left : R → Option (List ℕ)) (inner reader : R) (buffer : List ℕ) (capacity : ℕ)
    (r : Result T LiveFault) (old new : Option (List ℕ)) → inner ≡ reader → buffer ≡ [] → capacity ≡ 65536
    → OnOk r (IfSome (LeftBehind capacity buffer (left inner)) (λ octets. Serves octets old new))
    → IfErr r (λ fault. IfSome (LeftBehind capacity buffer (left inner)) (λ octets. StopsShort fault octets old new))
    → IfSome (left reader) (λ octets. Ran r octets old new)
ran_behind left inner reader buffer capacity r old new same none size whole stopped =
    let P : Option (List ℕ) → Type 0 = λ v. IfSome v (λ octets. Ran r octets old new) in
    subst P (unread left inner reader buffer capacity same none size)
    (either_way r (LeftBehind capacity buffer (left inner)) old new whole stopped)

-- no memory was left for the buffer
pub unbegun : (input c : Option (List ℕ)) → IfSome input (λ octets. StopsShort Memory octets c c)
unbegun input c =
    stopped input input 0 (Drafting no_settings) c c Memory (served_none input (Drafting no_settings) c refl) (inr refl)
