-- What a framer's buffer says of the stream that it stands for.
use Rattle.std.proofs.Common.{◌≡◌, ◌++◌, ℕ, ◌+◌, ◌-◌, List, [], ◌∷◌, Option, length, take, drop, sym, ◌∙◌, ap}
use Rattle.std.specs.List.{concat}
use Rattle.std.proofs.lemmas.List.{take_rest, drop-drop, take-append-drop}
use Rattle.dm_framer.specs.declared.fault.FrameFault.{FrameFault}
use Rattle.dm_framer.specs.Frames.{Framed, IsFrame, IsPartial, BeginsWithNoFrame}
use Rattle.dm_framer.specs.Stream.{Stream, IsFrontFrame}
use Rattle.dm_framer.proofs.Fronts.{one_frame}
use Rattle.dm_framer.proofs.Framings.{frame_goes_first, frame_is_first, part_has_no_frame}

-- the stream of a buffer whose first octets are taken
abbrev pub stream_of : List ℕ → ℕ → ℕ → Option FrameFault → Stream
stream_of buffer taken max fault = record { octets = drop taken buffer; max = max; fault = fault }

-- what the code reads of the buffer
abbrev pub untaken : List ℕ → ℕ → List ℕ
untaken buffer taken = take (length buffer - taken) (drop taken buffer)

abbrev with_octets : ℕ → Option FrameFault → List ℕ → Stream
with_octets max fault octets = record { octets = octets; max = max; fault = fault }

-- where a frame stands, a stream with no frame is not held
pub no_frame_missed : (buffer : List ℕ) (taken size max : ℕ) (fault : Option FrameFault) (now : Stream) →
    stream_of buffer taken max fault ≡ now → IsFrame max (take size (untaken buffer taken)) →
    (rest : List ℕ) (f : Option FrameFault) → Framed now.max now.octets [] rest f → ⊥
no_frame_missed buffer taken size max fault now view is rest f h =
    let held : Framed max (drop taken buffer) [] rest f = rw (← view) at h in
    let there : IsFrame max (take size (drop taken buffer)) = rw (take_rest buffer taken) at is in
    frame_goes_first max size (drop taken buffer) rest f there held

-- where a message isn't whole, a stream with a frame is not held
pub no_frame_yet : (buffer : List ℕ) (taken max : ℕ) (fault : Option FrameFault) (now : Stream) →
    stream_of buffer taken max fault ≡ now → IsPartial max (untaken buffer taken) →
    (message : List ℕ) (frames : List (List ℕ)) (rest : List ℕ) (f : Option FrameFault) →
    Framed now.max now.octets (message ∷ frames) rest f → ⊥
no_frame_yet buffer taken max fault now view is message frames rest f h =
    let held : Framed max (drop taken buffer) (message ∷ frames) rest f = rw (← view) at h in
    let there : IsPartial max (drop taken buffer) = rw (take_rest buffer taken) at is in
    part_has_no_frame max (drop taken buffer) message frames rest f there held

-- the frame that stands there is the first, and behind it is what is left
pub first_taken : (buffer : List ℕ) (taken size max : ℕ) (fault : Option FrameFault) (now : Stream) →
    stream_of buffer taken max fault ≡ now → IsFrame max (take size (untaken buffer taken)) →
    (message : List ℕ) (frames : List (List ℕ)) (rest : List ℕ) (f : Option FrameFault) →
    Framed now.max now.octets (message ∷ frames) rest f →
    (take size (drop taken buffer) ≡ message) ×
    (stream_of buffer (taken + size) max fault ≡
    record { octets = concat frames ++ rest; max = now.max; fault = now.fault })
first_taken buffer taken size max fault now view is message frames rest f h =
    let held : Framed max (drop taken buffer) (message ∷ frames) rest f = rw (← view) at h in
    let there : IsFrame max (take size (drop taken buffer)) = rw (take_rest buffer taken) at is in
    let first = frame_is_first max size (drop taken buffer) message frames rest f there held in
    (first.0, rw (← view) (ap (with_octets max fault) (sym (drop-drop size taken buffer) ∙ first.1)))

-- the frame that stands there is the front one of the stream
pub stands_in_front : (buffer : List ℕ) (taken size max : ℕ) (fault : Option FrameFault) (now : Stream) →
    stream_of buffer taken max fault ≡ now → IsFrame max (take size (untaken buffer taken)) →
    IsFrontFrame now (take size (drop taken buffer))
stands_in_front buffer taken size max fault now view is =
    let there : IsFrame max (take size (drop taken buffer)) = rw (take_rest buffer taken) at is in
    rw (← view) record {
      frame = there;
      first = (drop size (drop taken buffer), sym (take-append-drop size (drop taken buffer)));
    }

-- and behind it is what is left, whatever frame is known to be in front
pub rest_is_left : (buffer : List ℕ) (taken size max : ℕ) (fault : Option FrameFault) (now : Stream) →
    stream_of buffer taken max fault ≡ now → IsFrame max (take size (untaken buffer taken)) →
    (message more : List ℕ) → IsFrame now.max message → now.octets ≡ message ++ more →
    stream_of buffer (taken + size) max fault ≡ record { octets = more; max = now.max; fault = now.fault }
rest_is_left buffer taken size max fault now view is message more also at =
    let there : IsFrame max (take size (drop taken buffer)) = rw (take_rest buffer taken) at is in
    let frame : IsFrame max message = rw (← view) at also in
    let octets : drop taken buffer ≡ message ++ more = rw (← view) at at in
    let same = one_frame max (take size (drop taken buffer)) message (drop size (drop taken buffer)) more there frame
    (take-append-drop size (drop taken buffer) ∙ octets) in
    rw (← view) (ap (with_octets max fault) (sym (drop-drop size taken buffer) ∙ same.1))

-- a stream that begins with no frame has none there
pub none_in_front : (buffer : List ℕ) (taken size max : ℕ) (fault : Option FrameFault) (now : Stream) →
    stream_of buffer taken max fault ≡ now → IsFrame max (take size (untaken buffer taken)) →
    BeginsWithNoFrame now.max now.octets → ⊥
none_in_front buffer taken size max fault now view is no_frame =
    let there : IsFrame max (take size (drop taken buffer)) = rw (take_rest buffer taken) at is in
    let no : BeginsWithNoFrame max (drop taken buffer) = rw (← view) at no_frame in
    no (take size (drop taken buffer)) (drop size (drop taken buffer)) there
    (sym (take-append-drop size (drop taken buffer)))
