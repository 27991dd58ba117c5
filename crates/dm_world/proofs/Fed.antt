-- A direction stays one of frames, with the octets of the front one that were delivered in its framer.
use Rattle.std.proofs.Common.{◌≡◌, ℕ, ◌+◌, ◌-◌, ◌<◌, true, nat_lt, None, List, [], ◌∷◌, ◌++◌, length, take, drop}
use Rattle.std.proofs.Common.{Some, slice_get, sym, ap, subst, ◌∙◌, arith}
use Rattle.std.proofs.lemmas.Bool.Decides.{nat_tests}
use Rattle.std.proofs.lemmas.List.{append-nil, take-append-drop, take-take, drop-take, take_rest}
use Rattle.dm_framer.specs.Frames.{IsFrame, Framed}
use Rattle.dm_framer.specs.Laws.{WholeFrames}
use Rattle.dm_framer.specs.Stream.{Stream}
use Rattle.dm_world.specs.Fed.{front_in, octets_to_come, holding, IsFed}

above_is : (a b : ℕ) → a < b → nat_lt a b ≡ true
above_is a b h = grind (arith, nat_tests)

-- more octets of the front message, and not its last
take_both : (n k : ℕ) (s : List ℕ) → take n s ++ take k (drop n s) ≡ take (n + k) s
take_both n k s =
    ap (λ t. t ++ take k (drop n s)) (sym (take-take n (n + k) s (omega arith)))
    ∙ ap (λ t. take n (take (n + k) s) ++ t) (sym (drop-take n k s))
    ∙ take-append-drop n (take (n + k) s)

fed_more : (ms : List (List ℕ)) (n k : ℕ) (old framer : Stream) → IsFed ms n old → k < octets_to_come ms n →
    framer ≡ holding (old.octets ++ take k (drop n (front_in ms))) → IsFed ms (n + k) framer
fed_more [] n k old framer was below is = absurd (omega arith)
fed_more (x ∷ xs) n k old framer was below is =
    record {
      frames = was.frames;
      cut = above_is (n + k) (length x) (omega arith);
      fed = is ∙ ap (λ (o : Stream). holding (o.octets ++ take k (drop n x))) was.fed ∙ ap holding (take_both n k x);
    }

-- as a slice of the front message feeds them
pub fed_piece : (ms : List (List ℕ)) (n k : ℕ) (old framer : Stream) (y : List ℕ) → IsFed ms n old →
    k < octets_to_come ms n → Some y ≡ slice_get ms 0 →
    framer ≡ record { octets = old.octets ++ take (n + k - n) (drop n y); max = old.max; fault = old.fault } →
    IsFed ms (n + k) framer
fed_piece [] n k old framer y was below at is = absurd (omega arith)
fed_piece (z ∷ zs) n k old framer y was below at is =
    let size : n + k - n ≡ k = omega arith in
    let front : y ≡ z = cc in
    let now : framer ≡ record { octets = old.octets ++ take k (drop n z); max = 16777212; fault = None } =
    is
    ∙ ap (λ (i : ℕ). record { octets = old.octets ++ take i (drop n y); max = old.max; fault = old.fault }) size
    ∙ ap (λ (s : List ℕ). record { octets = old.octets ++ take k (drop n s); max = old.max; fault = old.fault }) front
    ∙ ap (λ (o : Stream). record { octets = old.octets ++ take k (drop n z); max = o.max; fault = o.fault }) was.fed in
    fed_more (z ∷ zs) n k old framer was below now

-- a framer that holds the first octets of a message, and is fed the rest of it
pub fed_whole : (n : ℕ) (x : List ℕ) (held copied fed : Stream) → held ≡ holding (take n x) → copied ≡ held →
    fed ≡ record { octets = copied.octets ++ take (length x - n) (drop n x); max = copied.max; fault = copied.fault } →
    fed ≡ holding x
fed_whole n x held copied fed holds copy is =
    is
    ∙ ap (λ (s : List ℕ). record { octets = copied.octets ++ s; max = copied.max; fault = copied.fault })
    (take_rest x n)
    ∙ ap (λ (o : Stream). record { octets = o.octets ++ drop n x; max = o.max; fault = o.fault }) (copy ∙ holds)
    ∙ ap holding (take-append-drop n x)

-- it holds just that frame
pub fed_framed : WholeFrames → (x : List ℕ) (fed : Stream) → IsFrame 16777212 x → fed ≡ holding x →
    Framed fed.max fed.octets (x ∷ []) [] None
fed_framed law x fed frame is =
    let one : Framed 16777212 (x ++ []) (x ∷ []) [] None = law 16777212 (x ∷ []) (frame, tt) in
    subst (λ (o : Stream). Framed o.max o.octets (x ∷ []) [] None) (sym is)
    (subst (λ s. Framed 16777212 s (x ∷ []) [] None) (append-nil x) one)
