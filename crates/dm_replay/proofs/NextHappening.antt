-- One happening more of a replay.
use Rattle.std.proofs.Common.{◌≡◌, ◌≤◌, ◌-◌, ℕ, Bool, List, [], ◌∷◌, ◌++◌, length, take, drop, get_or, append_assoc, arith, ap, sym, ◌∙◌}
use Rattle.std.proofs.lemmas.List.{take_rest}
use Rattle.dm_peer.specs.declared.peer.Peer.{Peer}
use Rattle.dm_two_peers.specs.Worlds.{World, After}
use Rattle.dm_world.specs.declared.fault.Effect.{Effect}
use Rattle.dm_world.specs.declared.fault.Effect.TheVariants as effects
use Rattle.dm_world.specs.declared.happening.Happening.{Happening}
use Rattle.dm_world.specs.Views.{Effects}
use Rattle.dm_replay.specs.ReplayLines.{trace_line}
use Rattle.dm_replay.specs.Replay.{put_before, and_then}

-- the line of an effect
pub effect_line : (effect : Effect) (n : ℕ) (w next : World Peer (List ℕ)) (after : After Peer (List ℕ))
    (others : World Peer (List ℕ) → List ℕ × Bool)
    → Effects effect after w next → and_then n w after others ≡ put_before (trace_line n effect next) (others next)
effect_line effects.Done n w next after others h = ap (λ a. and_then n w a others) h.1
effect_line effects.Ignored n w next after others h =
    ap (λ a. and_then n w a others) h.0 ∙ ap (λ v. put_before (trace_line n effects.Ignored v) (others v)) (sym h.1)

-- what is still to come fills the text up
pub go_on : (old text new line : List ℕ) (whole rest : List ℕ × Bool) → text ++ whole.0 ≡ old
    → whole ≡ put_before line rest → new ≡ text ++ line → new ++ rest.0 ≡ old
go_on old text new line whole rest h e is =
    ap (λ v. v ++ rest.0) is ∙ append_assoc text line rest.0 ∙ sym (ap (λ v. text ++ v.0) e) ∙ h

-- the first of a list, and the others
pub cut_first : (list : List Happening) (h : Happening) → 1 ≤ length list → h ≡ get_or list 0 h
    → list ≡ h ∷ take (length list - 1) (drop 1 list)
cut_first [] h some is = absurd (omega (arith, some))
cut_first (k ∷ list) h some is = ap (λ v. v ∷ list) (sym is) ∙ ap (λ v. h ∷ v) (sym (take_rest (k ∷ list) 1))
