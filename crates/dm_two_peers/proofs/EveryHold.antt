-- A test at every way in which an input concerns a connection, and at every way to hold one.
use Rattle.std.proofs.Common.{◌≡◌, Bool, true, List, [], ◌∷◌}
use Rattle.dm_machine.specs.declared.inputs.Word.{Word}
use Rattle.dm_machine.specs.declared.inputs.Word.TheVariants as word
use Rattle.dm_machine.specs.Connection.{Hold, NotHeld, Pending, OpenAsI, ClosingAsI, OpenAsR, ClosingAsR}
use Rattle.dm_machine.specs.Connection as machine
use Rattle.dm_two_peers.proofs.Every.{all_true, at}

-- a test at every way in which an input concerns a connection, and at every way to hold one
abbrev words : (Word → Bool) → List Bool
words f = f word.Unreadable ∷ f word.Cer ∷ f word.CerRefused ∷ f word.Cea ∷ f word.CeaFailed ∷ f word.Dwr ∷ f
    word.DwrBad ∷ f word.Dwa ∷ f word.DwaBad ∷ f word.Dpr ∷ f word.DprBad ∷ f word.Dpa ∷ f word.DpaBad ∷ f
    word.Other ∷ []

unfoldable pub every_word : (Word → Bool) → Bool
every_word f = all_true (words f)

at_word : (f : Word → Bool) → every_word f ≡ true → (w : Word) → f w ≡ true
unfolding every_word
at_word f e word.Unreadable = at (words f) 0 e
at_word f e word.Cer = at (words f) 1 e
at_word f e word.CerRefused = at (words f) 2 e
at_word f e word.Cea = at (words f) 3 e
at_word f e word.CeaFailed = at (words f) 4 e
at_word f e word.Dwr = at (words f) 5 e
at_word f e word.DwrBad = at (words f) 6 e
at_word f e word.Dwa = at (words f) 7 e
at_word f e word.DwaBad = at (words f) 8 e
at_word f e word.Dpr = at (words f) 9 e
at_word f e word.DprBad = at (words f) 10 e
at_word f e word.Dpa = at (words f) 11 e
at_word f e word.DpaBad = at (words f) 12 e
at_word f e word.Other = at (words f) 13 e

abbrev holds : (Hold → Bool) → List Bool
holds f = f NotHeld ∷ f Pending ∷ f machine.Made ∷ f OpenAsI ∷ f ClosingAsI ∷ f machine.Taken ∷ f OpenAsR ∷ f
    ClosingAsR ∷ []

unfoldable pub every_hold : (Hold → Bool) → Bool
every_hold f = all_true (holds f)

pub at_hold : (f : Hold → Bool) → every_hold f ≡ true → (h : Hold) → f h ≡ true
unfolding every_hold
at_hold f e NotHeld = at (holds f) 0 e
at_hold f e Pending = at (holds f) 1 e
at_hold f e machine.Made = at (holds f) 2 e
at_hold f e OpenAsI = at (holds f) 3 e
at_hold f e ClosingAsI = at (holds f) 4 e
at_hold f e machine.Taken = at (holds f) 5 e
at_hold f e OpenAsR = at (holds f) 6 e
at_hold f e ClosingAsR = at (holds f) 7 e

abbrev ways : (machine.Concern → Bool) → List Bool
ways f = f machine.NamesAnother ∷ f machine.AsksStop ∷ f machine.SaysTimeout ∷ f machine.SaysTick ∷ f machine.AsksSubmit ∷ f
    machine.StartsIt ∷ f machine.AcksIt ∷ f machine.NacksIt ∷ f machine.EndsIt ∷ every_word
    (λ w. f (machine.HeardOnIt w)) ∷ []

unfoldable pub every_way : (machine.Concern → Bool) → Bool
every_way f = all_true (ways f)

pub at_way : (f : machine.Concern → Bool) → every_way f ≡ true → (k : machine.Concern) → f k ≡ true
unfolding every_way
at_way f e machine.NamesAnother = at (ways f) 0 e
at_way f e machine.AsksStop = at (ways f) 1 e
at_way f e machine.SaysTimeout = at (ways f) 2 e
at_way f e machine.SaysTick = at (ways f) 3 e
at_way f e machine.AsksSubmit = at (ways f) 4 e
at_way f e machine.StartsIt = at (ways f) 5 e
at_way f e machine.AcksIt = at (ways f) 6 e
at_way f e machine.NacksIt = at (ways f) 7 e
at_way f e machine.EndsIt = at (ways f) 8 e
at_way f e (machine.HeardOnIt w) = at_word (λ v. f (machine.HeardOnIt v)) (at (ways f) 9 e) w
