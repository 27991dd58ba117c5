-- What the tokens before a rule tell.
use Rattle.std.proofs.Common.{◌≡◌, ℕ, List, ◌∷◌, Result, Ok, Err, MatchResult, refl, true, ap, ◌∙◌}
use Rattle.dm_grammar.specs.declared.reading.Reading.{Reading}
use Rattle.dm_grammar.specs.declared.symbol.Symbol.TheVariants as symbols
use Rattle.dm_grammar.specs.declared.terminal.Terminal.TheVariants.{One}
use Rattle.dm_grammar.specs.Tokens.{Word}
use Rattle.dm_grammar.specs.Grammar.{fits}
use Rattle.dm_grammar.specs.Places.GrammarPlace.{Text, TitleLess, Head, CommandWord, CommandColon, GroupWord, GroupColon}
use Rattle.dm_grammar.specs.Places.TokenRole.{BeginsItem, TitleIs, CommandHead, GroupHead}
use Rattle.dm_grammar.specs.Told.{Gathered, filled, collect}
use Rattle.dm_grammar.proofs.Heads.{fits_one}

-- the first word of a head
pub command_word : (how : Reading) (w : Word) (all ws : List Word) → all ≡ w ∷ ws → w.symbol ≡ symbols.Diameter
    → collect how Head all ≡ filled CommandHead w (collect how CommandWord ws)
command_word how w all ws e s = rw (e, collect, s) refl

pub command_words : (how : Reading) (w : Word) (all ws : List Word) → all ≡ w ∷ ws → w.symbol ≡ symbols.DiameterHeader
    → collect how Head all ≡ filled CommandHead w (collect how CommandColon ws)
command_words how w all ws e s = rw (e, collect, s) refl

group_same : (w : Word) (r : Result Gathered ℕ) → filled GroupHead w r ≡ r
group_same w (Ok told) = refl
group_same w (Err line) = refl

pub group_word : (how : Reading) (w : Word) (all ws : List Word) → all ≡ w ∷ ws → w.symbol ≡ symbols.Avp
    → collect how Head all ≡ collect how GroupWord ws
group_word how w all ws e s = rw (e, collect, s) (group_same w (collect how GroupWord ws))

pub group_words : (how : Reading) (w : Word) (all ws : List Word) → all ≡ w ∷ ws → w.symbol ≡ symbols.AvpHeader
    → collect how Head all ≡ collect how GroupColon ws
group_words how w all ws e s = rw (e, collect, s) (group_same w (collect how GroupColon ws))

-- a reader's answer, as that of the place before
pub from_command : {X : Type 0} (w : Word) (A B : Result Gathered ℕ) (F : X → Result Gathered ℕ) (r : Result X ℕ)
    → B ≡ filled CommandHead w A → MatchResult r (λ x. filled CommandHead w A ≡ F x) (λ line. A ≡ Err line)
    → MatchResult r (λ x. B ≡ F x) (λ line. B ≡ Err line)
from_command w A B F (Ok x) e h = e ∙ h
from_command w A B F (Err line) e h = e ∙ ap (filled CommandHead w) h

pub from_words : {X : Type 0} (w : Word) (A B : Result Gathered ℕ) (F : X → Result Gathered ℕ) (r : Result X ℕ)
    → B ≡ A → MatchResult r (λ x. filled CommandHead w A ≡ F x) (λ line. A ≡ Err line)
    → MatchResult r (λ x. filled CommandHead w B ≡ F x) (λ line. B ≡ Err line)
from_words w A B F (Ok x) e h = ap (filled CommandHead w) e ∙ h
from_words w A B F (Err line) e h = e ∙ h

pub from_place : {X : Type 0} (A B : Result Gathered ℕ) (F : X → Result Gathered ℕ) (r : Result X ℕ) → B ≡ A
    → MatchResult r (λ x. A ≡ F x) (λ line. A ≡ Err line) → MatchResult r (λ x. B ≡ F x) (λ line. B ≡ Err line)
from_place A B F (Ok x) e h = e ∙ h
from_place A B F (Err line) e h = e ∙ h

-- "<" before a title
pub less_title : (how : Reading) (w : Word) (all ws : List Word) → all ≡ w ∷ ws
    → fits (One symbols.Less) w.symbol ≡ true
    → collect how Text all ≡ filled BeginsItem w (collect how TitleLess ws)
less_title how w all ws e h =
    let no_at = fits_one symbols.Less symbols.At w.symbol refl h in rw (e, collect, no_at, h) refl

pub title_begins : (o n : Word) (r : Result Gathered ℕ) → filled BeginsItem o (filled TitleIs n r) ≡ filled TitleIs n r
title_begins o n (Ok told) = refl
title_begins o n (Err line) = refl
