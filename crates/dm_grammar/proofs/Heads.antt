-- What the tokens of a head tell.
use Rattle.std.proofs.Common.{◌≡◌, ℕ, List, [], ◌∷◌, ◌++◌, drop, Result, Ok, Err, Option, Some, None, MatchOption, refl, Bool, true, false, ap, sym, subst, ◌∙◌, if◌then◌else◌, nat_eq, arith}
use Rattle.dm_grammar.specs.declared.reading.Reading.{Reading}
use Rattle.dm_grammar.specs.declared.reading.Version.{Version}
use Rattle.std.proofs.lemmas.Bool.{and_parts}
use Rattle.std.proofs.lemmas.Bool.Decides.{nat_tests}
use Rattle.dm_grammar.specs.declared.symbol.Symbol.{Symbol}
use Rattle.dm_grammar.specs.declared.symbol.Symbol.TheVariants as symbols
use Rattle.dm_grammar.specs.declared.terminal.Terminal.TheVariants.{One}
use Rattle.dm_grammar.specs.declared.token.Token.{Token}
use Rattle.dm_grammar.specs.Tokens.{Word}
use Rattle.dm_grammar.specs.Views.{view_word, view_option}
use Rattle.dm_grammar.specs.Grammar.{GrammarStep, fits, symbol_number, steps_from, on, may_end}
use Rattle.dm_grammar.specs.Places.{GrammarPlace, TokenRole}
use Rattle.dm_grammar.specs.Places.GrammarPlace.{InRule, Coded, CodedComma, Requested, RequestedComma, Proxied, ProxiedComma, Flagged, FlaggedComma, HeadEnd}
use Rattle.dm_grammar.specs.Places.TokenRole.{NoPart, SecondIs, CodeIs, CommandHead, RequestFlag, ProxiableFlag, ErrorFlag, Rules}
use Rattle.dm_grammar.specs.Readers.{begins_with, begins_flag, with_second, with_end, with_head}
use Rattle.dm_grammar.specs.Told.{Gathered, filled, collect}

-- what `take_token_if` answers
abbrev pub Taken : Symbol → Option Token → List Word → List Word → Type 0
Taken s v ws rest =
    MatchOption v ((rest ≡ ws) × (begins_with (One s) ws ≡ false))
    (λ t. (ws ≡ view_word t ∷ rest) × (fits (One s) (view_word t).symbol ≡ true))

-- `>` before a rule
no_second : (g : Word) (r : Result Gathered ℕ) → filled Rules g r ≡ with_second None r
no_second g (Ok told) = refl
no_second g (Err line) = refl

pub a_second : (n g : Word) (r : Result Gathered ℕ) → filled SecondIs n (filled Rules g r) ≡ with_second (Some n) r
a_second n g (Ok told) = refl
a_second n g (Err line) = refl

pub nothing_told : (w : Word) (r : Result Gathered ℕ) → filled NoPart w r ≡ r
nothing_told w (Ok told) = refl
nothing_told w (Err line) = refl

-- a comma, before a number
pub comma_number : (how : Reading) (c : Word) (ws rest : List Word) → ws ≡ c ∷ rest
    → fits (One symbols.Comma) c.symbol ≡ true → collect how Flagged ws ≡ collect how FlaggedComma rest
comma_number how c ws rest e h = rw (e, collect, h) (nothing_told c (collect how FlaggedComma rest))

-- no comma: a number, or none
pub fits_one : (s t u : Symbol) → nat_eq (symbol_number s) (symbol_number t) ≡ false → fits (One s) u ≡ true
    → fits (One t) u ≡ false
fits_one s t u a b = grind (arith, nat_tests)

number_there : (how : Reading) (n : Word) (rest : List Word) → fits (One symbols.Number) n.symbol ≡ true
    → collect how Flagged (n ∷ rest) ≡ filled SecondIs n (collect how HeadEnd rest)
number_there how n rest h = let c = fits_one symbols.Number symbols.Comma n.symbol refl h in rw (collect, c, h) refl

number_missing : (how : Reading) (ws : List Word) → begins_with (One symbols.Comma) ws ≡ false
    → begins_with (One symbols.Number) ws ≡ false → collect how Flagged ws ≡ collect how HeadEnd ws
number_missing how [] c h = refl
number_missing how (w ∷ ws) c h = rw (collect, c, h) refl

pub plain_end : (how : Reading) (ws rest end : List Word) (v : Option Token) (g : Word)
    → begins_with (One symbols.Comma) ws ≡ false → Taken symbols.Number v ws rest
    → collect how HeadEnd rest ≡ filled Rules g (collect how InRule end)
    → collect how Flagged ws ≡ with_second (view_option v) (collect how InRule end)
plain_end how ws rest end None g c n h =
    number_missing how ws c n.1 ∙
    (subst (λ (s : List Word). collect how HeadEnd s ≡ filled Rules g (collect how InRule end)) n.0 h
    ∙ no_second g (collect how InRule end))
plain_end how ws rest end (Some v) g c n h =
    ap (collect how Flagged) n.0 ∙
    (number_there how (view_word v) rest n.1 ∙ (ap (filled SecondIs (view_word v)) h ∙ a_second (view_word v) g
    (collect how InRule end)))

pub plain_fault : (how : Reading) (line : ℕ) (ws rest : List Word) (v : Option Token)
    → begins_with (One symbols.Comma) ws ≡ false
    → Taken symbols.Number v ws rest → collect how HeadEnd rest ≡ Err line → collect how Flagged ws ≡ Err line
plain_fault how line ws rest None c n h =
    number_missing how ws c n.1 ∙ subst (λ (s : List Word). collect how HeadEnd s ≡ Err line) n.0 h
plain_fault how line ws rest (Some v) c n h =
    ap (collect how Flagged) n.0 ∙ (number_there how (view_word v) rest n.1 ∙ ap (filled SecondIs (view_word v)) h)

-- a place where a flag may stand behind a comma, and the place behind the flag
pub record FlagPlace (v : Version) (p pc q qc : GrammarPlace) (s : Symbol) (role : TokenRole) (after : List GrammarStep) : Type 0 where
  pub here : steps_from v p ≡ on symbols.Comma pc NoPart ++ after
  pub there : steps_from v q ≡ on symbols.Comma qc NoPart ++ after
  pub behind : steps_from v pc ≡ on s q role ++ steps_from v qc
  pub no_end : may_end p ≡ false
  pub no_end_there : may_end q ≡ false
  pub no_end_behind : may_end pc ≡ false
  pub no_end_comma : may_end qc ≡ false

-- a flag sets its part
abbrev pub flag_told : TokenRole → Gathered → Gathered
flag_told RequestFlag told = record told { request = true }
flag_told ProxiableFlag told = record told { proxiable = true }
flag_told ErrorFlag told = record told { error = true }
flag_told _ told = told

abbrev pub flagged : TokenRole → Bool → Result Gathered ℕ → Result Gathered ℕ
flagged role b (Ok told) = Ok (if b then flag_told role told else told)
flagged role b (Err line) = Err line

abbrev pub behind_flag : Bool → List Word → List Word
behind_flag b ws = if b then drop 2 ws else ws

not_flagged : (role : TokenRole) (r : Result Gathered ℕ) → r ≡ flagged role false r
not_flagged role (Ok told) = refl
not_flagged role (Err line) = refl

flag_behind_comma : (how : Reading) (p pc q qc : GrammarPlace) (s : Symbol) (role : TokenRole) (after : List GrammarStep)
    → FlagPlace how.version p pc q qc s role after → (ws : List Word) → begins_with (One s) ws ≡ false
    → collect how pc ws ≡ collect how qc ws
flag_behind_comma how p pc q qc s role after f [] h = rw (collect, f.no_end_behind, f.no_end_comma) refl
flag_behind_comma how p pc q qc s role after f (w ∷ ws) h = rw (collect, f.behind, h) refl

no_flag : (b : Bool) (how : Reading) (p pc q qc : GrammarPlace) (s : Symbol) (role : TokenRole) (after : List GrammarStep)
    → FlagPlace how.version p pc q qc s role after → (w : Word) (ws : List Word) → fits (One symbols.Comma) w.symbol ≡ b
    → (b ≡ true → begins_with (One s) ws ≡ false) → collect how p (w ∷ ws) ≡ collect how q (w ∷ ws)
no_flag true how p pc q qc s role after f w ws c h =
    rw (collect, f.here, f.there, c)
    (ap (filled NoPart w) (flag_behind_comma how p pc q qc s role after f ws (h refl)))
no_flag false how p pc q qc s role after f w ws c h = rw (collect, f.here, f.there, c) refl

a_flag : (how : Reading) (p pc q qc : GrammarPlace) (s : Symbol) (role : TokenRole) (after : List GrammarStep)
    → FlagPlace how.version p pc q qc s role after → (c w : Word) (ws : List Word)
    → fits (One symbols.Comma) c.symbol ≡ true
    → fits (One s) w.symbol ≡ true → collect how p (c ∷ w ∷ ws) ≡ filled NoPart c (filled role w (collect how q ws))
a_flag how p pc q qc s role after f c w ws h k =
    rw (collect, f.here, h) (ap (filled NoPart c) (rw (collect, f.behind, k) refl))

flag_read : (how : Reading) (p pc q qc : GrammarPlace) (s : Symbol) (role : TokenRole) (after : List GrammarStep)
    → FlagPlace how.version p pc q qc s role after
    → ((w : Word) (r : Result Gathered ℕ) → filled role w r ≡ flagged role true r) →
    (b : Bool) (ws : List Word) → b ≡ begins_flag s ws
    → collect how p ws ≡ flagged role b (collect how q (behind_flag b ws))
flag_read how p pc q qc s role after f sets true [] h = absurd cc
flag_read how p pc q qc s role after f sets false [] h = rw (collect, f.no_end, f.no_end_there) refl
flag_read how p pc q qc s role after f sets false (w ∷ ws) h =
    no_flag (fits (One symbols.Comma) w.symbol) how p pc q qc s role after f w ws refl (λ t. sym (rw t at h))
    ∙ not_flagged role (collect how q (w ∷ ws))
flag_read how p pc q qc s role after f sets true (c ∷ []) h =
    let e = and_parts (fits (One symbols.Comma) c.symbol) (begins_with (One s) []) (sym h) in
    absurd cc
flag_read how p pc q qc s role after f sets true (c ∷ w ∷ ws) h =
    let e = and_parts (fits (One symbols.Comma) c.symbol) (fits (One s) w.symbol) (sym h) in
    a_flag how p pc q qc s role after f c w ws e.0 e.1 ∙
    (nothing_told c (filled role w (collect how q ws)) ∙ sets w (collect how q ws))

abbrev pub after_flags : List GrammarStep
after_flags = on symbols.Number HeadEnd SecondIs ++ on symbols.Greater InRule Rules

sets_request : (w : Word) (r : Result Gathered ℕ) → filled RequestFlag w r ≡ flagged RequestFlag true r
sets_request w (Ok told) = refl
sets_request w (Err line) = refl

sets_proxiable : (w : Word) (r : Result Gathered ℕ) → filled ProxiableFlag w r ≡ flagged ProxiableFlag true r
sets_proxiable w (Ok told) = refl
sets_proxiable w (Err line) = refl

sets_error : (w : Word) (r : Result Gathered ℕ) → filled ErrorFlag w r ≡ flagged ErrorFlag true r
sets_error w (Ok told) = refl
sets_error w (Err line) = refl

pub request_place : (v : Version)
    → FlagPlace v Coded CodedComma Requested RequestedComma symbols.Req RequestFlag after_flags
request_place v =
    record {
      here = refl;
      there = refl;
      behind = refl;
      no_end = refl;
      no_end_there = refl;
      no_end_behind = refl;
      no_end_comma = refl;
    }

pub proxiable_place : (v : Version)
    → FlagPlace v Requested RequestedComma Proxied ProxiedComma symbols.Pxy ProxiableFlag after_flags
proxiable_place v =
    record {
      here = refl;
      there = refl;
      behind = refl;
      no_end = refl;
      no_end_there = refl;
      no_end_behind = refl;
      no_end_comma = refl;
    }

pub error_place : (v : Version) → FlagPlace v Proxied ProxiedComma Flagged FlaggedComma symbols.Err ErrorFlag after_flags
error_place v =
    record {
      here = refl;
      there = refl;
      behind = refl;
      no_end = refl;
      no_end_there = refl;
      no_end_behind = refl;
      no_end_comma = refl;
    }

-- what follows the code of a command, as the flags are read
pub flags_read : (how : Reading) (ws vs us ts : List Word) (request proxiable error : Bool)
    → request ≡ begins_flag symbols.Req ws → vs ≡ behind_flag request ws → proxiable ≡ begins_flag symbols.Pxy vs
    → us ≡ behind_flag proxiable vs → error ≡ begins_flag symbols.Err us → ts ≡ behind_flag error us →
    collect how Coded ws ≡ flagged RequestFlag request
    (flagged ProxiableFlag proxiable (flagged ErrorFlag error (collect how Flagged ts)))
flags_read how ws vs us ts request proxiable error a b c d e f =
    flag_read how Coded CodedComma Requested RequestedComma symbols.Req RequestFlag after_flags
    (request_place how.version) sets_request request ws a
    ∙ ap (flagged RequestFlag request)
    (ap (collect how Requested) (sym b) ∙
    (flag_read how Requested RequestedComma Proxied ProxiedComma symbols.Pxy ProxiableFlag after_flags
    (proxiable_place how.version) sets_proxiable proxiable vs c
    ∙ ap (flagged ProxiableFlag proxiable)
    (ap (collect how Proxied) (sym d) ∙
    (flag_read how Proxied ProxiedComma Flagged FlaggedComma symbols.Err ErrorFlag after_flags
    (error_place how.version) sets_error error us e
    ∙ ap (λ (us : List Word). flagged ErrorFlag error (collect how Flagged us)) (sym f)))))

pub command_told : (w code : Word) (request proxiable error : Bool) (second : Option Word) (r : Result Gathered ℕ) →
    filled CommandHead w
    (filled CodeIs code (flagged RequestFlag request (flagged ProxiableFlag proxiable (flagged ErrorFlag error
    (with_second second r))))) ≡ with_head (record {
      command = true;
      code = code;
      request = request;
      proxiable = proxiable;
      error = error;
      second = second;
      named = None;
    }) r
command_told w code request proxiable error second (Err line) = refl
command_told w code true true true second (Ok told) = refl
command_told w code true true false second (Ok told) = refl
command_told w code true false true second (Ok told) = refl
command_told w code true false false second (Ok told) = refl
command_told w code false true true second (Ok told) = refl
command_told w code false true false second (Ok told) = refl
command_told w code false false true second (Ok told) = refl
command_told w code false false false second (Ok told) = refl

pub group_told : (code : Word) (named second : Option Word) (r : Result Gathered ℕ)
    → filled CodeIs code (with_end named second r) ≡ with_head
    (record {
      command = false;
      code = code;
      request = false;
      proxiable = false;
      error = false;
      second = second;
      named = named;
    }) r
group_told code named second (Ok told) = refl
group_told code named second (Err line) = refl
