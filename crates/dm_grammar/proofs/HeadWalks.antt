-- What tokens tell that are written by a title and a head.
use Rattle.std.proofs.Common.{◌≡◌, ℕ, List, ◌∷◌, ◌++◌, Option, Some, None, refl, Bool, true, false, ap, ◌∙◌, inl, inr}
use Rattle.dm_grammar.specs.declared.reading.Reading.{Reading}
use Rattle.dm_grammar.specs.declared.reading.Version.{Version}
use Rattle.dm_grammar.specs.declared.reading.Version.TheVariants.{First, Second}
use Rattle.dm_grammar.specs.declared.symbol.Symbol.{Symbol}
use Rattle.dm_grammar.specs.declared.symbol.Symbol.TheVariants as symbols
use Rattle.dm_grammar.specs.declared.terminal.Terminal.TheVariants.{AnyName, One}
use Rattle.dm_grammar.specs.Tokens.{Word}
use Rattle.dm_grammar.specs.Places.{GrammarPlace, TokenRole}
use Rattle.dm_grammar.specs.Places.GrammarPlace.{Text, TitleLess, TitleName, Titled, Defined, Head, CommandWord, CommandColon, CommandCode, Coded, CodedComma, Requested, RequestedComma, Proxied, ProxiedComma, GroupWord, GroupColon, GroupCode, GroupCoded, GroupNamed, Flagged, FlaggedComma, HeadEnd, InRule}
use Rattle.dm_grammar.specs.Places.TokenRole.{NoPart, BeginsItem, CodeIs, SecondIs, NamedIs, TitleIs, CommandHead, GroupHead, RequestFlag, ProxiableFlag, ErrorFlag, Rules}
use Rattle.dm_grammar.specs.Grammar.{GrammarStep, on, colon_steps}
use Rattle.dm_grammar.specs.Items.{VendorReference, EntryParts, GroupParts, CommandParts, Written}
use Rattle.dm_grammar.specs.Items.VendorReference.{NumberedBy, NamedBy}
use Rattle.dm_grammar.specs.Items.Written.{GroupIs, CommandIs}
use Rattle.dm_grammar.specs.Readers.{reference_told}
use Rattle.dm_grammar.specs.Told.{Gathered, none_gathered, fill}
use Rattle.dm_grammar.specs.Spelling.{Phrase, name_is, number_is, reference_is, title, flag, second, group_vendor, command_head, group_head}
use Rattle.dm_grammar.specs.Spelling.Phrase.{Empty, Literal, ◌then◌, ◌or◌}
use Rattle.dm_grammar.proofs.Heads.{FlagPlace, request_place, proxiable_place, error_place, after_flags}
use Rattle.dm_grammar.proofs.MoreSteps.{more_flags}
use Rattle.dm_grammar.proofs.Walks.{before_items, before_rule, Walk, blank, mark, this, stay, never, narrow, widen, ◌also◌, either}

-- [number]
abbrev pub second_told : Option Word → Gathered → Gathered
second_told None t = t
second_told (Some w) t = fill SecondIs w t

-- title = "<" name ">" | name
title_walk : (how : Reading) (w : Word) → Walk how Text (title w) Titled (fill TitleIs w)
title_walk how w =
    either how Text Titled (Literal symbols.Less then name_is w then Literal symbols.Greater) (name_is w) (fill TitleIs w)
    (mark how Text TitleLess symbols.Less BeginsItem (λ w f. inr (inl (f, refl))) (λ w t. refl)
    also this how TitleLess TitleName AnyName TitleIs w (λ w f. inl (f, refl))
    also mark how TitleName Titled symbols.Greater NoPart (λ w f. inl (f, refl)) (λ w t. refl))
    (this how Text Titled AnyName TitleIs w (λ w f. inr (inr (inl (f, refl)))))

-- [[","] number]
second_walk : (how : Reading) (v : Option Word) → Walk how Flagged (second v) HeadEnd (second_told v)
second_walk how None =
    narrow how Flagged Flagged HeadEnd Empty (λ (t : Gathered). t)
    (on symbols.Comma FlaggedComma NoPart ++ on symbols.Number HeadEnd SecondIs) (stay how Flagged) refl (λ e. e)
second_walk how (Some w) =
    either how Flagged HeadEnd (Literal symbols.Comma then number_is w) (number_is w) (fill SecondIs w)
    (mark how Flagged FlaggedComma symbols.Comma NoPart (λ w f. inl (f, refl)) (λ w t. refl)
    also this how FlaggedComma HeadEnd (One symbols.Number) SecondIs w (λ w f. inl (f, refl)))
    (this how Flagged HeadEnd (One symbols.Number) SecondIs w (λ w f. inr (inl (f, refl))))

-- ["," flag]
abbrev flag_told : TokenRole → Bool → Gathered → Gathered
flag_told role false t = t
flag_told role true t = fill role blank t

no_flag : (how : Reading) (p pc q qc : GrammarPlace) (s : Symbol) (role : TokenRole) (after : List GrammarStep)
    → FlagPlace how.version p pc q qc s role after → Walk how p Empty q (λ (t : Gathered). t)
no_flag how p pc q qc s role after f =
    record { go = λ Behind t k ws h. more_flags how p pc q qc s role after t ws f (k ws h) }

request_walk : (how : Reading) (b : Bool) → Walk how Coded (flag symbols.Req b) Requested (flag_told RequestFlag b)
request_walk how false =
    no_flag how Coded CodedComma Requested RequestedComma symbols.Req RequestFlag after_flags (request_place how.version)
request_walk how true =
    mark how Coded CodedComma symbols.Comma NoPart (λ w f. inl (f, refl)) (λ w t. refl)
    also mark how CodedComma Requested symbols.Req RequestFlag (λ w f. inl (f, refl)) (λ w t. refl)

proxiable_walk : (how : Reading) (b : Bool) → Walk how Requested (flag symbols.Pxy b) Proxied (flag_told ProxiableFlag b)
proxiable_walk how false =
    no_flag how Requested RequestedComma Proxied ProxiedComma symbols.Pxy ProxiableFlag after_flags
    (proxiable_place how.version)
proxiable_walk how true =
    mark how Requested RequestedComma symbols.Comma NoPart (λ w f. inl (f, refl)) (λ w t. refl)
    also mark how RequestedComma Proxied symbols.Pxy ProxiableFlag (λ w f. inl (f, refl)) (λ w t. refl)

error_walk : (how : Reading) (b : Bool) → Walk how Proxied (flag symbols.Err b) Flagged (flag_told ErrorFlag b)
error_walk how false =
    no_flag how Proxied ProxiedComma Flagged FlaggedComma symbols.Err ErrorFlag after_flags (error_place how.version)
error_walk how true =
    mark how Proxied ProxiedComma symbols.Comma NoPart (λ w f. inl (f, refl)) (λ w t. refl)
    also mark how ProxiedComma Flagged symbols.Err ErrorFlag (λ w f. inl (f, refl)) (λ w t. refl)

-- the first words of a command's head, and all of it
command_words_walk : (how : Reading)
    → Walk how Head (Literal symbols.Diameter then Literal symbols.Header or Literal symbols.DiameterHeader) CommandColon
    (fill CommandHead blank)
command_words_walk how =
    either how Head CommandColon (Literal symbols.Diameter then Literal symbols.Header) (Literal symbols.DiameterHeader)
    (fill CommandHead blank)
    (mark how Head CommandWord symbols.Diameter CommandHead (λ w f. inl (f, refl)) (λ w t. refl)
    also mark how CommandWord CommandColon symbols.Header NoPart (λ w f. inl (f, refl)) (λ w t. refl))
    (mark how Head CommandColon symbols.DiameterHeader CommandHead (λ w f. inr (inl (f, refl))) (λ w t. refl))

abbrev pub command_head_told : CommandParts → Gathered → Gathered
command_head_told c t =
    fill CommandHead blank (fill NoPart blank (fill CodeIs c.code (flag_told RequestFlag c.request
    (flag_told ProxiableFlag c.proxiable (flag_told ErrorFlag c.error (second_told c.application t))))))

pub command_head_walk : (how : Reading) (c : CommandParts)
    → Walk how Head (command_head c) HeadEnd (command_head_told c)
command_head_walk how c =
    command_words_walk how
    also mark how CommandColon CommandCode symbols.Colon NoPart (λ w f. inl (f, refl)) (λ w t. refl)
    also this how CommandCode Coded (One symbols.Number) CodeIs c.code (λ w f. inl (f, refl))
    also request_walk how c.request also proxiable_walk how c.proxiable also error_walk how c.error
    also second_walk how c.application

-- and of a group's
group_words_walk : (how : Reading)
    → Walk how Head (Literal symbols.Avp then Literal symbols.Header or Literal symbols.AvpHeader) GroupColon
    (fill GroupHead blank)
group_words_walk how =
    either how Head GroupColon (Literal symbols.Avp then Literal symbols.Header) (Literal symbols.AvpHeader)
    (fill GroupHead blank)
    (mark how Head GroupWord symbols.Avp GroupHead (λ w f. inr (inr (inl (f, refl)))) (λ w t. refl)
    also mark how GroupWord GroupColon symbols.Header NoPart (λ w f. inl (f, refl)) (λ w t. refl))
    (mark how Head GroupColon symbols.AvpHeader GroupHead (λ w f. inr (inr (inr (inl (f, refl))))) (λ w t. refl))

-- [[","] number | ":" name]
group_named_walk : (v : Version) (last : ℕ) (w : Word) → let how : Reading = record { version = v; last = last } in
    Walk how GroupCoded (reference_is v (NamedBy w)) HeadEnd (fill NamedIs w)
group_named_walk First last w = never (record { version = First; last = last }) GroupCoded HeadEnd (fill NamedIs w)
group_named_walk Second last w =
    let how : Reading = record { version = Second; last = last } in
    mark how GroupCoded GroupNamed symbols.Colon NoPart (λ w f. inl (f, refl)) (λ w t. refl)
    also this how GroupNamed HeadEnd AnyName NamedIs w (λ w f. inl (f, refl))

group_vendor_walk : (how : Reading) (d : Option VendorReference)
    → Walk how GroupCoded (group_vendor how.version d) HeadEnd (reference_told d)
group_vendor_walk how None =
    widen how GroupCoded Flagged HeadEnd Empty (λ (t : Gathered). t) (colon_steps how.version GroupNamed)
    (second_walk how None) refl (λ e. e)
group_vendor_walk how (Some (NumberedBy w)) =
    widen how GroupCoded Flagged HeadEnd (second (Some w)) (fill SecondIs w) (colon_steps how.version GroupNamed)
    (second_walk how (Some w)) refl (λ e. e)
group_vendor_walk how (Some (NamedBy w)) = group_named_walk how.version how.last w

abbrev pub group_head_told : GroupParts → Gathered → Gathered
group_head_told g t = fill GroupHead blank (fill NoPart blank (fill CodeIs g.code (reference_told g.vendor t)))

pub group_head_walk : (how : Reading) (g : GroupParts)
    → Walk how Head (group_head how.version g) HeadEnd (group_head_told g)
group_head_walk how g =
    group_words_walk how
    also mark how GroupColon GroupCode symbols.Colon NoPart (λ w f. inl (f, refl)) (λ w t. refl)
    also this how GroupCode GroupCoded (One symbols.Number) CodeIs g.code (λ w f. inl (f, refl))
    also group_vendor_walk how g.vendor

-- title "::=" "<" head ">", and the parts told before a rule make a group or a command
abbrev pub definition_told : Word → (Gathered → Gathered) → Gathered → Gathered
definition_told n f t = fill TitleIs n (fill NoPart blank (fill NoPart blank (f (fill Rules blank t))))

pub definition_walk : (how : Reading) (n : Word) (a : Phrase) (f : Gathered → Gathered) → Walk how Head a HeadEnd f
    → Walk how Text (title n then Literal symbols.Define then Literal symbols.Less then a then Literal symbols.Greater) InRule
    (definition_told n f)
definition_walk how n a f head =
    title_walk how n
    also mark how Titled Defined symbols.Define NoPart (λ w f. inl (f, refl)) (λ w t. refl)
    also mark how Defined Head symbols.Less NoPart (λ w f. inl (f, refl)) (λ w t. refl)
    also head
    also mark how HeadEnd InRule symbols.Greater Rules (λ w f. inl (f, refl)) (λ w t. refl)

pub group_made : (n code : Word) (v : Option VendorReference) (es : List EntryParts) (is : List Written)
    → let g : GroupParts = record { name = n; code = code; vendor = v; rule = es } in
    definition_told n (group_head_told g) (before_rule es is) ≡ before_items (GroupIs g ∷ is)
group_made n code None es is = refl
group_made n code (Some (NumberedBy w)) es is = refl
group_made n code (Some (NamedBy w)) es is = refl

second_made : (v : Option Word) (es : List EntryParts) (is : List Written)
    → second_told v (fill Rules blank (before_rule es is)) ≡ record none_gathered { items = is; rule = es; second = v }
second_made None es is = refl
second_made (Some v) es is = refl

abbrev pub command_of : Word → Word → Bool → Bool → Bool → Option Word → List EntryParts → CommandParts
command_of n code r p e v es =
    record { name = n; code = code; request = r; proxiable = p; error = e; application = v; rule = es }

abbrev flags_told : Word → Word → Bool → Bool → Bool → Gathered → Gathered
flags_told n code r p e t =
    fill TitleIs n (fill NoPart blank (fill NoPart blank (fill CommandHead blank (fill NoPart blank (fill CodeIs code
    (flag_told RequestFlag r (flag_told ProxiableFlag p (flag_told ErrorFlag e t))))))))

flags_made : (n code : Word) (r p e : Bool) (v : Option Word) (es : List EntryParts) (is : List Written)
    → flags_told n code r p e (record none_gathered { items = is; rule = es; second = v })
    ≡ before_items (CommandIs (command_of n code r p e v es) ∷ is)
flags_made n code true true true v es is = refl
flags_made n code true true false v es is = refl
flags_made n code true false true v es is = refl
flags_made n code true false false v es is = refl
flags_made n code false true true v es is = refl
flags_made n code false true false v es is = refl
flags_made n code false false true v es is = refl
flags_made n code false false false v es is = refl

pub command_made : (c : CommandParts) (is : List Written)
    → definition_told c.name (command_head_told c) (before_rule c.rule is) ≡ before_items (CommandIs c ∷ is)
command_made c is =
    ap (flags_told c.name c.code c.request c.proxiable c.error) (second_made c.application c.rule is)
    ∙ flags_made c.name c.code c.request c.proxiable c.error c.application c.rule is
