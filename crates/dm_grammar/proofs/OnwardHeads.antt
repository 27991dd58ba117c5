-- What stands behind a token of a head.
use Rattle.std.proofs.Common.{List, ◌∷◌, Option, Some, None, refl, Bool, true, false, inl, inr}
use Rattle.dm_grammar.specs.declared.symbol.Symbol.TheVariants as symbols
use Rattle.dm_grammar.specs.declared.reading.Version.{Version}
use Rattle.dm_grammar.specs.declared.reading.Version.TheVariants.{First, Second}
use Rattle.dm_grammar.specs.Tokens.{Word}
use Rattle.dm_grammar.specs.Places.GrammarPlace.{Head, GroupCoded, GroupNamed, Coded, CodedComma, Requested, RequestedComma, Proxied, ProxiedComma, Flagged, HeadEnd}
use Rattle.dm_grammar.specs.Grammar.{steps_from}
use Rattle.dm_grammar.specs.Items.{VendorReference, EntryParts, GroupParts, CommandParts, Written}
use Rattle.dm_grammar.specs.Items.VendorReference.{NumberedBy, NamedBy}
use Rattle.dm_grammar.specs.Spelling.{Spells}
use Rattle.dm_grammar.proofs.Onward.{IsSymbol, AreAll, HasEntries, ends_numbered, Onward, TakenOnward, only}
use Rattle.dm_grammar.proofs.Onward.Definition.{OfGroup, OfCommand}

-- parts whose name and code aren't read yet
abbrev pub group_of : Word → Option VendorReference → List EntryParts → GroupParts
group_of w v es = record { name = w; code = w; vendor = v; rule = es }

abbrev pub command_of : Word → Bool → Option Word → List EntryParts → CommandParts
command_of w e v es =
    record { name = w; code = w; request = false; proxiable = false; error = e; application = v; rule = es }

-- the end of a head: a number, or none
pub by_end : (v : Version) (w : Word) (ws : List Word) → IsSymbol symbols.Number w → Onward v HeadEnd ws
    → Onward v Flagged (w ∷ ws)
by_end v w ws f x =
    record { parts = record { second = Some w; rule = x.parts }; items = x.items; spelled = inr (f, (refl, x.spelled)) }

pub by_close : (v : Version) (w : Word) (ws : List Word) → IsSymbol symbols.Greater w → HasEntries v ws
    → Onward v Flagged (w ∷ ws)
by_close v w ws f x = record {
  parts = record { second = None; rule = x.parts };
  items = x.items;
  spelled = (f, x.spelled);
}

pub by_comma_end : (v : Version) (o w : Word) (ws : List Word) → IsSymbol symbols.Comma o → IsSymbol symbols.Number w
    → Onward v HeadEnd ws → Onward v Flagged (o ∷ w ∷ ws)
by_comma_end v o w ws f g x =
    record {
      parts = record { second = Some w; rule = x.parts };
      items = x.items;
      spelled = inl (f, (g, (refl, x.spelled)));
    }

-- no flag
pub no_error : (v : Version) (w : Word) (ws : List Word) → Onward v Flagged ws → Onward v Proxied ws
no_error v w ws x =
    record { parts = command_of w false x.parts.second x.parts.rule; items = x.items; spelled = x.spelled }

pub no_proxiable : (v : Version) (ws : List Word) → Onward v Proxied ws → Onward v Requested ws
no_proxiable v ws x = record { parts = record x.parts { proxiable = false }; items = x.items; spelled = x.spelled }

pub no_request : (v : Version) (ws : List Word) → Onward v Requested ws → Onward v Coded ws
no_request v ws x = record { parts = record x.parts { request = false }; items = x.items; spelled = x.spelled }

-- a flag behind a comma
pub an_error : (v : Version) (o w : Word) (ws : List Word) → IsSymbol symbols.Comma o → IsSymbol symbols.Err w
    → Onward v Flagged ws
    → Onward v Proxied (o ∷ w ∷ ws)
an_error v o w ws f g x =
    record { parts = command_of w true x.parts.second x.parts.rule; items = x.items; spelled = (f, (g, x.spelled)) }

pub a_proxiable : (v : Version) (o w : Word) (ws : List Word) → IsSymbol symbols.Comma o → IsSymbol symbols.Pxy w
    → Onward v Proxied ws
    → Onward v Requested (o ∷ w ∷ ws)
a_proxiable v o w ws f g x =
    record { parts = record x.parts { proxiable = true }; items = x.items; spelled = (f, (g, x.spelled)) }

pub a_request : (v : Version) (o w : Word) (ws : List Word) → IsSymbol symbols.Comma o → IsSymbol symbols.Req w
    → Onward v Requested ws
    → Onward v Coded (o ∷ w ∷ ws)
a_request v o w ws f g x =
    record { parts = record x.parts { request = true }; items = x.items; spelled = (f, (g, x.spelled)) }

-- behind the code of a command, flag by flag
pub by_proxied : (v : Version) (w : Word) (ws : List Word) → TakenOnward v (steps_from v Proxied) w ws
    → Onward v Proxied (w ∷ ws)
by_proxied v w ws (inl x) = x.1 w x.0
by_proxied v w ws (inr (inl x)) = no_error v w (w ∷ ws) (by_end v w ws x.0 x.1)
by_proxied v w ws (inr (inr (inl x))) = no_error v w (w ∷ ws) (by_close v w ws x.0 x.1)
by_proxied v w ws (inr (inr (inr x))) = absurd x

pub by_requested : (v : Version) (w : Word) (ws : List Word) → TakenOnward v (steps_from v Requested) w ws
    → Onward v Requested (w ∷ ws)
by_requested v w ws (inl x) = x.1 w x.0
by_requested v w ws (inr x) = no_proxiable v (w ∷ ws) (by_proxied v w ws (inr x))

pub by_coded : (v : Version) (w : Word) (ws : List Word) → TakenOnward v (steps_from v Coded) w ws → Onward v Coded (w ∷ ws)
by_coded v w ws (inl x) = x.1 w x.0
by_coded v w ws (inr x) = no_request v (w ∷ ws) (by_requested v w ws (inr x))

pub by_flagged : (v : Version) (w : Word) (ws : List Word) → TakenOnward v (steps_from v Flagged) w ws
    → Onward v Flagged (w ∷ ws)
by_flagged v w ws (inl x) = x.1 w x.0
by_flagged v w ws (inr (inl x)) = by_end v w ws x.0 x.1
by_flagged v w ws (inr (inr (inl x))) = by_close v w ws x.0 x.1
by_flagged v w ws (inr (inr (inr x))) = absurd x

pub by_proxied_comma : (v : Version) (w : Word) (ws : List Word) → TakenOnward v (steps_from v ProxiedComma) w ws
    → Onward v ProxiedComma (w ∷ ws)
by_proxied_comma v w ws (inl x) = λ o f. an_error v o w ws f x.0 x.1
by_proxied_comma v w ws (inr x) = let y = only x in λ o f. no_error v w (o ∷ w ∷ ws) (by_comma_end v o w ws f y.0 y.1)

pub by_requested_comma : (v : Version) (w : Word) (ws : List Word) → TakenOnward v (steps_from v RequestedComma) w ws
    → Onward v RequestedComma (w ∷ ws)
by_requested_comma v w ws (inl x) = λ o f. a_proxiable v o w ws f x.0 x.1
by_requested_comma v w ws (inr x) = λ o f. no_proxiable v (o ∷ w ∷ ws) (by_proxied_comma v w ws x o f)

pub by_coded_comma : (v : Version) (w : Word) (ws : List Word) → TakenOnward v (steps_from v CodedComma) w ws
    → Onward v CodedComma (w ∷ ws)
by_coded_comma v w ws (inl x) = λ o f. a_request v o w ws f x.0 x.1
by_coded_comma v w ws (inr x) = λ o f. no_request v (o ∷ w ∷ ws) (by_requested_comma v w ws x o f)

-- the end of a group's head
of_ending : (v : Version) (ws : List Word) (w : Word) (s : Option Word) (es : List EntryParts) (is : List Written)
    → Spells (ends_numbered (record { second = s; rule = es })) (AreAll v is) ws → Onward v GroupCoded ws
of_ending v ws w None es is h = record { parts = group_of w None es; items = is; spelled = h }
of_ending v ws w (Some n) es is h = record { parts = group_of w (Some (NumberedBy n)) es; items = is; spelled = h }

numbered_group : (v : Version) (w : Word) (ws : List Word) → Onward v Flagged ws → Onward v GroupCoded ws
numbered_group v w ws x = of_ending v ws w x.parts.second x.parts.rule x.items x.spelled

pub by_group_coded : (v : Version) (w : Word) (ws : List Word) → TakenOnward v (steps_from v GroupCoded) w ws
    → Onward v GroupCoded (w ∷ ws)
by_group_coded First w ws x = numbered_group First w (w ∷ ws) (by_flagged First w ws x)
by_group_coded Second w ws (inl x) = x.1 w x.0
by_group_coded Second w ws (inr x) = numbered_group Second w (w ∷ ws) (by_flagged Second w ws x)

pub by_group_named : (v : Version) (w : Word) (ws : List Word) → TakenOnward v (steps_from v GroupNamed) w ws
    → Onward v GroupNamed (w ∷ ws)
by_group_named First w ws x = tt
by_group_named Second w ws x =
    let y = only x in
    λ o a. record {
      parts = group_of w (Some (NamedBy w)) y.1.parts;
      items = y.1.items;
      spelled = (a, (y.0, (refl, y.1.spelled)));
    }

-- the first words of a head
pub by_head : (v : Version) (w : Word) (ws : List Word) → TakenOnward v (steps_from v Head) w ws → Onward v Head (w ∷ ws)
by_head v w ws (inl x) =
    record { parts = OfCommand x.1.parts; items = x.1.items; spelled = inl (x.0, x.1.spelled) }
by_head v w ws (inr (inl x)) =
    record { parts = OfCommand x.1.parts; items = x.1.items; spelled = inr (x.0, x.1.spelled) }
by_head v w ws (inr (inr (inl x))) =
    record { parts = OfGroup x.1.parts; items = x.1.items; spelled = inl (x.0, x.1.spelled) }
by_head v w ws (inr (inr (inr (inl x)))) =
    record { parts = OfGroup x.1.parts; items = x.1.items; spelled = inr (x.0, x.1.spelled) }
by_head v w ws (inr (inr (inr (inr x)))) = absurd x
