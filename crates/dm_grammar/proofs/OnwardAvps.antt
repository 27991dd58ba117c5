-- What stands behind the tokens of a vendor, and behind those of an AVP.
use Rattle.std.proofs.Common.{◌≡◌, List, [], ◌∷◌, Option, Some, None, refl, true, not, nat_eq, inl, inr}
use Rattle.std.proofs.lemmas.Bool.{and_parts}
use Rattle.dm_grammar.specs.declared.reading.Version.{Version}
use Rattle.dm_grammar.specs.declared.reading.Version.TheVariants.{First, Second}
use Rattle.dm_grammar.specs.declared.symbol.Symbol.{Symbol}
use Rattle.dm_grammar.specs.declared.symbol.Symbol.TheVariants as symbols
use Rattle.dm_grammar.specs.declared.terminal.Terminal.TheVariants.{NameBut}
use Rattle.dm_grammar.specs.Tokens.{Word}
use Rattle.dm_grammar.specs.Places.GrammarPlace.{AtSign, AvpName, AvpCode, Typed, TypedColon, AtVendor, VendorNamed, Listed, ListedColon, Vendored, ListOpen, ValueName, ValueEnd}
use Rattle.dm_grammar.specs.Grammar.{fits, is_name_symbol, steps_from, symbol_number, list_steps}
use Rattle.dm_grammar.specs.Items.{VendorReference, ValueParts, AvpParts, Written}
use Rattle.dm_grammar.specs.Items.VendorReference.{NumberedBy, NamedBy}
use Rattle.dm_grammar.specs.Items.Written.{VendorIs, AvpIs}
use Rattle.dm_grammar.specs.Spelling.{Spells, reference_may}
use Rattle.dm_grammar.specs.Spelling.Phrase.{◌then◌}
use Rattle.dm_grammar.proofs.Avps.{word_is_name}
use Rattle.dm_grammar.proofs.Onward.{AreAll, IsSymbol, IsName, HasItems, lists, Onward, TakenOnward, only}
use Rattle.dm_grammar.proofs.OnwardRules.{by_item}

-- parts whose name and code aren't read yet
abbrev avp_of : Word → Option VendorReference → List ValueParts → AvpParts
avp_of w d xs = record { name = w; code = w; kind = w; vendor = d; values = xs }

name_but : (s t : Symbol) → fits (NameBut s) t ≡ true → is_name_symbol t ≡ true
name_but s t h = (and_parts (is_name_symbol t) (not (nat_eq (symbol_number s) (symbol_number t))) h).0

-- "@" name number type ..
an_avp : (v : Version) (o w : Word) (ws : List Word) → IsSymbol symbols.At o → IsName w → Onward v AvpName ws
    → HasItems v (o ∷ w ∷ ws)
an_avp v o w ws a f x =
    record { items = AvpIs (record x.parts { name = w }) ∷ x.items; spelled = (a, (f, (refl, x.spelled))) }

pub by_at_sign : (v : Version) (w : Word) (ws : List Word) → TakenOnward v (steps_from v AtSign) w ws
    → Onward v AtSign (w ∷ ws)
by_at_sign First w ws x = let y = only x in λ o a. an_avp First o w ws a y.0 y.1
by_at_sign Second w ws (inl x) = λ o a. x.1 o w a x.0
by_at_sign Second w ws (inr x) =
    let y = only x in λ o a. an_avp Second o w ws a (name_but symbols.Vendor w.symbol y.0) y.1

pub by_avp_name : (v : Version) (w : Word) (ws : List Word) → IsSymbol symbols.Number w → Onward v AvpCode ws
    → Onward v AvpName (w ∷ ws)
by_avp_name v w ws f x =
    record { parts = record x.parts { code = w }; items = x.items; spelled = (f, (refl, x.spelled)) }

-- "@" "vendor" name number, and an AVP called vendor
pub by_at_vendor : (v : Version) (w : Word) (ws : List Word) → TakenOnward v (steps_from v AtVendor) w ws
    → Onward v AtVendor (w ∷ ws)
by_at_vendor First w ws x = tt
by_at_vendor Second w ws (inl x) =
    λ o n a b. an_avp Second o n (w ∷ ws) a (word_is_name symbols.Vendor n.symbol refl b)
    (by_avp_name Second w ws x.0 x.1)
by_at_vendor Second w ws (inr x) =
    let y = only x in
    λ o n a b. record {
      items = VendorIs (record y.1.parts { name = w }) ∷ y.1.items;
      spelled = (a, (b, (y.0, (refl, y.1.spelled))));
    }

pub by_vendor_named : (v : Version) (w : Word) (ws : List Word) → IsSymbol symbols.Number w → HasItems v ws
    → Onward v VendorNamed (w ∷ ws)
by_vendor_named v w ws f x =
    record { parts = record { name = w; number = w }; items = x.items; spelled = (f, (refl, x.spelled)) }

-- a type
a_kind : (v : Version) (w : Word) (ws : List Word) → IsName w → Onward v Typed ws → Onward v AvpCode (w ∷ ws)
a_kind v w ws f x = record { parts = avp_of w x.parts []; items = x.items; spelled = (f, (refl, x.spelled)) }

a_list : (w : Word) (ws : List Word) → IsSymbol symbols.Enumerated w → (d : Option VendorReference) (xs : List ValueParts)
    (is : List Written) → Spells (reference_may Second d then lists xs) (AreAll Second is) ws
    → Onward Second AvpCode (w ∷ ws)
a_list w ws f d [] is h =
    record { parts = avp_of w d []; items = is; spelled = (word_is_name symbols.Enumerated w.symbol refl f, (refl, h)) }
a_list w ws f d (x ∷ xs) is h = record { parts = avp_of w d (x ∷ xs); items = is; spelled = (f, (refl, h)) }

pub by_avp_code : (v : Version) (w : Word) (ws : List Word) → TakenOnward v (steps_from v AvpCode) w ws
    → Onward v AvpCode (w ∷ ws)
by_avp_code First w ws x = let y = only x in a_kind First w ws y.0 y.1
by_avp_code Second w ws (inl x) = a_list w ws x.0 x.1.parts.vendor x.1.parts.values x.1.items x.1.spelled
by_avp_code Second w ws (inr x) =
    let y = only x in a_kind Second w ws (name_but symbols.Enumerated w.symbol y.0) y.1

-- its vendor
no_vendor : (v : Version) (ws : List Word) → HasItems v ws → Onward v Typed ws
no_vendor v ws x = record { parts = None; items = x.items; spelled = x.spelled }

a_number : (v : Version) (w : Word) (ws : List Word) → IsSymbol symbols.Number w → HasItems v ws
    → Onward v Typed (w ∷ ws)
a_number v w ws f x =
    record { parts = Some (NumberedBy w); items = x.items; spelled = (f, (refl, x.spelled)) }

pub by_typed : (v : Version) (w : Word) (ws : List Word) → TakenOnward v (steps_from v Typed) w ws → Onward v Typed (w ∷ ws)
by_typed v w ws (inl x) = a_number v w ws x.0 x.1
by_typed First w ws (inr x) = no_vendor First (w ∷ ws) (by_item First w ws x)
by_typed Second w ws (inr (inl x)) = x.1 w x.0
by_typed Second w ws (inr (inr x)) = no_vendor Second (w ∷ ws) (by_item Second w ws x)

pub by_typed_colon : (v : Version) (w : Word) (ws : List Word) → TakenOnward v (steps_from v TypedColon) w ws
    → Onward v TypedColon (w ∷ ws)
by_typed_colon First w ws x = tt
by_typed_colon Second w ws x =
    let y = only x in
    λ o a. record { parts = Some (NamedBy w); items = y.1.items; spelled = (a, (y.0, (refl, y.1.spelled))) }

-- its list
pub by_vendored : (v : Version) (w : Word) (ws : List Word) → TakenOnward v list_steps w ws → Onward v Vendored (w ∷ ws)
by_vendored v w ws (inl x) =
    record { parts = x.1.parts.first ∷ x.1.parts.rest; items = x.1.items; spelled = (x.0, x.1.spelled) }
by_vendored v w ws (inr x) = let y = by_item v w ws x in record { parts = []; items = y.items; spelled = y.spelled }

no_vendor_listed : (ws : List Word) → Onward Second Vendored ws → Onward Second Listed ws
no_vendor_listed ws x = record {
  parts = record { vendor = None; values = x.parts };
  items = x.items;
  spelled = x.spelled;
}

pub by_listed : (v : Version) (w : Word) (ws : List Word) → TakenOnward v (steps_from v Listed) w ws
    → Onward v Listed (w ∷ ws)
by_listed First w ws x = tt
by_listed Second w ws (inl x) =
    record {
      parts = record { vendor = Some (NumberedBy w); values = x.1.parts };
      items = x.1.items;
      spelled = (x.0, (refl, x.1.spelled));
    }
by_listed Second w ws (inr (inl x)) = x.1 w x.0
by_listed Second w ws (inr (inr x)) = no_vendor_listed (w ∷ ws) (by_vendored Second w ws x)

pub by_listed_colon : (v : Version) (w : Word) (ws : List Word) → TakenOnward v (steps_from v ListedColon) w ws
    → Onward v ListedColon (w ∷ ws)
by_listed_colon First w ws x = tt
by_listed_colon Second w ws x =
    let y = only x in
    λ o a. record {
      parts = record { vendor = Some (NamedBy w); values = y.1.parts };
      items = y.1.items;
      spelled = (a, (y.0, (refl, y.1.spelled)));
    }

pub listed_end : (v : Version) → Onward v Listed []
listed_end First = tt
listed_end Second = record { parts = record { vendor = None; values = [] }; items = []; spelled = refl }

pub by_list_open : (v : Version) (w : Word) (ws : List Word) → IsName w → Onward v ValueName ws
    → Onward v ListOpen (w ∷ ws)
by_list_open v w ws f x =
    record {
      parts = record x.parts { first = record x.parts.first { name = w } };
      items = x.items;
      spelled = (f, (refl, x.spelled));
    }

pub by_value_name : (v : Version) (w : Word) (ws : List Word) → IsSymbol symbols.Number w → Onward v ValueEnd ws
    → Onward v ValueName (w ∷ ws)
by_value_name v w ws f x =
    record {
      parts = record { first = record { name = w; number = w }; rest = x.parts };
      items = x.items;
      spelled = (f, (refl, x.spelled));
    }

pub by_value_end : (v : Version) (w : Word) (ws : List Word) → TakenOnward v (steps_from v ValueEnd) w ws
    → Onward v ValueEnd (w ∷ ws)
by_value_end v w ws (inl x) =
    record { parts = x.1.parts.first ∷ x.1.parts.rest; items = x.1.items; spelled = (x.0, x.1.spelled) }
by_value_end v w ws (inr (inl x)) = record { parts = []; items = x.1.items; spelled = (x.0, x.1.spelled) }
by_value_end v w ws (inr (inr x)) = absurd x
