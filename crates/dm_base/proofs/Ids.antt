-- The ids inside a Vendor-Specific-Application-Id.
use Rattle.std.proofs.Common.{◌≡◌, ◌≢◌, ℕ, Bool, true, false, Option, None, Some, List, [], ◌∷◌, ◌++◌, refl, sym, ◌∙◌, ap, append-nil, append_assoc}
use Rattle.std.specs.Prelude.{is_some}
use Rattle.std.specs.List.{list_any, flat_map}
use Rattle.dm_wire.specs.declared.avp.Avp.{Avp}
use Rattle.dm_wire.specs.Members.{members}
use Rattle.dm_base.specs.Kinds.{plain_ids, ids_inside, application_ids}

none_of : (o : Option (List Avp)) → is_some o ≡ false → ids_inside o ≡ []
none_of None h = refl
none_of (Some l) h = absurd (cc)

-- octets that aren't AVPs tell no ids
pub none_inside : (ids : List ℕ) (s : List ℕ) → is_some (members s) ≡ false → ids ≡ ids ++ ids_inside (members s)
none_inside ids s h = sym (append-nil ids) ∙ ap (λ (l : List ℕ). ids ++ l) (sym (none_of (members s) h))

-- what is so of the ids of all lists of AVPs is so of those of octets that are AVPs
inside_of : (P : List ℕ → Type 0) (o : Option (List Avp)) → is_some o ≡ true
    → ((l : List Avp) → o ≡ Some l → P (flat_map plain_ids l)) → P (ids_inside o)
inside_of P None some each = absurd (cc)
inside_of P (Some l) some each = each l refl

pub all_inside : (old new s : List ℕ) → is_some (members s) ≡ true
    → ((l : List Avp) → members s ≡ Some l → new ≡ old ++ flat_map plain_ids l) → new ≡ old ++ ids_inside (members s)
all_inside old new s some each = inside_of (λ ids. new ≡ old ++ ids) (members s) some each

-- where each list of AVPs tells some id, octets that are AVPs tell some
pub some_inside : (s : List ℕ) → is_some (members s) ≡ true
    → ((l : List Avp) → members s ≡ Some l → flat_map plain_ids l ≢ []) → ids_inside (members s) ≢ []
some_inside s some each = inside_of (λ ids. ids ≢ []) (members s) some each

-- octets that aren't AVPs tell no own id
pub none_met : (p : ℕ → Bool) (s : List ℕ) → is_some (members s) ≡ false → false ≡ list_any p (ids_inside (members s))
none_met p s h = ap (list_any p) (sym (none_of (members s) h))

pub some_met : (p : ℕ → Bool) (s : List ℕ) (b : Bool) → is_some (members s) ≡ true
    → ((l : List Avp) → members s ≡ Some l → b ≡ list_any p (flat_map plain_ids l))
    → b ≡ list_any p (ids_inside (members s))
some_met p s b some each = inside_of (λ ids. b ≡ list_any p ids) (members s) some each

-- what is behind another in no list is none
pub none_behind : (l m : List ℕ) → l ++ m ≡ [] → m ≡ []
none_behind [] m h = h
none_behind (x ∷ l) m h = absurd (cc)

-- one AVP less, and its ids are behind those so far
pub next_told : (old ids new : List ℕ) (a : Avp) (m rest all : List Avp) → m ≡ a ∷ rest →
    new ≡ ids ++ application_ids a →
    old ++ flat_map application_ids all ≡ ids ++ flat_map application_ids m →
    (flat_map application_ids all ≡ [] → flat_map application_ids m ≡ []) →
    (old ++ flat_map application_ids all ≡ new ++ flat_map application_ids rest)
    × (flat_map application_ids all ≡ [] → flat_map application_ids rest ≡ [])
next_told old ids new a m rest all is put so none =
    let behind : flat_map application_ids m ≡ application_ids a ++ flat_map application_ids rest =
    ap (λ (l : List Avp). flat_map application_ids l) is in (
      so ∙ ap (λ (l : List ℕ). ids ++ l) behind
          ∙ sym (append_assoc ids (application_ids a) (flat_map application_ids rest))
          ∙ sym (ap (λ (l : List ℕ). l ++ flat_map application_ids rest) put),
      λ e. none_behind (application_ids a) (flat_map application_ids rest) (sym behind ∙ none e),
    )
