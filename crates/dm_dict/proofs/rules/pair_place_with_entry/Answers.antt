-- The place of the link is the place of the name.
use Rattle.std.proofs.Common.{◌≡◌, ◌∙◌, None, refl, sym, ap, length, slice_get}
use Rattle.std.specs.List.{position_from}
use Rattle.std.specs.Option.{option_and_then}
use Rattle.dm_wire.specs.Borrowed.{avp_of}
use Rattle.dm_tables.specs.Definitions.{is_coded}
use Rattle.dm_dict.specs.Rules.{definition, names, stands_for_any, is_at}
use Rattle.dm_dict.proofs.Standing.{found, place_of, entry_at_place, counts_at_place, stands_within, one_within}
use Rattle.dm_tables.specs.Tables.{defined}
use Rattle.dm_dict.specs.Links.{rule_rows}
use Rattle.dm_dict.proofs.Linking.{entry_links, linked_place, own_names}
use Rattle.dm_dict.proofs.Rowed.{coded_row, link_place}
use Rattle.dm_dict.proofs.rules.pair_place_with_entry.Goals as goal

place_is : (c : goal.After-entry_place-entry) → c.entry_place-entry.result ≡ place_of c.args.rule.entries.now
    (definition c.args.tables.now.avps.items (avp_of c.args.avp))
place_is c =
    let rule = c.requires.rule in
    let avps = c.args.tables.now.avps.items in
    let entries = c.args.rule.entries.now in
    let rows : c.args.rule.links.now.rows ≡ rule_rows avps entries = ap (λ linked. linked.rows) rule.linked in
    let known = c.entry_place-entry.ensures (λ k at. rw rows (coded_row (defined c.args.tables.now) entries c.args.avp.code
    c.args.avp.vendor k c.requires.tables.sound (sym at ∙ c.requires.def))) in
    known ∙ (rw (rows, link_place avps entries c.args.place, link_place avps entries None) refl) ∙
    linked_place c.args.tables.now.avps.items c.args.rule.entries.now
    (entry_links c.args.tables.now.avps.items c.args.rule.entries.now)
    (is_coded c.args.avp.code c.args.avp.vendor) c.args.place c.requires.fit rule.closed refl c.requires.def

pub returns-clause-def : goal.returns-clause-def
returns-clause-def c =
    let avps = c.args.tables.now.avps.items in
    ap (option_and_then (slice_get avps)) c.requires.def ∙ found
    (is_coded c.args.avp.code c.args.avp.vendor) avps

pub returns-clause-entry : goal.returns-clause-entry
returns-clause-entry c =
    let rule = c.args.rule.entries.now in
    let f = definition c.args.tables.now.avps.items (avp_of c.args.avp) in
    rw (place_is c) (entry_at_place rule f _ _ refl refl)

pub returns-clause-counts : goal.returns-clause-counts
returns-clause-counts c = λ i e within at.
    let rule = c.args.rule.entries.now in
    let f = definition c.args.tables.now.avps.items (avp_of c.args.avp) in
    ap (λ o. is_at o i) (place_is c) ∙
    counts_at_place rule f (position_from (names f) 0 rule) (position_from stands_for_any 0 rule)
    c.requires.rule.apart
    (own_names c.args.tables.now.avps.items c.args.avp.code c.args.avp.vendor c.requires.fit) refl refl i e within at

pub returns-clause-within : goal.returns-clause-within
returns-clause-within c =
    rw c.requires.def (stands_within (is_coded c.args.avp.code c.args.avp.vendor) c.args.tables.now.avps.items)

pub returns-clause-inside : goal.returns-clause-inside
returns-clause-inside c =
    let rule = c.args.rule.entries.now in
    let f = definition c.args.tables.now.avps.items (avp_of c.args.avp) in
    rw (place_is c) (one_within (position_from (names f) 0 rule) (position_from stands_for_any 0 rule) (length rule)
    (stands_within (names f) rule) (stands_within stands_for_any rule))
