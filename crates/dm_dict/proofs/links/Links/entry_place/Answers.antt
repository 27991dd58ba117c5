-- The entry at the seat, if it names the AVPs, else the one without a link.
use Rattle.std.proofs.Common.{rules, ◌≡◌, ◌<◌, ◌∙◌, false, Some, None, sym, arith}
use Rattle.std.specs.List.{position_from}
use Rattle.dm_dict.specs.Rows.{names_avps}
use Rattle.dm_dict.proofs.Seated.{nowhere, seat_within, seated_at, stands_else, stands_there}
use Rattle.dm_dict.proofs.links.Links.entry_place.Goals as goal

pub returns-then-seat-gt-CROWDED : goal.returns-then-seat-gt-CROWDED
returns-then-seat-gt-CROWDED c =
    let rows = c.self.inside.items.items in
    rw (← c.self.view_is) (stands_else rows c.args.code c.args.vendor c.args.link c.in-Some.definition
    c.self.inside.any c.in-Some.is (nowhere rows c.self.inside.seats c.args.code c.args.vendor
    c.self.invariant.seats c.if-seat-gt-CROWDED.true) c.self.invariant.any)

low : (c : goal.After-from) → c.from.result < 254
low c = omega (arith, c.from.ensures, c.if-seat-gt-CROWDED.false, c.if-seat.false)

pub index-requires : goal.index-requires
index-requires c =
    let below =
    seat_within c.self.inside.items.items c.self.inside.seats c.args.code c.args.vendor c.from.result
    c.self.invariant.seats c.from.ensures (low c) in
    search rules

pub returns-then-names_code_and_vendor : goal.returns-then-names_code_and_vendor
returns-then-names_code_and_vendor c =
    let rows = c.self.inside.items.items in
    let (linked, at) = seated_at rows c.self.inside.seats c.args.code c.args.vendor c.from-then-names_code_and_vendor.result
    c.index.result.now c.self.invariant.seats c.from-then-names_code_and_vendor.ensures
    (omega (arith, c.from-then-names_code_and_vendor.ensures, c.if-seat-gt-CROWDED.false, c.if-seat.false))
    (rw (c.from-then-names_code_and_vendor.ensures, ← c.from.ensures) c.index.ensures) in
    let named = c.if-names_code_and_vendor.ensures in
    let here : position_from (names_avps c.args.code c.args.vendor) 0 rows ≡ Some c.from-then-names_code_and_vendor.result =
    rw (← named) at at in
    rw (← c.self.view_is) (stands_there rows c.args.code c.args.vendor c.args.link c.in-Some.definition
    c.from-then-names_code_and_vendor.result c.in-Some.is here)

pub returns-else-names_code_and_vendor : goal.returns-else-names_code_and_vendor
returns-else-names_code_and_vendor c =
    let rows = c.self.inside.items.items in
    let (linked, at) = seated_at rows c.self.inside.seats c.args.code c.args.vendor c.from.result c.index.result.now
    c.self.invariant.seats c.from.ensures (omega (arith, c.from.ensures, c.if-seat-gt-CROWDED.false, c.if-seat.false))
    c.index.ensures in
    let other : names_avps c.args.code c.args.vendor c.index.result.now ≡ false = sym c.names_code_and_vendor.ensures ∙ c.if-names_code_and_vendor.false in
    let none : position_from (names_avps c.args.code c.args.vendor) 0 rows ≡ None = rw other at at in
    rw (← c.self.view_is) (stands_else rows c.args.code c.args.vendor c.args.link c.in-Some.definition
    c.self.inside.any c.in-Some.is none c.self.invariant.any)
