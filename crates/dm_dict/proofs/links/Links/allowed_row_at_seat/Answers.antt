-- The entry at the seat.
use Rattle.std.proofs.Common.{rules, ◌≡◌, true, nat_eq, refl, sym, length, arith}
use Rattle.std.proofs.lemmas.Bool.{and_parts}
use Rattle.std.proofs.lemmas.Option.{slice_get_read}
use Rattle.dm_dict.proofs.Seated.{seated_at, seat_within}
use Rattle.dm_dict.specs.Rows.{names_avps}
use Rattle.dm_dict.proofs.links.Links.allowed_row_at_seat.Goals as goal

pub index-requires : goal.index-requires
index-requires c =
    let below =
    seat_within c.self.inside.items.items c.self.inside.seats c.args.code c.args.vendor c.from.result
    c.self.invariant.seats c.from.ensures (omega (arith, c.from.ensures, c.if-seat-ge-CROWDED.false)) in
    search rules

both : (c : goal.After-from-then-eq) → (c.index.result.now.linked ≡ true) × (c.index.result.now.allowed ≡ true)
both c =
    let (allowing, at) = seated_at c.self.inside.items.items c.self.inside.seats c.args.code c.args.vendor c.from.result
    c.index.result.now c.self.invariant.seats c.from.ensures
    (omega (arith, c.from.ensures, c.if-seat-ge-CROWDED.false)) c.index.ensures in
    and_parts c.index.result.now.linked c.index.result.now.allowed allowing

named : (c : goal.After-from-then-eq) → names_avps c.args.code c.args.vendor c.index.result.now ≡ true
named c =
    let (linked, allowed) = both c in
    let code : nat_eq c.args.code c.index.result.now.code ≡ true = grind (arith, c.if-code-row.true) in
    let vendor = c.if-eq.ensures in
    rw (linked, code, ← vendor) refl

pub returns-then-eq-clause-place : goal.returns-then-eq-clause-place
returns-then-eq-clause-place c =
    let (linked, at) = seated_at c.self.inside.items.items c.self.inside.seats c.args.code c.args.vendor
    c.from-then-eq.result c.index.result.now c.self.invariant.seats c.from-then-eq.ensures
    (omega (arith, c.from-then-eq.ensures, c.if-seat-ge-CROWDED.false))
    (rw (c.from-then-eq.ensures, ← c.from.ensures) c.index.ensures) in
    rw (← c.self.view_is) (sym (rw (named c) at at))

pub returns-then-eq-clause-row : goal.returns-then-eq-clause-row
returns-then-eq-clause-row c =
    let rows = c.self.inside.items.items in
    rw (← c.self.view_is) (sym (slice_get_read rows (length rows) c.from-then-eq.result c.index.result.now refl
    (seat_within rows c.self.inside.seats c.args.code c.args.vendor c.from-then-eq.result c.self.invariant.seats
    c.from-then-eq.ensures (omega (arith, c.from-then-eq.ensures, c.if-seat-ge-CROWDED.false)))
    (rw (c.from-then-eq.ensures, ← c.from.ensures) c.index.ensures)))

pub returns-then-eq-clause-own : goal.returns-then-eq-clause-own
returns-then-eq-clause-own c = named c

pub returns-then-eq-clause-allowed : goal.returns-then-eq-clause-allowed
returns-then-eq-clause-allowed c = (both c).1
