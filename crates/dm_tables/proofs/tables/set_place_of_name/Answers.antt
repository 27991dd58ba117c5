use Rattle.std.proofs.Common.{◌≡◌, ◌∙◌, nat_eq, map, ap}
use Rattle.std.specs.Cmp.Lexicographic.{pointwise}
use Rattle.indexmap.specs.IndexMap.{insert_entry}
use Rattle.dm_tables.proofs.Places.{insert_shown}
use Rattle.dm_tables.proofs.tables.set_place_of_name.Goals as goal

pub returns : goal.returns
returns c =
    let named : c.in_ok-key.key.items ≡ c.args.name.now = c.in_ok-key.ensures.items in
    ap (map (λ e. (e.0.items, e.1))) c.in_ok-insert.ensures.entries
    ∙ insert_shown (pointwise nat_eq) (λ k. k.items) c.args.names.now.entries c.in_ok-key.key c.args.place
    ∙ ap (λ k. insert_entry (pointwise nat_eq) (map (λ e. (e.0.items, e.1)) c.args.names.now.entries) k c.args.place)
    named
