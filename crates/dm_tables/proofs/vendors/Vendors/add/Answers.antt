use Rattle.std.proofs.Common.{nat_eq, ◌≡◌, ◌∙◌, ap, length, refl, false}
use Rattle.std.specs.List.{list_any}
use Rattle.std.specs.Cmp.Lexicographic.{pointwise}
use Rattle.dm_tables.proofs.Places.{on_ok, one_more}
use Rattle.dm_tables.proofs.Keys.{any-map, key_pushed}
use Rattle.dm_tables.proofs.vendors.Vendors.add.Goals as goal

pub returns-clause-indexed : goal.returns-clause-indexed
returns-clause-indexed c =
    let vendors = c.args.self.now.items.items in
    let had = c.requires.indexed in
    let last : length c.as_slice-place.result.now ≡ length vendors = ap length c.as_slice-place.ensures.value in
    let fresh : list_any (nat_eq c.args.vendor.number) c.args.self.now.numbers.keys ≡ false = ap
    (list_any (nat_eq c.args.vendor.number)) had.numbers ∙ any-map (nat_eq c.args.vendor.number)
    (λ v. v.number) vendors ∙ c.requires.number in
    on_ok c.set_place_of_name-noted.result (λ noted. record {
      names = rw (c.in_ok-push.ensures.items)
          (one_more (pointwise nat_eq) (λ v. v.name) _ _ _ _ vendors c.args.vendor had.names noted c.requires.name last
          c.as_slice.ensures);
      numbers =
          rw (c.in_ok-push.ensures.items)
          (key_pushed nat_eq (λ v. v.number) c.args.self.now.numbers.keys c.insert.new.self.keys vendors c.args.vendor
          c.args.vendor.number had.numbers c.in_ok-insert.ensures.keys refl fresh);
    }) c.set_place_of_name-noted.ensures
