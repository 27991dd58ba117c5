use Rattle.std.proofs.Common.{nat_eq}
use Rattle.std.specs.Cmp.Lexicographic.{pointwise}
use Rattle.dm_tables.proofs.Places.{found_shown}
use Rattle.dm_tables.proofs.vendors.Vendors.indexed_vendor_by_name.Goals as goal

pub returns : goal.returns
returns c =
    rw (c.member_at.ensures, c.as_slice.ensures.value, c.copied-place.ensures, c.get.ensures.value)
    (found_shown (pointwise nat_eq c.args.name.now) (λ v. v.name) (λ k. k.items) c.args.self.now.items.items
    c.args.self.now.names.entries c.requires.names)
