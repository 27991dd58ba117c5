use Rattle.std.proofs.Common.{◌∙◌, ap, nat_eq}
use Rattle.std.specs.List.{list_any}
use Rattle.dm_tables.proofs.Keys.{any-map}
use Rattle.dm_tables.proofs.vendors.Vendors.has_number.Goals as goal

pub returns : goal.returns
returns c =
    c.contains.ensures ∙ ap (list_any (nat_eq c.args.number)) c.requires.numbers ∙ any-map (nat_eq c.args.number)
    (λ v. v.number) c.args.self.now.items.items
