use Rattle.std.proofs.Common.{◌∙◌, sym, nat_eq, None, Some}
use Rattle.std.specs.Cmp.Lexicographic.{pointwise}
use Rattle.dm_tables.proofs.Earlier.{among}
use Rattle.dm_tables.proofs.vendors.Vendors.index_has_name_among_first.Goals as goal

pub returns-in-Some : goal.returns-in-Some
returns-in-Some c =
    among (pointwise nat_eq c.args.name.now) (λ v. v.name) (λ k. k.items) c.args.first c.args.self.now.items.items
    c.args.self.now.names.entries
    (Some c.in-Some.place) c.requires.names (sym c.in-Some.is ∙ c.copied.ensures ∙ c.get.ensures.value)

pub returns-in-None : goal.returns-in-None
returns-in-None c =
    among (pointwise nat_eq c.args.name.now) (λ v. v.name) (λ k. k.items) c.args.first c.args.self.now.items.items
    c.args.self.now.names.entries
    None c.requires.names (sym c.in-None.is ∙ c.copied.ensures ∙ c.get.ensures.value)
