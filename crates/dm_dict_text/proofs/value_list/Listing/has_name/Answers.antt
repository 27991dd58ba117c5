use Rattle.std.proofs.Common.{◌∙◌}
use Rattle.dm_dict_text.proofs.ListFaults.{name_kept}
use Rattle.dm_dict_text.proofs.value_list.Listing.has_name.Goals as goal

pub returns-then-self : goal.returns-then-self
returns-then-self c =
    c.contains.ensures
    ∙ name_kept (λ k. k.now) c.args.self.now.names.keys c.args.self.now.values.items c.args.name.now
    (c.requires.names c.if-self.true)
