use Rattle.std.proofs.Common.{◌∙◌}
use Rattle.dm_dict_text.proofs.ListFaults.{number_kept}
use Rattle.dm_dict_text.proofs.value_list.Listing.has_number.Goals as goal

pub returns-then-self : goal.returns-then-self
returns-then-self c =
    c.is_number_noted.ensures
    ∙ number_kept c.args.self.now.numbers.keys c.args.self.now.values.items c.args.number.now
    (c.requires.numbers c.if-self.true)
