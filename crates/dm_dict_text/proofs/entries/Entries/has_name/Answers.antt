use Rattle.std.proofs.Common.{◌∙◌}
use Rattle.dm_dict_text.proofs.EntryFaults.{repeated}
use Rattle.dm_dict_text.proofs.entries.Entries.has_name.Goals as goal

pub returns-then-self : goal.returns-then-self
returns-then-self c =
    c.contains.ensures
    ∙ repeated (λ k. k.now) c.args.self.now.names.keys c.args.self.now.entries.items c.args.name.now
    (c.requires.names c.if-self.true)
