use Rattle.dm_dict_text.proofs.EntryFaults.{more_names}
use Rattle.dm_dict_text.proofs.entries.Entries.note_name.Goals as goal

pub returns-in_ok-insert-clause-names : goal.returns-in_ok-insert-clause-names
returns-in_ok-insert-clause-names c = λ long.
    more_names (λ k. k.now) c.args.self.now.names.keys c.insert.new.self.keys c.args.self.now.entries.items c.args.name
    (c.requires.noted.names long) c.requires.new c.in_ok-insert.ensures.keys
