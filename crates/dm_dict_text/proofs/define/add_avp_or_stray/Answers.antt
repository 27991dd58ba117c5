use Rattle.std.proofs.Common.{◌∙◌, sym, ap}
use Rattle.dm_tables.specs.Tables.{defined}
use Rattle.dm_dict_text.specs.Making.{making}
use Rattle.dm_dict_text.specs.Meaning.{placed}
use Rattle.dm_dict_text.proofs.Strays.{stray_noted}
use Rattle.dm_dict_text.proofs.define.add_avp_or_stray.Goals as goal

pub returns-in_ok-insert-in-None-clause-added : goal.returns-in_ok-insert-in-None-clause-added
returns-in_ok-insert-in-None-clause-added c =
    let m = making c.args.tables.now c.args.strays.now in
    (λ i. record {
      definitions = defined c.args.tables.now;
      strays = stray_noted c.args.strays.now.keys c.insert.new.self.keys c.args.name
          c.in_ok-insert-in-None.ensures.keys c.requires.new i;
    })
    ∙ sym (ap (placed m c.args.name.now (λ _. c.args.avp)) c.in-None.is)
