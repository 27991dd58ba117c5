-- The faults of the AVPs that the octets spell, each with its path.
use Rattle.dm_tables.specs.Tables.{defined}
use Rattle.dm_dict.proofs.FoundAt.{located_found}
use Rattle.dm_dict.proofs.Listed.{under_ok}
use Rattle.dm_dict.proofs.dictionary.Dictionary.located_in.Goals as goal

pub returns : goal.returns
returns c =
    let d = defined c.self.inside.linked.tables in
    rw (← c.self.view_is) (record {
      all = c.located_faults_of_spelled_message.ensures.all;
      found = under_ok c.located_faults_of_spelled_message.result _ _
          (λ listed all l spelled. located_found d (record { header = c.args.message.now.header; avps = l }) listed.items
          (all l spelled)) c.located_faults_of_spelled_message.ensures.all;
      memory = c.located_faults_of_spelled_message.ensures.memory;
    })
