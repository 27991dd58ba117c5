use Rattle.dm_live.proofs.peers.add_peer.Goals as goal

pub returns-in-Ok-add-clause-added : goal.returns-in-Ok-add-clause-added
returns-in-Ok-add-clause-added c =
    let made = c.in-Ok.ensures in
    record {
      config = c.in-Ok.config;
      node = made.node;
      peer = made.peer;
      first_id = made.first_id;
      compares = made.compares;
      added = c.in-Ok-add.ensures.added;
    }
