-- What the template's `for_host` makes, and why it makes none.
use Rattle.std.proofs.Common.{sym, ◌∙◌}
use Rattle.dm_peer.specs.Hosts.{config_fault}
use Rattle.dm_node.proofs.Welcomed.{fits_where_made}
use Rattle.dm_node.proofs.offered_config.config_by_template.Goals as goal

pub returns-in-Ok-clause-made : goal.returns-in-Ok-clause-made
returns-in-Ok-clause-made g c = record {
  template = c.in-Some.template.now;
  chosen = sym c.in-Some.ensures;
  made = record {
    fits = fits_where_made (config_fault c.in-Some.template.now.node.host c.args.host.now) c.in-Ok.config
        c.for_host.result c.in-Ok.is c.for_host.ensures.refuses;
    peer = c.in-Ok.ensures.peer;
    node = c.in-Ok.ensures.node;
    first_id = c.in-Ok.ensures.first_id;
    dictionary = c.in-Ok.ensures.dictionary ∙ sym c.in-Some.template.now.based;
    compares = c.in-Ok.ensures.compares;
  };
}
