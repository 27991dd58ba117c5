use Rattle.std.proofs.Common.{◌∙◌}
use Rattle.dm_tables.specs.Definitions.{is_vendor}
use Rattle.dm_tables.proofs.Found.{is_found}
use Rattle.dm_tables.proofs.vendors.Vendors.has_name.Goals as goal

pub returns : goal.returns
returns c =
    c.is_some.ensures ∙ is_found (is_vendor c.args.name.now) c.args.self.now.items.items _ c.vendor_by_name.ensures
