-- The AVP at its place.
use Rattle.std.proofs.Common.{◌∙◌, ap, slice_get}
use Rattle.std.specs.Option.{option_and_then}
use Rattle.dm_tables.specs.Definitions.{is_coded}
use Rattle.dm_dict.proofs.Standing.{found}
use Rattle.dm_dict.proofs.linked.Linked.avp_by_code.Goals as goal

pub returns : goal.returns
returns c =
    let avps = c.args.self.now.tables.avps.items in
    c.avp_def_at_optional_place.ensures ∙ ap (option_and_then (slice_get avps)) c.avp_place_by_code.ensures ∙ found
    (is_coded c.args.code c.args.vendor) avps
