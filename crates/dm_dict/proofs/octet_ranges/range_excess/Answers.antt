-- Each mark is computed from its octet.
use Rattle.std.proofs.Common.{◌-◌, ◌∙◌, ap, arith, ℕ, nat_eq}
use Rattle.std.proofs.lemmas.List.Folds.{list_all-map}
use Rattle.std.proofs.lemmas.Simd.{splat_is_map, zip2_of_maps, zip2_splat}
use Rattle.dm_dict.specs.Lanes.{is_unmarked}
use Rattle.dm_dict.proofs.Lanes.{bits_of_maps, chosen, less, mark, marks_tell}
use Rattle.dm_dict.proofs.octet_ranges.range_excess.Goals as goal

pub returns : goal.returns
returns c =
    let octets = c.args.octets in
    let least = c.args.least in
    let span = c.args.most - least in
    let (long, fits) = c.fits-octets in
    let spans = splat_is_map {Y = ℕ} octets 16 span long in
    let moves = zip2_splat less octets 16 least long in
    let are_few = bits_of_maps (λ c. less c least) _ octets moves spans in
    let raised = chosen _ _ _ octets are_few spans moves in
    ap is_unmarked (zip2_of_maps less _ _ octets raised spans) ∙ list_all-map (λ m. nat_eq m 0) (mark least span) octets
    ∙ marks_tell least c.args.most octets fits c.requires (omega arith)
