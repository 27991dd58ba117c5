use Rattle.std.proofs.Common.{rules, arith, refl, not, length, ◌<◌, ◌^◌}
use Rattle.std.proofs.lemmas.List.Filters.{length-filter_both}
use Rattle.dm_wire.specs.Finding.{is_of}
use Rattle.dm_wire.proofs.message.Message.avps.Goals as goal

pub returns-clause-few : goal.returns-clause-few
returns-clause-few c =
    let passes = is_of c.args.code c.args.vendor in
    let parts = length-filter_both passes (λ a. not (passes a)) (λ a. refl) c.as_slice.result.now in
    let bound : length c.as_slice.result.now < 2 ^ 64 = search rules in
    omega arith
