use Rattle.std.proofs.Common.{rules, ◌++◌, flat_map, sym, ap, ◌∙◌, append_assoc}
use Rattle.std.proofs.Output.{has_written_append}
use Rattle.dm_wire.specs.Borrowed.{avp_of}
use Rattle.dm_view.specs.Described.{member_described, group_described}
use Rattle.dm_view.proofs.avp_description.+describing.Goals as goal

pub write_spaced_avps_and_semicolons-loop-avp-preserved : goal.write_spaced_avps_and_semicolons-loop-avp-preserved
write_spaced_avps_and_semicolons-loop-avp-preserved g t c all lists =
    let avps = c.args.dictionary.now.avps in
    let member = member_described (group_described c.args.depth avps) avps in
    let text = member (avp_of c.in-Some.avp) in
    let (left, listed, written) = c.loop-avp.invariant all lists in
    let (rest, whole, further) = c.in-Some.ensures.parts left listed in (
      rest,
      further,
      λ plain.
          let (done, put, same) = written plain in (
            done ++ text,
            has_written_append _ _ _ _ _ _ put (search rules),
            append_assoc done text _ ∙ ap (λ l. done ++ flat_map member l) (sym whole) ∙ same,
          ),
    )
