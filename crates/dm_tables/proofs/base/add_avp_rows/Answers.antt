use Rattle.std.proofs.Common.{◌≡◌, ◌∙◌, ap, ◌++◌, ◌∷◌, []}
use Rattle.dm_tables.specs.Rows.{row_avp}
use Rattle.dm_tables.specs.Sound.{is_sound_avp}
use Rattle.dm_tables.proofs.Members.{next_member, member_pushed}
use Rattle.dm_tables.proofs.base.add_avp_rows.Goals as goal

pub add_avp-requires-clause-sound : goal.add_avp-requires-clause-sound
add_avp-requires-clause-sound c =
    rw c.in_ok-avp_of_row.ensures
    (next_member is_sound_avp row_avp c.loop-row.tables.avps.items c.args.rows.now c.loop-row.row-index _
    c.loop-row-test.true c.loop-row.invariant.sound).0

pub loop-row-preserved : goal.loop-row-preserved
loop-row-preserved c =
    let avps : c.add_avp.new.self.avps.items ≡ c.loop-row.tables.avps.items ++ c.in_ok-avp_of_row.field-0 ∷ [] = ap
    (λ d. d.avps) c.in_ok-add_avp.ensures.added in
    record {
      tables = c.in_ok-add_avp.ensures.tables;
      sound = rw (avps, c.in_ok-avp_of_row.ensures)
          (next_member is_sound_avp row_avp c.loop-row.tables.avps.items c.args.rows.now c.loop-row.row-index _
          c.loop-row-test.true c.loop-row.invariant.sound).1;
      avps = avps ∙ (λ i. c.loop-row.invariant.avps i ++ c.in_ok-avp_of_row.ensures i ∷ []) ∙
          member_pushed row_avp c.args.tables.now.avps.items c.args.rows.now c.loop-row.row-index _
          c.loop-row-test.true;
      commands = ap (λ d. d.commands) c.in_ok-add_avp.ensures.added ∙ c.loop-row.invariant.commands;
      vendors = ap (λ d. d.vendors) c.in_ok-add_avp.ensures.added ∙ c.loop-row.invariant.vendors;
    }
