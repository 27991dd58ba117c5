use Rattle.std.proofs.Common.{◌≡◌, ◌∙◌, ◌++◌, ap, ◌∷◌, []}
use Rattle.dm_tables.specs.Sound.{is_sound_avp}
use Rattle.dm_tables.proofs.Members.{next_def, moved}
use Rattle.dm_tables.proofs.tables.Tables.add_avp_copies.Goals as goal

pub add_avp-requires-clause-sound : goal.add_avp-requires-clause-sound
add_avp-requires-clause-sound c =
    (next_def is_sound_avp c.loop-avp.self.avps.items c.args.avps.now c.loop-avp.avp-index _ c.in_ok-clone.field-0
    c.loop-avp-test.true (c.in_ok-clone.ensures.cases ∙ c.avp-item.is) c.loop-avp.invariant.sound).0

pub loop-avp-preserved : goal.loop-avp-preserved
loop-avp-preserved c =
    let added : c.add_avp.new.self.avps.items ≡ c.loop-avp.self.avps.items ++ c.in_ok-clone.field-0 ∷ [] = ap
    (λ d. d.avps) c.in_ok-add_avp.ensures.added in
    let sound =
    (next_def is_sound_avp c.loop-avp.self.avps.items c.args.avps.now c.loop-avp.avp-index _ c.in_ok-clone.field-0
    c.loop-avp-test.true (c.in_ok-clone.ensures.cases ∙ c.avp-item.is) c.loop-avp.invariant.sound).1 in
    record {
      tables = c.in_ok-add_avp.ensures.tables;
      sound = rw added sound;
      avps = moved c.loop-avp.self.avps.items c.add_avp.new.self.avps.items
          (c.args.self.now.avps.items ++ c.args.avps.now) c.args.avps.now c.loop-avp.avp-index _ c.in_ok-clone.field-0
          c.loop-avp-test.true (c.in_ok-clone.ensures.cases ∙ c.avp-item.is) c.loop-avp.invariant.avps added;
      commands = ap (λ d. d.commands) c.in_ok-add_avp.ensures.added ∙ c.loop-avp.invariant.commands;
      vendors = ap (λ d. d.vendors) c.in_ok-add_avp.ensures.added ∙ c.loop-avp.invariant.vendors;
    }
