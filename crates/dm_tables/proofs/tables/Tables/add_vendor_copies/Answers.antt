use Rattle.std.proofs.Common.{◌≡◌, ◌∙◌, ◌++◌, ap, ◌∷◌, []}
use Rattle.dm_tables.specs.Sound.{is_sound_vendor}
use Rattle.dm_tables.proofs.Members.{next_def, moved}
use Rattle.dm_tables.proofs.tables.Tables.add_vendor_copies.Goals as goal

pub add_vendor-requires-clause-sound : goal.add_vendor-requires-clause-sound
add_vendor-requires-clause-sound c =
    (next_def is_sound_vendor c.loop-vendor.self.vendors.items.items c.args.vendors.now c.loop-vendor.vendor-index _
    c.in_ok-clone.field-0 c.loop-vendor-test.true (c.in_ok-clone.ensures.cases ∙ c.vendor-item.is)
    c.loop-vendor.invariant.sound).0

pub loop-vendor-preserved : goal.loop-vendor-preserved
loop-vendor-preserved c =
    let added : c.add_vendor.new.self.vendors.items.items ≡ c.loop-vendor.self.vendors.items.items ++
    c.in_ok-clone.field-0 ∷ [] = ap
    (λ d. d.vendors) c.in_ok-add_vendor.ensures.added in
    let sound =
    (next_def is_sound_vendor c.loop-vendor.self.vendors.items.items c.args.vendors.now c.loop-vendor.vendor-index _
    c.in_ok-clone.field-0 c.loop-vendor-test.true (c.in_ok-clone.ensures.cases ∙ c.vendor-item.is)
    c.loop-vendor.invariant.sound).1 in
    record {
      tables = c.in_ok-add_vendor.ensures.tables;
      sound = rw added sound;
      vendors = moved c.loop-vendor.self.vendors.items.items c.add_vendor.new.self.vendors.items.items
          (c.args.self.now.vendors.items.items ++ c.args.vendors.now) c.args.vendors.now c.loop-vendor.vendor-index _
          c.in_ok-clone.field-0 c.loop-vendor-test.true (c.in_ok-clone.ensures.cases ∙ c.vendor-item.is)
          c.loop-vendor.invariant.vendors added;
      commands = ap (λ d. d.commands) c.in_ok-add_vendor.ensures.added ∙ c.loop-vendor.invariant.commands;
      avps = ap (λ d. d.avps) c.in_ok-add_vendor.ensures.added ∙ c.loop-vendor.invariant.avps;
    }
