-- The parts of what a sound definition keeps to.
use Rattle.std.proofs.Common.{◌≡◌, Bool, true, false, ◌||◌, not, nat_le, List, [], refl}
use Rattle.std.proofs.lemmas.Bool.{and_parts}
use Rattle.std.specs.List.{list_any}
use Rattle.dm_wire.specs.Codes.{max_command}
use Rattle.dm_tables.specs.declared.def.AvpDef.{AvpDef}
use Rattle.dm_tables.specs.declared.def.CommandDef.{CommandDef}
use Rattle.dm_tables.specs.declared.def.VendorDef.{VendorDef}
use Rattle.dm_tables.specs.declared.values.EnumValue.{EnumValue}
use Rattle.dm_tables.specs.Listed.{has_number}
use Rattle.dm_tables.specs.Definitions.{Definitions, is_vendor, has_vendor_number}
use Rattle.dm_tables.specs.Definitions.{is_named, is_coded, is_titled, is_headed}
use Rattle.dm_tables.specs.Sound.{is_sound_avp, is_sound_command, is_proper_name, is_any, fits_32_bits}
use Rattle.dm_tables.specs.Sound.{option_fits_32_bits, is_sound_rule, is_grouped, is_empty_rule}
use Rattle.dm_tables.specs.Sound.{is_sound_list, is_enumerated, is_empty_list, is_sound_value}
use Rattle.dm_tables.specs.Sound.{is_sound_vendor, is_value, is_listable, is_sound, each_after}

pub is_not : (b : Bool) → not b ≡ true → b ≡ false
is_not true e = cc
is_not false e = refl

pub record SoundAvp (before : List AvpDef) (d : AvpDef) : Type 0 where
  pub name : is_proper_name d.name ≡ true
  pub not_any : is_any d.name ≡ false
  pub new_name : list_any (is_named d.name) before ≡ false
  pub code : fits_32_bits d.code ≡ true
  pub vendor : option_fits_32_bits d.vendor ≡ true
  pub new_code : list_any (is_coded d.code d.vendor) before ≡ false
  pub rule : is_sound_rule d.rule ≡ true
  pub kind : (is_grouped d.kind || is_empty_rule d.rule) ≡ true
  pub list : is_sound_list d.values ≡ true
  pub listing : (is_enumerated d.kind || is_empty_list d.values) ≡ true

pub avp_sound_parts : (before : List AvpDef) (d : AvpDef) → is_sound_avp before d ≡ true → SoundAvp before d
avp_sound_parts before d h =
    let (h9, listing) = and_parts _ _ h in
    let (h8, list) = and_parts _ _ h9 in
    let (h7, kind) = and_parts _ _ h8 in
    let (h6, rule) = and_parts _ _ h7 in
    let (h5, new_code) = and_parts _ _ h6 in
    let (h4, vendor) = and_parts _ _ h5 in
    let (h3, code) = and_parts _ _ h4 in
    let (h2, new_name) = and_parts _ _ h3 in
    let (name, not_any) = and_parts _ _ h2 in
    record {
      name = name;
      not_any = is_not _ not_any;
      new_name = is_not _ new_name;
      code = code;
      vendor = vendor;
      new_code = is_not _ new_code;
      rule = rule;
      kind = kind;
      list = list;
      listing = listing;
    }

pub record SoundCommand (before : List CommandDef) (d : CommandDef) : Type 0 where
  pub name : is_proper_name d.name ≡ true
  pub new_name : list_any (is_titled d.name) before ≡ false
  pub code : nat_le d.code max_command ≡ true
  pub new_head : list_any (is_headed d.code d.request d.err) before ≡ false
  pub application : fits_32_bits d.application ≡ true
  pub rule : is_sound_rule d.rule ≡ true

pub command_sound_parts : (before : List CommandDef) (d : CommandDef) → is_sound_command before d ≡ true
    → SoundCommand before d
command_sound_parts before d h =
    let (h5, rule) = and_parts _ _ h in
    let (h4, application) = and_parts _ _ h5 in
    let (h3, new_head) = and_parts _ _ h4 in
    let (h2, code) = and_parts _ _ h3 in
    let (name, new_name) = and_parts _ _ h2 in
    record {
      name = name;
      new_name = is_not _ new_name;
      code = code;
      new_head = is_not _ new_head;
      application = application;
      rule = rule;
    }

pub record SoundVendor (before : List VendorDef) (v : VendorDef) : Type 0 where
  pub name : is_proper_name v.name ≡ true
  pub new_name : list_any (is_vendor v.name) before ≡ false
  pub number : fits_32_bits v.number ≡ true
  pub new_number : list_any (has_vendor_number v.number) before ≡ false

pub vendor_sound_parts : (before : List VendorDef) (v : VendorDef) → is_sound_vendor before v ≡ true
    → SoundVendor before v
vendor_sound_parts before v h =
    let (h3, new_number) = and_parts _ _ h in
    let (h2, number) = and_parts _ _ h3 in
    let (name, new_name) = and_parts _ _ h2 in
    record { name = name; new_name = is_not _ new_name; number = number; new_number = is_not _ new_number }

pub record SoundValue (before : List EnumValue) (v : EnumValue) : Type 0 where
  pub name : is_proper_name v.name ≡ true
  pub new_name : list_any (is_value v.name) before ≡ false
  pub number : is_listable v.number ≡ true
  pub new_number : list_any (has_number v.number) before ≡ false

pub value_sound_parts : (before : List EnumValue) (v : EnumValue) → is_sound_value before v ≡ true → SoundValue before v
value_sound_parts before v h =
    let (h3, new_number) = and_parts _ _ h in
    let (h2, number) = and_parts _ _ h3 in
    let (name, new_name) = and_parts _ _ h2 in
    record { name = name; new_name = is_not _ new_name; number = number; new_number = is_not _ new_number }

pub record SoundWhole (d : Definitions) : Type 0 where
  pub vendors : each_after is_sound_vendor [] d.vendors ≡ true
  pub avps : each_after is_sound_avp [] d.avps ≡ true
  pub commands : each_after is_sound_command [] d.commands ≡ true

pub sound_parts : (d : Definitions) → is_sound d ≡ true → SoundWhole d
sound_parts d h =
    let (h2, commands) = and_parts _ _ h in
    let (vendors, avps) = and_parts _ _ h2 in
    record { vendors = vendors; avps = avps; commands = commands }

pub all_sound : (vendors : List VendorDef) (avps : List AvpDef) (commands : List CommandDef)
    → each_after is_sound_vendor [] vendors ≡ true → each_after is_sound_avp [] avps ≡ true
    → each_after is_sound_command [] commands ≡ true
    → is_sound (record { vendors = vendors; avps = avps; commands = commands }) ≡ true
all_sound vendors avps commands v a c = rw (v, a, c) refl
