-- The definition that a row of the base tables stands for.
use Rattle.std.specs.Prelude.{false, map, None, []}
use Rattle.dm_tables.specs.declared.rule.Entry.{Entry}
use Rattle.dm_tables.specs.declared.def.AvpDef.{AvpDef}
use Rattle.dm_tables.specs.declared.def.CommandDef.{CommandDef}
use Rattle.dm_tables.specs.declared.rows.EntryRow.{EntryRow}
use Rattle.dm_tables.specs.declared.rows.AvpRow.{AvpRow}
use Rattle.dm_tables.specs.declared.rows.CommandRow.{CommandRow}

abbrev pub row_entry : EntryRow → Entry
row_entry r = record { form = r.form; name = r.name.now; min = r.min; max = r.max }

abbrev pub row_avp : AvpRow → AvpDef
row_avp r =
    record {
      name = r.name.now;
      code = r.code;
      vendor = None;
      kind = r.kind;
      rule = map row_entry r.rule.now;
      values = [];
    }

abbrev pub row_command : CommandRow → CommandDef
row_command r =
    record {
      name = r.name.now;
      code = r.code;
      request = r.request;
      proxiable = false;
      err = r.err;
      application = 0;
      rule = map row_entry r.rule.now;
    }
