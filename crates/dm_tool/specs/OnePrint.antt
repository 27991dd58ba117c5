-- The program prints headers, AVPs and verdicts just as their Display does.
use Rattle.std.specs.Prelude.{◌≡◌}
use Rattle.dm_wire.specs.declared.avp.Avp.{Avp}
use Rattle.dm_wire.specs.declared.message.Header.{Header}
use Rattle.dm_dict.specs.declared.verdict.Verdict.{Verdict}
use Rattle.dm_wire.specs.Printed as wire
use Rattle.dm_dict.specs.Printed as dict
use Rattle.dm_tool.specs.Text.{avp_text, header_text}
use Rattle.dm_tool.specs.Check.{verdict_text}

pub record OnePrint : Type 0 where
  pub avp : (a : Avp) → avp_text a ≡ wire.avp_text a
  pub header : (h : Header) → header_text h ≡ wire.header_text h
  pub verdict : (v : Verdict) → verdict_text v ≡ dict.verdict_text v
