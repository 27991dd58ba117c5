-- Tables with the links of their rules.
use Rattle.std.specs.Prelude.{◌≡◌, true, List, map}
use Rattle.dm_tables.specs.declared.def.AvpDef.{AvpDef}
use Rattle.dm_tables.specs.Definitions.{Definitions}
use Rattle.dm_tables.specs.Tables.{defined, IsDictionary}
use Rattle.dm_tables.specs.Sound.{knows_rule}
use Rattle.dm_dict.specs.declared.linked.Linked.{Linked}
use Rattle.dm_dict.specs.declared.linked.LinkedRule.{LinkedRule}
use Rattle.dm_dict.specs.Apart.{IsApart}
use Rattle.dm_dict.specs.Links.{LinkedEntries, rule_links}
use Rattle.dm_dict.specs.Marks.{AreMarked}

-- the links of each AVP's rule, and of each command's, in order
abbrev pub avp_links : Definitions → List LinkedEntries
avp_links d = map (λ a. rule_links d.avps a.rule) d.avps

abbrev pub command_links : Definitions → List LinkedEntries
command_links d = map (λ c. rule_links d.avps c.rule) d.commands

-- the tables are a dictionary's, and the links and the marks are theirs
pub record IsLinked (t : Linked) : Type 0 where
  pub dictionary : IsDictionary t.tables
  pub avps : t.avps ≡ avp_links (defined t.tables)
  pub commands : t.commands.items ≡ command_links (defined t.tables)
  pub marks : AreMarked t.tables.avps.items t.marks

-- no two entries have one name, each names a definition or is `AVP`, and the links are theirs
pub record IsRule (avps : List AvpDef) (rule : LinkedRule) : Type 0 where
  pub apart : IsApart rule.entries.now
  pub closed : knows_rule avps rule.entries.now ≡ true
  pub linked : rule.links.now ≡ rule_links avps rule.entries.now
