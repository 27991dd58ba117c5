use Rattle.std.proofs.Common.{◌≡◌, ◌++◌, map, take}
use Rattle.dm_dict.specs.Links.{rule_links}
use Rattle.dm_dict.proofs.linked.link_avps.Given as goal

abbrev pub invariant-loop-def : goal.invariant-loop-def
invariant-loop-def l =
    l.links ≡ l.fn.links ++ map (λ d. rule_links l.tables.avps.items d.rule) (take l.def-index l.def-items)
