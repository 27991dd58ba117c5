use Rattle.std.proofs.Common.{◌≡◌, drop}
use Rattle.std.specs.List.{list_all}
use Rattle.dm_dict_text.specs.Printed.{has_nothing}
use Rattle.dm_dict_text.proofs.print.has_no_value_lists.Given as goal

abbrev pub invariant-loop-avp : goal.invariant-loop-avp
invariant-loop-avp l =
    list_all (λ a. has_nothing a.values) l.avps ≡ list_all (λ a. has_nothing a.values) (drop l.avp-index l.avps)
