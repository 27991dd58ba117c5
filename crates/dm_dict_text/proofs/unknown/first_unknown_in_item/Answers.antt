use Rattle.std.proofs.Common.{◌∙◌}
use Rattle.std.specs.Option.{option_or}
use Rattle.dm_dict_text.proofs.Earlier.{first_or}
use Rattle.dm_dict_text.proofs.unknown.first_unknown_in_item.Goals as goal

pub returns-in-Avp : goal.returns-in-Avp
returns-in-Avp c =
    rw c.in-Avp.is
    (c.or.ensures ∙ (λ i. option_or (c.unknown_type_fault.ensures i) (c.unknown_vendor_fault.ensures i)) ∙ first_or _ _)
