-- One AVP after the other.
use Rattle.dm_dict.specs.Limits.{group_limit}
use Rattle.dm_dict.proofs.GoodBut.{none_passed}
use Rattle.dm_dict.proofs.message_avps.pass_good_avps.Goals as goal

pub others-init : goal.others-init
others-init c = λ all h. (
  all,
  h,
  none_passed group_limit c.args.dictionary.now.tables.avps.items c.args.rule.entries.now all _ c.requires.zero,
)
