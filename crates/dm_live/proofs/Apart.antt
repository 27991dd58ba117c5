-- Lines beside those of another kind.
use Rattle.std.proofs.Common.{◌≡◌, ℕ, Bool, List, codes, arith}
use Rattle.dm_live.specs.declared.form.Form.{Form}
use Rattle.dm_live.specs.declared.order_line.OrderLine.{OrderLine}
use Rattle.dm_live.specs.declared.order_name.OrderName.{OrderName}
use Rattle.dm_live.specs.declared.setting_name.SettingName.{SettingName}
use Rattle.dm_live.specs.OrderLines.{name_word, order_name, TellsOrder}
use Rattle.dm_live.specs.SenderLines.{IsSender}
use Rattle.dm_live.specs.Settings.{setting_word, specific_word}

-- no name of one word tells an application of a vendor
pub no_setting : (name : SettingName) (accounting : Bool) → setting_word name ≡ specific_word accounting → ⊥
no_setting = grind arith

-- the line that asks whom a neighbour met tells no order
no_name : (name : OrderName) → name_word name ≡ codes "sender" → ⊥
no_name = grind arith

pub no_order : (form : Form) (n : ℕ) (line : List ℕ) (o : OrderLine) → IsSender form n line
    → TellsOrder form o line → ⊥
no_order form n line o (asked, is, named) (rest, tells, more) = no_name (order_name o) (cc (is, tells))
