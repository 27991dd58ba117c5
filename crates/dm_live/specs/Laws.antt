-- What holds of lines.
use Rattle.std.specs.Prelude.{ℕ, List}
use Rattle.dm_live.specs.declared.form.Form.{Form}
use Rattle.dm_live.specs.declared.order_line.OrderLine.{OrderLine}
use Rattle.dm_live.specs.OrderLines.{TellsOrder}
use Rattle.dm_live.specs.SenderLines.{IsSender}

-- the line that asks whom a neighbour met tells no order
abbrev pub SenderIsNoOrder : Type 0
SenderIsNoOrder =
    (form : Form) (n : ℕ) (line : List ℕ) (o : OrderLine) → IsSender form n line → TellsOrder form o line → ⊥
