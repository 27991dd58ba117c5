use Rattle.std.proofs.Common.{List, ℕ, subst}
use Rattle.dm_tool.specs.AvpWords.{TellsData}
use Rattle.dm_tool.proofs.Places.{third_of}
use Rattle.dm_tool.proofs.avp_line.read_avp_line.Goals as goal

pub returns-in_default-2 : goal.returns-in_default-2
returns-in_default-2 c = λ a told.
    let Data : List ℕ → Type 0 = λ w. TellsData a.bytes w in
    let none = rw c.in_default-2.is at c.in_ok-bytes.ensures in
    none a.bytes (subst Data (third_of told.whole c.in-Some.ensures.told.2) told.tells_bytes)
