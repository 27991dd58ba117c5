use Rattle.dm_trace.proofs.LastDigits.{digits_are_text}
use Rattle.dm_trace.proofs.digits.put_last_digits.Goals as goal

pub from_utf8_unchecked-requires : goal.from_utf8_unchecked-requires
from_utf8_unchecked-requires c = rw c.fill_with_last_digits.ensures (digits_are_text _ c.args.number)
