use Rattle.dm_view.proofs.Sound.{words_are_text}
use Rattle.dm_view.proofs.json_data.put_text_value.Goals as goal

pub from_utf8_unchecked-requires : goal.from_utf8_unchecked-requires
from_utf8_unchecked-requires c = words_are_text c.args.octets.now c.requires
