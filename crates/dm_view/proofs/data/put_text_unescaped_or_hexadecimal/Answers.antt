use Rattle.dm_view.proofs.Sound.{words_are_text}
use Rattle.dm_view.proofs.data.put_text_unescaped_or_hexadecimal.Goals as goal

pub put_quoted_unescaped_or_hexadecimal-requires : goal.put_quoted_unescaped_or_hexadecimal-requires
put_quoted_unescaped_or_hexadecimal-requires c = words_are_text c.args.octets.now c.requires
