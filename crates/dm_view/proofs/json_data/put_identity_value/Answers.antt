use Rattle.std.proofs.Common.{rules}
use Rattle.std.proofs.lemmas.Str.{is_utf8-from_IsUtf8}
use Rattle.dm_view.proofs.Sound.{identity_is_text}
use Rattle.dm_view.proofs.json_data.put_identity_value.Goals as goal

pub from_utf8_unchecked-requires : goal.from_utf8_unchecked-requires
from_utf8_unchecked-requires c = identity_is_text c.args.octets.now c.requires

pub returns : goal.returns
returns c =
    let octets = c.args.octets.now in
    rw (is_utf8-from_IsUtf8 octets (identity_is_text octets c.requires)) (search rules)
