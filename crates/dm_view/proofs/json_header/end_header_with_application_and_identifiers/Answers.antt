use Rattle.std.proofs.Common.{◌≡◌, ◌++◌, ◌∷◌, [], codes, append_assoc}
use Rattle.std.specs.Fmt.{decimal}
use Rattle.json.specs.Token.{end_object, key, number}
use Rattle.dm_view.proofs.JsonPrinted.{application_key, end_key, hop_key}
use Rattle.dm_view.proofs.json_header.end_header_with_application_and_identifiers.Goals as goal

pub put_printed_key_and_number-requires : goal.put_printed_key_and_number-requires
put_printed_key_and_number-requires c = (codes "application", application_key)

pub put_printed_key_and_number-requires-2 : goal.put_printed_key_and_number-requires-2
put_printed_key_and_number-requires-2 c = (codes "hop_by_hop", hop_key)

pub put_printed_key_and_number-requires-3 : goal.put_printed_key_and_number-requires-3
put_printed_key_and_number-requires-3 c = (codes "end_to_end", end_key)

pub returns : goal.returns
returns c =
    let h = c.args.header.now in
    let application : c.put_printed_key_and_number.new.self ≡ c.args.json.now
    ++ key (codes "application") ∷ number (decimal h.application) ∷ []
    = c.in_ok-put_printed_key_and_number.ensures (codes "application") application_key in
    let hop : c.put_printed_key_and_number-2.new.self ≡ c.put_printed_key_and_number.new.self
    ++ key (codes "hop_by_hop") ∷ number (decimal h.hop_id) ∷ []
    = c.in_ok-put_printed_key_and_number-2.ensures (codes "hop_by_hop") hop_key in
    let end : c.put_printed_key_and_number-3.new.self ≡ c.put_printed_key_and_number-2.new.self
    ++ key (codes "end_to_end") ∷ number (decimal h.end_id) ∷ []
    = c.in_ok-put_printed_key_and_number-3.ensures (codes "end_to_end") end_key in
    let ended : c.end_object.new.self ≡ c.put_printed_key_and_number-3.new.self ++ end_object ∷ [] =
    c.in_ok-end_object.ensures in
    rw (ended, end, hop, application) (simp append_assoc)
