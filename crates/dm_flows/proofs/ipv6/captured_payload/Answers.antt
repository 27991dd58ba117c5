-- The octets of the Payload Length, as far as they are there.
use Rattle.std.proofs.Common.{take, drop, ◌∙◌, ap}
use Rattle.std.proofs.lemmas.List.{take_rest}
use Rattle.dm_flows.proofs.ipv6.captured_payload.Goals as goal

pub returns : goal.returns
returns c =
    c.first_octets.ensures ∙ ap (λ l. take c.payload_len.result l) (take_rest c.args.octets.now 40) ∙
    ap (λ n. take n (drop 40 c.args.octets.now)) c.payload_len.ensures
