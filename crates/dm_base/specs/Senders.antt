-- What a message of a capabilities exchange says of its sender, and a Disconnect-Peer-Request of its cause (RFC 6733,
-- 5.3 and 5.4.3).
use Rattle.std.specs.Prelude.{◌≡◌, ℕ, ℤ, ◌&&◌, nat_eq, Option, None, Some, option_map, List, if◌then◌else◌}
use Rattle.std.specs.List.{flat_map}
use Rattle.std.specs.Option.{option_to_list}
use Rattle.std.specs.Int.{cast_signed, w32}
use Rattle.dm_wire.specs.declared.avp.Avp.{Avp}
use Rattle.dm_wire.specs.declared.message.Header.{Header}
use Rattle.dm_wire.specs.Members.{members}
use Rattle.dm_base.specs.Codes.{disconnect_peer, disconnect_cause}
use Rattle.dm_base.specs.Kinds.{is_plain, data_at, number_in}
use Rattle.dm_base.specs.declared.sender_ref.SenderRef.{SenderRef}

-- the AVPs that its octets spell
abbrev pub HasAvps : SenderRef → List Avp → Type 0
HasAvps r l = members r.rest.now ≡ Some l

-- the number of the first AVP of a code; none where there is no such AVP, or the first one hasn't four octets
abbrev pub number_told : ℕ → List Avp → Option ℕ
number_told code l = number_in (data_at code l)

-- the number of an AVP of this code
abbrev pub plain_number : ℕ → Avp → Option ℕ
plain_number code a = if is_plain code a then number_in a.bytes else None

abbrev pub numbers_of : ℕ → Avp → List ℕ
numbers_of code a = option_to_list (plain_number code a)

-- the numbers of all AVPs of a code, in order
abbrev pub numbers_told : ℕ → List Avp → List ℕ
numbers_told code l = flat_map (numbers_of code) l

-- the Disconnect-Cause of a DPR, where it has one of four octets (5.4.3)
abbrev pub cause_told : Header → List Avp → Option ℤ
cause_told h l =
    if nat_eq h.command disconnect_peer && h.request
    then option_map (cast_signed w32) (number_told disconnect_cause l) else None
