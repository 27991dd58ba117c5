-- What is printed of whom a peer met (RFC 6733, 5.3 and 8.16).
use Rattle.std.specs.Prelude.{◌≡◌, ℕ, Bool, true, false, Option, None, Some, List, [], ◌∷◌, ◌++◌, codes}
use Rattle.std.specs.Fmt.{decimal}
use Rattle.std.specs.List.{flat_map}
use Rattle.std.specs.Option.{option_to_list}
use Rattle.hex.specs.Hex.{encode_lower}
use Rattle.dm_wire.specs.declared.avp.Avp.{Avp}
use Rattle.dm_wire.specs.declared.message.Message.{Message}
use Rattle.dm_base.specs.Codes.{firmware_revision, origin_host, origin_realm, origin_state_id}
use Rattle.dm_base.specs.Codes.{product_name, supported_vendor_id, vendor_id}
use Rattle.dm_base.specs.Kinds.{data_at, application_ids}
use Rattle.dm_base.specs.Senders.{number_told, numbers_told}
use Rattle.dm_text.specs.Words.{words}
use Rattle.dm_slots.specs.Acquaintances.{Acquaintance, exchange_in, state_in, began_anew}
use Rattle.dm_live.specs.declared.form.Form.{Form}
use Rattle.dm_live.specs.OrderLines.{NamesNeighbour}

-- the line that asks whom neighbour n met: its number stands behind the word where there are several
abbrev pub IsSender : Form → ℕ → List ℕ → Type 0
IsSender form n line =
    (rest : List (List ℕ)) × (words line ≡ codes "sender" ∷ rest) × NamesNeighbour form n rest []

-- a name, the space behind it, and octets
unfoldable pub octets_line : List ℕ → List ℕ → List ℕ
octets_line name octets = name ++ encode_lower octets ++ 10 ∷ []

-- a line of the name and the number for each number
unfoldable pub number_lines : List ℕ → List ℕ → List ℕ
number_lines name numbers = flat_map (λ n. name ++ decimal n ++ 10 ∷ []) numbers

unfoldable pub number_line_if_any : List ℕ → Option ℕ → List ℕ
number_line_if_any name n = number_lines name (option_to_list n)

-- what a CER or CEA says of its sender, what that can do, and its state
unfoldable pub told_lines : List Avp → List ℕ
told_lines l =
    octets_line (codes "host ") (data_at origin_host l) ++ octets_line (codes "realm ") (data_at origin_realm l)
    ++ octets_line (codes "product ") (data_at product_name l)
    ++ number_line_if_any (codes "vendor ") (number_told vendor_id l)
    ++ number_line_if_any (codes "firmware ") (number_told firmware_revision l)
    ++ number_lines (codes "application ") (flat_map application_ids l)
    ++ number_lines (codes "supports ") (numbers_told supported_vendor_id l)
    ++ number_line_if_any (codes "origin-state ") (number_told origin_state_id l)

-- what it says of its sender, or that there is nobody
unfoldable pub exchange_lines : Option Message → List ℕ
exchange_lines None = codes "nobody" ++ 10 ∷ []
exchange_lines (Some m) = told_lines m.avps

-- it has begun anew since the time before
unfoldable pub anew_line : Bool → List ℕ
anew_line true = codes "anew" ++ 10 ∷ []
anew_line false = []

-- who the other side is, and what its Origin-State-Id was the time before
abbrev pub sender_lines : Acquaintance → List ℕ
sender_lines a =
    exchange_lines (exchange_in a.octets) ++ number_line_if_any (codes "origin-state-before ") a.before
    ++ anew_line (began_anew (state_in a.octets) a.before)

-- or that nobody has the number
unfoldable pub sender_answer : Option Acquaintance → List ℕ
sender_answer None = codes "refused NoNeighbour" ++ 10 ∷ []
sender_answer (Some a) = sender_lines a
