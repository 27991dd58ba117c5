-- What headers and AVPs are printed as.
use Rattle.std.specs.Prelude.{ℕ, Bool, if◌then◌else◌, is_some, Option, Some, None, List, [], ◌∷◌, ◌++◌, codes}
use Rattle.std.specs.Fmt.{decimal}
use Rattle.std.specs.List.{flat_map}
use Rattle.hex.specs.Hex.{encode_lower}
use Rattle.dm_wire.specs.declared.avp.Avp.{Avp}
use Rattle.dm_wire.specs.declared.message.Header.{Header}

-- `-`, which stands where a flag isn't set
abbrev pub dash : ℕ
dash = 45

-- the flag's letter where it is set, else `-`
abbrev pub flag_mark : Bool → ℕ → ℕ
flag_mark set letter = if set then letter else dash

-- the flags' letters, each in its place or `-`
abbrev pub marks : List Bool → List ℕ → List ℕ
marks [] letters = []
marks (set ∷ more) [] = []
marks (set ∷ more) (letter ∷ letters) = flag_mark set letter ∷ marks more letters

-- `R` `P` `E` `T`, each in its place or `-`
abbrev pub header_marks : Bool → Bool → Bool → Bool → List ℕ
header_marks r p e t = marks (r ∷ p ∷ e ∷ t ∷ []) (codes "RPET")

-- `V` `M` `P`, each in its place or `-`
abbrev pub avp_marks : Bool → Bool → Bool → List ℕ
avp_marks v m p = marks (v ∷ m ∷ p ∷ []) (codes "VMP")

-- the four characters for the flags of a header (RFC 6733, 3)
abbrev pub header_letters : Header → List ℕ
header_letters h = header_marks h.request h.proxiable h.error h.retransmit

-- a header as a line, without its end
unfoldable pub header_text : Header → List ℕ
header_text h =
    codes "message " ++ decimal h.command ++ codes " " ++ header_letters h ++ codes " app " ++ decimal h.application
    ++ codes " hop " ++ decimal h.hop_id ++ codes " end " ++ decimal h.end_id

-- the three characters for the flags of an AVP (RFC 6733, 4.1)
abbrev pub avp_letters : Avp → List ℕ
avp_letters a = avp_marks (is_some a.vendor) a.mandatory a.protected

-- where there is a vendor, `/` and the vendor
abbrev pub vendor_text : Option ℕ → List ℕ
vendor_text None = []
vendor_text (Some vendor) = codes "/" ++ decimal vendor

-- the data in lower case hexadecimal, or `-` where there is none
abbrev pub data_text : List ℕ → List ℕ
data_text [] = codes "-"
data_text (b ∷ s) = encode_lower (b ∷ s)

-- an AVP without its data: code, vendor and flags
unfoldable pub avp_front_text : Avp → List ℕ
avp_front_text a = decimal a.code ++ vendor_text a.vendor ++ codes " " ++ avp_letters a

-- an AVP: code, vendor, flags and data
unfoldable pub avp_text : Avp → List ℕ
avp_text a = decimal a.code ++ vendor_text a.vendor ++ codes " " ++ avp_letters a ++ codes " " ++ data_text a.bytes

-- an AVP of a list
abbrev pub member_text : Avp → List ℕ
member_text a = codes " " ++ avp_text a ++ codes ";"

-- AVPs between braces
abbrev pub list_text : List Avp → List ℕ
list_text l = codes "{" ++ flat_map member_text l ++ codes " }"
