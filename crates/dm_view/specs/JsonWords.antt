-- What the parts of a message are in JSON (RFC 8259).
use Rattle.std.specs.Prelude.{ℕ, ℤ, Bool, if◌then◌else◌, Option, None, Some, List, codes}
use Rattle.std.specs.Fmt.{decimal, signed_decimal}
use Rattle.std.specs.Str.{is_utf8}
use Rattle.hex.specs.Hex.{encode_lower}
use Rattle.json.specs.Json.{Json, null, number, string, object, Items, item, Members, no_members, member}

abbrev pub number_json : ℕ → Json
number_json n = number (decimal n)

abbrev pub signed_json : ℤ → Json
signed_json n = number (signed_decimal n)

-- octets in hexadecimal, under a key that says so
abbrev pub octets_member : List ℕ → Members
octets_member s = member (codes "octets") (string (encode_lower s)) no_members

abbrev pub octets_json : List ℕ → Json
octets_json s = object (octets_member s)

-- octets that are UTF-8 as a text, others in hexadecimal
abbrev pub text_json : List ℕ → Json
text_json s = if is_utf8 s then string s else octets_json s

-- the name of a definition, where there is one
abbrev pub name_json : Option (List ℕ) → Json
name_json None = null
name_json (Some name) = text_json name

-- a vendor, where there is one
abbrev pub vendor_member : Option ℕ → Members → Members
vendor_member None more = more
vendor_member (Some vendor) more = member (codes "vendor") (number_json vendor) more

-- a word, where it is meant
abbrev pub word_item : Bool → List ℕ → Items → Items
word_item is_meant word more = if is_meant then item (string word) more else more
