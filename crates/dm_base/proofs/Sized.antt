-- What a node builds has a spelling: no AVP is long, and there are few.
use Rattle.std.proofs.Common.{◌≡◌, ◌<◌, ◌≤◌, ◌^◌, ℕ, zero, suc, ◌*◌, Bool, true, false, ◌&&◌, nat_lt, nat_le, Option, None, Some, List, [], ◌∷◌, ◌++◌, map, length, refl, arith, length-append, eqb-true, if◌then◌else◌}
use Rattle.std.specs.List.{All, list_all}
use Rattle.std.specs.Str.{is_utf8}
use Rattle.std.proofs.lemmas.List.{length-map}
use Rattle.std.proofs.lemmas.Bool.{and_parts, leb-true}
use Rattle.dm_wire.specs.Spelling.{avp_length}
use Rattle.dm_wire.specs.Canonical.{canonical_avp, canonical_list, canonical_message}
use Rattle.dm_wire.specs.Limits.{AvpFits, HeaderFits}
use Rattle.dm_wire.specs.Fitting.{AvpSized, MessageSpelled}
use Rattle.dm_wire.specs.declared.avp.Avp.{Avp}
use Rattle.dm_wire.specs.declared.message.Header.{Header}
use Rattle.dm_wire.specs.declared.message.Message.{Message}
use Rattle.dm_value.specs.declared.address.Ip.{Ip}
use Rattle.dm_value.specs.declared.address.Ip.TheVariants.{V4, V6}
use Rattle.dm_value.specs.Flaws.{is_visible_text}
use Rattle.dm_base.specs.declared.node.Node.{Node}
use Rattle.dm_base.specs.Spelled.{HasSpelling}
use Rattle.dm_base.specs.declared.extras.Extras.{Extras}
use Rattle.dm_base.specs.declared.vendor_application.VendorApplication.{VendorApplication}
use Rattle.dm_base.specs.Extra.{vendor_applications, supported_vendors, own_firmware, own_state, answer_state}
use Rattle.dm_base.specs.Codes.{origin_state_id, supported_vendor_id}
use Rattle.dm_base.specs.Built.{id_code, specific_avp, state_avps, firmware_avps, behind_failed}
use Rattle.dm_base.specs.Fit.{is_name, is_sized, is_product, is_number, is_vendor_application}
use Rattle.dm_base.specs.Codes.{capabilities_exchange, device_watchdog, disconnect_peer}
use Rattle.dm_base.specs.Codes.{auth_application_id, acct_application_id, origin_host, origin_realm, vendor_id}
use Rattle.dm_base.specs.Codes.{result_code, disconnect_cause, failed_avp, longest_failed}
use Rattle.dm_base.specs.Codes.{max_name_len, max_addresses, max_ids}
use Rattle.dm_base.specs.Built.{avp, number_avp, address_avp, product_avp, origin, application_avps, behind_addresses, capabilities, failed_avps, result_avp, request_header, answer_header, cause_number, built_cer, built_dwr, built_dpr, built_cea, built_answer, built_error}
use Rattle.dm_base.specs.Laws.{CerIsSpelled, CeaIsSpelled, DwrIsSpelled, DprIsSpelled, AnswerIsSpelled, ErrorIsSpelled}
use Rattle.dm_base.proofs.Shapes.{Each}

-- the laws of spellings that are used here
pub record Laws : Type 0 where
  pub spelled : MessageSpelled
  pub sized : AvpSized

-- an AVP of the base messages: a small code, no vendor, and little data
pub record IsSmall (a : Avp) : Type 0 where
  pub code : a.code ≤ 299
  pub length : length a.bytes ≤ 4100
  pub vendor : a.vendor ≡ None

small_length : (a : Avp) → IsSmall a → avp_length a ≤ 4108
small_length a s = let l = s.length in rw s.vendor (omega arith)

small_fits : (a : Avp) → IsSmall a → AvpFits a
small_fits a s =
    let l = small_length a s in
    let c = s.code in
    record { code = omega arith; length = omega arith; vendor = rw s.vendor tt }

all_fit : (l : List Avp) → Each IsSmall l → All AvpFits l
all_fit [] s k d below = absurd (omega arith)
all_fit (a ∷ l) s zero d below = small_fits a s.0
all_fit (a ∷ l) s (suc k) d below = all_fit l s.1 k d (omega arith)

small_size : AvpSized → (a : Avp) → IsSmall a → length (canonical_avp a) ≤ 4112
small_size sized a s = let l = small_length a s in let size = sized a in omega arith

list_size : AvpSized → (l : List Avp) → Each IsSmall l → length (canonical_list l) ≤ 4112 * length l
list_size sized [] s = omega arith
list_size sized (a ∷ l) s =
    let here = small_size sized a s.0 in
    let behind = list_size sized l s.1 in
    omega (arith, length-append (canonical_avp a) (canonical_list l))

-- a message of few small AVPs has a spelling
message_spelled : Laws → (m : Message) → HeaderFits m.header → Each IsSmall m.avps → length m.avps ≤ 4000
    → HasSpelling m
message_spelled laws m h s few =
    let size = list_size laws.sized m.avps s in
    record { octets = canonical_message m; spelled = laws.spelled m h (all_fit m.avps s) (omega arith) }

each_both : (P : Avp → Type 0) (l k : List Avp) → Each P l → Each P k → Each P (l ++ k)
each_both P [] k h g = g
each_both P (a ∷ l) k h g = (h.0, each_both P l k h.1 g)

numbers_small : (code : ℕ) (l : List ℕ) → code ≤ 299 → Each IsSmall (map (number_avp code) l)
numbers_small code [] h = tt
numbers_small code (n ∷ l) h = (record { code = h; length = omega arith; vendor = refl }, numbers_small code l h)

addresses_small : (l : List Ip) → list_all is_sized l ≡ true → Each IsSmall (map address_avp l)
addresses_small [] h = tt
addresses_small (V4 a ∷ l) h =
    let (here, behind) = and_parts (is_sized (V4 a)) (list_all is_sized l) h in
    let four : length a ≡ 4 = eqb-true (length a) 4 here in
    (record { code = omega arith; length = omega arith; vendor = refl }, addresses_small l behind)
addresses_small (V6 a ∷ l) h =
    let (here, behind) = and_parts (is_sized (V6 a)) (list_all is_sized l) h in
    let four : length a ≡ 16 = eqb-true (length a) 16 here in
    (record { code = omega arith; length = omega arith; vendor = refl }, addresses_small l behind)

name_small : (code : ℕ) (s : List ℕ) → code ≤ 299 → is_name s ≡ true → IsSmall (avp code s)
name_small code s h name =
    let (text, short) = and_parts (is_visible_text s) (nat_le (length s) max_name_len) name in
    let few = leb-true (length s) max_name_len short in
    record { code = h; length = omega arith; vendor = refl }

product_small : (s : List ℕ) → is_product s ≡ true → IsSmall (product_avp s)
product_small s name =
    let (text, short) = and_parts (is_utf8 s) (nat_le (length s) max_name_len) name in
    let few = leb-true (length s) max_name_len short in
    record { code = omega arith; length = omega arith; vendor = refl }

number_small : (code n : ℕ) → code ≤ 299 → IsSmall (number_avp code n)
number_small code n h = record { code = h; length = omega arith; vendor = refl }

failed_small : AvpSized → (f : Option Avp) → Each IsSmall (failed_avps f) × (length (failed_avps f) ≤ 1)
failed_small sized None = (tt, omega arith)
failed_small sized (Some a) = by (nat_le (avp_length a) longest_failed) refl where
  failed : Bool → List Avp
  failed b = if b then avp failed_avp (canonical_avp a) ∷ [] else []

  by : (b : Bool) → nat_le (avp_length a) longest_failed ≡ b → Each IsSmall (failed b) × (length (failed b) ≤ 1)
  by true e =
      let few = leb-true (avp_length a) longest_failed e in
      let size = sized a in
      ((record { code = omega arith; length = omega arith; vendor = refl }, tt), omega arith)
  by false e = (tt, omega arith)

origin_small : (n : Node) (rest : List Avp) → Each IsSmall rest → Each IsSmall (origin n rest)
origin_small n rest s =
    let realm = name_small origin_realm n.realm (omega arith) n.fit_realm in
    (name_small origin_host n.host (omega arith) n.fit_host, (realm, s))

specific_small : (a : VendorApplication) → IsSmall (specific_avp a)
unfolding specific_avp
specific_small a = record { code = omega arith; length = by a.accounting; vendor = refl } where
  by : (b : Bool)
      → length (canonical_list (number_avp vendor_id a.vendor ∷ number_avp (id_code b) a.application ∷ [])) ≤ 4100
  by true = omega arith
  by false = omega arith

specifics_small : (l : List VendorApplication) → Each IsSmall (map specific_avp l)
specifics_small [] = tt
specifics_small (a ∷ l) = (specific_small a, specifics_small l)

state_small : (o : Option ℕ) → Each IsSmall (state_avps o) × (length (state_avps o) ≤ 1)
state_small None = (tt, omega arith)
state_small (Some n) = ((number_small origin_state_id n (omega arith), tt), omega arith)

firmware_small : (o : Option ℕ) → Each IsSmall (firmware_avps o) × (length (firmware_avps o) ≤ 1)
firmware_small None = (tt, omega arith)
firmware_small (Some n) = ((record { code = omega arith; length = omega arith; vendor = refl }, tt), omega arith)

applications_small : (n : Node) → Each IsSmall (application_avps n)
applications_small n =
    let l = vendor_applications n.extras in
    let (last, one) = firmware_small (own_firmware n.extras) in
    let specific = each_both IsSmall (map specific_avp l) (firmware_avps (own_firmware n.extras)) (specifics_small l) last in
    let acct =
    each_both IsSmall (map (number_avp acct_application_id) n.acct) _
    (numbers_small acct_application_id n.acct (omega arith)) specific in
    each_both IsSmall (map (number_avp auth_application_id) n.auth) _
    (numbers_small auth_application_id n.auth (omega arith)) acct

behind_small : (n : Node) → Each IsSmall (behind_failed n)
behind_small n =
    each_both IsSmall (map (number_avp supported_vendor_id) (supported_vendors n.extras)) (application_avps n)
    (numbers_small supported_vendor_id (supported_vendors n.extras) (omega arith)) (applications_small n)

capabilities_small : (n : Node) (failed : List Avp) → Each IsSmall failed → Each IsSmall (capabilities n failed)
capabilities_small n failed f =
    let (state, one) = state_small (own_state n.extras) in
    let behind : Each IsSmall (state_avps (own_state n.extras) ++ (failed ++ behind_failed n)) =
    each_both IsSmall (state_avps (own_state n.extras)) (failed ++ behind_failed n) state
    (each_both IsSmall failed (behind_failed n) f (behind_small n)) in
    let parts : Each IsSmall (behind_addresses n failed) =
    (number_small vendor_id n.vendor (omega arith), (product_small n.product n.fit_product, behind)) in
    let (some, sized) =
    and_parts (nat_lt 0 (length n.addresses) && nat_le (length n.addresses) max_addresses)
    (list_all is_sized n.addresses) n.fit_addresses in
    origin_small n (map address_avp n.addresses ++ behind_addresses n failed)
    (each_both IsSmall (map address_avp n.addresses) (behind_addresses n failed)
    (addresses_small n.addresses sized) parts)

-- extras are few
extras_few : (o : Option Extras) → (length (vendor_applications o) ≤ 256) × (length (supported_vendors o) ≤ 256)
extras_few None = (omega arith, omega arith)
extras_few (Some e) =
    let (applications, x) = and_parts (nat_le (length e.applications) max_ids) (list_all is_vendor_application e.applications)
    e.fit_applications in
    let (vendors, y) = and_parts (nat_le (length e.vendors) max_ids) (list_all is_number e.vendors) e.fit_vendors in
    (leb-true (length e.applications) max_ids applications, leb-true (length e.vendors) max_ids vendors)

capabilities_few : (n : Node) (failed : List Avp) → length failed ≤ 1 → length (capabilities n failed) ≤ 1200
capabilities_few n failed f =
    let (both, sized) =
    and_parts (nat_lt 0 (length n.addresses) && nat_le (length n.addresses) max_addresses)
    (list_all is_sized n.addresses) n.fit_addresses in
    let (some, addresses) =
    and_parts (nat_lt 0 (length n.addresses)) (nat_le (length n.addresses) max_addresses) both in
    let (auth, x) = and_parts (nat_le (length n.auth) max_ids) (list_all is_number n.auth) n.fit_auth in
    let (acct, y) = and_parts (nat_le (length n.acct) max_ids) (list_all is_number n.acct) n.fit_acct in
    let a = leb-true (length n.addresses) max_addresses addresses in
    let b = leb-true (length n.auth) max_ids auth in
    let c = leb-true (length n.acct) max_ids acct in
    let (d, e) = extras_few n.extras in
    let (s, state) = state_small (own_state n.extras) in
    let (t, firmware) = firmware_small (own_firmware n.extras) in
    simp (length-append, length-map) (omega arith)

-- the header of a request
request_fits : (command id : ℕ) → command < 256 ^ 3 → id < 256 ^ 4 → HeaderFits (request_header command id)
request_fits command id c i = record { command = c; application = omega arith; hop = i; end = i }

-- and that of an answer, whose numbers are those of the request
answer_fits : (error : Bool) (to : Header) → HeaderFits to → HeaderFits (answer_header error to)
answer_fits error to h = record { command = h.command; application = h.application; hop = h.hop; end = h.end }

pub cer_spelled : Laws → CerIsSpelled
cer_spelled laws n id i =
    let few = capabilities_few n [] (omega arith) in
    message_spelled laws (built_cer n id) (request_fits capabilities_exchange id (omega arith) i)
    (capabilities_small n [] tt) (omega arith)

pub cea_spelled : Laws → CeaIsSpelled
cea_spelled laws n to code failed h =
    let (small, one) = failed_small laws.sized failed in
    let few = capabilities_few n (failed_avps failed) one in
    message_spelled laws (built_cea n to code failed) (answer_fits false to h)
    (number_small result_code code (omega arith), capabilities_small n (failed_avps failed) small) (omega arith)

pub dwr_spelled : Laws → DwrIsSpelled
dwr_spelled laws n id i =
    let (small, one) = state_small (own_state n.extras) in
    message_spelled laws (built_dwr n id) (request_fits device_watchdog id (omega arith) i)
    (origin_small n (state_avps (own_state n.extras)) small) (omega arith)

pub dpr_spelled : Laws → DprIsSpelled
dpr_spelled laws n id cause i =
    let cause_avp = number_avp disconnect_cause (cause_number cause) in
    let one : Each IsSmall (cause_avp ∷ []) = (number_small disconnect_cause (cause_number cause) (omega arith), tt) in
    message_spelled laws (built_dpr n id cause) (request_fits disconnect_peer id (omega arith) i)
    (origin_small n (cause_avp ∷ []) one) (omega arith)

pub answer_spelled : Laws → AnswerIsSpelled
answer_spelled laws n to code failed h =
    let (small, one) = failed_small laws.sized failed in
    let (last, other) = state_small (answer_state n to.command) in
    let both = each_both IsSmall (failed_avps failed) (state_avps (answer_state n to.command)) small last in
    let few : length (failed_avps failed ++ state_avps (answer_state n to.command)) ≤ 2 =
    simp length-append (omega arith) in
    message_spelled laws (built_answer n to code failed) (answer_fits false to h)
    (number_small result_code code (omega arith), origin_small n _ both) (omega arith)

pub error_spelled : Laws → ErrorIsSpelled
error_spelled laws n to code h =
    let one : Each IsSmall (result_avp code ∷ []) = (number_small result_code code (omega arith), tt) in
    message_spelled laws (built_error n to code) (answer_fits true to h) (origin_small n (result_avp code ∷ []) one)
    (omega arith)
