-- What a node builds is good under the base dictionary.
use Rattle.std.proofs.Common.{◌≡◌, ℕ, Bool, true, false, nat_lt, nat_le, Option, None, Some, List, [], ◌∷◌, ◌++◌, map, length, refl, arith, eqb-true, if◌then◌else◌}
use Rattle.std.specs.List.{list_all}
use Rattle.std.specs.Str.{is_utf8}
use Rattle.std.proofs.lemmas.Bool.{and_parts, ltb-true, le-ltb}
use Rattle.dm_wire.specs.Spelling.{avp_length}
use Rattle.dm_wire.specs.Canonical.{canonical_avp, canonical_list}
use Rattle.dm_wire.specs.declared.avp.Avp.{Avp}
use Rattle.dm_wire.specs.declared.message.Header.{Header}
use Rattle.dm_value.specs.declared.address.Ip.{Ip}
use Rattle.dm_value.specs.declared.address.Ip.TheVariants.{V4, V6}
use Rattle.dm_value.specs.Flaws.{is_visible, is_visible_text}
use Rattle.dm_tables.specs.declared.def.CommandDef.{CommandDef}
use Rattle.dm_tables.specs.Base.{base_avps, base_definitions}
use Rattle.dm_tables.specs.Base as base
use Rattle.dm_dict.specs.Faults.{faults, wrong_bits, command_for, group_faults, member_faults, list_faults_with_groups}
use Rattle.dm_base.specs.declared.node.Node.{Node}
use Rattle.dm_wire.specs.Members.{members}
use Rattle.dm_base.specs.Extra.{vendor_applications, supported_vendors, own_firmware, own_state, answer_state}
use Rattle.dm_base.specs.declared.vendor_application.VendorApplication.{VendorApplication}
use Rattle.dm_base.specs.Codes.{origin_state_id, firmware_revision, supported_vendor_id, vendor_specific_application_id}
use Rattle.dm_base.specs.Built.{id_code, specific_avp, state_avps, firmware_avps, behind_failed}
use Rattle.dm_base.proofs.Inside.{inside}
use Rattle.dm_base.specs.Fit.{is_name, is_sized, are_addresses, is_product}
use Rattle.dm_base.specs.declared.kind.Cause.{Cause}
use Rattle.dm_base.specs.Codes.{capabilities_exchange, device_watchdog, disconnect_peer, host_ip_address}
use Rattle.dm_base.specs.Codes.{auth_application_id, acct_application_id, origin_host, origin_realm, vendor_id}
use Rattle.dm_base.specs.Codes.{result_code, product_name, disconnect_cause, failed_avp, longest_failed, max_name_len}
use Rattle.dm_base.specs.Built.{avp, number_avp, address_avp, product_avp, origin, application_avps, behind_addresses, capabilities, failed_avps, result_avp, request_header, answer_header, cause_number, built_cer, built_dwr, built_dpr, built_cea, built_answer, built_error}
use Rattle.dm_base.proofs.Shapes.{Part, One, Many, IsRight, Each, IsShaped, keeps, shaped_right}

abbrev Right : ℕ → Avp → Type 0
Right code a = IsRight base_avps code a

-- the text has an octet, and all are visible
visible : (s : List ℕ) → is_name s ≡ true → (nat_lt (length s) 1 ≡ false) × (list_all is_visible s ≡ true)
visible s h =
    let (text, short) = and_parts (is_visible_text s) (nat_le (length s) max_name_len) h in
    let (some, all) = and_parts (nat_lt 0 (length s)) (list_all is_visible s) text in
    (le-ltb (length s) 1 (let k = ltb-true 0 (length s) some in omega arith), all)

pub host_right : (s : List ℕ) → is_name s ≡ true → Right origin_host (avp origin_host s)
host_right s h =
    let (some, all) = visible s h in record { is_defined = refl; faultless = rw (some, all) refl }

pub realm_right : (s : List ℕ) → is_name s ≡ true → Right origin_realm (avp origin_realm s)
realm_right s h =
    let (some, all) = visible s h in record { is_defined = refl; faultless = rw (some, all) refl }

pub address_right : (a : Ip) → is_sized a ≡ true → Right host_ip_address (address_avp a)
address_right (V4 a) h =
    let four : length a ≡ 4 = eqb-true (length a) 4 h in
    record { is_defined = refl; faultless = rw four refl }
address_right (V6 a) h =
    let four : length a ≡ 16 = eqb-true (length a) 16 h in
    record { is_defined = refl; faultless = rw four refl }

pub addresses_right : (l : List Ip) → list_all is_sized l ≡ true → Each (Right host_ip_address) (map address_avp l)
addresses_right [] h = tt
addresses_right (a ∷ l) h =
    let (here, behind) = and_parts (is_sized a) (list_all is_sized l) h in
    (address_right a here, addresses_right l behind)

pub vendor_right : (n : ℕ) → Right vendor_id (number_avp vendor_id n)
vendor_right n = record { is_defined = refl; faultless = refl }

pub product_right : (s : List ℕ) → is_product s ≡ true → Right product_name (product_avp s)
product_right s h =
    let (text, short) = and_parts (is_utf8 s) (nat_le (length s) max_name_len) h in
    let none : nat_lt (length s) 0 ≡ false = le-ltb (length s) 0 (omega arith) in
    record { is_defined = refl; faultless = rw (none, text) refl }

pub auth_right : (l : List ℕ) → Each (Right auth_application_id) (map (number_avp auth_application_id) l)
auth_right [] = tt
auth_right (n ∷ l) = (record { is_defined = refl; faultless = refl }, auth_right l)

pub acct_right : (l : List ℕ) → Each (Right acct_application_id) (map (number_avp acct_application_id) l)
acct_right [] = tt
acct_right (n ∷ l) = (record { is_defined = refl; faultless = refl }, acct_right l)

pub result_right : (n : ℕ) → Right result_code (number_avp result_code n)
result_right n = record { is_defined = refl; faultless = refl }

pub cause_right : (n : ℕ) → Right disconnect_cause (number_avp disconnect_cause n)
cause_right n = record { is_defined = refl; faultless = refl }

pub state_right : (n : ℕ) → Right origin_state_id (number_avp origin_state_id n)
state_right n = record { is_defined = refl; faultless = refl }

pub firmware_right : (n : ℕ) → Right firmware_revision (record (number_avp firmware_revision n) { mandatory = false })
firmware_right n = record { is_defined = refl; faultless = refl }

pub supported_right : (l : List ℕ) → Each (Right supported_vendor_id) (map (number_avp supported_vendor_id) l)
supported_right [] = tt
supported_right (n ∷ l) = (record { is_defined = refl; faultless = refl }, supported_right l)

-- a Vendor-Specific-Application-Id holds what it should
specific_right : (a : VendorApplication) → Right vendor_specific_application_id (specific_avp a)
unfolding specific_avp
specific_right a = record { is_defined = refl; faultless = by a.accounting } where
  by : (b : Bool)
      → member_faults (list_faults_with_groups (group_faults 7 base_avps) base_avps base.vendor_specific_application_id_def.rule)
      (specific_avp a)
      (members (canonical_list (number_avp vendor_id a.vendor ∷ number_avp (id_code b) a.application ∷ []))) ≡ []
  by true = rw (inside true a.vendor a.application) refl
  by false = rw (inside false a.vendor a.application) refl

specifics_right : (l : List VendorApplication) → Each (Right vendor_specific_application_id) (map specific_avp l)
specifics_right [] = tt
specifics_right (a ∷ l) = (specific_right a, specifics_right l)

pub failed_right : (s : List ℕ) → Right failed_avp (avp failed_avp s)
failed_right s = record { is_defined = refl; faultless = refl }

abbrev two_shape : List Part → List Part
two_shape ps = One origin_host ∷ One origin_realm ∷ ps

abbrev Shaped : List Part → List Avp → Type 0
Shaped ps l = IsShaped base_avps ps l

pub origin_shaped : (n : Node) (ps : List Part) (rest : List Avp) → Shaped ps rest
    → Shaped (two_shape ps) (origin n rest)
origin_shaped n ps rest s =
    let realm = realm_right n.realm n.fit_realm in
    (avp origin_host n.host, _, refl, host_right n.host n.fit_host, (avp origin_realm n.realm, rest, refl, realm, s))

pub addresses_shaped : (l : List Ip) (ps : List Part) (rest : List Avp) → are_addresses l ≡ true → Shaped ps rest
    → Shaped (One host_ip_address ∷ Many host_ip_address ∷ ps) (map address_avp l ++ rest)
addresses_shaped [] ps rest h s = absurd (cc)
addresses_shaped (a ∷ l) ps rest h s =
    let (both, sized) = and_parts _ _ h in
    let (here, behind) = and_parts (is_sized a) (list_all is_sized l) sized in
    (address_avp a, _, refl, address_right a here, (map address_avp l, rest, refl, addresses_right l behind, s))

-- an AVP of this code, where there is a number for it
abbrev some_shape : ℕ → Option ℕ → List Part → List Part
some_shape code None ps = ps
some_shape code (Some n) ps = One code ∷ ps

abbrev last_shape : Option ℕ → List Part
last_shape firmware = some_shape firmware_revision firmware []

abbrev ids_shape : Option ℕ → List Part
ids_shape firmware =
    Many auth_application_id ∷ Many acct_application_id ∷ Many vendor_specific_application_id ∷ last_shape firmware

abbrev failed_shape : Option ℕ → List Part
failed_shape firmware = Many failed_avp ∷ Many supported_vendor_id ∷ ids_shape firmware

abbrev behind_shape : Option ℕ → Option ℕ → List Part
behind_shape state firmware =
    One vendor_id ∷ One product_name ∷ some_shape origin_state_id state (failed_shape firmware)

abbrev caps_shape : Option ℕ → Option ℕ → List Part
caps_shape state firmware = two_shape (One host_ip_address ∷ Many host_ip_address ∷ behind_shape state firmware)

state_shaped : (state : Option ℕ) (ps : List Part) (rest : List Avp) → Shaped ps rest
    → Shaped (some_shape origin_state_id state ps) (state_avps state ++ rest)
state_shaped None ps rest s = s
state_shaped (Some n) ps rest s = (number_avp origin_state_id n, rest, refl, state_right n, s)

firmware_shaped : (firmware : Option ℕ) → Shaped (last_shape firmware) (firmware_avps firmware)
firmware_shaped None = refl
firmware_shaped (Some n) = (record (number_avp firmware_revision n) { mandatory = false }, [], refl, firmware_right n, refl)

applications_shaped : (n : Node) → Shaped (ids_shape (own_firmware n.extras)) (application_avps n)
applications_shaped n =
    let firmware = own_firmware n.extras in
    let l = vendor_applications n.extras in
    let specific : Shaped (Many vendor_specific_application_id ∷ last_shape firmware)
    (map specific_avp l ++ firmware_avps firmware) =
    (map specific_avp l, firmware_avps firmware, refl, specifics_right l, firmware_shaped firmware) in
    let acct : Shaped (Many acct_application_id ∷ Many vendor_specific_application_id ∷ last_shape firmware)
    (map (number_avp acct_application_id) n.acct ++ (map specific_avp l ++ firmware_avps firmware)) =
    (map (number_avp acct_application_id) n.acct, _, refl, acct_right n.acct, specific) in
    (map (number_avp auth_application_id) n.auth, _, refl, auth_right n.auth, acct)

pub failed_shaped : (f : Option Avp) → Each (Right failed_avp) (failed_avps f)
failed_shaped None = tt
failed_shaped (Some a) = by (nat_le (avp_length a) longest_failed) where
  by : (b : Bool) → Each (Right failed_avp) (if b then avp failed_avp (canonical_avp a) ∷ [] else [])
  by true = (failed_right (canonical_avp a), tt)
  by false = tt

-- the shapes of a node's own
abbrev own_behind : Node → List Part
own_behind n = behind_shape (own_state n.extras) (own_firmware n.extras)

abbrev own_shape : Node → List Part
own_shape n = caps_shape (own_state n.extras) (own_firmware n.extras)

behind_shaped : (n : Node) (failed : List Avp) → Each (Right failed_avp) failed
    → Shaped (own_behind n) (behind_addresses n failed)
behind_shaped n failed f =
    let firmware = own_firmware n.extras in
    let vendors = supported_vendors n.extras in
    let supported : Shaped (Many supported_vendor_id ∷ ids_shape firmware) (behind_failed n) =
    (map (number_avp supported_vendor_id) vendors, _, refl, supported_right vendors, applications_shaped n) in
    let failing : Shaped (failed_shape firmware) (failed ++ behind_failed n) =
    (failed, behind_failed n, refl, f, supported) in
    let inner = state_shaped (own_state n.extras) (failed_shape firmware) (failed ++ behind_failed n) failing in
    let product = product_right n.product n.fit_product in
    (number_avp vendor_id n.vendor, _, refl, vendor_right n.vendor, (product_avp n.product, _, refl, product, inner))

pub capabilities_shaped : (n : Node) (failed : List Avp) → Each (Right failed_avp) failed
    → Shaped (own_shape n) (capabilities n failed)
capabilities_shaped n failed f =
    let behind = behind_shaped n failed f in
    let addresses = addresses_shaped n.addresses (own_behind n) (behind_addresses n failed) n.fit_addresses behind in
    origin_shaped n (One host_ip_address ∷ Many host_ip_address ∷ own_behind n)
    (map address_avp n.addresses ++ behind_addresses n failed) addresses

-- the messages whose AVPs are of a shape that keeps to the command's rule
pub good : (h : Header) (c : CommandDef) (ps : List Part) (l : List Avp) → command_for base_definitions h ≡ Some c
    → wrong_bits h ≡ false → Shaped ps l → keeps base_avps c.rule ps ≡ true
    → faults base_definitions (record { header = h; avps = l }) ≡ []
good h c ps l found bits s k = rw (found, bits) (shaped_right base_avps c.rule ps l s k)

cer_rule : (state firmware : Option ℕ) → keeps base_avps base.cer_def.rule (caps_shape state firmware) ≡ true
cer_rule None None = refl
cer_rule None (Some f) = refl
cer_rule (Some s) None = refl
cer_rule (Some s) (Some f) = refl

pub good_cer : (n : Node) (id : ℕ) → faults base_definitions (built_cer n id) ≡ []
good_cer n id =
    good (request_header capabilities_exchange id) base.cer_def (own_shape n) (capabilities n []) refl refl
    (capabilities_shaped n [] tt) (cer_rule (own_state n.extras) (own_firmware n.extras))

abbrev dwr_shape : Option ℕ → List Part
dwr_shape state = two_shape (some_shape origin_state_id state [])

dwr_rule : (state : Option ℕ) → keeps base_avps base.dwr_def.rule (dwr_shape state) ≡ true
dwr_rule None = refl
dwr_rule (Some s) = refl

-- Origin-State-Id at the end
last_state : (state : Option ℕ) → Shaped (some_shape origin_state_id state []) (state_avps state)
last_state None = refl
last_state (Some n) = (number_avp origin_state_id n, [], refl, state_right n, refl)

pub good_dwr : (n : Node) (id : ℕ) → faults base_definitions (built_dwr n id) ≡ []
good_dwr n id =
    good (request_header device_watchdog id) base.dwr_def (dwr_shape (own_state n.extras)) _ refl refl
    (origin_shaped n (some_shape origin_state_id (own_state n.extras) []) (state_avps (own_state n.extras))
    (last_state (own_state n.extras)))
    (dwr_rule (own_state n.extras))

dpr_rule : keeps base_avps base.dpr_def.rule (two_shape (One disconnect_cause ∷ [])) ≡ true
dpr_rule = refl

pub good_dpr : (n : Node) (id : ℕ) (cause : Cause) → faults base_definitions (built_dpr n id cause) ≡ []
good_dpr n id cause =
    good (request_header disconnect_peer id) base.dpr_def (two_shape (One disconnect_cause ∷ [])) _ refl refl
    (origin_shaped n (One disconnect_cause ∷ []) _
    (number_avp disconnect_cause (cause_number cause), [], refl, cause_right (cause_number cause), refl)) dpr_rule

cea_rule : (state firmware : Option ℕ)
    → keeps base_avps base.cea_def.rule (One result_code ∷ caps_shape state firmware) ≡ true
cea_rule None None = refl
cea_rule None (Some f) = refl
cea_rule (Some s) None = refl
cea_rule (Some s) (Some f) = refl

pub good_cea : (n : Node) (to : Header) (code : ℕ) (failed : Option Avp) → to.command ≡ capabilities_exchange
    → faults base_definitions (built_cea n to code failed) ≡ []
good_cea n to code failed h =
    good (answer_header false to) base.cea_def (One result_code ∷ own_shape n) (built_cea n to code failed).avps
    (rw h refl) refl
    (result_avp code, _, refl, result_right code, capabilities_shaped n (failed_avps failed) (failed_shaped failed))
    (cea_rule (own_state n.extras) (own_firmware n.extras))

abbrev answer_shape : Option ℕ → List Part
answer_shape state = One result_code ∷ two_shape (Many failed_avp ∷ some_shape origin_state_id state [])

answer_shaped : (n : Node) (to : Header) (code : ℕ) (failed : Option Avp)
    → Shaped (answer_shape (answer_state n to.command)) (built_answer n to code failed).avps
answer_shaped n to code failed = (
  result_avp code,
  _,
  refl,
  result_right code,
  origin_shaped n (Many failed_avp ∷ some_shape origin_state_id (answer_state n to.command) []) _
      (failed_avps failed, _, refl, failed_shaped failed, last_state (answer_state n to.command)),
)

dwa_rule : (state : Option ℕ) → keeps base_avps base.dwa_def.rule (answer_shape state) ≡ true
dwa_rule None = refl
dwa_rule (Some s) = refl

dpa_rule : (state : Option ℕ) → keeps base_avps base.dpa_def.rule (answer_shape state) ≡ true
dpa_rule None = refl
dpa_rule (Some s) = refl

pub good_dwa : (n : Node) (to : Header) (code : ℕ) (failed : Option Avp) → to.command ≡ device_watchdog
    → faults base_definitions (built_answer n to code failed) ≡ []
good_dwa n to code failed h =
    let state = answer_state n to.command in
    good (answer_header false to) base.dwa_def (answer_shape state) _ (rw h refl) refl (answer_shaped n to code failed)
    (dwa_rule state)

pub good_dpa : (n : Node) (to : Header) (code : ℕ) (failed : Option Avp) → to.command ≡ disconnect_peer
    → faults base_definitions (built_answer n to code failed) ≡ []
good_dpa n to code failed h =
    let state = answer_state n to.command in
    good (answer_header false to) base.dpa_def (answer_shape state) _ (rw h refl) refl (answer_shaped n to code failed)
    (dpa_rule state)

error_rule : keeps base_avps base.answer_message_def.rule (two_shape (One result_code ∷ [])) ≡ true
error_rule = refl

pub good_error : (n : Node) (to : Header) (code : ℕ) → faults base_definitions (built_error n to code) ≡ []
good_error n to code =
    good (answer_header true to) base.answer_message_def (two_shape (One result_code ∷ [])) _ refl refl
    (origin_shaped n (One result_code ∷ []) _ (result_avp code, [], refl, result_right code, refl)) error_rule
