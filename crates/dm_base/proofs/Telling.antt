-- What a node's messages tell is what it says of itself.
use Rattle.std.proofs.Common.{◌≡◌, ℕ, Bool, true, false, nat_le, Option, None, Some, List, [], ◌∷◌, ◌++◌, map, flat_map, find, refl, ◌∙◌, ap, append-nil, if◌then◌else◌}
use Rattle.std.proofs.lemmas.Bool.{and_parts, ltb-true}
use Rattle.dm_wire.specs.Spelling.{avp_length}
use Rattle.dm_wire.specs.Canonical.{canonical_avp}
use Rattle.dm_wire.specs.declared.avp.Avp.{Avp}
use Rattle.dm_base.specs.declared.kind.Caps.{Caps}
use Rattle.dm_base.specs.declared.extras.Extras.{Extras}
use Rattle.dm_base.specs.declared.node.Node.{Node}
use Rattle.dm_base.specs.Fit.{is_number, is_optional_number}
use Rattle.std.specs.List.{list_all}
use Rattle.dm_base.specs.Kinds.{is_plain, data_of, number_in}
use Rattle.dm_base.specs.Senders.{number_told, numbers_of, numbers_told}
use Rattle.dm_base.specs.Extra.{vendor_applications, supported_vendors, own_firmware, own_state}
use Rattle.dm_base.specs.Codes.{origin_state_id, firmware_revision, supported_vendor_id, product_name, vendor_id}
use Rattle.dm_base.specs.Codes.{auth_application_id, acct_application_id, failed_avp, longest_failed}
use Rattle.dm_base.specs.Built.{avp, number_avp, address_avp, application_avps, behind_addresses, behind_failed, capabilities, failed_avps, specific_avp, state_avps, firmware_avps}
use Rattle.dm_base.specs.Told.{TellsNode, CerTellsNode, CeaTellsNode, DwrTellsState, DwaTellsState}
use Rattle.dm_base.proofs.Own.{number_read, caps_own, passed, told, failed_passed, firmware_passed, state_passed}

-- AVPs of other codes
unfound : {X : Type 0} (code : ℕ) (g : X → Avp) (xs : List X) (rest : List Avp)
    → ((x : X) → is_plain code (g x) ≡ false) → find (is_plain code) (map g xs ++ rest) ≡ find (is_plain code) rest
unfound code g [] rest h = refl
unfound code g (x ∷ xs) rest h = rw (h x) (unfound code g xs rest h)

failed_unfound : (code : ℕ) (o : Option Avp) (rest : List Avp)
    → ((s : List ℕ) → is_plain code (avp failed_avp s) ≡ false)
    → find (is_plain code) (failed_avps o ++ rest) ≡ find (is_plain code) rest
failed_unfound code None rest h = refl
failed_unfound code (Some a) rest h = by (nat_le (avp_length a) longest_failed) where
  by : (b : Bool)
      → find (is_plain code) ((if b then avp failed_avp (canonical_avp a) ∷ [] else []) ++ rest)
      ≡ find (is_plain code) rest
  by true = rw (h (canonical_avp a)) refl
  by false = refl

-- an AVP behind the failed one is Firmware-Revision, where it is none of the lists
last_found : (code : ℕ) (n : Node) (failed : Option Avp)
    → ((s : List ℕ) → is_plain code (avp failed_avp s) ≡ false)
    → ((k : ℕ) → is_plain code (number_avp supported_vendor_id k) ≡ false)
    → ((k : ℕ) → is_plain code (number_avp auth_application_id k) ≡ false)
    → ((k : ℕ) → is_plain code (number_avp acct_application_id k) ≡ false)
    → ((s : List ℕ) → is_plain code (avp 260 s) ≡ false)
    → find (is_plain code) (failed_avps failed ++ behind_failed n)
    ≡ find (is_plain code) (firmware_avps (own_firmware n.extras))
unfolding specific_avp
last_found code n failed f v a b s =
    let last = firmware_avps (own_firmware n.extras) in
    let l = vendor_applications n.extras in
    failed_unfound code failed (behind_failed n) f
    ∙ unfound code (number_avp supported_vendor_id) (supported_vendors n.extras) (application_avps n) v
    ∙ unfound code (number_avp auth_application_id) n.auth
    (map (number_avp acct_application_id) n.acct ++ (map specific_avp l ++ last)) a
    ∙ unfound code (number_avp acct_application_id) n.acct (map specific_avp l ++ last) b
    ∙ unfound code specific_avp l last (λ k. s (specific_avp k).bytes)

read : (n : ℕ) → is_number n ≡ true → number_in (number_avp 0 n).bytes ≡ Some n
read n h = ap Some (number_read n (ltb-true n 4294967296 h))

state_fits : (o : Option Extras) → is_optional_number (own_state o) ≡ true
state_fits None = refl
state_fits (Some e) = e.fit_state_id

firmware_fits : (o : Option Extras) → is_optional_number (own_firmware o) ≡ true
firmware_fits None = refl
firmware_fits (Some e) = e.fit_firmware

vendors_fit : (o : Option Extras) → list_all is_number (supported_vendors o) ≡ true
vendors_fit None = refl
vendors_fit (Some e) = let (few, fit) = and_parts _ _ e.fit_vendors in fit

-- Firmware-Revision alone
firmware_read : (o : Option ℕ) → is_optional_number o ≡ true
    → number_in (data_of (find (is_plain firmware_revision) (firmware_avps o))) ≡ o
firmware_read None h = refl
firmware_read (Some n) h = read n h

no_state : (o : Option ℕ) → number_in (data_of (find (is_plain origin_state_id) (firmware_avps o))) ≡ None
no_state None = refl
no_state (Some n) = refl

-- Origin-State-Id, where nothing behind it is one
state_read : (o : Option ℕ) (rest : List Avp) → is_optional_number o ≡ true
    → number_in (data_of (find (is_plain origin_state_id) rest)) ≡ None
    → number_in (data_of (find (is_plain origin_state_id) (state_avps o ++ rest))) ≡ o
state_read None rest h none = none
state_read (Some n) rest h none = read n h

state_unfound : (code : ℕ) (o : Option ℕ) (rest : List Avp)
    → ((k : ℕ) → is_plain code (number_avp origin_state_id k) ≡ false)
    → find (is_plain code) (state_avps o ++ rest) ≡ find (is_plain code) rest
state_unfound code None rest h = refl
state_unfound code (Some n) rest h = rw (h n) refl

product_told : (n : Node) (failed : List Avp)
    → data_of (find (is_plain product_name) (capabilities n failed)) ≡ n.product
product_told n failed =
    ap data_of (unfound product_name address_avp n.addresses (behind_addresses n failed) (λ a. refl))

vendor_told : (n : Node) (failed : List Avp) → number_told vendor_id (capabilities n failed) ≡ Some n.vendor
vendor_told n failed =
    ap (λ (o : Option Avp). number_in (data_of o))
    (unfound vendor_id address_avp n.addresses (behind_addresses n failed) (λ a. refl))
    ∙ read n.vendor n.fit_vendor

state_told : (n : Node) (failed : Option Avp)
    → number_told origin_state_id (capabilities n (failed_avps failed)) ≡ own_state n.extras
state_told n failed =
    let none : number_in (data_of (find (is_plain origin_state_id) (failed_avps failed ++ behind_failed n))) ≡ None =
    ap (λ (o : Option Avp). number_in (data_of o))
    (last_found origin_state_id n failed (λ s. refl) (λ k. refl) (λ k. refl) (λ k. refl) (λ s. refl))
    ∙ no_state (own_firmware n.extras) in
    ap (λ (o : Option Avp). number_in (data_of o))
    (unfound origin_state_id address_avp n.addresses (behind_addresses n (failed_avps failed)) (λ a. refl))
    ∙ state_read (own_state n.extras) (failed_avps failed ++ behind_failed n) (state_fits n.extras) none

firmware_told : (n : Node) (failed : Option Avp)
    → number_told firmware_revision (capabilities n (failed_avps failed)) ≡ own_firmware n.extras
firmware_told n failed =
    ap (λ (o : Option Avp). number_in (data_of o))
    (unfound firmware_revision address_avp n.addresses (behind_addresses n (failed_avps failed)) (λ a. refl)
    ∙ state_unfound firmware_revision (own_state n.extras) (failed_avps failed ++ behind_failed n) (λ k. refl)
    ∙ last_found firmware_revision n failed (λ s. refl) (λ k. refl) (λ k. refl) (λ k. refl) (λ s. refl))
    ∙ firmware_read (own_firmware n.extras) (firmware_fits n.extras)

vendors_told : (n : Node) (failed : Option Avp)
    → numbers_told supported_vendor_id (capabilities n (failed_avps failed)) ≡ supported_vendors n.extras
unfolding specific_avp
vendors_told n failed =
    let f = numbers_of supported_vendor_id in
    let last = firmware_avps (own_firmware n.extras) in
    let l = vendor_applications n.extras in
    let vendors = supported_vendors n.extras in
    let none : flat_map f (application_avps n) ≡ [] =
    passed f (number_avp auth_application_id) n.auth
    (map (number_avp acct_application_id) n.acct ++ (map specific_avp l ++ last)) (λ k. refl)
    ∙ passed f (number_avp acct_application_id) n.acct (map specific_avp l ++ last) (λ k. refl)
    ∙ passed f specific_avp l last (λ k. refl) ∙ firmware_passed f (own_firmware n.extras) (λ k. refl) in
    passed f address_avp n.addresses (behind_addresses n (failed_avps failed)) (λ a. refl)
    ∙ state_passed f (own_state n.extras) (failed_avps failed ++ behind_failed n) (λ k. refl)
    ∙ failed_passed f failed (behind_failed n) (λ s. refl)
    ∙ told f supported_vendor_id vendors (application_avps n) (vendors_fit n.extras) (λ k. refl)
    ∙ ap (λ (ids : List ℕ). vendors ++ ids) none ∙ append-nil vendors

tells : (n : Node) (failed : Option Avp) → TellsNode n (capabilities n (failed_avps failed))
tells n failed = record {
  host = refl;
  realm = refl;
  product = product_told n (failed_avps failed);
  vendor = vendor_told n (failed_avps failed);
  state = state_told n failed;
  firmware = firmware_told n failed;
  applications = ap (λ (c : Caps). c.applications) (caps_own n failed);
  vendors = vendors_told n failed;
}

pub cer_tells : CerTellsNode
cer_tells n id = tells n None

pub cea_tells : CeaTellsNode
cea_tells n to code failed =
    let t = tells n failed in
    record {
      host = t.host;
      realm = t.realm;
      product = t.product;
      vendor = t.vendor;
      state = t.state;
      firmware = t.firmware;
      applications = t.applications;
      vendors = t.vendors;
    }

-- nothing behind it
state_alone : (o : Option ℕ) → is_optional_number o ≡ true
    → number_in (data_of (find (is_plain origin_state_id) (state_avps o))) ≡ o
state_alone None h = refl
state_alone (Some n) h = read n h

pub dwr_tells : DwrTellsState
dwr_tells n id = state_alone (own_state n.extras) (state_fits n.extras)

pub dwa_tells : DwaTellsState
dwa_tells n to code failed h =
    rw h (ap (λ (o : Option Avp). number_in (data_of o))
    (failed_unfound origin_state_id failed (state_avps (own_state n.extras)) (λ s. refl))
    ∙ state_alone (own_state n.extras) (state_fits n.extras))
