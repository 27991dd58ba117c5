-- What a node builds is of the kind that it was built as.
use Rattle.std.proofs.Common.{◌≡◌, ◌<◌, ◌^◌, ℕ, pos, Bool, true, false, nat_le, Option, None, Some, Ok, List, [], ◌∷◌, ◌++◌, map, flat_map, refl, ◌∙◌, ap, append-nil, if◌then◌else◌}
use Rattle.std.specs.List.{list_all}
use Rattle.std.proofs.lemmas.Bool.{and_parts, ltb-true}
use Rattle.byteorder.specs.Endian.{big_number}
use Rattle.byteorder.specs.Numbers.{big_number-reads_back}
use Rattle.dm_wire.specs.Spelling.{be, avp_length}
use Rattle.dm_wire.specs.Canonical.{canonical_avp, canonical_list}
use Rattle.dm_wire.specs.declared.avp.Avp.{Avp}
use Rattle.dm_wire.specs.declared.message.Header.{Header}
use Rattle.dm_tables.specs.Base.{base_definitions}
use Rattle.dm_dict.specs.Faults.{Fault, faults, first}
use Rattle.dm_base.specs.declared.node.Node.{Node}
use Rattle.dm_base.specs.declared.kind.Cause.{Cause}
use Rattle.dm_base.specs.declared.kind.Cause.TheVariants.{Rebooting, Busy, DoNotWantToTalkToYou}
use Rattle.dm_base.specs.declared.kind.Kind.{Kind}
use Rattle.dm_base.specs.declared.kind.Kind.TheVariants as kinds
use Rattle.dm_wire.specs.Members.{members}
use Rattle.dm_base.specs.declared.extras.Extras.{Extras}
use Rattle.dm_base.specs.declared.vendor_application.VendorApplication.{VendorApplication}
use Rattle.dm_base.specs.Extra.{vendor_applications, supported_vendors, own_firmware, own_state, own_ids}
use Rattle.dm_base.specs.Specific.{ids_of}
use Rattle.dm_base.specs.Codes.{origin_state_id, firmware_revision, supported_vendor_id, vendor_id}
use Rattle.dm_base.specs.Built.{id_code, specific_avp, state_avps, firmware_avps, behind_failed}
use Rattle.dm_base.proofs.Inside.{inside}
use Rattle.dm_base.specs.Fit.{is_number, is_vendor_application}
use Rattle.dm_base.specs.Kinds.{ids_inside, application_ids, security_ids, caps_of, kind_of, kind_or_fault, IsBase}
use Rattle.dm_base.specs.Commands.{is_base_command}
use Rattle.dm_base.specs.Codes.{capabilities_exchange, device_watchdog, disconnect_peer}
use Rattle.dm_base.specs.Codes.{auth_application_id, acct_application_id, failed_avp, longest_failed}
use Rattle.dm_base.specs.Built.{avp, number_avp, address_avp, application_avps, behind_addresses, capabilities, failed_avps, own_caps, cause_number, built_cer, built_dwr, built_dpr, built_cea, built_answer}
use Rattle.dm_base.proofs.Good.{good_cer, good_dwr, good_dpr, good_cea, good_dwa, good_dpa}

pub number_read : (n : ℕ) → n < 256 ^ 4 → big_number 4 (be n 4) ≡ n
number_read n h = big_number-reads_back 4 n [] h

-- AVPs that tell nothing
pub passed : {X : Type 0} (f : Avp → List ℕ) (g : X → Avp) (xs : List X) (rest : List Avp) → ((x : X) → f (g x) ≡ [])
    → flat_map f (map g xs ++ rest) ≡ flat_map f rest
passed f g [] rest h = refl
passed f g (x ∷ xs) rest h = rw (h x) (passed f g xs rest h)

-- AVPs that tell their ids
pub told : (f : Avp → List ℕ) (code : ℕ) (ids : List ℕ) (rest : List Avp) → list_all is_number ids ≡ true
    → ((n : ℕ) → f (number_avp code n) ≡ big_number 4 (be n 4) ∷ [])
    → flat_map f (map (number_avp code) ids ++ rest) ≡ ids ++ flat_map f rest
told f code [] rest h e = refl
told f code (n ∷ ids) rest h e =
    let (here, behind) = and_parts (is_number n) (list_all is_number ids) h in
    rw (e n, number_read n (ltb-true n 4294967296 here), told f code ids rest behind e) refl

pub failed_passed : (f : Avp → List ℕ) (o : Option Avp) (rest : List Avp)
    → ((s : List ℕ) → f (avp failed_avp s) ≡ []) → flat_map f (failed_avps o ++ rest) ≡ flat_map f rest
failed_passed f None rest h = refl
failed_passed f (Some a) rest h = by (nat_le (avp_length a) longest_failed) where
  by : (b : Bool) → flat_map f ((if b then avp failed_avp (canonical_avp a) ∷ [] else []) ++ rest) ≡ flat_map f rest
  by true = rw (h (canonical_avp a)) refl
  by false = refl

-- a Vendor-Specific-Application-Id tells its id
specific_told : (a : VendorApplication) → is_number a.application ≡ true
    → application_ids (specific_avp a) ≡ a.application ∷ []
unfolding specific_avp
specific_told a h = by a.accounting where
  read : big_number 4 (be a.application 4) ≡ a.application
  read = number_read a.application (ltb-true a.application 4294967296 h)

  by : (b : Bool)
      → ids_inside (members (canonical_list (number_avp vendor_id a.vendor ∷ number_avp (id_code b) a.application ∷ [])))
      ≡ a.application ∷ []
  by true = rw (inside true a.vendor a.application) (ap (λ (id : ℕ). id ∷ []) read)
  by false = rw (inside false a.vendor a.application) (ap (λ (id : ℕ). id ∷ []) read)

specifics_told : (l : List VendorApplication) (rest : List Avp) → list_all is_vendor_application l ≡ true
    → flat_map application_ids (map specific_avp l ++ rest) ≡ ids_of l ++ flat_map application_ids rest
specifics_told [] rest h = refl
specifics_told (a ∷ l) rest h =
    let (here, behind) = and_parts (is_vendor_application a) (list_all is_vendor_application l) h in
    let (vendor, id) = and_parts (is_number a.vendor) (is_number a.application) here in
    rw (specific_told a id, specifics_told l rest behind) refl

-- the numbers of applications of vendors fit
applications_fit : (o : Option Extras) → list_all is_vendor_application (vendor_applications o) ≡ true
applications_fit None = refl
applications_fit (Some e) = let (few, fit) = and_parts _ _ e.fit_applications in fit

-- Firmware-Revision and Origin-State-Id tell no ids
pub firmware_passed : (f : Avp → List ℕ) (o : Option ℕ)
    → ((n : ℕ) → f (record (number_avp firmware_revision n) { mandatory = false }) ≡ []) → flat_map f (firmware_avps o) ≡ []
firmware_passed f None h = refl
firmware_passed f (Some n) h = rw (h n) refl

pub state_passed : (f : Avp → List ℕ) (o : Option ℕ) (rest : List Avp)
    → ((n : ℕ) → f (number_avp origin_state_id n) ≡ []) → flat_map f (state_avps o ++ rest) ≡ flat_map f rest
state_passed f None rest h = refl
state_passed f (Some n) rest h = rw (h n) refl

applications_own : (n : Node) → flat_map application_ids (application_avps n) ≡ own_ids n
applications_own n =
    let (few, auth) = and_parts _ _ n.fit_auth in
    let (small, acct) = and_parts _ _ n.fit_acct in
    let l = vendor_applications n.extras in
    let last = firmware_avps (own_firmware n.extras) in
    let specific : flat_map application_ids (map specific_avp l ++ last) ≡ ids_of l =
    specifics_told l last (applications_fit n.extras)
    ∙ ap (λ (ids : List ℕ). ids_of l ++ ids) (firmware_passed application_ids (own_firmware n.extras) (λ k. refl))
    ∙ append-nil (ids_of l) in
    told application_ids auth_application_id n.auth
    (map (number_avp acct_application_id) n.acct ++ (map specific_avp l ++ last)) auth (λ k. refl)
    ∙ ap (λ (ids : List ℕ). n.auth ++ ids)
    (told application_ids acct_application_id n.acct (map specific_avp l ++ last) acct (λ k. refl)
    ∙ ap (λ (ids : List ℕ). n.acct ++ ids) specific)

security_none : (n : Node) → flat_map security_ids (application_avps n) ≡ []
unfolding specific_avp
security_none n =
    let l = vendor_applications n.extras in
    let last = firmware_avps (own_firmware n.extras) in
    passed security_ids (number_avp auth_application_id) n.auth
    (map (number_avp acct_application_id) n.acct ++ (map specific_avp l ++ last)) (λ k. refl)
    ∙ passed security_ids (number_avp acct_application_id) n.acct (map specific_avp l ++ last) (λ k. refl)
    ∙ passed security_ids specific_avp l last (λ k. refl)
    ∙ firmware_passed security_ids (own_firmware n.extras) (λ k. refl)

-- what stands behind the addresses tells what the applications tell
behind_told : (f : Avp → List ℕ) (n : Node) (failed : Option Avp)
    → ((k : ℕ) → f (number_avp origin_state_id k) ≡ []) → ((k : ℕ) → f (number_avp supported_vendor_id k) ≡ [])
    → ((s : List ℕ) → f (avp failed_avp s) ≡ [])
    → flat_map f (state_avps (own_state n.extras) ++ (failed_avps failed ++ behind_failed n))
    ≡ flat_map f (application_avps n)
behind_told f n failed state vendor fails =
    state_passed f (own_state n.extras) (failed_avps failed ++ behind_failed n) state
    ∙ failed_passed f failed (behind_failed n) fails
    ∙ passed f (number_avp supported_vendor_id) (supported_vendors n.extras) (application_avps n) vendor

-- capabilities tell those of the node
pub caps_own : (n : Node) (failed : Option Avp) → caps_of (capabilities n (failed_avps failed)) ≡ own_caps n
caps_own n failed =
    let applications : flat_map application_ids (capabilities n (failed_avps failed)) ≡ own_ids n =
    passed application_ids address_avp n.addresses (behind_addresses n (failed_avps failed)) (λ a. refl)
    ∙ behind_told application_ids n failed (λ k. refl) (λ k. refl) (λ s. refl) ∙ applications_own n in
    let security : flat_map security_ids (capabilities n (failed_avps failed)) ≡ [] =
    passed security_ids address_avp n.addresses (behind_addresses n (failed_avps failed)) (λ a. refl)
    ∙ behind_told security_ids n failed (λ k. refl) (λ k. refl) (λ s. refl) ∙ security_none n in
    λ i. record { host = n.host; realm = n.realm; applications = applications i; security = security i }

-- a good message has its kind
good_kind : (b : Bool) (fs : List Fault) (k j : Kind) → b ≡ true → fs ≡ [] → k ≡ j
    → (if b then kind_or_fault (first fs) k else Ok kinds.Other) ≡ Ok j
good_kind b fs k j e f g = rw (e, f, g) refl

pub kind_cer : (n : Node) (id : ℕ) → IsBase (built_cer n id) (kinds.Cer (own_caps n))
kind_cer n id = record {
  of_kind =
      good_kind true (faults base_definitions (built_cer n id)) (kinds.Cer (caps_of (capabilities n [])))
      (kinds.Cer (own_caps n)) refl (good_cer n id) (ap kinds.Cer (caps_own n None));
}

pub kind_dwr : (n : Node) (id : ℕ) → IsBase (built_dwr n id) kinds.Dwr
kind_dwr n id = record {
  of_kind = good_kind true (faults base_definitions (built_dwr n id)) kinds.Dwr kinds.Dwr refl (good_dwr n id) refl;
}

cause_read : (n : Node) (cause : Cause)
    → kind_of disconnect_peer true (built_dpr n 0 cause).avps ≡ kinds.Dpr (pos (cause_number cause))
cause_read n Rebooting = refl
cause_read n Busy = refl
cause_read n DoNotWantToTalkToYou = refl

pub kind_dpr : (n : Node) (id : ℕ) (cause : Cause)
    → IsBase (built_dpr n id cause) (kinds.Dpr (pos (cause_number cause)))
kind_dpr n id cause = record {
  of_kind =
      good_kind true (faults base_definitions (built_dpr n id cause))
      (kind_of disconnect_peer true (built_dpr n 0 cause).avps)
      (kinds.Dpr (pos (cause_number cause))) refl (good_dpr n id cause) (cause_read n cause);
}

pub kind_cea : (n : Node) (to : Header) (code : ℕ) (failed : Option Avp) → to.command ≡ capabilities_exchange
    → code < 256 ^ 4 → IsBase (built_cea n to code failed) (kinds.Cea code)
kind_cea n to code failed h fits = record {
  of_kind =
      good_kind (is_base_command to.command) (faults base_definitions (built_cea n to code failed))
      (kind_of to.command false (built_cea n to code failed).avps) (kinds.Cea code)
      (rw h refl) (good_cea n to code failed h) (rw h (ap kinds.Cea (number_read code fits)));
}

pub kind_dwa : (n : Node) (to : Header) (code : ℕ) (failed : Option Avp) → to.command ≡ device_watchdog
    → IsBase (built_answer n to code failed) kinds.Dwa
kind_dwa n to code failed h = record {
  of_kind =
      good_kind (is_base_command to.command) (faults base_definitions (built_answer n to code failed))
      (kind_of to.command false (built_answer n to code failed).avps) kinds.Dwa
      (rw h refl) (good_dwa n to code failed h) (rw h refl);
}

pub kind_dpa : (n : Node) (to : Header) (code : ℕ) (failed : Option Avp) → to.command ≡ disconnect_peer
    → IsBase (built_answer n to code failed) kinds.Dpa
kind_dpa n to code failed h = record {
  of_kind =
      good_kind (is_base_command to.command) (faults base_definitions (built_answer n to code failed))
      (kind_of to.command false (built_answer n to code failed).avps) kinds.Dpa
      (rw h refl) (good_dpa n to code failed h) (rw h refl);
}
