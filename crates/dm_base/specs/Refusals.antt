-- When there is no node of these parts (RFC 6733, 4.3.1; the limits are own).
use Rattle.std.specs.Prelude.{ℕ, Bool, ◌&&◌, ◌||◌, not, nat_eq, nat_lt, Option, None, Some, List, length, if◌then◌else◌}
use Rattle.dm_value.specs.declared.address.Ip.{Ip}
use Rattle.dm_value.specs.Flaws.{is_visible_text}
use Rattle.dm_base.specs.Codes.{max_name_len, max_addresses, max_ids}
use Rattle.dm_base.specs.declared.vendor_application.VendorApplication.{VendorApplication}
use Rattle.dm_base.specs.declared.node_fault.NodeFault.{NodeFault}
use Rattle.dm_base.specs.declared.node_fault.NodeFault.TheVariants.{BadHost, NoAddress, TooLong}

abbrev pub is_long : List ℕ → List ℕ → List Ip → List ℕ → List ℕ → List ℕ → Bool
is_long host realm addresses product auth acct =
    nat_lt max_name_len (length host)
    || nat_lt max_name_len (length realm)
    || nat_lt max_name_len (length product)
    || nat_lt max_addresses (length addresses)
    || nat_lt max_ids (length auth)
    || nat_lt max_ids (length acct)

-- in this order
abbrev pub node_fault : List ℕ → List ℕ → List Ip → List ℕ → List ℕ → List ℕ → Option NodeFault
node_fault host realm addresses product auth acct =
    if not (is_visible_text host && is_visible_text realm) then Some BadHost
    else (if nat_eq (length addresses) 0 then Some NoAddress
    else (if is_long host realm addresses product auth acct then Some TooLong else None))

-- too many applications of vendors, or too many vendors
abbrev pub are_extras_long : List VendorApplication → List ℕ → Bool
are_extras_long applications vendors = nat_lt max_ids (length applications) || nat_lt max_ids (length vendors)
