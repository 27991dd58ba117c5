-- What a node says of itself beyond what it must (RFC 6733, 5.3, 6.11 and 8.16); a node without extras says nothing.
use Rattle.std.specs.Prelude.{ℕ, nat_eq, Option, None, Some, List, [], ◌++◌, if◌then◌else◌}
use Rattle.dm_base.specs.Codes.{device_watchdog}
use Rattle.dm_base.specs.Specific.{ids_of}
use Rattle.dm_base.specs.declared.vendor_application.VendorApplication.{VendorApplication}
use Rattle.dm_base.specs.declared.extras.Extras.{Extras}
use Rattle.dm_base.specs.declared.node.Node.{Node}

-- its applications of vendors (6.11)
abbrev pub vendor_applications : Option Extras → List VendorApplication
vendor_applications None = []
vendor_applications (Some e) = e.applications

-- the vendors that it supports (5.3.6)
abbrev pub supported_vendors : Option Extras → List ℕ
supported_vendors None = []
supported_vendors (Some e) = e.vendors

-- the revision of its firmware (5.3.4)
abbrev pub own_firmware : Option Extras → Option ℕ
own_firmware None = None
own_firmware (Some e) = e.firmware

-- the number of its state (8.16)
abbrev pub own_state : Option Extras → Option ℕ
own_state None = None
own_state (Some e) = e.state_id

-- the number of the state that an answer to this command tells: a Device-Watchdog-Answer alone (5.5.2)
abbrev pub answer_state : Node → ℕ → Option ℕ
answer_state n command = if nat_eq command device_watchdog then own_state n.extras else None

-- the ids of its applications of vendors
abbrev pub specific_ids : Node → List ℕ
specific_ids n = ids_of (vendor_applications n.extras)

-- the ids of all its applications
abbrev pub own_ids : Node → List ℕ
own_ids n = n.auth ++ (n.acct ++ specific_ids n)
