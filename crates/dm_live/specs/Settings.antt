-- What the lines of a configuration say.
use Rattle.std.specs.Prelude.{◌≡◌, ◌⊎◌, ℕ, Bool, true, false, Option, None, Some, List, [], ◌∷◌, ◌++◌, codes}
use Rattle.std.specs.Str.{IsUtf8}
use Rattle.std.specs.Net.Grammar.{IsIpText}
use Rattle.std.specs.declared.net.ip_addr.IpAddr.{IpAddr}
use Rattle.dm_base.specs.declared.vendor_application.VendorApplication.{VendorApplication}
use Rattle.dm_text.specs.Words.{words}
use Rattle.dm_text.specs.Numbers.{TellsNumber}
use Rattle.dm_value.specs.declared.address.Ip.{Ip}
use Rattle.dm_value.specs.Printed.{ip_words}
use Rattle.dm_wire.specs.Codes.{max_message_len}
use Rattle.dm_live.specs.declared.setting_name.SettingName.{SettingName}
use Rattle.dm_live.specs.declared.setting_name.SettingName.TheVariants as names

-- a node, what it says beyond what it must, the hosts of its peers, whether those that CEAs name are compared with them
-- (unless it is 0), the number of the first request to each, and the greatest Message Lengths before the capabilities
-- exchange and behind it
pub record Settings : Type 0 where
  pub host : List ℕ
  pub realm : List ℕ
  pub addresses : List Ip
  pub vendor : ℕ
  pub product : List ℕ
  pub auth : List ℕ
  pub acct : List ℕ
  pub applications : List VendorApplication
  pub vendors : List ℕ
  pub firmware : Option ℕ
  pub state_id : Option ℕ
  pub peers : List (List ℕ)
  pub compare : ℕ
  pub first_id : ℕ
  pub first_max : ℕ
  pub most : ℕ

-- before the first line: a Message Length has 24 bits, and tells whole words (RFC 6733, 3)
abbrev pub no_settings : Settings
no_settings =
    record {
      host = [];
      realm = [];
      addresses = [];
      vendor = 0;
      product = [];
      auth = [];
      acct = [];
      applications = [];
      vendors = [];
      firmware = None;
      state_id = None;
      peers = [];
      compare = 0;
      first_id = 1;
      first_max = max_message_len;
      most = max_message_len;
    }

-- the first word of a line
abbrev pub setting_word : SettingName → List ℕ
setting_word names.Host = codes "host"
setting_word names.Realm = codes "realm"
setting_word names.Address = codes "address"
setting_word names.Vendor = codes "vendor"
setting_word names.Product = codes "product"
setting_word names.Auth = codes "auth"
setting_word names.Acct = codes "acct"
setting_word names.Supports = codes "supports"
setting_word names.Firmware = codes "firmware"
setting_word names.State = codes "state"
setting_word names.Peer = codes "peer"
setting_word names.Compare = codes "compare"
setting_word names.First = codes "first"
setting_word names.Early = codes "early"
setting_word names.Max = codes "max"

-- an IPv4 or IPv6 address as text
unfoldable pub TellsAddress : Ip → List ℕ → Type 0
TellsAddress ip word = (address : IpAddr) × IsIpText word address × (ip ≡ ip_words address)

-- What the word behind a name makes of the settings. An address, an application and a peer stand behind those said
-- before, another name takes the place of what was said.
abbrev pub Sets : SettingName → List ℕ → Settings → Settings → Type 0
Sets names.Host word s t = t ≡ record s { host = word }
Sets names.Realm word s t = t ≡ record s { realm = word }
Sets names.Address word s t =
    (ip : Ip) × TellsAddress ip word × (t ≡ record s { addresses = s.addresses ++ ip ∷ [] })
Sets names.Vendor word s t = (n : ℕ) × TellsNumber n word × (t ≡ record s { vendor = n })
Sets names.Product word s t = IsUtf8 word × (t ≡ record s { product = word })
Sets names.Auth word s t = (n : ℕ) × TellsNumber n word × (t ≡ record s { auth = s.auth ++ n ∷ [] })
Sets names.Acct word s t = (n : ℕ) × TellsNumber n word × (t ≡ record s { acct = s.acct ++ n ∷ [] })
Sets names.Supports word s t = (n : ℕ) × TellsNumber n word × (t ≡ record s { vendors = s.vendors ++ n ∷ [] })
Sets names.Firmware word s t = (n : ℕ) × TellsNumber n word × (t ≡ record s { firmware = Some n })
Sets names.State word s t = (n : ℕ) × TellsNumber n word × (t ≡ record s { state_id = Some n })
Sets names.Peer word s t = t ≡ record s { peers = s.peers ++ word ∷ [] }
Sets names.Compare word s t = (n : ℕ) × TellsNumber n word × (t ≡ record s { compare = n })
Sets names.First word s t = (n : ℕ) × TellsNumber n word × (t ≡ record s { first_id = n })
Sets names.Early word s t = (n : ℕ) × TellsNumber n word × (t ≡ record s { first_max = n })
Sets names.Max word s t = (n : ℕ) × TellsNumber n word × (t ≡ record s { most = n })

-- a name and one word
abbrev pub TellsOne : List (List ℕ) → Settings → Settings → Type 0
TellsOne line s t =
    (name : SettingName) × (word : List ℕ) × (line ≡ setting_word name ∷ word ∷ []) × Sets name word s t

-- the first word of a line that tells an application of a vendor, for accounting or not
abbrev pub specific_word : Bool → List ℕ
specific_word true = codes "vendor-acct"
specific_word false = codes "vendor-auth"

-- that word, the vendor and the application, which stands behind those said before (RFC 6733, 6.11)
abbrev pub TellsSpecific : List (List ℕ) → Settings → Settings → Type 0
TellsSpecific line s t =
    (accounting : Bool) × (vendor application : ℕ) × (first second : List ℕ)
    × (line ≡ specific_word accounting ∷ first ∷ second ∷ [])
    × TellsNumber vendor first × TellsNumber application second
    × (t ≡ record s {
      applications = s.applications
          ++ (record { vendor = vendor; application = application; accounting = accounting }) ∷ [];
    })

-- a line of the configuration
abbrev pub TellsSetting : List ℕ → Settings → Settings → Type 0
TellsSetting line s t = TellsOne (words line) s t ⊎ TellsSpecific (words line) s t
