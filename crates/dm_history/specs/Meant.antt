-- What makes a CER and a CEA good, in the message's own words (RFC 6733, 5.3 and 7.1.2).
use Rattle.std.specs.Prelude.{◌≡◌, ℕ, true, nat_le, Ok}
use Rattle.dm_wire.specs.declared.message.Message.{Message}
use Rattle.dm_base.specs.declared.kind.Caps.{Caps}
use Rattle.dm_base.specs.declared.kind.Kind.TheVariants as kinds
use Rattle.dm_base.specs.Kinds.{kind}
use Rattle.dm_base.specs.Common.{is_common, is_secure}
use Rattle.dm_peer.specs.declared.config.Config.{Config}
use Rattle.dm_peer.specs.Hosts.{is_same_host}
use Rattle.dm_peer.specs.Said.{sender_host}

-- the message passes its check as a CER of the configured host, has an application in common and asks for no security
-- mechanism
pub record IsAcceptableCer (c : Config) (m : Message) : Type 0 where
  pub caps : Caps
  pub checked : kind c.dictionary m ≡ Ok (kinds.Cer caps)
  pub named : is_same_host caps.host c.peer ≡ true
  pub shared : is_common caps c.node ≡ true
  pub secure : is_secure caps ≡ true

-- it passes its check as a CEA with a Result-Code of success, 2000 to 2999, and where hosts are compared its sender is
-- the configured one
pub record IsAcceptableCea (c : Config) (m : Message) : Type 0 where
  pub code : ℕ
  pub checked : kind c.dictionary m ≡ Ok (kinds.Cea code)
  pub least : nat_le 2000 code ≡ true
  pub most : nat_le code 2999 ≡ true
  pub named : c.compares ≡ true → is_same_host (sender_host m) c.peer ≡ true
