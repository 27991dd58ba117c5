-- What comparing the host of a CEA changes: the word of a CEA of another sender, and nothing else (own).
use Rattle.std.specs.Prelude.{◌≡◌, ◌≢◌, ℕ, true, false, Ok}
use Rattle.dm_wire.specs.declared.message.Message.{Message}
use Rattle.dm_base.specs.declared.kind.Kind.TheVariants as kinds
use Rattle.dm_machine.specs.declared.inputs.Word.TheVariants.{CeaFailed}
use Rattle.dm_peer.specs.declared.config.Config.{Config}
use Rattle.dm_peer.specs.Hosts.{is_same_host}
use Rattle.dm_peer.specs.Said.{good, heard_in, kind_under, sender_host, word_of_code}

-- without the option a CEA that passes its check goes by its Result-Code, whoever sent it (5.3)
abbrev pub PlainGoesByCode : Type 0
PlainGoesByCode =
    (c : Config) (m : Message) (code : ℕ) → c.compares ≡ false → kind_under c m ≡ Ok (kinds.Cea code)
    → heard_in c m ≡ good m.header (word_of_code code)

-- with it a CEA that passes its check fails where its sender isn't the configured peer, whatever its Result-Code
abbrev pub OtherSenderFails : Type 0
OtherSenderFails =
    (c : Config) (m : Message) (code : ℕ) → c.compares ≡ true → is_same_host (sender_host m) c.peer ≡ false
    → kind_under c m ≡ Ok (kinds.Cea code) → heard_in c m ≡ good m.header CeaFailed

-- what the configured peer sends says the same to two configurations of one node and peer, whether they compare or not
abbrev pub PeerIsHeardAlike : Type 0
PeerIsHeardAlike =
    (c d : Config) (m : Message) → c.node ≡ d.node → c.peer ≡ d.peer → is_same_host (sender_host m) c.peer ≡ true
    → heard_in c m ≡ heard_in d m

-- and so does any message but a CEA that passes its check, whoever sent it
abbrev pub OthersAreHeardAlike : Type 0
OthersAreHeardAlike =
    (c d : Config) (m : Message) → c.node ≡ d.node → c.peer ≡ d.peer
    → ((code : ℕ) → kind_under c m ≢ Ok (kinds.Cea code)) → heard_in c m ≡ heard_in d m
