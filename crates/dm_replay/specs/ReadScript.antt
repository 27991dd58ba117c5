-- What a text is read as.
use Rattle.std.specs.Prelude.{◌≡◌, ℕ, false, List, [], ◌∷◌, codes, Option, Some, None, Result, Ok, Err}
use Rattle.dm_value.specs.declared.address.Ip.TheVariants.{V4}
use Rattle.dm_tables.specs.Base.{base_definitions}
use Rattle.dm_base.specs.declared.node.Node.{Node}
use Rattle.dm_peer.specs.declared.config.Config.{Config}
use Rattle.dm_base.specs.Before.{lower}
use Rattle.dm_text.specs.Lines.{content_lines}
use Rattle.dm_world.specs.declared.happening.Happening.{Happening}
use Rattle.dm_replay.specs.HostLines.{Host}
use Rattle.dm_replay.specs.Scripts.{TellsScript, IsFirstBad}
use Rattle.dm_replay.specs.declared.fault.ScriptFault.{ScriptFault}
use Rattle.dm_replay.specs.declared.fault.ScriptFault.TheVariants.{Syntax, SameHost, NoMemory}
use Rattle.dm_replay.specs.declared.script.Script.{Script}

-- the node of a peer that a script names
pub record IsNodeOfHost (h : Host) (n : Node) : Type 0 where
  pub host : n.host ≡ h.host
  pub realm : n.realm ≡ codes "example"
  pub addresses : n.addresses ≡ V4 (127 ∷ 0 ∷ 0 ∷ 1 ∷ []) ∷ []
  pub vendor : n.vendor ≡ 0
  pub product : n.product ≡ codes "dmpeer"
  pub auth : n.auth ≡ h.application ∷ []
  pub acct : n.acct ≡ []
  pub extras : n.extras ≡ None

-- the configuration of a peer that a script names: for the other's host, with 1 as the number of the first request, and
-- without comparing the host of a CEA
pub record IsConfigOf (own other : Host) (c : Config) : Type 0 where
  pub node : IsNodeOfHost own c.node
  pub peer : c.peer ≡ other.host
  pub first_id : c.first_id ≡ 1
  pub dictionary : c.dictionary ≡ base_definitions
  pub compares : c.compares ≡ false

-- the lines of the text stand for the script
pub record Scripted (text : List ℕ) (s : Script) : Type 0 where
  pub left : Host
  pub right : Host
  pub tells : TellsScript left right s.list text
  pub left_is : IsConfigOf left right s.left
  pub right_is : IsConfigOf right left s.right

-- no line is bad, and the two peers have one name (RFC 6733, 5.6.4)
pub record NamesOneHost (text : List ℕ) : Type 0 where
  pub left : Host
  pub right : Host
  pub list : List Happening
  pub tells : TellsScript left right list text
  pub same : lower left.host ≡ lower right.host

-- what a text is read as: nothing where no line stands for anything, a script, or the first of its faults
abbrev pub IsReading : List ℕ → Result (Option Script) ScriptFault → Type 0
IsReading text (Ok None) = content_lines text ≡ []
IsReading text (Ok (Some s)) = Scripted text s
IsReading text (Err (Syntax line)) = IsFirstBad text line
IsReading text (Err SameHost) = NamesOneHost text
IsReading text (Err NoMemory) = ⊥
