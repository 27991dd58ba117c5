-- A policy for hosts that are no neighbours (RFC 6733, 5.3: local policy may permit a CER from an unknown host).
use Rattle.std.specs.Prelude.{◌≡◌, ℕ, Option, None, Some, IsSome, IfSome, List}
use Rattle.dm_peer.specs.Hosts.{config_fault}
use Rattle.dm_peer.specs.declared.config.Config.{Config}

-- for each host the template of its configuration, none where the host is turned away; up to how many neighbours there
-- may be; and the number of the porter, the neighbour that is told whatever strangers send, if there is to be one
pub record Policy : Type 0 where
  pub template : List ℕ → Option Config
  pub most : ℕ
  pub porter : Option ℕ

-- each host is turned away
abbrev pub no_strangers : Policy
no_strangers = record { template = λ host. None; most = 0; porter = None }

-- each host has this template
abbrev pub taking_each : Config → ℕ → Policy
taking_each template most = record { template = λ host. Some template; most = most; porter = None }

-- the first neighbour is told whatever strangers send
abbrev pub told_the_first : Policy
told_the_first = record { template = λ host. None; most = 0; porter = Some 0 }

-- the template's configuration for the host, as `Config::for_host` makes it: the template's node, which can have the
-- host as its peer, with the same first number and the same dictionary, comparing hosts where the template does
pub record IsMadeFor (template : Config) (host : List ℕ) (config : Config) : Type 0 where
  pub fits : config_fault template.node.host host ≡ None
  pub peer : config.peer ≡ host
  pub node : config.node ≡ template.node
  pub first_id : config.first_id ≡ template.first_id
  pub dictionary : config.dictionary ≡ template.dictionary
  pub compares : config.compares ≡ template.compares

-- the template's node can't have the host as its peer: it is no host's name, or the node's own
abbrev pub IsUnfit : Config → List ℕ → Type 0
IsUnfit template host = IsSome (config_fault template.node.host host)

-- the policy makes this configuration for the host: that of the host's template
pub record MakesFor (policy : Policy) (host : List ℕ) (config : Config) : Type 0 where
  pub template : Config
  pub chosen : policy.template host ≡ Some template
  pub made : IsMadeFor template host config

-- the policy makes none for the host: it has no template for it, or one that doesn't fit
abbrev pub MakesNoneFor : Policy → List ℕ → Type 0
MakesNoneFor policy host = IfSome (policy.template host) (λ template. IsUnfit template host)
