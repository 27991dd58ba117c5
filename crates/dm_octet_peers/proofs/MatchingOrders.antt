-- What is sent on a connection goes by what it is ordered, and it is closed where it is ordered so.
use Rattle.std.proofs.Common.{◌≡◌, ℕ, ◌==◌, Bool, true, false, ◌||◌, Option, None, List, [], ◌∷◌, ◌++◌, map}
use Rattle.std.proofs.Common.{if◌then◌else◌, refl, sym, ap, ◌∙◌}
use Rattle.dm_base.specs.Codes.{success}
use Rattle.dm_base.specs.Built.{built_cer, built_dwr, built_dpr, built_cea, built_answer}
use Rattle.dm_machine.specs.declared.outputs.Command.{Command}
use Rattle.dm_machine.specs.declared.outputs.Command.TheVariants as command
use Rattle.dm_machine.specs.Connection.{ConnOrder, if_ordered, with_order, orders_to}
use Rattle.dm_machine.specs.Connection as machine
use Rattle.dm_machine.specs.Openings.{has_order}
use Rattle.dm_peer.specs.declared.peer.Peer.{Peer}
use Rattle.dm_peer.specs.Events as told
use Rattle.dm_peer.specs.Events.{octets_in, cause_in}
use Rattle.dm_peer.specs.Octets.{octets_of}
use Rattle.dm_peer.specs.Said.{Heard}
use Rattle.dm_peer.specs.Sent.{cer_answered, refusal, header_of, fault_in, actions_of}
use Rattle.dm_two_peers.specs.Machine.{conn}
use Rattle.dm_two_peers.specs.Peers.{deed_in, closes_at}
use Rattle.dm_two_peers.specs.Requests.{sent_on}
use Rattle.dm_octet_peers.specs.Octets.{as_actions}

-- the octets that an order sends
abbrev pub said_for : Peer → told.PeerEvent → Option Heard → ConnOrder → List (List ℕ)
said_for p e h machine.SendsCer = octets_of (built_cer p.config.node p.standing.next) ∷ []
said_for p e h machine.SendsCea =
    octets_of (built_cea p.config.node (cer_answered p.standing.waiting h) success None) ∷ []
said_for p e h machine.SendsRefusal = octets_of (refusal p.config.node (header_of h) (fault_in h)) ∷ []
said_for p e h machine.SendsDwr = octets_of (built_dwr p.config.node p.standing.next) ∷ []
said_for p e h machine.SendsDwa = octets_of (built_answer p.config.node (header_of h) success None) ∷ []
said_for p e h machine.SendsDpr = octets_of (built_dpr p.config.node p.standing.next (cause_in e)) ∷ []
said_for p e h machine.SendsDpa = octets_of (built_answer p.config.node (header_of h) success None) ∷ []
said_for p e h machine.SendsSubmit = octets_in e ∷ []
said_for p e h machine.Connects = []
said_for p e h machine.Closes = []

abbrev pub all_said : Peer → told.PeerEvent → Option Heard → List ConnOrder → List (List ℕ)
all_said p e h [] = []
all_said p e h (o ∷ orders) = said_for p e h o ++ all_said p e h orders

module _ (p : Peer) (e : told.PeerEvent) (h : Option Heard) (c : ℕ) where
  one : (b : Bool) (o : ConnOrder) (x : List ℕ) (xs : List (List ℕ)) (orders : List ConnOrder) →
      said_for p e h o ≡ x ∷ [] → xs ≡ all_said p e h orders →
      (if b then x ∷ xs else xs) ≡ all_said p e h (with_order (if_ordered b o) orders)
  one true o x xs orders is rest = ap (λ ys. x ∷ ys) rest ∙ ap (λ zs. zs ++ all_said p e h orders) (sym is)
  one false o x xs orders is rest = rest

  none : (b : Bool) (o : ConnOrder) (xs : List (List ℕ)) (orders : List ConnOrder) → said_for p e h o ≡ [] →
      xs ≡ all_said p e h orders → xs ≡ all_said p e h (with_order (if_ordered b o) orders)
  none true o xs orders is rest = rest ∙ ap (λ zs. zs ++ all_said p e h orders) (sym is)
  none false o xs orders is rest = rest

  pub sent_by_orders : (commands : List Command) →
      sent_on c (as_actions (actions_of p e h commands)) ≡ all_said p e h (orders_to (conn c) commands)
  sent_by_orders [] = refl
  sent_by_orders (command.Connect d ∷ more) = none (d.0 == c) machine.Connects _ _ refl (sent_by_orders more)
  sent_by_orders (command.SendCer d ∷ more) = one (d.0 == c) machine.SendsCer _ _ _ refl (sent_by_orders more)
  sent_by_orders (command.SendCea d ∷ more) = one (d.0 == c) machine.SendsCea _ _ _ refl (sent_by_orders more)
  sent_by_orders (command.SendRefusal d ∷ more) = one (d.0 == c) machine.SendsRefusal _ _ _ refl (sent_by_orders more)
  sent_by_orders (command.SendDwr d ∷ more) = one (d.0 == c) machine.SendsDwr _ _ _ refl (sent_by_orders more)
  sent_by_orders (command.SendDwa d ∷ more) = one (d.0 == c) machine.SendsDwa _ _ _ refl (sent_by_orders more)
  sent_by_orders (command.SendDpr d ∷ more) = one (d.0 == c) machine.SendsDpr _ _ _ refl (sent_by_orders more)
  sent_by_orders (command.SendDpa d ∷ more) = one (d.0 == c) machine.SendsDpa _ _ _ refl (sent_by_orders more)
  sent_by_orders (command.SendSubmit d ∷ more) = one (d.0 == c) machine.SendsSubmit _ _ _ refl (sent_by_orders more)
  sent_by_orders (command.Close d ∷ more) = none (d.0 == c) machine.Closes _ _ refl (sent_by_orders more)
  sent_by_orders (command.Up ∷ more) = sent_by_orders more

  unclosed : (b : Bool) (o : ConnOrder) (rest : Bool) (orders : List ConnOrder) →
      has_order machine.Closes (o ∷ []) ≡ false → rest ≡ has_order machine.Closes orders →
      rest ≡ has_order machine.Closes (with_order (if_ordered b o) orders)
  unclosed true machine.Closes rest orders is same = cc
  unclosed true machine.Connects rest orders is same = same
  unclosed true machine.SendsCer rest orders is same = same
  unclosed true machine.SendsCea rest orders is same = same
  unclosed true machine.SendsRefusal rest orders is same = same
  unclosed true machine.SendsDwr rest orders is same = same
  unclosed true machine.SendsDwa rest orders is same = same
  unclosed true machine.SendsDpr rest orders is same = same
  unclosed true machine.SendsDpa rest orders is same = same
  unclosed true machine.SendsSubmit rest orders is same = same
  unclosed false o rest orders is same = same

  closes : (b rest : Bool) (orders : List ConnOrder) → rest ≡ has_order machine.Closes orders →
      (b || rest) ≡ has_order machine.Closes (with_order (if_ordered b machine.Closes) orders)
  closes true rest orders same = refl
  closes false rest orders same = same

  pub closed_by_orders : (commands : List Command) →
      closes_at c (map deed_in (as_actions (actions_of p e h commands)))
      ≡ has_order machine.Closes (orders_to (conn c) commands)
  closed_by_orders [] = refl
  closed_by_orders (command.Connect d ∷ more) = unclosed (d.0 == c) machine.Connects _ _ refl (closed_by_orders more)
  closed_by_orders (command.SendCer d ∷ more) = unclosed (d.0 == c) machine.SendsCer _ _ refl (closed_by_orders more)
  closed_by_orders (command.SendCea d ∷ more) = unclosed (d.0 == c) machine.SendsCea _ _ refl (closed_by_orders more)
  closed_by_orders (command.SendRefusal d ∷ more) =
      unclosed (d.0 == c) machine.SendsRefusal _ _ refl (closed_by_orders more)
  closed_by_orders (command.SendDwr d ∷ more) = unclosed (d.0 == c) machine.SendsDwr _ _ refl (closed_by_orders more)
  closed_by_orders (command.SendDwa d ∷ more) = unclosed (d.0 == c) machine.SendsDwa _ _ refl (closed_by_orders more)
  closed_by_orders (command.SendDpr d ∷ more) = unclosed (d.0 == c) machine.SendsDpr _ _ refl (closed_by_orders more)
  closed_by_orders (command.SendDpa d ∷ more) = unclosed (d.0 == c) machine.SendsDpa _ _ refl (closed_by_orders more)
  closed_by_orders (command.SendSubmit d ∷ more) =
      unclosed (d.0 == c) machine.SendsSubmit _ _ refl (closed_by_orders more)
  closed_by_orders (command.Close d ∷ more) = closes (d.0 == c) _ _ (closed_by_orders more)
  closed_by_orders (command.Up ∷ more) = closed_by_orders more
