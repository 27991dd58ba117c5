-- Sides and links as the laws of two peers see them.
use Rattle.std.specs.Prelude.{ℕ, true, false, List, map}
use Rattle.dm_two_peers.specs.Links.{Side, A, B, opens, LinkPhase, LinkPending, LinkUp}
use Rattle.dm_two_peers.specs.Links.{LinkCancelled, End, Fresh, Open, Shut, Link}
use Rattle.dm_two_peers.specs.Links.{by_side}
use Rattle.dm_two_peers.specs.Happens.{restarted}
use Rattle.dm_world.specs.declared.side.Side as declared_side
use Rattle.dm_world.specs.declared.side.Side.TheVariants as side
use Rattle.dm_world.specs.declared.link.Phase as declared_phase
use Rattle.dm_world.specs.declared.link.Phase.TheVariants as phase
use Rattle.dm_world.specs.declared.link.End as declared_end
use Rattle.dm_world.specs.declared.link.End.TheVariants as end
use Rattle.dm_world.specs.declared.link.Link as declared_link

abbrev pub as_side : declared_side.Side → Side
as_side side.A = A
as_side side.B = B

abbrev pub as_phase : declared_phase.Phase → LinkPhase
as_phase phase.Pending = LinkPending
as_phase phase.Up = LinkUp
as_phase phase.Cancelled = LinkCancelled

abbrev pub as_end : declared_end.End → End
as_end end.Fresh = Fresh
as_end end.Open = Open
as_end end.Shut = Shut

abbrev pub as_link : declared_link.Link → Link (List ℕ)
as_link l =
    record {
      opener = as_side l.opener;
      phase = as_phase l.phase;
      opener_end = as_end l.opener_end;
      other_end = as_end l.other_end;
      to_opener = l.to_opener.direction;
      to_other = l.to_other.direction;
    }

abbrev pub as_links : List declared_link.Link → List (Link (List ℕ))
as_links ls = map as_link ls

-- how many more messages of a side a link has room for
abbrev pub out_room : Side → declared_link.Link → ℕ
out_room s l = elim (opens s (as_side l.opener)) [ true ↦ l.to_other.room | false ↦ l.to_opener.room ]

-- a link after a restart of a side
abbrev pub restart_link : Side → Link (List ℕ) → Link (List ℕ)
restart_link s l = by_side s (restarted (opens s l.opener)) l
