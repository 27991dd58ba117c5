-- Two sides, and the links between them.
use Rattle.std.specs.Prelude.{ℕ, Bool, true, false, List, []}

pub data Side : Type 0 where
  A : Side
  B : Side

abbrev pub flip : Side → Side
flip A = B
flip B = A

-- whether a side is the opener of a link
abbrev pub opens : Side → Side → Bool
opens A A = true
opens B B = true
opens _ _ = false

-- a link's connect is pending, it is up, or it is cancelled
pub data LinkPhase : Type 0 where
  LinkPending : LinkPhase
  LinkUp : LinkPhase
  LinkCancelled : LinkPhase

-- an end of a link that is up: no message of it came yet, it is open, or shut
pub data End : Type 0 where
  Fresh : End
  Open : End
  Shut : End

-- a direction has no disconnect, one that is coming, or one that was delivered
pub data Mark : Type 0 where
  NoMark : Mark
  Coming : Mark
  Delivered : Mark

-- the messages that were sent and not delivered, how many octets of the front one were delivered, and the disconnect
-- behind them
pub record Direction (M : Type 0) : Type 0 where
  pub messages : List M
  pub taken : ℕ
  pub mark : Mark

-- the opener's end and the other side's, and the directions in which things come in at them
pub record Link (M : Type 0) : Type 0 where
  pub opener : Side
  pub phase : LinkPhase
  pub opener_end : End
  pub other_end : End
  pub to_opener : Direction M
  pub to_other : Direction M

abbrev pub empty_direction : {M : Type 0} → Direction M
empty_direction = record { messages = []; taken = 0; mark = NoMark }

-- a link as a Start makes it; an end without standing is written as shut
abbrev pub new_link : {M : Type 0} → Side → Link M
new_link s =
    record {
      opener = s;
      phase = LinkPending;
      opener_end = Shut;
      other_end = Shut;
      to_opener = empty_direction;
      to_other = empty_direction;
    }

-- a link as one side sees it
pub record View (M : Type 0) : Type 0 where
  pub phase : LinkPhase
  pub own : End
  pub other : End
  pub incoming : Direction M
  pub outgoing : Direction M

-- the view of the opener, or of the other side
abbrev pub view_of : {M : Type 0} → Bool → Link M → View M
view_of mine l =
    record {
      phase = l.phase;
      own = elim mine [ true ↦ l.opener_end | false ↦ l.other_end ];
      other = elim mine [ true ↦ l.other_end | false ↦ l.opener_end ];
      incoming = elim mine [ true ↦ l.to_opener | false ↦ l.to_other ];
      outgoing = elim mine [ true ↦ l.to_other | false ↦ l.to_opener ];
    }

abbrev pub link_of : {M : Type 0} → Bool → Side → View M → Link M
link_of mine opener v =
    record {
      opener = opener;
      phase = v.phase;
      opener_end = elim mine [ true ↦ v.own | false ↦ v.other ];
      other_end = elim mine [ true ↦ v.other | false ↦ v.own ];
      to_opener = elim mine [ true ↦ v.incoming | false ↦ v.outgoing ];
      to_other = elim mine [ true ↦ v.outgoing | false ↦ v.incoming ];
    }

-- a link after a side's view of it has changed
abbrev pub by_side : {M : Type 0} → Side → (View M → View M) → Link M → Link M
by_side s f l = link_of (opens s l.opener) l.opener (f (view_of (opens s l.opener) l))
