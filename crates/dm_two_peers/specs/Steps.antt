-- What a step of a side does to a link, in its view: what the event does, what each action does, and how a fresh end
-- that was heard on is settled.
use Rattle.std.specs.Prelude.{Bool, true, false, List, [], ◌∷◌, ◌++◌, drop}
use Rattle.dm_two_peers.specs.Machine.{LinkConcern, MakesLink, FailsLink, EndsLink, HeardOnLink}
use Rattle.dm_two_peers.specs.Links.{LinkPhase, LinkPending, LinkUp, LinkCancelled}
use Rattle.dm_two_peers.specs.Links.{End, Fresh, Open, Shut, Mark, NoMark, Coming}
use Rattle.dm_two_peers.specs.Links.{Delivered, Direction, View}

-- a direction's mark after a disconnect is put in
abbrev pub marked : Mark → Mark
marked NoMark = Coming
marked mark = mark

-- a direction takes messages while the link is up, until its disconnect is in
abbrev pub queued : {M : Type 0} → LinkPhase → Mark → List M → List M → List M
queued LinkUp NoMark new old = old ++ new
queued _ _ new old = old

-- a direction whose front message was delivered
abbrev pub without_front : {M : Type 0} → Direction M → Direction M
without_front way = record way { messages = drop 1 way.messages; taken = 0 }

-- the mark of a direction whose end answers the disconnect that comes to it: a fresh end does so by one
abbrev pub answering_mark : End → Mark → Mark
answering_mark Fresh mark = marked mark
answering_mark _ mark = mark

-- what an event does to the view of its side: an Ack makes the ends, a Nack cancels the link, a message is taken from
-- the front, and the disconnect that comes shuts the own end
abbrev pub entered : {M : Type 0} → LinkConcern → View M → View M
entered MakesLink view = record view { phase = LinkUp; own = Open; other = Fresh }
entered FailsLink view = record view { phase = LinkCancelled }
entered HeardOnLink view = record view { incoming = without_front view.incoming }
entered EndsLink view = record view {
  own = Shut;
  incoming = record view.incoming { mark = Delivered };
  outgoing = record view.outgoing { mark = answering_mark view.own view.outgoing.mark };
}
entered _ view = view

-- a message is sent
abbrev pub with_sent : {M : Type 0} → M → View M → View M
with_sent message view =
    let way = view.outgoing
    in record view { outgoing = record way { messages = queued view.phase way.mark (message ∷ []) way.messages } }

-- a Close cancels a pending link; on one that is up it shuts the own end and puts the disconnect in
abbrev pub with_close_in : {M : Type 0} → LinkPhase → View M → View M
with_close_in LinkPending view = record view { phase = LinkCancelled }
with_close_in LinkUp view =
    record view { own = Shut; outgoing = record view.outgoing { mark = marked view.outgoing.mark } }
with_close_in LinkCancelled view = view

abbrev pub with_close : {M : Type 0} → View M → View M
with_close view = with_close_in view.phase view

-- a fresh end that was heard on is open where the peer took the connection, else shut
abbrev pub own_settled : LinkConcern → Bool → End → End
own_settled HeardOnLink true Fresh = Open
own_settled HeardOnLink false Fresh = Shut
own_settled _ _ own = own

abbrev pub settled_view : {M : Type 0} → LinkConcern → Bool → View M → View M
settled_view concern holds view = record view { own = own_settled concern holds view.own }
