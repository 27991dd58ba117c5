-- The history of one peer under other numbers of connections.
use Rattle.std.specs.Prelude.{◌≡◌, ℕ, List, map, option_map}
use Rattle.dm_peer.specs.declared.config.Config.{Config}
use Rattle.dm_peer.specs.declared.peer.Peer.{Peer}
use Rattle.dm_history.specs.History.{Happened, new_peer, Became}
use Rattle.dm_two_nodes.specs.Numbering.{IsOneToOne}
use Rattle.dm_two_nodes.specs.Renaming.{renumbered_event, renumbered_actions, renumbered_peer}

abbrev pub renumbered_happened : (ℕ → ℕ) → Happened → Happened
renumbered_happened f x =
    record { event = renumbered_event f x.event; did = option_map (renumbered_actions f) x.did }

abbrev pub renumbered_past : (ℕ → ℕ) → List Happened → List Happened
renumbered_past f past = map (renumbered_happened f) past

-- what happened to a peer determines what it is
abbrev pub HistoryTellsThePeer : Type 0
HistoryTellsThePeer =
    (first : Peer) (past : List Happened) (p q : Peer) → Became first past p → Became first past q → p ≡ q

-- a history under other numbers is one of the same peer under these
abbrev pub HistoriesGoByNoNumber : Type 0
HistoriesGoByNoNumber =
    (f : ℕ → ℕ) (first : Peer) (past : List Happened) (p : Peer) → IsOneToOne f → Became first past p →
    Became (renumbered_peer f first) (renumbered_past f past) (renumbered_peer f p)

-- so two new peers of one configuration, to which the same happened but for numbers, are the same but for these
abbrev pub SameHistoryMakesTheSame : Type 0
SameHistoryMakesTheSame =
    (f : ℕ → ℕ) (c : Config) (n : ℕ) (past : List Happened) (p q : Peer) → IsOneToOne f →
    Became (new_peer c n) past p → Became (new_peer c n) (renumbered_past f past) q → q ≡ renumbered_peer f p
