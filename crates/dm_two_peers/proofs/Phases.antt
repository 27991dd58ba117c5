-- The phases of a clean run: what the two nodes are in, how far the link that the greater side opens and the one that
-- the other opens have come, and what was put in. Every step leads to a later one.
use Rattle.std.proofs.Common.{◌≡◌, ℕ, ◌+◌, ◌≤◌, Bool, true, false, List, [], ◌∷◌, ◌++◌}
use Rattle.std.specs.Prelude.{option_map}
use Rattle.dm_two_peers.specs.Machine.{Node, closed_node}
use Rattle.dm_two_peers.specs.Links.{Side, Coming, Delivered}
use Rattle.dm_two_peers.specs.Peers.{Peers}
use Rattle.dm_two_peers.specs.Worlds.{World, Put, Disconnect, After, DoneWith, Ignored, NoLink}
use Rattle.dm_two_peers.specs.Electing.{Talks}
use Rattle.dm_two_peers.proofs.Pairs.{mirror, AreAt}
use Rattle.dm_two_peers.proofs.CleanSteps.{wait_conn_ack, wait_i_cea, elect, returns, r_open, i_open}
use Rattle.dm_two_peers.proofs.Stages.{Stage, Unmade, Dialled, Asked, Accepted, Answered, Dropped, Halved, Parted}
use Rattle.dm_two_peers.proofs.Acting.{own_at, cer_put, cea_put}

pub data Phase : Type 0 where
  C1 C2 C3 C4 C5 C6 C7 C8 C9 C10 C11 C12 C13 C14 C15 C16 C17 C18 C19 C20 C21 C22 C23 C24 C25 : Phase

-- the greater side's node and link, by the two links' numbers
abbrev pub node_g : Phase → ℕ → ℕ → Node
node_g C1 x y = closed_node
node_g C2 x y = wait_conn_ack x
node_g C3 x y = closed_node
node_g C4 x y = wait_i_cea x
node_g C5 x y = closed_node
node_g C6 x y = wait_i_cea x
node_g C7 x y = r_open y
node_g C8 x y = i_open x
node_g C9 x y = r_open y
node_g C10 x y = wait_conn_ack x
node_g C11 x y = wait_i_cea x
node_g C12 x y = wait_conn_ack x
node_g C13 x y = wait_i_cea x
node_g C14 x y = elect x y
node_g C15 x y = wait_i_cea x
node_g C16 x y = wait_i_cea x
node_g C17 x y = r_open y
node_g C18 x y = r_open y
node_g C19 x y = r_open y
node_g C20 x y = r_open y
node_g C21 x y = r_open y
node_g C22 x y = r_open y
node_g C23 x y = r_open y
node_g C24 x y = r_open y
node_g C25 x y = r_open y

abbrev pub node_l : Phase → ℕ → ℕ → Node
node_l C1 x y = closed_node
node_l C2 x y = closed_node
node_l C3 x y = wait_conn_ack y
node_l C4 x y = closed_node
node_l C5 x y = wait_i_cea y
node_l C6 x y = r_open x
node_l C7 x y = wait_i_cea y
node_l C8 x y = r_open x
node_l C9 x y = i_open y
node_l C10 x y = wait_conn_ack y
node_l C11 x y = wait_conn_ack y
node_l C12 x y = wait_i_cea y
node_l C13 x y = elect y x
node_l C14 x y = wait_i_cea y
node_l C15 x y = wait_i_cea y
node_l C16 x y = returns y x
node_l C17 x y = wait_i_cea y
node_l C18 x y = returns y x
node_l C19 x y = i_open y
node_l C20 x y = wait_i_cea y
node_l C21 x y = i_open y
node_l C22 x y = wait_i_cea y
node_l C23 x y = i_open y
node_l C24 x y = i_open y
node_l C25 x y = i_open y

abbrev pub stage_g : Phase → Stage
stage_g C1 = Unmade
stage_g C2 = Dialled
stage_g C3 = Unmade
stage_g C4 = Asked
stage_g C5 = Unmade
stage_g C6 = Answered
stage_g C7 = Unmade
stage_g C8 = Accepted
stage_g C9 = Unmade
stage_g C10 = Dialled
stage_g C11 = Asked
stage_g C12 = Dialled
stage_g C13 = Accepted
stage_g C14 = Dialled
stage_g C15 = Asked
stage_g C16 = Accepted
stage_g C17 = Dropped
stage_g C18 = Halved
stage_g C19 = Dropped
stage_g C20 = Parted Coming Delivered
stage_g C21 = Parted Coming Coming
stage_g C22 = Parted Delivered Delivered
stage_g C23 = Parted Coming Delivered
stage_g C24 = Parted Delivered Coming
stage_g C25 = Parted Delivered Delivered

abbrev pub stage_l : Phase → Stage
stage_l C1 = Unmade
stage_l C2 = Unmade
stage_l C3 = Dialled
stage_l C4 = Unmade
stage_l C5 = Asked
stage_l C6 = Unmade
stage_l C7 = Answered
stage_l C8 = Unmade
stage_l C9 = Accepted
stage_l C10 = Dialled
stage_l C11 = Dialled
stage_l C12 = Asked
stage_l C13 = Dialled
stage_l C14 = Accepted
stage_l C15 = Asked
stage_l C16 = Asked
stage_l C17 = Answered
stage_l C18 = Answered
stage_l C19 = Accepted
stage_l C20 = Answered
stage_l C21 = Accepted
stage_l C22 = Answered
stage_l C23 = Accepted
stage_l C24 = Accepted
stage_l C25 = Accepted

-- how many steps lead to it at most
abbrev pub depth : Phase → ℕ
depth C1 = 0
depth C2 = 1
depth C3 = 1
depth C4 = 2
depth C5 = 2
depth C6 = 3
depth C7 = 3
depth C8 = 4
depth C9 = 4
depth C10 = 2
depth C11 = 3
depth C12 = 3
depth C13 = 4
depth C14 = 4
depth C15 = 4
depth C16 = 5
depth C17 = 5
depth C18 = 6
depth C19 = 6
depth C20 = 7
depth C21 = 7
depth C22 = 8
depth C23 = 8
depth C24 = 8
depth C25 = 9

-- the number of a link that is made
abbrev pub present : Stage → ℕ → List ℕ
present Unmade x = []
present _ x = x ∷ []

-- whose CER comes first in the next phase: as it was; the greater side's, where the other's comes second; the other's
abbrev pub as_before : Bool → Bool
as_before b = b

abbrev pub greater_first : Bool → Bool
greater_first b = true

abbrev pub other_first : Bool → Bool
other_first b = false

module _ {P M C H : Type 0} (m : Peers P M) (t : Talks P M C H) where
  -- the CERs of both sides, the greater side's first or last
  abbrev pub both_cers : Side → Side → Bool → ℕ → ℕ → ℕ → ℕ → List (Put M)
  both_cers g l true x y h h' = cer_put m t g l x h ∷ cer_put m t l g y h' ∷ []
  both_cers g l false x y h h' = cer_put m t l g y h' ∷ cer_put m t g l x h ∷ []

  -- what was put in
  abbrev pub put_so_far : Side → Side → Phase → Bool → ℕ → ℕ → ℕ → ℕ → List (Put M)
  put_so_far g l C1 b x y h h' = []
  put_so_far g l C2 b x y h h' = []
  put_so_far g l C3 b x y h h' = []
  put_so_far g l C4 b x y h h' = cer_put m t g l x h ∷ []
  put_so_far g l C5 b x y h h' = cer_put m t l g y h' ∷ []
  put_so_far g l C6 b x y h h' = cer_put m t g l x h ∷ cea_put m t g l x h ∷ []
  put_so_far g l C7 b x y h h' = cer_put m t l g y h' ∷ cea_put m t l g y h' ∷ []
  put_so_far g l C8 b x y h h' = cer_put m t g l x h ∷ cea_put m t g l x h ∷ []
  put_so_far g l C9 b x y h h' = cer_put m t l g y h' ∷ cea_put m t l g y h' ∷ []
  put_so_far g l C10 b x y h h' = []
  put_so_far g l C11 b x y h h' = cer_put m t g l x h ∷ []
  put_so_far g l C12 b x y h h' = cer_put m t l g y h' ∷ []
  put_so_far g l C13 b x y h h' = cer_put m t g l x h ∷ []
  put_so_far g l C14 b x y h h' = cer_put m t l g y h' ∷ []
  put_so_far g l C15 b x y h h' = both_cers g l b x y h h'
  put_so_far g l C16 b x y h h' = both_cers g l b x y h h'
  put_so_far g l C17 b x y h h' = both_cers g l b x y h h' ++ Disconnect x l ∷ cea_put m t l g y h' ∷ []
  put_so_far g l C18 b x y h h' = both_cers g l b x y h h' ++ Disconnect x l ∷ cea_put m t l g y h' ∷ []
  put_so_far g l C19 b x y h h' = both_cers g l b x y h h' ++ Disconnect x l ∷ cea_put m t l g y h' ∷ []
  put_so_far g l _ b x y h h' = both_cers g l b x y h h' ++ Disconnect x l ∷ cea_put m t l g y h' ∷ Disconnect x g ∷ []

  -- what is put in on the way to a phase, whoever's CER came first
  pub record Adds (g l : Side) (k k' : Phase) (x y n n' x' y' h h' : ℕ) (put : List (Put M)) : Type 0 where
    pub first : Bool → Bool
    pub adds : (b : Bool) → put_so_far g l k b x y n n' ++ put ≡ put_so_far g l k' (first b) x' y' h h'

  -- a world is in a phase; the greater side is g
  pub record InPhase (g l : Side) (w : World P M) (k : Phase) (x y : ℕ) : Type 0 where
    pub h : ℕ
    pub h' : ℕ
    pub i : ℕ
    pub j : ℕ
    pub i' : ℕ
    pub j' : ℕ
    pub at : AreAt m t g l w x y (own_at m t g l (stage_g k) h i j)
        (option_map mirror (own_at m t l g (stage_l k) h' i' j')) (node_g k x y) (node_l k x y) h h'

  -- what a happening that counts for so many steps does to it, with the links that it makes; n and n' are the numbers
  -- of the two CERs before it
  pub data Went (g l : Side) (k : Phase) (x y n n' c : ℕ) : After P M → List ℕ → List ℕ → Type 0 where
    stays : Went g l k x y n n' c Ignored [] []
    is_lost : Went g l k x y n n' c NoLink [] []
    moves : (w : World P M) (put : List (Put M)) (gs ls : List ℕ) (k' : Phase) (x' y' : ℕ) →
        (q : InPhase g l w k' x' y') → Adds g l k k' x y n n' x' y' q.h q.h' put → depth k + c ≤ depth k' →
        present (stage_g k) x ++ gs ≡ present (stage_g k') x' →
        present (stage_l k) y ++ ls ≡ present (stage_l k') y' → Went g l k x y n n' c (DoneWith w put) gs ls
