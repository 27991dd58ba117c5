-- What a clean run from a quiet world with both sides closed comes to.
use Rattle.std.specs.Prelude.{◌≡◌, ℕ, ◌+◌, ◌≤◌, ◌⊎◌, IsTrue, IfSome, Some, List, [], ◌∷◌, length, slice_get, All}
use Rattle.dm_machine.specs.declared.state_name.State.TheVariants.{Closed}
use Rattle.dm_two_peers.specs.Machine.{Initiated, Accepted, is_shaped}
use Rattle.dm_two_peers.specs.Links.{Side, A, B, flip, Link}
use Rattle.dm_two_peers.specs.Peers.{Peers}
use Rattle.dm_two_peers.specs.Worlds.{World, peer_on, Put, PutMessage, Disconnect}
use Rattle.dm_two_peers.specs.Happens.{Happening, RunEnd, run}
use Rattle.dm_two_peers.specs.Agreement.{IsOpenOn}
use Rattle.dm_two_peers.specs.Quiet.{is_quiet, is_clean, links_made, steps_taken, KeptLink, kept}
use Rattle.dm_machine.specs.Awaiting.{awaits_cea}
use Rattle.dm_two_peers.specs.Electing.{Talks, IsPeerOf, IsElecting}
use Rattle.dm_two_peers.specs.Courses.{IsOnCourse}

-- what is put in is so many CERs, CEAs of code 2001 and disconnects, and nothing else
pub data Tally {P M C H : Type 0} (t : Talks P M C H) : List (Put M) → ℕ → ℕ → ℕ → Type 0 where
  no_more : Tally t [] 0 0 0
  one_cer : (c : ℕ) (s : Side) (n : ℕ) (more : List (Put M)) (cers ceas ends : ℕ) → Tally t more cers ceas ends →
      Tally t (PutMessage c (flip s) (t.cer (t.config s) n) ∷ more) (1 + cers) ceas ends
  one_cea : (c : ℕ) (s : Side) (n : ℕ) (more : List (Put M)) (cers ceas ends : ℕ) → Tally t more cers ceas ends →
      Tally t (PutMessage c (flip s) (t.cea (t.config s) n) ∷ more) cers (1 + ceas) ends
  one_disconnect : (c : ℕ) (s : Side) (more : List (Put M)) (cers ceas ends : ℕ) → Tally t more cers ceas ends →
      Tally t (Disconnect c s ∷ more) cers ceas (1 + ends)

-- at most two CERs, one CEA and two disconnects
pub record AtMost {P M C H : Type 0} (t : Talks P M C H) (put : List (Put M)) : Type 0 where
  pub cers : ℕ
  pub ceas : ℕ
  pub ends : ℕ
  pub counted : Tally t put cers ceas ends
  pub two_cers : cers ≤ 2
  pub one_cea : ceas ≤ 1
  pub two_ends : ends ≤ 2

-- two disconnects where both sides' Starts were taken, else none
abbrev pub disconnects : List ℕ → List ℕ → ℕ
disconnects (c ∷ cs) (d ∷ ds) = 2
disconnects _ _ = 0

-- open on the link that is kept, its opener as initiator and the other side as responder
pub record AreOpenOnKept {P M : Type 0} (m : Peers P M) (w : World P M) (k : KeptLink) : Type 0 where
  pub opener : IsOpenOn (m.node_of (peer_on k.opener w)) Initiated k.link
  pub other : IsOpenOn (m.node_of (peer_on (flip k.opener) w)) Accepted k.link

-- where it falls quiet after a taken Start: both are open, and one CEA, one CER for each taken Start, and the
-- disconnects were put in
pub record FellQuiet {P M C H : Type 0} (m : Peers P M) (t : Talks P M C H) (w : World P M)
    (hs : List (Happening M)) (r : RunEnd P M) (k : KeptLink) : Type 0 where
  pub opened : AreOpenOnKept m r.world k
  pub counted : Tally t r.put (length (links_made m A w hs) + length (links_made m B w hs)) 1
      (disconnects (links_made m A w hs) (links_made m B w hs))

-- what is under way on a link is its opener's CER with the number that the opener awaits, or the CEA with that number
pub record IsMatchedLink {P M C H : Type 0} (t : Talks P M C H) (w : World P M) (l : Link M) : Type 0 where
  pub number : ℕ
  pub awaited : t.awaited_of (peer_on l.opener w) ≡ Some number
  pub asked : All (λ x. x ≡ t.cer (t.config l.opener) number) l.to_other.messages
  pub answered : All (λ x. x ≡ t.cea (t.config (flip l.opener)) number) l.to_opener.messages

-- it is so on each link whose opener awaits its CEA
abbrev pub AnswersMatch : {P M C H : Type 0} → Peers P M → Talks P M C H → World P M → Type 0
AnswersMatch {P} {M} m t w =
    (c : ℕ) (l : Link M) → slice_get w.links c ≡ Some l →
    IsTrue (awaits_cea (m.node_of (peer_on l.opener w)).state) → IsMatchedLink t w l

-- what a run comes to; it has at most nine steps, and four where one side alone starts
pub record IsSettledRun {P M C H : Type 0} (m : Peers P M) (t : Talks P M C H) (w : World P M) (hs : List (Happening M))
    (r : RunEnd P M) : Type 0 where
  pub put : AtMost t r.put
  pub course : IsOnCourse m t w hs r
  pub quiet : IsTrue (is_quiet r.world) → IfSome (kept m t.wins w hs) (λ k. FellQuiet m t w hs r k)
  pub matched : AnswersMatch m t r.world
  pub nine : steps_taken m w hs ≤ 9
  pub four : (links_made m A w hs ≡ []) ⊎ (links_made m B w hs ≡ []) → steps_taken m w hs ≤ 4

-- the two sides' peers, each of a shape that the state machine keeps and Closed, and nothing under way
pub record IsAtRest {P M C H : Type 0} (m : Peers P M) (t : Talks P M C H) (w : World P M) : Type 0 where
  pub a : IsPeerOf t A w.a
  pub b : IsPeerOf t B w.b
  pub shaped_a : IsTrue (is_shaped (m.node_of w.a))
  pub shaped_b : IsTrue (is_shaped (m.node_of w.b))
  pub closed_a : (m.node_of w.a).state ≡ Closed
  pub closed_b : (m.node_of w.b).state ≡ Closed
  pub quiet : IsTrue (is_quiet w)

-- each clean run of two closed peers, from where nothing is under way
abbrev pub EachCleanRunSettles : Type 0 → Type 0 → Type 0 → Type 0 → Type 0
EachCleanRunSettles P M C H =
    (m : Peers P M) (t : Talks P M C H) → IsElecting m t → (w : World P M) → IsAtRest m t w →
    (hs : List (Happening M)) → IsTrue (is_clean hs) → IfSome (run m w hs) (λ r. IsSettledRun m t w hs r)
