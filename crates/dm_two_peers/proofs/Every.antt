-- A test at every value of a small type, by computing it at each.
use Rattle.std.proofs.Common.{◌≡◌, ℕ, zero, suc, Bool, true, false, ◌&&◌, List, [], ◌∷◌, refl}
use Rattle.std.proofs.lemmas.Bool.{and_parts}
use Rattle.dm_two_peers.specs.Machine.{LinkConcern, Elsewhere, StartsLink, MakesLink, FailsLink, EndsLink, HeardOnLink, Tie, Unheld}
use Rattle.dm_two_peers.specs.Machine.{Connecting, Connected, ConnectedOpen, AcceptedTie}
use Rattle.dm_two_peers.specs.Links.{LinkPhase, LinkPending, LinkUp, LinkCancelled, End, Fresh, Open, Shut, Mark, NoMark, Coming}
use Rattle.dm_two_peers.specs.Links.{Delivered}
use Rattle.dm_two_peers.specs.Facts.{Standing}

unfoldable pub all_true : List Bool → Bool
all_true [] = true
all_true (b ∷ bs) = b && all_true bs

abbrev pub nth : List Bool → ℕ → Bool
nth [] k = true
nth (b ∷ bs) zero = b
nth (b ∷ bs) (suc k) = nth bs k

pub at : (bs : List Bool) (k : ℕ) → all_true bs ≡ true → nth bs k ≡ true
unfolding all_true
at [] k h = refl
at (b ∷ bs) zero h = (and_parts b (all_true bs) h).0
at (b ∷ bs) (suc k) h = at bs k (and_parts b (all_true bs) h).1

abbrev bools : (Bool → Bool) → List Bool
bools f = f true ∷ f false ∷ []

abbrev ties : (Tie → Bool) → List Bool
ties f = f Unheld ∷ f Connecting ∷ f Connected ∷ f ConnectedOpen ∷ f AcceptedTie ∷ []

abbrev concerns : (LinkConcern → Bool) → List Bool
concerns f = f Elsewhere ∷ f StartsLink ∷ f MakesLink ∷ f FailsLink ∷ f EndsLink ∷ f HeardOnLink ∷ []

abbrev phases : (LinkPhase → Bool) → List Bool
phases f = f LinkPending ∷ f LinkUp ∷ f LinkCancelled ∷ []

abbrev ends : (End → Bool) → List Bool
ends f = f Fresh ∷ f Open ∷ f Shut ∷ []

abbrev marks : (Mark → Bool) → List Bool
marks f = f NoMark ∷ f Coming ∷ f Delivered ∷ []

unfoldable pub every_bool : (Bool → Bool) → Bool
every_bool f = all_true (bools f)

unfoldable pub every_tie : (Tie → Bool) → Bool
every_tie f = all_true (ties f)

unfoldable pub every_concern : (LinkConcern → Bool) → Bool
every_concern f = all_true (concerns f)

unfoldable pub every_phase : (LinkPhase → Bool) → Bool
every_phase f = all_true (phases f)

unfoldable pub every_end : (End → Bool) → Bool
every_end f = all_true (ends f)

unfoldable pub every_mark : (Mark → Bool) → Bool
every_mark f = all_true (marks f)

pub at_bool : (f : Bool → Bool) → every_bool f ≡ true → (x : Bool) → f x ≡ true
unfolding every_bool
at_bool f h true = at (bools f) 0 h
at_bool f h false = at (bools f) 1 h

pub at_tie : (f : Tie → Bool) → every_tie f ≡ true → (x : Tie) → f x ≡ true
unfolding every_tie
at_tie f h Unheld = at (ties f) 0 h
at_tie f h Connecting = at (ties f) 1 h
at_tie f h Connected = at (ties f) 2 h
at_tie f h ConnectedOpen = at (ties f) 3 h
at_tie f h AcceptedTie = at (ties f) 4 h

pub at_concern : (f : LinkConcern → Bool) → every_concern f ≡ true → (x : LinkConcern) → f x ≡ true
unfolding every_concern
at_concern f h Elsewhere = at (concerns f) 0 h
at_concern f h StartsLink = at (concerns f) 1 h
at_concern f h MakesLink = at (concerns f) 2 h
at_concern f h FailsLink = at (concerns f) 3 h
at_concern f h EndsLink = at (concerns f) 4 h
at_concern f h HeardOnLink = at (concerns f) 5 h

pub at_phase : (f : LinkPhase → Bool) → every_phase f ≡ true → (x : LinkPhase) → f x ≡ true
unfolding every_phase
at_phase f h LinkPending = at (phases f) 0 h
at_phase f h LinkUp = at (phases f) 1 h
at_phase f h LinkCancelled = at (phases f) 2 h

pub at_end : (f : End → Bool) → every_end f ≡ true → (x : End) → f x ≡ true
unfolding every_end
at_end f h Fresh = at (ends f) 0 h
at_end f h Open = at (ends f) 1 h
at_end f h Shut = at (ends f) 2 h

pub at_mark : (f : Mark → Bool) → every_mark f ≡ true → (x : Mark) → f x ≡ true
unfolding every_mark
at_mark f h NoMark = at (marks f) 0 h
at_mark f h Coming = at (marks f) 1 h
at_mark f h Delivered = at (marks f) 2 h

abbrev stood : Tie → Tie → LinkPhase → End → End → Bool → Bool → Mark → Mark → Standing
stood t u p own other in_empty out_empty in_mark out_mark =
    record {
      own_tie = t;
      other_tie = u;
      phase = p;
      own = own;
      other = other;
      in_empty = in_empty;
      out_empty = out_empty;
      in_mark = in_mark;
      out_mark = out_mark;
    }

-- a test at every standing
abbrev pub every_standing : (Standing → Bool) → Bool
every_standing f =
    every_tie (λ t. every_tie
    (λ u. every_phase (λ p. every_end
    (λ e. every_end (λ o. every_bool
    (λ ie. every_bool (λ oe. every_mark (λ im. every_mark (λ om. f (stood t u p e o ie oe im om))))))))))

pub at_standing : (f : Standing → Bool) → every_standing f ≡ true → (s : Standing) → f s ≡ true
at_standing f h s =
    at_mark _ (at_mark _
    (at_bool _ (at_bool _
    (at_end _ (at_end _ (at_phase _ (at_tie _ (at_tie _ h s.own_tie) s.other_tie) s.phase) s.own) s.other)
    s.in_empty) s.out_empty) s.in_mark) s.out_mark
