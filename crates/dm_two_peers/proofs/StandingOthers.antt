-- What else happens keeps a link's standing sound: checked at every standing.
use Rattle.std.proofs.Common.{◌≡◌, Bool, true, false, not, ◌&&◌, ◌||◌, List, [], ◌∷◌, refl}
use Rattle.dm_two_peers.specs.Machine.{LinkConcern, Elsewhere, EndsLink, HeardOnLink, Tie, Unheld}
use Rattle.dm_two_peers.specs.Machine.{Connecting, ConnectedOpen, AcceptedTie, is_tie_held}
use Rattle.dm_two_peers.specs.Links.{LinkPhase, LinkPending}
use Rattle.dm_two_peers.specs.Steps.{marked}
use Rattle.dm_two_peers.specs.Facts.{Standing, turned_over, is_sound_standing, is_pending, is_up, is_fresh, is_open_end}
use Rattle.dm_two_peers.specs.Facts.{is_shut, is_none, is_coming}
use Rattle.dm_two_peers.proofs.Columns.{phase_at, own_at, other_at, incoming_mark_at, outgoing_mark_at}
use Rattle.dm_two_peers.proofs.Every.{all_true, every_bool, every_tie, every_concern, every_phase, every_end}
use Rattle.dm_two_peers.proofs.Every.{every_mark, every_standing}
use Rattle.dm_two_peers.proofs.StandingSteps.{when, standing_after}

-- what comes to a shut end
abbrev pub standing_entered : LinkConcern → Bool → Standing → Standing
standing_entered k in_empty s =
    record {
      own_tie = s.own_tie;
      other_tie = s.other_tie;
      phase = phase_at k s.phase;
      own = own_at k s.own;
      other = other_at k s.other;
      in_empty = in_empty;
      out_empty = s.out_empty;
      in_mark = incoming_mark_at k s.in_mark;
      out_mark = outgoing_mark_at k s.own s.out_mark;
    }

abbrev pub spent_at : Bool → LinkConcern → Standing → Bool
spent_at mine k s =
    when (is_up s.phase && is_shut s.own)
    (elim k [
      | HeardOnLink ↦ when (not s.in_empty)
          (every_bool (λ ie. is_sound_standing (turned_over mine (standing_entered HeardOnLink ie s))))
      | EndsLink ↦ when (s.in_empty && is_coming s.in_mark)
          (is_sound_standing (turned_over mine (standing_entered EndsLink s.in_empty s)))
      | _ ↦ true
    ])

abbrev pub spent : Standing → Bool
spent s = when (is_sound_standing s) (every_bool (λ mine. every_concern (λ k. spent_at mine k (turned_over mine s))))

pub spent_checked : every_standing spent ≡ true
unfolding all_true every_bool every_tie every_concern every_phase every_end every_mark
spent_checked = refl

-- a loss on a link that is up, each list kept in part
abbrev pub standing_lost : Bool → Bool → Standing → Standing
standing_lost in_empty out_empty s =
    record {
      own_tie = s.own_tie;
      other_tie = s.other_tie;
      phase = s.phase;
      own = s.own;
      other = s.other;
      in_empty = in_empty;
      out_empty = out_empty;
      in_mark = marked s.in_mark;
      out_mark = marked s.out_mark;
    }

abbrev pub lost : Standing → Bool
lost s =
    when (is_sound_standing s && is_up s.phase)
    (is_sound_standing (standing_lost true true s) && is_sound_standing (standing_lost true s.out_empty s)
    && is_sound_standing
    (standing_lost s.in_empty true s) && is_sound_standing (standing_lost s.in_empty s.out_empty s))

pub lost_checked : every_standing lost ≡ true
unfolding all_true every_bool every_tie every_concern every_phase every_end every_mark
lost_checked = refl

-- a restart of one side
abbrev pub closes_own : Bool → LinkPhase → Bool
closes_own mine LinkPending = mine
closes_own mine _ = true

abbrev pub restart_is_sound : Standing → Bool
restart_is_sound s =
    when (is_sound_standing s)
    (every_bool (λ mine. is_sound_standing
    (turned_over mine (standing_after Elsewhere Unheld (closes_own mine s.phase) (turned_over mine s).in_empty
    (turned_over mine s).out_empty (turned_over mine s)))))

pub restarts_checked : every_standing restart_is_sound ≡ true
unfolding all_true every_bool every_tie every_concern every_phase every_end every_mark
restarts_checked = refl

-- what a sound standing has, from either side
abbrev pub is_open_tie : Tie → Bool
is_open_tie ConnectedOpen = true
is_open_tie AcceptedTie = true
is_open_tie _ = false

abbrev pub is_taken : Tie → Bool
is_taken AcceptedTie = true
is_taken _ = false

abbrev pub is_connecting : Tie → Bool
is_connecting Connecting = true
is_connecting _ = false

abbrev pub has_open_end : Standing → Bool
has_open_end s = is_open_end s.own

abbrev pub same_bool : Bool → Bool → Bool
same_bool true b = b
same_bool false b = not b

-- nothing is under way
abbrev pub is_calm_standing : Standing → Bool
is_calm_standing s = s.in_empty && (s.out_empty && (not (is_coming s.in_mark) && not (is_coming s.out_mark)))

abbrev pub conclusions : Bool → Standing → List Bool
conclusions mine s =
    when (is_up s.phase) (same_bool (is_open_end s.own) (is_tie_held s.own_tie))
    ∷ when (is_tie_held s.own_tie) (is_up s.phase || (is_pending s.phase && mine))
    ∷ when (is_open_tie s.own_tie) (is_up s.phase && (is_open_end s.other || is_coming s.in_mark))
    ∷ when (is_tie_held s.own_tie && is_tie_held s.other_tie) (not (same_bool (is_taken s.own_tie) (is_taken s.other_tie)))
    ∷ when (is_open_end s.other && is_up s.phase) (is_tie_held s.other_tie)
    ∷ when (is_up s.phase && is_fresh s.own) (not mine)
    ∷ when (is_up s.phase && (is_tie_held s.own_tie && is_calm_standing s)) (is_tie_held s.other_tie)
    ∷ when (not (is_up s.phase)) (s.in_empty && (s.out_empty && (is_none s.in_mark && is_none s.out_mark)))
    ∷ when (is_connecting s.own_tie) (is_pending s.phase)
    ∷ []

abbrev pub concluded : Standing → Bool
concluded s = when (is_sound_standing s) (every_bool (λ mine. all_true (conclusions mine (turned_over mine s))))

pub concluded_checked : every_standing concluded ≡ true
unfolding all_true every_bool every_tie every_concern every_phase every_end every_mark
concluded_checked = refl
