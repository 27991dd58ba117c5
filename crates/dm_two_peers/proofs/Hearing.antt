-- Which ends may still hand something up, and which directions have no disconnect, at a step of either side.
use Rattle.std.proofs.Common.{◌≡◌, Bool, true, false, not, ◌&&◌, ◌||◌, refl, ap}
use Rattle.dm_two_peers.specs.Machine.{LinkConcern, MakesLink, EndsLink, HeardOnLink}
use Rattle.dm_two_peers.specs.Links.{LinkPhase, LinkPending, LinkUp, LinkCancelled, End, Fresh, Open, Shut, Mark, NoMark, Coming}
use Rattle.dm_two_peers.specs.Links.{Delivered}
use Rattle.dm_two_peers.specs.Steps.{own_settled}
use Rattle.dm_two_peers.specs.Facts.{is_up, is_pending, is_open_end, is_shut, is_none, is_coming}
use Rattle.dm_two_peers.proofs.Columns.{phase_at, own_at, other_at, incoming_mark_at, outgoing_mark_at, phase_after}
use Rattle.dm_two_peers.proofs.Columns.{own_after, mark_after}
use Rattle.dm_two_peers.proofs.Every.{all_true, every_bool, every_concern, every_phase, every_end, every_mark}
use Rattle.dm_two_peers.proofs.StandingSteps.{when}

-- whether an end may still hand something up, by whether its node is done with the link
abbrev pub may_hear : LinkPhase → End → Bool → Bool
may_hear LinkPending e over = true
may_hear LinkCancelled e over = false
may_hear LinkUp Shut over = false
may_hear LinkUp Fresh over = true
may_hear LinkUp Open over = not over

abbrev pub is_ack : LinkConcern → Bool
is_ack MakesLink = true
is_ack _ = false

abbrev pub is_end : LinkConcern → Bool
is_end EndsLink = true
is_end _ = false

abbrev pub is_word : LinkConcern → Bool
is_word HeardOnLink = true
is_word _ = false

abbrev pub imp : Bool → Bool → Bool
imp a b = not a || b

pub imp_is : (a b : Bool) → imp a b ≡ true → a ≡ true → b ≡ true
imp_is true b h e = h
imp_is false b h e = cc

pub is_imp : (a b : Bool) → (a ≡ true → b ≡ true) → imp a b ≡ true
is_imp true b h = h refl
is_imp false b h = refl

-- no step lets an end hear that couldn't
abbrev hears_own : LinkConcern → Bool → Bool → Bool → Bool → LinkPhase → End → Bool
hears_own k closed holds over over' p own =
    when (imp (is_ack k) (is_pending p) && imp (is_up p && is_open_end own && over) over')
    (imp (may_hear (phase_after closed (phase_at k p))
    (own_settled k holds (own_after closed (phase_at k p) (own_at k own))) over') (may_hear p own over))

pub hears_own_checked : every_concern
    (λ k. every_bool (λ closed. every_bool
    (λ holds. every_bool (λ over. every_bool
    (λ over'. every_phase (λ p. every_end (λ own. hears_own k closed holds over over' p own))))))) ≡ true
unfolding all_true every_bool every_concern every_phase every_end
hears_own_checked = refl

abbrev hears_other : LinkConcern → Bool → Bool → LinkPhase → End → Bool
hears_other k closed over p own =
    when (imp (is_ack k) (is_pending p))
    (imp (may_hear (phase_after closed (phase_at k p)) (other_at k own) over) (may_hear p own over))

pub hears_other_checked : every_concern
    (λ k. every_bool (λ closed. every_bool (λ over. every_phase (λ p. every_end
    (λ own. hears_other k closed over p own))))) ≡ true
unfolding all_true every_bool every_concern every_phase every_end
hears_other_checked = refl

-- after a word that ends what isn't open, nothing is heard
abbrev ends_own : Bool → Bool → End → Bool
ends_own closed holds own =
    not (may_hear (phase_after closed LinkUp) (own_settled HeardOnLink holds (own_after closed LinkUp own)) true)

pub ends_own_checked : every_bool (λ closed. every_bool (λ holds. every_end (λ own. ends_own closed holds own))) ≡ true
unfolding all_true every_bool every_end
ends_own_checked = refl

-- an end that isn't shut has no disconnect from it, but for a loss
abbrev marks_own : LinkConcern → End → Mark → Bool
marks_own k other mark =
    when (imp (is_ack k) (is_none mark) && imp (is_end k) (is_coming mark) && imp (not (is_shut other)) (is_none mark))
    (imp (not (is_shut (other_at k other))) (is_none (incoming_mark_at k mark)))

pub marks_own_checked : every_concern (λ k. every_end (λ other. every_mark (λ mark. marks_own k other mark))) ≡ true
unfolding all_true every_concern every_end every_mark
marks_own_checked = refl

abbrev marks_other : LinkConcern → Bool → Bool → LinkPhase → End → Mark → Bool
marks_other k closed holds p other mark =
    when (imp (is_ack k) (is_none mark) && imp (not (is_shut other)) (is_none mark))
    (imp (not (is_shut (own_settled k holds (own_after closed (phase_at k p) (own_at k other)))))
    (is_none (mark_after closed (phase_at k p) (outgoing_mark_at k other mark))))

pub marks_other_checked : every_concern
    (λ k. every_bool (λ closed. every_bool (λ holds. every_phase (λ p. every_end
    (λ other. every_mark (λ mark. marks_other k closed holds p other mark)))))) ≡ true
unfolding all_true every_bool every_concern every_phase every_end every_mark
marks_other_checked = refl

pub none_is : (k : Mark) → is_none k ≡ true → k ≡ NoMark
none_is NoMark h = refl
none_is Coming h = cc
none_is Delivered h = cc

pub is_none_at : (k : Mark) → k ≡ NoMark → is_none k ≡ true
is_none_at k h = ap (λ x. is_none x) h

pub not_is : (b : Bool) → not b ≡ true → b ≡ false
not_is true h = cc
not_is false h = refl

pub is_not : (b : Bool) → b ≡ false → not b ≡ true
is_not true h = cc
is_not false h = refl

pub both : (a b : Bool) → a ≡ true → b ≡ true → (a && b) ≡ true
both true b h g = g
both false b h g = cc
