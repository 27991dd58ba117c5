-- A restart changes the links on which a side's end is fresh, and those that its peer holds, and no others.
use Rattle.std.proofs.Common.{◌≡◌, ℕ, zero, suc, ◌==◌, Bool, true, false, not, ◌&&◌, ◌||◌, if◌then◌else◌, Option}
use Rattle.std.proofs.Common.{Some, None, List, [], ◌∷◌, ◌++◌, slice_get, refl, sym, ap, subst, ◌∙◌, arith}
use Rattle.std.specs.Prelude.{IsTrue, option_map}
use Rattle.std.proofs.lemmas.Bool.Decides.{nat_tests}
use Rattle.dm_two_peers.specs.Machine.{Conn, Node, is_shaped, Tie, Unheld, Connecting, Connected, ConnectedOpen, AcceptedTie, tie_of}
use Rattle.dm_two_peers.specs.Machine.{is_tie_held, held_as, Initiated, Accepted}
use Rattle.dm_two_peers.specs.Links.{Side, A, B, opens, LinkPhase, LinkPending, LinkUp, LinkCancelled, End, Fresh, Open, Shut, Mark}
use Rattle.dm_two_peers.specs.Links.{NoMark, Coming, Delivered, Direction, Link, View, view_of, link_of}
use Rattle.dm_two_peers.specs.Facts.{is_none, is_shut, is_up, is_fresh, standing_of, turned_over, is_sound_standing, AreSound, opener_fits}
use Rattle.dm_two_peers.specs.Facts.{other_fits, end_fits, fresh_fits, is_empty}
use Rattle.dm_two_peers.specs.Happens.{restarted, restart_links, own_view}
use Rattle.dm_two_peers.specs.Worlds.{change_at}
use Rattle.dm_two_peers.specs.Making.{is_fresh_on}
use Rattle.dm_world.specs.Ends.{is_among, NamesFresh, restart_each, numbers, held_numbers}
use Rattle.dm_world.specs.Rooms.{is_conn}
use Rattle.dm_world.specs.Seen.{restart_link}
use Rattle.dm_world.proofs.Held.{held_by_role}

abbrev viewed : LinkPhase → End → End → Direction (List ℕ) → List (List ℕ) → ℕ → Mark → View (List ℕ)
viewed p own other inc ms tk m =
    record {
      phase = p;
      own = own;
      other = other;
      incoming = inc;
      outgoing = record { messages = ms; taken = tk; mark = m };
    }

-- a view after two restarts is as after one
idem_view : (b : Bool) (p : LinkPhase) (own other : End) (inc : Direction (List ℕ)) (ms : List (List ℕ)) (tk : ℕ)
    (m : Mark) →
    let v = viewed p own other inc ms tk m in
    restarted b (restarted b v) ≡ restarted b v
idem_view true LinkPending own other inc ms tk m = refl
idem_view false LinkPending own other inc ms tk m = refl
idem_view b LinkCancelled own other inc ms tk m = refl
idem_view b LinkUp own other inc ms tk NoMark = refl
idem_view b LinkUp own other inc ms tk Coming = refl
idem_view b LinkUp own other inc ms tk Delivered = refl

view_link : (b : Bool) (o : Side) (v : View (List ℕ)) → view_of b (link_of b o v) ≡ v
view_link true o v = refl
view_link false o v = refl

link_view : (b : Bool) (l : Link (List ℕ)) → link_of b l.opener (view_of b l) ≡ l
link_view true l = refl
link_view false l = refl

idem_link : (b : Bool) (o : Side) (v : View (List ℕ)) →
    link_of b o (restarted b (view_of b (link_of b o (restarted b v)))) ≡ link_of b o (restarted b v)
idem_link b o v =
    ap (λ x. link_of b o (restarted b x)) (view_link b o (restarted b v))
    ∙ ap (λ x. link_of b o x)
    (idem_view b v.phase v.own v.other v.incoming v.outgoing.messages v.outgoing.taken v.outgoing.mark)

restarted_twice : (s : Side) (l : Link (List ℕ)) → restart_link s (restart_link s l) ≡ restart_link s l
restarted_twice s l = idem_link (opens s l.opener) l.opener (view_of (opens s l.opener) l)

-- a view that a restart leaves as it is
abbrev is_inert : Bool → LinkPhase → End → Mark → Bool
is_inert b LinkPending own m = not b
is_inert b LinkCancelled own m = true
is_inert b LinkUp own m = is_shut own && not (is_none m)

inert_view : (b : Bool) (p : LinkPhase) (own other : End) (inc : Direction (List ℕ)) (ms : List (List ℕ)) (tk : ℕ)
    (m : Mark) → is_inert b p own m ≡ true →
    let v = viewed p own other inc ms tk m in
    restarted b v ≡ v
inert_view true LinkPending own other inc ms tk m h = cc
inert_view false LinkPending own other inc ms tk m h = refl
inert_view b LinkCancelled own other inc ms tk m h = refl
inert_view b LinkUp Shut other inc ms tk NoMark h = cc
inert_view b LinkUp Shut other inc ms tk Coming h = refl
inert_view b LinkUp Shut other inc ms tk Delivered h = refl
inert_view b LinkUp Fresh other inc ms tk m h = cc
inert_view b LinkUp Open other inc ms tk m h = cc

inert_link : (s : Side) (l : Link (List ℕ)) →
    is_inert (opens s l.opener) l.phase (own_view s l).own (own_view s l).outgoing.mark ≡ true → restart_link s l ≡ l
inert_link s l h =
    let b = opens s l.opener in
    let v = view_of b l in
    ap (λ x. link_of b l.opener x)
    (inert_view b v.phase v.own v.other v.incoming v.outgoing.messages v.outgoing.taken v.outgoing.mark h)
    ∙ link_view b l

-- what the soundness of a link says of an end that isn't held and isn't fresh
both_first : (a b : Bool) → (a && b) ≡ true → a ≡ true
both_first true b h = refl
both_first false b h = cc

both_second : (a b : Bool) → (a && b) ≡ true → b ≡ true
both_second true b h = h
both_second false b h = cc

five : (a b c d e : Bool) → (a && b && c && d && e) ≡ true → (a ≡ true) × (b ≡ true) × (c ≡ true) × (d ≡ true)
five true true true true e h = (refl, refl, refl, refl)
five _ _ _ _ _ h = cc

opener_shut : (own : End) (ie : Bool) (im om : Mark) → opener_fits own Unheld ≡ true → end_fits own ie im om ≡ true →
    (is_shut own && not (is_none om)) ≡ true
opener_shut Shut ie im om h g = both_first (not (is_none om)) _ g
opener_shut Open ie im om h g = cc
opener_shut Fresh ie im om h g = cc

other_shut : (own : End) (ie : Bool) (im om : Mark) → other_fits own Unheld ≡ true → is_fresh own ≡ false →
    end_fits own ie im om ≡ true → (is_shut own && not (is_none om)) ≡ true
other_shut Shut ie im om h f g = both_first (not (is_none om)) _ g
other_shut Open ie im om h f g = cc
other_shut Fresh ie im om h f g = cc

sound_inert : (b : Bool) (p : LinkPhase) (u : Tie) (own other : End) (ie oe : Bool) (im om : Mark) →
    is_sound_standing (turned_over b (record {
      own_tie = Unheld;
      other_tie = u;
      phase = p;
      own = own;
      other = other;
      in_empty = ie;
      out_empty = oe;
      in_mark = im;
      out_mark = om;
    })) ≡ true →
    (is_up p && is_fresh own) ≡ false → is_inert b p own om ≡ true
sound_inert true LinkPending u own other ie oe im om h f = cc
sound_inert false LinkPending u own other ie oe im om h f = refl
sound_inert b LinkCancelled u own other ie oe im om h f = refl
sound_inert true LinkUp u own other ie oe im om h f =
    let p = five (opener_fits own Unheld) (other_fits other u) (end_fits own ie im om) (end_fits other oe om im)
    (fresh_fits other Unheld ie oe om) h in
    opener_shut own ie im om p.0 p.2
sound_inert false LinkUp u own other ie oe im om h f =
    let p = five (opener_fits other u) (other_fits own Unheld) (end_fits other oe om im) (end_fits own ie im om)
    (fresh_fits own u oe ie im) h in
    other_shut own ie im om p.1 f p.3

-- the soundness of a link, from either side
from_b : (o : Side) (l : Link (List ℕ)) (ta tb : Tie) →
    is_sound_standing (turned_over (opens A o) (standing_of ta tb (view_of (opens A o) l))) ≡ is_sound_standing
    (turned_over (opens B o) (standing_of tb ta (view_of (opens B o) l)))
from_b A l ta tb = refl
from_b B l ta tb = refl

unheld_inert : (s : Side) (l : Link (List ℕ)) (t u : Tie) → t ≡ Unheld →
    is_sound_standing (turned_over (opens s l.opener) (standing_of t u (own_view s l))) ≡ true → is_fresh_on s (Some l) ≡ false →
    restart_link s l ≡ l
unheld_inert s l t u unheld sound fresh =
    let v = own_view s l in
    inert_link s l
    (sound_inert (opens s l.opener) l.phase u v.own v.other (is_empty v.incoming.messages)
    (is_empty v.outgoing.messages) v.incoming.mark v.outgoing.mark
    (subst (λ (x : Tie). is_sound_standing (turned_over (opens s l.opener) (standing_of x u v)) ≡ true) unheld sound) fresh)

-- one element is changed
get_same : (c : ℕ) (f : Link (List ℕ) → Link (List ℕ)) (xs : List (Link (List ℕ))) →
    slice_get (change_at c f xs) c ≡ option_map f (slice_get xs c)
get_same c f [] = refl
get_same zero f (x ∷ xs) = refl
get_same (suc c) f (x ∷ xs) = get_same c f xs

get_other : (c d : ℕ) (f : Link (List ℕ) → Link (List ℕ)) (xs : List (Link (List ℕ))) → (c ≡ d → ⊥) →
    slice_get (change_at c f xs) d ≡ slice_get xs d
get_other c d f [] h = refl
get_other zero zero f (x ∷ xs) h = absurd (h refl)
get_other zero (suc d) f (x ∷ xs) h = refl
get_other (suc c) zero f (x ∷ xs) h = refl
get_other (suc c) (suc d) f (x ∷ xs) h = get_other c d f xs (λ e. h (ap suc e))

if_same : (c d : ℕ) → (c == d) ≡ true → c ≡ d
if_same c d h = grind (arith, nat_tests)

if_other : (c d : ℕ) → (c == d) ≡ false → c ≡ d → ⊥
if_other c d h e = grind (arith, nat_tests)

mapped_same : (o : Option (Link (List ℕ))) → o ≡ option_map (λ x. x) o
mapped_same None = refl
mapped_same (Some x) = refl

get_tested : (c d : ℕ) (b : Bool) (f : Link (List ℕ) → Link (List ℕ)) (xs : List (Link (List ℕ))) → (c == d) ≡ b →
    slice_get (change_at c f xs) d ≡ option_map (λ x. if b then f x else x) (slice_get xs d)
get_tested c d true f xs e = subst (λ n. slice_get (change_at c f xs) n ≡ option_map f (slice_get xs n))
    (if_same c d e) (get_same c f xs)
get_tested c d false f xs e = get_other c d f xs (if_other c d e) ∙ mapped_same (slice_get xs d)

twice : (s : Side) (a b : Bool) (o : Option (Link (List ℕ))) →
    option_map (λ l. if a then restart_link s l else l)
    (option_map (λ l. if b then restart_link s l else l) o) ≡ option_map (λ l. if b || a then restart_link s l else l) o
twice s a b None = refl
twice s true true (Some l) = ap (λ x. Some x) (restarted_twice s l)
twice s true false (Some l) = refl
twice s false true (Some l) = refl
twice s false false (Some l) = refl

each_get : (s : Side) (cs : List ℕ) (ls : List (Link (List ℕ))) (d : ℕ) →
    slice_get (restart_each s cs ls) d ≡ option_map (λ l. if is_among d cs then restart_link s l else l)
    (slice_get ls d)
each_get s [] ls d = mapped_same (slice_get ls d)
each_get s (c ∷ cs) ls d =
    each_get s cs (change_at c (restart_link s) ls) d
    ∙ ap (λ o. option_map (λ l. if is_among d cs then restart_link s l else l) o)
    (get_tested c d (c == d) (restart_link s) ls refl)
    ∙ twice s (is_among d cs) (c == d) (slice_get ls d)

lists_same : {X : Type 0} (xs ys : List X) → ((d : ℕ) → slice_get xs d ≡ slice_get ys d) → xs ≡ ys
lists_same [] [] h = refl
lists_same [] (y ∷ ys) h = let e = h 0 in cc
lists_same (x ∷ xs) [] h = let e = h 0 in cc
lists_same (x ∷ xs) (y ∷ ys) h =
    let e : Some x ≡ Some y = h 0 in
    let same : x ≡ y = cc in
    ap (λ z. z ∷ xs) same ∙ ap (λ z. y ∷ z) (lists_same xs ys (λ d. h (suc d)))

get_restarted : (s : Side) (ls : List (Link (List ℕ))) (d : ℕ) →
    slice_get (restart_links s ls) d ≡ option_map (restart_link s) (slice_get ls d)
get_restarted s [] d = refl
get_restarted s (l ∷ ls) zero = refl
get_restarted s (l ∷ ls) (suc d) = get_restarted s ls d

-- links that aren't named stay as they are
abbrev Covers : Side → List ℕ → List (Link (List ℕ)) → Type 0
Covers s cs ls = (c : ℕ) (l : Link (List ℕ)) → slice_get ls c ≡ Some l → is_among c cs ≡ false → restart_link s l ≡ l

if_among : (s : Side) (b : Bool) (l : Link (List ℕ)) → (b ≡ false → restart_link s l ≡ l) →
    (if b then restart_link s l else l) ≡ restart_link s l
if_among s true l h = refl
if_among s false l h = sym (h refl)

covered_at : (s : Side) (cs : List ℕ) (d : ℕ) (o : Option (Link (List ℕ))) →
    ((l : Link (List ℕ)) → o ≡ Some l → is_among d cs ≡ false → restart_link s l ≡ l) →
    option_map (λ l. if is_among d cs then restart_link s l else l) o ≡ option_map (restart_link s) o
covered_at s cs d None h = refl
covered_at s cs d (Some l) h = ap (λ x. Some x) (if_among s (is_among d cs) l (h l refl))

covered : (s : Side) (cs : List ℕ) (ls : List (Link (List ℕ))) → Covers s cs ls →
    restart_each s cs ls ≡ restart_links s ls
covered s cs ls h =
    lists_same (restart_each s cs ls) (restart_links s ls)
    (λ d. each_get s cs ls d ∙ covered_at s cs d (slice_get ls d) (λ l at. h d l at) ∙ sym (get_restarted s ls d))

pub each_append : (s : Side) (cs ds : List ℕ) (ls : List (Link (List ℕ))) →
    restart_each s (cs ++ ds) ls ≡ restart_each s ds (restart_each s cs ls)
each_append s [] ds ls = refl
each_append s (c ∷ cs) ds ls = each_append s cs ds (change_at c (restart_link s) ls)

or_assoc : (a b c : Bool) → (a || (b || c)) ≡ ((a || b) || c)
or_assoc true b c = refl
or_assoc false b c = refl

or_false : (b : Bool) → (b || false) ≡ b
or_false true = refl
or_false false = refl

pub among_append : (c : ℕ) (cs ds : List ℕ) → is_among c (cs ++ ds) ≡ (is_among c cs || is_among c ds)
among_append c [] ds = refl
among_append c (d ∷ cs) ds = ap (λ b. (d == c) || b) (among_append c cs ds)
    ∙ or_assoc (d == c) (is_among c cs) (is_among c ds)

among_number : (o : Option Conn) (c : ℕ) → is_among c (numbers o) ≡ is_conn o c
among_number None c = refl
among_number (Some d) c = or_false (d.0 == c)

-- a restart of the links that are named, and then of those that the node holds
or_left : (a b : Bool) → (a || b) ≡ false → a ≡ false
or_left true b h = cc
or_left false b h = refl

or_right : (a b : Bool) → (a || b) ≡ false → b ≡ false
or_right true b h = cc
or_right false b h = h

false_of : (a b : Bool) → (a ≡ true → b ≡ true) → b ≡ false → a ≡ false
false_of true b f h = let e : b ≡ true = f refl in cc
false_of false b f h = refl

tie_unheld : (t : Tie) → is_tie_held t ≡ false → t ≡ Unheld
tie_unheld Unheld h = refl
tie_unheld Connecting h = cc
tie_unheld Connected h = cc
tie_unheld ConnectedOpen h = cc
tie_unheld AcceptedTie h = cc

both_false : (a b : Bool) → a ≡ false → b ≡ false → (a || b) ≡ false
both_false true b h g = cc
both_false false b h g = g

not_held : (n : Node) (c : ℕ) → IsTrue (is_shaped n) → is_among c (held_numbers n) ≡ false → tie_of n c ≡ Unheld
not_held n c shaped h =
    let i = numbers (held_as Initiated n.held) in
    let r = numbers (held_as Accepted n.held) in
    let apart : (is_among c i || is_among c r) ≡ false = sym (among_append c i r) ∙ h in
    let no_i = sym (among_number (held_as Initiated n.held) c) ∙ or_left (is_among c i) (is_among c r) apart in
    let no_r = sym (among_number (held_as Accepted n.held) c) ∙ or_right (is_among c i) (is_among c r) apart in
    tie_unheld (tie_of n c) (held_by_role n c shaped
    ∙ both_false (is_conn (held_as Initiated n.held) c) (is_conn (held_as Accepted n.held) c) no_i no_r)

pub restarts_all : (s : Side) (n m : Node) (cs : List ℕ) (ls : List (Link (List ℕ))) → AreSound s n m ls →
    NamesFresh s cs ls → restart_each s (cs ++ held_numbers n) ls ≡ restart_links s ls
restarts_all s n m cs ls sound fresh =
    covered s (cs ++ held_numbers n) ls
    (λ c l at none.
    let apart : (is_among c cs || is_among c (held_numbers n)) ≡ false = sym (among_append c cs (held_numbers n))
    ∙ none in
    let unnamed = or_left (is_among c cs) (is_among c (held_numbers n)) apart in
    let unheld = not_held n c sound.own_shaped (or_right (is_among c cs) (is_among c (held_numbers n)) apart) in
    let stale : is_fresh_on s (Some l) ≡ false = ap (λ o. is_fresh_on s o) (sym at)
    ∙ false_of (is_fresh_on s (slice_get ls c)) (is_among c cs) (fresh c) unnamed in
    unheld_inert s l (tie_of n c) (tie_of m c) unheld (sound.each c l at) stale)

-- the soundness of a world, from the side of B
pub from_other_side : (n m : Node) (ls : List (Link (List ℕ))) → AreSound A n m ls → AreSound B m n ls
from_other_side n m ls sound =
    record {
      own_shaped = sound.other_shaped;
      other_shaped = sound.own_shaped;
      each = λ c l at. sym (from_b l.opener l (tie_of n c) (tie_of m c)) ∙ sound.each c l at;
      own_later = sound.other_later;
      other_later = sound.own_later;
    }
