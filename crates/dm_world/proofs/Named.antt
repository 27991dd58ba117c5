-- The lists name each fresh end, whatever happens.
use Rattle.std.proofs.Common.{◌≡◌, ℕ, zero, suc, ◌==◌, Bool, true, false, ◌&&◌, ◌||◌, Option, Some, None, List, []}
use Rattle.std.proofs.Common.{◌∷◌, ◌++◌, slice_get, refl, sym, ap, subst, ◌∙◌, ◌⊎◌, inl, inr, arith}
use Rattle.std.specs.Prelude.{Result, Ok, Err, IfOk, OnErr}
use Rattle.std.proofs.lemmas.Bool.Decides.{nat_tests}
use Rattle.dm_peer.specs.declared.peer.Peer.{Peer}
use Rattle.dm_two_peers.specs.Links.{Side, A, B, flip, opens, LinkPhase, LinkPending, LinkUp, LinkCancelled, End, Direction, Link}
use Rattle.dm_two_peers.specs.Links.{View, view_of, link_of}
use Rattle.dm_two_peers.specs.Worlds.{peer_on, with_peer, After}
use Rattle.dm_two_peers.specs.Happens.{Starts, Stops, TimesOut, Ticks, Restarts, Acks, Nacks, Delivers, Pieces, Loses}
use Rattle.dm_two_peers.specs.Happens.{Submits, happens, world_after, restarted, restart_links}
use Rattle.dm_two_peers.specs.Facts.{is_up, is_fresh}
use Rattle.dm_two_peers.specs.Happens as happens
use Rattle.dm_two_peers.specs.Making.{has_fresh_end, is_fresh_on, MakesEnd, AcksMakeEnds}
use Rattle.dm_octet_peers.specs.Octets.{as_cause, octet_peers}
use Rattle.dm_world.specs.declared.fault.Effect.{Effect}
use Rattle.dm_world.specs.declared.fault.Effect.TheVariants as effect
use Rattle.dm_world.specs.declared.fault.WorldFault.{WorldFault}
use Rattle.dm_world.specs.declared.happening.Happening as declared_happening
use Rattle.dm_world.specs.declared.happening.Happening.TheVariants as happening
use Rattle.dm_world.specs.declared.made_ends.MadeEnds.{MadeEnds}
use Rattle.dm_world.specs.Ends.{ends_of, AreSameEnds, is_among, AreNamed, MakesEnds, AreCleared, AreEndsAfter}
use Rattle.dm_world.specs.Happening.{as_happening}
use Rattle.dm_world.specs.Seen.{as_side, restart_link}
use Rattle.dm_world.specs.Views.{OctetWorld, Effects}
use Rattle.dm_world.proofs.Anew.{among_append}

-- no link, no fresh end
pub none_named : (m : MadeEnds) → AreNamed m []
none_named m s c h = cc

pub after_is : (outcome : Effect) (after : After Peer (List ℕ)) (w w' : OctetWorld) → Effects outcome after w w' →
    world_after w after ≡ w'
after_is effect.Done after w w' e = ap (λ a. world_after w a) e.1
after_is effect.Ignored after w w' e = ap (λ a. world_after w a) e.0 ∙ sym e.1

-- an end that is fresh after a step was fresh before, or is made
fresh_by : (outcome : Effect) (h : happens.Happening (List ℕ)) (w w' : OctetWorld) (s : Side) (c : ℕ) →
    AcksMakeEnds Peer (List ℕ) → Effects outcome (happens octet_peers w h) w w' →
    is_fresh_on s (slice_get w'.links c) ≡ true →
    (is_fresh_on s (slice_get w.links c) ≡ true) ⊎ MakesEnd w h s c
fresh_by outcome h w w' s c law step fresh =
    law octet_peers w h s c
    (ap (λ (v : OctetWorld). is_fresh_on s (slice_get v.links c)) (after_is outcome (happens octet_peers w h) w w' step)
    ∙ fresh)

-- nothing happens
pub named_still : (w w' : OctetWorld) (old new : MadeEnds) → AreNamed old w.links → w' ≡ w → AreSameEnds old new →
    AreNamed new w'.links
named_still w w' old new named is same s c fresh =
    ap (λ cs. is_among c cs) (same s)
    ∙ named s c (ap (λ (v : OctetWorld). is_fresh_on s (slice_get v.links c)) (sym is) ∙ fresh)

-- nothing is named besides, where no Ack happens
same_named : (outcome : Effect) (h : happens.Happening (List ℕ)) (w w' : OctetWorld) (old new : MadeEnds) →
    AcksMakeEnds Peer (List ℕ) → ((c : ℕ) → h ≡ Acks c → ⊥) → AreNamed old w.links →
    Effects outcome (happens octet_peers w h) w w' → AreSameEnds old new → AreNamed new w'.links
same_named outcome h w w' old new law other named step same s c fresh =
    elim (fresh_by outcome h w w' s c law step fresh) [
      | inl was ↦ ap (λ cs. is_among c cs) (same s) ∙ named s c was
      | inr made ↦ absurd (other c made.acks)
    ]

-- an Ack
or_left : (a b : Bool) → a ≡ true → (a || b) ≡ true
or_left true b h = refl
or_left false b h = cc

or_right : (a b : Bool) → b ≡ true → (a || b) ≡ true
or_right true b h = refl
or_right false b h = h

is_same : (c : ℕ) → ((c == c) || false) ≡ true
is_same c = or_left (c == c) false (grind (arith, nat_tests))

among_last : (c : ℕ) (cs : List ℕ) → is_among c (cs ++ c ∷ []) ≡ true
among_last c cs = among_append c cs (c ∷ []) ∙ or_right (is_among c cs) (is_among c (c ∷ [])) (is_same c)

among_first : (c d : ℕ) (cs : List ℕ) → is_among c cs ≡ true → is_among c (cs ++ d ∷ []) ≡ true
among_first c d cs h = among_append c cs (d ∷ []) ∙ or_left (is_among c cs) (is_among c (d ∷ [])) h

sides : (s t : Side) → (flip t ≡ s) ⊎ (t ≡ s)
sides A A = inr refl
sides A B = inl refl
sides B A = inl refl
sides B B = inr refl

flip_twice : (s : Side) → flip (flip s) ≡ s
flip_twice A = refl
flip_twice B = refl

kept_among : (l : Link (List ℕ)) (d : ℕ) (old new : MadeEnds) (s : Side) (c : ℕ) →
    MakesEnds effect.Done (Some l) d old new →
    is_among c (ends_of s old) ≡ true → is_among c (ends_of s new) ≡ true
kept_among l d old new s c made =
    let F : Side → Type 0 = λ t. is_among c (ends_of t old) ≡ true → is_among c (ends_of t new) ≡ true in
    elim (sides s l.opener) [
      | inl e ↦ subst F e (λ h. ap (λ cs. is_among c cs) made.0 ∙ among_first c d (ends_of (flip l.opener) old) h)
      | inr e ↦ subst F e (λ h. ap (λ cs. is_among c cs) made.1 ∙ h)
    ]

made_among : (l : Link (List ℕ)) (c : ℕ) (old new : MadeEnds) (s : Side) → MakesEnds effect.Done (Some l) c old new →
    l.opener ≡ flip s → is_among c (ends_of s new) ≡ true
made_among l c old new s made opened =
    let e : flip l.opener ≡ s = ap flip opened ∙ flip_twice s in
    subst (λ t. is_among c (ends_of t new) ≡ true) e
    (ap (λ cs. is_among c cs) made.0 ∙ among_last c (ends_of (flip l.opener) old))

abbrev acks_on : ℕ → happens.Happening (List ℕ)
acks_on c = Acks c

abbrev restarts_of : Side → happens.Happening (List ℕ)
restarts_of t = Restarts t

same_number : (c d : ℕ) → acks_on c ≡ acks_on d → c ≡ d
same_number c d e = cc

acked_named : (w w' : OctetWorld) (d : ℕ) (o : Option (Link (List ℕ))) (old new : MadeEnds) →
    AcksMakeEnds Peer (List ℕ) →
    AreNamed old w.links → slice_get w.links d ≡ o → Effects effect.Done (happens octet_peers w (Acks d)) w w' →
    MakesEnds effect.Done o d old new → AreNamed new w'.links
acked_named w w' d None old new law named at step same s c fresh =
    elim (fresh_by effect.Done (Acks d) w w' s c law step fresh) [
      | inl was ↦ ap (λ cs. is_among c cs) (same s) ∙ named s c was
      | inr made ↦
          let e = same_number d c made.acks in
          let none : slice_get w.links c ≡ None = subst (λ n. slice_get w.links n ≡ None) e at in
          let there : Some made.link ≡ None = sym made.there ∙ none in cc
    ]
acked_named w w' d (Some l) old new law named at step adds s c fresh =
    elim (fresh_by effect.Done (Acks d) w w' s c law step fresh) [
      | inl was ↦ kept_among l d old new s c adds (named s c was)
      | inr made ↦
          let e = same_number d c made.acks in
          let here : slice_get w.links c ≡ Some l = subst (λ n. slice_get w.links n ≡ Some l) e at in
          let there : Some made.link ≡ Some l = sym made.there ∙ here in
          let is : made.link ≡ l = cc in
          made_among l c old new s (subst (λ n. MakesEnds effect.Done (Some l) n old new) e adds)
          (sym (ap (λ (k : Link (List ℕ)). k.opener) is) ∙ made.opened)
    ]

-- (an Ack that is ignored names nothing)
acked_after : (outcome : Effect) (w w' : OctetWorld) (d : ℕ) (old new : MadeEnds) → AcksMakeEnds Peer (List ℕ) →
    AreNamed old w.links → Effects outcome (happens octet_peers w (Acks d)) w w' →
    MakesEnds outcome (slice_get w.links d) d old new → AreNamed new w'.links
acked_after effect.Done w w' d old new law named step made =
    acked_named w w' d (slice_get w.links d) old new law named refl step made
acked_after effect.Ignored w w' d old new law named step made = named_still w w' old new named step.1 made

no_ack : (t : Side) (c : ℕ) → restarts_of t ≡ acks_on c → ⊥
no_ack t c e = cc

-- a Restart
stale_view : (mine : Bool) (p : LinkPhase) (own other : End) (i o : Direction (List ℕ)) →
    let v : View (List ℕ) = record { phase = p; own = own; other = other; incoming = i; outgoing = o } in
    (is_up (restarted mine v).phase && is_fresh (restarted mine v).own) ≡ false
stale_view true LinkPending own other i o = refl
stale_view false LinkPending own other i o = refl
stale_view mine LinkCancelled own other i o = refl
stale_view mine LinkUp own other i o = refl

own_back : (mine : Bool) (o : Side) (v : View (List ℕ)) → (view_of mine (link_of mine o v)).own ≡ v.own
own_back true o v = refl
own_back false o v = refl

stale_link : (s : Side) (l : Link (List ℕ)) → has_fresh_end s (restart_link s l) ≡ false
stale_link s l =
    let mine = opens s l.opener in
    let v = view_of mine l in
    ap (λ e. is_up (restarted mine v).phase && is_fresh e) (own_back mine l.opener (restarted mine v))
    ∙ stale_view mine v.phase v.own v.other v.incoming v.outgoing

stale_links : (s : Side) (ls : List (Link (List ℕ))) (c : ℕ) → is_fresh_on s (slice_get (restart_links s ls) c) ≡ false
stale_links s [] c = refl
stale_links s (l ∷ ls) zero = stale_link s l
stale_links s (l ∷ ls) (suc c) = stale_links s ls c

links_after : (t : Side) (p : Peer) (ls : List (Link (List ℕ))) (w : OctetWorld) → (with_peer t p ls w).links ≡ ls
links_after A p ls w = refl
links_after B p ls w = refl

cleared_named : (outcome : Effect) (w w' : OctetWorld) (t : Side) (old new : MadeEnds) → AcksMakeEnds Peer (List ℕ) →
    AreNamed old w.links → Effects outcome (happens octet_peers w (Restarts t)) w w' → AreCleared t old new →
    AreNamed new w'.links
cleared_named outcome w w' t old new law named step cleared s c fresh =
    elim (sides s t) [
      | inl e ↦
          elim (fresh_by outcome (Restarts t) w w' s c law step fresh) [
            | inl was ↦
                subst (λ u. is_among c (ends_of u old) ≡ true → is_among c (ends_of u new) ≡ true) e
                (λ h. ap (λ cs. is_among c cs) cleared.1 ∙ h) (named s c was)
            | inr made ↦ absurd (no_ack t c made.acks)
          ]
      | inr e ↦
          let links : restart_links t w.links ≡ w'.links =
          sym (links_after t (octet_peers.reset (peer_on t w)) (restart_links t w.links) w)
          ∙ ap (λ (v : OctetWorld). v.links) (after_is outcome (happens octet_peers w (Restarts t)) w w' step) in
          let stale : is_fresh_on s (slice_get w'.links c) ≡ false =
          subst (λ ls. is_fresh_on s (slice_get ls c) ≡ false) links
          (subst (λ u. is_fresh_on u (slice_get (restart_links t w.links) c) ≡ false) e (stale_links t w.links c)) in
          cc
    ]

-- all happenings
pub named_after : (outcome : Effect) (h : declared_happening.Happening) (w w' : OctetWorld) (old new : MadeEnds) →
    AcksMakeEnds Peer (List ℕ) → AreNamed old w.links →
    Effects outcome (happens octet_peers w (as_happening h)) w w' → AreEndsAfter outcome h w.links old new →
    AreNamed new w'.links
named_after outcome (happening.Ack d) w w' old new law named step ends =
    acked_after outcome w w' d.0 old new law named step ends
named_after outcome (happening.Restart t) w w' old new law named step ends =
    cleared_named outcome w w' (as_side t) old new law named step ends
named_after outcome (happening.Start t) w w' old new law named step ends =
    same_named outcome (Starts (as_side t)) w w' old new law (λ c e. cc) named step ends
named_after outcome (happening.Stop t cause) w w' old new law named step ends =
    same_named outcome (Stops (as_side t) (as_cause cause)) w w' old new law (λ c e. cc) named step ends
named_after outcome (happening.Timeout t) w w' old new law named step ends =
    same_named outcome (TimesOut (as_side t)) w w' old new law (λ c e. cc) named step ends
named_after outcome (happening.Tick t) w w' old new law named step ends =
    same_named outcome (Ticks (as_side t)) w w' old new law (λ c e. cc) named step ends
named_after outcome (happening.Nack d) w w' old new law named step ends =
    same_named outcome (Nacks d.0) w w' old new law (λ c e. cc) named step ends
named_after outcome (happening.Deliver d t) w w' old new law named step ends =
    same_named outcome (Delivers d.0 (as_side t)) w w' old new law (λ c e. cc) named step ends
named_after outcome (happening.Piece d t k) w w' old new law named step ends =
    same_named outcome (Pieces d.0 (as_side t) k) w w' old new law (λ c e. cc) named step ends
named_after outcome (happening.Lose d a b) w w' old new law named step ends =
    same_named outcome (Loses d.0 a b) w w' old new law (λ c e. cc) named step ends
named_after outcome (happening.Submit t x) w w' old new law named step ends =
    same_named outcome (Submits (as_side t) x) w w' old new law (λ c e. cc) named step ends

-- an end is added
pub made_one : (outcome : Effect) (o : Option (Link (List ℕ))) (l : Link (List ℕ)) (c : ℕ) (old roomy new : MadeEnds)
    (t : Side) → outcome ≡ effect.Done → o ≡ Some l → AreSameEnds old roomy → t ≡ flip l.opener →
    ends_of t new ≡ ends_of t roomy ++ c ∷ [] → ends_of (flip t) new ≡ ends_of (flip t) roomy →
    MakesEnds outcome o c old new
made_one outcome o l c old roomy new t done there same is added other =
    let here = subst (λ u. (ends_of u new ≡ ends_of u old ++ c ∷ []) × (ends_of (flip u) new ≡ ends_of (flip u) old)) is
    (added ∙ ap (λ cs. cs ++ c ∷ []) (same t), other ∙ same (flip t)) in
    let made : MakesEnds effect.Done (Some l) c old new =
    (here.0, subst (λ u. ends_of u new ≡ ends_of u old) (flip_twice l.opener) here.1) in
    subst (λ (e : Effect). MakesEnds e o c old new) (sym done)
    (subst (λ (x : Option (Link (List ℕ))). MakesEnds effect.Done x c old new) (sym there) made)

-- and nothing happens where it is refused
pub named_result : (r : Result Effect WorldFault) (h : declared_happening.Happening) (w w' : OctetWorld)
    (old new : MadeEnds) → AcksMakeEnds Peer (List ℕ) → AreNamed old w.links →
    IfOk r (λ outcome. Effects outcome (happens octet_peers w (as_happening h)) w w') → OnErr r (w' ≡ w) →
    IfOk r (λ outcome. AreEndsAfter outcome h w.links old new) → OnErr r (AreSameEnds old new) →
    AreNamed new w'.links
named_result (Ok outcome) h w w' old new law named step still ends same =
    named_after outcome h w w' old new law named step ends
named_result (Err f) h w w' old new law named step still ends same = named_still w w' old new named still same
