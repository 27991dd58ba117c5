-- A step of one side keeps what is under way of the exchanges, as both sides see the link.
use Rattle.std.proofs.Common.{◌≡◌, Bool, true, false, Option, Some, None, List, [], ◌∷◌, ◌++◌, refl, sym}
use Rattle.std.proofs.Common.{ap, subst, ◌∙◌}
use Rattle.dm_machine.specs.Connection.{Hold, NotHeld, Pending}
use Rattle.dm_two_peers.specs.Machine.{LinkConcern, Elsewhere, MakesLink, FailsLink, EndsLink, HeardOnLink}
use Rattle.dm_two_peers.specs.Links.{LinkPhase, LinkUp, LinkCancelled, Fresh, Open, Mark, NoMark, Coming, Delivered}
use Rattle.dm_two_peers.specs.Links as links
use Rattle.dm_two_peers.specs.Links.{View}
use Rattle.dm_two_peers.specs.Steps.{queued, own_settled, settled_view}
use Rattle.dm_two_peers.specs.Delivery.{is_unmade}
use Rattle.dm_two_peers.specs.Requests.{Requests, MatchesOn}
use Rattle.dm_two_peers.proofs.Columns.{entered_columns, phase_after, mark_after, summed}
use Rattle.dm_two_peers.proofs.Pairs.{mirror}
use Rattle.dm_two_peers.proofs.Requested.{Asks, nothing, front, own_asks, acked_asks, other_asks}

-- a link that is up and has no disconnect
pub record IsUnmarked {M : Type 0} (v : View M) : Type 0 where
  pub up : v.phase ≡ LinkUp
  pub coming : v.incoming.mark ≡ NoMark
  pub going : v.outgoing.mark ≡ NoMark

-- what is under way for each of the two sides
pub record AskEach {P M : Type 0} (r : Requests P M) (p p' : P) (h h' : Hold) (v : View M) : Type 0 where
  pub own : Asks r p p' h h' v.other v.outgoing.messages v.incoming.messages
  pub other : Asks r p' p h' h v.own v.incoming.messages v.outgoing.messages

abbrev pub AskBoth : {P M : Type 0} → Requests P M → P → P → Hold → Hold → View M → Type 0
AskBoth r p p' h h' v = IsUnmarked v → AskEach r p p' h h' v

pub both_turned : {P M : Type 0} (r : Requests P M) (p p' : P) (h h' : Hold) (v : View M) →
    AskBoth r p p' h h' v → AskBoth r p' p h' h (mirror v)
both_turned r p p' h h' v both u =
    let each = both (record { up = u.up; coming = u.going; going = u.coming }) in
    record { own = each.other; other = each.own }

-- what the world handed over: by how the event concerns the link, what is heard
pub data IsHanded {M : Type 0} (v : View M) (h h' : Hold) : LinkConcern → Option M → Type 0 where
  passes : IsHanded v h h' Elsewhere None
  acks : h ≡ Pending → h' ≡ NotHeld → v.incoming.messages ≡ [] → v.outgoing.messages ≡ [] → IsHanded v h h' MakesLink None
  nacks : IsHanded v h h' FailsLink None
  ends : IsHanded v h h' EndsLink None
  hears : (x : M) (xs : List M) → v.incoming.messages ≡ x ∷ xs → is_unmade h ≡ false →
      IsHanded v h h' HeardOnLink (Some x)

-- a Close puts a disconnect, or cancels the link
pub never_closed : (p : LinkPhase) (k : Mark) → phase_after true p ≡ LinkUp → mark_after true p k ≡ NoMark → ⊥
never_closed LinkUp NoMark e f = cc
never_closed LinkUp Coming e f = cc
never_closed LinkUp Delivered e f = cc
never_closed links.LinkPending k e f = cc
never_closed LinkCancelled k e f = cc

added_behind : {M : Type 0} (p : LinkPhase) (k : Mark) (new old : List M) → p ≡ LinkUp → k ≡ NoMark →
    queued p k new old ≡ old ++ new
added_behind LinkUp NoMark new old e f = refl
added_behind LinkUp Coming new old e f = cc
added_behind LinkUp Delivered new old e f = cc
added_behind links.LinkPending k new old e f = cc
added_behind LinkCancelled k new old e f = cc

heard_none : {M : Type 0} (x : M) → Some x ≡ None → ⊥
heard_none x h = cc

none_heard : {M : Type 0} (x : M) → None ≡ Some x → ⊥
none_heard x h = cc

module _ {P M : Type 0} (r : Requests P M) (p next p' : P) (h after h' : Hold) where
  abbrev AfterStep : LinkConcern → Bool → Bool → List M → View M → Type 0
  AfterStep k closed holds words v = AskBoth r next p' after h' (settled_view k holds (summed closed words (entered_columns
      k v)))

  -- what passes the link by
  passed : (closed holds : Bool) (words : List M) (v : View M) →
      (closed ≡ false → MatchesOn r p next h after Elsewhere None words) → AskBoth r p p' h h' v →
      AfterStep Elsewhere closed holds words v
  passed true holds words v t both u = absurd (never_closed v.phase v.outgoing.mark u.up u.going)
  passed false holds words v t both u =
      let each = both (record { up = u.up; coming = u.coming; going = u.going }) in
      let out = added_behind v.phase v.outgoing.mark words v.outgoing.messages u.up u.going in
      record {
        own = subst (λ ms. Asks r next p' after h' v.other ms v.incoming.messages) (sym out)
            (own_asks r p next p' h after h' v.other Elsewhere None v.outgoing.messages words v.incoming.messages
            v.incoming.messages (λ k. cc) (nothing v.incoming.messages) (t refl) each.own);
        other = subst (λ ms. Asks r p' next h' after v.own v.incoming.messages ms) (sym out)
            (other_asks r p' p next h' h after v.own v.own Elsewhere None v.incoming.messages v.incoming.messages words
            v.outgoing.messages (λ k. cc) (nothing v.incoming.messages) (t refl) (λ x e. absurd (none_heard x e))
            (λ e f. f) each.other);
      }

  -- the Ack
  acked : (closed holds : Bool) (words : List M) (v : View M) → h ≡ Pending → h' ≡ NotHeld →
      v.incoming.messages ≡ [] → v.outgoing.messages ≡ [] →
      (closed ≡ false → MatchesOn r p next h after MakesLink None words) → AfterStep MakesLink closed holds words v
  acked true holds words v pends fresh inc out t u = absurd (never_closed LinkUp v.outgoing.mark u.up u.going)
  acked false holds words v pends fresh inc out t u =
      let is : queued LinkUp v.outgoing.mark words v.outgoing.messages ≡ words =
      added_behind LinkUp v.outgoing.mark words v.outgoing.messages refl u.going ∙ ap (λ ys. ys ++ words) out in
      let turn : MatchesOn r p next Pending after MakesLink None words =
      subst (λ b. MatchesOn r p next b after MakesLink None words) pends (t refl) in
      record {
        own = subst (λ ms. Asks r next p' after h' Fresh ms v.incoming.messages) (sym is)
            (subst (λ ms. Asks r next p' after h' Fresh words ms) (sym inc)
            (subst (λ b. Asks r next p' after b Fresh words []) (sym fresh)
            (acked_asks r p next p' after Fresh MakesLink words refl turn refl)));
        other = subst (λ ms. Asks r p' next h' after Open v.incoming.messages ms) (sym is)
            (subst (λ ms. Asks r p' next h' after Open ms words) (sym inc)
            (subst (λ b. Asks r p' next b after Open [] words) (sym fresh)
            (record {
              made = λ e. cc;
              ends = λ e n f. cc;
              ended = λ e f. cc;
              told = λ e. turn.says e;
            })));
      }

  -- a message from the front
  heard_own : (closed holds : Bool) (words : List M) (v : View M) (x : M) (xs : List M) →
      v.incoming.messages ≡ x ∷ xs → is_unmade h ≡ false →
      (closed ≡ false → MatchesOn r p next h after HeardOnLink (Some x) words) → AskBoth r p p' h h' v →
      AfterStep HeardOnLink closed holds words v
  heard_own true holds words v x xs inc made t both u = absurd (never_closed v.phase v.outgoing.mark u.up u.going)
  heard_own false holds words v x xs inc made t both u =
      let each = both (record { up = u.up; coming = u.coming; going = u.going }) in
      let out = added_behind v.phase v.outgoing.mark words v.outgoing.messages u.up u.going in
      let rest : (entered_columns HeardOnLink v).incoming.messages ≡ xs = ap (λ ys. behind ys) inc in
      record {
        own = subst (λ ms. Asks r next p' after h' v.other ms (behind v.incoming.messages)) (sym out)
            (subst (λ ms. Asks r next p' after h' v.other (v.outgoing.messages ++ words) ms) (sym rest)
            (own_asks r p next p' h after h' v.other HeardOnLink (Some x) v.outgoing.messages words (x ∷ xs) xs
            (λ k. cc) (front x xs) (t refl)
            (subst (λ ms. Asks r p p' h h' v.other v.outgoing.messages ms) inc each.own)));
        other = subst (λ ms. Asks r p' next h' after (own_settled HeardOnLink holds v.own)
            (behind v.incoming.messages) ms) (sym out)
            (subst (λ ms. Asks r p' next h' after (own_settled HeardOnLink holds v.own) ms
            (v.outgoing.messages ++ words)) (sym rest)
            (other_asks r p' p next h' h after v.own (own_settled HeardOnLink holds v.own) HeardOnLink (Some x) (x ∷ xs) xs
            words v.outgoing.messages (λ k. cc) (front x xs) (t refl) (λ y e. made)
            (λ e. absurd (heard_none x e))
            (subst (λ ms. Asks r p' p h' h v.own ms v.outgoing.messages) inc each.other)));
      }
    where
      behind : List M → List M
      behind ys = (entered_columns HeardOnLink (record v { incoming = record v.incoming { messages = ys } })).incoming.messages

  pub step_asks : (k : LinkConcern) (heard : Option M) (closed holds : Bool) (words : List M) (v : View M) →
      IsHanded v h h' k heard → (closed ≡ false → MatchesOn r p next h after k heard words) →
      AskBoth r p p' h h' v → AfterStep k closed holds words v
  step_asks k heard closed holds words v passes t both = passed closed holds words v t both
  step_asks k heard closed holds words v (acks pends fresh inc out) t both =
      acked closed holds words v pends fresh inc out t
  step_asks k heard closed holds words v nacks t both = λ u. absurd (never closed u.up)
    where
      never : (closed : Bool) → phase_after closed LinkCancelled ≡ LinkUp → ⊥
      never true e = cc
      never false e = cc
  step_asks k heard closed holds words v ends t both = λ u. let no_mark = u.coming in cc
  step_asks k heard closed holds words v (hears x xs inc made) t both =
      heard_own closed holds words v x xs inc made t both
