-- Whose the connections are after one neighbour changed.
use Rattle.std.proofs.Common.{◌≡◌, ℕ, Bool, Bor, true, false, true≢false, ◌||◌, cond, if◌then◌else◌, List, [], ◌∷◌, ◌++◌, Option, None, Some, IsSome, IfSome, IfNone, refl, sym, ap, subst, ◌∙◌, inl, inr}
use Rattle.std.proofs.lemmas.Bool.{cases_eq, eq-eqb, false_from_ne_true, or_left, or_right}
use Rattle.dm_machine.specs.declared.connection.Conn.{Conn}
use Rattle.dm_machine.specs.Moves.{is_open}
use Rattle.dm_peer.specs.After.{fresh_standing}
use Rattle.dm_peer.specs.declared.peer.Peer.{Peer}
use Rattle.dm_peer.specs.Places.{is_on}
use Rattle.dm_slots.specs.Held.{Owners, owned_by, disowned_by}
use Rattle.dm_slots.specs.Intakes.{is_conn_number}
use Rattle.dm_node.specs.declared.owners.Holding.{Holding}
use Rattle.dm_node.specs.Holding.{peer_at, holds_it, holds_at, AreApart}
use Rattle.dm_node.specs.Neighbourhoods.{IsNeighbourhood}
use Rattle.dm_node.specs.NodeKnown.{peer_state}
use Rattle.dm_node.specs.NodeStates.{concerned_in}
use Rattle.dm_node.specs.Owning.{has, owned_after, AreOwned, IsResettled, IsReowned}
use Rattle.dm_node.specs.Policies.{Policy}
use Rattle.dm_node.specs.Telling.{IsFree, IsHolder, IsWhose}
use Rattle.dm_node.specs.declared.events.NodeEvent.TheVariants as event
use Rattle.dm_node.proofs.Growing.{still}
use Rattle.dm_node.proofs.Places.{kept_at}
use Rattle.dm_node.proofs.Basics.{one_some, no_some, two_truths}

there_it : (c : Conn) (o : Option Peer) → holds_it c o ≡ true → IsSome o
there_it c None h = cc
there_it c (Some p) h = refl

-- who holds a connection is there
pub holder_there : (ps : List (Option Peer)) (c : Conn) (i : ℕ) → holds_at ps c i ≡ true → IsSome (peer_at ps i)
holder_there ps c i h = there_it c (peer_at ps i) h

-- the owner is there, and holds it
pub owner_there : (ps : List (Option Peer)) (f : Owners) (c : Conn) (r : Option ℕ) → r ≡ f c.0 → AreOwned f ps →
    IfSome r (λ i. IsSome (peer_at ps i))
owner_there ps f c None is owned = tt
owner_there ps f c (Some i) is owned = holder_there ps c i (owned.holds c i (sym is))

pub owner_holds : (ps : List (Option Peer)) (f : Owners) (c : Conn) (r : Option ℕ) → r ≡ f c.0 → AreOwned f ps →
    IfSome r (λ i. holds_at ps c i ≡ true)
owner_holds ps f c None is owned = tt
owner_holds ps f c (Some i) is owned = owned.holds c i (sym is)

-- and where there is none nobody does
pub unowned_free : (ps : List (Option Peer)) (f : Owners) (c : Conn) (r : Option ℕ) → r ≡ f c.0 → AreOwned f ps →
    IfNone r ((j : ℕ) → holds_at ps c j ≡ false)
unowned_free ps f c (Some i) is owned = tt
unowned_free ps f c None is owned = λ j.
    false_from_ne_true (holds_at ps c j) (λ held. no_some _ (is ∙ owned.owned c j held))

-- what comes on a connection is for the neighbour that holds it, where that is open
pub whose_holder : (policy : Policy) (ps : List (Option Peer)) (c : Conn) (octets : Bor (List ℕ)) (holder : Option ℕ) →
    IsNeighbourhood ps → IsHolder ps c holder → is_open (peer_state (concerned_in ps holder)) ≡ true →
    IsWhose policy ps (event.Arrived c octets) holder
whose_holder policy ps c octets None apart is stood = absurd (true≢false (sym stood))
whose_holder policy ps c octets (Some i) apart is stood = record {
  there = holder_there ps c i is.found;
  concerned = inl is.found;
  nobody = tt;
  alone = λ j d names held.
      apart.apart.one j i c (subst (λ x. holds_at ps x j ≡ true) (sym (one_some c d names)) held) is.found;
}

module _ (ps qs : List (Option Peer)) (i : ℕ) (before after : Holding) (f : Owners) (apart : AreApart qs)
    (settled : IsResettled ps qs i before) (holds : (c : Conn) → has after c ≡ holds_at qs c i) (owned : AreOwned f ps)
    (c : Conn) (j : ℕ) where
  -- the owner is the holder
  found_holds : (h b : Bool) → has after c ≡ h → has before c ≡ b
      → (if h then Some i else (if b then None else f c.0)) ≡ Some j → holds_at qs c j ≡ true
  found_holds true b p q e = subst (λ n. holds_at qs c n ≡ true) (one_some _ _ e) (sym (holds c) ∙ p)
  found_holds false true p q e = no_some _ e
  found_holds false false p q e =
      let held : holds_at ps c j ≡ true = owned.holds c j e in
      elim (cases_eq j i) [
        | inl s ↦ absurd (two_truths (has before c)
            (settled.held c ∙ subst (λ n. holds_at ps c n ≡ true) s held) q)
        | inr un ↦ subst (λ x. holds_it c x ≡ true) (sym (settled.others j un)) held
      ]

  here_owned : j ≡ i → holds_at qs c j ≡ true → (h : Bool) → has after c ≡ h
      → (z : Option ℕ) → (if h then Some i else z) ≡ Some j
  here_owned s held true p z = ap Some (sym s)
  here_owned s held false p z =
      absurd (two_truths (has after c) (holds c ∙ subst (λ n. holds_at qs c n ≡ true) s held) p)

  there_owned : (j ≡ i → ⊥) → holds_at qs c j ≡ true → (h b : Bool) → has after c ≡ h → has before c ≡ b
      → (if h then Some i else (if b then None else f c.0)) ≡ Some j
  there_owned un held true b p q = absurd (un (apart.one j i c held (sym (holds c) ∙ p)))
  there_owned un held false true p q =
      let was : holds_at ps c j ≡ true = subst (λ x. holds_it c x ≡ true) (settled.others j un) held in
      absurd (un (one_some _ _ (sym (owned.owned c j was) ∙ owned.owned c i (sym (settled.held c) ∙ q))))
  there_owned un held false false p q =
      owned.owned c j (subst (λ x. holds_it c x ≡ true) (settled.others j un) held)

  -- the holder is the owner
  held_owned : holds_at qs c j ≡ true → (h b : Bool) → has after c ≡ h → has before c ≡ b
      → (if h then Some i else (if b then None else f c.0)) ≡ Some j
  held_owned held h b p q =
      elim (cases_eq j i) [
        | inl s ↦ here_owned s held h p _
        | inr un ↦ there_owned un held h b p q
      ]

-- what was held is nobody's, and what is held is its holder's
pub changed : (ps qs : List (Option Peer)) (i : ℕ) (before after : Holding) (f g : Owners) → AreApart qs →
    IsResettled ps qs i before → ((c : Conn) → has after c ≡ holds_at qs c i) → AreOwned f ps →
    ((c : Conn) → g c.0 ≡ owned_after f before after i c) → AreOwned g qs
changed ps qs i before after f g apart settled holds owned is = record {
  holds = λ c j e. found_holds ps qs i before after f apart settled holds owned c j (has after c)
      (has before c) refl refl (sym (is c) ∙ e);
  owned = λ c j held. is c ∙ held_owned ps qs i before after f apart settled holds owned c j held
      (has after c) (has before c) refl refl;
}

was_owned : (ps : List (Option Peer)) (i : ℕ) (f : Owners) (c : Conn) → AreOwned f ps → (h : Bool) →
    holds_at ps c i ≡ h → f c.0 ≡ (if h then Some i else (if h then None else f c.0))
was_owned ps i f c owned true p = owned.owned c i p
was_owned ps i f c owned false p = refl

-- what is held is what was held
pub held_as_before : (ps qs : List (Option Peer)) (who : Option ℕ) (before : Holding) (f : Owners) → AreApart qs →
    IsReowned ps qs who before → ((c : Conn) → has before c ≡ holds_it c (concerned_in qs who)) → AreOwned f ps →
    AreOwned f qs
held_as_before ps qs None before f apart is same owned = subst (AreOwned f) (sym is) owned
held_as_before ps qs (Some i) before f apart settled same owned =
    changed ps qs i before before f f apart settled same owned
    (λ c. subst (λ b. f c.0 ≡ (if b then Some i else (if b then None else f c.0)))
    (sym (settled.held c)) (was_owned ps i f c owned (holds_at ps c i) refl))

pub unchanged : (ps qs : List (Option Peer)) (i : ℕ) (before after : Holding) (f g : Owners) → AreApart qs →
    IsResettled ps qs i before → ((c : Conn) → has after c ≡ holds_at qs c i) → before ≡ after → AreOwned f ps →
    g ≡ f → AreOwned g qs
unchanged ps qs i before after f g apart settled holds same owned is =
    subst (λ h. AreOwned h qs) (sym is)
    (held_as_before ps qs (Some i) before f apart settled
    (subst (λ h. (c : Conn) → has h c ≡ holds_at qs c i) (sym same) holds) owned)

-- a neighbour that holds nothing behind it
pub emptied : (ps qs : List (Option Peer)) (i : ℕ) (before : Holding) (f g : Owners) → AreApart qs →
    IsResettled ps qs i before → ((c : Conn) → holds_at qs c i ≡ false) → AreOwned f ps →
    ((c : Conn) → g c.0 ≡ (if has before c then None else f c.0)) → AreOwned g qs
emptied ps qs i before f g apart settled free owned is =
    changed ps qs i before (record { initiated = None; accepted = None }) f g apart settled
    (λ c. sym (free c)) owned is

-- nobody holds anything, and nothing is anybody's
pub none_owned : (ps : List (Option Peer)) (f : Owners) → ((c : Conn) (i : ℕ) → holds_at ps c i ≡ false) →
    ((c : ℕ) → f c ≡ None) → AreOwned f ps
none_owned ps f free none = record {
  holds = λ c i e. no_some _ (sym (none c.0) ∙ e);
  owned = λ c i held. absurd (two_truths (holds_at ps c i) held (free c i));
}

-- what nobody holds goes
was_else : (b : Bool) (i : ℕ) (o : Option ℕ) → (if b then None else o) ≡ Some i → o ≡ Some i
was_else true i o e = no_some _ e
was_else false i o e = e

pub owned_less : (ps : List (Option Peer)) (f g : Owners) (goes : ℕ → Bool) → AreOwned f ps →
    ((c : Conn) → goes c.0 ≡ true → IsFree ps c) → ((c : ℕ) → g c ≡ (if goes c then None else f c)) → AreOwned g ps
owned_less ps f g goes owned free is = record {
  holds = λ c i e. owned.holds c i (was_else (goes c.0) i (f c.0) (sym (is c.0) ∙ e));
  owned = λ c i held. is c.0 ∙ stays c i held (goes c.0) refl;
} where
  stays : (c : Conn) (i : ℕ) → holds_at ps c i ≡ true → (b : Bool) → goes c.0 ≡ b → (if b then None else f c.0) ≡ Some i
  stays c i held true e = absurd (two_truths (holds_at ps c i) held (free c e i))
  stays c i held false e = owned.owned c i held

-- one more, that holds nothing
pub owned_grown : (ps : List (Option Peer)) (y : Peer) (n : ℕ) (f : Owners) → y.standing ≡ fresh_standing n →
    AreOwned f ps → AreOwned f (ps ++ Some y ∷ [])
owned_grown ps y n f is owned = record {
  holds = λ c i e.
      subst (λ x. holds_it c x ≡ true)
      (sym (kept_at ps (Some y) i (holder_there ps c i (owned.holds c i e)))) (owned.holds c i e);
  owned = λ c i h. owned.owned c i (still ps y n c i is h);
}

-- What one change of owners comes to.

pub on_is : (o : Option Conn) (c : Conn) → is_conn_number c.0 o ≡ is_on o c
on_is None c = refl
on_is (Some d) c = refl

pub has_accepted : (held : Holding) (c : Conn) → held.accepted ≡ Some c → has held c ≡ true
has_accepted held c is =
    or_right (is_on held.initiated c) (is_on held.accepted c) (ap (λ o. is_on o c) is ∙ eq-eqb c.0 c.0 refl)

pub has_initiated : (held : Holding) (c : Conn) → held.initiated ≡ Some c → has held c ≡ true
has_initiated held c is =
    or_left (is_on held.initiated c) (is_on held.accepted c) (ap (λ o. is_on o c) is ∙ eq-eqb c.0 c.0 refl)

-- what is gone where it is the one or the other
pub two : {A : Type 0} (bi ba : Bool) (x : Option A) → cond ba None (cond bi None x) ≡ (if bi || ba then None else x)
two true true x = refl
two true false x = refl
two false true x = refl
two false false x = refl

four : (ai aa bi ba : Bool) (n : ℕ) (x : Option ℕ) →
    cond aa (Some n) (cond ai (Some n) (cond ba None (cond bi None x)))
    ≡ (if ai || aa then Some n else (if bi || ba then None else x))
four true true bi ba n x = refl
four true false bi ba n x = refl
four false true bi ba n x = refl
four false false bi ba n x = two bi ba x

pub change_at : (before after : Holding) (n : ℕ) (f : Owners) (c : Conn) →
    owned_by after.accepted n
    (owned_by after.initiated n (disowned_by before.accepted (disowned_by before.initiated f))) c.0
    ≡ owned_after f before after n c
change_at before after n f c =
    let ai = is_conn_number c.0 after.initiated in
    let aa = is_conn_number c.0 after.accepted in
    let bi = is_conn_number c.0 before.initiated in
    let ba = is_conn_number c.0 before.accepted in
    four ai aa bi ba n (f c.0)
    ∙ ap (λ b. if b || aa then Some n else (if bi || ba then None else f c.0)) (on_is after.initiated c)
    ∙ ap (λ b. if is_on after.initiated c || b then Some n else (if bi || ba then None else f c.0)) (on_is after.accepted c)
    ∙ ap (λ b. if has after c then Some n else (if b || ba then None else f c.0)) (on_is before.initiated c)
    ∙ ap (λ b. if has after c then Some n else (if is_on before.initiated c || b then None else f c.0))
    (on_is before.accepted c)
