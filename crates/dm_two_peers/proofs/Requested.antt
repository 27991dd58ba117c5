-- What is under way of the exchanges on a link that has no disconnect, as either side's peer takes a step.
use Rattle.std.proofs.Common.{◌≡◌, ◌⊎◌, inl, inr, ℕ, Bool, true, false, ◌||◌, Option, Some, None, List, [], ◌∷◌, ◌++◌}
use Rattle.std.proofs.Common.{refl, sym, ap, subst, ◌∙◌, append-nil}
use Rattle.std.specs.List.{list_any}
use Rattle.dm_machine.specs.Connection.{Hold, NotHeld, Pending, Made, Taken}
use Rattle.dm_two_peers.specs.Machine.{LinkConcern, StartsLink, MakesLink}
use Rattle.dm_two_peers.specs.Links.{End, Fresh}
use Rattle.dm_two_peers.specs.Delivery.{is_closing_hold, is_unmade}
use Rattle.dm_two_peers.specs.Requests.{Requests, IsEnding, Owes, waits, gives, AwaitsEnd, still, asks}
use Rattle.dm_two_peers.specs.Requests.{HeardEnd, MatchesOn}

-- the CER of the number is under way to a fresh end, or waits for its CEA there, or the CEA is in front
pub data Awaits {P M : Type 0} (r : Requests P M) (p' : P) (h' : Hold) (far : End) (out inc : List M)
    (n : ℕ) : Type 0 where
  asked : far ≡ Fresh → h' ≡ NotHeld → (x : M) → out ≡ x ∷ [] → r.is_cer n x ≡ true → inc ≡ [] →
      Awaits r p' h' far out inc n
  kept : h' ≡ Taken → r.cer_of p' ≡ Some n → inc ≡ [] → Awaits r p' h' far out inc n
  given : (x : M) (xs : List M) → inc ≡ x ∷ xs → r.is_cea n x ≡ true → Awaits r p' h' far out inc n

-- what is under way for what the one side awaits of the other
pub record Asks {P M : Type 0} (r : Requests P M) (p p' : P) (h h' : Hold) (far : End) (out inc : List M) : Type 0 where
  pub made : h ≡ Made → (n : ℕ) × ((r.cea_of p ≡ Some n) × Awaits r p' h' far out inc n)
  pub ends : is_closing_hold h ≡ true → (n : ℕ) → r.dpa_of p ≡ Some n →
      (list_any (r.is_dpr n) out ≡ true) ⊎ (list_any (r.is_dpa n) inc ≡ true)
  pub ended : is_closing_hold h ≡ true → r.dpa_of p ≡ None → IsEnding r p' h'
  pub told : list_any r.asks_end inc ≡ true → IsEnding r p' h'

-- what is heard comes from the front
pub data HeardFrom {M : Type 0} : Option M → List M → List M → Type 0 where
  nothing : (xs : List M) → HeardFrom None xs xs
  front : (x : M) (xs : List M) → HeardFrom (Some x) (x ∷ xs) xs

-- one of two lists
or_more : (b c d : Bool) → (c ≡ true → d ≡ true) → (b || c) ≡ true → (b || d) ≡ true
or_more true c d f h = refl
or_more false c d f h = f h

or_right : (b c : Bool) → c ≡ true → (b || c) ≡ true
or_right true c h = refl
or_right false c h = h

or_either : (b c d : Bool) {X : Type 0} → (c ≡ true → (d ≡ true) ⊎ X) → (b || c) ≡ true → ((b || d) ≡ true) ⊎ X
or_either true c d f h = inl refl
or_either false c d f h = f h

or_cases_of : (b c : Bool) → (b || c) ≡ true → (b ≡ true) ⊎ (c ≡ true)
or_cases_of true c h = inl refl
or_cases_of false c h = inr h

any_left : {M : Type 0} (f : M → Bool) (xs ys : List M) → list_any f xs ≡ true → list_any f (xs ++ ys) ≡ true
any_left f [] ys h = cc
any_left f (x ∷ xs) ys h = or_more (f x) (list_any f xs) (list_any f (xs ++ ys)) (λ g. any_left f xs ys g) h

any_right : {M : Type 0} (f : M → Bool) (xs ys : List M) → list_any f ys ≡ true → list_any f (xs ++ ys) ≡ true
any_right f [] ys h = h
any_right f (x ∷ xs) ys h = or_right (f x) (list_any f (xs ++ ys)) (any_right f xs ys h)

any_either : {M : Type 0} (f : M → Bool) (xs ys : List M) → list_any f (xs ++ ys) ≡ true →
    (list_any f xs ≡ true) ⊎ (list_any f ys ≡ true)
any_either f [] ys h = inr h
any_either f (x ∷ xs) ys h =
    or_either (f x) (list_any f (xs ++ ys)) (list_any f xs) (λ g. any_either f xs ys g) h

any_cases : {M : Type 0} (f : M → Bool) (x : M) (xs : List M) → list_any f (x ∷ xs) ≡ true →
    (f x ≡ true) ⊎ (list_any f xs ≡ true)
any_cases f x xs h = or_cases_of (f x) (list_any f xs) h

any_front : {M : Type 0} (f : M → Bool) (x : M) (xs : List M) → (f x ≡ true → ⊥) → list_any f (x ∷ xs) ≡ true →
    list_any f xs ≡ true
any_front f x xs apart h = elim (any_cases f x xs h) [ inl is ↦ absurd (apart is) | inr more ↦ more ]

any_more : {M : Type 0} (f : M → Bool) (x : M) (xs : List M) → list_any f xs ≡ true → list_any f (x ∷ xs) ≡ true
any_more f x xs h = or_right (f x) (list_any f xs) h

any_head : {M : Type 0} (f : M → Bool) (x : M) (xs : List M) → f x ≡ true → list_any f (x ∷ xs) ≡ true
any_head f x xs h = ap (λ b. b || list_any f xs) h

no_front : {M : Type 0} (x : M) (xs : List M) → x ∷ xs ≡ [] → ⊥
no_front x xs h = cc

module _ {P M : Type 0} (r : Requests P M) where
  -- the side that asks takes a step
  own_awaits : (p p' : P) (h' : Hold) (far : End) (out sent inc inc' : List M) (heard : Option M) (n : ℕ) →
      HeardFrom heard inc inc' → sent ≡ [] →
      ((x : M) (k : ℕ) → heard ≡ Some x → r.cea_of p ≡ Some k → r.is_cea k x ≡ true → ⊥) → r.cea_of p ≡ Some n →
      Awaits r p' h' far out inc n → Awaits r p' h' far (out ++ sent) inc' n
  own_awaits p p' h' far out sent inc inc' heard n (nothing xs) silent apart is (asked f u x o c i) =
      asked f u x (ap (λ ys. out ++ ys) silent ∙ (append-nil out ∙ o)) c i
  own_awaits p p' h' far out sent inc inc' heard n (nothing xs) silent apart is (kept t c i) = kept t c i
  own_awaits p p' h' far out sent inc inc' heard n (nothing xs) silent apart is (given x ys i c) = given x ys i c
  own_awaits p p' h' far out sent inc inc' heard n (front y ys) silent apart is (asked f u x o c i) =
      absurd (no_front y ys i)
  own_awaits p p' h' far out sent inc inc' heard n (front y ys) silent apart is (kept t c i) = absurd (no_front y ys i)
  own_awaits p p' h' far out sent inc inc' heard n (front y ys) silent apart is (given x xs i c) =
      let same : x ≡ y = cc i in
      absurd (apart y n refl is (subst (λ z. r.is_cea n z ≡ true) same c))

  kept_ends : (out sent inc inc' : List M) (heard : Option M) (n : ℕ) → HeardFrom heard inc inc' →
      ((x : M) → heard ≡ Some x → r.is_dpa n x ≡ true → ⊥) →
      (list_any (r.is_dpr n) out ≡ true) ⊎ (list_any (r.is_dpa n) inc ≡ true) →
      (list_any (r.is_dpr n) (out ++ sent) ≡ true) ⊎ (list_any (r.is_dpa n) inc' ≡ true)
  kept_ends out sent inc inc' heard n from apart (inl there) = inl (any_left (r.is_dpr n) out sent there)
  kept_ends out sent inc inc' heard n (nothing xs) apart (inr there) = inr there
  kept_ends out sent inc inc' heard n (front x xs) apart (inr there) =
      inr (any_front (r.is_dpa n) x xs (apart x refl) there)

  own_ends : (p : P) (h : Hold) (out sent inc inc' : List M) (heard : Option M) (n : ℕ) →
      HeardFrom heard inc inc' → AwaitsEnd r p h heard sent n →
      (is_closing_hold h ≡ true → r.dpa_of p ≡ Some n →
      (list_any (r.is_dpr n) out ≡ true) ⊎ (list_any (r.is_dpa n) inc ≡ true)) →
      (list_any (r.is_dpr n) (out ++ sent) ≡ true) ⊎ (list_any (r.is_dpa n) inc' ≡ true)
  own_ends p h out sent inc inc' heard n from (asks there) old = inl (any_right (r.is_dpr n) out sent there)
  own_ends p h out sent inc inc' heard n from (still closing is apart) old =
      kept_ends out sent inc inc' heard n from apart (old closing is)

  heard_told : (p' : P) (h' : Hold) (inc inc' : List M) (heard : Option M) → HeardFrom heard inc inc' →
      (list_any r.asks_end inc ≡ true → IsEnding r p' h') → HeardEnd r heard → IsEnding r p' h'
  heard_told p' h' inc inc' heard (nothing xs) told h = let no = h.came in cc
  heard_told p' h' inc inc' heard (front x xs) told h =
      let same : x ≡ h.message = cc h.came in
      told (any_head r.asks_end x xs (subst (λ z. r.asks_end z ≡ true) (sym same) h.ends))

  later_told : (inc inc' : List M) (heard : Option M) → HeardFrom heard inc inc' →
      list_any r.asks_end inc' ≡ true → list_any r.asks_end inc ≡ true
  later_told inc inc' heard (nothing xs) h = h
  later_told inc inc' heard (front x xs) h = any_more r.asks_end x xs h

  -- the rest of what is kept, whatever is made
  own_rest : (p next p' : P) (h after h' : Hold) (far far' : End) (k : LinkConcern) (heard : Option M)
      (out sent inc inc' : List M) → HeardFrom heard inc inc' → MatchesOn r p next h after k heard sent →
      Asks r p p' h h' far out inc →
      (after ≡ Made → (n : ℕ) × ((r.cea_of next ≡ Some n) × Awaits r p' h' far' (out ++ sent) inc' n)) →
      Asks r next p' after h' far' (out ++ sent) inc'
  own_rest p next p' h after h' far far' k heard out sent inc inc' from t old made =
      record {
        made = made;
        ends = λ closing n is. own_ends p h out sent inc inc' heard n from (t.ends closing n is)
            (λ c i. old.ends c n i);
        ended = λ closing is. elim (t.ended closing is) [
          | inl before ↦ old.ended before.0 before.1
          | inr heard_end ↦ heard_told p' h' inc inc' heard from old.told heard_end
        ];
        told = λ h. old.told (later_told inc inc' heard from h);
      }

  pub own_asks : (p next p' : P) (h after h' : Hold) (far : End) (k : LinkConcern) (heard : Option M)
      (out sent inc inc' : List M) → (k ≡ MakesLink → ⊥) → HeardFrom heard inc inc' →
      MatchesOn r p next h after k heard sent → Asks r p p' h h' far out inc →
      Asks r next p' after h' far (out ++ sent) inc'
  own_asks p next p' h after h' far k heard out sent inc inc' no_ack from t old =
      own_rest p next p' h after h' far far k heard out sent inc inc' from t old (λ is.
      let a = t.awaits (λ b. no_ack) is in
      let was = old.made a.made in (
        was.0,
        (
          a.number ∙ was.1.0,
          own_awaits p p' h' far out sent inc inc' heard was.0 from a.silent a.apart was.1.0 was.1.1,
        ),
      ))

  -- the Ack: the CER is all that is under way
  pub acked_asks : (p next p' : P) (after : Hold) (far : End) (k : LinkConcern) (sent : List M) → k ≡ MakesLink →
      MatchesOn r p next Pending after k None sent → far ≡ Fresh → Asks r next p' after NotHeld far sent []
  acked_asks p next p' after far k sent ack t fresh =
      own_rest p next p' Pending after NotHeld far far k None [] sent [] [] (nothing [])
      t (record { made = λ is. cc; ends = λ is n a. cc; ended = λ is a. cc; told = λ is. cc }) (λ is.
      let a = t.asks refl ack is in
      (a.number, (a.awaited, asked fresh refl a.cer a.sends a.is refl)))

  -- the side that is asked takes a step
  owed : (next : P) (after : Hold) (far' : End) (out' sent inc : List M) (n : ℕ) → inc ≡ [] →
      Owes r next after sent n → Awaits r next after far' out' (inc ++ sent) n
  owed next after far' out' sent inc n none (waits taken is silent) =
      kept taken is (ap (λ ys. ys ++ sent) none ∙ silent)
  owed next after far' out' sent inc n none (gives y sends is) = given y [] (ap (λ ys. ys ++ sent) none ∙ sends) is

  other_awaits : (p' next : P) (h' after : Hold) (far far' : End) (k : LinkConcern) (heard : Option M)
      (out out' sent inc : List M) (n : ℕ) → (k ≡ StartsLink → ⊥) → HeardFrom heard out out' →
      MatchesOn r p' next h' after k heard sent → (heard ≡ None → far ≡ Fresh → far' ≡ Fresh) →
      Awaits r p' h' far out inc n → Awaits r next after far' out' (inc ++ sent) n
  other_awaits p' next h' after far far' k heard out out' sent inc n no_start (nothing xs) t fresh (asked f u x o c i) =
      let rest = t.rests u refl no_start in
      asked (fresh refl f) rest.0 x o c (ap (λ ys. inc ++ ys) rest.1 ∙ (append-nil inc ∙ i))
  other_awaits p' next h' after far far' k heard out out' sent inc n no_start (front y ys) t fresh (asked f u x o c i) =
      let same : x ≡ y = cc o in
      owed next after far' out' sent inc n i (t.takes u y n refl (subst (λ z. r.is_cer n z ≡ true) same c))
  other_awaits p' next h' after far far' k heard out out' sent inc n no_start from t fresh (kept u c i) =
      owed next after far' out' sent inc n i (t.owes u n c)
  other_awaits p' next h' after far far' k heard out out' sent inc n no_start from t fresh (given x xs i c) =
      given x (xs ++ sent) (ap (λ ys. ys ++ sent) i) c

  still_ending : (p' next : P) (h' after : Hold) (k : LinkConcern) (heard : Option M) (sent : List M) →
      MatchesOn r p' next h' after k heard sent → IsEnding r p' h' → IsEnding r next after
  still_ending p' next h' after k heard sent t e =
      let stays = t.stays e.closing e.number e.awaited in
      record { closing = stays.0; number = e.number; awaited = stays.1 }

  other_ends : (p' next : P) (h' after : Hold) (k : LinkConcern) (heard : Option M) (out out' sent inc : List M) (n : ℕ) →
      HeardFrom heard out out' → MatchesOn r p' next h' after k heard sent →
      ((x : M) → heard ≡ Some x → is_unmade h' ≡ false) →
      (list_any (r.is_dpr n) out ≡ true) ⊎ (list_any (r.is_dpa n) inc ≡ true) →
      (list_any (r.is_dpr n) out' ≡ true) ⊎ (list_any (r.is_dpa n) (inc ++ sent) ≡ true)
  other_ends p' next h' after k heard out out' sent inc n from t made (inr there) =
      inr (any_left (r.is_dpa n) inc sent there)
  other_ends p' next h' after k heard out out' sent inc n (nothing xs) t made (inl there) = inl there
  other_ends p' next h' after k heard out out' sent inc n (front x xs) t made (inl there) =
      elim (any_cases (r.is_dpr n) x xs there) [
        | inl is ↦ inr (any_right (r.is_dpa n) inc sent (t.answers x n refl (made x refl) is))
        | inr more ↦ inl more
      ]

  pub other_asks : (p p' next : P) (h h' after : Hold) (far far' : End) (k : LinkConcern) (heard : Option M)
      (out out' sent inc : List M) → (k ≡ StartsLink → ⊥) → HeardFrom heard out out' →
      MatchesOn r p' next h' after k heard sent → ((x : M) → heard ≡ Some x → is_unmade h' ≡ false) →
      (heard ≡ None → far ≡ Fresh → far' ≡ Fresh) →
      Asks r p p' h h' far out inc → Asks r p next h after far' out' (inc ++ sent)
  other_asks p p' next h h' after far far' k heard out out' sent inc no_start from t made fresh old =
      record {
        made = λ is.
            let was = old.made is in (
              was.0,
              (
                was.1.0,
                other_awaits p' next h' after far far' k heard out out' sent inc was.0 no_start from t fresh was.1.1,
              ),
            );
        ends = λ closing n is. other_ends p' next h' after k heard out out' sent inc n from t made
            (old.ends closing n is);
        ended = λ closing is. still_ending p' next h' after k heard sent t (old.ended closing is);
        told = λ g. elim (any_either r.asks_end inc sent g) [
          | inl there ↦ still_ending p' next h' after k heard sent t (old.told there)
          | inr there ↦ t.says there
        ];
      }
