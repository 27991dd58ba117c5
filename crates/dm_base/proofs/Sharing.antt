-- Applications in common, as tests and as facts.
use Rattle.std.proofs.Common.{◌≡◌, ◌↔◌, ◌⊎◌, inl, inr, ℕ, Bool, true, false, ◌||◌, nat_eq, List, [], ◌∷◌, ◌++◌, length, refl, sym, ◌∙◌, ap, arith, eqb-true, eq-eqb}
use Rattle.std.specs.List.{list_any, Contains}
use Rattle.std.proofs.lemmas.Bool.{ne_eqb}
use Rattle.std.proofs.lemmas.List.Folds.{list_any-append, list_any_at}
use Rattle.std.proofs.lemmas.Map.Views.{Contains-from_any}
use Rattle.dm_base.specs.Built.{own_caps}
use Rattle.dm_base.specs.Extra.{specific_ids, own_ids}
use Rattle.dm_base.specs.Codes.{relay, no_inband_security}
use Rattle.dm_base.specs.declared.kind.Caps.{Caps}
use Rattle.dm_base.specs.declared.node.Node.{Node}
use Rattle.dm_base.specs.Common.{lists_id, is_own, is_relay, meets, is_common, are_common, are_secure, Share}

either : (a b : Bool) → (a || b) ≡ true → (a ≡ true) ⊎ (b ≡ true)
either true b h = inl refl
either false b h = inr h

left : (a b : Bool) → a ≡ true → (a || b) ≡ true
left a b h = rw h refl

right : (a b : Bool) → b ≡ true → (a || b) ≡ true
right true b h = refl
right false b h = h

pub contained : (l : List ℕ) (id : ℕ) → lists_id l id ≡ true → Contains l id
contained l id h = Contains-from_any {eq = λ q other. nat_eq other q} (λ x y e. sym (eqb-true y x e)) id l h

pub held : (l : List ℕ) (id : ℕ) → Contains l id → lists_id l id ≡ true
held l id h = list_any_at (λ other. nat_eq other id) l h.0 id h.1 (eq-eqb _ id h.2)

-- an id that passes the test
found : (p : ℕ → Bool) (l : List ℕ) → list_any p l ≡ true → (id : ℕ) × (lists_id l id ≡ true) × (p id ≡ true)
found p [] h = absurd (cc)
found p (y ∷ l) h = by (either (p y) (list_any p l) h) (λ e. found p l e) where
  by : (p y ≡ true) ⊎ (list_any p l ≡ true)
      → (list_any p l ≡ true → (id : ℕ) × (lists_id l id ≡ true) × (p id ≡ true))
      → (id : ℕ) × (lists_id (y ∷ l) id ≡ true) × (p id ≡ true)
  by (inl e) behind = (y, left (nat_eq y y) (lists_id l y) (eq-eqb y y refl), e)
  by (inr e) behind = let (id, in_l, passes) = behind e in (id, right (nat_eq y id) (lists_id l id) in_l, passes)

passing : (p : ℕ → Bool) (l : List ℕ) (id : ℕ) → lists_id l id ≡ true → p id ≡ true → list_any p l ≡ true
passing p [] id h e = absurd (cc)
passing p (y ∷ l) id h e = by (either (nat_eq y id) (lists_id l id) h) (λ k. passing p l id k e) where
  by : (nat_eq y id ≡ true) ⊎ (lists_id l id ≡ true) → (lists_id l id ≡ true → list_any p l ≡ true)
      → list_any p (y ∷ l) ≡ true
  by (inl k) behind = left (p y) (list_any p l) (ap p (eqb-true y id k) ∙ e)
  by (inr k) behind = right (p y) (list_any p l) (behind k)

or_assoc : (a b c : Bool) → ((a || b) || c) ≡ (a || (b || c))
or_assoc true b c = refl
or_assoc false b c = refl

-- an id is in one of three lists
held_in : (one two three : List ℕ) (id : ℕ)
    → (lists_id one id || lists_id two id || lists_id three id) ≡ lists_id (one ++ (two ++ three)) id
held_in one two three id =
    or_assoc (lists_id one id) (lists_id two id) (lists_id three id)
    ∙ ap (λ (b : Bool). lists_id one id || b) (sym (list_any-append (λ other. nat_eq other id) two three))
    ∙ sym (list_any-append (λ other. nat_eq other id) one (two ++ three))

-- the id is an own one, or a relay's
own_is : (auth acct specific : List ℕ) (id : ℕ)
    → is_own auth acct specific id ≡ (nat_eq id relay || lists_id (auth ++ (acct ++ specific)) id)
own_is auth acct specific id =
    ap (λ (b : Bool). b || lists_id specific id) (or_assoc (nat_eq id relay) (lists_id auth id) (lists_id acct id))
    ∙ or_assoc (nat_eq id relay) (lists_id auth id || lists_id acct id) (lists_id specific id)
    ∙ ap (λ (b : Bool). nat_eq id relay || b) (held_in auth acct specific id)

relay_is : (n : Node) → is_relay n ≡ lists_id (own_ids n) relay
relay_is n = held_in n.auth n.acct (specific_ids n) relay

-- ids of the other side of which one is met share one with the node
met : (n : Node) (theirs : List ℕ) → meets n theirs ≡ true → Share theirs (own_ids n)
met n theirs h =
    let (id, there, own) = found (is_own n.auth n.acct (specific_ids n)) theirs h in
    by id there (either (nat_eq id relay) (lists_id (own_ids n) id) (sym (own_is n.auth n.acct (specific_ids n) id) ∙ own))
  where
    by : (id : ℕ) → lists_id theirs id ≡ true → (nat_eq id relay ≡ true) ⊎ (lists_id (own_ids n) id ≡ true)
        → Share theirs (own_ids n)
    by id there (inl e) = inl (contained theirs relay (ap (lists_id theirs) (sym (eqb-true id relay e)) ∙ there))
    by id there (inr e) = inr (inr (id, contained theirs id there, contained (own_ids n) id e))

is_met : (n : Node) (theirs : List ℕ) (id : ℕ) → lists_id theirs id ≡ true
    → (nat_eq id relay || lists_id (own_ids n) id) ≡ true → meets n theirs ≡ true
is_met n theirs id there own = passing (is_own n.auth n.acct (specific_ids n)) theirs id there (own_is n.auth n.acct (specific_ids n) id ∙ own)

-- what a node shares with ids, by both tests
pub shared : (n : Node) (theirs : List ℕ) → ((is_relay n || meets n theirs) ≡ true) ↔ Share theirs (own_ids n)
shared n theirs = (λ h. there (either (is_relay n) (meets n theirs) h), λ s. back s) where
  there : (is_relay n ≡ true) ⊎ (meets n theirs ≡ true) → Share theirs (own_ids n)
  there (inl e) = inr (inl (contained (own_ids n) relay (sym (relay_is n) ∙ e)))
  there (inr e) = met n theirs e

  back : Share theirs (own_ids n) → (is_relay n || meets n theirs) ≡ true
  back (inl s) = right (is_relay n) (meets n theirs) (is_met n theirs relay (held theirs relay s) refl)
  back (inr (inl s)) = left (is_relay n) (meets n theirs) (relay_is n ∙ held (own_ids n) relay s)
  back (inr (inr s)) =
      right (is_relay n) (meets n theirs)
      (is_met n theirs s.0 (held theirs s.0 s.1)
      (right (nat_eq s.0 relay) (lists_id (own_ids n) s.0) (held (own_ids n) s.0 s.2)))

pub common_shared : (c : Caps) (n : Node) → (is_common c n ≡ true) ↔ Share c.applications (own_ids n)
common_shared c n = shared n c.applications

-- the other node's relay is one of its ids
less : (r q a b c : Bool) → (q ≡ true → (a || b || c) ≡ true)
    → ((r || q || a || b || c) ≡ true) ↔ ((r || (a || b || c)) ≡ true)
less true q a b c h = (λ e. refl, λ e. refl)
less false true a b c h = (λ e. h refl, λ e. refl)
less false false a b c h = (λ e. e, λ e. e)

pub nodes_share : (n m : Node) → (are_common n m ≡ true) ↔ Share (own_ids m) (own_ids n)
nodes_share n m =
    let test = is_own n.auth n.acct (specific_ids n) in
    let whole : meets n (own_ids m) ≡ (meets n m.auth || meets n m.acct || meets n (specific_ids m)) =
    list_any-append test m.auth (m.acct ++ specific_ids m)
    ∙ ap (λ (b : Bool). meets n m.auth || b) (list_any-append test m.acct (specific_ids m))
    ∙ sym (or_assoc (meets n m.auth) (meets n m.acct) (meets n (specific_ids m))) in
    let one = less (is_relay n) (is_relay m) (meets n m.auth) (meets n m.acct) (meets n (specific_ids m))
    (λ e. sym whole ∙ is_met n (own_ids m) relay (sym (relay_is m) ∙ e) refl) in
    let other = shared n (own_ids m) in (
      λ h. other.0 (ap (λ (b : Bool). is_relay n || b) whole ∙ one.0 h),
      λ s. one.1 (ap (λ (b : Bool). is_relay n || b) (sym whole) ∙ other.1 s),
    )

-- who shares with whom doesn't matter
turned : (ids others : List ℕ) → Share ids others → Share others ids
turned ids others (inl s) = inr (inl s)
turned ids others (inr (inl s)) = inl s
turned ids others (inr (inr s)) = inr (inr (s.0, s.2, s.1))

-- two tests that pass together are one
same_test : (a b : Bool) → (a ≡ true → b ≡ true) → (b ≡ true → a ≡ true) → a ≡ b
same_test true b h g = sym (h refl)
same_test false true h g = g refl
same_test false false h g = refl

pub own_common : (n m : Node) → is_common (own_caps n) m ≡ are_common n m
own_common n m =
    let caps = common_shared (own_caps n) m in
    let nodes = nodes_share n m in
    same_test (is_common (own_caps n) m) (are_common n m)
    (λ h. nodes.1 (turned (own_ids n) (own_ids m) (caps.0 h)))
    (λ h. caps.1 (turned (own_ids m) (own_ids n) (nodes.0 h)))

pub common_both : (n m : Node) → are_common n m ≡ are_common m n
common_both n m =
    let one = nodes_share n m in
    let other = nodes_share m n in
    same_test (are_common n m) (are_common m n)
    (λ h. other.1 (turned (own_ids m) (own_ids n) (one.0 h)))
    (λ h. one.1 (turned (own_ids n) (own_ids m) (other.0 h)))

pub secure_none : (ids : List ℕ) → (are_secure ids ≡ true) ↔ ((ids ≡ []) ⊎ Contains ids no_inband_security)
secure_none [] = (λ h. inl refl, λ s. refl)
secure_none (id ∷ ids) =
    let some : nat_eq (length (id ∷ ids)) 0 ≡ false = ne_eqb (length (id ∷ ids)) 0 (λ k. omega arith) in
    let is : are_secure (id ∷ ids) ≡ lists_id (id ∷ ids) no_inband_security =
    ap (λ (b : Bool). b || lists_id (id ∷ ids) no_inband_security) some in
    (λ h. inr (contained (id ∷ ids) no_inband_security (sym is ∙ h)), λ s. is ∙ back s)
  where
    back : (id ∷ ids ≡ []) ⊎ Contains (id ∷ ids) no_inband_security → lists_id (id ∷ ids) no_inband_security ≡ true
    back (inl e) = absurd (cc)
    back (inr s) = held (id ∷ ids) no_inband_security s

-- the same of what is one with the test
pub secure_by : (ids : List ℕ) (b : Bool) → b ≡ are_secure ids →
    (b ≡ true) ↔ ((ids ≡ []) ⊎ Contains ids no_inband_security)
secure_by ids b e = rw e (secure_none ids)
