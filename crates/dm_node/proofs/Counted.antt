-- How many neighbours there are, where one was added, went, was told something or was set back.
use Rattle.std.proofs.Common.{◌≡◌, ◌≤◌, ◌<◌, ◌+◌, ℕ, zero, suc, cond, List, [], ◌∷◌, ◌++◌, length, Option, None, Some, IsSome, IfSome, IfNone, is_some, option_map, refl, sym, ap, ◌∙◌, arith}
use Rattle.std.proofs.Math.ListN.{set}
use Rattle.std.proofs.lemmas.List.Sums.{count_by-le-length, sum_by-cons, sum_by_push}
use Rattle.dm_peer.specs.declared.peer.Peer.{Peer}
use Rattle.dm_node.specs.Emptying.{set_back, without_peer, with_set_back, all_set_back}
use Rattle.dm_node.specs.Holding.{peer_at}
use Rattle.dm_node.specs.Strangers.{present}
use Rattle.dm_node.proofs.Basics.{there_mapped}
use Rattle.dm_node.proofs.Places.{longer}

-- one where somebody is
abbrev one : Option Peer → ℕ
one o = cond (is_some o) 1 0

first : (x : Option Peer) (xs : List (Option Peer)) → present (x ∷ xs) ≡ one x + present xs
first x xs = sum_by-cons one x xs

first_some : (x : Peer) (xs : List (Option Peer)) → present (Some x ∷ xs) ≡ suc (present xs)
first_some x xs = let h = sum_by-cons one (Some x) xs in h ∙ omega arith

first_none : (xs : List (Option Peer)) → present (None ∷ xs) ≡ present xs
first_none xs = let h = sum_by-cons one None xs in h ∙ omega arith

-- one more
pub present_put : (ps : List (Option Peer)) (y : Peer) → present (ps ++ Some y ∷ []) ≡ suc (present ps)
present_put ps y = let pushed = sum_by_push one ps (Some y) in pushed ∙ omega arith

-- no more than there are places
pub present_few : (ps : List (Option Peer)) → present ps ≤ length ps
present_few ps = count_by-le-length is_some ps

pub room_for : (ps qs : List (Option Peer)) (y : Peer) (n : ℕ) → n ≡ present ps → qs ≡ ps ++ Some y ∷ [] →
    n < length qs
room_for ps qs y n is grown =
    let few = present_few ps in
    let long = ap length grown ∙ longer ps (Some y) in
    omega (arith, is, few, long)

pub counted_put : (ps qs : List (Option Peer)) (y : Peer) (n m : ℕ) → n ≡ present ps → qs ≡ ps ++ Some y ∷ [] →
    m ≡ suc n → m ≡ present qs
counted_put ps qs y n m is grown more = more ∙ ap suc is ∙ sym (present_put ps y) ∙ sym (ap present grown)

-- somebody stays where somebody was, and nobody where nobody was
pub present_set : (ps : List (Option Peer)) (i : ℕ) (y : Option Peer) → is_some y ≡ is_some (peer_at ps i) →
    present (set ps i y) ≡ present ps
present_set [] i y same = refl
present_set (x ∷ xs) zero y same = first y xs ∙ ap (λ b. cond b 1 0 + present xs) same ∙ sym (first x xs)
present_set (x ∷ xs) (suc i) y same =
    first x (set xs i y) ∙ ap (λ n. one x + n) (present_set xs i y same) ∙ sym (first x xs)

-- somebody went
present_gone : (ps : List (Option Peer)) (i : ℕ) (p : Peer) → peer_at ps i ≡ Some p →
    present ps ≡ suc (present (without_peer ps i))
present_gone [] i p at = absurd (cc)
present_gone (None ∷ xs) zero p at = absurd (cc)
present_gone (Some x ∷ xs) zero p at = first_some x xs ∙ ap suc (sym (first_none xs))
present_gone (None ∷ xs) (suc i) p at =
    first_none xs ∙ present_gone xs i p at ∙ ap suc (sym (first_none (without_peer xs i)))
present_gone (Some x ∷ xs) (suc i) p at =
    first_some x xs ∙ ap suc (present_gone xs i p at) ∙ ap suc (sym (first_some x (without_peer xs i)))

pub some_before : (ps : List (Option Peer)) (i n : ℕ) (gone : Option Peer) → gone ≡ peer_at ps i → n ≡ present ps →
    IfSome gone (λ p. 0 < n)
some_before ps i n None at is = tt
some_before ps i n (Some p) at is = let one_there = is ∙ present_gone ps i p (sym at) in omega (arith, one_there)

same_suc : (a b : ℕ) → suc a ≡ suc b → a ≡ b
same_suc a b e = omega (arith, e)

pub counted_less : (ps qs : List (Option Peer)) (i n m : ℕ) (gone : Option Peer) → gone ≡ peer_at ps i →
    n ≡ present ps → qs ≡ without_peer ps i → IfSome gone (λ p. n ≡ suc m) → IfNone gone (m ≡ n) → m ≡ present qs
counted_less ps qs i n m None at is less some none =
    none ∙ is ∙ sym (ap present less ∙ present_set ps i None (ap is_some at))
counted_less ps qs i n m (Some p) at is less some none =
    same_suc m (present (without_peer ps i)) (sym some ∙ is ∙ present_gone ps i p (sym at)) ∙ sym (ap present less)

pub present_back : (ps qs : List (Option Peer)) (i : ℕ) → qs ≡ with_set_back ps i → present qs ≡ present ps
present_back ps qs i is =
    ap present is ∙ present_set ps i (option_map set_back (peer_at ps i)) (there_mapped set_back (peer_at ps i))

each_there : (ps : List (Option Peer)) → present (all_set_back ps) ≡ present ps
each_there [] = refl
each_there (x ∷ xs) =
    first (option_map set_back x) (all_set_back xs)
    ∙ ap (λ b. cond b 1 0 + present (all_set_back xs)) (there_mapped set_back x)
    ∙ ap (λ n. one x + n) (each_there xs) ∙ sym (first x xs)

pub present_all_back : (ps qs : List (Option Peer)) → qs ≡ all_set_back ps → present qs ≡ present ps
present_all_back ps qs is = ap present is ∙ each_there ps

-- who is told something stays
pub present_told : (ps : List (Option Peer)) (i : ℕ) (y : Peer) → IsSome (peer_at ps i) →
    present (set ps i (Some y)) ≡ present ps
present_told ps i y there = present_set ps i (Some y) (sym there)
