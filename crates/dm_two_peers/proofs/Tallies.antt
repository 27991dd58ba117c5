-- How many messages the phases of a clean run have put in.
use Rattle.std.proofs.Common.{◌≡◌, ℕ, ◌+◌, Bool, true, false, nat_le, List, [], ◌∷◌, ◌++◌, refl}
use Rattle.std.proofs.lemmas.Bool.{leb-true}
use Rattle.dm_two_peers.specs.Links.{Side}
use Rattle.dm_two_peers.specs.Peers.{Peers}
use Rattle.dm_two_peers.specs.Worlds.{Put}
use Rattle.dm_two_peers.specs.Electing.{Talks}
use Rattle.dm_two_peers.specs.Settled.{Tally, no_more, one_cer, one_cea, one_disconnect, AtMost}
use Rattle.dm_two_peers.proofs.Pairs.{IsPair, ab, ba, swapped}
use Rattle.dm_two_peers.proofs.Acting.{cer_put, cea_put}
use Rattle.dm_two_peers.proofs.Phases.{Phase, C1, C2, C3, C4, C5, C6, C7, C8, C9, C10, C11, C12, C13, C14, C15, C16, C17}
use Rattle.dm_two_peers.proofs.Phases.{C18, C19, C25, both_cers, put_so_far}

module _ {P M C H : Type 0} (m : Peers P M) (t : Talks P M C H) where
  tally_cer : (s o : Side) → IsPair s o → (c n : ℕ) (more : List (Put M)) (a b d : ℕ) → Tally t more a b d →
      Tally t (cer_put m t s o c n ∷ more) (1 + a) b d
  tally_cer s o ab c n more a b d h = one_cer c s n more a b d h
  tally_cer s o ba c n more a b d h = one_cer c s n more a b d h

  tally_cea : (s o : Side) → IsPair s o → (c n : ℕ) (more : List (Put M)) (a b d : ℕ) → Tally t more a b d →
      Tally t (cea_put m t s o c n ∷ more) a (1 + b) d
  tally_cea s o ab c n more a b d h = one_cea c o n more a b d h
  tally_cea s o ba c n more a b d h = one_cea c o n more a b d h

  one_asks : (s o : Side) → IsPair s o → (c n : ℕ) → Tally t (cer_put m t s o c n ∷ []) 1 0 0
  one_asks s o pair c n = tally_cer s o pair c n [] 0 0 0 no_more

  pub one_answered : (s o : Side) → IsPair s o → (c n : ℕ) →
      Tally t (cer_put m t s o c n ∷ cea_put m t s o c n ∷ []) 1 1 0
  one_answered s o pair c n =
      tally_cer s o pair c n _ 0 1 0 (tally_cea s o pair c n [] 0 0 0 no_more)

  both_ask : (g l : Side) → IsPair g l → (b : Bool) (x y h h' : ℕ) (more : List (Put M)) (i j : ℕ) →
      Tally t more 0 i j → Tally t (both_cers m t g l b x y h h' ++ more) 2 i j
  both_ask g l pair true x y h h' more i j e =
      tally_cer g l pair x h _ 1 i j (tally_cer l g (swapped pair) y h' more 0 i j e)
  both_ask g l pair false x y h h' more i j e =
      tally_cer l g (swapped pair) y h' _ 1 i j (tally_cer g l pair x h more 0 i j e)

  pub all_counted : (g l : Side) → IsPair g l → (b : Bool) (x y h h' : ℕ) →
      Tally t (put_so_far m t g l C25 b x y h h') 2 1 2
  all_counted g l pair b x y h h' =
      both_ask g l pair b x y h h' _ 1 2
      (one_disconnect x l _ 0 1 1 (tally_cea l g (swapped pair) y h' _ 0 0 1 (one_disconnect x g [] 0 0 0 no_more)))

  few : (put : List (Put M)) (a b d : ℕ) → nat_le a 2 ≡ true → nat_le b 1 ≡ true → nat_le d 2 ≡ true →
      Tally t put a b d → AtMost t put
  few put a b d e1 e2 e3 h =
      record {
        cers = a;
        ceas = b;
        ends = d;
        counted = h;
        two_cers = leb-true a 2 e1;
        one_cea = leb-true b 1 e2;
        two_ends = leb-true d 2 e3;
      }

  none_few : AtMost t []
  none_few = few [] 0 0 0 refl refl refl no_more

  asks_few : (s o : Side) → IsPair s o → (c n : ℕ) → AtMost t (cer_put m t s o c n ∷ [])
  asks_few s o pair c n = few _ 1 0 0 refl refl refl (one_asks s o pair c n)

  answered_few : (s o : Side) → IsPair s o → (c n : ℕ) → AtMost t (cer_put m t s o c n ∷ cea_put m t s o c n ∷ [])
  answered_few s o pair c n = few _ 1 1 0 refl refl refl (one_answered s o pair c n)

  both_few : (g l : Side) → IsPair g l → (b : Bool) (x y h h' : ℕ) → AtMost t (both_cers m t g l b x y h h')
  both_few g l pair true x y h h' = few _ 2 0 0 refl refl refl (both_ask g l pair true x y h h' [] 0 0 no_more)
  both_few g l pair false x y h h' = few _ 2 0 0 refl refl refl (both_ask g l pair false x y h h' [] 0 0 no_more)

  won_few : (g l : Side) → IsPair g l → (b : Bool) (x y h h' : ℕ) → AtMost t (put_so_far m t g l C17 b x y h h')
  won_few g l pair b x y h h' =
      few _ 2 1 1 refl refl refl
      (both_ask g l pair b x y h h' _ 1 1
      (one_disconnect x l _ 0 1 0 (tally_cea l g (swapped pair) y h' [] 0 0 0 no_more)))

  all_few : (g l : Side) → IsPair g l → (b : Bool) (x y h h' : ℕ) → AtMost t (put_so_far m t g l C25 b x y h h')
  all_few g l pair b x y h h' = few _ 2 1 2 refl refl refl (all_counted g l pair b x y h h')

  pub few_so_far : (g l : Side) → IsPair g l → (k : Phase) (b : Bool) (x y h h' : ℕ) →
      AtMost t (put_so_far m t g l k b x y h h')
  few_so_far g l pair C1 b x y h h' = none_few
  few_so_far g l pair C2 b x y h h' = none_few
  few_so_far g l pair C3 b x y h h' = none_few
  few_so_far g l pair C4 b x y h h' = asks_few g l pair x h
  few_so_far g l pair C5 b x y h h' = asks_few l g (swapped pair) y h'
  few_so_far g l pair C6 b x y h h' = answered_few g l pair x h
  few_so_far g l pair C7 b x y h h' = answered_few l g (swapped pair) y h'
  few_so_far g l pair C8 b x y h h' = answered_few g l pair x h
  few_so_far g l pair C9 b x y h h' = answered_few l g (swapped pair) y h'
  few_so_far g l pair C10 b x y h h' = none_few
  few_so_far g l pair C11 b x y h h' = asks_few g l pair x h
  few_so_far g l pair C12 b x y h h' = asks_few l g (swapped pair) y h'
  few_so_far g l pair C13 b x y h h' = asks_few g l pair x h
  few_so_far g l pair C14 b x y h h' = asks_few l g (swapped pair) y h'
  few_so_far g l pair C15 b x y h h' = both_few g l pair b x y h h'
  few_so_far g l pair C16 b x y h h' = both_few g l pair b x y h h'
  few_so_far g l pair C17 b x y h h' = won_few g l pair b x y h h'
  few_so_far g l pair C18 b x y h h' = won_few g l pair b x y h h'
  few_so_far g l pair C19 b x y h h' = won_few g l pair b x y h h'
  few_so_far g l pair _ b x y h h' = all_few g l pair b x y h h'
