-- Connections in their places: one that is put in front, one that is as it was.
use Rattle.std.proofs.Common.{◌≡◌, ◌<◌, ◌≤◌, ◌-◌, ◌^◌, Bool, true, false, None, Some, [], ◌∷◌, length, take, refl, sym, ◌∙◌, ap, arith}
use Rattle.std.specs.Option.{option_map_or}
use Rattle.std.specs.Map.{lookup, lookup_entry, remove_entry, set_value}
use Rattle.lru.specs.LruCache.{LruCache, lru_cache, put_entries}
use Rattle.dm_connections.specs.declared.ends.Ends.{Ends}
use Rattle.dm_connections.specs.Held.{HeldByEnds, same_ends}
use Rattle.dm_connections.proofs.Sums.{all_taken}

none_at_all : {C : Type 0} (test : Ends → Bool) (held : HeldByEnds C) → lookup test held ≡ None → lookup_entry test held ≡ None
none_at_all {C = C} test [] h = refl
none_at_all {C = C} test (e ∷ held) h = by (test e.0) refl (λ there. none_at_all test held there)
  where
    by : (b : Bool) → test e.0 ≡ b → (lookup test held ≡ None → lookup_entry test held ≡ None) →
        lookup_entry test (e ∷ held) ≡ None
    by true is rest = let there = rw is at h in cc
    by false is rest = rw is (rest (rw is at h))

-- a connection of ends of which none is held goes in front
pub put_first : {C : Type 0} (cache : LruCache Ends C) (ends : Ends) (c : C) →
    lookup (same_ends ends) cache.entries ≡ None → length cache.entries < 2 ^ 63 → cache.cap ≡ 2 ^ 64 - 1 →
    put_entries same_ends cache ends c ≡ (ends, c) ∷ cache.entries
put_first {C = C} cache ends c none few endless =
    let at = none_at_all (same_ends ends) cache.entries none in
    let room : length cache.entries ≤ cache.cap - 1 = omega (arith, few, endless) in
    let all = all_taken (cache.cap - 1) cache.entries room in
    ap (λ o. option_map_or (λ (e : Ends × C). (e.0, c) ∷ remove_entry (same_ends ends) cache.entries) o
    ((ends, c) ∷ take (cache.cap - 1) cache.entries)) at ∙ ap (λ l. (ends, c) ∷ l) all

pub put_in_front : {C : Type 0} (cache new : LruCache Ends C) (ends : Ends) (c : C) →
    lookup (same_ends ends) cache.entries ≡ None → length cache.entries < 2 ^ 63 → cache.cap ≡ 2 ^ 64 - 1 →
    new ≡ lru_cache (put_entries same_ends cache ends c) cache.cap →
    new ≡ lru_cache ((ends, c) ∷ cache.entries) cache.cap
put_in_front {C = C} cache new ends c none few endless is =
    is ∙ ap (λ l. lru_cache l cache.cap) (put_first cache ends c none few endless)

-- a connection that is as it was
pub state_again : {C : Type 0} (test : Ends → Bool) (held : HeldByEnds C) (c : C) → lookup test held ≡ Some c →
    set_value test held c ≡ held
state_again {C = C} test [] c h = cc
state_again {C = C} test (e ∷ held) c h = by (test e.0) refl (λ there. state_again test held c there)
  where
    by : (b : Bool) → test e.0 ≡ b → (lookup test held ≡ Some c → set_value test held c ≡ held) →
        set_value test (e ∷ held) c ≡ e ∷ held
    by true is rest =
        let there = rw is at h in
        let found : e.1 ≡ c = cc in
        rw is (ap (λ (x : C). (e.0, x) ∷ held) (sym found))
    by false is rest = rw is (ap (λ l. e ∷ l) (rest (rw is at h)))
