-- Where chunks belong, and what is free there.
use Rattle.std.proofs.Common.{◌≡◌, ◌<◌, ◌≤◌, ◌⊎◌, inl, inr, ℕ, ◌+◌, nat_lt, nat_le, Bool, true, false, if◌then◌else◌, Option, None, Some, length, refl, subst, arith}
use Rattle.std.proofs.lemmas.Bool.Decides.{nat_tests}
use Rattle.dm_flows.specs.Windows.{ahead}
use Rattle.dm_flows.specs.Sctps.{SeenData}
use Rattle.dm_association.specs.declared.chunk_place.ChunkPlace.{ChunkPlace}
use Rattle.dm_association.specs.declared.chunk_place.ChunkPlace.TheVariants.{Wanted, Repeated, Astray}
use Rattle.dm_association.specs.declared.tsn_state.TsnState.{TsnState}
use Rattle.dm_association.specs.declared.tsn_state.TsnState.TheVariants.{Missing, Done, Held}
use Rattle.dm_association.specs.SctpFlows.{place_in_flow, HasRoomInFlow}
use Rattle.dm_association.specs.TsnWindows.{TsnWindowState, begun_window, tsn_at, is_missing, slot_octets, waiting_octets, reach, place_within, place_before, chunk_place, HasRoomAt}

either : (b : Bool) (x y : ChunkPlace) (at : ℕ) → (if b then x else y) ≡ Wanted at →
    ((b ≡ true) × (x ≡ Wanted at)) ⊎ ((b ≡ false) × (y ≡ Wanted at))
either true x y at e = inl (refl, e)
either false x y at e = inr (refl, e)

same_place : (here at : ℕ) → Wanted here ≡ Wanted at → here ≡ at
same_place here at e = cc

not_repeated : (at : ℕ) → Repeated ≡ Wanted at → ⊥
not_repeated at e = cc

not_astray : (at : ℕ) → Astray ≡ Wanted at → ⊥
not_astray at e = cc

room_here : (w : TsnWindowState) (here size : ℕ) → here < reach w.tsns → is_missing (tsn_at w.tsns here) ≡ true →
    nat_le (waiting_octets w.tsns + size) 1048576 ≡ true → HasRoomAt w here size
room_here w here size near missing fits = record {
  missing = missing;
  near = omega (arith, near);
  fits = grind (arith, nat_tests);
}

room_within : (w : TsnWindowState) (here size at : ℕ) → here < reach w.tsns → place_within w here size ≡ Wanted at →
    HasRoomAt w at size
room_within w here size at near e =
    elim (either (is_missing (tsn_at w.tsns here))
    (if nat_le (waiting_octets w.tsns + size) 1048576 then Wanted here else Astray) Repeated at e) [
      | inl free ↦ elim (either (nat_le (waiting_octets w.tsns + size) 1048576) (Wanted here) Astray at free.1) [
        | inl fits ↦
            let P : ℕ → Type 0 = λ n. HasRoomAt w n size in
            subst P (same_place here at fits.1) (room_here w here size near free.0 fits.0)
        | inr full ↦ absurd (not_astray at full.1)
      ]
      | inr taken ↦ absurd (not_repeated at taken.1)
    ]

none_before : (next tsn at : ℕ) → place_before next tsn ≡ Wanted at → ⊥
none_before next tsn at e = elim (either (nat_le (ahead tsn next) 65536) Repeated Astray at e) [
  | inl near ↦ not_repeated at near.1
  | inr far ↦ not_astray at far.1
]

reached : (a b : ℕ) → nat_lt a b ≡ true → a < b
reached a b e = grind (arith, nat_tests)

not_reached : (a b : ℕ) → nat_lt a b ≡ false → b ≤ a
not_reached a b e = grind (arith, nat_tests)

near_enough : (a : ℕ) → nat_le a 65536 ≡ true → a ≤ 65536
near_enough a e = grind (arith, nat_tests)

-- where a chunk is wanted there is room for it
pub room_at : (w : TsnWindowState) (tsn size at : ℕ) → chunk_place w tsn size ≡ Wanted at → HasRoomAt w at size
room_at w tsn size at e =
    elim (either (nat_lt (ahead w.next tsn) (reach w.tsns)) (place_within w (ahead w.next tsn) size)
    (place_before w.next tsn) at e) [
      | inl near ↦ room_within w (ahead w.next tsn) size at (reached _ _ near.0) near.1
      | inr far ↦ absurd (none_before w.next tsn at far.1)
    ]

pub room_in_flow : (window : Option TsnWindowState) (chunk : SeenData) (at : ℕ) →
    place_in_flow window chunk ≡ Wanted at → HasRoomInFlow window at (length chunk.user_data)
room_in_flow None chunk at e = not_astray at e
room_in_flow (Some window) chunk at e = room_at window chunk.tsn (length chunk.user_data) at e

-- there is at the beginning
pub room_at_first : (tsn size : ℕ) → size ≤ 1048576 → HasRoomAt (begun_window tsn) 0 size
room_at_first tsn size fits = record { missing = refl; near = omega arith; fits = omega (arith, fits) }

none_missing : (state : TsnState) → is_missing state ≡ true → length (slot_octets state) ≡ 0
none_missing Missing e = refl
none_missing Done e = refl
none_missing (Held fragment) e = cc

-- and nothing waits there
pub room_is_free : (w : TsnWindowState) (at size : ℕ) → HasRoomAt w at size →
    length (slot_octets (tsn_at w.tsns at)) ≡ 0
room_is_free w at size room = none_missing (tsn_at w.tsns at) room.missing

-- it is wanted where its TSN says
place_here : (w : TsnWindowState) (here size at : ℕ) → place_within w here size ≡ Wanted at → here ≡ at
place_here w here size at e =
    elim (either (is_missing (tsn_at w.tsns here))
    (if nat_le (waiting_octets w.tsns + size) 1048576 then Wanted here else Astray) Repeated at e) [
      | inl free ↦ elim (either (nat_le (waiting_octets w.tsns + size) 1048576) (Wanted here) Astray at free.1) [
        | inl fits ↦ same_place here at fits.1
        | inr full ↦ absurd (not_astray at full.1)
      ]
      | inr taken ↦ absurd (not_repeated at taken.1)
    ]

pub wanted_at : (w : TsnWindowState) (tsn size at : ℕ) → chunk_place w tsn size ≡ Wanted at → ahead w.next tsn ≡ at
wanted_at w tsn size at e =
    elim (either (nat_lt (ahead w.next tsn) (reach w.tsns)) (place_within w (ahead w.next tsn) size)
    (place_before w.next tsn) at e) [
      | inl near ↦ place_here w (ahead w.next tsn) size at near.1
      | inr far ↦ absurd (none_before w.next tsn at far.1)
    ]

-- it came before: it isn't missing, or is before the first
either_again : (b : Bool) (x y : ChunkPlace) → (if b then x else y) ≡ Repeated →
    ((b ≡ true) × (x ≡ Repeated)) ⊎ ((b ≡ false) × (y ≡ Repeated))
either_again true x y e = inl (refl, e)
either_again false x y e = inr (refl, e)

not_again : (b : Bool) (here : ℕ) → (if b then Wanted here else Astray) ≡ Repeated → ⊥
not_again true here e = cc
not_again false here e = cc

astray_again : Astray ≡ Repeated → ⊥
astray_again e = cc

again_within : (w : TsnWindowState) (here size : ℕ) → place_within w here size ≡ Repeated →
    is_missing (tsn_at w.tsns here) ≡ false
again_within w here size e =
    elim (either_again (is_missing (tsn_at w.tsns here))
    (if nat_le (waiting_octets w.tsns + size) 1048576 then Wanted here else Astray) Repeated e) [
      | inl free ↦ absurd (not_again (nat_le (waiting_octets w.tsns + size) 1048576) here free.1)
      | inr taken ↦ taken.0
    ]

again_before : (next tsn : ℕ) → place_before next tsn ≡ Repeated → ahead tsn next ≤ 65536
again_before next tsn e = elim (either_again (nat_le (ahead tsn next) 65536) Repeated Astray e) [
  | inl near ↦ let is_it = near.0 in near_enough (ahead tsn next) is_it
  | inr far ↦ absurd (astray_again far.1)
]

pub again_at : (w : TsnWindowState) (tsn size : ℕ) → chunk_place w tsn size ≡ Repeated →
    ((ahead w.next tsn < 65536) × (is_missing (tsn_at w.tsns (ahead w.next tsn)) ≡ false))
    ⊎ ((0 < ahead w.next tsn) × (ahead tsn w.next ≤ 65536))
again_at w tsn size e =
    elim (either_again (nat_lt (ahead w.next tsn) (reach w.tsns)) (place_within w (ahead w.next tsn) size)
    (place_before w.next tsn) e) [
      | inl near ↦
          let less = reached (ahead w.next tsn) (reach w.tsns) near.0 in
          inl (omega (arith, less), again_within w (ahead w.next tsn) size near.1)
      | inr far ↦
          let more = not_reached (ahead w.next tsn) (reach w.tsns) far.0 in
          inr (omega (arith, more), again_before w.next tsn far.1)
    ]

pub missing_is : (state : TsnState) → is_missing state ≡ true → state ≡ Missing
missing_is Missing e = refl
missing_is Done e = cc
missing_is (Held fragment) e = cc
