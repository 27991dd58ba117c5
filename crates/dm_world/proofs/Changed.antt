-- One link of many is changed.
use Rattle.std.proofs.Common.{◌≡◌, ℕ, zero, suc, ◌<◌, ◌≤◌, List, [], ◌∷◌, length, get_or, refl, sym, ap, subst, ◌∙◌}
use Rattle.std.proofs.Common.{arith}
use Rattle.std.specs.Prelude.{OnOk, OnErr, IfSome, slice_get, Result, Ok, Err}
use Rattle.std.proofs.Math.ListN.{set}
use Rattle.dm_two_peers.specs.Links as links
use Rattle.dm_two_peers.specs.Worlds.{change_at}
use Rattle.dm_world.specs.declared.link.Link.{Link}
use Rattle.dm_world.specs.Seen.{as_link, as_links, out_room}
use Rattle.dm_world.specs.Rooms.{HasRoom}

pub changed : (f : links.Link (List ℕ) → links.Link (List ℕ)) (c : ℕ) (ls : List Link) (x y : Link) →
    x ≡ get_or ls c x → c < length ls → as_link y ≡ f (as_link x) → as_links (set ls c y) ≡ change_at c f (as_links ls)
changed f c [] x y at lt is = absurd (omega arith)
changed f zero (l ∷ ls) x y at lt is = ap (λ z. z ∷ as_links ls) (is ∙ ap (λ z. f (as_link z)) at)
changed f (suc c) (l ∷ ls) x y at lt is = ap (λ z. as_link l ∷ z) (changed f c ls x y at (omega arith) is)

pub not_changed : (f : links.Link (List ℕ) → links.Link (List ℕ)) (c : ℕ) (ls : List Link) → length ls ≤ c →
    as_links ls ≡ change_at c f (as_links ls)
not_changed f c [] h = refl
not_changed f zero (l ∷ ls) h = absurd (omega arith)
not_changed f (suc c) (l ∷ ls) h = ap (λ z. as_link l ∷ z) (not_changed f c ls (omega arith))

le_trans : (a b c : ℕ) → a ≤ b → b ≤ c → a ≤ c
le_trans a b c h g = omega arith

pub less : (s : links.Side) (n m d : ℕ) (ls : List Link) → n ≤ m → HasRoom s ls m d → HasRoom s ls n d
less s n m d [] le has = has
less s n m zero (l ∷ ls) le has = le_trans n m (out_room s l) le has
less s n m (suc d) (l ∷ ls) le has = less s n m d ls le has

pub room_moves : (s : links.Side) (n m c d : ℕ) (ls : List Link) (x y : Link) → x ≡ get_or ls c x → n ≤ m →
    (m ≤ out_room s x → n ≤ out_room s y) → HasRoom s ls m d → HasRoom s (set ls c y) n d
room_moves s n m c d [] x y at le moves has = has
room_moves s n m zero zero (l ∷ ls) x y at le moves has = moves (subst (λ z. m ≤ out_room s z) (sym at) has)
room_moves s n m zero (suc d) (l ∷ ls) x y at le moves has = less s n m d ls le has
room_moves s n m (suc c) zero (l ∷ ls) x y at le moves has = le_trans n m (out_room s l) le has
room_moves s n m (suc c) (suc d) (l ∷ ls) x y at le moves has = room_moves s n m c d ls x y at le moves has

pub same_links : (c : ℕ) (ls : List Link) (x y : Link) → x ≡ get_or ls c x → as_link y ≡ as_link x →
    as_links (set ls c y) ≡ as_links ls
same_links c [] x y at is = refl
same_links zero (l ∷ ls) x y at is = ap (λ z. z ∷ as_links ls) (is ∙ ap (λ z. as_link z) at)
same_links (suc c) (l ∷ ls) x y at is = ap (λ z. as_link l ∷ z) (same_links c ls x y at is)

pub room_here : (s : links.Side) (n c : ℕ) (ls : List Link) (y : Link) → n ≤ out_room s y → HasRoom s (set ls c y) n c
room_here s n c [] y h = tt
room_here s n zero (l ∷ ls) y h = h
room_here s n (suc c) (l ∷ ls) y h = room_here s n c ls y h

pub room_past : (s : links.Side) (n c : ℕ) (ls : List Link) → length ls ≤ c → HasRoom s ls n c
room_past s n c [] h = tt
room_past s n zero (l ∷ ls) h = absurd (omega arith)
room_past s n (suc c) (l ∷ ls) h = room_past s n c ls (omega arith)

pub length_links : (ls : List Link) → length (as_links ls) ≡ length ls
length_links [] = refl
length_links (l ∷ ls) = ap suc (length_links ls)

pub on_ok : {T E : Type 0} {P Q : Type 0} (r : Result T E) → (P → Q) → OnOk r P → OnOk r Q
on_ok (Ok x) f h = f h
on_ok (Err e) f h = h

pub on_err : {T E : Type 0} {P Q : Type 0} (r : Result T E) → (P → Q) → OnErr r P → OnErr r Q
on_err (Ok x) f h = h
on_err (Err e) f h = f h

-- what is said of the link of a number
pub at_number : (P : links.Link (List ℕ) → Type 0) (c : ℕ) (ls : List Link) (x : Link) → x ≡ get_or ls c x →
    c < length ls →
    IfSome (slice_get (as_links ls) c) P → P (as_link x)
at_number P c [] x at lt has = absurd (omega arith)
at_number P zero (l ∷ ls) x at lt has = subst (λ z. P (as_link z)) (sym at) has
at_number P (suc c) (l ∷ ls) x at lt has = at_number P c ls x at (omega arith) has
