-- A node and an input as they look from one connection: that one is called 1 and every other one 0.
use Rattle.std.proofs.Common.{◌≡◌, Bool, true, false, not, ◌&&◌, ◌||◌, ◌==◌, if◌then◌else◌, Option, Some, None, List, [], ◌∷◌, refl, arith}
use Rattle.std.proofs.lemmas.Bool.Decides.{nat_tests}
use Rattle.dm_machine.specs.declared.connection.Conn.{Conn}
use Rattle.dm_machine.specs.declared.phase.Role.{Role}
use Rattle.dm_machine.specs.declared.state_name.State.{State}
use Rattle.dm_machine.specs.Node.{Node}
use Rattle.dm_machine.specs.Reading.{Place, OnI, OnR, OnX, OnNew, place_as, place_of, place_in}
use Rattle.dm_machine.proofs.Renamed.{renamed_held, renamed_node, renamed_new}

-- the connection that is looked at, and any other
abbrev pub this : Conn
this = record { 0 = 1 }

abbrev pub another : Conn
another = record { 0 = 0 }

abbrev pub mark_if : Bool → Conn
mark_if true = this
mark_if false = another

abbrev pub mark : Conn → Conn → Conn
mark c x = mark_if (x.0 == c.0)

-- whether a marked connection can stand at a place of a marked node
abbrev pub is_place : Place → Place → Bool
is_place OnI OnI = true
is_place OnR OnR = true
is_place OnX OnX = true
is_place OnNew OnNew = true
is_place _ _ = false

abbrev pub fits_held : State → List (Role × Conn) → Conn → Place → Bool
fits_held s [] d at = is_place at OnNew
fits_held s (p ∷ ps) d at =
    (is_place at (place_as s p.0) && (p.1.0 == d.0)) || (not ((p.1.0 == 1) && (d.0 == 1)) && fits_held s ps d at)

abbrev pub fits : Node → Option Conn → Place → Bool
fits n None at = is_place at OnNew
fits n (Some d) at = fits_held n.state n.held d at

is_place-same : (a : Place) → is_place a a ≡ true
is_place-same OnI = refl
is_place-same OnR = refl
is_place-same OnX = refl
is_place-same OnNew = refl

yes_and : (a b : Bool) → a ≡ true → b ≡ true → (a && b) ≡ true
yes_and true b h g = g
yes_and false b h g = cc

yes_or_left : (a b : Bool) → a ≡ true → (a || b) ≡ true
yes_or_left true b h = refl
yes_or_left false b h = cc

yes_or_right : (a b : Bool) → b ≡ true → (a || b) ≡ true
yes_or_right true b h = refl
yes_or_right false b h = h

-- the marks of one connection are the same, and those of two are not both this one
same_marks : (c x d : Conn) → (x.0 == d.0) ≡ true → ((mark c x).0 == (mark c d).0) ≡ true
same_marks c x d e = grind (arith, nat_tests)

apart_marks : (c x d : Conn) → (x.0 == d.0) ≡ false → not (((mark c x).0 == 1) && ((mark c d).0 == 1)) ≡ true
apart_marks c x d e = grind (arith, nat_tests)

fits_at : (s : State) (p : Role × Conn) (ps : List (Role × Conn)) (c d : Conn) (b : Bool) → (p.1.0 == d.0) ≡ b →
    fits_held s (renamed_held (mark c) ps) (mark c d) (place_of s ps d) ≡ true →
    fits_held s (renamed_held (mark c) (p ∷ ps)) (mark c d) (if b then place_as s p.0 else place_of s ps d) ≡ true
fits_at s p ps c d true e h =
    let own = place_as s p.0 in
    yes_or_left (is_place own own && ((mark c p.1).0 == (mark c d).0))
    (not (((mark c p.1).0 == 1) && ((mark c d).0 == 1)) && fits_held s (renamed_held (mark c) ps) (mark c d) own)
    (yes_and (is_place own own) ((mark c p.1).0 == (mark c d).0) (is_place-same own) (same_marks c p.1 d e))
fits_at s p ps c d false e h =
    let at = place_of s ps d in
    let rest = fits_held s (renamed_held (mark c) ps) (mark c d) at in
    yes_or_right (is_place at (place_as s p.0) && ((mark c p.1).0 == (mark c d).0))
    (not (((mark c p.1).0 == 1) && ((mark c d).0 == 1)) && rest)
    (yes_and (not (((mark c p.1).0 == 1) && ((mark c d).0 == 1))) rest (apart_marks c p.1 d e) h)

fits_place : (s : State) (held : List (Role × Conn)) (c d : Conn) →
    fits_held s (renamed_held (mark c) held) (mark c d) (place_of s held d) ≡ true
fits_place s [] c d = refl
fits_place s (p ∷ ps) c d = fits_at s p ps c d (p.1.0 == d.0) refl (fits_place s ps c d)

pub place_fits : (n : Node) (c : Conn) (new : Option Conn) →
    fits (renamed_node (mark c) n) (renamed_new (mark c) new) (place_in n new) ≡ true
place_fits n c None = refl
place_fits n c (Some d) = fits_place n.state n.held c d
