-- Walks over octets, one AVP at a time (RFC 6733, 4.1).
use Rattle.std.specs.Prelude.{◌≡◌, ℕ, ◌+◌, ◌<◌, ◌⊎◌, true, false, Option, None, Some}
use Rattle.std.specs.Prelude.{Result, Ok, Err, List, [], ◌∷◌, ◌++◌, length, take, map}
use Rattle.dm_wire.specs.declared.avp.Avp.{Avp}
use Rattle.dm_wire.specs.declared.avp_ref.AvpRef.{AvpRef}
use Rattle.dm_wire.specs.Borrowed.{avp_of}
use Rattle.dm_wire.specs.Spelling.{SpellsAvp, SpellsList}
use Rattle.dm_wire.specs.Refusal.{BeginsWithNoAvp, IsBadAt}
use Rattle.dm_wire.specs.WalkStates.{Walk}

-- a walk over these octets that has not begun
abbrev pub walk_over : List ℕ → Walk
walk_over s = record { left = s; offset = 0; ended = false }

-- the walk w passes the spelling of the AVP a, and is then v
pub record Passes (w : Walk) (a : Avp) (v : Walk) : Type 0 where
  pub going : w.ended ≡ false
  pub first : List ℕ
  pub whole : w.left ≡ first ++ v.left
  pub spelled : SpellsAvp a first
  pub further : v.offset ≡ w.offset + length first
  pub goes_on : v.ended ≡ false

-- no AVP begins where the walk w stands, at offset o: it stays there, as v, and has ended
pub record StopsWalk (w : Walk) (o : ℕ) (v : Walk) : Type 0 where
  pub going : w.ended ≡ false
  pub some : 0 < length w.left
  pub bad : BeginsWithNoAvp w.left
  pub offset : o ≡ w.offset
  pub stays : v ≡ record w { ended = true }

-- the walk has passed all octets, or met a bad AVP
abbrev pub IsDone : Walk → Type 0
IsDone w = (w.left ≡ []) ⊎ (w.ended ≡ true)

-- one call: from w it gives this answer, and leaves v
abbrev pub WalkStep : Walk → Option (Result AvpRef ℕ) → Walk → Type 0
WalkStep w None v = IsDone w × (v ≡ w)
WalkStep w (Some (Ok a)) v = Passes w (avp_of a) v
WalkStep w (Some (Err o)) v = StopsWalk w o v

-- the answers of the calls from w on, up to None
abbrev pub WalkGives : Walk → List (Result Avp ℕ) → Type 0
WalkGives w [] = IsDone w
WalkGives w (Ok a ∷ l) = (v : Walk) × Passes w a v × WalkGives v l
WalkGives w (Err o ∷ l) = (v : Walk) × StopsWalk w o v × WalkGives v l

-- the AVPs of octets that spell a list; else those up to the first bad octet, and then that octet
abbrev pub ReadsAs : List ℕ → List (Result Avp ℕ) → Type 0
ReadsAs s l =
    ((avps : List Avp) × (l ≡ map Ok avps) × SpellsList avps s)
    ⊎ ((avps : List Avp) × (o : ℕ) × (l ≡ map Ok avps ++ Err o ∷ []) × SpellsList avps (take o s) × IsBadAt 0 s o)

-- a whole walk tells what a list of AVPs is read as
abbrev pub WalkTells : Type 0
WalkTells = (s : List ℕ) (l : List (Result Avp ℕ)) → WalkGives (walk_over s) l → ReadsAs s l
