-- The DATA chunks of a packet, one behind the other.
use Rattle.std.specs.Prelude.{Result, Ok, Err, OnErr}
use Rattle.std.proofs.Common.{◌≡◌, inl, inr, ℕ, List, [], ◌∷◌, ◌++◌, append_assoc, refl, sym, subst}
use Rattle.dm_associations.specs.Exchanges.{ChunkBeginsExchange, OneBeginsExchange, ChunksBeginExchange}
use Rattle.dm_associations.specs.Ways.{SctpWayState, WayTakesChunk, WayTakesChunks}
use Rattle.dm_flows.specs.SctpLaws.{EachHasDataList, OneDataList}
use Rattle.dm_flows.specs.Sctps.{SeenData, HasData, HasNoData, AreData}

-- one more was taken
pub taken_next : (old mid now : SctpWayState) (taken : List SeenData) (chunk : SeenData) →
    WayTakesChunks old taken mid → WayTakesChunk mid chunk now → WayTakesChunks old (taken ++ chunk ∷ []) now
taken_next old mid now [] chunk h one = (now, subst (λ (w : SctpWayState). WayTakesChunk w chunk now) (sym h) one, refl)
taken_next old mid now (first ∷ taken) chunk h one = (h.0, h.1, taken_next h.0 mid now taken chunk h.2 one)

-- those of the octets are those before the rest, and those of the rest
abbrev pub AreBefore : List ℕ → List SeenData → List ℕ → Type 0
AreBefore s taken rest = (later : List SeenData) → AreData rest later → AreData s (taken ++ later)

pub before_next : (s : List ℕ) (taken : List SeenData) (now : List ℕ) (chunk : SeenData) (rest : List ℕ) →
    AreBefore s taken now → HasData now chunk rest → AreBefore s (taken ++ chunk ∷ []) rest
before_next s taken now chunk rest before has =
    λ later are. subst (λ (l : List SeenData). AreData s l) (sym (append_assoc taken (chunk ∷ []) later))
    (before (chunk ∷ later) (rest, has, are))

-- an exchange begins in the first of them, or behind it
pub begins_here : EachHasDataList → (s : List ℕ) (chunk : SeenData) (rest : List ℕ) → HasData s chunk rest →
    ChunkBeginsExchange chunk → ChunksBeginExchange s
begins_here each s chunk rest has begins =
    let later = each rest in
    (chunk ∷ later.0, (rest, has, later.1), inl begins)

pub begins_later : (s : List ℕ) (chunk : SeenData) (rest : List ℕ) → HasData s chunk rest →
    ChunksBeginExchange rest → ChunksBeginExchange s
begins_later s chunk rest has later = (chunk ∷ later.0, (rest, has, later.1), inr later.2)

not_first : (chunk : SeenData) (later : List SeenData) → (ChunkBeginsExchange chunk → ⊥) →
    OneBeginsExchange (chunk ∷ later) → OneBeginsExchange later
not_first chunk later not (inl begins) = absurd (not begins)
not_first chunk later not (inr begins) = begins

pub begins_behind : OneDataList → EachHasDataList → (s : List ℕ) (chunk : SeenData) (rest : List ℕ) →
    HasData s chunk rest → (ChunkBeginsExchange chunk → ⊥) → ChunksBeginExchange s → ChunksBeginExchange rest
begins_behind one each s chunk rest has not begins =
    let later = each rest in
    let same : begins.0 ≡ chunk ∷ later.0 = one s begins.0 (chunk ∷ later.0) begins.1 (rest, has, later.1) in
    (later.0, later.1, not_first chunk later.0 not (subst (λ l. OneBeginsExchange l) same begins.2))

pub begins_nowhere : OneDataList → (s : List ℕ) → HasNoData s → ChunksBeginExchange s → ⊥
begins_nowhere one s none begins =
    subst (λ l. OneBeginsExchange l) (one s begins.0 [] begins.1 none) begins.2

-- what holds anyway holds of an error too
pub on_err : {T E : Type 0} (result : Result T E) (A : Type 0) → A → OnErr result A
on_err (Ok x) A a = tt
on_err (Err e) A a = a
