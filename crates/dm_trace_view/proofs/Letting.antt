-- Connections that are let go one after the other.
use Rattle.std.proofs.Common.{◌≡◌, ◌++◌, ◌∷◌, [], ℕ, List, append_assoc, append-nil, sym, refl, subst}
use Rattle.dm_connections.specs.declared.ends.Ends.{Ends}
use Rattle.dm_connections.specs.declared.limits.Limits.{Limits}
use Rattle.dm_connections.specs.Held.{HeldTable}
use Rattle.dm_view_lines.specs.declared.message_reports.Task.{Task}
use Rattle.dm_trace_view.specs.Traces.{HoldsTooMuch, LetsGo, gone_text, more_of}

-- whatever is let go from here on, behind what was it is what is let go of all
abbrev pub GoesOn : {C : Type 0} → (C → ℕ) → (C → ℕ) → Task → ℕ → Limits → HeldTable C → ℕ → List (Ends × C) → List ℕ → HeldTable C
    → ℕ → Type 0
GoesOn {C} held_in pending_in task packet limits first passed done so now counted =
    (more : List (Ends × C)) (new : HeldTable C) (after : ℕ) (others : List ℕ)
    → LetsGo held_in pending_in task packet limits now counted more new after others
    → LetsGo held_in pending_in task packet limits first passed (done ++ more) new after (so ++ others)

pub goes_none : {C : Type 0} (held_in pending_in : C → ℕ) (task : Task) (packet : ℕ) (limits : Limits) (first : HeldTable C)
    (passed : ℕ) → GoesOn held_in pending_in task packet limits first passed [] [] first passed
goes_none held_in pending_in task packet limits first passed more new after others h = h

-- one more
pub goes_next : {C : Type 0} (held_in pending_in : C → ℕ) (task : Task) (packet : ℕ) (limits : Limits) (first now mid : HeldTable C)
    (passed counted : ℕ) (done : List (Ends × C)) (so : List ℕ) (gone : Ends × C)
    → GoesOn held_in pending_in task packet limits first passed done so now counted → HoldsTooMuch held_in limits now
    → now.held ≡ mid.held ++ gone ∷ [] → mid.max ≡ now.max
    → GoesOn held_in pending_in task packet limits first passed (done ++ gone ∷ []) (so ++ gone_text pending_in task packet gone) mid
    (more_of counted (pending_in gone.1))
goes_next {C} held_in pending_in task packet limits first now mid passed counted done so gone before past held max more new after others h =
    let text = gone_text pending_in task packet gone in
    let all = before (gone ∷ more) new after (text ++ others) (past, mid, held, max, others, h, refl) in
    let Done : List (Ends × C) → Type 0 =
    λ l. LetsGo held_in pending_in task packet limits first passed l new after (so ++ (text ++ others)) in
    let Text : List ℕ → Type 0 =
    λ v. LetsGo held_in pending_in task packet limits first passed ((done ++ gone ∷ []) ++ more) new after v in
    subst Text (sym (append_assoc so text others)) (subst Done (sym (append_assoc done (gone ∷ []) more)) all)

-- nothing more is let go
pub goes_end : {C : Type 0} (held_in pending_in : C → ℕ) (task : Task) (packet : ℕ) (limits : Limits) (first now : HeldTable C)
    (passed counted : ℕ) (done : List (Ends × C)) (so : List ℕ)
    → GoesOn held_in pending_in task packet limits first passed done so now counted → (HoldsTooMuch held_in limits now → ⊥)
    → LetsGo held_in pending_in task packet limits first passed done now counted so
goes_end {C} held_in pending_in task packet limits first now passed counted done so before fits =
    let all = before [] now counted [] (fits, refl, refl, refl) in
    let Done : List (Ends × C) → Type 0 = λ l. LetsGo held_in pending_in task packet limits first passed l now counted so in
    let Text : List ℕ → Type 0 =
    λ v. LetsGo held_in pending_in task packet limits first passed (done ++ []) now counted v in
    subst Done (append-nil done) (subst Text (append-nil so) all)
