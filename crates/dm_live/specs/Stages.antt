-- How far a run is.
use Rattle.std.specs.Prelude.{◌≡◌, ℕ, None, Some, List}
use Rattle.dm_live.specs.declared.begun.Begun.{Begun}
use Rattle.dm_live.specs.declared.begun.Begun.TheVariants as begun
use Rattle.dm_live.specs.declared.live.Live.{Live}
use Rattle.dm_live.specs.Beginnings.{go_fault, form_told, Begins}
use Rattle.dm_live.specs.Drafts.{settings_of}
use Rattle.dm_live.specs.Meetings.{meeting_of}
use Rattle.dm_live.specs.Served.{Stage, Drafting, Running, fault_answer, ready_answer}
use Rattle.dm_live.specs.Settings.{Settings}

-- the node, where there is one
abbrev pub stage_at : Settings → Begun → Stage
stage_at s begun.Nothing = Drafting s
stage_at s (begun.Running form node) = Running form (meeting_of node)

abbrev pub stage_of : Live → Stage
stage_of live = stage_at (settings_of live.draft) live.begun

-- what the line of this number that ends the configuration begins, and its answer
abbrev pub IsBegun : ℕ → Settings → Begun → List ℕ → Type 0
IsBegun n s begun.Nothing text = (name : List ℕ) × (go_fault s ≡ Some name) × (text ≡ fault_answer n name)
IsBegun n s (begun.Running form node) text =
    (go_fault s ≡ None) × (form ≡ form_told s) × Begins s (meeting_of node) × (text ≡ ready_answer)
