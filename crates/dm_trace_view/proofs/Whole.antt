-- A run over a capture that begins with want of memory.
use Rattle.std.proofs.Common.{inl, Option, Some, None, List, [], ℕ, refl}
use Rattle.dm_capture.specs.Captures.{new_progress}
use Rattle.dm_capture.specs.Laws.{with_piece}
use Rattle.dm_tables.specs.Definitions.{Definitions}
use Rattle.dm_view_lines.specs.declared.waiting_text.Style.{Style}
use Rattle.dm_view_lines.specs.declared.put_fault.PutFault.TheVariants as put
use Rattle.dm_view_lines.specs.declared.run_fault.RunFault.TheVariants.{Memory}
use Rattle.dm_view_lines.specs.Colours.{styled}
use Rattle.dm_trace_view.specs.declared.looks.Looks.{Looks}
use Rattle.dm_trace_view.specs.Captures.{trace_begun, StopsCapture}
use Rattle.dm_trace_view.specs.Traces.{SaysPacket}
use Rattle.dm_trace_view.proofs.Saying.{Gathering, stops-none}

-- nothing was read yet
pub capture_none : (d : Definitions) (style : Style) (looks : Looks) → Gathering → (given left old : Option (List ℕ))
    → StopsCapture d style looks Memory given left old old
capture_none d style looks laws None left old = inl tt
capture_none d style looks laws (Some octets) left old =
    inl (
      [],
      octets,
      refl,
      record {
        items = [];
        end = with_piece new_progress [];
        lead = refl;
        stops = stops-none (styled style.coloured style.task) (SaysPacket d style.task) laws (trace_begun looks) []
            put.Memory old [];
      },
    )
