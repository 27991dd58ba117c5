-- What goes by the state: which inputs are refused, and where it counts who would win an election.
use Rattle.std.proofs.Common.{◌≡◌, Bool, true, false, ◌&&◌, IsTrue, Option, Some, None, refl}
use Rattle.dm_machine.specs.declared.connection.Conn.{Conn}
use Rattle.dm_machine.specs.declared.outputs.Refusal.{Refusal}
use Rattle.dm_machine.specs.declared.outputs.Refusal.TheVariants.{NotClosed, NotOpen}
use Rattle.dm_machine.specs.Table.{TableEvent, RConnCer}
use Rattle.dm_machine.specs.Node.{Node}
use Rattle.dm_machine.specs.Forms.{Form, closed, wait_conn_ack, wait_i_cea, wait_conn_ack_elect, wait_returns, r_open, i_open, closing}
use Rattle.dm_machine.specs.Reading.{conn_named, event_of}
use Rattle.dm_machine.specs.Moves.{by_table, machine_outcome, node_refusal}
use Rattle.dm_machine.specs.EachStep.{StepTest, everywhere, passes_of}
use Rattle.dm_machine.specs.Refusals.{refused_as, RefusesByState}
use Rattle.dm_machine.specs.Elections.{holds_elections, WinnerCountsInElections}
use Rattle.dm_machine.proofs.FormLemmas.{form_of}
use Rattle.dm_machine.proofs.EachStepLaw.{each_step_holds}

-- refusals
abbrev are_same : Option Refusal → Option Refusal → Bool
are_same None None = true
are_same (Some NotClosed) (Some NotClosed) = true
are_same (Some NotOpen) (Some NotOpen) = true
are_same _ _ = false

same : (a b : Option Refusal) → are_same a b ≡ true → a ≡ b
same None None e = refl
same (Some NotClosed) (Some NotClosed) e = refl
same (Some NotOpen) (Some NotOpen) e = refl
same None (Some r) e = absurd (cc e)
same (Some NotClosed) None e = absurd (cc e)
same (Some NotOpen) None e = absurd (cc e)
same (Some NotClosed) (Some NotOpen) e = absurd (cc e)
same (Some NotOpen) (Some NotClosed) e = absurd (cc e)

abbrev is_by_state : StepTest
is_by_state n at i o = are_same (refused_as o) (node_refusal n.state i)

by_state : (i r c : Conn) → IsTrue (passes_of is_by_state i r c)
unfolding everywhere
by_state i r c = refl

pub refuses_by_state : RefusesByState
refuses_by_state n i wins shaped =
    same (refused_as (machine_outcome n i wins)) (node_refusal n.state i) (each_step_holds is_by_state by_state n i wins shaped)

-- elections
loses_alike : (n : Node) → Form n → (e : TableEvent) (new : Option Conn) (wins : Bool) →
    by_table n e new (holds_elections n.state && wins) ≡ by_table n e new wins
loses_alike n (wait_i_cea i) e new wins = refl
loses_alike n (wait_conn_ack_elect i r apart) e new wins = refl
loses_alike n closed RConnCer new wins = refl
loses_alike n closed _ new wins = refl
loses_alike n (wait_conn_ack i) RConnCer new wins = refl
loses_alike n (wait_conn_ack i) _ new wins = refl
loses_alike n (wait_returns i r apart) RConnCer new wins = refl
loses_alike n (wait_returns i r apart) _ new wins = refl
loses_alike n (r_open r k few) RConnCer new wins = refl
loses_alike n (r_open r k few) _ new wins = refl
loses_alike n (i_open i k few) RConnCer new wins = refl
loses_alike n (i_open i k few) _ new wins = refl
loses_alike n (closing role x) RConnCer new wins = refl
loses_alike n (closing role x) _ new wins = refl

pub winner_counts : WinnerCountsInElections
winner_counts n i wins shaped = loses_alike n (form_of n shaped) (event_of n i) (conn_named i) wins
