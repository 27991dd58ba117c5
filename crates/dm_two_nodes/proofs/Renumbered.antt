-- What the state machine does under other numbers of connections.
use Rattle.std.proofs.Common.{◌≡◌, ℕ, Bool, true, false, if◌then◌else◌, Option, Some, None, List, [], ◌∷◌, ◌++◌, refl, sym, ap, ◌∙◌}
use Rattle.dm_machine.specs.declared.connection.Conn.{Conn}
use Rattle.dm_machine.specs.declared.phase.Role.{Role}
use Rattle.dm_machine.specs.declared.phase.Role.TheVariants.{Initiated, Accepted}
use Rattle.dm_machine.specs.declared.outputs.Command.{Command}
use Rattle.dm_machine.specs.declared.outputs.Command.TheVariants.{Connect, SendCer, SendCea, SendRefusal, SendDwr, SendDwa, SendDpr, SendDpa, SendSubmit, Close}
use Rattle.dm_machine.specs.Table.{TableEvent, Start, IRcvConnNack, WinElection, SendMessage, Stop, Act, ISndConnReq, RAccept, RSndCea, ISndCer, Error, IDisc, RDisc, RReject, XSndMessage, XSndDwa, XSndDpr, XSndDpa, XDisc, RSndRefusal, XSndRefusal, XSndDwr, Row}
use Rattle.dm_machine.specs.Rows.{rows, row_in}
use Rattle.dm_machine.specs.Node.{Node, node_at, is_same_role, held_as, only_held, without, pair_of}
use Rattle.dm_machine.specs.Moves.{to_one, commands_of, held_after, all_commands, all_held, held_at, count_after, NodeOutcome, NodeMoved, NodeRefused, by_row, by_no_row, by_event, raises_win, after_commands, then_won, by_table}
use Rattle.dm_two_nodes.specs.Numbering.{renumbered, renumbered_held, renumbered_node, renumbered_command, renumbered_commands, renumbered_outcome}

abbrev pub renumbered_new : (ℕ → ℕ) → Option Conn → Option Conn
renumbered_new f None = None
renumbered_new f (Some c) = Some (renumbered f c)

renumbered_commands-append : (f : ℕ → ℕ) (xs ys : List Command) →
    renumbered_commands f (xs ++ ys) ≡ renumbered_commands f xs ++ renumbered_commands f ys
renumbered_commands-append f [] ys = refl
renumbered_commands-append f (x ∷ xs) ys = ap (λ (t : List Command). renumbered_command f x ∷ t)
    (renumbered_commands-append f xs ys)

renumbered_held-append : (f : ℕ → ℕ) (xs ys : List (Role × Conn)) →
    renumbered_held f (xs ++ ys) ≡ renumbered_held f xs ++ renumbered_held f ys
renumbered_held-append f [] ys = refl
renumbered_held-append f (x ∷ xs) ys =
    ap (λ (t : List (Role × Conn)). (x.0, renumbered f x.1) ∷ t) (renumbered_held-append f xs ys)

held_if : (f : ℕ → ℕ) (b : Bool) (x : Conn) (o named : Option Conn) → o ≡ renumbered_new f named →
    (if b then Some (renumbered f x) else o) ≡ renumbered_new f (if b then Some x else named)
held_if f true x o named h = refl
held_if f false x o named h = h

pub held_as-renumbered : (f : ℕ → ℕ) (role : Role) (held : List (Role × Conn)) →
    held_as role (renumbered_held f held) ≡ renumbered_new f (held_as role held)
held_as-renumbered f role [] = refl
held_as-renumbered f role (p ∷ ps) = held_if f (is_same_role p.0 role) p.1 (held_as role (renumbered_held f ps))
    (held_as role ps) (held_as-renumbered f role ps)

only_held-renumbered : (f : ℕ → ℕ) (held : List (Role × Conn)) →
    only_held (renumbered_held f held) ≡ renumbered_new f (only_held held)
only_held-renumbered f [] = refl
only_held-renumbered f (p ∷ ps) = refl

without_if : (f : ℕ → ℕ) (b : Bool) (p : Role × Conn) (ps qs : List (Role × Conn)) → ps ≡ renumbered_held f qs →
    (if b then ps else (p.0, renumbered f p.1) ∷ ps) ≡ renumbered_held f (if b then qs else p ∷ qs)
without_if f true p ps qs h = h
without_if f false p ps qs h = ap (λ (t : List (Role × Conn)). (p.0, renumbered f p.1) ∷ t) h

without-renumbered : (f : ℕ → ℕ) (role : Role) (held : List (Role × Conn)) →
    without role (renumbered_held f held) ≡ renumbered_held f (without role held)
without-renumbered f role [] = refl
without-renumbered f role (p ∷ ps) = without_if f (is_same_role p.0 role) p (without role (renumbered_held f ps))
    (without role ps) (without-renumbered f role ps)

first_held : (f : ℕ → ℕ) (new : Option Conn) (held : List (Role × Conn)) →
    pair_of Initiated (renumbered_new f new) ++ renumbered_held f held ≡ renumbered_held f (pair_of Initiated new ++ held)
first_held f None held = refl
first_held f (Some c) held = refl

last_held : (f : ℕ → ℕ) (new : Option Conn) (held : List (Role × Conn)) →
    renumbered_held f held ++ pair_of Accepted (renumbered_new f new) ≡ renumbered_held f (held ++ pair_of Accepted new)
last_held f None held = sym (renumbered_held-append f held [])
last_held f (Some c) held = sym (renumbered_held-append f held ((Accepted, c) ∷ []))

to_one-renumbered : (f : ℕ → ℕ) (make : Conn → Command) → ((c : Conn) → make (renumbered f c) ≡ renumbered_command f (make c)) →
    (o named : Option Conn) → o ≡ renumbered_new f named → to_one make o ≡ renumbered_commands f (to_one make named)
to_one-renumbered f make h o None e = ap (to_one make) e
to_one-renumbered f make h o (Some c) e = ap (to_one make) e ∙ ap (λ (a : Command). a ∷ []) (h c)

to_role : (f : ℕ → ℕ) (make : Conn → Command) → ((c : Conn) → make (renumbered f c) ≡ renumbered_command f (make c)) →
    (role : Role) (held : List (Role × Conn)) →
    to_one make (held_as role (renumbered_held f held)) ≡ renumbered_commands f (to_one make (held_as role held))
to_role f make h role held = to_one-renumbered f make h (held_as role (renumbered_held f held)) (held_as role held)
    (held_as-renumbered f role held)

to_only : (f : ℕ → ℕ) (make : Conn → Command) → ((c : Conn) → make (renumbered f c) ≡ renumbered_command f (make c)) →
    (held : List (Role × Conn)) →
    to_one make (only_held (renumbered_held f held)) ≡ renumbered_commands f (to_one make (only_held held))
to_only f make h held = to_one-renumbered f make h (only_held (renumbered_held f held)) (only_held held)
    (only_held-renumbered f held)

appended : (f : ℕ → ℕ) (xs ys us vs : List Command) → xs ≡ renumbered_commands f us → ys ≡ renumbered_commands f vs →
    xs ++ ys ≡ renumbered_commands f (us ++ vs)
appended f xs ys us vs e d =
    ap (λ (t : List Command). t ++ ys) e ∙
    (ap (λ (t : List Command). renumbered_commands f us ++ t) d ∙ sym (renumbered_commands-append f us vs))

commands_of-renumbered : (f : ℕ → ℕ) (a : Act) (new : Option Conn) (held : List (Role × Conn)) →
    commands_of a (renumbered_new f new) (renumbered_held f held) ≡ renumbered_commands f (commands_of a new held)
commands_of-renumbered f ISndConnReq new held = to_one-renumbered f Connect (λ c. refl) (renumbered_new f new) new refl
commands_of-renumbered f RSndCea new held = to_role f SendCea (λ c. refl) Accepted held
commands_of-renumbered f ISndCer new held = to_role f SendCer (λ c. refl) Initiated held
commands_of-renumbered f Error new held =
    appended f (to_one Close (held_as Initiated (renumbered_held f held)))
    (to_one Close (held_as Accepted (renumbered_held f held))) (to_one Close (held_as Initiated held))
    (to_one Close (held_as Accepted held)) (to_role f Close (λ c. refl) Initiated held)
    (to_role f Close (λ c. refl) Accepted held)
commands_of-renumbered f IDisc new held = to_role f Close (λ c. refl) Initiated held
commands_of-renumbered f RDisc new held = to_role f Close (λ c. refl) Accepted held
commands_of-renumbered f RReject new held = to_one-renumbered f Close (λ c. refl) (renumbered_new f new) new refl
commands_of-renumbered f XSndMessage new held = to_only f SendSubmit (λ c. refl) held
commands_of-renumbered f XSndDwa new held = to_only f SendDwa (λ c. refl) held
commands_of-renumbered f XSndDpr new held = to_only f SendDpr (λ c. refl) held
commands_of-renumbered f XSndDpa new held = to_only f SendDpa (λ c. refl) held
commands_of-renumbered f XDisc new held = to_only f Close (λ c. refl) held
commands_of-renumbered f RSndRefusal new held = to_one-renumbered f SendRefusal (λ c. refl) (renumbered_new f new) new refl
commands_of-renumbered f XSndRefusal new held = to_only f SendRefusal (λ c. refl) held
commands_of-renumbered f XSndDwr new held = to_only f SendDwr (λ c. refl) held
commands_of-renumbered f _ new held = refl

held_by_table-renumbered : (f : ℕ → ℕ) (a : Act) (new : Option Conn) (held : List (Role × Conn)) →
    held_after a (renumbered_new f new) (renumbered_held f held) ≡ renumbered_held f (held_after a new held)
held_by_table-renumbered f ISndConnReq new held = first_held f new held
held_by_table-renumbered f RAccept new held = last_held f new held
held_by_table-renumbered f IDisc new held = without-renumbered f Initiated held
held_by_table-renumbered f RDisc new held = without-renumbered f Accepted held
held_by_table-renumbered f _ new held = refl

all_commands-renumbered : (f : ℕ → ℕ) (acts : List Act) (new : Option Conn) (held : List (Role × Conn)) →
    all_commands acts (renumbered_new f new) (renumbered_held f held) ≡ renumbered_commands f (all_commands acts new held)
all_commands-renumbered f [] new held = refl
all_commands-renumbered f (a ∷ acts) new held =
    appended f (commands_of a (renumbered_new f new) (renumbered_held f held))
    (all_commands acts (renumbered_new f new) (held_after a (renumbered_new f new) (renumbered_held f held)))
    (commands_of a new held) (all_commands acts new (held_after a new held)) (commands_of-renumbered f a new held)
    (ap (all_commands acts (renumbered_new f new)) (held_by_table-renumbered f a new held) ∙
    all_commands-renumbered f acts new (held_after a new held))

all_held-renumbered : (f : ℕ → ℕ) (acts : List Act) (new : Option Conn) (held : List (Role × Conn)) →
    all_held acts (renumbered_new f new) (renumbered_held f held) ≡ renumbered_held f (all_held acts new held)
all_held-renumbered f [] new held = refl
all_held-renumbered f (a ∷ acts) new held =
    ap (all_held acts (renumbered_new f new)) (held_by_table-renumbered f a new held) ∙
    all_held-renumbered f acts new (held_after a new held)

held_at-renumbered : (f : ℕ → ℕ) (e : TableEvent) (held : List (Role × Conn)) →
    held_at e (renumbered_held f held) ≡ renumbered_held f (held_at e held)
held_at-renumbered f IRcvConnNack held = without-renumbered f Initiated held
held_at-renumbered f _ held = refl

by_row-renumbered : (f : ℕ → ℕ) (r : Row) (n : Node) (e : TableEvent) (new : Option Conn) →
    by_row r (renumbered_node f n) e (renumbered_new f new) ≡ renumbered_outcome f (by_row r n e new)
by_row-renumbered f r n e new =
    let count = count_after n.state r.next e n.count in
    let at = held_at-renumbered f e n.held in
    ap (λ (held : List (Role × Conn)). NodeMoved (all_commands r.acts (renumbered_new f new) held)
    (node_at r.next (all_held r.acts (renumbered_new f new) held) count)) at
    ∙ (ap (λ (commands : List Command). NodeMoved commands
    (node_at r.next (all_held r.acts (renumbered_new f new) (renumbered_held f (held_at e n.held))) count))
    (all_commands-renumbered f r.acts new (held_at e n.held))
    ∙ ap (λ (held : List (Role × Conn)). NodeMoved (renumbered_commands f (all_commands r.acts new (held_at e n.held)))
    (node_at r.next held count)) (all_held-renumbered f r.acts new (held_at e n.held)))

by_no_row-renumbered : (f : ℕ → ℕ) (n : Node) (e : TableEvent) →
    by_no_row (renumbered_node f n) e ≡ renumbered_outcome f (by_no_row n e)
by_no_row-renumbered f n Start = refl
by_no_row-renumbered f n Stop = refl
by_no_row-renumbered f n SendMessage = refl
by_no_row-renumbered f n _ = refl

by_event-renumbered : (f : ℕ → ℕ) (o : Option Row) (n : Node) (e : TableEvent) (new : Option Conn) →
    by_event o (renumbered_node f n) e (renumbered_new f new) ≡ renumbered_outcome f (by_event o n e new)
by_event-renumbered f None n e new = by_no_row-renumbered f n e
by_event-renumbered f (Some r) n e new = by_row-renumbered f r n e new

after_commands-renumbered : (f : ℕ → ℕ) (before : List Command) (o : NodeOutcome) →
    after_commands (renumbered_commands f before) (renumbered_outcome f o) ≡ renumbered_outcome f (after_commands before o)
after_commands-renumbered f before (NodeRefused r) = refl
after_commands-renumbered f before (NodeMoved more n) = ap (λ (t : List Command). NodeMoved t (renumbered_node f n))
    (sym (renumbered_commands-append f before more))

then_won-renumbered : (f : ℕ → ℕ) (o : NodeOutcome) → then_won (renumbered_outcome f o) ≡ renumbered_outcome f (then_won o)
then_won-renumbered f (NodeRefused r) = refl
then_won-renumbered f (NodeMoved before n) =
    ap (after_commands (renumbered_commands f before))
    (by_event-renumbered f (row_in rows n.state WinElection) n WinElection None)
    ∙ after_commands-renumbered f before (by_event (row_in rows n.state WinElection) n WinElection None)

won_if : (f : ℕ → ℕ) (b : Bool) (o from : NodeOutcome) → o ≡ renumbered_outcome f from →
    (if b then then_won o else o) ≡ renumbered_outcome f (if b then then_won from else from)
won_if f true o from h = ap then_won h ∙ then_won-renumbered f from
won_if f false o from h = h

pub by_table-renumbered : (f : ℕ → ℕ) (n : Node) (e : TableEvent) (new : Option Conn) (wins : Bool) →
    by_table (renumbered_node f n) e (renumbered_new f new) wins ≡ renumbered_outcome f (by_table n e new wins)
by_table-renumbered f n e new wins =
    let found = row_in rows n.state e in
    won_if f (raises_win found wins) (by_event found (renumbered_node f n) e (renumbered_new f new)) (by_event found n e new)
    (by_event-renumbered f found n e new)
