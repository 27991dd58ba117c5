-- An outcome asks for no connection's number once the input is read: it is the same whatever the connections are
-- called.
use Rattle.std.proofs.Common.{◌≡◌, Bool, true, false, if◌then◌else◌, Option, Some, None, List, [], ◌∷◌, ◌++◌, refl, sym, ap, ◌∙◌}
use Rattle.dm_machine.specs.declared.connection.Conn.{Conn}
use Rattle.dm_machine.specs.declared.phase.Role.{Role}
use Rattle.dm_machine.specs.declared.phase.Role.TheVariants.{Initiated, Accepted}
use Rattle.dm_machine.specs.declared.inputs.Input.{Input}
use Rattle.dm_machine.specs.declared.inputs.Input.TheVariants as input
use Rattle.dm_machine.specs.declared.outputs.Command.{Command}
use Rattle.dm_machine.specs.declared.outputs.Command.TheVariants.{Connect, SendCer, SendCea, SendRefusal, SendDwr, SendDwa, SendDpr, SendDpa, SendSubmit, Close, Up}
use Rattle.dm_machine.specs.Table.{TableEvent, Start, IRcvConnNack, WinElection, SendMessage, Stop, Act, ISndConnReq, RAccept, RSndCea, ISndCer, Error, IDisc, RDisc, RReject, XSndMessage, XSndDwa, XSndDpr, XSndDpa, XDisc, RSndRefusal, XSndRefusal, XSndDwr, Row}
use Rattle.dm_machine.specs.Rows.{rows, row_in}
use Rattle.dm_machine.specs.Node.{Node, node_at, is_same_role, held_as, only_held, without, pair_of}
use Rattle.dm_machine.specs.Moves.{to_one, commands_of, held_after, all_commands, all_held, held_at, count_after, NodeOutcome, NodeMoved, NodeRefused, by_row, by_no_row, by_event, raises_win, after_commands, then_won, by_table}

-- everything with each connection put through a map
abbrev pub renamed_held : (Conn → Conn) → List (Role × Conn) → List (Role × Conn)
renamed_held f [] = []
renamed_held f (p ∷ ps) = (p.0, f p.1) ∷ renamed_held f ps

abbrev pub renamed_node : (Conn → Conn) → Node → Node
renamed_node f n = node_at n.state (renamed_held f n.held) n.count

abbrev pub renamed_new : (Conn → Conn) → Option Conn → Option Conn
renamed_new f None = None
renamed_new f (Some c) = Some (f c)

abbrev pub renamed_input : (Conn → Conn) → Input → Input
renamed_input f (input.Start c) = input.Start (f c)
renamed_input f (input.Ack c) = input.Ack (f c)
renamed_input f (input.Nack c) = input.Nack (f c)
renamed_input f (input.Gone c) = input.Gone (f c)
renamed_input f (input.Heard c w) = input.Heard (f c) w
renamed_input f i = i

abbrev pub renamed_command : (Conn → Conn) → Command → Command
renamed_command f (Connect c) = Connect (f c)
renamed_command f (SendCer c) = SendCer (f c)
renamed_command f (SendCea c) = SendCea (f c)
renamed_command f (SendRefusal c) = SendRefusal (f c)
renamed_command f (SendDwr c) = SendDwr (f c)
renamed_command f (SendDwa c) = SendDwa (f c)
renamed_command f (SendDpr c) = SendDpr (f c)
renamed_command f (SendDpa c) = SendDpa (f c)
renamed_command f (SendSubmit c) = SendSubmit (f c)
renamed_command f (Close c) = Close (f c)
renamed_command f Up = Up

abbrev pub renamed_commands : (Conn → Conn) → List Command → List Command
renamed_commands f [] = []
renamed_commands f (a ∷ more) = renamed_command f a ∷ renamed_commands f more

abbrev pub renamed_outcome : (Conn → Conn) → NodeOutcome → NodeOutcome
renamed_outcome f (NodeMoved commands n) = NodeMoved (renamed_commands f commands) (renamed_node f n)
renamed_outcome f (NodeRefused r) = NodeRefused r

renamed_commands-append : (f : Conn → Conn) (xs ys : List Command) →
    renamed_commands f (xs ++ ys) ≡ renamed_commands f xs ++ renamed_commands f ys
renamed_commands-append f [] ys = refl
renamed_commands-append f (x ∷ xs) ys = ap (λ (t : List Command). renamed_command f x ∷ t)
    (renamed_commands-append f xs ys)

renamed_held-append : (f : Conn → Conn) (xs ys : List (Role × Conn)) →
    renamed_held f (xs ++ ys) ≡ renamed_held f xs ++ renamed_held f ys
renamed_held-append f [] ys = refl
renamed_held-append f (x ∷ xs) ys = ap (λ (t : List (Role × Conn)). (x.0, f x.1) ∷ t) (renamed_held-append f xs ys)

held_if : (f : Conn → Conn) (b : Bool) (x : Conn) (o named : Option Conn) → o ≡ renamed_new f named →
    (if b then Some (f x) else o) ≡ renamed_new f (if b then Some x else named)
held_if f true x o named h = refl
held_if f false x o named h = h

held_as-renamed : (f : Conn → Conn) (role : Role) (held : List (Role × Conn)) →
    held_as role (renamed_held f held) ≡ renamed_new f (held_as role held)
held_as-renamed f role [] = refl
held_as-renamed f role (p ∷ ps) = held_if f (is_same_role p.0 role) p.1 (held_as role (renamed_held f ps))
    (held_as role ps) (held_as-renamed f role ps)

only_held-renamed : (f : Conn → Conn) (held : List (Role × Conn)) →
    only_held (renamed_held f held) ≡ renamed_new f (only_held held)
only_held-renamed f [] = refl
only_held-renamed f (p ∷ ps) = refl

without_if : (f : Conn → Conn) (b : Bool) (p : Role × Conn) (ps qs : List (Role × Conn)) → ps ≡ renamed_held f qs →
    (if b then ps else (p.0, f p.1) ∷ ps) ≡ renamed_held f (if b then qs else p ∷ qs)
without_if f true p ps qs h = h
without_if f false p ps qs h = ap (λ (t : List (Role × Conn)). (p.0, f p.1) ∷ t) h

without-renamed : (f : Conn → Conn) (role : Role) (held : List (Role × Conn)) →
    without role (renamed_held f held) ≡ renamed_held f (without role held)
without-renamed f role [] = refl
without-renamed f role (p ∷ ps) = without_if f (is_same_role p.0 role) p (without role (renamed_held f ps))
    (without role ps) (without-renamed f role ps)

first_held : (f : Conn → Conn) (new : Option Conn) (held : List (Role × Conn)) →
    pair_of Initiated (renamed_new f new) ++ renamed_held f held ≡ renamed_held f (pair_of Initiated new ++ held)
first_held f None held = refl
first_held f (Some c) held = refl

last_held : (f : Conn → Conn) (new : Option Conn) (held : List (Role × Conn)) →
    renamed_held f held ++ pair_of Accepted (renamed_new f new) ≡ renamed_held f (held ++ pair_of Accepted new)
last_held f None held = sym (renamed_held-append f held [])
last_held f (Some c) held = sym (renamed_held-append f held ((Accepted, c) ∷ []))

to_one-renamed : (f : Conn → Conn) (make : Conn → Command) → ((c : Conn) → make (f c) ≡ renamed_command f (make c)) →
    (o named : Option Conn) → o ≡ renamed_new f named → to_one make o ≡ renamed_commands f (to_one make named)
to_one-renamed f make h o None e = ap (to_one make) e
to_one-renamed f make h o (Some c) e = ap (to_one make) e ∙ ap (λ (a : Command). a ∷ []) (h c)

to_role : (f : Conn → Conn) (make : Conn → Command) → ((c : Conn) → make (f c) ≡ renamed_command f (make c)) →
    (role : Role) (held : List (Role × Conn)) →
    to_one make (held_as role (renamed_held f held)) ≡ renamed_commands f (to_one make (held_as role held))
to_role f make h role held = to_one-renamed f make h (held_as role (renamed_held f held)) (held_as role held)
    (held_as-renamed f role held)

to_only : (f : Conn → Conn) (make : Conn → Command) → ((c : Conn) → make (f c) ≡ renamed_command f (make c)) →
    (held : List (Role × Conn)) →
    to_one make (only_held (renamed_held f held)) ≡ renamed_commands f (to_one make (only_held held))
to_only f make h held = to_one-renamed f make h (only_held (renamed_held f held)) (only_held held)
    (only_held-renamed f held)

appended : (f : Conn → Conn) (xs ys us vs : List Command) → xs ≡ renamed_commands f us → ys ≡ renamed_commands f vs →
    xs ++ ys ≡ renamed_commands f (us ++ vs)
appended f xs ys us vs e d =
    ap (λ (t : List Command). t ++ ys) e ∙
    (ap (λ (t : List Command). renamed_commands f us ++ t) d ∙ sym (renamed_commands-append f us vs))

commands_of-renamed : (f : Conn → Conn) (a : Act) (new : Option Conn) (held : List (Role × Conn)) →
    commands_of a (renamed_new f new) (renamed_held f held) ≡ renamed_commands f (commands_of a new held)
commands_of-renamed f ISndConnReq new held = to_one-renamed f Connect (λ c. refl) (renamed_new f new) new refl
commands_of-renamed f RSndCea new held = to_role f SendCea (λ c. refl) Accepted held
commands_of-renamed f ISndCer new held = to_role f SendCer (λ c. refl) Initiated held
commands_of-renamed f Error new held =
    appended f (to_one Close (held_as Initiated (renamed_held f held)))
    (to_one Close (held_as Accepted (renamed_held f held))) (to_one Close (held_as Initiated held))
    (to_one Close (held_as Accepted held)) (to_role f Close (λ c. refl) Initiated held)
    (to_role f Close (λ c. refl) Accepted held)
commands_of-renamed f IDisc new held = to_role f Close (λ c. refl) Initiated held
commands_of-renamed f RDisc new held = to_role f Close (λ c. refl) Accepted held
commands_of-renamed f RReject new held = to_one-renamed f Close (λ c. refl) (renamed_new f new) new refl
commands_of-renamed f XSndMessage new held = to_only f SendSubmit (λ c. refl) held
commands_of-renamed f XSndDwa new held = to_only f SendDwa (λ c. refl) held
commands_of-renamed f XSndDpr new held = to_only f SendDpr (λ c. refl) held
commands_of-renamed f XSndDpa new held = to_only f SendDpa (λ c. refl) held
commands_of-renamed f XDisc new held = to_only f Close (λ c. refl) held
commands_of-renamed f RSndRefusal new held = to_one-renamed f SendRefusal (λ c. refl) (renamed_new f new) new refl
commands_of-renamed f XSndRefusal new held = to_only f SendRefusal (λ c. refl) held
commands_of-renamed f XSndDwr new held = to_only f SendDwr (λ c. refl) held
commands_of-renamed f _ new held = refl

held_by_table-renamed : (f : Conn → Conn) (a : Act) (new : Option Conn) (held : List (Role × Conn)) →
    held_after a (renamed_new f new) (renamed_held f held) ≡ renamed_held f (held_after a new held)
held_by_table-renamed f ISndConnReq new held = first_held f new held
held_by_table-renamed f RAccept new held = last_held f new held
held_by_table-renamed f IDisc new held = without-renamed f Initiated held
held_by_table-renamed f RDisc new held = without-renamed f Accepted held
held_by_table-renamed f _ new held = refl

all_commands-renamed : (f : Conn → Conn) (acts : List Act) (new : Option Conn) (held : List (Role × Conn)) →
    all_commands acts (renamed_new f new) (renamed_held f held) ≡ renamed_commands f (all_commands acts new held)
all_commands-renamed f [] new held = refl
all_commands-renamed f (a ∷ acts) new held =
    appended f (commands_of a (renamed_new f new) (renamed_held f held))
    (all_commands acts (renamed_new f new) (held_after a (renamed_new f new) (renamed_held f held)))
    (commands_of a new held) (all_commands acts new (held_after a new held)) (commands_of-renamed f a new held)
    (ap (all_commands acts (renamed_new f new)) (held_by_table-renamed f a new held) ∙
    all_commands-renamed f acts new (held_after a new held))

all_held-renamed : (f : Conn → Conn) (acts : List Act) (new : Option Conn) (held : List (Role × Conn)) →
    all_held acts (renamed_new f new) (renamed_held f held) ≡ renamed_held f (all_held acts new held)
all_held-renamed f [] new held = refl
all_held-renamed f (a ∷ acts) new held =
    ap (all_held acts (renamed_new f new)) (held_by_table-renamed f a new held) ∙
    all_held-renamed f acts new (held_after a new held)

held_at-renamed : (f : Conn → Conn) (e : TableEvent) (held : List (Role × Conn)) →
    held_at e (renamed_held f held) ≡ renamed_held f (held_at e held)
held_at-renamed f IRcvConnNack held = without-renamed f Initiated held
held_at-renamed f _ held = refl

by_row-renamed : (f : Conn → Conn) (r : Row) (n : Node) (e : TableEvent) (new : Option Conn) →
    by_row r (renamed_node f n) e (renamed_new f new) ≡ renamed_outcome f (by_row r n e new)
by_row-renamed f r n e new =
    let count = count_after n.state r.next e n.count in
    let at = held_at-renamed f e n.held in
    ap (λ (held : List (Role × Conn)). NodeMoved (all_commands r.acts (renamed_new f new) held)
    (node_at r.next (all_held r.acts (renamed_new f new) held) count)) at
    ∙ (ap (λ (commands : List Command). NodeMoved commands
    (node_at r.next (all_held r.acts (renamed_new f new) (renamed_held f (held_at e n.held))) count))
    (all_commands-renamed f r.acts new (held_at e n.held))
    ∙ ap (λ (held : List (Role × Conn)). NodeMoved (renamed_commands f (all_commands r.acts new (held_at e n.held)))
    (node_at r.next held count)) (all_held-renamed f r.acts new (held_at e n.held)))

by_no_row-renamed : (f : Conn → Conn) (n : Node) (e : TableEvent) →
    by_no_row (renamed_node f n) e ≡ renamed_outcome f (by_no_row n e)
by_no_row-renamed f n Start = refl
by_no_row-renamed f n Stop = refl
by_no_row-renamed f n SendMessage = refl
by_no_row-renamed f n _ = refl

by_event-renamed : (f : Conn → Conn) (o : Option Row) (n : Node) (e : TableEvent) (new : Option Conn) →
    by_event o (renamed_node f n) e (renamed_new f new) ≡ renamed_outcome f (by_event o n e new)
by_event-renamed f None n e new = by_no_row-renamed f n e
by_event-renamed f (Some r) n e new = by_row-renamed f r n e new

after_commands-renamed : (f : Conn → Conn) (before : List Command) (o : NodeOutcome) →
    after_commands (renamed_commands f before) (renamed_outcome f o) ≡ renamed_outcome f (after_commands before o)
after_commands-renamed f before (NodeRefused r) = refl
after_commands-renamed f before (NodeMoved more n) = ap (λ (t : List Command). NodeMoved t (renamed_node f n))
    (sym (renamed_commands-append f before more))

then_won-renamed : (f : Conn → Conn) (o : NodeOutcome) → then_won (renamed_outcome f o) ≡ renamed_outcome f (then_won o)
then_won-renamed f (NodeRefused r) = refl
then_won-renamed f (NodeMoved before n) =
    ap (after_commands (renamed_commands f before))
    (by_event-renamed f (row_in rows n.state WinElection) n WinElection None)
    ∙ after_commands-renamed f before (by_event (row_in rows n.state WinElection) n WinElection None)

won_if : (f : Conn → Conn) (b : Bool) (o from : NodeOutcome) → o ≡ renamed_outcome f from →
    (if b then then_won o else o) ≡ renamed_outcome f (if b then then_won from else from)
won_if f true o from h = ap then_won h ∙ then_won-renamed f from
won_if f false o from h = h

pub by_table-renamed : (f : Conn → Conn) (n : Node) (e : TableEvent) (new : Option Conn) (wins : Bool) →
    by_table (renamed_node f n) e (renamed_new f new) wins ≡ renamed_outcome f (by_table n e new wins)
by_table-renamed f n e new wins =
    let found = row_in rows n.state e in
    won_if f (raises_win found wins) (by_event found (renamed_node f n) e (renamed_new f new)) (by_event found n e new)
    (by_event-renamed f found n e new)
