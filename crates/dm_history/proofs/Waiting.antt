-- What a peer keeps of a connection that waits: the number of the CER that was sent, the header of the one that came.
use Rattle.std.proofs.Common.{◌≡◌, ℕ, Bool, true, false, not, ◌&&◌, nat_eq, Option, None, Some, is_some, List, [], ◌∷◌, if◌then◌else◌, refl, sym, ap, ◌∙◌}
use Rattle.std.specs.Option.{option_eq}
use Rattle.std.proofs.lemmas.Bool.{eqb-true}
use Rattle.dm_wire.specs.declared.message.Header.{Header}
use Rattle.dm_base.specs.Commands.{base_command, is_base_command}
use Rattle.dm_base.specs.declared.base_command.BaseCommand.TheVariants.{CapabilitiesExchange}
use Rattle.dm_machine.specs.declared.connection.Conn.{Conn}
use Rattle.dm_machine.specs.declared.outputs.Command.{Command}
use Rattle.dm_machine.specs.declared.outputs.Command.TheVariants as command
use Rattle.dm_peer.specs.declared.standing.Awaited.{Awaited}
use Rattle.dm_machine.specs.Awaiting.{number_after}
use Rattle.dm_peer.specs.After.{request_in, awaited_by, awaited_of, is_cer}
use Rattle.dm_peer.specs.Acts.{is_unawaited}
use Rattle.dm_history.specs.History.{StandsAmong}
use Rattle.dm_history.proofs.Among.{further}

-- an answer of command 257 that isn't dropped has the number that is awaited
number_fits : (o : Option ℕ) (id : ℕ) → option_eq nat_eq o (Some id) ≡ true → o ≡ Some id
number_fits None id e = cc
number_fits (Some n) id e = ap Some (eqb-true n id e)

not_unawaited : (base fits : Bool) → base ≡ true → (base && not fits) ≡ false → fits ≡ true
not_unawaited true true b e = refl
not_unawaited true false b e = cc
not_unawaited false fits b e = cc

pub exchange_is_base : (command : ℕ) → base_command command ≡ Some CapabilitiesExchange →
    is_base_command command ≡ true
exchange_is_base command is = ap is_some is

pub awaited_number : (a : Awaited) (h : Header) → base_command h.command ≡ Some CapabilitiesExchange →
    h.request ≡ false →
    is_unawaited a h ≡ false → a.cea ≡ Some h.hop_id
awaited_number a h is answer e =
    let fits = option_eq nat_eq (awaited_of a h.command) (Some h.hop_id) in
    let e' = sym (ap (λ b. not b && (is_base_command h.command && not fits)) answer) ∙ e in
    let found = number_fits (awaited_of a h.command) h.hop_id
    (not_unawaited (is_base_command h.command) fits (exchange_is_base h.command is) e') in
    sym (ap (awaited_by a) is) ∙ found

-- nothing that there is
pub none_there : {A : Type 0} (b : Bool) (o : Option A) → is_some o ≡ b → b ≡ false → o ≡ None
none_there b None e f = refl
none_there b (Some x) e f = cc (e, f)

pub number_kept : (s sent : Bool) (next : ℕ) (old : Option ℕ) → s ≡ true → sent ≡ false →
    number_after s sent next old ≡ old
number_kept true false next old is none = refl
number_kept true true next old is none = cc
number_kept false sent next old is none = cc

-- where none was awaited before, the one that is awaited is new
pub number_set : (s sent : Bool) (next : ℕ) (old : Option ℕ) → s ≡ true → old ≡ None →
    is_some (number_after s sent next old) ≡ s → number_after s sent next old ≡ Some next
number_set true true next old is was e = refl
number_set true false next None is was e = cc e
number_set true false next (Some x) is was e = cc was
number_set false sent next old is was e = cc

pub header_kept : (s' s : Bool) (heard old : Option Header) → s' ≡ true → s ≡ true →
    (if s' then (if s then old else heard) else None) ≡ old
header_kept true true heard old e f = refl
header_kept true false heard old e f = cc
header_kept false s heard old e f = cc

pub header_set : (s' s : Bool) (heard old : Option Header) → s' ≡ true → s ≡ false →
    (if s' then (if s then old else heard) else None) ≡ heard
header_set true false heard old e f = refl
header_set true true heard old e f = cc
header_set false s heard old e f = cc

-- a CER that is the first request of commands is among them
abbrev pub CerSent : List Command → Type 0
CerSent l = (d : Conn) × StandsAmong l (command.SendCer d)

cer_later : (a : Command) (more : List Command) → CerSent more → CerSent (a ∷ more)
cer_later a more (d, there) = (d, further a (command.SendCer d) more there)

pub cer_among : (l : List Command) → is_cer (request_in l) ≡ true → CerSent l
cer_among [] e = absurd (cc e)
cer_among (command.SendCer d ∷ more) e = (d, ([], more, refl))
cer_among (command.SendDwr d ∷ more) e = absurd (cc e)
cer_among (command.SendDpr d ∷ more) e = absurd (cc e)
cer_among (command.Connect d ∷ more) e = cer_later (command.Connect d) more (cer_among more e)
cer_among (command.SendCea d ∷ more) e = cer_later (command.SendCea d) more (cer_among more e)
cer_among (command.SendRefusal d ∷ more) e = cer_later (command.SendRefusal d) more (cer_among more e)
cer_among (command.SendDwa d ∷ more) e = cer_later (command.SendDwa d) more (cer_among more e)
cer_among (command.SendDpa d ∷ more) e = cer_later (command.SendDpa d) more (cer_among more e)
cer_among (command.SendSubmit d ∷ more) e = cer_later (command.SendSubmit d) more (cer_among more e)
cer_among (command.Close d ∷ more) e = cer_later (command.Close d) more (cer_among more e)
cer_among (command.Up ∷ more) e = cer_later command.Up more (cer_among more e)
