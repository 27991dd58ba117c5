-- A connection that is there stays there.
use Rattle.std.proofs.Common.{◌≡◌, ℕ, Bool, true, false, cond, nat_eq, is_some, Option, None, Some, refl, ap}
use Rattle.std.proofs.lemmas.Bool.{eq-eqb}
use Rattle.std.specs.Option.{option_map}
use Rattle.dm_machine.specs.declared.connection.Conn.{Conn}
use Rattle.dm_machine.specs.Moves.{is_open}
use Rattle.dm_peer.specs.declared.peer.Peer.{Peer}
use Rattle.dm_slots.specs.Intakes.{Intake, Intakes, is_there, is_conn_number, opened, changed, with_intake, with_max, new_intake, raised_at}
use Rattle.dm_slots.specs.Raised.{own_of, other_of, raised}

pub there_changed : (d c : ℕ) (change : Intake → Intake) (f : Intakes) → is_there c f ≡ true →
    is_there c (changed d change f) ≡ true
there_changed d c change f is = by (nat_eq d c) (f c) is where
  by : (b : Bool) (o : Option Intake) → is_some o ≡ true → is_some (cond b (option_map change o) o) ≡ true
  by true (Some i) e = refl
  by true None e = e
  by false o e = e

pub there_with : (d c : ℕ) (i : Intake) (f : Intakes) → is_there c f ≡ true → is_there c (with_intake d (Some i) f) ≡ true
there_with d c i f is = by (nat_eq d c) where
  by : (b : Bool) → is_some (cond b (Some i) (f c)) ≡ true
  by true = refl
  by false = is

pub there_opened : (max d c : ℕ) (f : Intakes) → is_there c f ≡ true → is_there c (opened max d f) ≡ true
there_opened max d c f is = by (is_there d f) where
  by : (b : Bool) → is_there c (cond b f (with_intake d (Some (new_intake max)) f)) ≡ true
  by true = is
  by false = there_with d c (new_intake max) f is

pub itself_opened : (max c : ℕ) (f : Intakes) → is_there c (opened max c f) ≡ true
itself_opened max c f = by (is_there c f) refl where
  by : (b : Bool) → is_there c f ≡ b → is_there c (cond b f (with_intake c (Some (new_intake max)) f)) ≡ true
  by true is = is
  by false is = ap (λ b. is_some (cond b (Some (new_intake max)) (f c))) (eq-eqb c c refl)

there_raised_at : (max c : ℕ) (o : Option Conn) (f : Intakes) → is_there c f ≡ true →
    is_there c (raised_at max o f) ≡ true
there_raised_at max c o f is = by (is_conn_number c o) (f c) is where
  by : (b : Bool) (i : Option Intake) → is_some i ≡ true → is_some (cond b (option_map (with_max max) i) i) ≡ true
  by true (Some i) e = refl
  by true None e = e
  by false i e = e

pub there_raised : (most c : ℕ) (q : Peer) (f : Intakes) → is_there c f ≡ true → is_there c (raised most q f) ≡ true
there_raised most c q f is = by (is_open q.standing.core.state) where
  by : (b : Bool) → is_there c (cond b (raised_at most (other_of q) (raised_at most (own_of q) f)) f) ≡ true
  by true = there_raised_at most c (other_of q) (raised_at most (own_of q) f) (there_raised_at most c (own_of q) f is)
  by false = is
