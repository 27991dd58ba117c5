-- What would not fit its field has no spelling.
use Rattle.std.proofs.Common.{◌≡◌, ◌<◌, inl, inr, ℕ, zero, suc, List, [], ◌∷◌, length, get_or, ap, arith, length-append, ◌∙◌}
use Rattle.dm_wire.specs.declared.avp.Avp.{Avp}
use Rattle.dm_wire.specs.declared.message.Message.{Message}
use Rattle.dm_wire.specs.Spelling.{SpellsAvp, SpellsList, SpellsMessage}
use Rattle.dm_wire.specs.Canonical.{message_size}
use Rattle.dm_wire.specs.Limits.{IsLongList, IsLongMessage}
use Rattle.dm_wire.proofs.Canonicals.{list_size}
use Rattle.dm_wire.proofs.Messages.{header_len}

-- each AVP of a list that is spelled is spelled
pub list_at : (l : List Avp) (s : List ℕ) (i : ℕ) (d : Avp) → i < length l → SpellsList l s →
    (t : List ℕ) × SpellsAvp (get_or l i d) t
list_at [] s i d h sp = absurd (omega arith)
list_at (a ∷ l) s zero d h sp = (sp.0, sp.3)
list_at (a ∷ l) s (suc i) d h sp = list_at l sp.1 i d (omega arith) sp.4

pub long_list : (l : List Avp) → IsLongList l → (s : List ℕ) → SpellsList l s → ⊥
long_list l long s sp =
    let at = list_at l s long.0 long.1 long.2 sp in
    let spelled : SpellsAvp long.1 at.0 = rw long.3 at at.1 in
    omega (arith, spelled.length_fits, long.4)

-- every spelling of a message has as many octets as the canonical one
pub spelled_size : (m : Message) (s : List ℕ) → SpellsMessage m s → length s ≡ message_size m
spelled_size m s sp =
    let front = header_len m.header (length s) sp.front sp.header in
    let rest = list_size m.avps sp.rest sp.avps in
    ap length sp.whole ∙ omega (arith, length-append sp.front sp.rest, front, rest)

pub long_message : (m : Message) → IsLongMessage m → (s : List ℕ) → SpellsMessage m s → ⊥
long_message m (inl long) s sp = long_list m.avps long sp.rest sp.avps
long_message m (inr (inl size)) s sp = let spelled = spelled_size m s sp in let fits = sp.header.size_fits in
    omega (arith, size)
long_message m (inr (inr command)) s sp = let fits = sp.header.command_fits in omega (arith, command)
