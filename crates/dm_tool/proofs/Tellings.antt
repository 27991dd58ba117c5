-- Lines that tell messages, one after the other.
use Rattle.std.proofs.Common.{◌≡◌, List, [], ◌∷◌, ◌++◌, ℕ, append_assoc, append-nil, ap, sym, ◌∙◌, refl, subst}
use Rattle.dm_wire.specs.declared.avp.Avp.{Avp}
use Rattle.dm_wire.specs.declared.message.Header.{Header}
use Rattle.dm_wire.specs.declared.message.Message.{Message}
use Rattle.dm_tool.specs.Messages.{TellsAvp, TellsAvps, LinesTell, TellsAll}

-- the lines of one message
pub tells-one : (m : Message) (s : List (List ℕ)) → LinesTell m s → TellsAll (m ∷ []) s
tells-one m s h = (s, [], sym (append-nil s), h, refl)

pub tells-append : (l k : List Message) (s t : List (List ℕ)) → TellsAll l s → TellsAll k t → TellsAll (l ++ k) (s ++ t)
tells-append [] k s t h g = let All : List (List ℕ) → Type 0 = λ v. TellsAll k (v ++ t) in subst All (sym h) g
tells-append (m ∷ l) k s t h g =
    (h.0, h.1 ++ t, ap (λ v. v ++ t) h.2 ∙ append_assoc h.0 h.1 t, h.3, tells-append l k h.1 t h.4 g)

pub tells-split : (l k : List Message) (s : List (List ℕ)) → TellsAll (l ++ k) s
    → (a b : List (List ℕ)) × (s ≡ a ++ b) × TellsAll l a × TellsAll k b
tells-split [] k s h = ([], s, refl, refl, h)
tells-split (m ∷ l) k s h =
    let later = tells-split l k h.1 h.4 in (
      h.0 ++ later.0,
      later.1,
      h.2 ∙ ap (λ v. h.0 ++ v) later.2 ∙ sym (append_assoc h.0 later.0 later.1),
      (h.0, later.0, refl, h.3, later.3),
      later.4,
    )

avps-push : (l : List Avp) (a : Avp) (s : List (List ℕ)) (line : List ℕ) → TellsAvps l s → TellsAvp a line
    → TellsAvps (l ++ a ∷ []) (s ++ line ∷ [])
avps-push [] a [] line h g = (g, tt)
avps-push [] a (first ∷ s) line h g = absurd h
avps-push (b ∷ l) a [] line h g = absurd h
avps-push (b ∷ l) a (first ∷ s) line h g = (h.0, avps-push l a s line h.1 g)

-- the lines of a message, and one more AVP
pub message-push : (h : Header) (l : List Avp) (a : Avp) (s : List (List ℕ)) (line : List ℕ)
    → LinesTell (record { header = h; avps = l }) s → TellsAvp a line
    → LinesTell (record { header = h; avps = l ++ a ∷ [] }) (s ++ line ∷ [])
message-push h l a [] line told g = absurd told
message-push h l a (first ∷ s) line told g = (told.0, avps-push l a s line told.1 g)
