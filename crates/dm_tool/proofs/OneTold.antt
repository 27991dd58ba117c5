-- Lines tell one list of messages.
use Rattle.std.proofs.Common.{◌≡◌, ◌≢◌, inl, inr, Bool, true, false, Option, Ok, List, [], ◌∷◌, ℕ, codes, arith, ap}
use Rattle.std.proofs.Common.{sym, ◌∙◌, refl, subst}
use Rattle.hex.specs.Hex.{decode_of}
use Rattle.dm_wire.specs.declared.avp.Avp.{Avp}
use Rattle.dm_wire.specs.declared.message.Header.{Header}
use Rattle.dm_tool.specs.Text.{flag_mark}
use Rattle.dm_text.specs.Numbers.{TellsNumber}
use Rattle.dm_tool.specs.AvpWords.{TellsCode, TellsData}
use Rattle.dm_tool.specs.Messages.{TellsHeader, TellsAvp}
use Rattle.dm_tool.proofs.Slashes.{one_number, one_code}

-- a character tells one flag
one_mark : (letter : ℕ) (a b : Bool) → letter ≢ 45 → flag_mark a letter ≡ flag_mark b letter → a ≡ b
one_mark letter true true other h = refl
one_mark letter false false other h = refl
one_mark letter true false other h = absurd (other h)
one_mark letter false true other h = absurd (other (sym h))

abbrev made_header : Bool → Bool → Bool → Bool → ℕ → ℕ → ℕ → ℕ → Header
made_header r p e t c a h n =
    record {
      request = r;
      proxiable = p;
      error = e;
      retransmit = t;
      command = c;
      application = a;
      hop_id = h;
      end_id = n;
    }

abbrev made_avp : ℕ → Option ℕ → Bool → Bool → List ℕ → Avp
made_avp c v m p d = record { code = c; vendor = v; mandatory = m; protected = p; bytes = d }

-- the octets of two lists of characters, one by one
cells_four : {X : Type 0} {a b c d e f g h : X} → a ∷ b ∷ c ∷ d ∷ [] ≡ e ∷ f ∷ g ∷ h ∷ []
    → (a ≡ e) × (b ≡ f) × (c ≡ g) × (d ≡ h)
cells_four k = (cc, cc, cc, cc)

cells_three : {X : Type 0} {a b c e f g : X} → a ∷ b ∷ c ∷ [] ≡ e ∷ f ∷ g ∷ [] → (a ≡ e) × (b ≡ f) × (c ≡ g)
cells_three k = (cc, cc, cc)

header_words : {X : Type 0} {w : List X} {m c f a x h y e z n g i j k : X} → w ≡ m ∷ c ∷ f ∷ a ∷ x ∷ h ∷ y ∷ e ∷ z ∷ []
    → w ≡ m ∷ n ∷ g ∷ a ∷ i ∷ h ∷ j ∷ e ∷ k ∷ []
    → (c ≡ n) × (f ≡ g) × (x ≡ i) × (y ≡ j) × (z ≡ k)
header_words p q = (cc, cc, cc, cc, cc)

avp_words : {X : Type 0} {w : List X} {a b c d e f : X} → w ≡ a ∷ b ∷ c ∷ [] → w ≡ d ∷ e ∷ f ∷ []
    → (a ≡ d) × (b ≡ e) × (c ≡ f)
avp_words p q = (cc, cc, cc)

too_many : {X : Type 0} {w r : List X} {a b c d e f g : X} → w ≡ a ∷ b ∷ c ∷ d ∷ r → w ≡ e ∷ f ∷ g ∷ [] → ⊥
too_many p q = cc

-- a line tells one header
pub one_header : (h k : Header) (line : List ℕ) → TellsHeader h line → TellsHeader k line → h ≡ k
one_header h k line a b =
    let parts = header_words a.whole b.whole in
    let flags = cells_four parts.1 in
    let e0 = one_mark 82 h.request k.request (λ e. absurd (omega (arith, e))) flags.0 in
    let e1 = one_mark 80 h.proxiable k.proxiable (λ e. absurd (omega (arith, e))) flags.1 in
    let e2 = one_mark 69 h.error k.error (λ e. absurd (omega (arith, e))) flags.2 in
    let e3 = one_mark 84 h.retransmit k.retransmit (λ e. absurd (omega (arith, e))) flags.3 in
    let Command : List ℕ → Type 0 = λ w. TellsNumber h.command w in
    let Application : List ℕ → Type 0 = λ w. TellsNumber h.application w in
    let Hop : List ℕ → Type 0 = λ w. TellsNumber h.hop_id w in
    let End : List ℕ → Type 0 = λ w. TellsNumber h.end_id w in
    let e4 = one_number h.command k.command b.command (subst Command parts.0 a.tells_command) b.tells_command in
    let e5 = one_number h.application k.application b.application
    (subst Application parts.2 a.tells_application) b.tells_application in
    let e6 = one_number h.hop_id k.hop_id b.hop_id (subst Hop parts.3 a.tells_hop_id) b.tells_hop_id in
    let e7 = one_number h.end_id k.end_id b.end_id (subst End parts.4 a.tells_end_id) b.tells_end_id in
    same_header h k e0 e1 e2 e3 e4 e5 e6 e7
  where
    same_header : (h k : Header) → h.request ≡ k.request → h.proxiable ≡ k.proxiable → h.error ≡ k.error
        → h.retransmit ≡ k.retransmit → h.command ≡ k.command → h.application ≡ k.application → h.hop_id ≡ k.hop_id
        → h.end_id ≡ k.end_id
        → made_header h.request h.proxiable h.error h.retransmit h.command h.application h.hop_id h.end_id ≡
        made_header k.request k.proxiable k.error k.retransmit k.command k.application k.hop_id k.end_id
    same_header h k e0 e1 e2 e3 e4 e5 e6 e7 = rw (e0, e1, e2, e3, e4, e5, e6, e7) refl

-- `-` is no hexadecimal
no_dash : (bytes : List ℕ) → decode_of (codes "-") ≡ Ok bytes → ⊥
no_dash bytes h = cc

-- a word tells one run of octets
one_data : (bytes other word : List ℕ) → TellsData bytes word → TellsData other word → bytes ≡ other
one_data bytes other word (inl h) (inl g) = cc
one_data bytes other word (inr h) (inr g) = h.1 ∙ sym g.1
one_data bytes other word (inl h) (inr g) = absurd (no_dash bytes (sym (ap decode_of g.0) ∙ h))
one_data bytes other word (inr h) (inl g) = absurd (no_dash other (sym (ap decode_of h.0) ∙ g))

-- a line tells one AVP
pub one_avp : (a b : Avp) (line : List ℕ) → TellsAvp a line → TellsAvp b line → a ≡ b
one_avp a b line h k =
    let parts = avp_words h.whole k.whole in
    let flags = cells_three parts.1 in
    let Code : List ℕ → Type 0 = λ w. TellsCode a.code a.vendor w in
    let Data : List ℕ → Type 0 = λ w. TellsData a.bytes w in
    let codes_are = one_code a.code b.code a.vendor b.vendor k.code (subst Code parts.0 h.tells_code) k.tells_code in
    let e2 = one_mark 77 a.mandatory b.mandatory (λ e. absurd (omega (arith, e))) flags.1 in
    let e3 = one_mark 80 a.protected b.protected (λ e. absurd (omega (arith, e))) flags.2 in
    let e4 = one_data a.bytes b.bytes k.bytes (subst Data parts.2 h.tells_bytes) k.tells_bytes in
    same_avp a b codes_are.0 codes_are.1 e2 e3 e4
  where
    same_avp : (a b : Avp) → a.code ≡ b.code → a.vendor ≡ b.vendor → a.mandatory ≡ b.mandatory
        → a.protected ≡ b.protected → a.bytes ≡ b.bytes
        → made_avp a.code a.vendor a.mandatory a.protected a.bytes ≡
        made_avp b.code b.vendor b.mandatory b.protected b.bytes
    same_avp a b e0 e1 e2 e3 e4 = rw (e0, e1, e2, e3, e4) refl

-- no line of a message is one of an AVP
pub no_avp : (h : Header) (a : Avp) (line : List ℕ) → TellsHeader h line → TellsAvp a line → ⊥
no_avp h a line told other = too_many told.whole other.whole
