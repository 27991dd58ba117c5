-- The lines that tell messages, as show prints them.
use Rattle.std.specs.Prelude.{◌≡◌, ⊤, ℕ, List, [], ◌∷◌, ◌++◌, codes}
use Rattle.dm_wire.specs.declared.avp.Avp.{Avp}
use Rattle.dm_wire.specs.declared.message.Header.{Header}
use Rattle.dm_wire.specs.declared.message.Message.{Message}
use Rattle.dm_tool.specs.Text.{header_letters, avp_letters}
use Rattle.dm_text.specs.Words.{words}
use Rattle.dm_text.specs.Numbers.{TellsNumber}
use Rattle.dm_tool.specs.AvpWords.{TellsCode, TellsData}

-- the line of a message: `message`, the Command Code, the flags in their places, and three more numbers, each after its
-- name (RFC 6733, 3)
pub record TellsHeader (h : Header) (line : List ℕ) : Type 0 where
  pub command : List ℕ
  pub application : List ℕ
  pub hop_id : List ℕ
  pub end_id : List ℕ
  pub whole : words line ≡ codes "message" ∷ command ∷ header_letters h ∷ codes "app" ∷ application ∷ codes "hop"
      ∷ hop_id ∷ codes "end" ∷ end_id ∷ []
  pub tells_command : TellsNumber h.command command
  pub tells_application : TellsNumber h.application application
  pub tells_hop_id : TellsNumber h.hop_id hop_id
  pub tells_end_id : TellsNumber h.end_id end_id

-- the words behind the flags of a message's line: three numbers, each after its name, and no more
pub record TellsNames (application hop_id end_id : ℕ) (behind : List (List ℕ)) : Type 0 where
  pub application_word : List ℕ
  pub hop_id_word : List ℕ
  pub end_id_word : List ℕ
  pub whole : behind ≡ codes "app" ∷ application_word ∷ codes "hop" ∷ hop_id_word ∷ codes "end" ∷ end_id_word ∷ []
  pub tells_application : TellsNumber application application_word
  pub tells_hop_id : TellsNumber hop_id hop_id_word
  pub tells_end_id : TellsNumber end_id end_id_word

-- the line of an AVP: its code, the flags in their places, V just where there is a vendor, and the data (4.1)
pub record TellsAvp (a : Avp) (line : List ℕ) : Type 0 where
  pub code : List ℕ
  pub bytes : List ℕ
  pub whole : words line ≡ code ∷ avp_letters a ∷ bytes ∷ []
  pub tells_code : TellsCode a.code a.vendor code
  pub tells_bytes : TellsData a.bytes bytes

-- the lines tell the AVPs, each line one
abbrev pub TellsAvps : List Avp → List (List ℕ) → Type 0
TellsAvps [] [] = ⊤
TellsAvps [] (line ∷ lines) = ⊥
TellsAvps (a ∷ l) [] = ⊥
TellsAvps (a ∷ l) (line ∷ lines) = TellsAvp a line × TellsAvps l lines

-- the first line tells the header, and the others the AVPs
abbrev pub LinesTell : Message → List (List ℕ) → Type 0
LinesTell m [] = ⊥
LinesTell m (line ∷ lines) = TellsHeader m.header line × TellsAvps m.avps lines

-- the lines tell the messages, one after the other
abbrev pub TellsAll : List Message → List (List ℕ) → Type 0
TellsAll [] lines = lines ≡ []
TellsAll (m ∷ l) lines = (first rest : List (List ℕ)) × (lines ≡ first ++ rest) × LinesTell m first × TellsAll l rest
