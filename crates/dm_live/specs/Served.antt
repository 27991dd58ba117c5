-- What is printed of the lines of an input.
use Rattle.std.specs.Prelude.{◌≡◌, ◌⊎◌, ◌+◌, ℕ, Option, None, Some, List, [], ◌∷◌, ◌++◌, length, codes}
use Rattle.std.specs.Fmt.{decimal}
use Rattle.std.specs.Io.KnownBytes.{Appends}
use Rattle.std.specs.Str.Lines.{lines}
use Rattle.dm_text.specs.Words.{words}
use Rattle.dm_live.specs.declared.asked.Asked.{Asked}
use Rattle.dm_live.specs.declared.fault.LiveFault.{LiveFault}
use Rattle.dm_live.specs.declared.order_line.OrderLine.{OrderLine}
use Rattle.dm_live.specs.declared.fault.LiveFault.TheVariants.{Write}
use Rattle.dm_node.specs.NodeKnown.{acquaintance_at}
use Rattle.dm_live.specs.declared.form.Form.{Form}
use Rattle.dm_live.specs.Answers.{Answers}
use Rattle.dm_live.specs.Beginnings.{go_fault, form_told, Begins}
use Rattle.dm_live.specs.Meetings.{Meeting}
use Rattle.dm_live.specs.OrderLines.{node_asked, TellsOrder}
use Rattle.dm_live.specs.SenderLines.{IsSender, sender_answer}
use Rattle.dm_live.specs.Settings.{Settings, no_settings, TellsSetting}

-- a run behind some of its lines: what the configuration says so far, or the node with whom each neighbour met, and
-- how many peers its lines are about
pub data Stage : Type 0 where
  Drafting : Settings → Stage
  Running : Form → Meeting → Stage

-- an answer is closed by a line of a dot
abbrev pub with_dot : List ℕ → List ℕ
with_dot text = text ++ (codes "." ++ 10 ∷ [])

-- the line of this number is answered by a fault of this name
abbrev pub fault_answer : ℕ → List ℕ → List ℕ
fault_answer n name = with_dot (codes "fault " ++ decimal n ++ codes " " ++ name ++ 10 ∷ [])

-- it tells nothing
abbrev pub bad_answer : ℕ → List ℕ
bad_answer n = fault_answer n (codes "Syntax")

-- the line that ends the configuration
abbrev pub IsGo : List ℕ → Type 0
IsGo line = words line ≡ codes "go" ∷ []

-- it makes no configuration, for the reason that is told, and changes nothing
abbrev pub GoesNot : ℕ → List ℕ → Settings → Settings → List ℕ → Type 0
GoesNot n line s t text =
    (name : List ℕ) × IsGo line × (go_fault s ≡ Some name) × (t ≡ s) × (text ≡ fault_answer n name)

-- its answer where it begins a node
abbrev pub ready_answer : List ℕ
ready_answer = with_dot (codes "ready" ++ 10 ∷ [])

-- it begins the node
pub record Goes (line : List ℕ) (s : Settings) (form : Form) (m : Meeting) (text : List ℕ) : Type 0 where
  pub go : IsGo line
  pub good : go_fault s ≡ None
  pub form_is : form ≡ form_told s
  pub begins : Begins s m
  pub answer : text ≡ ready_answer

-- a line that says something of the configuration isn't answered
abbrev pub IsSet : List ℕ → Settings → Settings → List ℕ → Type 0
IsSet line s t text = TellsSetting line s t × (text ≡ [])

-- a line that says nothing changes nothing
abbrev pub SaysNothing : ℕ → List ℕ → Settings → Settings → List ℕ → Type 0
SaysNothing n line s t text =
    (IsGo line → ⊥) × ((u : Settings) → TellsSetting line s u → ⊥) × (t ≡ s) × (text ≡ bad_answer n)

-- an order is told and answered
abbrev pub IsTold : Form → List ℕ → Meeting → Meeting → List ℕ → Type 0
IsTold form line m n text =
    (o : Asked) × (answer : List ℕ) × TellsOrder form (node_asked o) line × Answers form o m n answer
    × (text ≡ with_dot answer)

-- whom a neighbour met is answered, and nothing changes
abbrev pub AsksSender : Form → List ℕ → Meeting → Meeting → List ℕ → Type 0
AsksSender form line m n text =
    (i : ℕ) × IsSender form i line × (n ≡ m) × (text ≡ with_dot (sender_answer (acquaintance_at m.known i)))

-- a line that tells neither changes nothing
abbrev pub TellsNone : ℕ → Form → List ℕ → Meeting → Meeting → List ℕ → Type 0
TellsNone number form line m n text =
    ((i : ℕ) → IsSender form i line → ⊥) × ((o : OrderLine) → TellsOrder form o line → ⊥) × (n ≡ m)
    × (text ≡ bad_answer number)

-- the line of this number before the node begins, if it doesn't begin it
abbrev pub AnswersSetting : ℕ → List ℕ → Settings → Settings → List ℕ → Type 0
AnswersSetting n line s t text = IsSet line s t text ⊎ SaysNothing n line s t text

-- and behind that
abbrev pub AnswersOrder : ℕ → Form → List ℕ → Meeting → Meeting → List ℕ → Type 0
AnswersOrder number form line m n text =
    IsTold form line m n text ⊎ (AsksSender form line m n text ⊎ TellsNone number form line m n text)

-- the line of this number, what it makes of a run, and its answer
abbrev pub AnswersLine : ℕ → List ℕ → Stage → Stage → List ℕ → Type 0
AnswersLine n line (Drafting s) (Drafting t) text = AnswersSetting n line s t text ⊎ GoesNot n line s t text
AnswersLine n line (Drafting s) (Running form t) text = Goes line s form t text
AnswersLine n line (Running form s) (Running shape t) text = (shape ≡ form) × AnswersOrder n form line s t text
AnswersLine n line (Running form s) _ text = ⊥

-- lines behind as many others, each answered in turn
abbrev pub AnswersLines : ℕ → List (List ℕ) → Stage → Stage → List ℕ → Type 0
AnswersLines before [] a b text = (b ≡ a) × (text ≡ [])
AnswersLines before (line ∷ lines) a b text =
    (m : Stage) × (first others : List ℕ) × AnswersLine (before + 1) line a m first
    × AnswersLines (before + 1) lines m b others × (text ≡ first ++ others)

-- what a writer got of a whole run over these octets
abbrev pub Serves : List ℕ → Option (List ℕ) → Option (List ℕ) → Type 0
Serves octets old new =
    (end : Stage) × (text : List ℕ) × AnswersLines 0 (lines octets) (Drafting no_settings) end text
    × Appends old new text

-- what was written of the next line's answer where a run stopped: a front where a write failed, or else nothing
abbrev pub BeginsNext : LiveFault → ℕ → List (List ℕ) → Stage → List ℕ → Type 0
BeginsNext Write before [] a front = ⊥
BeginsNext Write before (line ∷ lines) a front =
    (b : Stage) × (back : List ℕ) × AnswersLine (before + 1) line a b (front ++ back)
BeginsNext fault before lines a front = front ≡ []

-- what a writer got of a run that stopped: the answers of the first lines, and this of the next one's
pub record StopsShort (fault : LiveFault) (octets : List ℕ) (old new : Option (List ℕ)) : Type 0 where
  pub done : List (List ℕ)
  pub rest : List (List ℕ)
  pub mid : Stage
  pub text : List ℕ
  pub front : List ℕ
  pub whole : lines octets ≡ done ++ rest
  pub answers : AnswersLines 0 done (Drafting no_settings) mid text
  pub begins : BeginsNext fault (length done) rest mid front
  pub written : Appends old new (text ++ front)
