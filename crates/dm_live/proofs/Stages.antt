-- What one line makes of a run.
use Rattle.std.proofs.Common.{◌≡◌, inr, ℕ, Result, Ok, Err, OnOk}
use Rattle.std.proofs.Common.{is_ok, if◌then◌else◌}
use Rattle.std.proofs.Common.{List, ◌++◌, ◌∷◌, [], codes, ap, ◌∙◌, sym, subst, refl, append_assoc}
use Rattle.dm_live.specs.declared.begun.Begun.{Begun}
use Rattle.dm_live.specs.declared.begun.Begun.TheVariants.{Nothing}
use Rattle.dm_live.specs.declared.begun.Begun.TheVariants as variant
use Rattle.dm_live.specs.declared.form.Form.{Form}
use Rattle.dm_live.specs.Answers.{Answers}
use Rattle.dm_live.specs.Meetings.{Meeting, meeting_of}
use Rattle.dm_node.specs.declared.node.Node.{Node}
use Rattle.dm_live.specs.Served.{Drafting, Running, with_dot, IsGo, AnswersOrder, AnswersLine}
use Rattle.dm_live.specs.Settings.{Settings}
use Rattle.dm_live.specs.Stages.{stage_at, IsBegun}

-- what a line comes to, and its answer
pub answers : {T E : Type 0} (r : Result T E) (Answers : List ℕ → Type 0) (old new answer : List ℕ) → Answers answer
    → OnOk r (new ≡ old ++ answer) → OnOk r ((answer : List ℕ) × Answers answer × (new ≡ old ++ answer))
answers (Err e) Answers old new answer so ends = tt
answers (Ok v) Answers old new answer so ends = (answer, so, ends)

-- with the dot behind it
pub answers_with_dot : {T E : Type 0} (r : Result T E) (Answers : List ℕ → Type 0) (old mid new answer : List ℕ)
    → Answers (with_dot answer) → mid ≡ old ++ answer
    → new ≡ (if is_ok r then mid ++ (codes "." ++ 10 ∷ []) else mid)
    → OnOk r ((answer : List ℕ) × Answers answer × (new ≡ old ++ answer))
answers_with_dot (Err e) Answers old mid new answer so is ends = tt
answers_with_dot (Ok v) Answers old mid new answer so is ends =
    let dot : List ℕ = codes "." ++ 10 ∷ [] in
    (with_dot answer, so, ends ∙ ap (λ v. v ++ dot) is ∙ append_assoc old answer dot)

-- the line that ends the configuration
going : (n : ℕ) (line : List ℕ) (s : Settings) (begun : Begun) (answer : List ℕ) → IsGo line
    → IsBegun n s begun answer → AnswersLine n line (Drafting s) (stage_at s begun) answer
going n line s Nothing answer go (name, fault, is) = inr (name, go, fault, refl, is)
going n line s (variant.Running form t) answer go (good, told, begins, is) =
    record { go = go; good = good; form_is = told; begins = begins; answer = is }

pub gone_line : (n : ℕ) (line : List ℕ) (s : Settings) (before after begun : Begun) (old new : List ℕ)
    → before ≡ Nothing → after ≡ begun → IsGo line
    → (answer : List ℕ) × IsBegun n s begun answer × (new ≡ old ++ answer)
    → (answer : List ℕ) × AnswersLine n line (stage_at s before) (stage_at s after) answer × (new ≡ old ++ answer)
gone_line n line s before after begun old new none is go (answer, begins, ends) =
    let From : Begun → Type 0 = λ v. AnswersLine n line (stage_at s v) (stage_at s after) answer in
    let To : Begun → Type 0 = λ v. AnswersLine n line (Drafting s) (stage_at s v) answer in
    (answer, subst From (sym none) (subst To (sym is) (going n line s begun answer go begins)), ends)

-- a line behind it
pub running_line : {T E : Type 0} (r : Result T E) (n : ℕ) (line : List ℕ) (settings : Settings) (begun : Begun)
    (form : Form) (node : Node) (t : Meeting) (old new : List ℕ) → begun ≡ variant.Running form node
    → OnOk r ((answer : List ℕ) × AnswersOrder n form line (meeting_of node) t answer × (new ≡ old ++ answer))
    → OnOk r ((answer : List ℕ) × AnswersLine n line (stage_at settings begun) (Running form t) answer
    × (new ≡ old ++ answer))
running_line (Err e) n line settings begun form node t old new is answers = tt
running_line (Ok v) n line settings begun form node t old new is (answer, answers, ends) =
    let From : Begun → Type 0 = λ b. AnswersLine n line (stage_at settings b) (Running form t) answer in
    (answer, subst From (sym is) (refl, answers), ends)
