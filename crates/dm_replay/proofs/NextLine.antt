-- One line more of a script.
use Rattle.std.proofs.Common.{◌≡◌, ℕ, suc, Bool, false, cond, not, List, [], ◌∷◌, ◌++◌, length, arith, ap, sym, ◌∙◌, subst}
use Rattle.dm_text.specs.Lines.{trimmed, is_skipped, content}
use Rattle.dm_world.specs.declared.side.Side.TheVariants.{A, B}
use Rattle.dm_world.specs.declared.happening.Happening.{Happening}
use Rattle.dm_replay.specs.declared.host_line.HostLine.{HostLine}
use Rattle.dm_replay.specs.declared.lines_so_far.NamedPeers.{NamedPeers}
use Rattle.dm_replay.specs.declared.lines_so_far.NamedPeers.TheVariants.{NotYet, One, Both}
use Rattle.dm_replay.specs.HappeningLines.{TellsHappening}
use Rattle.dm_replay.specs.HostLines.{Host, TellsHost}
use Rattle.dm_replay.specs.Scripts.{TellsEach, MayStandBehind}
use Rattle.dm_replay.specs.LinesSoFar.{TellSoFar}

pub behind_second : {a b : List ℕ} {s x y : List (List ℕ)} → s ≡ a ∷ b ∷ x → s ≡ a ∷ b ∷ y → x ≡ y
behind_second h k = cc

-- a line that isn't the first peer's
pub not_first : (lines : List (List ℕ)) (hosts : NamedPeers) (list : List Happening) (line : List ℕ) → hosts ≡ NotYet
    → ((h : Host) → TellsHost A h line → ⊥)
    → TellSoFar lines hosts list → MayStandBehind (length lines) line → ⊥
not_first lines hosts list line is none s may =
    let At : NamedPeers → Type 0 = λ v. TellSoFar lines v list in
    let stands = subst At is s in
    let May : List (List ℕ) → Type 0 = λ v. MayStandBehind (length v) line in
    let told = subst May stands.0 may in
    none told.0 told.1

-- a line that isn't the second peer's
pub not_second : (lines : List (List ℕ)) (hosts : NamedPeers) (left : HostLine) (list : List Happening) (line : List ℕ)
    → hosts ≡ One left
    → ((h : Host) → TellsHost B h line → ⊥) → TellSoFar lines hosts list → MayStandBehind (length lines) line → ⊥
not_second lines hosts left list line is none s may =
    let At : NamedPeers → Type 0 = λ v. TellSoFar lines v list in
    let stands = subst At is s in
    let May : List (List ℕ) → Type 0 = λ v. MayStandBehind (length v) line in
    let told = subst May stands.1 may in
    none told.0 told.1

-- a line that is no happening's
pub not_later : (lines : List (List ℕ)) (hosts : NamedPeers) (left right : HostLine) (list : List Happening)
    (line : List ℕ) → hosts ≡ Both left right
    → ((h : Happening) → TellsHappening h line → ⊥) → TellSoFar lines hosts list
    → MayStandBehind (length lines) line → ⊥
not_later lines hosts left right list line is none s may =
    let At : NamedPeers → Type 0 = λ v. TellSoFar lines v list in
    let stands = subst At is s in
    let size : length lines ≡ suc (suc (length stands.2)) = ap length stands.3 ∙ omega arith in
    let May : ℕ → Type 0 = λ n. MayStandBehind n line in
    let told = subst May size may in
    none told.0 told.1

each-push : (list : List Happening) (lines : List (List ℕ)) (h : Happening) (line : List ℕ) → TellsEach list lines
    → TellsHappening h line → TellsEach (list ++ h ∷ []) (lines ++ line ∷ [])
each-push [] [] h line each told = (told, tt)
each-push [] (other ∷ lines) h line each told = absurd each
each-push (k ∷ list) [] h line each told = absurd each
each-push (k ∷ list) (other ∷ lines) h line each told = (each.0, each-push list lines h line each.1 told)

-- a happening's line
pub taken : (lines : List (List ℕ)) (old new : NamedPeers) (left right : HostLine) (list list' : List Happening)
    (raw line : List ℕ) (h : Happening)
    → old ≡ Both left right → new ≡ old → is_skipped (trimmed raw) ≡ false → line ≡ trimmed raw
    → list' ≡ list ++ h ∷ [] → TellsHappening h line
    → TellSoFar lines old list → TellSoFar (lines ++ content (raw ∷ [])) new list'
taken lines old new left right list list' raw line h is same counts cut pushed told s =
    let At : NamedPeers → Type 0 = λ v. TellSoFar lines v list in
    let stands = subst At is s in
    let Tells : List ℕ → Type 0 = λ v. TellsHappening h v in
    let whole = ap (λ v. v ++ trimmed raw ∷ []) stands.3 in
    let more = each-push list stands.2 h (trimmed raw) stands.6 (subst Tells cut told) in
    let Taken : NamedPeers → Type 0 = λ v. TellSoFar (lines ++ content (raw ∷ [])) v list' in
    let List' : List Happening → Type 0 = λ v. TellSoFar (lines ++ content (raw ∷ [])) (Both left right) v in
    let Lines' : Bool → Type 0 = λ b. TellSoFar (lines ++ cond (not b) (trimmed raw ∷ []) []) (Both left right)
    (list ++ h ∷ []) in
    subst Taken (sym (same ∙ is))
    (subst List' (sym pushed)
    (subst Lines' (sym counts) (stands.0, stands.1, stands.2 ++ trimmed raw ∷ [], whole, stands.4, stands.5, more)))
