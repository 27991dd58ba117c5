-- Where the lines of a script end, or break off.
use Rattle.std.proofs.Common.{◌≡◌, inl, inr, ℕ, suc, ◌+◌, false, List, [], ◌∷◌, ◌++◌, length, append_assoc, append-nil, ap, sym, ◌∙◌, subst}
use Rattle.std.specs.Str.Lines.{lines}
use Rattle.dm_text.specs.Lines.{trimmed, is_skipped, content}
use Rattle.dm_world.specs.declared.happening.Happening.{Happening}
use Rattle.dm_replay.specs.declared.host_line.HostLine.{HostLine}
use Rattle.dm_replay.specs.declared.lines_so_far.NamedPeers.{NamedPeers}
use Rattle.dm_replay.specs.declared.lines_so_far.NamedPeers.TheVariants.{NotYet, One, Both}
use Rattle.dm_replay.specs.Scripts.{TellsEach, MayStandBehind, MayFollow, IsFirstBad}
use Rattle.dm_replay.specs.LinesSoFar.{TellSoFar, line_host}

pub each-follow : (n : ℕ) (list : List Happening) (lines : List (List ℕ)) → TellsEach list lines
    → MayFollow (suc (suc n)) lines
each-follow n [] [] each = tt
each-follow n [] (line ∷ lines) each = absurd each
each-follow n (h ∷ list) [] each = absurd each
each-follow n (h ∷ list) (line ∷ lines) each = ((h, each.0), each-follow (suc n) list lines each.1)

-- lines that are known may stand where they do
pub stands-follow : (lines : List (List ℕ)) (hosts : NamedPeers) (list : List Happening) → TellSoFar lines hosts list
    → MayFollow 0 lines
stands-follow lines NotYet list s = let Follow : List (List ℕ) → Type 0 = λ v. MayFollow 0 v in subst Follow
    (sym s.0) tt
stands-follow lines (One left) list s =
    let Follow : List (List ℕ) → Type 0 = λ v. MayFollow 0 v in subst Follow (sym s.1) ((line_host left, s.3), tt)
stands-follow lines (Both left right) list s =
    let Follow : List (List ℕ) → Type 0 = λ v. MayFollow 0 v in
    subst Follow (sym s.3) ((line_host left, s.4), ((line_host right, s.5), each-follow 0 list s.2 s.6))

-- the line behind those before it
pub lines-next : (text line rest rest' : List ℕ) (before : List (List ℕ)) → lines text ≡ before ++ lines rest
    → lines rest ≡ line ∷ lines rest'
    → lines text ≡ (before ++ line ∷ []) ++ lines rest'
lines-next text line rest rest' before h k = h ∙ ap (λ v. before ++ v) k ∙ sym
    (append_assoc before (line ∷ []) (lines rest'))

-- a line that may not stand where it does
pub broken : (text line rest rest' : List ℕ) (before : List (List ℕ)) (hosts : NamedPeers) (list : List Happening)
    (count : ℕ)
    → lines text ≡ before ++ lines rest → lines rest ≡ line ∷ lines rest' → count ≡ length before
    → TellSoFar (content before) hosts list
    → is_skipped (trimmed line) ≡ false → (MayStandBehind (length (content before)) (trimmed line) → ⊥)
    → IsFirstBad text (count + 1)
broken text line rest rest' before hosts list count h k is stands counts bad =
    inl (
    record {
      before = before;
      line = line;
      after = lines rest';
      whole = h ∙ ap (λ v. before ++ v) k;
      stands = counts;
      good = stands-follow (content before) hosts list stands;
      bad = bad;
      number = ap (λ n. n + 1) is;
    }
    )

pub all_lines : (text rest : List ℕ) (before : List (List ℕ)) → lines text ≡ before ++ lines rest → lines rest ≡ []
    → lines text ≡ before
all_lines text rest before h none = h ∙ ap (λ v. before ++ v) none ∙ append-nil before

-- the text ends behind its first peer
pub broken_off : (text rest : List ℕ) (before : List (List ℕ)) (hosts : NamedPeers) (left : HostLine)
    (list : List Happening) (count : ℕ)
    → lines text ≡ before ++ lines rest → lines rest ≡ [] → count ≡ length before → hosts ≡ One left
    → TellSoFar (content before) hosts list → IsFirstBad text count
broken_off text rest before hosts left list count h none is one stands =
    let At : NamedPeers → Type 0 = λ v. TellSoFar (content before) v list in
    let s = subst At one stands in
    let all = all_lines text rest before h none in
    inr (record {
      line = s.0;
      whole = ap content all ∙ s.1;
      good = (line_host left, s.3);
      number = is ∙ ap length
          (sym all);
    })
