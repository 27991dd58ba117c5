-- The text of an input, from what stands behind its lines.
use Rattle.std.proofs.Common.{◌≡◌, ◌≤◌, ◌+◌, inr, Bool, false, Option, List, [], ◌∷◌, ◌++◌, ℕ, length, length-append}
use Rattle.std.proofs.Common.{codes, append_assoc, arith, ap, sym, ◌∙◌, refl, subst}
use Rattle.std.specs.Fmt.{decimal}
use Rattle.std.specs.Str.Lines.{lines}
use Rattle.dm_wire.specs.declared.avp.Avp.{Avp}
use Rattle.dm_wire.specs.declared.message.Header.{Header}
use Rattle.dm_wire.specs.declared.message.Message.{Message}
use Rattle.dm_text.specs.Joined.{LinesAreFew}
use Rattle.dm_text.specs.Lines.{content, trimmed, is_skipped}
use Rattle.dm_tool.specs.Build.{BuildsMessages, BuildsText}
use Rattle.dm_tool.specs.Progress.{last_message, BuiltSoFar, GoesOnNowhere}
use Rattle.dm_tool.proofs.Buildings.{before_last, nowhere}

-- a line that is there has a number that fits
pub line_counts : LinesAreFew → (input line rest rest' : List ℕ) (before : List (List ℕ))
    → lines input ≡ before ++ lines rest → lines rest ≡ line ∷ lines rest' → length before ≤ length input
line_counts few input line rest rest' before h k =
    let size = ap length (h ∙ ap (λ v. before ++ v) k) ∙ length-append before (line ∷ lines rest') in
    let most = few input in
    omega (arith, size, most)

-- the line behind those before it
pub lines-next : (input line rest rest' : List ℕ) (before : List (List ℕ)) → lines input ≡ before ++ lines rest
    → lines rest ≡ line ∷ lines rest' → lines input ≡ (before ++ line ∷ []) ++ lines rest'
lines-next input line rest rest' before h k =
    h ∙ ap (λ v. before ++ v) k ∙ sym (append_assoc before (line ∷ []) (lines rest'))

-- a line is out of place
pub built_up_to : (input line rest rest' text new : List ℕ) (good : Bool) (last : Option Header) (avps : List Avp)
    (before : List (List ℕ)) (number : ℕ) → lines input ≡ before ++ lines rest → lines rest ≡ line ∷ lines rest'
    → BuiltSoFar (content before) last avps text good → is_skipped (trimmed line) ≡ false
    → GoesOnNowhere last (trimmed line) → number ≡ length before + 1
    → new ≡ text ++ codes "fault syntax " ++ decimal number ++ 10 ∷ []
    → BuildsText input new false
built_up_to input line rest rest' text new good last avps before number h k stands counts none is text_is =
    let Built : List Message → Type 0 = λ l. BuildsMessages l text good in
    inr (
      record {
        before = before;
        line = line;
        after = lines rest';
        whole = h ∙ ap (λ v. before ++ v) k;
        stands = counts;
        messages = stands.0 ++ last_message last avps;
        told = stands.1;
        misplaced = nowhere stands.0 last avps (trimmed line) stands.3 none;
        built = text;
        good = good;
        builds = subst Built (sym (before_last stands.0 last avps stands.3)) stands.2;
        text_is = text_is ∙ ap (λ n. text ++ codes "fault syntax " ++ decimal n ++ 10 ∷ []) is;
      },
      refl,
    )
