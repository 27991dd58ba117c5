-- Under build an input has one text.
use Rattle.std.proofs.Common.{◌≡◌, ◌⊎◌, inl, inr, Bool, List, [], ◌∷◌, ◌++◌, ◌+◌, ℕ, length, codes, ap, sym, ◌∙◌}
use Rattle.std.proofs.Common.{refl, subst}
use Rattle.std.specs.Fmt.{decimal}
use Rattle.dm_wire.specs.declared.message.Message.{Message}
use Rattle.dm_wire.specs.Canonical.{canonical_message}
use Rattle.dm_text.specs.Joined.{ContentIsJoined}
use Rattle.dm_text.specs.Lines.{content, content_lines, trimmed}
use Rattle.dm_tool.specs.Messages.{TellsAll}
use Rattle.dm_tool.specs.Build.{BuildsMessage, BuildsMessages, BuildsAll, BuildsUpTo, BuildsText, but_last}
use Rattle.dm_tool.proofs.Contents.{content-cut}
use Rattle.dm_tool.proofs.Joins.{one_joined}
use Rattle.dm_tool.proofs.OneList.{one_all, no_more}

-- a message has one text
one_message_built : (m : Message) (text other : List ℕ) (good fine : Bool) → BuildsMessage m text good
    → BuildsMessage m other fine → (text ≡ other) × (good ≡ fine)
one_message_built m text other good fine (inl h) (inl g) = (h.1 ∙ sym g.1, h.2 ∙ sym g.2)
one_message_built m text other good fine (inl h) (inr g) = absurd (g.0 (canonical_message m) h.0)
one_message_built m text other good fine (inr h) (inl g) = absurd (h.0 (canonical_message m) g.0)
one_message_built m text other good fine (inr h) (inr g) = (h.1 ∙ sym g.1, h.2 ∙ sym g.2)

one_messages_built : (l : List Message) (text other : List ℕ) (good fine : Bool) → BuildsMessages l text good
    → BuildsMessages l other fine → (text ≡ other) × (good ≡ fine)
one_messages_built [] text other good fine h g = (h.0 ∙ sym g.0, h.1 ∙ sym g.1)
one_messages_built (m ∷ l) text other good fine h g =
    one_joined (BuildsMessage m) (BuildsMessages l) (one_message_built m)
    (one_messages_built l) text other good fine h g

-- two cuts of a list at an element are one cut, or one comes before the other
abbrev Cuts : List (List ℕ) → List ℕ → List (List ℕ) → List ℕ → Type 0
Cuts x a y b =
    ((x ≡ y) × (a ≡ b)) ⊎
    (((more : List (List ℕ)) × (y ≡ x ++ a ∷ more)) ⊎ ((more : List (List ℕ)) × (x ≡ y ++ b ∷ more)))

cuts-cons : (c d : List ℕ) (x y : List (List ℕ)) (a b : List ℕ) → c ≡ d → Cuts x a y b → Cuts (c ∷ x) a (d ∷ y) b
cuts-cons c d x y a b e (inl h) = inl (ap (λ v. v ∷ x) e ∙ ap (λ v. d ∷ v) h.0, h.1)
cuts-cons c d x y a b e (inr (inl h)) = inr (inl (h.0, ap (λ v. v ∷ y) (sym e) ∙ ap (λ v. c ∷ v) h.1))
cuts-cons c d x y a b e (inr (inr h)) = inr (inr (h.0, ap (λ v. v ∷ x) e ∙ ap (λ v. d ∷ v) h.1))

cuts : (x y s t : List (List ℕ)) (a b : List ℕ) → x ++ a ∷ s ≡ y ++ b ∷ t → Cuts x a y b
cuts [] [] s t a b e = inl (refl, cc)
cuts [] (d ∷ y) s t a b e = let same : a ≡ d = cc in inr (inl (y, ap (λ v. v ∷ y) (sym same)))
cuts (c ∷ x) [] s t a b e = let same : c ≡ b = cc in inr (inr (x, ap (λ v. v ∷ x) same))
cuts (c ∷ x) (d ∷ y) s t a b e =
    let rest : x ++ a ∷ s ≡ y ++ b ∷ t = cc in cuts-cons c d x y a b (cc) (cuts x y s t a b rest)

module _ (joined : ContentIsJoined) where
  -- where a line is out of place, the lines up to a later one tell no messages
  not_later : (input text other : List ℕ) (h : BuildsUpTo input text) (g : BuildsUpTo input other)
      (more : List (List ℕ)) → g.before ≡ h.before ++ h.line ∷ more → ⊥
  not_later input text other h g more e =
      let Lines : List (List ℕ) → Type 0 = λ v. TellsAll g.messages v in
      no_more h.messages g.messages (content h.before) (content more) (trimmed h.line) h.told h.misplaced
      (subst Lines (ap content e ∙ content-cut joined h.before h.line more h.stands) g.told)

  same_place : (input text other : List ℕ) (h : BuildsUpTo input text) (g : BuildsUpTo input other)
      → h.before ≡ g.before → text ≡ other
  same_place input text other h g e =
      let Lines : List (List ℕ) → Type 0 = λ v. TellsAll h.messages (content v) in
      let messages = one_all h.messages g.messages (content g.before) (subst Lines e h.told) g.told in
      let Built : List Message → Type 0 = λ l. BuildsMessages (but_last l) h.built h.good in
      let built = one_messages_built (but_last g.messages) h.built g.built h.good g.good
      (subst Built messages h.builds) g.builds in
      h.text_is ∙ ap (λ v. v ++ codes "fault syntax " ++ decimal (length h.before + 1) ++ 10 ∷ []) built.0 ∙
      ap (λ v. g.built ++ codes "fault syntax " ++ decimal (length v + 1) ++ 10 ∷ []) e ∙ sym g.text_is

  one_up_to : (input text other : List ℕ) → BuildsUpTo input text → BuildsUpTo input other → text ≡ other
  one_up_to input text other h g =
      by (cuts h.before g.before h.after g.after h.line g.line (sym h.whole ∙ g.whole)) where
        by : Cuts h.before h.line g.before g.line → text ≡ other
        by (inl same) = same_place input text other h g same.0
        by (inr (inl later)) = absurd (not_later input text other h g later.0 later.1)
        by (inr (inr later)) = absurd (not_later input other text g h later.0 later.1)

  -- where all lines tell messages, none is out of place
  not_both : (input text other : List ℕ) (good : Bool) → BuildsAll input text good → BuildsUpTo input other → ⊥
  not_both input text other good h g =
      let Lines : List (List ℕ) → Type 0 = λ v. TellsAll h.0 v in
      no_more g.messages h.0 (content g.before) (content g.after) (trimmed g.line) g.told g.misplaced
      (subst Lines (ap content g.whole ∙ content-cut joined g.before g.line g.after g.stands) h.1)

  pub one_built : (input text other : List ℕ) (good fine : Bool) → BuildsText input text good
      → BuildsText input other fine → (text ≡ other) × (good ≡ fine)
  one_built input text other good fine (inl h) (inl g) =
      let Built : List Message → Type 0 = λ l. BuildsMessages l text good in
      one_messages_built g.0 text other good fine (subst Built (one_all h.0 g.0 (content_lines input) h.1 g.1) h.2) g.2
  one_built input text other good fine (inl h) (inr g) = absurd (not_both input text other good h g.0)
  one_built input text other good fine (inr h) (inl g) = absurd (not_both input other text fine g h.0)
  one_built input text other good fine (inr h) (inr g) = (one_up_to input text other h.0 g.0, h.1 ∙ sym g.1)
