-- Lines tell one list of messages, and up to a line that is out of place no more than those.
use Rattle.std.proofs.Common.{◌≡◌, List, [], ◌∷◌, ◌++◌, ℕ, append_assoc, ap, sym, ◌∙◌, refl, subst}
use Rattle.dm_wire.specs.declared.avp.Avp.{Avp}
use Rattle.dm_wire.specs.declared.message.Header.{Header}
use Rattle.dm_wire.specs.declared.message.Message.{Message}
use Rattle.dm_tool.specs.Messages.{TellsHeader, TellsAvp, TellsAvps, LinesTell, TellsAll}
use Rattle.dm_tool.specs.Build.{IsOutOfPlace}
use Rattle.dm_tool.proofs.OneTold.{one_header, one_avp, no_avp}

-- the first of these lines, where there is one, isn't that of an AVP
abbrev BeginsWithNoAvp : List (List ℕ) → Type 0
BeginsWithNoAvp s = (line : List ℕ) (rest : List (List ℕ)) → s ≡ line ∷ rest → (a : Avp) → TellsAvp a line → ⊥

same_head : {x y : List ℕ} {s t : List (List ℕ)} → x ∷ s ≡ y ∷ t → x ≡ y
same_head e = cc

same_tail : {x y : List ℕ} {s t : List (List ℕ)} → x ∷ s ≡ y ∷ t → s ≡ t
same_tail e = cc

not_none : {x : List ℕ} {s : List (List ℕ)} → x ∷ s ≡ [] → ⊥
not_none e = cc

one_avps : (l k : List Avp) (s t x y : List (List ℕ)) → TellsAvps l s → TellsAvps k t → s ++ x ≡ t ++ y
    → BeginsWithNoAvp x → BeginsWithNoAvp y → (l ≡ k) × (x ≡ y)
one_avps [] [] [] [] x y h g e nx ny = (refl, e)
one_avps [] [] [] (b ∷ t) x y h g e nx ny = absurd g
one_avps [] [] (a ∷ s) t x y h g e nx ny = absurd h
one_avps [] (b ∷ k) [] [] x y h g e nx ny = absurd g
one_avps [] (b ∷ k) [] (line ∷ t) x y h g e nx ny = absurd (nx line (t ++ y) e b g.0)
one_avps [] (b ∷ k) (a ∷ s) t x y h g e nx ny = absurd h
one_avps (a ∷ l) k [] t x y h g e nx ny = absurd h
one_avps (a ∷ l) [] (line ∷ s) [] x y h g e nx ny = absurd (ny line (s ++ x) (sym e) a h.0)
one_avps (a ∷ l) [] (line ∷ s) (b ∷ t) x y h g e nx ny = absurd g
one_avps (a ∷ l) (b ∷ k) (line ∷ s) [] x y h g e nx ny = absurd g
one_avps (a ∷ l) (b ∷ k) (line ∷ s) (other ∷ t) x y h g e nx ny =
    let Tells : List ℕ → Type 0 = λ v. TellsAvp a v in
    let later = one_avps l k s t x y h.1 g.1 (same_tail e) nx ny in
    let first = one_avp a b other (subst Tells (same_head e) h.0) g.0 in
    (ap (λ v. v ∷ l) first ∙ ap (λ v. b ∷ v) later.0, later.1)

abbrev made_message : Header → List Avp → Message
made_message h l = record { header = h; avps = l }

-- of what follows a message
one_step : (m j : Message) (f g x y : List (List ℕ)) → LinesTell m f → LinesTell j g → f ++ x ≡ g ++ y
    → BeginsWithNoAvp x → BeginsWithNoAvp y → (m ≡ j) × (x ≡ y)
one_step m j [] g x y h k e nx ny = absurd h
one_step m j (line ∷ f) [] x y h k e nx ny = absurd k
one_step m j (line ∷ f) (other ∷ g) x y h k e nx ny =
    let Tells : List ℕ → Type 0 = λ v. TellsHeader m.header v in
    let header = one_header m.header j.header other (subst Tells (same_head e) h.0) k.0 in
    let avps = one_avps m.avps j.avps f g x y h.1 k.1 (same_tail e) nx ny in
    (same_message m j header avps.0, avps.1)
  where
    same_message : (m j : Message) → m.header ≡ j.header → m.avps ≡ j.avps
        → made_message m.header m.avps ≡ made_message j.header j.avps
    same_message m j e0 e1 = rw (e0, e1) refl

message_first : (m : Message) (f x : List (List ℕ)) → LinesTell m f → BeginsWithNoAvp (f ++ x)
message_first m [] x h = absurd h
message_first m (first ∷ f) x h =
    λ line rest e a told. let Tells : List ℕ → Type 0 = λ v. TellsHeader m.header v in no_avp m.header a line
    (subst Tells (same_head e) h.0) told

none_told : (m : Message) (f x : List (List ℕ)) → LinesTell m f → f ++ x ≡ [] → ⊥
none_told m [] x h e = absurd h
none_told m (line ∷ f) x h e = not_none e

header_first : (m : Message) (f x t : List (List ℕ)) (line : List ℕ) → LinesTell m f → line ∷ t ≡ f ++ x
    → TellsHeader m.header line
header_first m [] x t line h e = absurd h
header_first m (first ∷ f) x t line h e =
    let Tells : List ℕ → Type 0 = λ v. TellsHeader m.header v in subst Tells (sym (same_head e)) h.0

all_first : (l : List Message) (s : List (List ℕ)) → TellsAll l s → BeginsWithNoAvp s
all_first [] s h = λ line rest e a told. not_none (sym e ∙ h)
all_first (m ∷ l) s h =
    let Begins : List (List ℕ) → Type 0 = BeginsWithNoAvp in subst Begins (sym h.2) (message_first m h.0 h.1 h.3)

all_then : (l : List Message) (s t : List (List ℕ)) (line : List ℕ) → TellsAll l s → ((a : Avp) → TellsAvp a line → ⊥)
    → BeginsWithNoAvp (s ++ line ∷ t)
all_then [] s t line h none =
    λ other rest e a told. let Tells : List ℕ → Type 0 = λ v. TellsAvp a v in none a
    (subst Tells (sym (same_head (sym (ap (λ v. v ++ line ∷ t) h) ∙ e))) told)
all_then (m ∷ l) s t line h none =
    let Begins : List (List ℕ) → Type 0 = BeginsWithNoAvp in
    subst Begins (sym (append_assoc h.0 h.1 (line ∷ t)) ∙ ap (λ v. v ++ line ∷ t) (sym h.2))
    (message_first m h.0 (h.1 ++ line ∷ t) h.3)

-- lines tell one list of messages
pub one_all : (l k : List Message) (s : List (List ℕ)) → TellsAll l s → TellsAll k s → l ≡ k
one_all [] [] s h g = refl
one_all [] (j ∷ k) s h g = absurd (none_told j g.0 g.1 g.3 (sym g.2 ∙ h))
one_all (m ∷ l) [] s h g = absurd (none_told m h.0 h.1 h.3 (sym h.2 ∙ g))
one_all (m ∷ l) (j ∷ k) s h g =
    let first = one_step m j h.0 g.0 h.1 g.1 h.3 g.3 (sym h.2 ∙ g.2) (all_first l h.1 h.4) (all_first k g.1 g.4) in
    let Lines : List (List ℕ) → Type 0 = λ v. TellsAll l v in
    ap (λ v. v ∷ l) first.0 ∙ ap (λ v. j ∷ v) (one_all l k g.1 (subst Lines first.1 h.4) g.4)

-- lines with one that is out of place tell no messages
pub no_more : (l k : List Message) (s t : List (List ℕ)) (line : List ℕ) → TellsAll l s → IsOutOfPlace l line
    → TellsAll k (s ++ line ∷ t) → ⊥
no_more [] [] s t line h out g = not_none (sym (ap (λ v. v ++ line ∷ t) h) ∙ g)
no_more [] (j ∷ k) s t line h out g =
    out.0 j.header (header_first j g.0 g.1 t line g.3 (sym (ap (λ v. v ++ line ∷ t) h) ∙ g.2))
no_more (m ∷ l) [] s t line h out g =
    none_told m h.0 (h.1 ++ line ∷ t) h.3
    (sym (append_assoc h.0 h.1 (line ∷ t)) ∙ ap (λ v. v ++ line ∷ t) (sym h.2) ∙ g)
no_more (m ∷ l) (j ∷ k) s t line h out g =
    let none = out.1 (λ e. cc) in
    let first = one_step m j h.0 g.0 (h.1 ++ line ∷ t) g.1 h.3 g.3
    (sym (append_assoc h.0 h.1 (line ∷ t)) ∙ ap (λ v. v ++ line ∷ t) (sym h.2) ∙ g.2)
    (all_then l h.1 t line h.4 none) (all_first k g.1 g.4) in
    let Lines : List (List ℕ) → Type 0 = λ v. TellsAll k v in
    no_more l k h.1 t line h.4 (out.0, λ some. none) (subst Lines (sym first.1) g.4)
