-- Whether a line tells a header or an AVP, and which.
use Rattle.std.proofs.Common.{◌≡◌, ◌⊎◌, inl, inr, ℕ, Bool, true, false, is_some, Option, List, [], ◌∷◌, codes}
use Rattle.std.proofs.Common.{slice_index_or, ap, ◌∙◌, sym, refl, subst}
use Rattle.std.proofs.lemmas.Bool.{cases_eq}
use Rattle.dm_wire.specs.declared.avp.Avp.{Avp}
use Rattle.dm_wire.specs.declared.message.Header.{Header}
use Rattle.dm_text.specs.Numbers.{TellsNumber}
use Rattle.dm_text.specs.Words.{words}
use Rattle.dm_tool.specs.Text.{flag_mark, header_marks, avp_marks}
use Rattle.dm_tool.specs.AvpWords.{TellsCode, TellsData}
use Rattle.dm_tool.specs.Messages.{TellsHeader, TellsNames, TellsAvp}
use Rattle.dm_tool.proofs.Slashes.{one_code}
use Rattle.dm_tool.proofs.Decided.{Decided, are_octets, same_words, number_told, CodeTold, code_told, DataTold}
use Rattle.dm_tool.proofs.Decided.{data_told}

abbrev MarkTold : ℕ → ℕ → Type 0
MarkTold letter b = ((set : Bool) × (b ≡ flag_mark set letter)) ⊎ ((set : Bool) → b ≡ flag_mark set letter → ⊥)

neither : (letter b : ℕ) → (b ≡ letter → ⊥) → (b ≡ 45 → ⊥) → (set : Bool) → b ≡ flag_mark set letter → ⊥
neither letter b h k true e = h e
neither letter b h k false e = k e

mark_told : (letter b : ℕ) → MarkTold letter b
mark_told letter b = by (cases_eq b letter) (cases_eq b 45) where
  by : Decided (b ≡ letter) → Decided (b ≡ 45) → MarkTold letter b
  by (inl h) k = inl (true, h)
  by (inr h) (inl k) = inl (false, k)
  by (inr h) (inr k) = inr (neither letter b h k)

-- the marks of an AVP, where V is given
abbrev AvpMarksTold : Bool → List ℕ → Type 0
AvpMarksTold v w = ((m p : Bool) × (w ≡ avp_marks v m p)) ⊎ ((m p : Bool) → w ≡ avp_marks v m p → ⊥)

avp_marks_told : (v : Bool) (w : List ℕ) → AvpMarksTold v w
avp_marks_told v [] = inr (λ m p e. cc)
avp_marks_told v (a ∷ []) = inr (λ m p e. cc)
avp_marks_told v (a ∷ b ∷ []) = inr (λ m p e. cc)
avp_marks_told v (a ∷ b ∷ c ∷ d ∷ w) = inr (λ m p e. cc)
avp_marks_told v (a ∷ b ∷ c ∷ []) = by (cases_eq a (flag_mark v 86)) (mark_told 77 b) (mark_told 80 c) where
  by : Decided (a ≡ flag_mark v 86) → MarkTold 77 b → MarkTold 80 c → AvpMarksTold v (a ∷ b ∷ c ∷ [])
  by (inl h) (inl k) (inl l) = inl (k.0, l.0, λ i. h i ∷ k.1 i ∷ l.1 i ∷ [])
  by (inl h) (inl k) (inr l) = inr (λ m p e. l p (ap (λ s. slice_index_or s 2 0) e))
  by (inl h) (inr k) l = inr (λ m p e. k m (ap (λ s. slice_index_or s 1 0) e))
  by (inr h) k l = inr (λ m p e. h (ap (λ s. slice_index_or s 0 0) e))

abbrev HeaderMarksTold : List ℕ → Type 0
HeaderMarksTold w = ((r p e t : Bool) × (w ≡ header_marks r p e t)) ⊎ ((r p e t : Bool) → w ≡ header_marks r p e t → ⊥)

header_marks_told : (w : List ℕ) → HeaderMarksTold w
header_marks_told [] = inr (λ r p e t is. cc)
header_marks_told (a ∷ []) = inr (λ r p e t is. cc)
header_marks_told (a ∷ b ∷ []) = inr (λ r p e t is. cc)
header_marks_told (a ∷ b ∷ c ∷ []) = inr (λ r p e t is. cc)
header_marks_told (a ∷ b ∷ c ∷ d ∷ f ∷ w) = inr (λ r p e t is. cc)
header_marks_told (a ∷ b ∷ c ∷ d ∷ []) = by (mark_told 82 a) (mark_told 80 b) (mark_told 69 c) (mark_told 84 d) where
  by : MarkTold 82 a → MarkTold 80 b → MarkTold 69 c → MarkTold 84 d → HeaderMarksTold (a ∷ b ∷ c ∷ d ∷ [])
  by (inl h) (inl k) (inl l) (inl n) = inl (h.0, k.0, l.0, n.0, λ i. h.1 i ∷ k.1 i ∷ l.1 i ∷ n.1 i ∷ [])
  by (inl h) (inl k) (inl l) (inr n) = inr (λ r p e t is. n t (ap (λ s. slice_index_or s 3 0) is))
  by (inl h) (inl k) (inr l) n = inr (λ r p e t is. l e (ap (λ s. slice_index_or s 2 0) is))
  by (inl h) (inr k) l n = inr (λ r p e t is. k p (ap (λ s. slice_index_or s 1 0) is))
  by (inr h) k l n = inr (λ r p e t is. h r (ap (λ s. slice_index_or s 0 0) is))

-- words one by one
none_in_none : {X : Type 0} {w r : List X} {a : X} → w ≡ [] → w ≡ a ∷ r → ⊥
none_in_none h k = cc

two_in_one : {X : Type 0} {w r : List X} {a b c : X} → w ≡ a ∷ [] → w ≡ b ∷ c ∷ r → ⊥
two_in_one h k = cc

three_in_two : {X : Type 0} {w r : List X} {a b c d e : X} → w ≡ a ∷ b ∷ [] → w ≡ c ∷ d ∷ e ∷ r → ⊥
three_in_two h k = cc

three_in_four : {X : Type 0} {w r : List X} {a b c d e f g : X} → w ≡ a ∷ b ∷ c ∷ d ∷ r → w ≡ e ∷ f ∷ g ∷ [] → ⊥
three_in_four h k = cc

first_word : {X : Type 0} {w r s : List X} {a b : X} → w ≡ a ∷ r → w ≡ b ∷ s → a ≡ b
first_word h k = cc

second_word : {X : Type 0} {w r s : List X} {a b c d : X} → w ≡ a ∷ b ∷ r → w ≡ c ∷ d ∷ s → b ≡ d
second_word h k = cc

third_word : {X : Type 0} {w r s : List X} {a b c d e f : X} → w ≡ a ∷ b ∷ c ∷ r → w ≡ d ∷ e ∷ f ∷ s → c ≡ f
third_word h k = cc

behind_two : {X : Type 0} {w r s : List X} {a b c d : X} → w ≡ a ∷ b ∷ r → w ≡ c ∷ d ∷ s → r ≡ s
behind_two h k = cc

behind_one : {X : Type 0} {r s : List X} {a b : X} → a ∷ r ≡ b ∷ s → r ≡ s
behind_one h = cc

head_of : {X : Type 0} {r s : List X} {a b : X} → a ∷ r ≡ b ∷ s → a ≡ b
head_of h = cc

-- the number behind a name, where these are the first two words
record Named (name : List ℕ) (ws : List (List ℕ)) : Type 0 where
  pub number : ℕ
  pub digits : List ℕ
  pub more : List (List ℕ)
  pub whole : ws ≡ name ∷ digits ∷ more
  pub tells : TellsNumber number digits

abbrev NamedTold : List ℕ → List (List ℕ) → Type 0
NamedTold name ws =
    Named name ws ⊎
    ((n : ℕ) (digits : List ℕ) (more : List (List ℕ)) → ws ≡ name ∷ digits ∷ more → TellsNumber n digits → ⊥)

named_told : (name : List ℕ) (ws : List (List ℕ)) → NamedTold name ws
named_told name [] = inr (λ n digits more e told. cc)
named_told name (w ∷ []) = inr (λ n digits more e told. cc)
named_told name (w ∷ d ∷ ws) = by (same_words w name) (number_told d) where
  by : Decided (w ≡ name) → ((n : ℕ) × TellsNumber n d) ⊎ ((n : ℕ) → TellsNumber n d → ⊥) → NamedTold name (w ∷ d ∷ ws)
  by (inl h) (inl k) = inl (record { number = k.0; digits = d; more = ws; whole = ap (λ v. v ∷ d ∷ ws) h; tells = k.1 })
  by (inl h) (inr k) =
      inr (λ n digits more e told.
      let Tells : List ℕ → Type 0 = λ v. TellsNumber n v in k n (subst Tells (sym (head_of (behind_one e))) told))
  by (inr h) k = inr (λ n digits more e told. h (head_of e))

abbrev NamesTold : List (List ℕ) → Type 0
NamesTold ws = ((a h e : ℕ) × TellsNames a h e ws) ⊎ ((a h e : ℕ) → TellsNames a h e ws → ⊥)

names_told : (ws : List (List ℕ)) → NamesTold ws
names_told ws = application (named_told (codes "app") ws) where
  at_end : (x : Named (codes "app") ws) (y : Named (codes "hop") x.more) (z : Named (codes "end") y.more)
      (left : List (List ℕ)) → z.more ≡ left → NamesTold ws
  at_end x y z [] is =
      inl (
        x.number,
        y.number,
        z.number,
        record {
          application_word = x.digits;
          hop_id_word = y.digits;
          end_id_word = z.digits;
          whole =
              x.whole ∙ ap (λ v. codes "app" ∷ x.digits ∷ v) (y.whole
              ∙ ap (λ v. codes "hop" ∷ y.digits ∷ v) (z.whole ∙ ap (λ v. codes "end" ∷ z.digits ∷ v) is));
          tells_application = x.tells;
          tells_hop_id = y.tells;
          tells_end_id = z.tells;
        },
      )
  at_end x y z (w ∷ left) is =
      inr (λ a h e told. none_in_none (behind_two z.whole (behind_two y.whole (behind_two x.whole told.whole))) is)

  end_id : (x : Named (codes "app") ws) (y : Named (codes "hop") x.more) → NamedTold (codes "end") y.more → NamesTold ws
  end_id x y (inl z) = at_end x y z z.more refl
  end_id x y (inr none) =
      inr (λ a h e told. none e told.end_id_word [] (behind_two y.whole (behind_two x.whole told.whole))
      told.tells_end_id)

  hop_id : (x : Named (codes "app") ws) → NamedTold (codes "hop") x.more → NamesTold ws
  hop_id x (inl y) = end_id x y (named_told (codes "end") y.more)
  hop_id x (inr none) =
      inr (λ a h e told. none h told.hop_id_word _ (behind_two x.whole told.whole) told.tells_hop_id)

  application : NamedTold (codes "app") ws → NamesTold ws
  application (inl x) = hop_id x (named_told (codes "hop") x.more)
  application (inr none) = inr (λ a h e told. none a told.application_word _ told.whole told.tells_application)

abbrev pub HeaderTold : List ℕ → Type 0
HeaderTold line = ((h : Header) × TellsHeader h line) ⊎ ((h : Header) → TellsHeader h line → ⊥)

pub header_told : (line : List ℕ) → HeaderTold line
header_told line = named (named_told (codes "message") (words line)) where
  whole_header : (x : Named (codes "message") (words line)) (f : List ℕ) (ws : List (List ℕ)) → x.more ≡ f ∷ ws
      → HeaderMarksTold f → NamesTold ws → HeaderTold line
  whole_header x f ws is (inl m) (inl n) =
      let names = n.3 in
      inl (
        record {
          request = m.0;
          proxiable = m.1;
          error = m.2;
          retransmit = m.3;
          command = x.number;
          application = n.0;
          hop_id = n.1;
          end_id = n.2;
        },
        record {
          command = x.digits;
          application = names.application_word;
          hop_id = names.hop_id_word;
          end_id = names.end_id_word;
          whole = x.whole ∙ ap (λ v. codes "message" ∷ x.digits ∷ v) (is ∙ λ i. m.4 i ∷ names.whole i);
          tells_command = x.tells;
          tells_application = names.tells_application;
          tells_hop_id = names.tells_hop_id;
          tells_end_id = names.tells_end_id;
        },
      )
  whole_header x f ws is (inl m) (inr none) =
      inr (λ h told. none h.application h.hop_id h.end_id (record {
        application_word = told.application;
        hop_id_word = told.hop_id;
        end_id_word = told.end_id;
        whole = behind_one (sym is ∙ behind_two x.whole told.whole);
        tells_application = told.tells_application;
        tells_hop_id = told.tells_hop_id;
        tells_end_id = told.tells_end_id;
      }))
  whole_header x f ws is (inr none) n =
      inr (λ h told. none h.request h.proxiable h.error h.retransmit (head_of (sym is ∙ behind_two x.whole told.whole)))

  flagged : (x : Named (codes "message") (words line)) (left : List (List ℕ)) → x.more ≡ left → HeaderTold line
  flagged x [] is = inr (λ h told. none_in_none is (behind_two x.whole told.whole))
  flagged x (f ∷ ws) is = whole_header x f ws is (header_marks_told f) (names_told ws)

  named : NamedTold (codes "message") (words line) → HeaderTold line
  named (inl x) = flagged x x.more refl
  named (inr none) = inr (λ h told. none h.command told.command _ told.whole told.tells_command)

abbrev pub AvpTold : List ℕ → Type 0
AvpTold line = ((a : Avp) × TellsAvp a line × (are_octets a.bytes ≡ true)) ⊎ ((a : Avp) → TellsAvp a line → ⊥)

pub avp_told : (line : List ℕ) → AvpTold line
avp_told line = by (words line) refl where
  with_data : (x y z : List ℕ) → words line ≡ x ∷ y ∷ z ∷ [] → (c : (n : ℕ) × (v : Option ℕ) × TellsCode n v x)
      → (m p : Bool) × (y ≡ avp_marks (is_some c.1) m p) → DataTold z → AvpTold line
  with_data x y z is c f (inl d) =
      inl (
        record { code = c.0; vendor = c.1; mandatory = f.0; protected = f.1; bytes = d.0 },
        record { code = x; bytes = z; whole = is ∙ ap (λ v. x ∷ v ∷ z ∷ []) f.2; tells_code = c.2; tells_bytes = d.1 },
        d.2,
      )
  with_data x y z is c f (inr none) =
      inr (λ a told.
      let Data : List ℕ → Type 0 = λ v. TellsData a.bytes v in none a.bytes
      (subst Data (third_word told.whole is) told.tells_bytes))

  with_flags : (x y z : List ℕ) → words line ≡ x ∷ y ∷ z ∷ [] → (c : (n : ℕ) × (v : Option ℕ) × TellsCode n v x)
      → AvpMarksTold (is_some c.1) y → AvpTold line
  with_flags x y z is c (inl f) = with_data x y z is c f (data_told z)
  with_flags x y z is c (inr none) =
      inr (λ a told.
      let Code : List ℕ → Type 0 = λ v. TellsCode a.code a.vendor v in
      let same = one_code a.code c.0 a.vendor c.1 x (subst Code (first_word told.whole is) told.tells_code) c.2 in
      none a.mandatory a.protected
      (second_word is told.whole ∙ ap (λ v. avp_marks (is_some v) a.mandatory a.protected) same.1))

  with_code : (x y z : List ℕ) → words line ≡ x ∷ y ∷ z ∷ [] → CodeTold x → AvpTold line
  with_code x y z is (inl c) = with_flags x y z is c (avp_marks_told (is_some c.1) y)
  with_code x y z is (inr none) =
      inr (λ a told.
      let Code : List ℕ → Type 0 = λ v. TellsCode a.code a.vendor v in none a.code a.vendor
      (subst Code (first_word told.whole is) told.tells_code))

  by : (ws : List (List ℕ)) → words line ≡ ws → AvpTold line
  by [] is = inr (λ a told. none_in_none is told.whole)
  by (x ∷ []) is = inr (λ a told. two_in_one is told.whole)
  by (x ∷ y ∷ []) is = inr (λ a told. three_in_two is told.whole)
  by (x ∷ y ∷ z ∷ []) is = with_code x y z is (code_told x)
  by (x ∷ y ∷ z ∷ w ∷ ws) is = inr (λ a told. three_in_four is told.whole)
