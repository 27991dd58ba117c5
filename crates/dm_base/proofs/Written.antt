-- The parts of the answer of success, written one behind the other.
use Rattle.std.proofs.Common.{◌≡◌, ◌≤◌, ℕ, ◌+◌, true, nat_le, None, List, [], ◌∷◌, ◌++◌, length, refl, ◌∙◌, ap, sym, subst, arith, append_assoc, append-nil, length-append}
use Rattle.std.proofs.lemmas.Bool.{and_parts, leb-true}
use Rattle.dm_value.specs.Flaws.{is_visible_text}
use Rattle.dm_wire.specs.declared.avp.Avp.{Avp}
use Rattle.dm_wire.specs.declared.message.Header.{Header}
use Rattle.dm_wire.specs.declared.message.Message.{Message}
use Rattle.dm_wire.specs.Spelling.{avp_length, SpellsMessage}
use Rattle.dm_wire.specs.Canonical.{canonical_avp, canonical_list, canonical_message}
use Rattle.dm_wire.specs.Fitting.{AvpSized}
use Rattle.dm_wire.specs.Limits.{HeaderFits}
use Rattle.dm_wire.specs.RoundTrip.{CanonicalSpells}
use Rattle.dm_wire.specs.Members.{padded}
use Rattle.dm_base.specs.Codes.{success, max_name_len}
use Rattle.dm_base.specs.Fit.{is_name}
use Rattle.dm_base.specs.Built.{built_answer}
use Rattle.dm_base.specs.Laws.{AnswerIsSpelled}
use Rattle.dm_base.specs.Spelled.{HasSpelling, IsSpelledBy}
use Rattle.dm_base.specs.declared.node.Node.{Node}

-- a name is short
pub short : (s : List ℕ) → is_name s ≡ true → length s ≤ max_name_len
short s h =
    let (_, few) = and_parts (is_visible_text s) (nat_le (length s) max_name_len) h in
    leb-true (length s) max_name_len few

pub host : (n : Node) → length n.host ≤ max_name_len
host n = short n.host n.fit_host

pub realm : (n : Node) → length n.realm ≤ max_name_len
realm n = short n.realm n.fit_realm

-- three lists, appended in turn
appended : (x y z o0 o1 o2 o3 : List ℕ) → o1 ≡ o0 ++ x → o2 ≡ o1 ++ y → o3 ≡ o2 ++ z
    → o3 ≡ o0 ++ (x ++ (y ++ (z ++ [])))
appended x y z o0 o1 o2 o3 e1 e2 e3 = e3 ∙ rw (e2, e1) (simp (append_assoc, append-nil))

-- three AVPs, appended in turn
pub list_put : (a b c x y z : Avp) (o0 o1 o2 o3 : List ℕ) → x ≡ a → y ≡ b → z ≡ c → o1 ≡ o0 ++ canonical_avp x
    → o2 ≡ o1 ++ canonical_avp y → o3 ≡ o2 ++ canonical_avp z → o3 ≡ o0 ++ canonical_list (a ∷ b ∷ c ∷ [])
list_put a b c x y z o0 o1 o2 o3 ea eb ec e1 e2 e3 =
    appended (canonical_avp a) (canonical_avp b) (canonical_avp c) o0 o1 o2 o3
    (e1 ∙ ap (λ v. o0 ++ canonical_avp v) ea) (e2 ∙ ap (λ v. o1 ++ canonical_avp v) eb)
    (e3 ∙ ap (λ v. o2 ++ canonical_avp v) ec)

-- how long three lists are together
summed : (x y z : List ℕ) → length (x ++ (y ++ (z ++ []))) ≡ length x + length y + length z
summed x y z = simp (length-append, append-nil) (omega arith)

-- how many octets they take
pub list_sized : AvpSized → (a b c : Avp)
    → length (canonical_list (a ∷ b ∷ c ∷ [])) ≡ padded (avp_length a) + padded (avp_length b) + padded (avp_length c)
list_sized sized a b c =
    summed (canonical_avp a) (canonical_avp b) (canonical_avp c) ∙ rw (sized a, sized b, sized c) refl

three : (x y z r : List ℕ) → x ++ (y ++ (z ++ r)) ≡ (x ++ (y ++ (z ++ []))) ++ r
three x y z r = simp (append_assoc, append-nil)

-- AVPs behind three
pub behind_three : (a b c : Avp) (rest : List Avp)
    → canonical_list (a ∷ b ∷ c ∷ rest) ≡ canonical_list (a ∷ b ∷ c ∷ []) ++ canonical_list rest
behind_three a b c rest = three (canonical_avp a) (canonical_avp b) (canonical_avp c) (canonical_list rest)

-- appended in turn
pub list_behind : (a b c : Avp) (rest : List Avp) (o0 o1 o2 : List ℕ) → o1 ≡ o0 ++ canonical_list (a ∷ b ∷ c ∷ [])
    → o2 ≡ o1 ++ canonical_list rest → o2 ≡ o0 ++ canonical_list (a ∷ b ∷ c ∷ rest)
list_behind a b c rest o0 o1 o2 e1 e2 =
    e2 ∙ ap (λ v. v ++ canonical_list rest) e1
    ∙ append_assoc o0 (canonical_list (a ∷ b ∷ c ∷ [])) (canonical_list rest)
    ∙ ap (λ v. o0 ++ v) (sym (behind_three a b c rest))

-- how many octets they take
pub sized_behind : (a b c : Avp) (rest : List Avp) (x y : ℕ) → x ≡ length (canonical_list (a ∷ b ∷ c ∷ []))
    → y ≡ length (canonical_list rest) → x + y ≡ length (canonical_list (a ∷ b ∷ c ∷ rest))
sized_behind a b c rest x y ex ey =
    rw (ex, ey) (sym (ap length (behind_three a b c rest)
    ∙ length-append (canonical_list (a ∷ b ∷ c ∷ [])) (canonical_list rest)))

-- the canonical octets of a message that has a spelling spell it
canonical_spelled : CanonicalSpells → (m : Message) (s : List ℕ) → HasSpelling m → s ≡ canonical_message m
    → IsSpelledBy m s
canonical_spelled law m s has e = record { spelled = subst (SpellsMessage m) (sym e) (law m has.octets has.spelled) }

-- so what is written spells the answer of success
pub success_spelled : CanonicalSpells → AnswerIsSpelled → (n : Node) (to : Header) (s : List ℕ) → HeaderFits to
    → s ≡ canonical_message (built_answer n to success None) → IsSpelledBy (built_answer n to success None) s
success_spelled law spelled n to s fits e =
    canonical_spelled law (built_answer n to success None) s (spelled n to success None fits) e
