-- What is read of octets, and why they are refused.
use Rattle.std.proofs.Common.{◌≡◌, ◌<◌, ◌≤◌, ◌⊎◌, inl, inr, ◌↔◌, Result, Ok, Err, IfOk, IfErr, IsOkAnd, IsErr, IsErrOf, ℕ, ◌+◌, ◌%◌, Bool, true, false, Option, None, Some, is_some, option_map, List, [], ◌∷◌, ◌++◌, length, take, drop, slice_index, nat_eq, eqb-true, refl, sym, ◌∙◌, ap, subst, arith, append-nil, append_assoc}
use Rattle.std.proofs.lemmas.List.{take-append-drop, length-drop, drop-drop, drop-take}
use Rattle.byteorder.specs.Endian.{big_number}
use Rattle.dm_wire.specs.declared.avp.Avp.{Avp}
use Rattle.dm_wire.specs.declared.message.Header.{Header}
use Rattle.dm_wire.specs.declared.message.Message.{Message}
use Rattle.dm_wire.specs.declared.fault.WireFault.{WireFault}
use Rattle.dm_wire.specs.declared.fault.WireFault.TheVariants.{AvpLength, NoMemory}
use Rattle.dm_wire.specs.Members.{members}
use Rattle.dm_wire.specs.Spelling.{SpellsList, SpellsHeader, SpellsMessage}
use Rattle.dm_wire.specs.Refusal.{IsBadAt, IsOtherLength, Refuses}
use Rattle.dm_wire.proofs.Numbers.{IsOctets}
use Rattle.dm_wire.proofs.Lists.{no_bad_in_list}
use Rattle.dm_wire.proofs.Members.{members_nil, members_spelled, spelled_members}
use Rattle.dm_wire.proofs.Messages.{HeaderFront, header_front, one_message, no_refusal, one_refusal, one_bad}

-- octets that spell a list have members
pub some_members : (s : List ℕ) (l : List Avp) → IsOctets s → SpellsList l s → is_some (members s) ≡ true
some_members s l o sp = ap is_some (spelled_members l s sp)

-- octets with a bad AVP have none
pub no_members : (s : List ℕ) (o : ℕ) → IsOctets s → IsBadAt 0 s o → is_some (members s) ≡ false
no_members s o i bad = by (members s) refl where
  by : (m : Option (List Avp)) → members s ≡ m → is_some m ≡ false
  by None e = refl
  by (Some l) e = absurd (no_bad_in_list 0 l s o (members_spelled (length s) s l (omega arith) i e) bad)

-- a bad AVP behind n, by its offset in the whole
pub bad_behind : (n : ℕ) (s : List ℕ) (o : ℕ) → n ≤ length s → IsBadAt 0 (drop n s) o → IsBadAt n s (n + o)
bad_behind n s o h bad =
    let size = length-drop n s in
    let below : o < length (drop n s) = bad.below in
    record {
      above = omega arith;
      below = omega arith;
      before = ((bad.before).0, rw (drop-take n o s) (bad.before).1);
      bad = rw (drop-drop o n s) at bad.bad;
    }

-- what a header that is taken says of the whole
pub headed : (h : Header) (s : List ℕ) → 20 ≤ length s → SpellsHeader h (length s) (take 20 s) → (IsOtherLength s → ⊥)
    → (slice_index s 0 ≡ 1) × (big_number 3 (drop 1 s) ≡ length s) × (length s % 4 ≡ 0)
headed h s long sp right =
    let f : HeaderFront h (length s) s =
    rw (take-append-drop 20 s) at (header_front h (length s) (take 20 s) (drop 20 s) sp) in
    (f.version, sym f.size_is, by (nat_eq (length s % 4) 0) refl f.version)
  where
    by : (b : Bool) → nat_eq (length s % 4) 0 ≡ b → slice_index s 0 ≡ 1 → length s % 4 ≡ 0
    by true e v = eqb-true (length s % 4) 0 e
    by false e v = absurd (right (long, v, inr (λ z. let t = rw z at e in cc)))

-- what is wrong with the octets is answered where what is read is spelled, and a refusal is the octets' own or comes
-- of octets that are spelled
pub refused : {V : Type 0} (r : Result V WireFault) (s : List ℕ) (f : WireFault) →
    IfOk r (λ _. (m : Message) × SpellsMessage m s)
    → IfErr r (λ g. ((m : Message) × (g ≡ NoMemory) × SpellsMessage m s) ⊎ Refuses s g) → Refuses s f → IsErrOf r f
refused (Ok v) s f ok err h = absurd (no_refusal ok.0 s f ok.1 h)
refused (Err g) s f ok (inl m) h = absurd (no_refusal m.0 s f m.2 h)
refused (Err g) s f ok (inr k) h = ap Err (one_refusal s g f k h)

-- a refusal other than want of memory is the octets' own
pub told : {V : Type 0} (r : Result V WireFault) (s : List ℕ) (f : WireFault)
    → IfErr r (λ g. ((m : Message) × (g ≡ NoMemory) × SpellsMessage m s) ⊎ Refuses s g) → (f ≡ NoMemory → ⊥) →
    IsErrOf r f → Refuses s f
told (Ok v) s f err n e = absurd (cc)
told (Err g) s f (inl m) n e = absurd (n (let same = m.1 in let is : g ≡ f = cc in sym is ∙ same))
told (Err g) s f (inr k) n e = let is : g ≡ f = cc in rw is at k

-- both
pub exactly : {V : Type 0} (r : Result V WireFault) (s : List ℕ) (f : WireFault) →
    IfOk r (λ _. (m : Message) × SpellsMessage m s)
    → IfErr r (λ g. ((m : Message) × (g ≡ NoMemory) × SpellsMessage m s) ⊎ Refuses s g) → (f ≡ NoMemory → ⊥) →
    IsErrOf r f ↔ Refuses s f
exactly r s f ok err n = (told r s f err n, refused r s f ok err)

-- what is read is spelled
pub spelled_ok : (r : Result Message WireFault) (s : List ℕ) → IfOk r (λ m. SpellsMessage m s) →
    IfOk r (λ _. (m : Message) × SpellsMessage m s)
spelled_ok (Ok m) s h = (m, h)
spelled_ok (Err f) s h = tt

-- why a list isn't read: want of memory where one is spelled, else the first bad AVP
abbrev pub ListCause : List ℕ → WireFault → Type 0
ListCause s g = ((l : List Avp) × (g ≡ NoMemory) × SpellsList l s) ⊎ ((o : ℕ) × (g ≡ AvpLength o) × IsBadAt 0 s o)

pub list_memory : (g : WireFault) (s : List ℕ) (l : List Avp) → ListCause s g → SpellsList l s → g ≡ NoMemory
list_memory g s l (inl m) sp = m.1
list_memory g s l (inr k) sp = absurd (no_bad_in_list 0 l s k.0 sp k.2)

pub bad_told : (g : WireFault) (s : List ℕ) (o : ℕ) → ListCause s g → IsBadAt 0 s o → g ≡ AvpLength o
bad_told g s o (inl m) bad = absurd (no_bad_in_list 0 m.0 s o m.2 bad)
bad_told g s o (inr k) bad = k.1 ∙ ap AvpLength (one_bad 0 s k.0 o k.2 bad)

-- a message that is spelled is read
pub only_read : (h : Header) (rest s : List ℕ) (m k : Message) → SpellsMessage k s → k.header ≡ h →
    SpellsList k.avps rest → SpellsMessage m s
    → (h ≡ m.header) × SpellsList m.avps rest
only_read h rest s m k spk eh l spm =
    let same = (one_message k m s s [] [] spk spm refl).0 in
    (sym eh ∙ ap (λ x. x.header) same, subst (λ (x : Message). SpellsList x.avps rest) same l)

-- a refusal of octets that are spelled doesn't come
pub not_refused : {V : Type 0} (P : V → Type 0) (r : Result V WireFault) (s : List ℕ) (m : Message) → (IsErr r) →
    IfErr r (Refuses s) → SpellsMessage m s → IsOkAnd r P
not_refused P (Ok v) s m e err sp = absurd (cc)
not_refused P (Err g) s m e err sp = absurd (no_refusal m s g sp err)

-- the fault of octets is the refusal
pub refused_by : {V : Type 0} (r : Result V WireFault) (s : List ℕ) (f : WireFault) → IsErr r → IfErr r (Refuses s) →
    Refuses s f → IsErrOf r f
refused_by (Ok v) s f e err h = absurd (cc)
refused_by (Err g) s f e err h = ap Err (one_refusal s g f err h)

-- causes without what was spelled
pub by_cause : (r : Result Message WireFault) (s : List ℕ) →
    IfErr r (λ g. ((m : Message) × (g ≡ NoMemory) × SpellsMessage m s) ⊎ Refuses s g)
    → IfErr r (λ g. (g ≡ NoMemory) ⊎ Refuses s g)
by_cause (Ok v) s err = tt
by_cause (Err g) s (inl m) = inl m.1
by_cause (Err g) s (inr k) = inr k

-- one AVP more stands in front of what is left
pub pushed : (s left : List ℕ) (n : ℕ) (l k : List Avp) (a b : Avp) →
    members s ≡ option_map (λ m. l ++ m) (members left)
    → members left ≡ option_map (λ m. a ∷ m) (members (drop n left)) → b ≡ a → k ≡ l ++ b ∷ []
    → members s ≡ option_map (λ m. k ++ m) (members (drop n left))
pushed s left n l k a b before first is added = before ∙ ap (option_map (λ m. l ++ m)) first ∙
    by (members (drop n left)) where
      by : (o : Option (List Avp)) → option_map (λ m. l ++ m) (option_map (λ m. a ∷ m) o) ≡ option_map (λ m. k ++ m) o
      by None = refl
      by (Some m) = rw (added, is, append_assoc) refl

-- where nothing is left behind the members that were pushed, they are all
pub all_pushed : (s rest : List ℕ) (l : List Avp) → IsOctets s → members s ≡ option_map (λ k. l ++ k) (members rest) →
    nat_eq (length rest) 0 ≡ true → SpellsList l s
all_pushed s [] l i e nil =
    members_spelled (length s) s l (omega arith) i
    (e ∙ ap (option_map (λ k. l ++ k)) members_nil ∙ ap Some (append-nil l))
all_pushed s (x ∷ rest) l i e nil =
    absurd (let none : length (x ∷ rest) ≡ 0 = eqb-true (length (x ∷ rest)) 0 nil in omega arith)
