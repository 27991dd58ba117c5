-- Spellings of lists of AVPs, one after the other.
use Rattle.std.proofs.Common.{◌≡◌, ◌<◌, ◌≤◌, ◌⊎◌, inl, inr, Result, Ok, Err, IfOk, IfErr, MatchResult, ℕ, ◌%◌, List, [], ◌∷◌, ◌++◌, length, take, drop, refl, sym, ◌∙◌, ap, arith, append_assoc, append-nil, length-append}
use Rattle.dm_wire.specs.declared.avp.Avp.{Avp}
use Rattle.dm_wire.specs.Spelling.{avp_header_len, avp_length, SpellsAvp, SpellsList}
use Rattle.dm_wire.specs.declared.fault.WireFault.{WireFault}
use Rattle.dm_wire.specs.declared.fault.WireFault.TheVariants.{AvpLength, NoMemory}
use Rattle.dm_wire.specs.Refusal.{IsBadAt, BeginsWithNoAvp}
use Rattle.std.proofs.lemmas.List.{length-drop}
use Rattle.dm_wire.proofs.Cuts.{drop_cut}
use Rattle.dm_wire.proofs.Fronts.{header_above}
use Rattle.dm_wire.proofs.Spellings.{one_avp, front}

-- one AVP more, behind
pub list_push : (l : List Avp) (a : Avp) (s t : List ℕ) → SpellsList l s → SpellsAvp a t →
    SpellsList (l ++ a ∷ []) (s ++ t)
list_push [] a s t e sp = (t, [], rw (e) (sym (append-nil t)), sp, refl)
list_push (b ∷ l) a s t h sp =
    (h.0, h.1 ++ t, rw (h.2) (append_assoc h.0 h.1 t), h.3, list_push l a h.1 t h.4 sp)

-- a spelling of an AVP has octets
pub avp_not_empty : (a : Avp) (s : List ℕ) → SpellsAvp a s → 0 < length s
avp_not_empty a s sp =
    let f = front a s [] (s ++ []) sp refl in
    let least : avp_length a ≤ length s = f.least in
    let above : 8 ≤ avp_header_len a.vendor = header_above a.vendor in
    omega arith

-- nothing spells an AVP and what follows it
none_in_nothing : (a : Avp) (first rest : List ℕ) → SpellsAvp a first → [] ≡ first ++ rest → ⊥
none_in_nothing a first rest sp e =
    let n = ap length e ∙ length-append first rest in
    let above = avp_not_empty a first sp in
    omega arith

same_cons : (a b : Avp) (l k : List Avp) → a ≡ b → k ≡ l → b ∷ k ≡ a ∷ l
same_cons a b l k e f = rw (e, f) refl

-- a longer text's list begins with the list of its front
pub list_front : (l k : List Avp) (s r : List ℕ) → SpellsList l s → SpellsList k (s ++ r) →
    (m : List Avp) × (k ≡ l ++ m) × SpellsList m r
list_front [] k s r e h = (k, refl, rw e at h)
list_front (a ∷ l) [] s r h e =
    absurd (none_in_nothing a h.0 (h.1 ++ r) h.3 (sym e ∙ rw (h.2) (append_assoc h.0 h.1 r)))
list_front (a ∷ l) (b ∷ k) s r h g =
    let joined : h.0 ++ (h.1 ++ r) ≡ g.0 ++ g.1 = sym (append_assoc h.0 h.1 r) ∙ rw (← h.2) (g.2) in
    let same = one_avp a b h.0 g.0 (h.1 ++ r) g.1 h.3 g.3 joined in
    let later = list_front l k h.1 r h.4 (rw (same.2) g.4) in
    (later.0, same_cons a b (l ++ later.0) k same.0 later.1, later.2)

-- where no AVP begins, no list goes on
pub no_more : (m : List Avp) (r : List ℕ) → 0 < length r → BeginsWithNoAvp r → SpellsList m r → ⊥
no_more [] r n none e = let z = ap length e in omega arith
no_more (a ∷ m) r n none h = none a h.0 h.1 h.3 h.2

-- a list that ends where no AVP begins is no front of a longer list's octets
pub list_ends : (l k : List Avp) (s t r : List ℕ) → SpellsList l s → SpellsList k (s ++ t) → 0 < length t →
    BeginsWithNoAvp (t ++ r) → ⊥
list_ends l k s t r h g n none = go (list_front l k s t h g) where
  go : ((m : List Avp) × (k ≡ l ++ m) × SpellsList m t) → ⊥
  go more = at_first more.0 more.2
    where
      at_first : (m : List Avp) → SpellsList m t → ⊥
      at_first [] e = let z = ap length e in omega arith
      at_first (a ∷ m) e = none a e.0 (e.1 ++ r) e.3 (rw (e.2) (append_assoc e.0 e.1 r))

-- where octets have a list behind n, no bad AVP begins
pub no_bad_in_list : (n : ℕ) (l : List Avp) (s : List ℕ) (o : ℕ) → SpellsList l (drop n s) → IsBadAt n s o → ⊥
no_bad_in_list n l s o sp bad =
    let split = drop_cut n o s bad.above (omega (arith, bad.below)) in
    list_ends (bad.before).0 l (drop n (take o s)) (drop o s) [] (bad.before).1
    (rw (← split) sp) (let below = bad.below in omega (arith, length-drop o s)) (rw append-nil bad.bad)

-- octets spell at most one list
pub one_list : (l k : List Avp) (s : List ℕ) → SpellsList l s → SpellsList k s → l ≡ k
one_list l k s h g =
    let more = list_front l k s [] h (rw (append-nil s) g) in
    sym (more.1 ∙ rw (no_list more.0 more.2) (append-nil l))
  where
    no_list : (m : List Avp) → SpellsList m [] → m ≡ []
    no_list [] e = refl
    no_list (a ∷ m) h = absurd (none_in_nothing a h.0 h.1 h.3 h.2)

-- a spelling of a list is aligned
pub list_aligned : (l : List Avp) (s : List ℕ) → SpellsList l s → length s % 4 ≡ 0
list_aligned [] s e = rw (e) refl
list_aligned (a ∷ l) s h =
    rw (h.2, length-append h.0 h.1) (let e = list_aligned l h.1 h.4 in let f = (h.3).aligned in omega arith)

-- what reads only a list that is spelled, and refuses for cause or want of memory, reads the list that is spelled
pub only_list : {V : Type 0} (items : V → List Avp) (r : Result V WireFault) (s : List ℕ) (l : List Avp) →
    IfOk r (λ v. SpellsList (items v) s) →
    IfErr r (λ f. (f ≡ NoMemory) ⊎ ((o : ℕ) × (f ≡ AvpLength o) × IsBadAt 0 s o)) → SpellsList l s →
    MatchResult r (λ v. items v ≡ l) (λ f. f ≡ NoMemory)
only_list items (Ok v) s l found fault sp = one_list (items v) l s found sp
only_list items (Err f) s l found (inl e) sp = e
only_list items (Err f) s l found (inr bad) sp = absurd (no_bad_in_list 0 l s bad.0 sp bad.2)
