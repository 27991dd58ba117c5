-- Octets spell at most one message, and then nothing is wrong with them.
use Rattle.std.proofs.Common.{◌≡◌, ◌<◌, ◌≤◌, ◌⊎◌, inl, inr, Result, Ok, Err, IfOk, IfErr, ℕ, ◌+◌, ◌-◌, ◌%◌, ◌^◌, Bool, List, [], ◌∷◌, ◌++◌, length, take, drop, slice_index, refl, sym, ◌∙◌, ap, arith, append_assoc, append-nil, length-append}
use Rattle.std.proofs.lemmas.List.{take-append-drop, length-take-le, length-drop}
use Rattle.std.proofs.Math.Seq.{drop-append_seam}
use Rattle.byteorder.specs.Endian.{big_number}
use Rattle.byteorder.specs.Numbers.{big_number-reads_back}
use Rattle.dm_wire.specs.declared.avp.Avp.{Avp}
use Rattle.dm_wire.specs.declared.message.Header.{Header}
use Rattle.dm_wire.specs.declared.message.Message.{Message}
use Rattle.dm_wire.specs.declared.fault.WireFault.{WireFault}
use Rattle.dm_wire.specs.declared.fault.WireFault.TheVariants.{TooShort, Version, Length, AvpLength, TooLong, NoMemory}
use Rattle.dm_wire.specs.Spelling.{be, SpellsHeader, SpellsMessage}
use Rattle.dm_wire.specs.Whole.{header_in}
use Rattle.dm_wire.specs.Refusal.{IsBadAt, Refuses}
use Rattle.dm_wire.proofs.Cuts.{drop-take-add}
use Rattle.dm_wire.proofs.Lists.{list_ends, list_aligned, one_list, no_bad_in_list}
use Rattle.dm_wire.proofs.Spellings.{same_halves}

abbrev pub made : Bool → Bool → Bool → Bool → ℕ → ℕ → ℕ → ℕ → Header
made r p e t c a h n =
    record {
      request = r;
      proxiable = p;
      error = e;
      retransmit = t;
      command = c;
      application = a;
      hop_id = h;
      end_id = n;
    }

pub same_made : (r p e t r' p' e' t' : Bool) (c a h n c' a' h' n' : ℕ) → r ≡ r' → p ≡ p' → e ≡ e' → t ≡ t' → c ≡ c' →
    a ≡ a' → h ≡ h' → n ≡ n' → made r p e t c a h n ≡ made r' p' e' t' c' a' h' n'
same_made r p e t r' p' e' t' c a h n c' a' h' n' e0 e1 e2 e3 e4 e5 e6 e7 = rw (e0, e1, e2, e3, e4, e5, e6, e7) refl

-- the octets of a header with this flag octet
abbrev layout : ℕ → ℕ → Header → List ℕ
layout flags size h = 1 ∷ be size 3 ++ flags ∷ be h.command 3 ++ be h.application 4 ++ be h.hop_id 4 ++ be h.end_id 4

-- what the spelling of a header at the front says
pub record HeaderFront (h : Header) (size : ℕ) (s : List ℕ) : Type 0 where
  pub version : slice_index s 0 ≡ 1
  pub size_is : size ≡ big_number 3 (drop 1 s)
  pub header_is : h ≡ header_in s

pub header_front : (h : Header) (size : ℕ) (front rest : List ℕ) → SpellsHeader h size front →
    HeaderFront h size (front ++ rest)
header_front h size front rest sp =
    let fits : size < 256 ^ 3 = (let n : size ≤ 16777212 = sp.size_fits in omega arith) in
    rw (sp.whole) (record {
      version = refl;
      size_is = sym (big_number-reads_back 3 size (drop 4 (layout sp.flags size h ++ rest)) fits);
      header_is = same_made _ _ _ _ _ _ _ _ _ _ _ _ _ _ _ _ (sym sp.request_bit) (sym sp.proxiable_bit)
          (sym sp.error_bit) (sym sp.retransmit_bit)
          (sym (big_number-reads_back 3 h.command (drop 8 (layout sp.flags size h ++ rest)) sp.command_fits))
          (sym (big_number-reads_back 4 h.application (drop 12 (layout sp.flags size h ++ rest)) sp.application_fits))
          (sym (big_number-reads_back 4 h.hop_id (drop 16 (layout sp.flags size h ++ rest)) sp.hop_fits))
          (sym (big_number-reads_back 4 h.end_id rest sp.end_fits));
    })

pub header_len : (h : Header) (size : ℕ) (front : List ℕ) → SpellsHeader h size front → length front ≡ 20
header_len h size front sp = rw (sp.whole) refl

-- what the spelling of a message at the front says
pub record MessageFront (m : Message) (n : ℕ) (s : List ℕ) : Type 0 where
  pub long : 20 ≤ n
  pub aligned : n % 4 ≡ 0
  pub header : HeaderFront m.header n s

pub message_front : (m : Message) (s x : List ℕ) → SpellsMessage m s → MessageFront m (length s) (s ++ x)
message_front m s x sp =
    let n = header_len m.header (length s) sp.front sp.header in
    let size : length s ≡ length sp.front + length sp.rest = ap length sp.whole ∙ length-append sp.front sp.rest in
    let aligned = list_aligned m.avps sp.rest sp.avps in
    let joined : s ++ x ≡ sp.front ++ (sp.rest ++ x) = ap (λ l. l ++ x) sp.whole ∙ append_assoc sp.front sp.rest x in
    record {
      long = omega arith;
      aligned = omega arith;
      header = rw joined (header_front m.header (length s) sp.front (sp.rest ++ x) sp.header);
    }

message_rest : (m : Message) (s : List ℕ) (sp : SpellsMessage m s) → sp.rest ≡ drop 20 s
message_rest m s sp =
    let n = header_len m.header (length s) sp.front sp.header in
    sym (rw (sp.whole, ← n) (drop-append_seam sp.front sp.rest))

abbrev whole : Header → List Avp → Message
whole h l = record { header = h; avps = l }

pub same_message : (m k : Message) → m.header ≡ k.header → m.avps ≡ k.avps → m ≡ k
same_message m k e f = go m.header k.header m.avps k.avps e f where
  go : (h h' : Header) (l l' : List Avp) → h ≡ h' → l ≡ l' → whole h l ≡ whole h' l'
  go h h' l l' e f = rw (e, f) refl

-- two spellings of messages at one front are one
pub one_message : (m k : Message) (s t x y : List ℕ) → SpellsMessage m s → SpellsMessage k t → s ++ x ≡ t ++ y →
    (m ≡ k) × (s ≡ t) × (x ≡ y)
one_message m k s t x y h g e =
    let f = message_front m s x h in
    let f' : MessageFront k (length t) (s ++ x) = rw e (message_front k t y g) in
    let lens : length s ≡ length t = f.header.size_is ∙ sym f'.header.size_is in
    let halves = same_halves s t x y lens e in
    let headers : m.header ≡ k.header = f.header.header_is ∙ sym f'.header.header_is in
    let rests : g.rest ≡ h.rest = message_rest k t g ∙ ap (drop 20) (sym halves.0) ∙ sym (message_rest m s h) in
    let avps : m.avps ≡ k.avps = one_list m.avps k.avps h.rest h.avps (rw (← rests) g.avps) in
    (same_message m k headers avps, halves.0, halves.1)

-- octets of a message aren't bad anywhere
pub not_bad : (m : Message) (s : List ℕ) (o : ℕ) → SpellsMessage m s → IsBadAt 20 s o → ⊥
not_bad m s o sp bad = no_bad_in_list 20 m.avps s o (rw (← message_rest m s sp) sp.avps) bad

-- octets of a message have no fault
pub no_refusal : (m : Message) (s : List ℕ) (f : WireFault) → SpellsMessage m s → Refuses s f → ⊥
no_refusal m s TooShort sp r = let f = message_front m s [] sp in omega (arith, f.long, r)
no_refusal m s Version sp r = let f = message_front m s [] sp in r.1 (rw (append-nil s) at f.header.version)
no_refusal m s Length sp r =
    let f = message_front m s [] sp in
    elim r.2 [ inl other ↦ other (sym (rw (append-nil s) at f.header.size_is)) | inr other ↦ other f.aligned ]
no_refusal m s (AvpLength o) sp r = not_bad m s o sp r.3
no_refusal m s TooLong sp r = r
no_refusal m s NoMemory sp r = r

-- no octet behind the first bad one is the first
bad_before : (n : ℕ) (s : List ℕ) (o p : ℕ) → IsBadAt n s o → IsBadAt n s p → o < p → ⊥
bad_before n s o p h g less =
    let in_o : n ≤ o = h.above in
    let in_s : o < length s = h.below in
    let in_p : p < length s = g.below in
    let e : p ≡ o + (p - o) = omega arith in
    let split : drop n (take p s) ≡ drop n (take o s) ++ take (p - o) (drop o s) =
    ap (λ k. drop n (take k s)) e ∙ drop-take-add n o (p - o) s in_o (omega arith) in
    let some : 0 < length (take (p - o) (drop o s)) =
    rw (length-take-le (p - o) (drop o s) (omega (arith, length-drop o s))) (omega arith) in
    list_ends (h.before).0 (g.before).0 (drop n (take o s)) (take (p - o) (drop o s)) (drop (p - o) (drop o s))
    (h.before).1 (rw (← split) (g.before).1) some (rw (take-append-drop (p - o) (drop o s)) h.bad)

-- at most one octet is the first bad one
pub one_bad : (n : ℕ) (s : List ℕ) (o p : ℕ) → IsBadAt n s o → IsBadAt n s p → o ≡ p
one_bad n s o p h g =
    let no_less = bad_before n s o p h g in
    let no_more = bad_before n s p o g h in
    omega arith

-- octets have one fault at most
pub one_refusal : (s : List ℕ) (f g : WireFault) → Refuses s f → Refuses s g → f ≡ g
one_refusal s TooShort TooShort h k = refl
one_refusal s TooShort Version h k = absurd (omega (arith, h, k.0))
one_refusal s TooShort Length h k = absurd (omega (arith, h, k.0))
one_refusal s TooShort (AvpLength p) h k = absurd (omega (arith, h, (k.3).above, (k.3).below))
one_refusal s Version TooShort h k = absurd (omega (arith, k, h.0))
one_refusal s Version Version h k = refl
one_refusal s Version Length h k = absurd (h.1 k.1)
one_refusal s Version (AvpLength p) h k = absurd (h.1 k.0)
one_refusal s Length TooShort h k = absurd (omega (arith, k, h.0))
one_refusal s Length Version h k = absurd (k.1 h.1)
one_refusal s Length Length h k = refl
one_refusal s Length (AvpLength p) h k = absurd (elim h.2 [ inl other ↦ other k.1 | inr other ↦ other k.2 ])
one_refusal s (AvpLength o) TooShort h k = absurd (omega (arith, k, (h.3).above, (h.3).below))
one_refusal s (AvpLength o) Version h k = absurd (k.1 h.0)
one_refusal s (AvpLength o) Length h k = absurd (elim k.2 [ inl other ↦ other h.1 | inr other ↦ other h.2 ])
one_refusal s (AvpLength o) (AvpLength p) h k = ap AvpLength (one_bad 20 s o p h.3 k.3)
one_refusal s f TooLong h k = absurd k
one_refusal s f NoMemory h k = absurd k
one_refusal s TooLong g h k = absurd h
one_refusal s NoMemory g h k = absurd h

-- what reads only what is spelled, and refuses for cause or want of memory, reads all that is spelled
pub only_spelled : (r : Result Message WireFault) (s : List ℕ) (m : Message) → IfOk r (λ k. SpellsMessage k s) →
    IfErr r (λ f. (f ≡ NoMemory) ⊎ Refuses s f) → SpellsMessage m s → (r ≡ Ok m) ⊎ (r ≡ Err NoMemory)
only_spelled (Ok k) s m found fault sp = inl (ap Ok ((one_message k m s s [] [] found sp refl).0))
only_spelled (Err f) s m found (inl e) sp = inr (ap Err e)
only_spelled (Err f) s m found (inr r) sp = absurd (no_refusal m s f sp r)
