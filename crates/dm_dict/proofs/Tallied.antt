-- One AVP more is counted.
use Rattle.std.proofs.Common.{◌≡◌, ◌≢◌, ◌⊎◌, inl, inr, ◌+◌, ◌<◌, ℕ, Bool, true, false, nat_eq, List, [], ◌∷◌, ◌++◌, length, get_or, refl, sym, ◌∙◌, arith, slice_index_or, slice_set}
use Rattle.std.proofs.lemmas.Bool.{eqb-true, eqb-false}
use Rattle.std.proofs.lemmas.Bool.Decides.{eqb_tells}
use Rattle.std.proofs.lemmas.List.{length-set, get_or-set_same, get_or-set_other, get_or_default, get_or_append_left}
use Rattle.std.proofs.Math.Seq.{get_or-append_seam}
use Rattle.dm_wire.specs.declared.avp.Avp.{Avp}
use Rattle.dm_tables.specs.declared.rule.Entry.{Entry}
use Rattle.dm_tables.specs.declared.def.AvpDef.{AvpDef}
use Rattle.dm_dict.specs.declared.tallies.Tally.{Tally}
use Rattle.dm_dict.specs.Rules.{definition, counts, counted_avps}
use Rattle.dm_dict.specs.Tallies.{IsTally, AreTallied}

-- the tallies of one entry more that has counted none
pub one_more : (entries : List Entry) (tallies : List Tally) (n : ℕ) (x : Entry) (u : Tally) → length tallies ≡ n → n < length entries
    → x ≡ slice_index_or entries n x → ((m : List Avp) → IsTally x m m u)
    → ((i : ℕ) (e : Entry) (t : Tally) (m : List Avp) → i < n → e ≡ slice_index_or entries i e → t ≡ slice_index_or tallies i t
    → IsTally e m m t)
    → (i : ℕ) (e : Entry) (t : Tally) (m : List Avp) → i < n + 1 → e ≡ slice_index_or entries i e
    → t ≡ slice_index_or (tallies ++ u ∷ []) i t → IsTally e m m t
one_more entries tallies n x u size within x_is new old i e t m below e_is t_is = by (eqb_tells i n) where
  by : ((nat_eq i n ≡ true) × (i ≡ n)) ⊎ ((nat_eq i n ≡ false) × (i ≢ n)) → IsTally e m m t
  by (inl (eq, same)) =
      let at : length tallies ≡ i = size ∙ sym same in
      let first : e ≡ x = e_is ∙ rw same (get_or_default entries n e x within) ∙ sym x_is in
      let second : t ≡ u = t_is ∙ rw (← at) (get_or-append_seam tallies u [] t) in
      rw (first, second) (new m)
  by (inr (eq, other)) =
      let before : i < length tallies = omega (arith, size, below, other) in
      old i e t m (omega (arith, size, before)) e_is (t_is ∙ get_or_append_left tallies (u ∷ []) t i before)

-- of an entry that doesn't count it
other_counted : (avps : List AvpDef) (rule : List Entry) (l m : List Avp) (a : Avp) (e : Entry) (t : Tally)
    → false ≡ counts rule e (definition avps a)
    → IsTally e (counted_avps avps rule l e) (counted_avps avps rule (a ∷ m) e) t
    → IsTally e (counted_avps avps rule l e) (counted_avps avps rule m e) t
other_counted avps rule l m a e t not h = rw (← not) at h

-- of one that does
one_counted : (avps : List AvpDef) (rule : List Entry) (l m : List Avp) (a : Avp) (e : Entry) (t u : Tally)
    → true ≡ counts rule e (definition avps a)
    → ((f : Entry) (k n : List Avp) → IsTally f k (a ∷ n) t → IsTally f k n u)
    → IsTally e (counted_avps avps rule l e) (counted_avps avps rule (a ∷ m) e) t
    → IsTally e (counted_avps avps rule l e) (counted_avps avps rule m e) u
one_counted avps rule l m a e t u does step h =
    step e (counted_avps avps rule l e) (counted_avps avps rule m e) (rw (← does) at h)

-- no place that it may stand at is that of an entry
pub none_counts : (avps : List AvpDef) (rule : List Entry) (l m : List Avp) (a : Avp) (tallies : List Tally) (stands : ℕ → Bool)
    → ((i : ℕ) → i < length rule → stands i ≡ false)
    → ((i : ℕ) (e : Entry) → i < length rule → e ≡ slice_index_or rule i e → stands i ≡ counts rule e (definition avps a))
    → AreTallied avps rule l (a ∷ m) tallies → AreTallied avps rule l m tallies
none_counts avps rule l m a tallies stands none at h = record {
  size = h.size;
  each = λ i e t below e_is t_is.
      other_counted avps rule l m a e t (sym (none i below) ∙ at i e below e_is) (h.each i e t below e_is t_is);
}

-- the entry at this place counts it
pub one_counts : (avps : List AvpDef) (rule : List Entry) (l m : List Avp) (a : Avp) (tallies : List Tally) (k : ℕ) (t u : Tally)
    → k < length tallies → t ≡ slice_index_or tallies k t
    → ((f : Entry) (q n : List Avp) → IsTally f q (a ∷ n) t → IsTally f q n u)
    → ((i : ℕ) (e : Entry) → i < length rule → e ≡ slice_index_or rule i e
    → nat_eq k i ≡ counts rule e (definition avps a))
    → AreTallied avps rule l (a ∷ m) tallies → AreTallied avps rule l m (slice_set tallies k u)
one_counts avps rule l m a tallies k t u within t_is step at h = record {
  size = length-set tallies k u ∙ h.size;
  each = λ i e v below e_is v_is. by i e v below e_is v_is (nat_eq k i) refl;
} where
  by : (i : ℕ) (e : Entry) (v : Tally) → i < length rule → e ≡ slice_index_or rule i e
      → v ≡ slice_index_or (slice_set tallies k u) i v → (b : Bool) → nat_eq k i ≡ b
      → IsTally e (counted_avps avps rule l e) (counted_avps avps rule m e) v
  by i e v below e_is v_is true is =
      let same : k ≡ i = eqb-true k i is in
      let new : v ≡ u = v_is ∙ rw (← same) (get_or-set_same tallies k u v within) in
      rw new (one_counted avps rule l m a e t u (sym is ∙ at i e below e_is) step
      (h.each i e t below e_is (rw (← same) t_is)))
  by i e v below e_is v_is false is =
      let old : v ≡ get_or tallies i v = v_is ∙ get_or-set_other tallies k i u v (λ same. eqb-false k i is (sym same)) in
      other_counted avps rule l m a e v (sym is ∙ at i e below e_is) (h.each i e v below e_is old)
