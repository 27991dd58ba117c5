-- The sum of what came in one direction, with the messages that wait: they are messages that its flow handed out.
use Rattle.std.proofs.Common.{◌≡◌, ◌⊎◌, inl, inr, ℕ, ◌+◌, List, [], ◌∷◌, ◌++◌, length, append_assoc, length-append, refl, sym, ◌∙◌, ap, subst, arith}
use Rattle.std.proofs.lemmas.List.Folds.{concat-append}
use Rattle.std.proofs.lemmas.List.Sums.{sum_by-cons}
use Rattle.std.specs.List.{concat}
use Rattle.std.specs.Option.{option_to_list}
use Rattle.dm_association.specs.ChunkAccounts.{ChunkAccount, BringsChunk, BringsAssociation, ChunkAccountsFollow, EachChunkIsAccounted}
use Rattle.dm_association.specs.SctpFlows.{begun_at_tsn, association_left}
use Rattle.dm_associations.specs.Ways.{SctpWayState, message_octets}
use Rattle.dm_associations.specs.WayAccounts.{WayAccount, begun_way_account, WayBringsChunk, WayTurns, WayHandsOut, WayAccountsFollow, EachWayOctetIsAccounted}

abbrev flow_account : WayAccount → ChunkAccount
flow_account a = record { flow = a.way.flow; came = a.came; again = a.again; messages = a.handed ++ a.way.ready }

abbrev FlowMoves : ChunkAccount → ChunkAccount → Type 0
FlowMoves old new = (new ≡ old) ⊎ (BringsChunk old new ⊎ BringsAssociation old new)

chunk_moves : (old new : WayAccount) → WayBringsChunk old new → BringsChunk (flow_account old) (flow_account new)
chunk_moves old new b =
    let more = option_to_list b.takes.found in
    let ready : new.way.ready ≡ old.way.ready ++ more = ap (λ (w : SctpWayState). w.ready) b.takes.others in
    record {
      chunk = b.chunk;
      found = b.takes.found;
      takes = b.takes.takes;
      came = b.came;
      again = b.again;
      messages = ap (λ l. l ++ new.way.ready) b.handed ∙ ap (λ l. old.handed ++ l) ready
          ∙ sym (append_assoc old.handed old.way.ready more);
    }

turn_moves : (old new : WayAccount) → WayTurns old new → FlowMoves (flow_account old) (flow_account new)
turn_moves old new t = by t.turns
  where
    messages : new.handed ++ new.way.ready ≡ old.handed ++ old.way.ready
    messages = rw (t.handed, t.ready) refl

    by : ((tsn : ℕ) × (new.way.flow ≡ begun_at_tsn old.way.flow tsn))
        ⊎ ((new.way.flow ≡ association_left old.way.flow) ⊎ (new.way.flow ≡ old.way.flow))
        → FlowMoves (flow_account old) (flow_account new)
    by (inl begun) =
        inr (inr (record { turns = inl begun; came = t.came; again = t.again; messages = messages }))
    by (inr (inl left)) =
        inr (inr (record { turns = inr left; came = t.came; again = t.again; messages = messages }))
    by (inr (inr same)) = inl (rw (same, t.came, t.again, messages) refl)

hand_moves : (old new : WayAccount) → WayHandsOut old new → flow_account new ≡ flow_account old
hand_moves old new h =
    let flow : new.way.flow ≡ old.way.flow = ap (λ (w : SctpWayState). w.flow) h.hands.others in
    let messages : new.handed ++ new.way.ready ≡ old.handed ++ old.way.ready =
    ap (λ l. l ++ new.way.ready) h.handed ∙ append_assoc old.handed (h.message ∷ []) new.way.ready
    ∙ ap (λ l. old.handed ++ l) (sym h.hands.first) in
    rw (flow, h.came, h.again, messages) refl

moves : (old new : WayAccount) → WayBringsChunk old new ⊎ (WayTurns old new ⊎ WayHandsOut old new) →
    FlowMoves (flow_account old) (flow_account new)
moves old new (inl b) = inr (inl (chunk_moves old new b))
moves old new (inr (inl t)) = turn_moves old new t
moves old new (inr (inr h)) = inl (hand_moves old new h)

follow : (old : WayAccount) (later : List WayAccount) (now : WayAccount) → WayAccountsFollow old later now →
    (x : List ChunkAccount) × ChunkAccountsFollow (flow_account old) x (flow_account now)
follow old [] now h = ([], ap flow_account h)
follow old (next ∷ later) now h = by (moves old next h.0) (follow next later now h.1)
  where
    by : FlowMoves (flow_account old) (flow_account next) →
        (x : List ChunkAccount) × ChunkAccountsFollow (flow_account next) x (flow_account now) →
        (x : List ChunkAccount) × ChunkAccountsFollow (flow_account old) x (flow_account now)
    by (inl same) rest =
        (rest.0, subst (λ (a : ChunkAccount). ChunkAccountsFollow a rest.0 (flow_account now)) same rest.1)
    by (inr goes) rest = (flow_account next ∷ rest.0, (goes, rest.1))

joined_octets : (xs : List (List ℕ)) → length (concat xs) ≡ message_octets xs
joined_octets [] = refl
joined_octets (x ∷ xs) =
    length-append x (concat xs) ∙ ap (λ n. length x + n) (joined_octets xs) ∙ sym (sum_by-cons length x xs)

both_octets : (xs ys : List (List ℕ)) → length (concat (xs ++ ys)) ≡ length (concat xs) + message_octets ys
both_octets xs ys =
    ap length (concat-append xs ys) ∙ length-append (concat xs) (concat ys)
    ∙ ap (λ n. length (concat xs) + n) (joined_octets ys)

pub each_way_accounted : EachChunkIsAccounted → EachWayOctetIsAccounted
each_way_accounted each later now h =
    let flows = follow begun_way_account later now h in
    let is = each flows.0 (flow_account now) flows.1 in
    let all = is.came in
    let messages = both_octets now.handed now.way.ready in
    record {
      lost = is.lost;
      hidden = is.hidden;
      passed = is.passed;
      secured = is.secured;
      came = omega (arith, all, messages);
    }
