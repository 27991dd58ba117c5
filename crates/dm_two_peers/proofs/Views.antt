-- The actions on one link, one after the other, are their sum.
use Rattle.std.proofs.Common.{◌≡◌, ℕ, Bool, true, false, ◌||◌, ◌==◌, if◌then◌else◌, List, [], ◌∷◌, map, refl, sym, ap}
use Rattle.std.proofs.Common.{◌∙◌, append_assoc, append-nil}
use Rattle.dm_two_peers.specs.Links.{LinkPhase, LinkPending, LinkUp, LinkCancelled, End, Mark, NoMark, Coming, Delivered, Direction}
use Rattle.dm_two_peers.specs.Links.{View}
use Rattle.dm_two_peers.specs.Peers.{Action, Connect, Send, Close, deed_in, closes_at, sends_at}
use Rattle.dm_two_peers.specs.Peers as peers
use Rattle.dm_two_peers.specs.Machine.{LinkConcern}
use Rattle.dm_two_peers.specs.Steps.{entered, with_sent, with_close}
use Rattle.dm_two_peers.specs.Facts.{is_empty}
use Rattle.dm_two_peers.proofs.Columns.{entered_columns, entered_by_columns, own_after, summed, acted, words_at}
use Rattle.dm_two_peers.proofs.Columns.{is_closed_at}

abbrev viewed : {M : Type 0} → LinkPhase → End → End → Direction M → List M → ℕ → Mark → View M
viewed p own other incoming messages taken mark =
    record {
      phase = p;
      own = own;
      other = other;
      incoming = incoming;
      outgoing =
          record { messages = messages; taken = taken; mark = mark };
    }

nothing_summed_at : {M : Type 0} (p : LinkPhase) (own other : End) (i : Direction M) (ms : List M) (n : ℕ)
    (mark : Mark) → viewed p own other i ms n mark ≡ summed false [] (viewed p own other i ms n mark)
nothing_summed_at LinkUp own other i ms n NoMark = ap (λ xs. viewed LinkUp own other i xs n NoMark) (sym (append-nil ms))
nothing_summed_at LinkUp own other i ms n Coming = refl
nothing_summed_at LinkUp own other i ms n Delivered = refl
nothing_summed_at LinkPending own other i ms n mark = refl
nothing_summed_at LinkCancelled own other i ms n mark = refl

pub nothing_summed : {M : Type 0} (v : View M) → v ≡ summed false [] v
nothing_summed v = nothing_summed_at v.phase v.own v.other v.incoming v.outgoing.messages v.outgoing.taken
    v.outgoing.mark

said_summed_at : {M : Type 0} (closed : Bool) (x : M) (words : List M) (p : LinkPhase) (own other : End)
    (i : Direction M) (ms : List M) (n : ℕ) (mark : Mark) →
    summed closed words (with_sent x (viewed p own other i ms n mark)) ≡ summed closed (x ∷ words)
    (viewed p own other i ms n mark)
said_summed_at true x words LinkUp own other i ms n NoMark = ap
    (λ xs. viewed LinkUp (own_after true LinkUp own) other i xs n Coming) (append_assoc ms (x ∷ []) words)
said_summed_at false x words LinkUp own other i ms n NoMark = ap (λ xs. viewed LinkUp own other i xs n NoMark)
    (append_assoc ms (x ∷ []) words)
said_summed_at true x words LinkUp own other i ms n Coming = refl
said_summed_at false x words LinkUp own other i ms n Coming = refl
said_summed_at true x words LinkUp own other i ms n Delivered = refl
said_summed_at false x words LinkUp own other i ms n Delivered = refl
said_summed_at true x words LinkPending own other i ms n mark = refl
said_summed_at false x words LinkPending own other i ms n mark = refl
said_summed_at true x words LinkCancelled own other i ms n mark = refl
said_summed_at false x words LinkCancelled own other i ms n mark = refl

said_summed : {M : Type 0} (closed : Bool) (x : M) (words : List M) (v : View M) →
    summed closed words (with_sent x v) ≡ summed closed (x ∷ words) v
said_summed closed x words v =
    said_summed_at closed x words v.phase v.own v.other v.incoming v.outgoing.messages v.outgoing.taken
    v.outgoing.mark

shut_summed_at : {M : Type 0} (closed : Bool) (words : List M) (p : LinkPhase) (own other : End) (i : Direction M)
    (ms : List M) (n : ℕ) (mark : Mark) →
    summed closed words (with_close (viewed p own other i ms n mark)) ≡ summed true [] (viewed p own other i ms n mark)
shut_summed_at true words LinkUp own other i ms n NoMark =
    ap (λ xs. viewed LinkUp (own_after true LinkUp own) other i xs n Coming) (sym (append-nil ms))
shut_summed_at false words LinkUp own other i ms n NoMark =
    ap (λ xs. viewed LinkUp (own_after true LinkUp own) other i xs n Coming) (sym (append-nil ms))
shut_summed_at true words LinkUp own other i ms n Coming = refl
shut_summed_at false words LinkUp own other i ms n Coming = refl
shut_summed_at true words LinkUp own other i ms n Delivered = refl
shut_summed_at false words LinkUp own other i ms n Delivered = refl
shut_summed_at true words LinkPending own other i ms n mark = refl
shut_summed_at false words LinkPending own other i ms n mark = refl
shut_summed_at true words LinkCancelled own other i ms n mark = refl
shut_summed_at false words LinkCancelled own other i ms n mark = refl

shut_summed : {M : Type 0} (closed : Bool) (words : List M) (v : View M) →
    summed closed words (with_close v) ≡ summed true [] v
shut_summed closed words v =
    shut_summed_at closed words v.phase v.own v.other v.incoming v.outgoing.messages v.outgoing.taken
    v.outgoing.mark

pub shut_is_summed : {M : Type 0} (v : View M) → with_close v ≡ summed true [] v
shut_is_summed v = nothing_summed (with_close v) ∙ shut_summed false [] v

send_if : {M : Type 0} (b : Bool) (closed : Bool) (x : M) (words : List M) (v : View M) →
    summed closed words (if b then with_sent x v else v) ≡ summed closed (if b then x ∷ words else words) v
send_if true closed x words v = said_summed closed x words v
send_if false closed x words v = refl

close_if : {M : Type 0} (b : Bool) (closed : Bool) (words : List M) (v : View M) →
    summed closed words (if b then with_close v else v) ≡ summed (b || closed) (if b then [] else words) v
close_if true closed words v = shut_summed closed words v
close_if false closed words v = refl

pub acted_summed : {M : Type 0} (d : ℕ) (actions : List (Action M)) (v : View M) →
    acted d actions v ≡ summed (is_closed_at d actions) (words_at d actions) v
acted_summed d [] v = nothing_summed v
acted_summed d (Send c x ∷ actions) v =
    acted_summed d actions (if c.0 == d then with_sent x v else v)
    ∙ send_if (c.0 == d) (is_closed_at d actions) x (words_at d actions) v
acted_summed d (Close c ∷ actions) v =
    acted_summed d actions (if c.0 == d then with_close v else v)
    ∙ close_if (c.0 == d) (is_closed_at d actions) (words_at d actions) v
acted_summed d (Connect c ∷ actions) v = acted_summed d actions v
acted_summed d (peers.HandUp x ∷ actions) v = acted_summed d actions v

-- what the event does, and the actions after it
pub acted_entered : {M : Type 0} (d : ℕ) (actions : List (Action M)) (k : LinkConcern) (v : View M) →
    acted d actions (entered k v) ≡ summed (is_closed_at d actions) (words_at d actions) (entered_columns k v)
acted_entered d actions k v = acted_summed d actions (entered k v)
    ∙ ap (λ u. summed (is_closed_at d actions) (words_at d actions) u) (entered_by_columns k v)

-- what isn't sent isn't said
none_if_send : {M : Type 0} (b rest : Bool) (x : M) (words : List M) → (b || rest) ≡ false →
    (rest ≡ false → is_empty words ≡ true) → is_empty (if b then x ∷ words else words) ≡ true
none_if_send true rest x words h g = cc
none_if_send false rest x words h g = g h

none_if_close : {M : Type 0} (b : Bool) (words : List M) → is_empty words ≡ true →
    is_empty (if b then [] else words) ≡ true
none_if_close true words h = refl
none_if_close false words h = h

pub unsent_unsaid : {M : Type 0} (d : ℕ) (actions : List (Action M)) → sends_at d (map deed_in actions) ≡ false →
    is_empty (words_at d actions) ≡ true
unsent_unsaid d [] h = refl
unsent_unsaid d (Send c x ∷ actions) h = none_if_send (c.0 == d) (sends_at d (map deed_in actions)) x
    (words_at d actions) h (unsent_unsaid d actions)
unsent_unsaid d (Close c ∷ actions) h = none_if_close (c.0 == d) (words_at d actions) (unsent_unsaid d actions h)
unsent_unsaid d (Connect c ∷ actions) h = unsent_unsaid d actions h
unsent_unsaid d (peers.HandUp x ∷ actions) h = unsent_unsaid d actions h

-- what is sent and not closed is said
some_if_send : {M : Type 0} (b rest : Bool) (x : M) (words : List M) → (b || rest) ≡ true →
    (rest ≡ true → is_empty words ≡ false) → is_empty (if b then x ∷ words else words) ≡ false
some_if_send true rest x words h g = refl
some_if_send false rest x words h g = g h

some_if_close : {M : Type 0} (b rest : Bool) (words : List M) → (b || rest) ≡ false →
    (rest ≡ false → is_empty words ≡ false) → is_empty (if b then [] else words) ≡ false
some_if_close true rest words h g = cc
some_if_close false rest words h g = g h

pub sent_said : {M : Type 0} (d : ℕ) (actions : List (Action M)) → sends_at d (map deed_in actions) ≡ true →
    closes_at d (map deed_in actions) ≡ false → is_empty (words_at d actions) ≡ false
sent_said d [] h e = cc
sent_said d (Send c x ∷ actions) h e = some_if_send (c.0 == d) (sends_at d (map deed_in actions)) x
    (words_at d actions) h (λ r. sent_said d actions r e)
sent_said d (Close c ∷ actions) h e = some_if_close (c.0 == d) (closes_at d (map deed_in actions))
    (words_at d actions) e (λ r. sent_said d actions h r)
sent_said d (Connect c ∷ actions) h e = sent_said d actions h e
sent_said d (peers.HandUp x ∷ actions) h e = sent_said d actions h e
