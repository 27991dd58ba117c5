-- A delivery comes to what is next.
use Rattle.std.proofs.Common.{◌≡◌, ℕ, ◌+◌, ◌-◌, ◌<◌, ◌≤◌, ◌==◌, Bool, true, false, nat_lt, Some, List, [], ◌∷◌}
use Rattle.std.proofs.Common.{length, slice_get, refl, sym, ap, subst, ◌∙◌, ◌⊎◌, inl, inr, arith}
use Rattle.std.specs.Prelude.{if◌then◌else◌}
use Rattle.std.proofs.lemmas.Bool.Decides.{nat_tests}
use Rattle.dm_peer.specs.declared.peer.Peer.{Peer}
use Rattle.dm_two_peers.specs.Machine.{conn}
use Rattle.dm_two_peers.specs.Links.{Side, Link, by_side, LinkPhase, LinkPending, LinkUp, LinkCancelled, End, Mark, NoMark, Coming}
use Rattle.dm_two_peers.specs.Links.{Delivered}
use Rattle.dm_two_peers.specs.Peers.{ArrivedEvent, GoneEvent}
use Rattle.dm_two_peers.specs.Worlds.{World, After, DoneWith, Ignored, with_links, change_at}
use Rattle.dm_two_peers.specs.Happens.{happens, Delivers, Pieces, deliver_next, deliver_part, take_part, comes, own_view, next_in}
use Rattle.dm_two_peers.specs.Happens.{if_up, at_link, NextMessage, NextDisconnect, NextNothing}
use Rattle.dm_two_peers.specs.Happens as happens
use Rattle.dm_world.specs.declared.fault.Effect.{Effect}
use Rattle.dm_world.specs.declared.fault.Effect.TheVariants as effect
use Rattle.dm_world.specs.declared.direction.Next.TheVariants as next
use Rattle.dm_octet_peers.specs.Octets.{octet_peers}
use Rattle.dm_world.specs.Fed.{front_in}
use Rattle.dm_world.specs.Next.{next_kind, next_to, octets_to_come_to}
use Rattle.dm_world.specs.Views.{Effects}

record IsNextMessage (ms : List (List ℕ)) (n : happens.Next (List ℕ)) : Type 0 where
  message : List ℕ
  front : slice_get ms 0 ≡ Some message
  next : n ≡ NextMessage message

message_next : (p : LinkPhase) (ms : List (List ℕ)) (mk : Mark) →
    next_kind (if_up p (next_in ms mk) NextNothing) ≡ next.Message →
    IsNextMessage ms (if_up p (next_in ms mk) NextNothing)
message_next LinkUp (x ∷ xs) mk h = record { message = x; front = refl; next = refl }
message_next LinkUp [] NoMark h = cc
message_next LinkUp [] Coming h = cc
message_next LinkUp [] Delivered h = cc
message_next LinkPending ms mk h = cc
message_next LinkCancelled ms mk h = cc

disconnect_next : (p : LinkPhase) (ms : List (List ℕ)) (mk : Mark) →
    next_kind (if_up p (next_in ms mk) NextNothing) ≡ next.Disconnect →
    if_up p (next_in ms mk) NextNothing ≡ NextDisconnect
disconnect_next LinkUp (x ∷ xs) mk h = cc
disconnect_next LinkUp [] NoMark h = cc
disconnect_next LinkUp [] Coming h = refl
disconnect_next LinkUp [] Delivered h = cc
disconnect_next LinkPending ms mk h = cc
disconnect_next LinkCancelled ms mk h = cc

only_up : (w : World Peer (List ℕ)) (c : ℕ) (s : Side) (end : End) (p : LinkPhase) (n : happens.Next (List ℕ)) →
    if_up p (deliver_next octet_peers c s end n w) Ignored ≡ deliver_next octet_peers c s end (if_up p n NextNothing) w
only_up w c s end LinkUp n = refl
only_up w c s end LinkPending n = refl
only_up w c s end LinkCancelled n = refl

delivers_is : (w : World Peer (List ℕ)) (c : ℕ) (s : Side) (l : Link (List ℕ)) → slice_get w.links c ≡ Some l →
    happens octet_peers w (Delivers c s) ≡
    deliver_next octet_peers c s (own_view s l).own
    (if_up l.phase (next_in (own_view s l).incoming.messages (own_view s l).incoming.mark) NextNothing) w
delivers_is w c s l there =
    ap (λ o. at_link o
    (λ k. if_up k.phase
    (deliver_next octet_peers c s (own_view s k).own
    (next_in (own_view s k).incoming.messages (own_view s k).incoming.mark) w) Ignored)) there
    ∙ only_up w c s (own_view s l).own l.phase (next_in (own_view s l).incoming.messages (own_view s l).incoming.mark)

pub message_step : (s : Side) (c : ℕ) (effect : Effect) (w w' : World Peer (List ℕ)) (l : Link (List ℕ)) →
    slice_get w.links c ≡ Some l → next_to s l ≡ next.Message →
    ((l : Link (List ℕ)) (x : List ℕ) → slice_get w.links c ≡ Some l →
    slice_get (own_view s l).incoming.messages 0 ≡ Some x →
    Effects effect (comes octet_peers s (ArrivedEvent (conn c) x) (own_view s l).own w) w w') →
    Effects effect (happens octet_peers w (Delivers c s)) w w'
message_step s c effect w w' l there next step =
    let n = message_next l.phase (own_view s l).incoming.messages (own_view s l).incoming.mark next in
    let is = delivers_is w c s l there ∙ ap (λ n. deliver_next octet_peers c s (own_view s l).own n w) n.next in
    subst (λ (a : After Peer (List ℕ)). Effects effect a w w') (sym is) (step l n.message there n.front)

pub disconnect_step : (s : Side) (c : ℕ) (effect : Effect) (w w' : World Peer (List ℕ)) (l : Link (List ℕ)) →
    slice_get w.links c ≡ Some l → next_to s l ≡ next.Disconnect →
    ((l : Link (List ℕ)) → slice_get w.links c ≡ Some l →
    Effects effect (comes octet_peers s (GoneEvent (conn c)) (own_view s l).own w) w w') →
    Effects effect (happens octet_peers w (Delivers c s)) w w'
disconnect_step s c effect w w' l there next step =
    let n = disconnect_next l.phase (own_view s l).incoming.messages (own_view s l).incoming.mark next in
    let is = delivers_is w c s l there ∙ ap (λ n. deliver_next octet_peers c s (own_view s l).own n w) n in
    subst (λ (a : After Peer (List ℕ)). Effects effect a w w') (sym is) (step l there)

-- a piece: of no octets, none
none_pieced : {X : Type 0} (k : ℕ) (p : LinkPhase) (x y : X) → k ≡ 0 → if_up p (if k == 0 then x else y) x ≡ x
none_pieced k p x y none = rw none (by p)
  where
    by : (p : LinkPhase) → if_up p x x ≡ x
    by LinkUp = refl
    by LinkPending = refl
    by LinkCancelled = refl

not_none : (k : ℕ) → 0 < k → (k == 0) ≡ false
not_none k some = grind (arith, nat_tests)

only_up_piece : (w : World Peer (List ℕ)) (c : ℕ) (s : Side) (k : ℕ) (end : End) (taken : ℕ) (p : LinkPhase)
    (n : happens.Next (List ℕ)) (b : Bool) → b ≡ false →
    if_up p (if b then Ignored else deliver_part octet_peers c s k end taken n w) Ignored
    ≡ deliver_part octet_peers c s k end taken (if_up p n NextNothing) w
only_up_piece w c s k end taken LinkUp n b some = rw some refl
only_up_piece w c s k end taken LinkPending n b some = refl
only_up_piece w c s k end taken LinkCancelled n b some = refl

-- as it is cut from the direction of a link
abbrev piece_of : World Peer (List ℕ) → ℕ → Side → ℕ → Link (List ℕ) → After Peer (List ℕ)
piece_of w c s k l =
    deliver_part octet_peers c s k (own_view s l).own (own_view s l).incoming.taken
    (next_in (own_view s l).incoming.messages (own_view s l).incoming.mark) w

pieces_is : (w : World Peer (List ℕ)) (c : ℕ) (s : Side) (k : ℕ) (l : Link (List ℕ)) → slice_get w.links c ≡ Some l →
    0 < k →
    happens octet_peers w (Pieces c s k)
    ≡ deliver_part octet_peers c s k (own_view s l).own (own_view s l).incoming.taken
    (if_up l.phase (next_in (own_view s l).incoming.messages (own_view s l).incoming.mark) NextNothing) w
pieces_is w c s k l there some =
    ap (λ o. at_link o (λ j. if_up j.phase (if k == 0 then Ignored else piece_of w c s k j) Ignored)) there
    ∙ only_up_piece w c s k (own_view s l).own (own_view s l).incoming.taken l.phase
    (next_in (own_view s l).incoming.messages (own_view s l).incoming.mark) (k == 0) (not_none k some)

pub no_piece : (s : Side) (c k : ℕ) (w : World Peer (List ℕ)) (l : Link (List ℕ)) → slice_get w.links c ≡ Some l →
    k ≡ 0 → Effects effect.Ignored (happens octet_peers w (Pieces c s k)) w w
no_piece s c k w l there none = (
  ap (λ o. at_link o (λ j. if_up j.phase (if k == 0 then Ignored else piece_of w c s k j) Ignored)) there
      ∙ none_pieced k l.phase Ignored (piece_of w c s k l) none,
  refl,
)

-- where no message is next, none
none_next : (w : World Peer (List ℕ)) (c : ℕ) (s : Side) (k : ℕ) (end : End) (taken : ℕ) (n : happens.Next (List ℕ)) →
    (next_kind n ≡ next.Disconnect) ⊎ (next_kind n ≡ next.Nothing) → deliver_part octet_peers c s k end taken n w ≡ Ignored
none_next w c s k end taken (NextMessage x) (inl is) = cc
none_next w c s k end taken (NextMessage x) (inr is) = cc
none_next w c s k end taken NextDisconnect is = refl
none_next w c s k end taken NextNothing is = refl

pub no_message : (s : Side) (c k : ℕ) (w : World Peer (List ℕ)) (l : Link (List ℕ)) → slice_get w.links c ≡ Some l →
    0 < k → (next_to s l ≡ next.Disconnect) ⊎ (next_to s l ≡ next.Nothing) →
    Effects effect.Ignored (happens octet_peers w (Pieces c s k)) w w
no_message s c k w l there some is = (
  pieces_is w c s k l there some
      ∙ none_next w c s k (own_view s l).own (own_view s l).incoming.taken
      (if_up l.phase (next_in (own_view s l).incoming.messages (own_view s l).incoming.mark) NextNothing) is,
  refl,
)

-- the front message, and how much of it is left
front_is : (ms : List (List ℕ)) (x : List ℕ) → slice_get ms 0 ≡ Some x → front_in ms ≡ x
front_is [] x is = cc
front_is (y ∷ ys) x is = cc

cut_true : (n k a : ℕ) → k < a - n → nat_lt (n + k) a ≡ true
cut_true n k a h = let below : n + k < a = omega arith in grind (arith, nat_tests)

cut_false : (n k a : ℕ) → a - n ≤ k → nat_lt (n + k) a ≡ false
cut_false n k a h = let above : a ≤ n + k = omega arith in grind (arith, nat_tests)

-- a piece that ends no message
pub part_step : (s : Side) (c k : ℕ) (w w' : World Peer (List ℕ)) (l : Link (List ℕ)) → slice_get w.links c ≡ Some l →
    next_to s l ≡ next.Message → 0 < k → k < octets_to_come_to s l →
    w' ≡ with_links (change_at c (by_side s (take_part k)) w.links) w →
    Effects effect.Done (happens octet_peers w (Pieces c s k)) w w'
part_step s c k w w' l there is_next some below is =
    let v = own_view s l in
    let n = message_next l.phase v.incoming.messages v.incoming.mark is_next in
    let front = front_is v.incoming.messages n.message n.front in
    let cut = cut_true v.incoming.taken k (length n.message) (rw (← front) below) in
    let done = with_links (change_at c (by_side s (take_part k)) w.links) w in
    let last = comes octet_peers s (ArrivedEvent (conn c) n.message) v.own w in (
      [],
      pieces_is w c s k l there some
          ∙ ap (λ x. deliver_part octet_peers c s k v.own v.incoming.taken x w) n.next
          ∙ ap (λ b. if b then DoneWith done [] else last) cut
          ∙ ap (λ (a : World Peer (List ℕ)). DoneWith a []) (sym is),
    )

-- a piece that ends its message is the delivery
pub last_step : (s : Side) (c k : ℕ) (outcome : Effect) (w w' : World Peer (List ℕ)) (l : Link (List ℕ)) →
    slice_get w.links c ≡ Some l → next_to s l ≡ next.Message → 0 < k → octets_to_come_to s l ≤ k →
    ((l : Link (List ℕ)) (x : List ℕ) → slice_get w.links c ≡ Some l →
    slice_get (own_view s l).incoming.messages 0 ≡ Some x →
    Effects outcome (comes octet_peers s (ArrivedEvent (conn c) x) (own_view s l).own w) w w') →
    Effects outcome (happens octet_peers w (Pieces c s k)) w w'
last_step s c k outcome w w' l there is_next some above step =
    let v = own_view s l in
    let n = message_next l.phase v.incoming.messages v.incoming.mark is_next in
    let front = front_is v.incoming.messages n.message n.front in
    let cut = cut_false v.incoming.taken k (length n.message) (rw (← front) above) in
    let done = with_links (change_at c (by_side s (take_part k)) w.links) w in
    let last = comes octet_peers s (ArrivedEvent (conn c) n.message) v.own w in
    let is =
    pieces_is w c s k l there some
    ∙ ap (λ x. deliver_part octet_peers c s k v.own v.incoming.taken x w) n.next
    ∙ ap (λ b. if b then DoneWith done [] else last) cut in
    subst (λ (a : After Peer (List ℕ)). Effects outcome a w w') (sym is) (step l n.message there n.front)
