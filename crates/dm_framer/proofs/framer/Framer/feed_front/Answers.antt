-- The front of the piece is fed, and what is left of it stands behind a whole message.
use Rattle.std.proofs.Common.{◌≡◌, ◌∙◌, ◌-◌, length, take, drop, ap, subst, arith, length-append}
use Rattle.std.proofs.lemmas.List.{take_rest, length-take-le}
use Rattle.dm_framer.specs.Stream.{Stream}
use Rattle.dm_framer.specs.Frames.{BeginsWithFrame}
use Rattle.dm_framer.proofs.Feeding.{pieces_fed, none_before}
use Rattle.dm_framer.proofs.framer.Framer.feed_front.Goals as goal

pub returns-in-Ok-clause-fed : goal.returns-in-Ok-clause-fed
returns-in-Ok-clause-fed c =
    let old = c.args.self.now in
    rw (c.in-Ok.ensures.fed, c.in_ok-feed.ensures.fed, c.split_at.ensures.front, c.split_at.ensures.back)
    (ap (λ l. record old { octets = l })
    (pieces_fed old.octets c.args.piece.now c.min-header.result c.len_until_front_is_whole-more.result))

pub returns-in-Ok-clause-front : goal.returns-in-Ok-clause-front
returns-in-Ok-clause-front c = λ less.
    let same = c.self.view_is ∙ c.in_ok-feed.ensures.fed in
    let front = rw (
      c.deref.ensures.value,
      take_rest,
      ap (λ (v : Stream). v.octets) same,
      ap (λ (v : Stream). v.max) same,
      c.split_at.ensures.front,
    ) at c.len_until_front_is_whole-more.ensures.front in
    let behind = drop c.min-header.result c.args.piece.now in
    let size : length (take c.len_until_front_is_whole-more.result behind) ≡ c.len_until_front_is_whole-more.result =
    length-take-le c.len_until_front_is_whole-more.result behind
    (rw (c.split_at.ensures.back) at c.len_until_front_is_whole-more.ensures.within) in
    subst (BeginsWithFrame c.args.self.now.max)
    (pieces_fed c.args.self.now.octets c.args.piece.now c.min-header.result c.len_until_front_is_whole-more.result)
    (front (omega (arith, less, c.split_at.ensures.back_len)) (take c.len_until_front_is_whole-more.result behind) size)

pub returns-in-Ok-clause-least : goal.returns-in-Ok-clause-least
returns-in-Ok-clause-least c = λ k less.
    let same = c.self.view_is ∙ c.in_ok-feed.ensures.fed in
    let least = rw (
      c.deref.ensures.value,
      take_rest,
      ap (λ (v : Stream). v.octets) same,
      ap (λ (v : Stream). v.max) same,
      c.split_at.ensures.front,
    ) at c.len_until_front_is_whole-more.ensures.least in
    let front = length-append c.args.self.now.octets (take c.min-header.result c.args.piece.now) in
    none_before c.args.self.now.max c.args.self.now.octets c.args.piece.now c.min-header.result c.len_until_front_is_whole-more.result k
    (λ some. omega (arith, some, c.min-header.ensures, c.saturating_sub.ensures, c.len.ensures))
    (λ few. let fed = length-take-le c.min-header.result c.args.piece.now (omega (arith, c.min-header.ensures)) in
    omega (
      arith,
      few,
      front,
      fed,
      c.min-header.ensures,
      c.saturating_sub.ensures,
      c.len.ensures,
      c.len_until_front_is_whole-more.ensures.within,
      c.split_at.ensures.back_len,
    ))
    least less
