-- What fits its fields is spelled by its canonical octets.
use Rattle.std.proofs.Common.{◌≡◌, ◌≤◌, suc, List, [], ◌∷◌, length, refl, arith, length-append}
use Rattle.std.specs.List.{All}
use Rattle.dm_wire.specs.declared.avp.Avp.{Avp}
use Rattle.dm_wire.specs.declared.message.Message.{Message}
use Rattle.dm_wire.specs.Spelling.{SpellsAvp, SpellsList, SpellsMessage}
use Rattle.dm_wire.specs.Canonical.{canonical_avp, canonical_list, canonical_header, message_size, canonical_message}
use Rattle.dm_wire.specs.Limits.{AvpFits, HeaderFits}
use Rattle.dm_wire.proofs.Canonicals.{avp_spelled}
use Rattle.dm_wire.proofs.RoundTrips.{canonical_header_spelled}

pub fit_avp_spelled : (a : Avp) → AvpFits a → SpellsAvp a (canonical_avp a)
fit_avp_spelled a fits = avp_spelled a fits.code fits.length fits.vendor

pub fit_list_spelled : (l : List Avp) → All AvpFits l → SpellsList l (canonical_list l)
fit_list_spelled [] fit = refl
fit_list_spelled (a ∷ l) fit =
    let first : AvpFits a = fit 0 a (omega arith) in
    let rest : All AvpFits l = λ k d below. fit (suc k) d (omega arith) in
    (canonical_avp a, canonical_list l, refl, fit_avp_spelled a first, fit_list_spelled l rest)

whole_size : (m : Message) → length (canonical_message m) ≡ message_size m
whole_size m = length-append (canonical_header m.header (message_size m)) (canonical_list m.avps)

pub fit_message_spelled : (m : Message) → HeaderFits m.header → All AvpFits m.avps → message_size m ≤ 16777212 →
    SpellsMessage m (canonical_message m)
fit_message_spelled m header avps size =
    record {
      front = canonical_header m.header (message_size m);
      rest = canonical_list m.avps;
      whole = refl;
      header = rw (whole_size m)
          (canonical_header_spelled m.header (message_size m) size header.command header.application header.hop
          header.end);
      avps = fit_list_spelled m.avps avps;
    }
