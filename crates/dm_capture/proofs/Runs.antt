-- Runs of items, one after the other.
use Rattle.std.proofs.Common.{◌≡◌, ◌≤◌, ℕ, List, [], ◌∷◌, ◌++◌, length, take, drop, sym, ◌∙◌, ap, subst, append_assoc}
use Rattle.std.proofs.lemmas.List.{take-append-drop, length-take-le}
use Rattle.dm_capture.specs.declared.front_item.Holds.{Holds}
use Rattle.dm_capture.specs.Items.{IsItem}
use Rattle.dm_capture.specs.Captures.{Progress, HeldItem, ItemsLead, packets_of, packet_in, packets_after, passed}

pub leads_join : (a b c : Progress) (xs ys : List HeldItem) → ItemsLead a xs b → ItemsLead b ys c → ItemsLead a (xs ++ ys) c
leads_join a b c [] ys e h = subst (λ p. ItemsLead p ys c) (sym e) h
leads_join a b c (x ∷ xs) ys f h =
    (f.0, f.1, f.2, leads_join (passed a (length x.octets) x.holds f.1) b c xs ys f.3 h)

pub packets_join : (a b : Progress) (xs ys : List HeldItem) → ItemsLead a xs b →
    packets_of a.packets (xs ++ ys) ≡ packets_of a.packets xs ++ packets_of b.packets ys
packets_join a b [] ys e = ap (λ p. packets_of p.packets ys) e
packets_join a b (x ∷ xs) ys f =
    ap (λ l. packet_in a.packets x.octets x.holds ++ l)
    (packets_join (passed a (length x.octets) x.holds f.1) b xs ys f.3) ∙
    sym (append_assoc (packet_in a.packets x.octets x.holds) (packets_of (packets_after a.packets x.holds) xs)
    (packets_of b.packets ys))

abbrev pub front_item : ℕ → Holds → Progress → HeldItem
front_item size holds before = record { octets = take size before.octets; holds = holds }

-- the item at the front was passed
pub one_passed : (before : Progress) (size : ℕ) (holds : Holds) → size ≤ length before.octets →
    IsItem before.layout before.interfaces (take size before.octets) holds →
    ItemsLead before (front_item size holds before ∷ []) (passed before size holds (drop size before.octets))
one_passed before size holds within is = (
  is,
  drop size before.octets,
  sym (take-append-drop size before.octets),
  ap (λ n. passed before n holds (drop size before.octets)) (length-take-le size before.octets within),
)
