-- Whether all links are quiet, from a place on.
use Rattle.std.proofs.Common.{◌≡◌, ℕ, zero, suc, ◌+◌, ◌<◌, ◌≤◌, Bool, true, false, ◌&&◌, List, [], ◌∷◌, length}
use Rattle.std.proofs.Common.{get_or, refl, sym, ap, ◌∙◌, arith, add-one}
use Rattle.std.specs.List.{list_all}
use Rattle.dm_two_peers.specs.Quiet.{is_quiet_link}
use Rattle.dm_world.specs.declared.link.Link.{Link}
use Rattle.dm_world.specs.Seen.{as_link, as_links}

abbrev pub quiet_from : ℕ → List Link → Bool
quiet_from i [] = true
quiet_from zero (l ∷ ls) = list_all is_quiet_link (as_links (l ∷ ls))
quiet_from (suc i) (l ∷ ls) = quiet_from i ls

pub quiet_all : (ls : List Link) → list_all is_quiet_link (as_links ls) ≡ quiet_from 0 ls
quiet_all [] = refl
quiet_all (l ∷ ls) = refl

quiet_suc : (i : ℕ) (ls : List Link) (x : Link) → i < length ls → x ≡ get_or ls i x →
    quiet_from i ls ≡ (is_quiet_link (as_link x) && quiet_from (suc i) ls)
quiet_suc i [] x lt at = absurd (omega arith)
quiet_suc zero (l ∷ ls) x lt at = ap (λ z. is_quiet_link (as_link z) && list_all is_quiet_link (as_links ls)) (sym at) ∙
    ap (λ b. is_quiet_link (as_link x) && b) (quiet_all ls)
quiet_suc (suc i) (l ∷ ls) x lt at = quiet_suc i ls x (omega arith) at

-- the link at i is quiet, or it isn't
pub quiet_more : (i : ℕ) (ls : List Link) (x : Link) → i < length ls → x ≡ get_or ls i x →
    is_quiet_link (as_link x) ≡ true → quiet_from i ls ≡ quiet_from (i + 1) ls
quiet_more i ls x lt at is = quiet_suc i ls x lt at ∙ ap (λ b. b && quiet_from (suc i) ls) is ∙
    ap (λ n. quiet_from n ls) (sym (add-one i))

pub quiet_no : (i : ℕ) (ls : List Link) (x : Link) → i < length ls → x ≡ get_or ls i x →
    is_quiet_link (as_link x) ≡ false → quiet_from i ls ≡ false
quiet_no i ls x lt at is = quiet_suc i ls x lt at ∙ ap (λ b. b && quiet_from (suc i) ls) is

pub quiet_end : (i : ℕ) (ls : List Link) → length ls ≤ i → quiet_from i ls ≡ true
quiet_end i [] h = refl
quiet_end zero (l ∷ ls) h = absurd (omega arith)
quiet_end (suc i) (l ∷ ls) h = quiet_end i ls (omega arith)
