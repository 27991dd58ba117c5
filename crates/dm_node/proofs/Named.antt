-- The look-up of hosts: what is found in it, and what keeps it.
use Rattle.std.proofs.Common.{◌≡◌, ℕ, suc, Bool, true, false, nat_le, List, [], ◌∷◌, length, Option, None, Some, IsSome, IfSome, IfNone, if◌then◌else◌, refl, sym, ap, subst, ◌∙◌}
use Rattle.std.proofs.lemmas.Bool.{and_parts}
use Rattle.dm_base.specs.Before.{lower}
use Rattle.dm_base.specs.Codes.{max_name_len}
use Rattle.dm_peer.specs.declared.config.Config.{Config}
use Rattle.dm_peer.specs.declared.peer.Peer.{Peer}
use Rattle.dm_node.specs.declared.hosts.Hosts.{Hosts}
use Rattle.dm_node.specs.Holding.{peer_at, host_of, host_at, AreUnlike}
use Rattle.dm_node.specs.Naming.{noted_number, AreHostsNoted}
use Rattle.dm_node.proofs.Basics.{one_some, no_some, two_truths}

-- the host of a configuration isn't too long to be noted
pub fits : (c : Config) → nat_le (length c.peer) max_name_len ≡ true
fits c = (and_parts _ _ c.fit_peer).1

same_length : (h : List ℕ) → length (lower h) ≡ length h
same_length [] = refl
same_length (x ∷ xs) = ap suc (same_length xs)

-- who has a host is there, and the host isn't too long
there_of : (h : List ℕ) (o : Option Peer) → host_of o ≡ Some h → IsSome o
there_of h None e = no_some _ e
there_of h (Some p) e = refl

short_of : (host : List ℕ) (o : Option Peer) → host_of o ≡ Some (lower host) →
    nat_le (length host) max_name_len ≡ true
short_of host None e = no_some _ e
short_of host (Some p) e =
    subst (λ n. nat_le n max_name_len ≡ true)
    (sym (same_length p.config.peer) ∙ ap length (one_some (lower p.config.peer) (lower host) e) ∙ same_length host)
    (fits p.config)

module _ (o : Hosts) (ps : List (Option Peer)) (host : List ℕ) (named : AreHostsNoted o ps) where
  found_is : (b : Bool) (i : ℕ) → Some i ≡ (if b then noted_number o (lower host) else None) →
      host_at ps i ≡ Some (lower host)
  found_is true i is = named.has (lower host) i (sym is)
  found_is false i is = no_some _ (sym is)

  none_is : (b : Bool) (j : ℕ) → nat_le (length host) max_name_len ≡ b →
      None ≡ (if b then noted_number o (lower host) else None) → host_at ps j ≡ Some (lower host) → ⊥
  none_is true j q is e = no_some _ (is ∙ named.noted (lower host) j e)
  none_is false j q is e = two_truths (nat_le (length host) max_name_len) (short_of host (peer_at ps j) e) q

  pub there_named : (r : Option ℕ) →
      r ≡ (if nat_le (length host) max_name_len then noted_number o (lower host) else None) →
      IfSome r (λ i. IsSome (peer_at ps i))
  there_named None is = tt
  there_named (Some i) is = there_of (lower host) (peer_at ps i) (found_is _ i is)

  pub found_named : (r : Option ℕ) →
      r ≡ (if nat_le (length host) max_name_len then noted_number o (lower host) else None) →
      IfSome r (λ i. host_at ps i ≡ Some (lower host))
  found_named None is = tt
  found_named (Some i) is = found_is _ i is

  pub none_named : (r : Option ℕ) →
      r ≡ (if nat_le (length host) max_name_len then noted_number o (lower host) else None) →
      IfNone r ((j : ℕ) → host_at ps j ≡ Some (lower host) → ⊥)
  none_named None is = λ j e. none_is _ j refl is e
  none_named (Some i) is = tt

-- the hosts stay
pub named_same : (o : Hosts) (ps qs : List (Option Peer)) → ((j : ℕ) → host_at qs j ≡ host_at ps j) → AreHostsNoted o ps →
    AreHostsNoted o qs
named_same o ps qs same named = record {
  has = λ h i e. same i ∙ named.has h i e;
  noted = λ h i e. named.noted h i (sym (same i) ∙ e);
}

pub unlike_same : (ps qs : List (Option Peer)) → ((j : ℕ) → host_at qs j ≡ host_at ps j) → AreUnlike ps → AreUnlike qs
unlike_same ps qs same unlike = record { one = λ i j h p q. unlike.one i j h (sym (same i) ∙ p) (sym (same j) ∙ q) }

-- what is noted stays
pub noted_same : (o n : Hosts) (ps : List (Option Peer)) → ((h : List ℕ) → noted_number n h ≡ noted_number o h) →
    AreHostsNoted o ps → AreHostsNoted n ps
noted_same o n ps same named = record {
  has = λ h i e. named.has h i (sym (same h) ∙ e);
  noted = λ h i e. same h ∙ named.noted h i e;
}
