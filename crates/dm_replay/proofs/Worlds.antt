-- The world of a script, or why there is none.
use Rattle.std.proofs.Common.{◌≡◌, ℕ, Bool, true, false, cond, not, List, [], ◌++◌, ◌∷◌, codes, Option, Some, None, nat_lt, Result, Ok, Err, inl, inr, ◌⊎◌, arith, ap, sym, ◌∙◌, refl, subst}
use Rattle.std.proofs.lemmas.Bool.{ltb-true}
use Rattle.std.specs.declared.cmp.Ordering.TheVariants.{Less, Greater}
use Rattle.dm_base.specs.Before.{lower, order_of_hosts}
use Rattle.dm_base.specs.Common.{are_common}
use Rattle.dm_peer.specs.declared.config.Config.{Config}
use Rattle.dm_peer.specs.declared.peer.Peer.{Peer}
use Rattle.dm_peer.specs.Hosts.{is_equal, is_same_host}
use Rattle.dm_two_peers.specs.Laws.{world_of}
use Rattle.dm_two_peers.specs.Worlds.{World}
use Rattle.dm_world.specs.declared.fault.NewFault.{NewFault}
use Rattle.dm_world.specs.declared.fault.NewFault.TheVariants.{NotPeers, NothingCommon}
use Rattle.dm_octet_peers.specs.Laws.{fresh_peer}
use Rattle.dm_world.specs.New.{new_fault}
use Rattle.dm_replay.specs.HostLines.{Host}
use Rattle.dm_replay.specs.declared.script.Script.{Script}
use Rattle.dm_replay.specs.declared.fault.ScriptFault.{ScriptFault}
use Rattle.dm_replay.specs.declared.fault.ScriptFault.TheVariants.{NoMemory}
use Rattle.dm_replay.specs.ReadScript.{IsConfigOf, Scripted, IsReading}
use Rattle.dm_replay.specs.Replay.{replay_from, script_text}

-- why two configurations make no world, by what was asked
abbrev tested : Bool → Bool → Bool → Option NewFault
tested left right common =
    cond (not left) (Some NotPeers) (cond (not right) (Some NotPeers) (cond (not common) (Some NothingCommon) None))

when_none : (a b c : Bool) → tested a b c ≡ None → c ≡ true
when_none true true true e = refl
when_none true true false e = absurd (cc)
when_none true false c e = absurd (cc)
when_none false b c e = absurd (cc)

when_nothing : (a b c : Bool) → tested a b c ≡ Some NothingCommon → c ≡ false
when_nothing true true true e = absurd (cc)
when_nothing true true false e = refl
when_nothing true false c e = absurd (let same : NotPeers ≡ NothingCommon = cc in cc)
when_nothing false b c e = absurd (let same : NotPeers ≡ NothingCommon = cc in cc)

when_peers : (a b c : Bool) → a ≡ true → b ≡ true → tested a b c ≡ Some NotPeers → ⊥
when_peers a b c h k e = by c (sym (ap (λ v. tested v b c) h ∙ ap (λ v. tested true v c) k) ∙ e) where
  by : (c : Bool) → tested true true c ≡ Some NotPeers → ⊥
  by true e = cc
  by false e = let same : NothingCommon ≡ NotPeers = cc in cc

-- the text of a script whose world is made
pub replayed : (s : Script) (w : World Peer (List ℕ)) (text start : List ℕ) (good : Bool)
    → w ≡ world_of (fresh_peer s.left) (fresh_peer s.right) → new_fault s.left s.right ≡ None → start ≡ []
    → text ≡ start ++ (replay_from 1 w s.list).0 → good ≡ (replay_from 1 w s.list).1 → (text, good) ≡ script_text s
replayed s w text start good made none empty text_is good_is =
    let common = when_none (is_same_host s.left.peer s.right.node.host) (is_same_host s.right.peer s.left.node.host)
    (are_common s.left.node s.right.node) none in
    let whole : (text, good) ≡ replay_from 1 w s.list = λ i.
    ((text_is ∙ ap (λ v. v ++ (replay_from 1 w s.list).0) empty) i, good_is i) in
    whole ∙ ap (λ v. replay_from 1 v s.list) made ∙ ap
    (λ b. cond b (replay_from 1 (world_of (fresh_peer s.left) (fresh_peer s.right)) s.list)
    (codes "fault NothingCommon" ++ 10 ∷ [], false)) (sym common)

-- the text of a script whose peers have no application in common
pub nothing_common : (s : Script) (text : List ℕ) (f : NewFault) → new_fault s.left s.right ≡ Some f
    → f ≡ NothingCommon → text ≡ codes "fault NothingCommon" ++ 10 ∷ []
    → (text, false) ≡ script_text s
nothing_common s text f fault is text_is =
    let apart = when_nothing (is_same_host s.left.peer s.right.node.host)
    (is_same_host s.right.peer s.left.node.host) (are_common s.left.node s.right.node) (fault ∙ ap Some is) in
    ap (λ v. (v, false)) text_is ∙ ap
    (λ b. cond b (replay_from 1 (world_of (fresh_peer s.left) (fresh_peer s.right)) s.list)
    (codes "fault NothingCommon" ++ 10 ∷ [], false)) (sym apart)

-- peers that are configured for each other
pub not_peers : (left right : Config) (f : NewFault) → is_same_host left.peer right.node.host ≡ true
    → is_same_host right.peer left.node.host ≡ true
    → new_fault left right ≡ Some f → f ≡ NotPeers → ⊥
not_peers left right f h k fault is =
    when_peers (is_same_host left.peer right.node.host) (is_same_host right.peer left.node.host)
    (are_common left.node right.node) h k (fault ∙ ap Some is)

-- a text is its own equal
pub own_equal : (s : List ℕ) → is_equal (order_of_hosts s s) ≡ true
own_equal [] = refl
own_equal (b ∷ s) = by (own_equal s) (nat_lt b b) refl where
  by : is_equal (order_of_hosts s s) ≡ true → (v : Bool) → nat_lt b b ≡ v
      → is_equal (cond v Less (cond v Greater (order_of_hosts s s))) ≡ true
  by later true is = absurd (let less = ltb-true b b is in omega (arith, less))
  by later false is = later

-- a configuration for the other's host is that of its peer
pub configured : (left right : Host) (c d : Config) → IsConfigOf left right c → IsConfigOf right left d
    → is_same_host c.peer d.node.host ≡ true
configured left right c d h g =
    let Same : List ℕ → Type 0 = λ v. is_same_host c.peer v ≡ true in
    subst Same (h.peer ∙ sym g.node.host) (own_equal (lower c.peer))

-- the script that was read
pub script_was_read : (text : List ℕ) (r : Result (Option Script) ScriptFault) (o : Option Script) (s : Script)
    → r ≡ Ok o → o ≡ Some s → (r ≡ Err NoMemory) ⊎ IsReading text r → Scripted text s
script_was_read text r o s is some (inl e) = let both = sym is ∙ e in absurd (cc)
script_was_read text r o s is some (inr h) =
    let Read : Result (Option Script) ScriptFault → Type 0 = λ v. IsReading text v in
    subst Read (is ∙ ap Ok some) h
