-- A text is read as one thing.
use Rattle.std.proofs.Common.{◌≡◌, ℕ, true, List, [], ◌∷◌, Some, None, Ok, Err, ap, sym, ◌∙◌, refl, subst}
use Rattle.dm_base.specs.Before.{lower, order_of_hosts}
use Rattle.dm_peer.specs.declared.config.Config.{Config}
use Rattle.dm_peer.specs.Hosts.{is_equal, is_same_host}
use Rattle.dm_world.specs.declared.happening.Happening.{Happening}
use Rattle.dm_replay.specs.HostLines.{Host}
use Rattle.dm_replay.specs.OneScript.{OneScript, OneBadLine, NoScriptIsBad, NothingIsNotBad}
use Rattle.dm_replay.specs.declared.fault.ScriptFault.TheVariants.{Syntax, SameHost, NoMemory}
use Rattle.dm_replay.specs.declared.script.Script.{Script}
use Rattle.dm_replay.specs.ReadScript.{IsConfigOf, Scripted, NamesOneHost}
use Rattle.dm_replay.specs.Replay.{text_of}
use Rattle.dm_replay.specs.OneReplay.{OneRead, OneReplay}
use Rattle.dm_replay.proofs.SameConfigs.{one_config}
use Rattle.dm_replay.proofs.Worlds.{own_equal}

pub record ScriptLaws : Type 0 where
  pub one_script : OneScript
  pub one_bad_line : OneBadLine
  pub not_both : NoScriptIsBad
  pub not_nothing : NothingIsNotBad

abbrev made : Config → Config → List Happening → Script
made l r list = record { left = l; right = r; list = list }

same_script : ScriptLaws → (text : List ℕ) (s t : Script) → Scripted text s → Scripted text t → s ≡ t
same_script laws text s t a b =
    let one = laws.one_script a.left a.right b.left b.right s.list t.list text a.tells b.tells in
    let Left : Host → Type 0 = λ h. IsConfigOf h b.right s.left in
    let LeftOther : Host → Type 0 = λ h. IsConfigOf a.left h s.left in
    let Right : Host → Type 0 = λ h. IsConfigOf h b.left s.right in
    let RightOther : Host → Type 0 = λ h. IsConfigOf a.right h s.right in
    let left = one_config b.left b.right s.left t.left (subst Left one.0 (subst LeftOther one.1 a.left_is)) b.left_is in
    let right = one_config b.right b.left s.right t.right (subst Right one.1 (subst RightOther one.0 a.right_is))
    b.right_is in
    ap (λ v. made v s.right s.list) left ∙ ap (λ v. made t.left v s.list) right ∙ ap (λ v. made t.left t.right v) one.2

-- a script's two hosts differ
not_one_host : ScriptLaws → (text : List ℕ) (s : Script) → Scripted text s → NamesOneHost text → ⊥
not_one_host laws text s a b =
    let one = laws.one_script a.left a.right b.left b.right s.list b.list text a.tells b.tells in
    let same : lower s.left.node.host ≡ lower s.left.peer =
    ap lower (a.left_is.node.host ∙ ap (λ h. h.host) one.0) ∙ b.same ∙ ap lower
    (sym (a.left_is.peer ∙ ap (λ h. h.host) one.1))
    in
    let Equal : List ℕ → Type 0 = λ v. is_equal (order_of_hosts (lower s.left.node.host) v) ≡ true in
    let yes : is_same_host s.left.node.host s.left.peer ≡ true = subst Equal same
    (own_equal (lower s.left.node.host)) in
    let both = sym yes ∙ s.left.other_host in
    cc

none_or_more : {x : List ℕ} {s : List (List ℕ)} → [] ≡ x ∷ s → ⊥
none_or_more e = cc

pub one_read : ScriptLaws → OneRead
one_read laws text (Ok None) (Ok None) a b = refl
one_read laws text (Ok None) (Ok (Some t)) a b = absurd (none_or_more (sym a ∙ b.tells.whole))
one_read laws text (Ok None) (Err (Syntax n)) a b = absurd (laws.not_nothing n text a b)
one_read laws text (Ok None) (Err SameHost) a b = absurd (none_or_more (sym a ∙ b.tells.whole))
one_read laws text (Ok (Some s)) (Ok None) a b = absurd (none_or_more (sym b ∙ a.tells.whole))
one_read laws text (Ok (Some s)) (Ok (Some t)) a b = ap (λ v. Ok (Some v)) (same_script laws text s t a b)
one_read laws text (Ok (Some s)) (Err (Syntax n)) a b = absurd (laws.not_both a.left a.right s.list n text a.tells b)
one_read laws text (Ok (Some s)) (Err SameHost) a b = absurd (not_one_host laws text s a b)
one_read laws text (Err (Syntax n)) (Ok None) a b = absurd (laws.not_nothing n text b a)
one_read laws text (Err (Syntax n)) (Ok (Some t)) a b = absurd (laws.not_both b.left b.right t.list n text b.tells a)
one_read laws text (Err (Syntax n)) (Err (Syntax k)) a b = ap (λ v. Err (Syntax v)) (laws.one_bad_line n k text a b)
one_read laws text (Err (Syntax n)) (Err SameHost) a b = absurd (laws.not_both b.left b.right b.list n text b.tells a)
one_read laws text (Err SameHost) (Ok None) a b = absurd (none_or_more (sym b ∙ a.tells.whole))
one_read laws text (Err SameHost) (Ok (Some t)) a b = absurd (not_one_host laws text t b a)
one_read laws text (Err SameHost) (Err (Syntax n)) a b = absurd (laws.not_both a.left a.right a.list n text a.tells b)
one_read laws text (Err SameHost) (Err SameHost) a b = refl
one_read laws text (Err NoMemory) other a b = absurd a
one_read laws text read (Err NoMemory) a b = absurd b

pub one_replay : ScriptLaws → OneReplay
one_replay laws text out other good fine h g =
    let same = h.2 ∙ ap text_of (one_read laws text h.0 g.0 h.1 g.1) ∙ sym g.2 in
    (ap (λ r. r.0) same, ap (λ r. r.1) same)
