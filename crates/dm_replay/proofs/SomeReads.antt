-- A text is read as something.
use Rattle.std.proofs.Common.{◌≡◌, ◌<◌, ◌≤◌, ◌⊎◌, inl, inr, ℕ, Bool, true, false, slice_index, zero, suc, List, [], ◌∷◌, codes, Option, Some, None, Result, Ok, Err, arith, sym, ◌∙◌, refl, subst}
use Rattle.std.specs.Str.{is_utf8}
use Rattle.std.proofs.lemmas.Str.{is_utf8-from_IsUtf8, IsUtf8-from_ascii}
use Rattle.std.proofs.lemmas.Bool.{lt-ltb, and_from}
use Rattle.dm_value.specs.declared.address.Ip.TheVariants.{V4}
use Rattle.dm_tables.specs.Base.{base_definitions}
use Rattle.dm_base.specs.Before.{lower, order_of_hosts}
use Rattle.dm_base.specs.Fit.{is_name, is_number, is_product, are_ids}
use Rattle.dm_base.specs.declared.node.Node.{Node}
use Rattle.dm_peer.specs.declared.config.Config.{Config}
use Rattle.dm_peer.specs.Hosts.{is_equal, is_same_host}
use Rattle.dm_text.specs.Lines.{content_lines}
use Rattle.dm_replay.specs.HostLines.{Host}
use Rattle.dm_replay.specs.Scripts.{IsFirstBad}
use Rattle.dm_replay.specs.OneScript.{IsScript, SomeScript}
use Rattle.dm_replay.specs.declared.fault.ScriptFault.{ScriptFault}
use Rattle.dm_replay.specs.declared.fault.ScriptFault.TheVariants.{Syntax, SameHost}
use Rattle.dm_replay.specs.declared.script.Script.{Script}
use Rattle.dm_replay.specs.ReadScript.{IsConfigOf, IsReading}
use Rattle.dm_replay.specs.Replay.{text_of}
use Rattle.dm_replay.specs.OneReplay.{SomeRead, SomeReplay}
use Rattle.dm_replay.proofs.SameHosts.{same_host}
use Rattle.dm_replay.proofs.Worlds.{own_equal}

one_id : (n : ℕ) → n ≤ 4294967295 → are_ids (n ∷ []) ≡ true
one_id n most = and_from (is_number n) true (lt-ltb n 4294967296 (omega (arith, most))) refl

-- the product's name is text
ascii : (i : ℕ) → slice_index (codes "dmpeer") i < 128
ascii zero = omega arith
ascii (suc zero) = omega arith
ascii (suc (suc zero)) = omega arith
ascii (suc (suc (suc zero))) = omega arith
ascii (suc (suc (suc (suc zero)))) = omega arith
ascii (suc (suc (suc (suc (suc zero))))) = omega arith
ascii (suc (suc (suc (suc (suc (suc n)))))) = omega arith

product : is_product (codes "dmpeer") ≡ true
product = and_from (is_utf8 (codes "dmpeer")) true
    (is_utf8-from_IsUtf8 (codes "dmpeer") (IsUtf8-from_ascii (codes "dmpeer") ascii)) refl

node_of : (h : Host) → is_name h.host ≡ true → h.application ≤ 4294967295 → Node
node_of h name most =
    record {
      host = h.host;
      realm = codes "example";
      addresses = V4 (127 ∷ 0 ∷ 0 ∷ 1 ∷ []) ∷ [];
      vendor = 0;
      product = codes "dmpeer";
      auth = h.application ∷ [];
      acct = [];
      extras = None;
      fit_host = name;
      fit_realm = refl;
      fit_addresses = refl;
      fit_vendor = refl;
      fit_product = product;
      fit_auth = one_id h.application most;
      fit_acct = refl;
    }

-- a configuration for the other's host
config_of : (own other : Host) → is_name own.host ≡ true → own.application ≤ 4294967295 → is_name other.host ≡ true
    → is_same_host own.host other.host ≡ false
    → (c : Config) × IsConfigOf own other c
unfolding node_of
config_of own other name most other_name differ = (
  record {
    node = node_of own name most;
    peer = other.host;
    first_id = 1;
    dictionary = base_definitions;
    compares = false;
    fit_peer = other_name;
    other_host = differ;
    based = refl;
  },
  record {
    node = record
        { host = refl; realm = refl; addresses = refl; vendor = refl; product = refl; auth = refl; acct = refl; extras = refl };
    peer = refl;
    first_id = refl;
    dictionary = refl;
    compares = refl;
  },
)

-- hosts differ in either order
differ-back : (h k : List ℕ) → is_same_host h k ≡ false → is_same_host k h ≡ false
differ-back h k differ = by (is_same_host k h) refl where
  by : (b : Bool) → is_same_host k h ≡ b → b ≡ false
  by false is = refl
  by true is =
      let Equal : List ℕ → Type 0 = λ v. is_equal (order_of_hosts (lower h) v) ≡ true in
      let yes : is_same_host h k ≡ true = subst Equal (sym (same_host k h is)) (own_equal (lower h)) in
      absurd (let both = sym yes ∙ differ in cc)

read_script : (text : List ℕ) → IsScript text → (read : Result (Option Script) ScriptFault) × IsReading text read
read_script text s = by (is_same_host s.0.host s.1.host) refl where
  by : (b : Bool) → is_same_host s.0.host s.1.host ≡ b
      → (read : Result (Option Script) ScriptFault) × IsReading text read
  by true is =
      (Err SameHost, record { left = s.0; right = s.1; list = s.2; tells = s.3; same = same_host s.0.host s.1.host is })
  by false is =
      let a = s.3.tells_left in
      let b = s.3.tells_right in
      let left = config_of s.0 s.1 a.2 a.3.2 b.2 is in
      let right = config_of s.1 s.0 b.2 b.3.2 a.2 (differ-back s.0.host s.1.host is) in (
        Ok (Some (record { left = left.0; right = right.0; list = s.2 })),
        record
            { left = s.0; right = s.1; tells = s.3; left_is = left.1; right_is = right.1 },
      )

pub some_read : SomeScript → SomeRead
some_read some text = by (some text) where
  by : (content_lines text ≡ []) ⊎ IsScript text ⊎ ((n : ℕ) × IsFirstBad text n)
      → (read : Result (Option Script) ScriptFault) × IsReading text read
  by (inl none) = (Ok None, none)
  by (inr (inl s)) = read_script text s
  by (inr (inr b)) = (Err (Syntax b.0), b.1)

pub some_replay : SomeScript → SomeReplay
some_replay some text = let read = some_read some text in
    ((text_of read.0).0, (text_of read.0).1, (read.0, read.1, refl))
