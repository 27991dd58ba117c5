-- A message of an application that comes where the peer is not open hands nothing up, and ends the connection.
use Rattle.std.proofs.Common.{◌≡◌, ℕ, ◌==◌, Bool, true, false, List, refl, ap, subst, arith}
use Rattle.std.specs.Prelude.{Contains}
use Rattle.std.specs.List.{list_all}
use Rattle.std.proofs.lemmas.Bool.Decides.{nat_tests}
use Rattle.std.proofs.lemmas.List.Elements.{All-contains}
use Rattle.std.proofs.lemmas.List.Sums.{AllPass-from_list_all}
use Rattle.dm_machine.specs.declared.inputs.Input.TheVariants as input
use Rattle.dm_machine.specs.declared.inputs.Word.{Word}
use Rattle.dm_machine.specs.declared.inputs.Word.TheVariants.{Unreadable, Other}
use Rattle.dm_machine.specs.declared.outputs.Command.{Command}
use Rattle.dm_machine.specs.Node.{Node, is_shaped}
use Rattle.dm_machine.specs.Connection.{Hold, hold_of, orders_to, AtConnection}
use Rattle.dm_machine.specs.Connection as hold
use Rattle.dm_machine.specs.Changes.{Change, changed_to, allowed, at_word, EachConnectionChangesAsAllowed}
use Rattle.dm_machine.specs.Moves as moves
use Rattle.dm_machine.specs.Moves.{machine_outcome}
use Rattle.dm_peer.specs.Configs.{wins}
use Rattle.dm_two_peers.specs.Machine.{conn}
use Rattle.dm_two_peers.specs.Delivery.{is_done_hold, is_unmade}
use Rattle.dm_machine.specs.Upward.{is_open_hold}

-- such a message, or one that isn't looked at, ends what is made and not open
abbrev pub ends_word : Word → Bool
ends_word Unreadable = true
ends_word Other = true
ends_word _ = false

abbrev is_done_after : Change → Bool
is_done_after x = is_done_hold x.next

done_listed : (w : Word) (h : Hold) → ends_word w ≡ true → is_open_hold h ≡ false → is_unmade h ≡ false →
    list_all is_done_after (at_word h w) ≡ true
done_listed Unreadable hold.NotHeld e o u = refl
done_listed Unreadable hold.Pending e o u = cc
done_listed Unreadable hold.Made e o u = refl
done_listed Unreadable hold.OpenAsI e o u = cc
done_listed Unreadable hold.ClosingAsI e o u = refl
done_listed Unreadable hold.Taken e o u = refl
done_listed Unreadable hold.OpenAsR e o u = cc
done_listed Unreadable hold.ClosingAsR e o u = refl
done_listed Other hold.NotHeld e o u = refl
done_listed Other hold.Pending e o u = cc
done_listed Other hold.Made e o u = refl
done_listed Other hold.OpenAsI e o u = cc
done_listed Other hold.ClosingAsI e o u = refl
done_listed Other hold.Taken e o u = refl
done_listed Other hold.OpenAsR e o u = cc
done_listed Other hold.ClosingAsR e o u = refl
done_listed _ h e o u = cc

self_named : (c : ℕ) → (c == c) ≡ true
self_named c = grind (arith, nat_tests)

word_concern : (c : ℕ) (w : Word) → hold.concern_of (input.Heard (conn c) w) (conn c) ≡ hold.HeardOnIt w
word_concern c w = ap (λ b. hold.if_named b (hold.HeardOnIt w)) (self_named c)

pub done_after : EachConnectionChangesAsAllowed → (n next : Node) (c : ℕ) (w : Word) (wins : Bool)
    (commands : List Command) → is_shaped n ≡ true →
    machine_outcome n (input.Heard (conn c) w) wins ≡ moves.NodeMoved commands next → ends_word w ≡ true →
    is_open_hold (hold_of n (conn c)) ≡ false → is_unmade (hold_of n (conn c)) ≡ false →
    is_done_hold (hold_of next (conn c)) ≡ true
done_after changes n next c w wins commands shaped is ends opened unmade =
    let before = hold_of n (conn c) in
    let x = changed_to (hold_of next (conn c)) (orders_to (conn c) commands) in
    let raw : Contains (allowed (hold.concern_of (input.Heard (conn c) w) (conn c)) before) x =
    subst (λ (o : moves.NodeOutcome). AtConnection (λ j b a os. Contains (allowed j b) (changed_to a os)) n
    (input.Heard (conn c) w) (conn c) o) is (changes n (input.Heard (conn c) w) wins (conn c) shaped) in
    let there : Contains (at_word before w) x = subst (λ k. Contains (allowed k before) x) (word_concern c w) raw in
    All-contains (λ y. is_done_after y ≡ true) (at_word before w) x
    (AllPass-from_list_all is_done_after (at_word before w) (done_listed w before ends opened unmade)) there
