use Rattle.std.proofs.Common.{sym, ◌∙◌}
use Rattle.dm_node.proofs.Counted.{present_told}
use Rattle.dm_node.proofs.Declined.{ruled_here, rule_of}
use Rattle.dm_node.proofs.Named.{named_same, unlike_same}
use Rattle.dm_node.proofs.Places.{found, set_here, set_else}
use Rattle.dm_node.proofs.Rostered.{kept_told}
use Rattle.dm_node.proofs.Taking.{leaves, apart_after, hosts_after, is_told, if_done, if_err, done_or_same}
use Rattle.dm_node.proofs.one_told.tell_peer_at.Goals as goal

pub returns-clause-told : goal.returns-clause-told
returns-clause-told c =
    if_done c.on_into-done.result
    (λ is. is_told _ _ _ _ _ _ (found c.args.peers.now.items c.args.index _ _ c.index_mut.ensures.value
    c.in-Some.is c.requires.there)
    (set_here c.args.peers.now.items c.args.index _ c.requires.there) is) c.on_into-done.ensures.acts

pub returns-clause-refused : goal.returns-clause-refused
returns-clause-refused c =
    if_err c.on_into-done.result
    (λ f is. record {
      peer = _;
      at = found c.args.peers.now.items c.args.index _ _ c.index_mut.ensures.value c.in-Some.is c.requires.there;
      refused = is;
    }) c.on_into-done.ensures.refused

pub returns-clause-roster : goal.returns-clause-roster
returns-clause-roster c = λ hosts count roster.
    let ps = c.args.peers.now.items in
    let i = c.args.index in
    let was = found ps i _ _ c.index_mut.ensures.value c.in-Some.is c.requires.there in
    let is = set_here ps i _ c.requires.there in
    let left = leaves c.done_events_are_steps_or_drops.ensures c.given_up_is_closed_unnamed_stays_unheld.ensures.alone _ _ _
    c.state-state.ensures.shaped
    (done_or_same c.on_into-done.new.actions.items _ _ _ c.on_into-done.result c.on_into-done.ensures.acts
    c.on_into-done.ensures.unchanged) in
    let hosted = hosts_after _ _ _ _ _ was is left in
    record {
      apart = apart_after _ _ _ _ _ was is left c.requires.only roster.apart;
      unlike = unlike_same _ _ hosted roster.unlike;
      kept = kept_told ps _ i _ is c.peers_are_settled_with_encodable_numbers.ensures (λ j un. set_else ps i j _ un) roster.kept;
      named = named_same hosts _ _ hosted roster.named;
      counted = roster.counted ∙ sym (present_told ps i _ c.requires.there);
    }

pub returns-clause-ruled : goal.returns-clause-ruled
returns-clause-ruled c =
    if_err c.on_into-done.result
    (ruled_here _ _ _
    (found c.args.peers.now.items c.args.index _ _ c.index_mut.ensures.value c.in-Some.is c.requires.there) _)
    c.on_into-done.ensures.ruled

pub returns-clause-refuses : goal.returns-clause-refuses
returns-clause-refuses c = λ f out.
    c.on_into-done.ensures.refuses f (rule_of _ _ _
    (found c.args.peers.now.items c.args.index _ _ c.index_mut.ensures.value c.in-Some.is c.requires.there) _ f out)
