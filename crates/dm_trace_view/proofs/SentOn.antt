-- What is sent on a connection that takes it, and what is said then.
use Rattle.std.proofs.Common.{◌≡◌, inl, inr, ℕ, Option, Some, List, [], ◌++◌, append_assoc, append-nil, ap, sym, ◌∙◌, refl, subst}
use Rattle.dm_connections.specs.declared.ends.Ends.{Ends}
use Rattle.dm_connections.specs.Choices.{WantsBetween}
use Rattle.dm_connections.specs.Held.{HeldTable, SentGoesIn, HasNoPlaceBetween, found_ends}
use Rattle.dm_tables.specs.Definitions.{Definitions}
use Rattle.dm_trace_view.specs.declared.counts.Counts.{Counts}
use Rattle.dm_trace_view.specs.declared.handed_messages.Direction.{Direction}
use Rattle.dm_trace_view.specs.declared.sent_and_unread.Unread.{Unread}
use Rattle.dm_trace_view.specs.declared.packet_context.Hearing.{Hearing}
use Rattle.dm_trace_view.specs.declared.packet_context.Reckoned.{Reckoned}
use Rattle.dm_trace_view.specs.Handed.{SaysHanded}
use Rattle.dm_trace_view.specs.Talks.{Talk}
use Rattle.dm_trace_view.specs.Traces.{direction_by, counted_sent, unread_before, unread_since, unread_text, LetsGo, SaysSent}

module _ {C W : Type 0} (talk : Talk C W) (d : Definitions) (h : Hearing) (between : Ends) (begins : Type 0)
    (P : C → C → Type 0) where
  -- what was found on the way, step by step; the texts are what was said before, and behind each step
  pub record Hears (old : HeldTable C) (before : Reckoned) (new : HeldTable C) (after : Reckoned) (text last : List ℕ)
      : Type 0 where
    pub by : Ends
    pub by_is : by ≡ between
    pub held : Option Ends
    pub held_is : held ≡ found_ends old.held by.first by.second
    pub ago : Unread
    pub ago_is : ago ≡ unread_before talk.passed_in talk.secured_in old.held held
    pub ends : Ends
    pub heard : HeldTable C
    pub goes : SentGoesIn talk.fresh old.held old.max between (WantsBetween h.looks.choice between begins) ends heard.held
        P
    pub max : heard.max ≡ old.max
    pub direction : Direction
    pub direction_is : direction ≡ direction_by h by ends
    pub handed : HeldTable C
    pub told : List ℕ
    pub says : (said : List ℕ) × (told ≡ text ++ said)
        × SaysHanded talk h.task d h.looks.filter direction before.numbered heard after.numbered handed said
    pub now : Unread
    pub now_is : now ≡ unread_before talk.passed_in talk.secured_in handed.held (Some ends)
    pub passed : List ℕ
    pub passed_is : passed ≡ told ++ unread_text h by ago now
    pub counted : Counts
    pub counted_is : counted ≡ counted_sent held (unread_since ago now) before.counts
    pub lets : (gone : List (Ends × C)) × (others : List ℕ) × (last ≡ passed ++ others)
        × LetsGo talk.held_in talk.pending_in h.task h.packet h.looks.limits handed counted.passed gone new
        after.counts.passed others
    pub counts : after.counts ≡ record counted { passed = after.counts.passed }

  pub heard : (old : HeldTable C) (before : Reckoned) (new : HeldTable C) (after : Reckoned) (text last : List ℕ)
      → Hears old before new after text last
      → (more : List ℕ) × (last ≡ text ++ more) × SaysSent talk d h between begins P old before new after more
  heard old before new after text last it =
      let found = found_ends old.held between.first between.second in
      let said = it.says.0 in
      let others = it.lets.1 in
      let told = unread_text h between it.ago it.now in
      let HeldBy : Ends → Type 0 = λ k. it.held ≡ found_ends old.held k.first k.second in
      let GoingBy : Ends → Type 0 = λ k. it.direction ≡ direction_by h k it.ends in
      let UnreadBy : Ends → Type 0 = λ k. it.passed ≡ it.told ++ unread_text h k it.ago it.now in
      let held_is = subst HeldBy it.by_is it.held_is in
      let direction_is = subst GoingBy it.by_is it.direction_is in
      let unread_is = subst UnreadBy it.by_is it.passed_is in
      let Going : Direction → Type 0 =
      λ k. SaysHanded talk h.task d h.looks.filter k before.numbered it.heard after.numbered it.handed said in
      let AgoHeld : Option Ends → Type 0 =
      λ o. it.ago ≡ unread_before talk.passed_in talk.secured_in old.held o in
      let CountedHeld : Option Ends → Type 0 =
      λ o. it.counted ≡ counted_sent o (unread_since it.ago it.now) before.counts in
      let all = it.lets.2 ∙ ap (λ (v : List ℕ). v ++ others) (unread_is ∙ ap (λ (v : List ℕ). v ++ told) it.says.1) in
      let flat : ((text ++ said) ++ told) ++ others ≡ text ++ (said ++ (told ++ others)) = simp append_assoc in (
        said ++ (told ++ others),
        all ∙ flat,
        inl (record {
          ends = it.ends;
          heard = it.heard;
          goes = it.goes;
          max = it.max;
          handed = it.handed;
          said = said;
          says = subst Going direction_is it.says.2;
          ago = it.ago;
          ago_is = subst AgoHeld held_is it.ago_is;
          now = it.now;
          now_is = it.now_is;
          counted = it.counted;
          counted_is = subst CountedHeld held_is it.counted_is;
          gone = it.lets.0;
          others = others;
          lets = it.lets.3;
          text_is = refl;
          counts = it.counts;
        }),
      )

  -- nothing is said of what is sent on no connection that is looked at
  pub not_heard : (old : HeldTable C) (before : Reckoned) (new : HeldTable C) (text : List ℕ)
      → HasNoPlaceBetween old.held between (WantsBetween h.looks.choice between begins) → new ≡ old
      → (more : List ℕ) × (text ≡ text ++ more) × SaysSent talk d h between begins P old before new before more
  not_heard old before new text none same = (
    [],
    sym (append-nil text),
    inr (record { none = none; same = same; counted = refl; nothing = refl }),
  )
