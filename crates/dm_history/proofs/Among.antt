-- Where an element stands in a list, and in one that is made of it.
use Rattle.std.proofs.Common.{◌≡◌, List, [], ◌∷◌, ◌++◌, map, refl, ap, ◌∙◌}
use Rattle.std.proofs.lemmas.List.{map-append}
use Rattle.dm_machine.specs.declared.outputs.Command.{Command}
use Rattle.dm_peer.specs.declared.actions.Action.{Action}
use Rattle.dm_history.specs.History.{StandsAmong}

pub further : {A : Type 0} (y x : A) (xs : List A) → StandsAmong xs x → StandsAmong (y ∷ xs) x
further y x xs (earlier, later, e) = (y ∷ earlier, later, ap (λ l. y ∷ l) e)

pub none_among : {A : Type 0} (x : A) → StandsAmong [] x → ⊥
none_among x ([], later, e) = cc e
none_among x (y ∷ earlier, later, e) = cc e

pub mapped : (f : Command → Action) (l : List Command) (a : Command) → StandsAmong l a → StandsAmong (map f l) (f a)
mapped f l a (earlier, later, e) = (map f earlier, map f later, ap (map f) e ∙ map-append f earlier (a ∷ later))

-- the command of an action, with those before and behind it
pub record Source (f : Command → Action) (l : List Command) (y : Action) (later : List Action) : Type 0 where
  pub command : Command
  pub before : List Command
  pub behind : List Command
  pub stands : l ≡ before ++ command ∷ behind
  pub gives : f command ≡ y
  pub rest : map f behind ≡ later

source_later : (f : Command → Action) (a : Command) (l : List Command) (y : Action) (later : List Action) →
    Source f l y later → Source f (a ∷ l) y later
source_later f a l y later r =
    record {
      command = r.command;
      before = a ∷ r.before;
      behind = r.behind;
      stands = ap (λ t. a ∷ t) r.stands;
      gives = r.gives;
      rest = r.rest;
    }

pub sourced : (f : Command → Action) (l : List Command) (y : Action) (earlier later : List Action) →
    map f l ≡ earlier ++ y ∷ later → Source f l y later
sourced f [] y [] later e = absurd (cc e)
sourced f [] y (x ∷ earlier) later e = absurd (cc e)
sourced f (a ∷ l) y [] later e =
    record { command = a; before = []; behind = l; stands = refl; gives = cc e; rest = cc e }
sourced f (a ∷ l) y (x ∷ earlier) later e = source_later f a l y later (sourced f l y earlier later (cc e))
