-- A line tells one peer or one happening.
use Rattle.std.proofs.Common.{◌≡◌, ℕ, Bool, true, false, if◌then◌else◌, nat_eq, get_or, codes, Some, List, ◌∷◌, ap, sym, ◌∙◌, refl, subst}
use Rattle.std.specs.Cmp.Lexicographic.{pointwise}
use Rattle.dm_text.specs.Numbers.{TellsUpTo}
use Rattle.dm_text.specs.Hexadecimal.{word_octets}
use Rattle.dm_base.specs.declared.kind.Cause.{Cause}
use Rattle.dm_base.specs.declared.kind.Cause.TheVariants.{Rebooting, Busy, DoNotWantToTalkToYou}
use Rattle.dm_machine.specs.declared.connection.Conn.{Conn}
use Rattle.dm_world.specs.declared.side.Side.{Side}
use Rattle.dm_world.specs.declared.side.Side.TheVariants.{A, B}
use Rattle.dm_world.specs.declared.happening.Happening.{Happening}
use Rattle.dm_world.specs.declared.happening.Happening.TheVariants.{Start, Stop, Timeout, Tick, Restart, Ack, Nack, Deliver, Piece, Lose, Submit}
use Rattle.dm_replay.specs.declared.verb.Verb.{Verb}
use Rattle.dm_replay.specs.declared.verb.Verb.TheVariants as verbs
use Rattle.dm_base.specs.Built.{cause_number}
use Rattle.dm_replay.specs.HappeningLines.{side_name, word_of, verb_of, TellsArguments, TellsHappening}
use Rattle.dm_replay.specs.HostLines.{Host, TellsHost}

one_number : (most n k : ℕ) (word other : List ℕ) → word ≡ other → TellsUpTo most n word → TellsUpTo most k other
    → n ≡ k
one_number most n k word other is h g = let Tells : List ℕ → Type 0 = λ v. TellsUpTo most n v in sym
    (subst Tells is h).1 ∙ g.1

one_name : (s t : Side) → side_name s ≡ side_name t → s ≡ t
one_name A A e = refl
one_name B B e = refl
one_name A B e = absurd (let first : true ≡ false = ap (λ w. nat_eq (get_or w 0 0) 65) e in cc)
one_name B A e = absurd (let first : false ≡ true = ap (λ w. nat_eq (get_or w 0 0) 65) e in cc)

one_cause : (a b : Cause) → cause_number a ≡ cause_number b → a ≡ b
one_cause Rebooting Rebooting e = refl
one_cause Rebooting b e = absurd (cc)
one_cause Busy Busy e = refl
one_cause Busy b e = absurd (cc)
one_cause DoNotWantToTalkToYou DoNotWantToTalkToYou e = refl
one_cause DoNotWantToTalkToYou b e = absurd (cc)

abbrev is : List ℕ → List ℕ → Bool
is word other = pointwise nat_eq word other

-- the verb that a word is
abbrev pub verb_in : List ℕ → Verb
verb_in word =
    if is word (codes "start") then verbs.Start else (if is word (codes "stop") then verbs.Stop
    else (if is word (codes "timeout") then verbs.Timeout else (if is word (codes "tick") then verbs.Tick
    else (if is word (codes "restart") then verbs.Restart else (if is word (codes "ack") then verbs.Ack
    else (if is word (codes "nack") then verbs.Nack else (if is word (codes "deliver") then verbs.Deliver
    else (if is word (codes "piece") then verbs.Piece else (if is word (codes "lose") then verbs.Lose
    else verbs.Submit)))))))))

pub verb_in-word : (v : Verb) → verb_in (word_of v) ≡ v
verb_in-word verbs.Start = refl
verb_in-word verbs.Stop = refl
verb_in-word verbs.Timeout = refl
verb_in-word verbs.Tick = refl
verb_in-word verbs.Restart = refl
verb_in-word verbs.Ack = refl
verb_in-word verbs.Nack = refl
verb_in-word verbs.Deliver = refl
verb_in-word verbs.Piece = refl
verb_in-word verbs.Lose = refl
verb_in-word verbs.Submit = refl

pub one_verb : (v k : Verb) → word_of v ≡ word_of k → v ≡ k
one_verb v k e = sym (verb_in-word v) ∙ ap verb_in e ∙ verb_in-word k

same_head : {x y : List ℕ} {s t : List (List ℕ)} → x ∷ s ≡ y ∷ t → x ≡ y
same_head e = cc

same_second : {a x y : List ℕ} {b : List ℕ} {s t : List (List ℕ)} → a ∷ x ∷ s ≡ b ∷ y ∷ t → x ≡ y
same_second e = cc

same_third : {a b x y : List ℕ} {c d : List ℕ} {s t : List (List ℕ)} → a ∷ b ∷ x ∷ s ≡ c ∷ d ∷ y ∷ t → x ≡ y
same_third e = cc

same_fourth : {a b c x : List ℕ} {d e f y : List ℕ} {s t : List (List ℕ)} → a ∷ b ∷ c ∷ x ∷ s ≡ d ∷ e ∷ f ∷ y ∷ t
    → x ≡ y
same_fourth h = cc

same_tail : {x y : List ℕ} {s t : List (List ℕ)} → x ∷ s ≡ y ∷ t → s ≡ t
same_tail e = cc

abbrev conn : ℕ → Conn
conn n = record { 0 = n }

same_conn : (c d : Conn) → c.0 ≡ d.0 → c ≡ d
same_conn c d e = ap conn e

pub one_arguments : (h k : Happening) (args : List (List ℕ)) → verb_of h ≡ verb_of k → TellsArguments h args
    → TellsArguments k args → h ≡ k
one_arguments (Start s) (Start t) args is h g = ap Start (one_name s t (same_head (sym h ∙ g)))
one_arguments (Start s) k args is h g = absurd (cc)
one_arguments (Stop s a) (Stop t b) args is h g =
    let e = sym h.1 ∙ g.1 in
    ap (λ v. Stop v a) (one_name s t (same_head e)) ∙ ap (λ v. Stop t v)
    (one_cause a b (one_number 4294967295 _ _ h.0 g.0 (same_second e) h.2 g.2))
one_arguments (Stop s a) k args is h g = absurd (cc)
one_arguments (Timeout s) (Timeout t) args is h g = ap Timeout (one_name s t (same_head (sym h ∙ g)))
one_arguments (Timeout s) k args is h g = absurd (cc)
one_arguments (Tick s) (Tick t) args is h g = ap Tick (one_name s t (same_head (sym h ∙ g)))
one_arguments (Tick s) k args is h g = absurd (cc)
one_arguments (Restart s) (Restart t) args is h g = ap Restart (one_name s t (same_head (sym h ∙ g)))
one_arguments (Restart s) k args is h g = absurd (cc)
one_arguments (Ack c) (Ack d) args is h g = ap Ack
    (same_conn c d (one_number 18446744073709551615 _ _ h.0 g.0 (same_head (sym h.1 ∙ g.1)) h.2 g.2))
one_arguments (Ack c) k args is h g = absurd (cc)
one_arguments (Nack c) (Nack d) args is h g = ap Nack
    (same_conn c d (one_number 18446744073709551615 _ _ h.0 g.0 (same_head (sym h.1 ∙ g.1)) h.2 g.2))
one_arguments (Nack c) k args is h g = absurd (cc)
one_arguments (Deliver c s) (Deliver d t) args is h g =
    let e = sym h.1 ∙ g.1 in
    ap (λ v. Deliver v s) (same_conn c d (one_number 18446744073709551615 _ _ h.0 g.0 (same_head e) h.2 g.2)) ∙ ap
    (λ v. Deliver d v) (one_name s t (same_second e))
one_arguments (Deliver c s) k args is h g = absurd (cc)
one_arguments (Piece c s k) (Piece d t m) args is h g =
    let e = sym h.2 ∙ g.2 in
    ap (λ v. Piece v s k) (same_conn c d (one_number 18446744073709551615 _ _ h.0 g.0 (same_head e) h.3 g.3))
    ∙ ap (λ v. Piece d v k) (one_name s t (same_second e)) ∙ ap (λ v. Piece d t v)
    (one_number 4294967295 _ _ h.1 g.1 (same_third e) h.4 g.4)
one_arguments (Piece c s k) j args is h g = absurd (cc)
one_arguments (Lose c a b) (Lose d x y) args is h g =
    let e = sym h.3 ∙ g.3 in
    ap (λ v. Lose v a b) (same_conn c d (one_number 18446744073709551615 _ _ h.0 g.0 (same_head e) h.4 g.4))
    ∙ ap (λ v. Lose d v b) (one_number 4294967295 _ _ h.1 g.1 (same_second e) h.5 g.5) ∙ ap (λ v. Lose d x v)
    (one_number 4294967295 _ _ h.2 g.2 (same_third e) h.6 g.6)
one_arguments (Lose c a b) k args is h g = absurd (cc)
one_arguments (Submit s a) (Submit t b) args is h g =
    let e = sym h.1 ∙ g.1 in
    ap (λ v. Submit v a) (one_name s t (same_head e)) ∙ ap (λ v. Submit t v)
    (same_octets h.0 g.0 a b (same_second e) h.2 g.2)
  where
    same_octets : (word other a b : List ℕ) → word ≡ other → word_octets word ≡ Some a → word_octets other ≡ Some b
        → a ≡ b
    same_octets word other a b is h g = let both = sym h ∙ ap word_octets is ∙ g in cc
one_arguments (Submit s a) k args is h g = absurd (cc)

pub one_happening : (h k : Happening) (line : List ℕ) → TellsHappening h line → TellsHappening k line → h ≡ k
one_happening h k line told other =
    let e = sym told.1 ∙ other.1 in
    let Args : List (List ℕ) → Type 0 = λ v. TellsArguments h v in
    one_arguments h k other.0 (one_verb (verb_of h) (verb_of k) (same_head e)) (subst Args (same_tail e) told.2) other.2

abbrev made_host : List ℕ → ℕ → Host
made_host h n = record { host = h; application = n }

pub one_host : (side : Side) (h k : Host) (line : List ℕ) → TellsHost side h line → TellsHost side k line → h ≡ k
one_host side h k line told other =
    let e = sym told.1 ∙ other.1 in
    ap (λ v. made_host v h.application) (same_third e) ∙ ap (λ v. made_host k.host v)
    (one_number 4294967295 _ _ told.0 other.0 (same_fourth e) told.3 other.3)
