use Rattle.std.proofs.Common.{◌≡◌, ◌∙◌, ◌++◌, ◌∷◌, [], map, ap, false, nat_eq}
use Rattle.std.specs.List.{list_any}
use Rattle.std.specs.Ordering.{int_eq}
use Rattle.std.specs.Cmp.Lexicographic.{pointwise}
use Rattle.dm_dict_text.proofs.EntryFaults.{any-map}
use Rattle.dm_dict_text.proofs.ListFaults.{number_kept, key_last}
use Rattle.dm_dict_text.proofs.Strays.{stray_noted}
use Rattle.dm_dict_text.proofs.value_list.Listing.note_name_and_number.Goals as goal

pub returns-in_ok-note_number-clause-names : goal.returns-in_ok-note_number-clause-names
returns-in_ok-note_number-clause-names c = λ long.
    let values = c.args.self.now.values.items in
    let name = c.args.name.now in
    let fresh : list_any (pointwise nat_eq name) (map (λ k. k.now) c.args.self.now.names.keys) ≡ false =
    ap (list_any (pointwise nat_eq name)) (c.requires.listing.names long) ∙ any-map (pointwise nat_eq name)
    (λ x. x.name) values ∙ c.requires.name in
    stray_noted c.args.self.now.names.keys c.insert.new.self.keys c.args.name c.in_ok-insert.ensures.keys fresh
    ∙ ap (λ names. names ++ name ∷ []) (c.requires.listing.names long)

pub returns-in_ok-note_number-clause-numbers : goal.returns-in_ok-note_number-clause-numbers
returns-in_ok-note_number-clause-numbers c = λ long.
    let values = c.args.self.now.values.items in
    let number = c.args.number.now in
    let fresh : list_any (int_eq number) c.args.self.now.numbers.keys ≡ false =
    number_kept c.args.self.now.numbers.keys values number (c.requires.listing.numbers long) ∙ c.requires.number in
    c.in_ok-note_number.ensures ∙ key_last int_eq c.args.self.now.numbers.keys number fresh
    ∙ ap (λ numbers. numbers ++ number ∷ []) (c.requires.listing.numbers long)
