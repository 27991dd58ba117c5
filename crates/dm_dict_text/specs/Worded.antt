-- The names of an item are names, and only an Enumerated has a list.
use Rattle.std.specs.Prelude.{ℕ, Bool, true, ◌&&◌, List, [], ◌∷◌, nat_eq, codes}
use Rattle.std.specs.List.{list_all}
use Rattle.std.specs.Cmp.Lexicographic.{pointwise}
use Rattle.dm_grammar.specs.Items.{EntryParts, ValueParts, VendorParts, AvpParts, GroupParts, CommandParts, Written}
use Rattle.dm_grammar.specs.Items.Written.{VendorIs, AvpIs, GroupIs, CommandIs}
use Rattle.dm_tables.specs.Sound.{is_proper_name}

abbrev pub have_proper_names : List EntryParts → Bool
have_proper_names rule = list_all (λ e. is_proper_name e.name.text) rule

abbrev pub is_worded_vendor : VendorParts → Bool
is_worded_vendor p = is_proper_name p.name.text

abbrev pub are_worded_values : List ValueParts → Bool
are_worded_values values = list_all (λ v. is_proper_name v.name.text) values

-- only an Enumerated has a list
abbrev pub may_have_values : List ℕ → List ValueParts → Bool
may_have_values kind [] = true
may_have_values kind (v ∷ vs) = pointwise nat_eq kind (codes "Enumerated")

abbrev pub is_worded_avp : AvpParts → Bool
is_worded_avp p = is_proper_name p.name.text && are_worded_values p.values && may_have_values p.kind.text p.values

abbrev pub is_worded_group : GroupParts → Bool
is_worded_group p = is_proper_name p.name.text && have_proper_names p.rule

abbrev pub is_worded_command : CommandParts → Bool
is_worded_command p = is_proper_name p.name.text && have_proper_names p.rule

abbrev pub is_worded : Written → Bool
is_worded (VendorIs p) = is_worded_vendor p
is_worded (AvpIs p) = is_worded_avp p
is_worded (GroupIs p) = is_worded_group p
is_worded (CommandIs p) = is_worded_command p
