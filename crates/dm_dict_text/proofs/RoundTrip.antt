-- The printed text of a dictionary defines the same dictionary.
use Rattle.std.proofs.Common.{◌≡◌, ℕ, true, false, List, [], sym, ap, subst, ◌∙◌}
use Rattle.std.proofs.lemmas.Bool.{and_parts}
use Rattle.std.specs.List.{list_all}
use Rattle.dm_grammar.specs.Grammar as grammar
use Rattle.dm_grammar.specs.Symbols.{is_digits, symbol_of_word}
use Rattle.dm_grammar.specs.Tokens.{Word, tokens}
use Rattle.dm_grammar.specs.Items.{Written}
use Rattle.dm_grammar.specs.Spelling.{AreItems}
use Rattle.dm_tables.specs.Definitions.{Definitions, nothing_defined}
use Rattle.dm_tables.specs.Sound.{is_sound, is_closed, knows_rule}
use Rattle.dm_dict_text.specs.Printed.{printed, is_first_version}
use Rattle.dm_dict_text.specs.Meaning.{with_no_strays, with_items}
use Rattle.dm_dict_text.specs.Faults.{items_faults, items_unknown}
use Rattle.dm_dict_text.specs.Outcome.{Defines}
use Rattle.dm_dict_text.proofs.Along.{none_both}
use Rattle.dm_tables.specs.SoundParts.{sound_parts}
use Rattle.dm_dict_text.proofs.PrintText.{printed-then, vendors_then, avps_then, commands_then}
use Rattle.dm_dict_text.proofs.PrintTokens.{version_words, version_tokens, vendors_tokens, avps_tokens, commands_tokens, avps_words, commands_words}
use Rattle.dm_dict_text.proofs.PrintItems.{written_all, all_words, first_line, are_items}
use Rattle.dm_dict_text.proofs.PrintDefined.{AreAdded, all_added, no_unknown}

pub printed_again : ((w : List ℕ) → is_digits w ≡ false → grammar.is_name_symbol (symbol_of_word w) ≡ true)
    → (d : Definitions) → is_sound d ≡ true → is_closed d ≡ true → Defines (printed d) nothing_defined d
printed_again names d sound closed =
    let parts = sound_parts d sound in
    let (known, known_too) = and_parts (list_all (λ a. knows_rule d.avps a.rule) d.avps)
    (list_all (λ c. knows_rule d.avps c.rule) d.commands) closed in
    let first = is_first_version d in
    let items : List Written = written_all d (first_line first) in
    let words : tokens (printed d) ≡ version_words first (all_words d) =
    ap tokens (printed-then d) ∙
    version_tokens first (vendors_then d.vendors (avps_then d.avps (commands_then d.commands))) (all_words d)
    (λ m. vendors_tokens m [] d.vendors (avps_then d.avps (commands_then d.commands))
    (λ n. avps_words n d.avps (commands_words d.commands)) parts.vendors
    (λ n. avps_tokens n [] d.avps (commands_then d.commands) (commands_words d.commands) parts.avps
    (λ k. commands_tokens k [] d.commands parts.commands))) in
    let spelled : AreItems items (tokens (printed d)) = subst (λ (ws : List Word). AreItems items ws) (sym words)
    (are_items names d parts.vendors parts.avps parts.commands) in
    let added : AreAdded nothing_defined items d = all_added (first_line first) d parts.vendors parts.avps
    parts.commands in
    let nothing_unknown : items_unknown (with_items (with_no_strays nothing_defined) items) [] items ≡ [] = ap
    (λ m. items_unknown m [] items) added.added ∙ no_unknown (first_line first) d known known_too in
    record {
      items = items;
      grammatical = spelled;
      faultless = none_both (items_faults (with_no_strays nothing_defined) items) _ added.faultless nothing_unknown;
      followed = ap (λ m. m.definitions) (sym added.added);
    }
