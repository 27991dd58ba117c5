-- The items that the printed words spell.
use Rattle.std.proofs.Common.{◌≡◌, inl, inr, ℕ, ◌+◌, unsigned_abs, Bool, true, false, ◌&&◌, ◌||◌, not, List, [], ◌∷◌, ◌++◌, map, codes, Option, Some, None, if◌then◌else◌, refl}
use Rattle.std.proofs.lemmas.Bool.{and_parts}
use Rattle.std.specs.Char.{is_ascii_alphanumeric, is_ascii_digit}
use Rattle.std.specs.List.{list_all}
use Rattle.dm_grammar.specs.declared.item.Form.{Form}
use Rattle.dm_grammar.specs.declared.item.Form.TheVariants.{Fixed, Required, Optional}
use Rattle.dm_grammar.specs.declared.reading.Version.{Version}
use Rattle.dm_grammar.specs.declared.reading.Version.TheVariants.{First, Second}
use Rattle.dm_grammar.specs.declared.symbol.Symbol.TheVariants as symbols
use Rattle.dm_grammar.specs.declared.terminal.Terminal.TheVariants.{One}
use Rattle.dm_grammar.specs.Symbols.{goes_on, is_digits, symbol_of_word}
use Rattle.dm_grammar.specs.Tokens.{Word}
use Rattle.dm_grammar.specs.Grammar.{fits}
use Rattle.dm_grammar.specs.Grammar as grammar
use Rattle.dm_grammar.specs.Items as written
use Rattle.dm_grammar.specs.Items.{Written, VendorReference}
use Rattle.dm_grammar.specs.Items.VendorReference.{NumberedBy}
use Rattle.dm_grammar.specs.Items.Written.{VendorIs, AvpIs, GroupIs, CommandIs}
use Rattle.dm_grammar.specs.Spelling.{Spells, Ends, AreItems}
use Rattle.dm_grammar.specs.Spelling as spelling
use Rattle.dm_grammar.specs.Spelling.Phrase.{Literal, ◌then◌}
use Rattle.dm_tables.specs.declared.rule.Entry.{Entry}
use Rattle.dm_tables.specs.declared.values.EnumValue.{EnumValue}
use Rattle.dm_tables.specs.declared.def.VendorDef.{VendorDef}
use Rattle.dm_tables.specs.declared.def.AvpDef.{AvpDef}
use Rattle.dm_tables.specs.declared.def.CommandDef.{CommandDef}
use Rattle.dm_value.specs.declared.avp_type.AvpType.{AvpType}
use Rattle.dm_value.specs.declared.avp_type.AvpType.TheVariants as kinds
use Rattle.dm_tables.specs.Definitions.{Definitions}
use Rattle.dm_tables.specs.Sound.{is_proper_name, is_grouped, is_enumerated, is_empty_list, each_after, is_sound_entry, is_sound_rule, is_sound_value, is_sound_list, is_sound_vendor, is_sound_avp, is_sound_command}
use Rattle.dm_dict_text.specs.Printed.{type_name, has_nothing, is_first_version}
use Rattle.dm_tables.specs.SoundParts.{avp_sound_parts, command_sound_parts, value_sound_parts, vendor_sound_parts}
use Rattle.dm_dict_text.proofs.PrintWords.{word_of, number_word}
use Rattle.dm_dict_text.proofs.PrintTokens.{option_words, bracket_words, rule_words, more_words, list_words, plain_words, group_words, avp_words, vendors_words, version_words, flag_words, command_words, avps_words, commands_words, entry_parts}

abbrev pub written_option : ℕ → Option ℕ → Option Word
written_option line None = None
written_option line (Some n) = Some (number_word line n)

abbrev pub written_vend : ℕ → Option ℕ → Option VendorReference
written_vend line None = None
written_vend line (Some n) = Some (NumberedBy (number_word line n))

abbrev pub written_entry : ℕ → Entry → written.EntryParts
written_entry line e =
    record {
      form = e.form;
      name = word_of line e.name;
      qualifier = Some (record { low = Some (number_word line e.min); high = written_option line e.max });
    }

abbrev pub written_rule : ℕ → List Entry → List written.EntryParts
written_rule line rule = map (written_entry line) rule

abbrev pub written_value : ℕ → EnumValue → written.ValueParts
written_value line v = record { name = word_of line v.name; number = number_word line (unsigned_abs v.number) }

abbrev pub written_list : ℕ → List EnumValue → List written.ValueParts
written_list line values = map (written_value line) values

abbrev pub written_plain : ℕ → AvpDef → Written
written_plain line a =
    AvpIs (record {
      name = word_of line a.name;
      code = number_word line a.code;
      kind = word_of line (type_name a.kind);
      vendor = written_vend line a.vendor;
      values = written_list line a.values;
    })

abbrev pub written_group : ℕ → AvpDef → Written
written_group line a =
    GroupIs (record {
      name = word_of line a.name;
      code = number_word line a.code;
      vendor = written_vend line a.vendor;
      rule = written_rule line a.rule;
    })

abbrev pub written_avp : ℕ → AvpDef → Written
written_avp line a = if is_grouped a.kind then written_group line a else written_plain line a

abbrev pub written_command : ℕ → CommandDef → Written
written_command line c =
    CommandIs
    (record {
      name = word_of line c.name;
      code = number_word line c.code;
      request = c.request;
      proxiable = c.proxiable;
      error = c.err;
      application = Some (number_word line c.application);
      rule = written_rule line c.rule;
    })

abbrev pub written_vendor : ℕ → VendorDef → Written
written_vendor line v = VendorIs (record { name = word_of line v.name; number = number_word line v.number })

abbrev pub written_vendors : ℕ → List VendorDef → (ℕ → List Written) → List Written
written_vendors line [] items = items line
written_vendors line (v ∷ vendors) items = written_vendor line v ∷ written_vendors (line + 1) vendors items

abbrev pub written_avps : ℕ → List AvpDef → (ℕ → List Written) → List Written
written_avps line [] items = items line
written_avps line (a ∷ avps) items = written_avp line a ∷ written_avps (line + 1) avps items

abbrev pub written_commands : List CommandDef → ℕ → List Written
written_commands [] line = []
written_commands (c ∷ commands) line = written_command line c ∷ written_commands commands (line + 1)

-- the items of the definitions, from a line on
abbrev pub written_all : Definitions → ℕ → List Written
written_all d line = written_vendors line d.vendors (λ n. written_avps n d.avps (written_commands d.commands))

-- and their words
abbrev pub all_words : Definitions → ℕ → List Word
all_words d line = vendors_words line d.vendors (λ n. avps_words n d.avps (commands_words d.commands))

-- the line at which they begin
abbrev pub first_line : Bool → ℕ
first_line first = if first then 1 else 2

-- a list may stand in a text of the version
abbrev may_list : Version → List EnumValue → Bool
may_list First values = has_nothing values
may_list Second values = true

not_number : (name : List ℕ) → is_proper_name name ≡ true → is_digits name ≡ false
not_number [] h = absurd cc
not_number (c ∷ s) h =
    is_not (is_digits (c ∷ s))
    (and_parts (is_ascii_alphanumeric c && list_all goes_on s) (not (list_all is_ascii_digit (c ∷ s))) h).1
  where
    is_not : (b : Bool) → not b ≡ true → b ≡ false
    is_not true e = absurd cc
    is_not false e = refl

type_symbol : (kind : AvpType) → grammar.is_name_symbol (symbol_of_word (type_name kind)) ≡ true
type_symbol kinds.OctetString = refl
type_symbol kinds.Integer32 = refl
type_symbol kinds.Integer64 = refl
type_symbol kinds.Unsigned32 = refl
type_symbol kinds.Unsigned64 = refl
type_symbol kinds.Address = refl
type_symbol kinds.Time = refl
type_symbol kinds.UTF8String = refl
type_symbol kinds.DiameterIdentity = refl
type_symbol kinds.DiameterURI = refl
type_symbol kinds.Enumerated = refl
type_symbol kinds.Grouped = refl

enumerated_symbol : (kind : AvpType) → is_enumerated kind ≡ true
    → fits (One symbols.Enumerated) (symbol_of_word (type_name kind)) ≡ true
enumerated_symbol kinds.OctetString h = absurd cc
enumerated_symbol kinds.Integer32 h = absurd cc
enumerated_symbol kinds.Integer64 h = absurd cc
enumerated_symbol kinds.Unsigned32 h = absurd cc
enumerated_symbol kinds.Unsigned64 h = absurd cc
enumerated_symbol kinds.Address h = absurd cc
enumerated_symbol kinds.Time h = absurd cc
enumerated_symbol kinds.UTF8String h = absurd cc
enumerated_symbol kinds.DiameterIdentity h = absurd cc
enumerated_symbol kinds.DiameterURI h = absurd cc
enumerated_symbol kinds.Enumerated h = refl
enumerated_symbol kinds.Grouped h = absurd cc

is_listing : (b : Bool) → (b || false) ≡ true → b ≡ true
is_listing true h = refl
is_listing false h = absurd cc

module _ (names : (w : List ℕ) → is_digits w ≡ false → grammar.is_name_symbol (symbol_of_word w) ≡ true) where
  named : (name : List ℕ) → is_proper_name name ≡ true → grammar.is_name_symbol (symbol_of_word name) ≡ true
  named name h = names name (not_number name h)

  bracketed : (line : ℕ) (form : Form) (name : List ℕ) (ws : List Word) (Behind : List Word → Type 0)
      → is_proper_name name ≡ true → Behind ws
      → Spells (spelling.bracketed form (word_of line name)) Behind (bracket_words line form name ws)
  bracketed line Fixed name ws Behind h b = (refl, (named name h, (refl, (refl, b))))
  bracketed line Required name ws Behind h b = (refl, (named name h, (refl, (refl, b))))
  bracketed line Optional name ws Behind h b = (refl, (named name h, (refl, (refl, b))))

  number_may : (line : ℕ) (n : Option ℕ) (ws : List Word) (Behind : List Word → Type 0) → Behind ws
      → Spells (spelling.number_may (written_option line n)) Behind (option_words line n ws)
  number_may line None ws Behind b = b
  number_may line (Some n) ws Behind b = (refl, (refl, b))

  entries : (line : ℕ) (before rule : List Entry) (ws : List Word) (Behind : List Word → Type 0)
      → each_after is_sound_entry before rule ≡ true → Behind ws
      → Spells (spelling.entries (written_rule line rule)) Behind (rule_words line rule ws)
  entries line before [] ws Behind h b = b
  entries line before (e ∷ rule) ws Behind h b =
      let (first, rest) = and_parts (is_sound_entry before e) (each_after is_sound_entry (before ++ e ∷ []) rule) h in
      let Rest = Spells (spelling.entries (written_rule line rule)) Behind in (
        refl,
        (
          refl,
          (
            refl,
            number_may line e.max _ (Spells (spelling.bracketed e.form (word_of line e.name)) Rest)
                (bracketed line e.form e.name _ Rest (entry_parts before e first).name
                (entries line (before ++ e ∷ []) rule ws Behind rest b)),
          ),
        ),
      )

  value_more : (line : ℕ) (before values : List EnumValue) (ws : List Word) (Behind : List Word → Type 0)
      → each_after is_sound_value before values ≡ true → Behind ws
      → Spells (spelling.more_values (written_list line values)) Behind (more_words line values ws)
  value_more line before [] ws Behind h b = b
  value_more line before (v ∷ values) ws Behind h b =
      let (first, rest) = and_parts (is_sound_value before v) (each_after is_sound_value (before ++ v ∷ []) values) h in (
        refl,
        (
          named v.name (value_sound_parts before v first).name,
          (refl, (refl, (refl, value_more line (before ++ v ∷ []) values ws Behind rest b))),
        ),
      )

  vend_may : (v : Version) (line : ℕ) (n : Option ℕ) (ws : List Word) (Behind : List Word → Type 0) → Behind ws
      → Spells (spelling.reference_may v (written_vend line n)) Behind (option_words line n ws)
  vend_may v line None ws Behind b = b
  vend_may v line (Some n) ws Behind b = (refl, (refl, b))

  group_vendor : (v : Version) (line : ℕ) (n : Option ℕ) (ws : List Word) (Behind : List Word → Type 0) → Behind ws
      → Spells (spelling.group_vendor v (written_vend line n)) Behind (option_words line n ws)
  group_vendor v line None ws Behind b = b
  group_vendor v line (Some n) ws Behind b = inr (refl, (refl, b))

  -- the type of an AVP, its vendor and its list
  type_of : (v : Version) (line : ℕ) (name : List ℕ) (code : ℕ) (kind : AvpType) (vendor : Option ℕ)
      (values : List EnumValue) (ws : List Word)
      (Behind : List Word → Type 0) → is_sound_list values ≡ true → (is_enumerated kind || is_empty_list values) ≡ true
      → may_list v values ≡ true → Behind ws
      → Spells (spelling.type_is v
      (record {
        name = word_of line name;
        code = number_word line code;
        kind = word_of line (type_name kind);
        vendor = written_vend line vendor;
        values = written_list line values;
      })) Behind
      (word_of line (type_name kind) ∷ option_words line vendor (list_words line values ws))
  type_of v line name code kind vendor [] ws Behind sound listing may b =
      (type_symbol kind, (refl, vend_may v line vendor ws Behind b))
  type_of First line name code kind vendor (x ∷ values) ws Behind sound listing may b = absurd cc
  type_of Second line name code kind vendor (x ∷ values) ws Behind sound listing may b =
      let (first, rest) = and_parts (is_sound_value [] x) (each_after is_sound_value (x ∷ []) values) sound in
      let more = spelling.more_values (written_list line values) then Literal symbols.CloseBrace in (
        enumerated_symbol kind (is_listing (is_enumerated kind) listing),
        (
          refl,
          vend_may Second line vendor _
              (Spells (spelling.list (written_value line x) (written_list line values)) Behind) (
                refl,
                (
                  named x.name (value_sound_parts [] x first).name,
                  (
                    refl,
                    (
                      refl,
                      (
                        refl,
                        value_more line (x ∷ []) values _ (Spells (Literal symbols.CloseBrace) Behind) rest (refl, b),
                      ),
                    ),
                  ),
                ),
              ),
        ),
      )

  plain : (v : Version) (line : ℕ) (a : AvpDef) (ws : List Word) (Behind : List Word → Type 0)
      → is_proper_name a.name ≡ true → is_sound_list a.values ≡ true
      → (is_enumerated a.kind || is_empty_list a.values) ≡ true → may_list v a.values ≡ true → Behind ws
      → Spells (spelling.item v (written_plain line a)) Behind (plain_words line a ws)
  plain v line a ws Behind h sound listing may b = (
    refl,
    (
      named a.name h,
      (refl, (refl, (refl, type_of v line a.name a.code a.kind a.vendor a.values ws Behind sound listing may b))),
    ),
  )

  group : (v : Version) (line : ℕ) (a : AvpDef) (ws : List Word) (Behind : List Word → Type 0)
      → is_proper_name a.name ≡ true → is_sound_rule a.rule ≡ true → Behind ws
      → Spells (spelling.item v (written_group line a)) Behind (group_words line a ws)
  group v line a ws Behind h sound b =
      inl (
        refl,
        (
          named a.name h,
          (
            refl,
            (
              refl,
              (
                refl,
                (
                  refl,
                  inl (
                    refl,
                    (
                      refl,
                      (
                        refl,
                        (
                          refl,
                          (
                            refl,
                            group_vendor v line a.vendor _
                                (Spells (Literal symbols.Greater then spelling.entries (written_rule line a.rule)) Behind)
                                (refl, entries line [] a.rule ws Behind sound b),
                          ),
                        ),
                      ),
                    ),
                  ),
                ),
              ),
            ),
          ),
        ),
      )

  flag_req : (line : ℕ) (flag : Bool) (ws : List Word) (Behind : List Word → Type 0) → Behind ws
      → Spells (spelling.flag symbols.Req flag) Behind (flag_words line flag symbols.Req (codes "REQ") ws)
  flag_req line true ws Behind b = (refl, (refl, b))
  flag_req line false ws Behind b = b

  flag_pxy : (line : ℕ) (flag : Bool) (ws : List Word) (Behind : List Word → Type 0) → Behind ws
      → Spells (spelling.flag symbols.Pxy flag) Behind (flag_words line flag symbols.Pxy (codes "PXY") ws)
  flag_pxy line true ws Behind b = (refl, (refl, b))
  flag_pxy line false ws Behind b = b

  flag_err : (line : ℕ) (flag : Bool) (ws : List Word) (Behind : List Word → Type 0) → Behind ws
      → Spells (spelling.flag symbols.Err flag) Behind (flag_words line flag symbols.Err (codes "ERR") ws)
  flag_err line true ws Behind b = (refl, (refl, b))
  flag_err line false ws Behind b = b

  command : (v : Version) (line : ℕ) (c : CommandDef) (ws : List Word) (Behind : List Word → Type 0)
      → is_proper_name c.name ≡ true → is_sound_rule c.rule ≡ true → Behind ws
      → Spells (spelling.item v (written_command line c)) Behind (command_words line c ws)
  command v line c ws Behind h sound b =
      let End = Spells (Literal symbols.Greater then spelling.entries (written_rule line c.rule)) Behind in
      let Second = Spells (spelling.second (Some (number_word line c.application))) End in
      let Error = Spells (spelling.flag symbols.Err c.err) Second in
      let Proxy = Spells (spelling.flag symbols.Pxy c.proxiable) Error in
      inl (
        refl,
        (
          named c.name h,
          (
            refl,
            (
              refl,
              (
                refl,
                (
                  refl,
                  inl (
                    refl,
                    (
                      refl,
                      (
                        refl,
                        (
                          refl,
                          (
                            refl,
                            flag_req line c.request _ Proxy
                                (flag_pxy line c.proxiable _ Error
                                (flag_err line c.err _ Second
                                (inr (refl, (refl, (refl, entries line [] c.rule ws Behind sound b)))))),
                          ),
                        ),
                      ),
                    ),
                  ),
                ),
              ),
            ),
          ),
        ),
      )

  avp : (v : Version) (line : ℕ) (before : List AvpDef) (a : AvpDef) (ws : List Word) (Behind : List Word → Type 0)
      → is_sound_avp before a ≡ true → may_list v a.values ≡ true → Behind ws
      → Spells (spelling.item v (written_avp line a)) Behind (avp_words line a ws)
  avp v line before a ws Behind h may b =
      let p = avp_sound_parts before a h in
      by (is_grouped a.kind) (group v line a ws Behind p.name p.rule b)
      (plain v line a ws Behind p.name p.list p.listing may b)
    where
      by : (g : Bool) → Spells (spelling.item v (written_group line a)) Behind (group_words line a ws)
          → Spells (spelling.item v (written_plain line a)) Behind (plain_words line a ws)
          → Spells (spelling.item v (if g then written_group line a else written_plain line a)) Behind
          (if g then group_words line a ws else plain_words line a ws)
      by true e f = e
      by false e f = f

  commands : (v : Version) (line : ℕ) (before cs : List CommandDef) → each_after is_sound_command before cs ≡ true
      → Spells (spelling.items v (written_commands cs line)) Ends (commands_words cs line)
  commands v line before [] h = refl
  commands v line before (c ∷ cs) h =
      let (first, rest) = and_parts (is_sound_command before c) (each_after is_sound_command (before ++ c ∷ []) cs) h in
      let p = command_sound_parts before c first in
      command v line c (commands_words cs (line + 1)) (Spells (spelling.items v (written_commands cs (line + 1))) Ends)
      p.name p.rule (commands v (line + 1) (before ++ c ∷ []) cs rest)

  avps : (v : Version) (line : ℕ) (before ds : List AvpDef) (cs : List CommandDef)
      → each_after is_sound_avp before ds ≡ true → list_all (λ a. may_list v a.values) ds ≡ true
      → each_after is_sound_command [] cs ≡ true
      → Spells (spelling.items v (written_avps line ds (written_commands cs))) Ends
      (avps_words line ds (commands_words cs))
  avps v line before [] cs h may k = commands v line [] cs k
  avps v line before (a ∷ ds) cs h may k =
      let (first, rest) = and_parts (is_sound_avp before a) (each_after is_sound_avp (before ++ a ∷ []) ds) h in
      let (one, others) = and_parts (may_list v a.values) (list_all (λ x. may_list v x.values) ds) may in
      avp v line before a _ (Spells (spelling.items v (written_avps (line + 1) ds (written_commands cs))) Ends) first
      one
      (avps v (line + 1) (before ++ a ∷ []) ds cs rest others k)

  vendors : (line : ℕ) (before vs : List VendorDef) (ds : List AvpDef) (cs : List CommandDef)
      → each_after is_sound_vendor before vs ≡ true → each_after is_sound_avp [] ds ≡ true
      → list_all (λ a. may_list Second a.values) ds ≡ true → each_after is_sound_command [] cs ≡ true
      → Spells (spelling.items Second (written_vendors line vs (λ n. written_avps n ds (written_commands cs)))) Ends
      (vendors_words line vs (λ n. avps_words n ds (commands_words cs)))
  vendors line before [] ds cs g h may k = avps Second line [] ds cs h may k
  vendors line before (v ∷ vs) ds cs g h may k =
      let (first, rest) = and_parts (is_sound_vendor before v) (each_after is_sound_vendor (before ++ v ∷ []) vs) g in (
        refl,
        (
          refl,
          (
            named v.name (vendor_sound_parts before v first).name,
            (
              refl,
              (
                refl,
                (
                  refl,
                  vendors (line + 1) (before ++ v ∷ []) vs ds cs rest h may k,
                ),
              ),
            ),
          ),
        ),
      )

  all_may : (ds : List AvpDef) → list_all (λ a. may_list Second a.values) ds ≡ true
  all_may [] = refl
  all_may (a ∷ ds) = all_may ds

  no_vendors : (vs : List VendorDef) → has_nothing vs ≡ true → vs ≡ []
  no_vendors [] h = refl
  no_vendors (v ∷ vs) h = absurd cc

  -- the printed words are the items
  pub are_items : (d : Definitions) → each_after is_sound_vendor [] d.vendors ≡ true
      → each_after is_sound_avp [] d.avps ≡ true → each_after is_sound_command [] d.commands ≡ true
      → AreItems (written_all d (first_line (is_first_version d))) (version_words (is_first_version d) (all_words d))
  are_items d g h k = by (is_first_version d) refl
    where
      by : (b : Bool) → is_first_version d ≡ b → AreItems (written_all d (first_line b)) (version_words b (all_words d))
      by true e =
          let (none, may) = and_parts (has_nothing d.vendors) (list_all (λ a. has_nothing a.values) d.avps) e in
          let same : d.vendors ≡ [] = no_vendors d.vendors none in
          inl (rw same (avps First 1 [] d.avps d.commands h may k))
      by false e = inr (refl, (refl, (refl, vendors 2 [] d.vendors d.avps d.commands g h (all_may d.avps) k)))
