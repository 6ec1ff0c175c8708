-- What clap answers of words without a stray one: the parts that it takes.
use Rattle.std.proofs.Common.{◌≡◌, Bool, true, false, cond, List, [], ◌∷◌, ◌++◌, map, Option, Some, None, refl, sym, ap, ap₂, ◌∙◌, Bor}
use Rattle.std.specs.Prelude.{codes, bytes_eq, option_and_then, option_map, slice_get, unwrap_or}
use Rattle.std.specs.Cmp.Lexicographic.{nat_list_eq_equiv}
use Rattle.std.proofs.lemmas.Bool.{and_parts}
use Rattle.clap.specs.Faults.{fault_of}
use Rattle.clap.specs.Kinds.{Kinds}
use Rattle.clap.specs.Simple.{matches_of}
use Rattle.clap.specs.Walk.{Row, Text, first_of, row_of}
use Rattle.clap.specs.Facts.{Entry}
use Rattle.cmd_words.specs.Parsed.{has_stray, is_taken, option_names, options_named, parts_in, taken_parts, words_app}
use Rattle.cmd_words.specs.Reading.{Parts, parts_of}
use Rattle.cmd_words.specs.Options.{has_no_repeat}
use Rattle.cmd_words.proofs.Faults.{parsed_is, rules}
use Rattle.cmd_words.proofs.Rows.{is_nil}
use Rattle.cmd_words.proofs.Rules.{is_among, known_rules}
use Rattle.cmd_words.proofs.Taken.{stray_none, taken_is}
use Rattle.cmd_words.proofs.Walks.{both_read, said}

walked_is : (words : List Text) → has_stray words ≡ false → said (cond (is_nil (fault_of words_app words)) (Some (matches_of words_app words)) None) ≡ taken_parts words
walked_is words lone = ap said (sym (parsed_is words)) ∙ (both_read rules (is_among option_names) known_rules words).0 [] None false lone ∙ taken_is words

pub taken_rows : (words : List Text) (rows : List Row) → has_stray words ≡ false → fault_of words_app words ≡ [] → rows ≡ matches_of words_app words → taken_parts words ≡ Some (parts_in rows)
taken_rows words rows lone none is = sym (walked_is words lone) ∙ ap₂ (λ (k : Kinds) (r : List Row). said (cond (is_nil k) (Some r) None)) none (sym is)

has_kind : (kinds : Kinds) → (kinds ≡ [] → ⊥) → is_nil kinds ≡ false
has_kind [] some = absurd (some refl)
has_kind (k ∷ kinds) some = refl

pub taken_none : (words : List Text) → has_stray words ≡ false → (fault_of words_app words ≡ [] → ⊥) → taken_parts words ≡ None
taken_none words lone some = sym (walked_is words lone) ∙ ap (λ (b : Bool). said (cond b (Some (matches_of words_app words)) None)) (has_kind (fault_of words_app words) some)

-- words with a stray one aren't taken
pub stray_taken : (words : List Text) → has_stray words ≡ true → taken_parts words ≡ None
stray_taken words strays = ap (option_and_then (λ (parts : Parts). cond (is_taken parts.options) (Some parts) None)) (stray_none words strays None)

-- what is taken is taken whole
pub taken_once : (words : List Text) (parts : Parts) → taken_parts words ≡ Some parts → (parts_of None words ≡ Some parts) × (is_taken parts.options ≡ true)
taken_once words parts = go (parts_of None words)
  where
    by_test : (found : Parts) (b : Bool) → is_taken found.options ≡ b → cond b (Some found) None ≡ Some parts → (Some found ≡ Some parts) × (is_taken parts.options ≡ true)
    by_test found true e same = let is : found ≡ parts = cc in (same, sym (ap (λ (p : Parts). is_taken p.options) is) ∙ e)
    by_test found false e same = cc

    go : (o : Option Parts) → option_and_then (λ (p : Parts). cond (is_taken p.options) (Some p) None) o ≡ Some parts → (o ≡ Some parts) × (is_taken parts.options ≡ true)
    go None same = cc
    go (Some found) same = by_test found (is_taken found.options) refl same

pub no_repeat_taken : (words : List Text) (parts : Parts) → taken_parts words ≡ Some parts → has_no_repeat parts.options ≡ true
no_repeat_taken words parts e = (and_parts _ _ (taken_once words parts e).1).1

-- ---- what the matches give

pub option_made : (rows : List Row) (name value : Text) → bytes_eq name (codes "places") ≡ false → value ≡ unwrap_or (first_of name rows) [] → record { name = name; value = value } ∷ [] ≡ options_named rows (name ∷ [])
option_made rows name value apart e =
    ap (λ (v : Text). record { name = name; value = v } ∷ []) e
    ∙ ap (λ (b : Bool). cond b [] (record { name = name; value = unwrap_or (first_of name rows) [] } ∷ []) ++ []) (sym (nat_list_eq_equiv.symm (codes "places") name ∙ apart))

pub text_or : (o : Option (Bor Text)) (d : Bor Text) → (unwrap_or o d).now ≡ unwrap_or (option_map (λ s. s.now) o) d.now
text_or None d = refl
text_or (Some text) d = refl

pub ids_are : (entries : List Entry) → map (λ e. e.0.now) entries ≡ map (λ r. r.id) (map row_of entries)
ids_are [] = refl
ids_are (e ∷ entries) = ap (λ names. e.0.now ∷ names) (ids_are entries)

pub nothing_left : (names : List Text) → None ≡ slice_get names 0 → names ≡ []
nothing_left [] e = refl
nothing_left (name ∷ names) e = cc
