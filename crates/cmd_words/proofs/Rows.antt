-- What one more use of an option or a positional word makes of the rows.
use Rattle.std.proofs.Common.{◌≡◌, Bool, true, false, cond, not, ◌&&◌, ◌||◌, ◌==◌, nat_lt, List, [], ◌∷◌, ◌++◌, find, length, Some, None, refl, sym, ap, ap₂, ◌∙◌, true≢false, arith, lt-ltb, ne_eqb}
use Rattle.std.specs.Prelude.{codes, bytes_eq, option_map, unwrap_or}
use Rattle.std.specs.Cmp.Lexicographic.{nat_list_eq_equiv}
use Rattle.clap.specs.Faults.{use_fault}
use Rattle.clap.specs.Kinds.{Kinds, or_else}
use Rattle.clap.specs.Values.{refused_kind}
use Rattle.clap.specs.declared.error.kind.ErrorKind.TheVariants.{ArgumentConflict}
use Rattle.clap.specs.declared.builder.value_parser.ValueParser.TheVariants.{NonEmptyString}
use Rattle.clap.specs.Walk.{Row, Text, at_row, has_row, more_values, reading_by, stronger, used}
use Rattle.clap.specs.declared.parser.matches.ValueSource.TheVariants.{CommandLine}
use Rattle.cmd_words.specs.declared.option_list.OptionPair.{OptionPair}
use Rattle.cmd_words.specs.Options.{has_option}
use Rattle.cmd_words.specs.Parsed.{option_in, options_in, parts_in, places_in}
use Rattle.cmd_words.proofs.Rules.{built_option, built_place, same_text}

abbrev pub is_nil : Kinds → Bool
is_nil [] = true
is_nil (k ∷ ks) = false

-- ---- faults of one use

value_there : (value : Text) → nat_lt 0 (length value) ≡ not (length value == 0)
value_there [] = refl
value_there (byte ∷ value) = lt-ltb 0 (length (byte ∷ value)) (omega arith) ∙ sym (ap not (ne_eqb (length (byte ∷ value)) 0 (λ e. absurd (omega arith))))

-- an option may be used where it wasn't before, with a value that isn't empty
pub option_use : (name value : Text) (rows : List Row) → is_nil (use_fault false (built_option name) (value ∷ []) rows) ≡ (not (has_row name rows) && not (length value == 0))
option_use name value rows = go (has_row name rows) (nat_lt 0 (length value)) (not (length value == 0)) (value_there value)
  where
    go : (had there full : Bool) → there ≡ full → is_nil (or_else (cond (had && true) (ArgumentConflict ∷ []) []) (or_else (cond there [] (refused_kind NonEmptyString ∷ [])) [])) ≡ (not had && full)
    go true there full e = refl
    go false true full e = e
    go false false full e = e

-- a positional word always
pub place_use : (word : Text) (rows : List Row) → is_nil (use_fault false built_place (word ∷ []) rows) ≡ true
place_use word rows = refl

-- an option without a value never
pub no_value_use : (name : Text) (rows : List Row) → is_nil (use_fault false (built_option name) [] rows) ≡ false
no_value_use name rows = refl

-- ---- rows

pub at_row_missing : (id : Text) (change : Row → List Row) (missing rows : List Row) → has_row id rows ≡ false → at_row id change missing rows ≡ rows ++ missing
at_row_missing id change missing [] none = refl
at_row_missing id change missing (row ∷ rows) none = go (bytes_eq row.id id) none (at_row_missing id change missing rows)
  where
    go : (b : Bool) → (b || has_row id rows) ≡ false → (has_row id rows ≡ false → at_row id change missing rows ≡ rows ++ missing) → cond b (change row ++ rows) (row ∷ at_row id change missing rows) ≡ row ∷ (rows ++ missing)
    go true none rest = absurd (true≢false none)
    go false none rest = ap (λ rs. row ∷ rs) (rest none)

-- the row of an option that is new
abbrev pub new_row : Text → Text → Row
new_row name value = record { id = name; values = value ∷ []; count = None; source = Some CommandLine; reading = reading_by (built_option name) }

append_none : {A : Type 0} (xs : List A) → xs ++ [] ≡ xs
append_none [] = refl
append_none (x ∷ xs) = ap (λ ys. x ∷ ys) (append_none xs)

pub used_option : (name value : Text) (rows : List Row) → has_row name rows ≡ false → used (built_option name) (value ∷ []) rows ≡ rows ++ new_row name value ∷ []
used_option name value rows none =
    let gone = at_row_missing name (λ _. []) [] rows none ∙ append_none rows in
    ap (at_row name (more_values CommandLine (value ∷ [])) (new_row name value ∷ [])) gone
    ∙ at_row_missing name (more_values CommandLine (value ∷ [])) (new_row name value ∷ []) rows none

-- ---- what they say

-- an option is there where its row is
pub has_row_is : (name : Text) (rows : List Row) → bytes_eq (codes "places") name ≡ false → has_row name rows ≡ has_option (options_in rows) name
has_row_is name [] apart = refl
has_row_is name (row ∷ rows) apart = go (bytes_eq (codes "places") row.id) refl (has_row_is name rows apart)
  where
    other : (b : Bool) → bytes_eq row.id name ≡ b → bytes_eq (codes "places") row.id ≡ true → b ≡ false
    other false e is = refl
    other true e is = sym is ∙ ap (bytes_eq (codes "places")) (same_text row.id name e) ∙ apart

    go : (b : Bool) → bytes_eq (codes "places") row.id ≡ b → has_row name rows ≡ has_option (options_in rows) name
        → (bytes_eq row.id name || has_row name rows) ≡ has_option (cond b (options_in rows) (option_in row ∷ options_in rows)) name
    go true e rest = ap (λ b. b || has_row name rows) (other (bytes_eq row.id name) refl e) ∙ rest
    go false e rest = ap (λ b. bytes_eq row.id name || b) rest

option_pushed : (name value : Text) (rows : List Row) → bytes_eq (codes "places") name ≡ false → options_in (rows ++ new_row name value ∷ []) ≡ options_in rows ++ record { name = name; value = value } ∷ []
option_pushed name value [] apart = ap (λ b. cond b [] (record { name = name; value = value } ∷ [])) apart
option_pushed name value (row ∷ rows) apart = go (bytes_eq (codes "places") row.id) (option_pushed name value rows apart)
  where
    go : (b : Bool) → options_in (rows ++ new_row name value ∷ []) ≡ options_in rows ++ record { name = name; value = value } ∷ []
        → cond b (options_in (rows ++ new_row name value ∷ [])) (option_in row ∷ options_in (rows ++ new_row name value ∷ [])) ≡ cond b (options_in rows) (option_in row ∷ options_in rows) ++ record { name = name; value = value } ∷ []
    go true rest = rest
    go false rest = ap (λ options. option_in row ∷ options) rest

places_kept : (name value : Text) (rows : List Row) → bytes_eq name (codes "places") ≡ false → places_in (rows ++ new_row name value ∷ []) ≡ places_in rows
places_kept name value [] apart = ap (λ b. unwrap_or (option_map (λ (r : Row). r.values) (cond b (Some (new_row name value)) None)) []) apart
places_kept name value (row ∷ rows) apart = go (bytes_eq row.id (codes "places")) (places_kept name value rows apart)
  where
    go : (b : Bool) → places_in (rows ++ new_row name value ∷ []) ≡ places_in rows
        → unwrap_or (option_map (λ (r : Row). r.values) (cond b (Some row) (find (λ r. bytes_eq r.id (codes "places")) (rows ++ new_row name value ∷ [])))) [] ≡ unwrap_or (option_map (λ (r : Row). r.values) (cond b (Some row) (find (λ r. bytes_eq r.id (codes "places")) rows))) []
    go true rest = refl
    go false rest = rest

-- an option more
pub option_added : (name value : Text) (rows : List Row) → bytes_eq (codes "places") name ≡ false → has_row name rows ≡ false
    → parts_in (used (built_option name) (value ∷ []) rows) ≡ record { options = options_in rows ++ record { name = name; value = value } ∷ []; places = places_in rows }
option_added name value rows apart none =
    ap parts_in (used_option name value rows none)
    ∙ ap₂ (λ (options : List OptionPair) (places : List Text). record { options = options; places = places }) (option_pushed name value rows apart) (places_kept name value rows (nat_list_eq_equiv.symm name (codes "places") ∙ apart))

place_pushed : (word : Text) (rows : List Row) → (options_in (used built_place (word ∷ []) rows) ≡ options_in rows) × (places_in (used built_place (word ∷ []) rows) ≡ places_in rows ++ word ∷ [])
place_pushed word [] = (refl, refl)
place_pushed word (row ∷ rows) = go (bytes_eq row.id (codes "places")) (nat_list_eq_equiv.symm (codes "places") row.id) (place_pushed word rows)
  where
    go : (b : Bool) → bytes_eq (codes "places") row.id ≡ b → (options_in (used built_place (word ∷ []) rows) ≡ options_in rows) × (places_in (used built_place (word ∷ []) rows) ≡ places_in rows ++ word ∷ [])
        → (options_in (cond b (more_values CommandLine (word ∷ []) row ++ rows) (row ∷ used built_place (word ∷ []) rows)) ≡ options_in (row ∷ rows))
        × (unwrap_or (option_map (λ (r : Row). r.values) (find (λ r. bytes_eq r.id (codes "places")) (cond b (more_values CommandLine (word ∷ []) row ++ rows) (row ∷ used built_place (word ∷ []) rows)))) [] ≡ unwrap_or (option_map (λ (r : Row). r.values) (cond b (Some row) (find (λ r. bytes_eq r.id (codes "places")) rows))) [] ++ word ∷ [])
    go true e rest = (
      ap (λ c. cond c (options_in rows) (option_in (record row { values = row.values ++ word ∷ []; source = Some (stronger row.source CommandLine) }) ∷ options_in rows)) e ∙ sym (ap (λ c. cond c (options_in rows) (option_in row ∷ options_in rows)) e),
      ap (λ c. unwrap_or (option_map (λ (r : Row). r.values) (cond c (Some (record row { values = row.values ++ word ∷ []; source = Some (stronger row.source CommandLine) })) (find (λ r. bytes_eq r.id (codes "places")) rows))) []) (nat_list_eq_equiv.symm row.id (codes "places") ∙ e),
    )
    go false e rest = (
      ap (λ c. cond c (options_in (used built_place (word ∷ []) rows)) (option_in row ∷ options_in (used built_place (word ∷ []) rows))) e ∙ ap (λ options. option_in row ∷ options) rest.0 ∙ sym (ap (λ c. cond c (options_in rows) (option_in row ∷ options_in rows)) e),
      ap (λ c. unwrap_or (option_map (λ (r : Row). r.values) (cond c (Some row) (find (λ r. bytes_eq r.id (codes "places")) (used built_place (word ∷ []) rows)))) []) (nat_list_eq_equiv.symm row.id (codes "places") ∙ e) ∙ rest.1,
    )

-- a positional word more
pub place_added : (word : Text) (rows : List Row) → parts_in (used built_place (word ∷ []) rows) ≡ record { options = options_in rows; places = places_in rows ++ word ∷ [] }
place_added word rows = let e = place_pushed word rows in ap₂ (λ (options : List OptionPair) (places : List Text). record { options = options; places = places }) e.0 e.1
