-- The options by their names are those of the rows, where no name stands twice.
use Rattle.std.proofs.Common.{◌≡◌, Bool, true, false, cond, ◌||◌, List, [], ◌∷◌, ◌++◌, map, Some, refl, sym, ap, ap₂, ◌∙◌, true≢false}
use Rattle.std.specs.Prelude.{codes, bytes_eq, find, option_and_then, slice_get, unwrap_or}
use Rattle.std.proofs.lemmas.Bool.{and_parts, not-true}
use Rattle.std.proofs.lemmas.Slice.Eq.{bytes_eq-Decides}
use Rattle.clap.specs.Walk.{Row, Text, first_of}
use Rattle.cmd_words.specs.declared.option_list.OptionPair.{OptionPair}
use Rattle.cmd_words.specs.Options.{has_no_repeat, has_option}
use Rattle.cmd_words.specs.Parsed.{option_in, options_in, options_named}
use Rattle.cmd_words.proofs.Rules.{same_text}

abbrev ids : List Row → List Text
ids rows = map (λ r. r.id) rows

abbrev here : List Row → Text → Bool → List OptionPair
here rows name is = cond is [] (record { name = name; value = unwrap_or (first_of name rows) [] } ∷ [])

other_id : (row : Row) (id : Text) (b : Bool) → bytes_eq row.id id ≡ b → bytes_eq (codes "places") row.id ≡ true → bytes_eq (codes "places") id ≡ false → b ≡ false
other_id row id false e is not_it = refl
other_id row id true e is not_it = sym is ∙ ap (bytes_eq (codes "places")) (same_text row.id id e) ∙ not_it

-- a row in front changes nothing where it isn't found
passed : (row : Row) (rows : List Row) (id : Text) (is : Bool) → (is ≡ false → bytes_eq row.id id ≡ false) → here (row ∷ rows) id is ≡ here rows id is
passed row rows id true apart = refl
passed row rows id false apart = ap (λ (b : Bool). record { name = id; value = unwrap_or (option_and_then (λ r. slice_get r.values 0) (cond b (Some row) (find (λ r. bytes_eq r.id id) rows))) [] } ∷ []) (apart refl)

behind : (row : Row) (rows tail : List Row) → ((id : Text) → bytes_eq (codes "places") id ≡ false → has_option (options_in tail) id ≡ true → bytes_eq row.id id ≡ false) → options_named (row ∷ rows) (ids tail) ≡ options_named rows (ids tail)
behind row rows [] apart = refl
behind row rows (r ∷ tail) apart = ap₂ (λ (xs ys : List OptionPair). xs ++ ys)
    (passed row rows r.id (bytes_eq (codes "places") r.id) (λ e. apart r.id e (mine (bytes_eq (codes "places") r.id) e)))
    (behind row rows tail (λ id e among. apart id e (later (bytes_eq (codes "places") r.id) id among)))
  where
    mine : (b : Bool) → b ≡ false → has_option (cond b (options_in tail) (option_in r ∷ options_in tail)) r.id ≡ true
    mine true e = absurd (true≢false e)
    mine false e = ap (λ (b : Bool). b || has_option (options_in tail) r.id) ((bytes_eq-Decides r.id r.id).1 refl)

    or_so : (b : Bool) → (b || true) ≡ true
    or_so true = refl
    or_so false = refl

    later : (b : Bool) (id : Text) → has_option (options_in tail) id ≡ true → has_option (cond b (options_in tail) (option_in r ∷ options_in tail)) id ≡ true
    later true id among = among
    later false id among = ap (λ (b : Bool). bytes_eq r.id id || b) among ∙ or_so (bytes_eq r.id id)

unlike : (options : List OptionPair) (name id : Text) (b : Bool) → bytes_eq name id ≡ b → has_option options name ≡ false → has_option options id ≡ true → b ≡ false
unlike options name id false e none among = refl
unlike options name id true e none among = sym among ∙ ap (has_option options) (sym (same_text name id e)) ∙ none

pub named_is : (rows : List Row) → has_no_repeat (options_in rows) ≡ true → options_named rows (ids rows) ≡ options_in rows
named_is [] once = refl
named_is (row ∷ rows) once = go (bytes_eq (codes "places") row.id) refl once (named_is rows)
  where
    found : unwrap_or (first_of row.id (row ∷ rows)) [] ≡ unwrap_or (slice_get row.values 0) []
    found = ap (λ (b : Bool). unwrap_or (option_and_then (λ r. slice_get r.values 0) (cond b (Some row) (find (λ r. bytes_eq r.id row.id) rows))) []) ((bytes_eq-Decides row.id row.id).1 refl)

    go : (b : Bool) → bytes_eq (codes "places") row.id ≡ b → has_no_repeat (cond b (options_in rows) (option_in row ∷ options_in rows)) ≡ true
        → (has_no_repeat (options_in rows) ≡ true → options_named rows (ids rows) ≡ options_in rows)
        → here (row ∷ rows) row.id b ++ options_named (row ∷ rows) (ids rows) ≡ cond b (options_in rows) (option_in row ∷ options_in rows)
    go true e once rest = behind row rows rows (λ id not_it among. other_id row id (bytes_eq row.id id) refl e not_it) ∙ rest once
    go false e once rest =
        let parts = and_parts _ _ once in
        ap₂ (λ (v : Text) (options : List OptionPair). record { name = row.id; value = v } ∷ options) found
        (behind row rows rows (λ id not_it among. unlike (options_in rows) row.id id (bytes_eq row.id id) refl (not-true _ parts.0) among) ∙ rest parts.1)
