-- Clap's walk over the words is the reading: it ends without a fault where they have parts that clap takes, and then in rows that say these parts.
use Rattle.std.proofs.Common.{◌≡◌, Bool, true, false, cond, not, ◌&&◌, ◌==◌, List, [], ◌∷◌, ◌++◌, length, Option, Some, None, refl, sym, ap, ap₂, ◌∙◌, true≢false}
use Rattle.std.specs.Prelude.{codes, bytes_eq, option_map}
use Rattle.clap.specs.Faults.{settle_fault, turn_fault, use_fault}
use Rattle.clap.specs.Kinds.{Kinds, or_else}
use Rattle.clap.specs.Walk.{Row, Rule, Text, Waiting, Walk, has_row, idle, option, positional, settled, settled_rows, used, walked}
use Rattle.cmd_words.specs.Options.{has_option}
use Rattle.cmd_words.specs.Parsed.{has_stray, options_in, parts_in, places_in, stray_at}
use Rattle.cmd_words.specs.Reading.{Parts, Shape, ends_options, whole_option, option_name, stray, place, shape_of, begins_with_dash, parts_at, parts_of, with_option, with_place}
use Rattle.cmd_words.proofs.Joins.{after, after_nothing, after_option, after_place, cond_same, is_new, pair}
use Rattle.cmd_words.proofs.Looks.{LooksAs, at_end, at_name, at_place, at_stray, at_whole, look}
use Rattle.cmd_words.proofs.Rows.{has_row_is, is_nil, no_value_use, option_added, option_use, place_added}
use Rattle.cmd_words.proofs.Rules.{Knows, built_option, shape_with}
use Rattle.cmd_words.proofs.Turns.{Pending, end_turn, end_waiting, held, name_turn, name_unknown, name_waiting, no_subcommand, place_turn, plain, rest_turn, rows_option, rows_place, settle_option, settle_place, state, value_turn, whole_turn, whole_unknown, whole_waiting}

-- the rows after the words, where no turn and not the end has a fault
abbrev pub runs : List Rule → Walk → List Text → Option (List Row)
runs c w [] = cond (is_nil (settle_fault c false w.held)) (Some (settled c w.held).rows) None
runs c w (word ∷ rest) = cond (is_nil (turn_fault (shape_with c) [] w word)) (runs c (walked c [] w word) rest) None

-- what they say
abbrev pub said : Option (List Row) → Option Parts
said = option_map parts_in

turned : (c : List Rule) (w next : Walk) (word : Text) (rest : List Text) (fault : Kinds) → turn_fault (shape_with c) [] w word ≡ fault → walked c [] w word ≡ next → runs c w (word ∷ rest) ≡ cond (is_nil fault) (runs c next rest) None
turned c w next word rest fault e f = ap₂ (λ (k : Kinds) (n : Walk). cond (is_nil k) (runs c n rest) None) e f

stopped : (c : List Rule) (w : Walk) (word : Text) (rest : List Text) (fault : Kinds) → turn_fault (shape_with c) [] w word ≡ fault → is_nil fault ≡ false → runs c w (word ∷ rest) ≡ None
stopped c w word rest fault e f = ap (λ (k : Kinds). cond (is_nil k) (runs c (walked c [] w word) rest) None) e ∙ ap (λ (b : Bool). cond b (runs c (walked c [] w word) rest) None) f

nil_or : (a b : Kinds) → is_nil (or_else a b) ≡ (is_nil a && is_nil b)
nil_or [] b = refl
nil_or (k ∷ ks) b = refl

said_cond : (b : Bool) (o : Option (List Row)) → said (cond b o None) ≡ cond b (said o) None
said_cond true o = refl
said_cond false o = refl

module _ (c : List Rule) (is_name : Text → Bool) (k : Knows c is_name) where
  -- what is pending may be used, and the rows once it is
  abbrev pub may_settle : List Row → Pending → Bool
  may_settle rows p = is_nil (settle_fault c false (held rows p))

  abbrev pub rows_then : List Row → Pending → List Row
  rows_then rows p = settled_rows c p rows

  -- the parts that the rows say, and after them `more`, where what is pending may be used
  abbrev pub goes_on : List Row → Pending → Option Parts → Option Parts
  goes_on rows p more = cond (may_settle rows p) (after is_name (parts_in (rows_then rows p)) more) None

  -- ---- one part more

  places_on : (rows : List Row) (word : Text) (more : Option Parts) → goes_on rows (Some (codes "places", word ∷ [])) more ≡ after is_name (parts_in rows) (option_map (with_place word) more)
  places_on rows word more =
      ap (λ (f : Kinds). cond (is_nil f) (after is_name (parts_in (rows_then rows (Some (codes "places", word ∷ [])))) more) None) (settle_place c is_name k rows word)
      ∙ ap (λ (r : List Row). after is_name (parts_in r) more) (rows_place c is_name k rows word)
      ∙ ap (λ (before : Parts). after is_name before more) (place_added word rows)
      ∙ sym (after_place is_name (parts_in rows) word more)

  option_then : (rows : List Row) (name value : Text) (more : Option Parts) (had : Bool) → has_row name rows ≡ had → bytes_eq (codes "places") name ≡ false
      → cond (not had && not (length value == 0)) (after is_name (parts_in (used (built_option name) (value ∷ []) rows)) more) None
      ≡ cond (not had && not (length value == 0)) (after is_name (record { options = options_in rows ++ pair name value ∷ []; places = places_in rows }) more) None
  option_then rows name value more true e apart = refl
  option_then rows name value more false e apart = ap (λ (before : Parts). cond (not (length value == 0)) (after is_name before more) None) (option_added name value rows apart e)

  option_on : (rows : List Row) (name value : Text) (more : Option Parts) → is_name name ≡ true
      → cond (is_nil (use_fault false (built_option name) (value ∷ []) rows)) (after is_name (parts_in (used (built_option name) (value ∷ []) rows)) more) None ≡ after is_name (parts_in rows) (option_map (with_option name value) more)
  option_on rows name value more among =
      let apart = k.apart name among in
      let new : is_new is_name (options_in rows) name value ≡ (not (has_row name rows) && not (length value == 0)) =
      ap₂ (λ (t had : Bool). t && (not had && not (length value == 0))) among (sym (has_row_is name rows apart)) in
      ap (λ (b : Bool). cond b (after is_name (parts_in (used (built_option name) (value ∷ []) rows)) more) None) (option_use name value rows)
      ∙ option_then rows name value more (has_row name rows) refl apart
      ∙ ap (λ (b : Bool). cond b (after is_name (record { options = options_in rows ++ pair name value ∷ []; places = places_in rows }) more) None) (sym new)
      ∙ sym (after_option is_name (parts_in rows) name value more)

  pending_on : (rows : List Row) (name value : Text) (more : Option Parts) → is_name name ≡ true → goes_on rows (Some (name, value ∷ [])) more ≡ after is_name (parts_in rows) (option_map (with_option name value) more)
  pending_on rows name value more among =
      ap₂ (λ (f : Kinds) (r : List Row). cond (is_nil f) (after is_name (parts_in r) more) None) (settle_option c is_name k rows name (value ∷ []) among) (rows_option c is_name k rows name (value ∷ []) among)
      ∙ option_on rows name value more among

  unknown_on : (before : Parts) (name value : Text) (more : Option Parts) → is_name name ≡ false → after is_name before (option_map (with_option name value) more) ≡ None
  unknown_on before name value more among =
      after_option is_name before name value more
      ∙ ap (λ (t : Bool). cond (t && (not (has_option before.options name) && not (length value == 0))) (after is_name (record { options = before.options ++ pair name value ∷ []; places = before.places }) more) None) among

  -- ---- after `--`

  pub after_dashes : (words : List Text) (rows : List Row) (p : Pending) (w : Waiting) → said (runs c (state rows p w true) words) ≡ goes_on rows p (Some (record { options = []; places = words }))
  after_dashes [] rows p w = said_cond (may_settle rows p) (Some (rows_then rows p)) ∙ ap (λ (o : Option Parts). cond (may_settle rows p) o None) (sym (after_nothing is_name (parts_in (rows_then rows p))))
  after_dashes (word ∷ rest) rows p w =
      let turn = rest_turn c is_name k rows p w word in
      ap said (turned c (state rows p w true) _ word rest _ turn.0 turn.1)
      ∙ said_cond (may_settle rows p) (runs c (state (rows_then rows p) (Some (codes "places", word ∷ [])) positional true) rest)
      ∙ ap (λ (o : Option Parts). cond (may_settle rows p) o None)
      (after_dashes rest (rows_then rows p) (Some (codes "places", word ∷ [])) positional ∙ places_on (rows_then rows p) word (Some (record { options = []; places = rest })))

  -- ---- before it

  -- where no option waits, and where one does
  abbrev pub Reads : List Text → Type 0
  Reads words = (rows : List Row) (p : Pending) (b : Bool) → has_stray words ≡ false → said (runs c (state rows p (plain b) false) words) ≡ goes_on rows p (parts_of None words)

  abbrev pub ReadsValue : List Text → Type 0
  ReadsValue words = (rows : List Row) (name : Text) → is_name name ≡ true → has_stray words ≡ false → said (runs c (state rows (Some (name, [])) (option name) false) words) ≡ after is_name (parts_in rows) (parts_of (Some name) words)

  parts_is : (word : Text) (rest : List Text) (s : Shape) → shape_of word ≡ s → parts_at s word rest (parts_of None rest) (λ name. parts_of (Some name) rest) ≡ parts_of None (word ∷ rest)
  parts_is word rest s e = ap (λ (t : Shape). parts_at t word rest (parts_of None rest) (λ name. parts_of (Some name) rest)) (sym e)

  stray_is : (word : Text) (rest : List Text) (s : Shape) → shape_of word ≡ s → has_stray (word ∷ rest) ≡ false → stray_at s (has_stray rest) ≡ false
  stray_is word rest s e ok = ap (λ (t : Shape). stray_at t (has_stray rest)) (sym e) ∙ ok

  two_nil : (a b : Kinds) → is_nil (or_else (or_else a b) []) ≡ (is_nil a && is_nil b)
  two_nil [] [] = refl
  two_nil [] (x ∷ b) = refl
  two_nil (x ∷ a) b = refl

  one_nil : (a : Kinds) → is_nil (or_else a []) ≡ is_nil a
  one_nil [] = refl
  one_nil (x ∷ a) = refl

  and_cond : {A : Type 0} (a b : Bool) (x y : A) → cond (a && b) x y ≡ cond a (cond b x y) y
  and_cond true b x y = refl
  and_cond false b x y = refl

  no_value : (name : Text) (rest : List Text) (before : Parts) → is_name name ≡ false → after is_name before (parts_of (Some name) rest) ≡ None
  no_value name [] before among = refl
  no_value name (word ∷ rest) before among = by_dash (begins_with_dash word)
    where
      by_dash : (dash : Bool) → after is_name before (cond dash None (option_map (with_option name word) (parts_of None rest))) ≡ None
      by_dash true = refl
      by_dash false = unknown_on before name word (parts_of None rest) among

  whole_step : (word : Text) (rest : List Text) (name value : Text) → LooksAs word false (Some (name, Some value)) (whole_option name value) true → Reads rest
      → (rows : List Row) (p : Pending) (b : Bool) → has_stray rest ≡ false → (among : Bool) → is_name name ≡ among
      → said (runs c (state rows p (plain b) false) (word ∷ rest)) ≡ goes_on rows p (option_map (with_option name value) (parts_of None rest))
  whole_step word rest name value looks reads rows p b ok true among =
      let turn = whole_turn c is_name k rows p b word name value looks among in
      let next : List Row = used (built_option name) (value ∷ []) (rows_then rows p) in
      let uses : Kinds = use_fault false (built_option name) (value ∷ []) (rows_then rows p) in
      ap said (turned c (state rows p (plain b) false) _ word rest _ turn.0 turn.1)
      ∙ said_cond _ (runs c (state next None idle false) rest)
      ∙ ap₂ (λ (t : Bool) (o : Option Parts). cond t o None) (two_nil (settle_fault c false (held rows p)) uses) (reads next None false ok)
      ∙ and_cond (may_settle rows p) (is_nil uses) (after is_name (parts_in next) (parts_of None rest)) None
      ∙ ap (λ (o : Option Parts). cond (may_settle rows p) o None) (option_on (rows_then rows p) name value (parts_of None rest) among)
  whole_step word rest name value looks reads rows p b ok false among =
      ap said (stopped c (state rows p (plain b) false) word rest _ (whole_unknown c is_name k rows p (plain b) word name value (λ v. no_subcommand b v) looks among) refl)
      ∙ sym (ap (λ (o : Option Parts). cond (may_settle rows p) o None) (unknown_on (parts_in (rows_then rows p)) name value (parts_of None rest) among) ∙ cond_same (may_settle rows p) None)

  name_step : (word : Text) (rest : List Text) (name : Text) → LooksAs word false (Some (name, None)) (option_name name) true → ReadsValue rest
      → (rows : List Row) (p : Pending) (b : Bool) → has_stray rest ≡ false → (among : Bool) → is_name name ≡ among
      → said (runs c (state rows p (plain b) false) (word ∷ rest)) ≡ goes_on rows p (parts_of (Some name) rest)
  name_step word rest name looks reads rows p b ok true among =
      let turn = name_turn c is_name k rows p b word name looks among in
      ap said (turned c (state rows p (plain b) false) _ word rest _ turn.0 turn.1)
      ∙ said_cond _ (runs c (state (rows_then rows p) (Some (name, [])) (option name) false) rest)
      ∙ ap₂ (λ (t : Bool) (o : Option Parts). cond t o None) (one_nil (settle_fault c false (held rows p))) (reads (rows_then rows p) name among ok)
  name_step word rest name looks reads rows p b ok false among =
      ap said (stopped c (state rows p (plain b) false) word rest _ (name_unknown c is_name k rows p (plain b) word name (λ v. no_subcommand b v) looks among) refl)
      ∙ sym (ap (λ (o : Option Parts). cond (may_settle rows p) o None) (no_value name rest (parts_in (rows_then rows p)) among) ∙ cond_same (may_settle rows p) None)

  read_step : (word : Text) (rest : List Text) → Reads rest → ReadsValue rest → Reads (word ∷ rest)
  read_step word rest reads values rows p b ok = elim (look word) [
    | at_end looks ↦
        let turn = end_turn c is_name k rows p b word looks in
        ap said (turned c (state rows p (plain b) false) _ word rest _ turn.0 turn.1)
        ∙ after_dashes rest rows p (plain b)
        ∙ ap (goes_on rows p) (parts_is word rest ends_options looks.shape_is)
    | at_whole name value looks ↦
        whole_step word rest name value looks reads rows p b (stray_is word rest (whole_option name value) looks.shape_is ok) (is_name name) refl
        ∙ ap (goes_on rows p) (parts_is word rest (whole_option name value) looks.shape_is)
    | at_name name looks ↦
        name_step word rest name looks values rows p b (stray_is word rest (option_name name) looks.shape_is ok) (is_name name) refl
        ∙ ap (goes_on rows p) (parts_is word rest (option_name name) looks.shape_is)
    | at_stray e dash ↦ absurd (true≢false (stray_is word rest stray e ok))
    | at_place looks short ↦
        let turn = place_turn c is_name k rows p b word looks short in
        ap said (turned c (state rows p (plain b) false) _ word rest _ turn.0 turn.1)
        ∙ said_cond (may_settle rows p) (runs c (state (rows_then rows p) (Some (codes "places", word ∷ [])) positional false) rest)
        ∙ ap (λ (o : Option Parts). cond (may_settle rows p) o None)
        (reads (rows_then rows p) (Some (codes "places", word ∷ [])) true (stray_is word rest place looks.shape_is ok) ∙ places_on (rows_then rows p) word (parts_of None rest))
        ∙ ap (goes_on rows p) (parts_is word rest place looks.shape_is)
  ]

  -- an option that got no value fails where it settles
  none_settles : (rows : List Row) (name : Text) → is_name name ≡ true → may_settle rows (Some (name, [])) ≡ false
  none_settles rows name among = ap is_nil (settle_option c is_name k rows name [] among) ∙ no_value_use name rows

  dash_is : (word : Text) (rest : List Text) (name : Text) (before : Parts) (dash : Bool) → begins_with_dash word ≡ dash → after is_name before (cond dash None (option_map (with_option name word) (parts_of None rest))) ≡ after is_name before (parts_of (Some name) (word ∷ rest))
  dash_is word rest name before dash e = ap (λ (d : Bool). after is_name before (cond d None (option_map (with_option name word) (parts_of None rest)))) (sym e)

  late_end : (word : Text) (rest : List Text) (rows : List Row) (name : Text) → is_name name ≡ true → LooksAs word true None ends_options true
      → said (runs c (state rows (Some (name, [])) (option name) false) (word ∷ rest)) ≡ None
  late_end word rest rows name among looks =
      let dead : said (runs c (state rows (Some (name, [])) (option name) true) rest) ≡ None =
      after_dashes rest rows (Some (name, [])) (option name) ∙ ap (λ (t : Bool). cond t (after is_name (parts_in (rows_then rows (Some (name, [])))) (Some (record { options = []; places = rest }))) None) (none_settles rows name among) in
      ap said (turned c (state rows (Some (name, [])) (option name) false) _ word rest _ refl (end_waiting c is_name k rows name word looks))
      ∙ said_cond _ (runs c (state rows (Some (name, [])) (option name) true) rest)
      ∙ ap (λ (o : Option Parts). cond (is_nil (turn_fault (shape_with c) [] (state rows (Some (name, [])) (option name) false) word)) o None) dead
      ∙ cond_same _ None

  late_whole : (word : Text) (rest : List Text) (rows : List Row) (name other value : Text) → is_name name ≡ true → LooksAs word false (Some (other, Some value)) (whole_option other value) true
      → (known : Bool) → is_name other ≡ known → said (runs c (state rows (Some (name, [])) (option name) false) (word ∷ rest)) ≡ None
  late_whole word rest rows name other value among looks true known =
      let uses : Kinds = use_fault false (built_option other) (value ∷ []) (rows_then rows (Some (name, []))) in
      ap said (stopped c (state rows (Some (name, [])) (option name) false) word rest _ (whole_waiting c is_name k rows name word other value looks known)
      (two_nil (settle_fault c false (held rows (Some (name, [])))) uses ∙ ap (λ (t : Bool). t && is_nil uses) (none_settles rows name among)))
  late_whole word rest rows name other value among looks false known =
      ap said (stopped c (state rows (Some (name, [])) (option name) false) word rest _ (whole_unknown c is_name k rows (Some (name, [])) (option name) word other value (λ v. refl) looks known) refl)

  late_name : (word : Text) (rest : List Text) (rows : List Row) (name other : Text) → is_name name ≡ true → LooksAs word false (Some (other, None)) (option_name other) true
      → (known : Bool) → is_name other ≡ known → said (runs c (state rows (Some (name, [])) (option name) false) (word ∷ rest)) ≡ None
  late_name word rest rows name other among looks true known =
      ap said (stopped c (state rows (Some (name, [])) (option name) false) word rest _ (name_waiting c is_name k rows name word other looks known)
      (one_nil (settle_fault c false (held rows (Some (name, [])))) ∙ none_settles rows name among))
  late_name word rest rows name other among looks false known =
      ap said (stopped c (state rows (Some (name, [])) (option name) false) word rest _ (name_unknown c is_name k rows (Some (name, [])) (option name) word other (λ v. refl) looks known) refl)

  value_step : (word : Text) (rest : List Text) → Reads rest → ReadsValue (word ∷ rest)
  value_step word rest reads rows name among ok = elim (look word) [
    | at_end looks ↦ late_end word rest rows name among looks ∙ dash_is word rest name (parts_in rows) true looks.dash_is
    | at_whole other value looks ↦ late_whole word rest rows name other value among looks (is_name other) refl ∙ dash_is word rest name (parts_in rows) true looks.dash_is
    | at_name other looks ↦ late_name word rest rows name other among looks (is_name other) refl ∙ dash_is word rest name (parts_in rows) true looks.dash_is
    | at_stray e dash ↦ absurd (true≢false (stray_is word rest stray e ok))
    | at_place looks short ↦
        let turn = value_turn c is_name k rows name word looks short among in
        ap said (turned c (state rows (Some (name, [])) (option name) false) _ word rest _ turn.0 turn.1)
        ∙ reads rows (Some (name, word ∷ [])) false (stray_is word rest place looks.shape_is ok)
        ∙ pending_on rows name word (parts_of None rest) among
        ∙ dash_is word rest name (parts_in rows) false looks.dash_is
  ]

  pub both_read : (words : List Text) → Reads words × ReadsValue words
  both_read [] = (
    λ rows p b ok. said_cond (may_settle rows p) (Some (rows_then rows p)) ∙ ap (λ (o : Option Parts). cond (may_settle rows p) o None) (sym (after_nothing is_name (parts_in (rows_then rows p)))),
    λ rows name among ok. ap (λ (t : Bool). said (cond t (Some (rows_then rows (Some (name, [])))) None)) (none_settles rows name among),
  )
  both_read (word ∷ rest) =
      let before = both_read rest in
      (read_step word rest before.0 before.1, value_step word rest before.0)
