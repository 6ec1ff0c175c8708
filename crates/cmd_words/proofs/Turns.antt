-- One turn of clap's walk, from where nothing but a whole option or a positional word may be pending.
use Rattle.std.proofs.Common.{◌≡◌, Bool, true, false, cond, ◌&&◌, List, [], ◌∷◌, Option, Some, None, refl, ap, ◌∙◌}
use Rattle.std.specs.Prelude.{codes, bytes_eq}
use Rattle.std.proofs.Math.Bool.{and-false}
use Rattle.std.proofs.lemmas.Slice.Eq.{bytes_eq-Decides}
use Rattle.clap.specs.Faults.{settle_fault, turn_fault, use_fault}
use Rattle.clap.specs.Kinds.{or_else}
use Rattle.clap.specs.Lexer.{short_of}
use Rattle.clap.specs.Walk.{Held, Rule, Row, Text, Waiting, Walk, idle, option, positional, is_pending, settled, settled_rows, subcommand_met, plain_word, pushed, used, walked, value}
use Rattle.clap.specs.declared.error.kind.ErrorKind.TheVariants.{UnknownArgument}
use Rattle.cmd_words.specs.Reading.{ends_options, whole_option, option_name, place}
use Rattle.cmd_words.proofs.Looks.{LooksAs}
use Rattle.cmd_words.proofs.Rules.{Knows, built_option, built_place, shape_with}

abbrev pub Pending : Type 0
Pending = Option (Text × List Text)

abbrev pub held : List Row → Pending → Held
held rows pending = record { rows = rows; pending = pending; skip = 0 }

-- where the walk stands: nothing waits for a value but the option `waiting`
abbrev pub state : List Row → Pending → Waiting → Bool → Walk
state rows pending waiting trailing = record { held = held rows pending; waiting = waiting; position = 1; is_trailing = trailing; stopped = None }

-- no option waits
abbrev pub plain : Bool → Waiting
plain true = positional
plain false = idle

pub no_subcommand : (b : Bool) (word : Text) → subcommand_met [] (plain b) word ≡ None
no_subcommand true word = refl
no_subcommand false word = refl

to_place : (c : List Rule) (b : Bool) (word : Text) (h : Held) → plain_word c (plain b) word h ≡ (h, value)
to_place c true word h = refl
to_place c false word h = refl

module _ (c : List Rule) (is_name : Text → Bool) (k : Knows c is_name) where
  pub end_turn : (rows : List Row) (p : Pending) (b : Bool) (word : Text) → LooksAs word true None ends_options true
      → (turn_fault (shape_with c) [] (state rows p (plain b) false) word ≡ []) × (walked c [] (state rows p (plain b) false) word ≡ state rows p (plain b) true)
  unfolding walked
  end_turn rows p b word looks = (rw (no_subcommand b word, looks.ends_is) refl, rw (no_subcommand b word, looks.ends_is) refl)

  pub whole_turn : (rows : List Row) (p : Pending) (b : Bool) (word name text : Text) → LooksAs word false (Some (name, Some text)) (whole_option name text) true → is_name name ≡ true
      → (turn_fault (shape_with c) [] (state rows p (plain b) false) word ≡ or_else (or_else (settle_fault c false (held rows p)) (use_fault false (built_option name) (text ∷ []) (settled_rows c p rows))) [])
      × (walked c [] (state rows p (plain b) false) word ≡ state (used (built_option name) (text ∷ []) (settled_rows c p rows)) None idle false)
  unfolding walked
  whole_turn rows p b word name text looks among =
      let found = k.long name ∙ ap (λ (t : Bool). cond t (Some (built_option name)) None) among in (
        rw (no_subcommand b word, looks.ends_is, looks.long_is, found) refl,
        rw (no_subcommand b word, looks.ends_is, looks.long_is, found) refl,
      )

  pub whole_unknown : (rows : List Row) (p : Pending) (w : Waiting) (word name text : Text) → ((v : Text) → subcommand_met [] w v ≡ None) → LooksAs word false (Some (name, Some text)) (whole_option name text) true → is_name name ≡ false
      → turn_fault (shape_with c) [] (state rows p w false) word ≡ UnknownArgument ∷ []
  whole_unknown rows p w word name text none looks among =
      let found = k.long name ∙ ap (λ (t : Bool). cond t (Some (built_option name)) None) among in
      rw (none word, looks.ends_is, looks.long_is, found) refl

  pub name_turn : (rows : List Row) (p : Pending) (b : Bool) (word name : Text) → LooksAs word false (Some (name, None)) (option_name name) true → is_name name ≡ true
      → (turn_fault (shape_with c) [] (state rows p (plain b) false) word ≡ or_else (settle_fault c false (held rows p)) [])
      × (walked c [] (state rows p (plain b) false) word ≡ state (settled_rows c p rows) (Some (name, [])) (option name) false)
  unfolding walked
  name_turn rows p b word name looks among =
      let found = k.long name ∙ ap (λ (t : Bool). cond t (Some (built_option name)) None) among in (
        rw (no_subcommand b word, looks.ends_is, looks.long_is, found) refl,
        rw (no_subcommand b word, looks.ends_is, looks.long_is, found) refl,
      )

  pub name_unknown : (rows : List Row) (p : Pending) (w : Waiting) (word name : Text) → ((v : Text) → subcommand_met [] w v ≡ None) → LooksAs word false (Some (name, None)) (option_name name) true → is_name name ≡ false
      → turn_fault (shape_with c) [] (state rows p w false) word ≡ UnknownArgument ∷ []
  name_unknown rows p w word name none looks among =
      let found = k.long name ∙ ap (λ (t : Bool). cond t (Some (built_option name)) None) among in
      rw (none word, looks.ends_is, looks.long_is, found) refl

  -- a positional word settles what is pending
  settles : (rows : List Row) (p : Pending) → cond (is_pending built_place p && false) [] (settle_fault c false (held rows p)) ≡ settle_fault c false (held rows p)
  settles rows p = ap (λ (b : Bool). cond b [] (settle_fault c false (held rows p))) (and-false (is_pending built_place p))

  holds : (rows : List Row) (p : Pending) (word : Text) → pushed (codes "places") word (cond (is_pending built_place p && false) (held rows p) (settled c (held rows p))) ≡ held (settled_rows c p rows) (Some (codes "places", word ∷ []))
  holds rows p word = ap (λ (b : Bool). pushed (codes "places") word (cond b (held rows p) (settled c (held rows p)))) (and-false (is_pending built_place p))

  pub place_turn : (rows : List Row) (p : Pending) (b : Bool) (word : Text) → LooksAs word false None place false → short_of word ≡ None
      → (turn_fault (shape_with c) [] (state rows p (plain b) false) word ≡ settle_fault c false (held rows p))
      × (walked c [] (state rows p (plain b) false) word ≡ state (settled_rows c p rows) (Some (codes "places", word ∷ [])) positional false)
  unfolding walked
  place_turn rows p b word looks short = (
    rw (no_subcommand b word, looks.ends_is, looks.long_is, short, to_place c b word (held rows p), k.index) (settles rows p),
    rw (no_subcommand b word, looks.ends_is, looks.long_is, short, to_place c b word (held rows p), k.index) (ap (λ (h : Held). record { held = h; waiting = positional; position = 1; is_trailing = false; stopped = None }) (holds rows p word)),
  )

  -- after `--`
  pub rest_turn : (rows : List Row) (p : Pending) (w : Waiting) (word : Text)
      → (turn_fault (shape_with c) [] (state rows p w true) word ≡ settle_fault c false (held rows p))
      × (walked c [] (state rows p w true) word ≡ state (settled_rows c p rows) (Some (codes "places", word ∷ [])) positional true)
  unfolding walked
  rest_turn rows p w word = (
    rw k.index (settles rows p),
    rw k.index (ap (λ (h : Held). record { held = h; waiting = positional; position = 1; is_trailing = true; stopped = None }) (holds rows p word)),
  )

  -- ---- where an option waits for its value

  pub end_waiting : (rows : List Row) (name word : Text) → LooksAs word true None ends_options true
      → walked c [] (state rows (Some (name, [])) (option name) false) word ≡ state rows (Some (name, [])) (option name) true
  unfolding walked
  end_waiting rows name word looks = rw looks.ends_is refl

  pub whole_waiting : (rows : List Row) (name word other text : Text) → LooksAs word false (Some (other, Some text)) (whole_option other text) true → is_name other ≡ true
      → turn_fault (shape_with c) [] (state rows (Some (name, [])) (option name) false) word ≡ or_else (or_else (settle_fault c false (held rows (Some (name, [])))) (use_fault false (built_option other) (text ∷ []) (settled_rows c (Some (name, [])) rows))) []
  whole_waiting rows name word other text looks among =
      let found = k.long other ∙ ap (λ (t : Bool). cond t (Some (built_option other)) None) among in
      rw (looks.ends_is, looks.long_is, found) refl

  pub name_waiting : (rows : List Row) (name word other : Text) → LooksAs word false (Some (other, None)) (option_name other) true → is_name other ≡ true
      → turn_fault (shape_with c) [] (state rows (Some (name, [])) (option name) false) word ≡ or_else (settle_fault c false (held rows (Some (name, [])))) []
  name_waiting rows name word other looks among =
      let found = k.long other ∙ ap (λ (t : Bool). cond t (Some (built_option other)) None) among in
      rw (looks.ends_is, looks.long_is, found) refl

  same_name : (name : Text) → bytes_eq name name ≡ true
  same_name name = (bytes_eq-Decides name name).1 refl

  pub value_turn : (rows : List Row) (name word : Text) → LooksAs word false None place false → short_of word ≡ None → is_name name ≡ true
      → (turn_fault (shape_with c) [] (state rows (Some (name, [])) (option name) false) word ≡ [])
      × (walked c [] (state rows (Some (name, [])) (option name) false) word ≡ state rows (Some (name, word ∷ [])) idle false)
  unfolding walked
  value_turn rows name word looks short among = (
    rw (looks.ends_is, looks.long_is, short) refl,
    rw (looks.ends_is, looks.long_is, short, k.id name among) (rw (same_name name) refl),
  )

  -- ---- what settling finds

  pub settle_option : (rows : List Row) (name : Text) (values : List Text) → is_name name ≡ true → settle_fault c false (held rows (Some (name, values))) ≡ use_fault false (built_option name) values rows
  settle_option rows name values among = rw (k.id name among) refl

  pub settle_place : (rows : List Row) (word : Text) → settle_fault c false (held rows (Some (codes "places", word ∷ []))) ≡ use_fault false built_place (word ∷ []) rows
  settle_place rows word = rw k.place refl

  pub rows_option : (rows : List Row) (name : Text) (values : List Text) → is_name name ≡ true → settled_rows c (Some (name, values)) rows ≡ used (built_option name) values rows
  rows_option rows name values among = rw (k.id name among) refl

  pub rows_place : (rows : List Row) (word : Text) → settled_rows c (Some (codes "places", word ∷ [])) rows ≡ used built_place (word ∷ []) rows
  rows_place rows word = rw k.place refl
