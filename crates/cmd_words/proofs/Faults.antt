-- The whole parse is the walk: the rules have no defaults, none is required, and there is no subcommand.
use Rattle.std.proofs.Common.{◌≡◌, Bool, true, false, cond, ◌&&◌, ◌||◌, List, [], ◌∷◌, Option, Some, None, is_some, refl, sym, ap, ap₂, ◌∙◌}
use Rattle.std.specs.Prelude.{fold, not}
use Rattle.std.specs.List.{list_any}
use Rattle.clap.specs.Faults.{check_fault, defaults_fault, entered_fault, fault_of, settle_fault, turn_fault, walk_fault}
use Rattle.clap.specs.Kinds.{Kinds, check_kinds, or_else}
use Rattle.clap.specs.Simple.{built, entered, matches_of}
use Rattle.clap.specs.Takes.{is_given}
use Rattle.clap.specs.Walk.{Held, Row, Rule, Text, Walk, finished, has_row, idle, nothing_held, settled, walk, walk_from, walked, with_default}
use Rattle.cmd_words.specs.Parsed.{option_names, words_app}
use Rattle.cmd_words.proofs.Joins.{cond_same}
use Rattle.cmd_words.proofs.Rows.{is_nil}
use Rattle.cmd_words.proofs.Rules.{built_option, rules_of, shape_with}
use Rattle.cmd_words.proofs.Turns.{state}
use Rattle.cmd_words.proofs.Walks.{runs}

runs_is : (c : List Rule) (w : Walk) (words : List Text)
    → runs c w words ≡ cond (is_nil (or_else (walk_fault (shape_with c) [] w words) (settle_fault c false (fold (walked c []) w words).held))) (Some (settled c (fold (walked c []) w words).held).rows) None
unfolding walk_fault
runs_is c w [] = refl
runs_is c w (word ∷ rest) = ap (λ (o : Option (List Row)). cond (is_nil (turn_fault (shape_with c) [] w word)) o None) (runs_is c (walked c [] w word) rest) ∙ go (turn_fault (shape_with c) [] w word)
  where
    go : (turn : Kinds) → cond (is_nil turn) (cond (is_nil (or_else (walk_fault (shape_with c) [] (walked c [] w word) rest) (settle_fault c false (fold (walked c []) (walked c [] w word) rest).held))) (Some (settled c (fold (walked c []) (walked c [] w word) rest).held).rows) None) None
        ≡ cond (is_nil (or_else (or_else turn (walk_fault (shape_with c) [] (walked c [] w word) rest)) (settle_fault c false (fold (walked c []) (walked c [] w word) rest).held))) (Some (settled c (fold (walked c []) (walked c [] w word) rest).held).rows) None
    go [] = refl
    go (k ∷ ks) = refl

no_default : (names : List Text) (rows : List Row) → fold with_default rows (rules_of names) ≡ rows
no_default [] rows = cond_same (has_row _ rows) rows
no_default (name ∷ names) rows = ap (λ (r : List Row). fold with_default r (rules_of names)) (cond_same (has_row name rows) rows) ∙ no_default names rows

or_true : (b : Bool) → (b || true) ≡ true
or_true true = refl
or_true false = refl

default_none : (names : List Text) (rows : List Row) → defaults_fault rows (rules_of names) ≡ []
unfolding defaults_fault
default_none [] rows = rw (or_true (has_row _ rows)) refl
default_none (name ∷ names) rows = rw (or_true (has_row name rows)) (default_none names (with_default rows (built_option name)))

none_required : (names : List Text) (rows : List Row) → list_any (λ a. a.required && not (is_given a.id rows)) (rules_of names) ≡ false
none_required [] rows = refl
none_required (name ∷ names) rows = none_required names rows

abbrev pub rules : List Rule
rules = rules_of option_names

end_nil : (a b below d e : Kinds) → below ≡ [] → d ≡ [] → e ≡ [] → is_nil (or_else a (or_else below (or_else b (or_else d e)))) ≡ is_nil (or_else a b)
end_nil a b below d e p q r = rw (p, q, r) (go a b)
  where
    go : (a b : Kinds) → is_nil (or_else a (or_else b [])) ≡ is_nil (or_else a b)
    go [] [] = refl
    go [] (x ∷ xs) = refl
    go (x ∷ xs) b = refl

none_entered : (stop : Option (Text × List Text)) → (entered_fault (built words_app) stop ≡ []) × (is_some (entered (built words_app) stop) ≡ false)
none_entered None = (refl, refl)
none_entered (Some p) = (refl, refl)

-- the rows of the walk are the matches, where the parse has no fault
pub parsed_is : (words : List Text) → runs rules (state [] None idle false) words ≡ cond (is_nil (fault_of words_app words)) (Some (matches_of words_app words)) None
parsed_is words =
    let end : Held = (walk rules [] nothing_held words).held in
    let stop = none_entered (walk rules [] nothing_held words).stopped in
    let check : check_fault (shape_with rules) (finished rules end) (is_some (entered (built words_app) (walk rules [] nothing_held words).stopped)) ≡ [] =
    ap (check_fault (shape_with rules) (finished rules end)) stop.1 ∙ ap (λ (b : Bool). check_kinds false false b) (none_required option_names (finished rules end)) in
    let faults : is_nil (fault_of words_app words) ≡ is_nil (or_else (walk_fault (shape_with rules) [] (walk_from nothing_held) words) (settle_fault rules false end)) =
    end_nil (walk_fault (shape_with rules) [] (walk_from nothing_held) words) (settle_fault rules false end) _ (defaults_fault (settled rules end).rows rules) _ stop.0 (default_none option_names (settled rules end).rows) check in
    runs_is rules (walk_from nothing_held) words
    ∙ ap₂ (λ (b : Bool) (r : List Row). cond b (Some r) None) (sym faults) (sym (no_default option_names (settled rules end).rows))
