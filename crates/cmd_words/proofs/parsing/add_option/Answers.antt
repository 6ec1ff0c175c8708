use Rattle.std.proofs.Common.{◌≡◌, ◌∙◌, ap, sym, List, ℕ, [], ◌∷◌, ◌++◌, false, codes, bytes_eq}
use Rattle.std.specs.Prelude.{unwrap_or}
use Rattle.std.proofs.lemmas.Result.{on_ok_weaker}
use Rattle.clap.specs.Matches.{found_of}
use Rattle.clap.specs.Walk.{Row, first_of, rows_of}
use Rattle.clap.proofs.WalkLemmas.{first_value-rows}
use Rattle.cmd_words.specs.declared.option_list.OptionPair.{OptionPair}
use Rattle.cmd_words.specs.Parsed.{options_named}
use Rattle.cmd_words.proofs.Parses.{option_made, text_or}
use Rattle.cmd_words.proofs.parsing.add_option.Goals as goal

pub returns : goal.returns
returns c =
    let name : List ℕ = c.args.name.now in
    let rows : List Row = rows_of (found_of c.args.found.now) in
    let apart : bytes_eq name (codes "places") ≡ false = sym c.eq.ensures ∙ c.if-eq.false in
    let value : c.in_ok-value.value ≡ unwrap_or (first_of name rows) [] =
    c.in_ok-value.ensures ∙ ap (λ s. s.now) c.unwrap_or-value.ensures ∙ text_or c.get_str.result _ ∙ ap (λ o. unwrap_or o []) (c.get_str.ensures ∙ first_value-rows (found_of c.args.found.now) name) in
    let made : record { name = c.in_ok-name.name; value = c.in_ok-value.value } ∷ [] ≡ options_named rows (name ∷ []) =
    ap (λ (n : List ℕ). record { name = n; value = c.in_ok-value.value } ∷ []) c.in_ok-name.ensures ∙ option_made rows name c.in_ok-value.value apart value in
    on_ok_weaker c.push.result (λ pushed. pushed ∙ ap (λ (more : List OptionPair). c.args.options.now ++ more) made) c.push.ensures.ok
