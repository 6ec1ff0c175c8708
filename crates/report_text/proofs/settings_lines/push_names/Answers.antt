use Rattle.std.proofs.Common.{◌∷◌, ◌++◌, ℕ, List, string_bytes, append_assoc, sym, ap, ◌∙◌}
use Rattle.std.specs.List.{flat_map}
use Rattle.std.proofs.lemmas.List.{take_all}
use Rattle.report_text.specs.SettingsLines.{names_or_dash}
use Rattle.report_text.proofs.Joined.{joined}
use Rattle.report_text.proofs.settings_lines.push_names.Goals as goal

pub returns : goal.returns
returns c =
    let before : List ℕ = string_bytes c.args.text.now in
    let first : List ℕ = c.in-Some.first.now in
    let others : List (List ℕ) = c.in-Some.others.now in
    let behind : List (List ℕ) → List ℕ = λ names. flat_map (λ name. 44 ∷ name) names in
    c.loop-name.invariant
    ∙ ap (λ (names : List (List ℕ)). string_bytes c.push_str-2.new.self ++ behind names) (take_all c.loop-name.name-index others c.loop-name-test.false)
    ∙ ap (λ (text : List ℕ). text ++ behind others) (c.in_ok-push_str-2.ensures.bytes ∙ ap (λ (word : List ℕ). before ++ word) c.as_str.ensures)
    ∙ append_assoc before first (behind others)
    ∙ ap (λ (text : List ℕ). before ++ text) (joined 44 first others ∙ ap names_or_dash (sym c.in-Some.ensures.cases.0))
