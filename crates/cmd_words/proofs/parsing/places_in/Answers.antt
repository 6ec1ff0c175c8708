use Rattle.std.proofs.Common.{◌∙◌, ap, [], Bor, map, codes, Option, List, ℕ}
use Rattle.std.specs.Prelude.{unwrap_or}
use Rattle.std.proofs.lemmas.List.{take_all}
use Rattle.clap.specs.Matches.{found_of}
use Rattle.clap.proofs.WalkLemmas.{raw_values-rows}
use Rattle.cmd_words.proofs.parsing.places_in.Goals as goal

pub returns-in_default : goal.returns-in_default
returns-in_default c = c.new-places.ensures ∙ ap (λ (o : Option (List (List ℕ))). unwrap_or o []) (c.in_default.ensures ∙ raw_values-rows (found_of c.args.found.now) (codes "places"))

pub returns : goal.returns
returns c =
    c.loop-word.invariant
    ∙ ap (map (λ (word : Bor (List ℕ)). word.now)) (take_all c.loop-word.word-index c.in-Some.words.now c.loop-word-test.false)
    ∙ ap (λ (o : Option (List (List ℕ))). unwrap_or o []) (c.in-Some.ensures ∙ raw_values-rows (found_of c.args.found.now) (codes "places"))
