use Rattle.std.proofs.Common.{◌≡◌, map, take}
use Rattle.cmd_words.proofs.parsing.places_in.Given as goal

abbrev pub invariant-loop-word : goal.invariant-loop-word
invariant-loop-word l = l.places ≡ map (λ word. word.now) (take l.word-index l.words)
