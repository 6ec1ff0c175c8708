-- Answers of operations.
use Rattle.cache_types.specs.declared.answer.Answer.{Answer}
use Rattle.cache_types.specs.declared.answer.Answer.TheVariants as answers

-- an answer that carries no list: it is copied and told without memory
abbrev pub IsSmall : Answer → Type 0
IsSmall (answers.Hit blob) = ⊥
IsSmall (answers.Keys keys) = ⊥
IsSmall (answers.Rows rows) = ⊥
IsSmall answer = Unit {0}
