-- What a lookup of the blobs that are held answers.
use Rattle.std.specs.Prelude.{ℕ, List}
use Rattle.cache_types.specs.declared.answer.Answer.{Answer}
use Rattle.cache_types.specs.declared.answer.Answer.TheVariants.{Hit, Miss, FilesFault, NoMemory}

-- what a lookup among the blobs that are held answers: one of them, or that there is none; memory may run out
abbrev pub Finds : (List ℕ → Type 0) → Answer → Type 0
Finds Held (Hit blob) = Held blob
Finds Held Miss = (blob : List ℕ) → Held blob → ⊥
Finds Held NoMemory = Unit {0}
Finds Held answer = ⊥

-- the same of a lookup whose calls may fail: then the answer is a fault
abbrev pub FindsOrFails : (List ℕ → Type 0) → Answer → Type 0
FindsOrFails Held FilesFault = Unit {0}
FindsOrFails Held answer = Finds Held answer
