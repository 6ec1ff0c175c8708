-- What was written is read.
use Rattle.std.specs.Prelude.{◌≡◌, ℕ, List, Result, MatchResult}
use Rattle.cache_types.specs.declared.meta.Meta.{Meta}
use Rattle.cache_types.specs.Driver.{DriverKeys, IsDriver}
use Rattle.item_frame.specs.declared.any.Owned.{Owned}
use Rattle.item_frame.specs.declared.item.Item.{Item}
use Rattle.item_frame.specs.declared.refusal.ItemRefusal.{ItemRefusal}
use Rattle.item_frame.specs.declared.refusal.ItemRefusal.TheVariants.{NoMemory}
use Rattle.item_frame.specs.Item.{ReadsAs}

-- an item of the driver is read back: its meta and its blob, unless memory runs out
abbrev pub GivesBack : DriverKeys → List ℕ → Result Item ItemRefusal → Type 0
GivesBack d bytes result = (meta : Meta) (blob : List ℕ) → ReadsAs d bytes meta blob
    → MatchResult result (λ item. item ≡ record { meta = meta; blob = blob }) (λ refusal. refusal ≡ NoMemory)

-- an item of whatever driver is read back: its driver, its meta and its blob, unless memory runs out
abbrev pub GivesAnyBack : List ℕ → Result Owned ItemRefusal → Type 0
GivesAnyBack bytes result = (d : DriverKeys) (meta : Meta) (blob : List ℕ) → IsDriver d → ReadsAs d bytes meta blob
    → MatchResult result (λ owned. owned ≡ record { driver = d; item = record { meta = meta; blob = blob } }) (λ refusal. refusal ≡ NoMemory)
