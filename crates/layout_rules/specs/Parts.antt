-- The part of each layout, and what stores of all layouts give.
use Rattle.std.specs.Prelude.{List, ℕ}
use Rattle.cache_types.specs.declared.store.Layout.{Layout}
use Rattle.cache_types.specs.declared.store.Layout.TheVariants.{Folder, Database, Foz}
use Rattle.file_log.specs.Disk.{Disk}
use Rattle.folder_rules.specs.Part.{folder_part}
use Rattle.seat_rules.specs.Address.{Address}
use Rattle.seat_rules.specs.Part.{Part, Has, unbuilt_part}

-- the part of each layout: the other two aren't built yet
abbrev pub parts : Layout → Part
parts Folder = folder_part
parts Database = unbuilt_part
parts Foz = unbuilt_part

-- which blob a store of the layout gives
abbrev pub GivesBy : Layout → Has
GivesBy layout = (parts layout).gives

-- the store gives the blob under the address
abbrev pub Gives : Disk → Address → List ℕ → Type 0
Gives d at blob = GivesBy at.store.layout d at.store.root at.driver at.key blob

-- the store gives some blob under the address
abbrev pub IsHeld : Disk → Address → Type 0
IsHeld d at = (blob : List ℕ) × Gives d at blob
