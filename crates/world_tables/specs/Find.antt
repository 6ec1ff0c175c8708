-- What stands beside a name or a slot in a list.
use Rattle.std.specs.Prelude.{ℕ, ◌+◌, nat_eq, Bool, ◌&&◌, List, [], ◌∷◌, Option, Some, None, if◌then◌else◌}
use Rattle.std.specs.Cmp.Lexicographic.{pointwise}
use Rattle.std.specs.HashMap.{get}
use Rattle.cache_types.specs.declared.seat.Who.{Who}
use Rattle.cache_types.specs.declared.name.Name.{Name}
use Rattle.cache_types.specs.Names.{same_name}
use Rattle.cache_types.specs.Seats.{same_seat}
use Rattle.cache_types.specs.declared.name.Name.TheVariants as names
use Rattle.world_tables.specs.declared.names.FolderPlace.{FolderPlace}
use Rattle.world_tables.specs.declared.names.KeyPlace.{KeyPlace}
use Rattle.world_tables.specs.declared.names.Names.{Names}
use Rattle.world_tables.specs.declared.parts.NamedFile.{NamedFile}
use Rattle.world_tables.specs.declared.parts.OpenSlot.{OpenSlot}

-- what stands in the first element of which the test holds
abbrev pub find_by : {A B : Type 0} → (A → Bool) → (A → B) → List A → Option B
find_by test value [] = None
find_by test value (x ∷ xs) = if test x then Some (value x) else find_by test value xs

-- the number of the file that a name has
abbrev pub number_of : List NamedFile → Name → Option ℕ
number_of names n = find_by (λ x. same_name x.name n) (λ x. x.file) names

-- key's files are one where their roots and keys are
abbrev pub same_place : KeyPlace → KeyPlace → Bool
same_place a b = nat_eq a.root b.root && pointwise nat_eq a.key.bytes b.key.bytes

-- folders' lock files are one where their roots and digits are
abbrev pub same_folder : FolderPlace → FolderPlace → Bool
same_folder a b = nat_eq a.root b.root && nat_eq a.byte b.byte

-- the number of the file that a name has: entries and temporary files stand by their keys, lock files by their folders
unfoldable pub number_in : Names → Name → Option ℕ
number_in t (names.Entry root key) = get same_place t.entries (record { root = root; key = key })
number_in t (names.Temp root key) = get same_place t.temps (record { root = root; key = key })
number_in t (names.FolderLock root byte) = get same_folder t.locks (record { root = root; byte = byte })
number_in t name = number_of t.others.items name

-- the number of the file in a slot
abbrev pub file_in : List OpenSlot → Who → ℕ → Option ℕ
file_in slots who at = find_by (λ x. same_seat who x.who && nat_eq x.slot at) (λ x. x.file) slots

-- the sum of what each element weighs
abbrev pub total : {A : Type 0} → (A → ℕ) → List A → ℕ
total weight [] = 0
total weight (x ∷ xs) = weight x + total weight xs
