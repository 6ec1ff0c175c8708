-- The keys of the entries in a folder.
use Rattle.std.specs.Prelude.{ℕ, nat_eq, ◌&&◌, List, get_or, Option, Some, None, if◌then◌else◌}
use Rattle.std.specs.List.{filter_map}
use Rattle.cache_types.specs.declared.key.Key.{Key}
use Rattle.world_tables.specs.declared.names.KeyPlace.{KeyPlace}

-- the key of an entry, where it is in the folder
abbrev pub key_in : ℕ → ℕ → KeyPlace → Option Key
key_in root byte place = if nat_eq place.root root && nat_eq (get_or place.key.bytes 0 0) byte then Some place.key else None

-- the keys of those of these entries that are in the folder
abbrev pub keys_in : ℕ → ℕ → List KeyPlace → List Key
keys_in root byte places = filter_map (key_in root byte) places
