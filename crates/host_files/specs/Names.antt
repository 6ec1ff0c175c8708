-- Names of files, and of entries.
use Rattle.std.specs.Prelude.{◌≡◌, ℕ, List, [], ◌∷◌, ◌++◌, get_or}
use Rattle.hex.specs.Hex.{encode_lower}
use Rattle.cache_types.specs.declared.key.Key.{Key}
use Rattle.cache_types.specs.declared.name.Name.{Name}
use Rattle.cache_types.specs.declared.name.Name.TheVariants as names
use Rattle.path_names.specs.Paths.{IsKeyOfBytes}

-- the folder of this byte has an entry of this name, and its key is this: the folder's two digits and the name are the key's
pub record IsEntry (byte : ℕ) (name : List ℕ) (key : Key) : Type 0 where
  pub key_is : IsKeyOfBytes key
  pub digits : encode_lower key.bytes ≡ encode_lower (byte ∷ []) ++ name

-- a key whose first byte is this
abbrev pub StartsWith : ℕ → Key → Type 0
StartsWith byte key = get_or key.bytes 0 0 ≡ byte

-- no seat ever writes into the file of this name: an entry comes by a renaming
abbrev pub IsOnlyRead : Name → Type 0
IsOnlyRead (names.Entry root key) = Unit {0}
IsOnlyRead (names.Ro root name) = Unit {0}
IsOnlyRead (names.RoIdx root name) = Unit {0}
IsOnlyRead names.List = Unit {0}
IsOnlyRead name = ⊥
