-- Where the files of the cache lie.
use Rattle.std.specs.Prelude.{◌≡◌, ℕ, ◌<◌, true, List, [], ◌∷◌, ◌++◌, length, get_or, take, drop, codes, Option, Some, None, IsSome, unwrap_or, slice_index}
use Rattle.hex.specs.Hex.{encode_lower}
use Rattle.cache_types.specs.declared.key.Key.{Key}
use Rattle.cache_types.specs.declared.name.Name.{Name}
use Rattle.cache_types.specs.declared.name.Name.TheVariants as names
use Rattle.cache_key.specs.Digits.{digits_of}
use Rattle.path_names.specs.declared.paths.Paths.{Paths}
use Rattle.path_names.specs.RoNames.{is_ro_name}

-- ---- which names have a path

-- a root that there is
abbrev pub HasRoot : Paths → ℕ → Type 0
HasRoot paths root = root < length paths.roots

-- the name's root is there, a read-only database's name is one, and the list is there where it is asked for
abbrev pub HasPath : Paths → Name → Type 0
HasPath paths (names.FolderLock root byte) = HasRoot paths root
HasPath paths (names.Entry root key) = HasRoot paths root
HasPath paths (names.Temp root key) = HasRoot paths root
HasPath paths (names.KeyIndex root) = HasRoot paths root
HasPath paths (names.Db root) = HasRoot paths root
HasPath paths (names.Idx root) = HasRoot paths root
HasPath paths (names.Foz root) = HasRoot paths root
HasPath paths (names.FozIdx root) = HasRoot paths root
HasPath paths (names.Ro root name) = HasRoot paths root × (is_ro_name name ≡ true)
HasPath paths (names.RoIdx root name) = HasRoot paths root × (is_ro_name name ≡ true)
HasPath paths names.List = IsSome paths.list

-- ---- the paths

-- the first two digits of a key, a slash, the other digits, and an end
abbrev pub entry_of : List ℕ → List ℕ → List ℕ
entry_of digits end = take 2 digits ++ (codes "/" ++ (drop 2 digits ++ end))

-- where a file lies in its root; the list lies in none
unfoldable pub place_of : Name → List ℕ
place_of (names.FolderLock root byte) = encode_lower (byte ∷ []) ++ codes "/lock"
place_of (names.Entry root key) = entry_of (digits_of key) (codes "")
place_of (names.Temp root key) = entry_of (digits_of key) (codes ".tmp")
place_of (names.KeyIndex root) = codes "index"
place_of (names.Db root) = codes "mesa_cache.db"
place_of (names.Idx root) = codes "mesa_cache.idx"
place_of (names.Foz root) = codes "foz_cache.foz"
place_of (names.FozIdx root) = codes "foz_cache_idx.foz"
place_of (names.Ro root name) = name ++ codes ".foz"
place_of (names.RoIdx root name) = name ++ codes "_idx.foz"
place_of names.List = []

-- the root that a file lies in
abbrev pub root_of : Name → Option ℕ
root_of (names.FolderLock root byte) = Some root
root_of (names.Entry root key) = Some root
root_of (names.Temp root key) = Some root
root_of (names.KeyIndex root) = Some root
root_of (names.Db root) = Some root
root_of (names.Idx root) = Some root
root_of (names.Foz root) = Some root
root_of (names.FozIdx root) = Some root
root_of (names.Ro root name) = Some root
root_of (names.RoIdx root name) = Some root
root_of names.List = None

-- the path of a place in a root, or the list's own path
abbrev pub path_in : Paths → Option ℕ → List ℕ → List ℕ
path_in paths (Some root) place = get_or paths.roots root [] ++ (codes "/" ++ place)
path_in paths None place = unwrap_or paths.list []

-- the path of a name
abbrev pub path_spelled : Paths → Name → List ℕ
path_spelled paths name = path_in paths (root_of name) (place_of name)

-- ---- one path for each name

-- a key that there can be: 20 bytes
pub record IsKeyOfBytes (key : Key) : Type 0 where
  pub length_is : length key.bytes ≡ 20
  pub bytes : (i : ℕ) → slice_index key.bytes i < 256

-- a name that there can be: its folder's number is a byte, its key has 20
abbrev pub CanBe : Name → Type 0
CanBe (names.FolderLock root byte) = byte < 256
CanBe (names.Entry root key) = IsKeyOfBytes key
CanBe (names.Temp root key) = IsKeyOfBytes key
CanBe name = Unit {0}

-- no other name of the same root has this path
abbrev pub IsPathOfOne : Paths → Name → List ℕ → Type 0
IsPathOfOne paths name path = (other : Name) → CanBe name → CanBe other → HasPath paths other → root_of name ≡ root_of other → path ≡ path_spelled paths other → name ≡ other
