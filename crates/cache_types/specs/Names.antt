-- Names, and when two are one.
use Rattle.std.specs.Prelude.{ℕ, Bool, List, [], ◌∷◌, nat_eq}
use Rattle.std.specs.Cmp.Lexicographic.{pointwise}
use Rattle.cache_types.specs.declared.name.Name.{Name}
use Rattle.cache_types.specs.declared.name.Name.TheVariants as names

-- a number for each kind of name, and then its parts
unfoldable pub name_code : Name → List ℕ
name_code (names.FolderLock root byte) = 0 ∷ root ∷ byte ∷ []
name_code (names.Entry root key) = 1 ∷ root ∷ key.bytes
name_code (names.Temp root key) = 2 ∷ root ∷ key.bytes
name_code (names.KeyIndex root) = 3 ∷ root ∷ []
name_code (names.Db root) = 4 ∷ root ∷ []
name_code (names.Idx root) = 5 ∷ root ∷ []
name_code (names.Foz root) = 6 ∷ root ∷ []
name_code (names.FozIdx root) = 7 ∷ root ∷ []
name_code (names.Ro root name) = 8 ∷ root ∷ name
name_code (names.RoIdx root name) = 9 ∷ root ∷ name
name_code names.List = 10 ∷ []

-- the same name
abbrev pub same_name : Name → Name → Bool
same_name a b = pointwise nat_eq (name_code a) (name_code b)
