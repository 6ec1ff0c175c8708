-- Kinds of names, and the lock that guards each.
use Rattle.std.specs.Prelude.{ℕ, Bool, true, false, nat_eq, get_or, Option, Some, None}
use Rattle.cache_types.specs.declared.key.Key.{Key}
use Rattle.cache_types.specs.declared.name.Name.{Name}
use Rattle.cache_types.specs.declared.name.Name.TheVariants as names

-- the byte of the folder that a key's entry stands in
abbrev pub folder_byte : Key → ℕ
folder_byte key = get_or key.bytes 0 0

-- the name whose lock guards the bytes of a name's file, if there is one
abbrev pub guard_of : Name → Option Name
guard_of (names.Db root) = Some (names.Db root)
guard_of (names.Idx root) = Some (names.Db root)
guard_of (names.Foz root) = Some (names.Foz root)
guard_of (names.FozIdx root) = Some (names.Foz root)
guard_of (names.KeyIndex root) = Some (names.KeyIndex root)
guard_of (names.Temp root key) = Some (names.FolderLock root (folder_byte key))
guard_of name = None

-- the name of an entry
abbrev pub is_entry : Name → Bool
is_entry (names.Entry root key) = true
is_entry name = false

-- a temporary name, which also goes only under its lock
abbrev pub is_temporary : Name → Bool
is_temporary (names.Temp root key) = true
is_temporary name = false

-- a name that comes only under its lock
abbrev pub comes_guarded : Name → Bool
comes_guarded (names.Idx root) = true
comes_guarded (names.FozIdx root) = true
comes_guarded name = is_temporary name

-- a name that keeps its file, once it has one
abbrev pub is_lasting : Name → Bool
is_lasting (names.FolderLock root byte) = true
is_lasting (names.KeyIndex root) = true
is_lasting (names.Db root) = true
is_lasting (names.Idx root) = true
is_lasting (names.Foz root) = true
is_lasting (names.FozIdx root) = true
is_lasting name = false

-- a name that no seat gives or takes away
abbrev pub is_foreign : Name → Bool
is_foreign (names.Ro root name) = true
is_foreign (names.RoIdx root name) = true
is_foreign names.List = true
is_foreign name = false

-- a name whose file is never written
abbrev pub is_unwritten : Name → Bool
is_unwritten (names.FolderLock root byte) = true
is_unwritten name = is_foreign name

-- a name whose lock operations of this root wait for
abbrev pub is_lock_of : ℕ → Name → Bool
is_lock_of root (names.FolderLock other byte) = nat_eq other root
is_lock_of root (names.KeyIndex other) = nat_eq other root
is_lock_of root (names.Db other) = nat_eq other root
is_lock_of root (names.Foz other) = nat_eq other root
is_lock_of root name = false
