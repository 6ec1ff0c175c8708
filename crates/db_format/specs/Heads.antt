-- The head of a database's file, and of its index.
use Rattle.std.specs.Prelude.{◌≡◌, ◌≢◌, ◌<◌, ℕ, ◌^◌, ◌==◌, not, nat_eq, nat_lt, List, [], ◌∷◌, ◌++◌, length, Result, Ok, Err, if◌then◌else◌}
use Rattle.std.specs.List.{starts_with}
use Rattle.std.specs.Int.{w32, w64, to_le_bytes}
use Rattle.item_frame.specs.Refusals.{number_at}
use Rattle.db_format.specs.declared.head.Head.{Head}
use Rattle.db_format.specs.declared.refusal.DbRefusal.{DbRefusal}
use Rattle.db_format.specs.declared.refusal.DbRefusal.TheVariants.{Short, BadMagic, BadVersion, BadIdentity}
use Rattle.db_format.specs.Numbers.{long_number_at}

-- `MESA_DB` and a zero byte
abbrev pub magic : List ℕ
magic = 77 ∷ 69 ∷ 83 ∷ 65 ∷ 95 ∷ 68 ∷ 66 ∷ 0 ∷ []

-- the magic, the version and the identity
abbrev pub head_bytes : Head → List ℕ
head_bytes head = magic ++ (to_le_bytes w32 head.version ++ to_le_bytes w64 head.identity)

-- the bytes begin with this head
pub record ReadsAsHead (bytes : List ℕ) (head : Head) : Type 0 where
  pub version : head.version ≡ 1
  pub some : head.identity ≢ 0
  pub fits : head.identity < 2 ^ 64
  pub rest : List ℕ
  pub whole : bytes ≡ head_bytes head ++ rest

-- ---- reading

abbrev pub version_in : List ℕ → ℕ
version_in bytes = number_at 8 bytes

abbrev pub identity_in : List ℕ → ℕ
identity_in bytes = long_number_at 12 bytes

-- the head in front of the bytes, or the first thing that is wrong with them
unfoldable pub head_at : List ℕ → Result Head DbRefusal
head_at bytes =
    if nat_lt (length bytes) 20 then Err Short
    else if not (starts_with nat_eq bytes magic) then Err BadMagic
    else if not (version_in bytes == 1) then Err BadVersion
    else if identity_in bytes == 0 then Err BadIdentity
    else Ok (record { version = version_in bytes; identity = identity_in bytes })
