-- Drivers, and the bytes at the front of each item.
use Rattle.std.specs.Prelude.{◌≡◌, ◌≢◌, ℕ, ◌<◌, ◌≤◌, ◌^◌, List, ◌∷◌, ◌++◌, length}
use Rattle.std.specs.List.{AllByRecursion}
use Rattle.std.specs.Int.{w64, to_le_bytes}

-- a driver as contracts see it
pub record DriverKeys : Type 0 where
  pub id : List ℕ
  pub gpu : List ℕ
  pub flags : ℕ

-- the driver keys blob: version 1, the id and a zero byte, the GPU name and a zero byte, pointer size 8, the flags
unfoldable pub blob_of : DriverKeys → List ℕ
blob_of d = 1 ∷ d.id ++ (0 ∷ d.gpu ++ (0 ∷ 8 ∷ to_le_bytes w64 d.flags))

-- an id or a GPU name: at most 255 bytes, none of them zero
abbrev pub IsDriverText : List ℕ → Type 0
IsDriverText text = (length text ≤ 255) × AllByRecursion (λ b. b ≢ 0) text

-- a driver that there can be
pub record IsDriver (d : DriverKeys) : Type 0 where
  pub id : IsDriverText d.id
  pub gpu : IsDriverText d.gpu
  pub flags : d.flags < 2 ^ 64

-- the bytes begin with a driver's blob
pub record Fronts (bytes : List ℕ) (d : DriverKeys) : Type 0 where
  pub driver : IsDriver d
  pub rest : List ℕ
  pub bytes_are : bytes ≡ blob_of d ++ rest

-- the bytes begin with no driver's blob
abbrev pub HasNoFront : List ℕ → Type 0
HasNoFront bytes = (d : DriverKeys) → Fronts bytes d → ⊥
