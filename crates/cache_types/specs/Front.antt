-- The parts of a driver's blob in front of some bytes.
use Rattle.std.specs.Prelude.{◌≡◌, ℕ, List, ◌∷◌, ◌++◌, length}
use Rattle.std.specs.Int.{w64, to_le_bytes}
use Rattle.cache_types.specs.declared.front.Front.{Front}
use Rattle.cache_types.specs.Driver.{DriverKeys, IsDriverText, Fronts}

-- the bytes are a text that can stand in a driver, a zero byte, and the rest
pub record SplitsText (bytes text rest : List ℕ) : Type 0 where
  pub text_is : IsDriverText text
  pub bytes_are : bytes ≡ text ++ (0 ∷ rest)

-- the bytes are a pointer size of 8, the flags, and the rest
abbrev pub HasFlags : List ℕ → ℕ → List ℕ → Type 0
HasFlags bytes flags rest = bytes ≡ 8 ∷ to_le_bytes w64 flags ++ rest

-- the bytes begin with the blob of a driver of these lengths and flags
pub record IsFrontOf (bytes : List ℕ) (front : Front) : Type 0 where
  pub driver : DriverKeys
  pub fronts : Fronts bytes driver
  pub id : length driver.id ≡ front.id_len
  pub gpu : length driver.gpu ≡ front.gpu_len
  pub flags : driver.flags ≡ front.flags
