-- What the fields of a driver mean.
use Rattle.std.specs.Prelude.{◌≡◌, ◌+◌, ◌≤◌, length, take, slice_range}
use Rattle.cache_types.specs.declared.driver.Driver.TheInside.{Inside}
use Rattle.cache_types.specs.Driver.{DriverKeys, blob_of, IsDriver}

-- the id ends at `id_end`, the GPU name at `gpu_end`
abbrev pub keys_of : Inside → DriverKeys
keys_of d = record { id = slice_range d.bytes 1 d.id_end; gpu = slice_range d.bytes (d.id_end + 1) d.gpu_end; flags = d.flags }

-- the bytes begin with the driver's blob, whatever stands after it
pub record IsFront (d : Inside) : Type 0 where
  pub blob : take (d.gpu_end + 10) d.bytes ≡ blob_of (keys_of d)
  pub order : 1 ≤ d.id_end
  pub gpu_order : d.id_end + 1 ≤ d.gpu_end
  pub within : d.gpu_end + 10 ≤ length d.bytes
  pub fits : IsDriver (keys_of d)
