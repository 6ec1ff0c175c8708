-- What holds of every disk, whatever seats do.
use Rattle.std.specs.Prelude.{◌≡◌, ℕ, ◌<◌, Some}
use Rattle.cache_types.specs.declared.name.Name.{Name}
use Rattle.cache_types.specs.declared.seat.Who.{Who}
use Rattle.file_log.specs.Disk.{Disk, Lock}

-- the file of each name, of each slot and of each lock is there, and no two names have one file
pub record IsTidy (d : Disk) : Type 0 where
  pub there : (name : Name) (file : ℕ) → d.names name ≡ Some file → file < d.count
  pub filled : (who : Who) (slot file : ℕ) → d.slots who slot ≡ Some file → file < d.count
  pub locked : (file : ℕ) (lock : Lock) → d.locks file ≡ Some lock → file < d.count
  pub apart : (a b : Name) (file : ℕ) → d.names a ≡ Some file → d.names b ≡ Some file → a ≡ b
