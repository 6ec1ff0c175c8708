-- The rules that stores of all layouts share, each of one item of a seat after a history.
use Rattle.std.specs.Prelude.{◌≡◌, ℕ, true, false, Some}
use Rattle.cache_types.specs.declared.name.Name.{Name}
use Rattle.cache_types.specs.declared.seat.Who.{Who}
use Rattle.file_log.specs.declared.item.LogItem.{LogItem}
use Rattle.file_log.specs.Disk.{Disk}
use Rattle.file_log.specs.Effect.{applied}
use Rattle.file_log.specs.Log.{History}
use Rattle.file_log.specs.State.{disk_of}
use Rattle.seat_rules.specs.Changes.{may_write, HasHad}
use Rattle.seat_rules.specs.Kinds.{is_temporary, comes_guarded, is_lasting, is_foreign, is_unwritten}

-- ---- only a holder writes

-- a name whose lock the seat doesn't have: its file keeps its bytes, no file comes that would come under the lock, a temporary name stays as it is
pub record IsLeft (old new : Disk) (name : Name) : Type 0 where
  pub bytes : (file : ℕ) → old.names name ≡ Some file → new.files file ≡ old.files file
  pub comes : comes_guarded name ≡ true → (file : ℕ) → new.names name ≡ Some file → old.names name ≡ Some file
  pub stays : is_temporary name ≡ true → new.names name ≡ old.names name

-- the seat leaves so each name whose lock it doesn't have
abbrev pub OnlyHoldersWrite : History → LogItem → Who → Type 0
OnlyHoldersWrite h item who = (name : Name) → may_write (disk_of h) who name ≡ false → IsLeft (disk_of h) (applied (disk_of h) item) name

-- ---- names stay

-- one name: a lasting one keeps its file, no seat gives or takes a foreign one, and a file that an unwritten one has or had keeps its bytes
pub record Stays (h : History) (name : Name) (new : Disk) : Type 0 where
  pub lasting : is_lasting name ≡ true → (file : ℕ) → (disk_of h).names name ≡ Some file → new.names name ≡ Some file
  pub foreign : is_foreign name ≡ true → new.names name ≡ (disk_of h).names name
  pub bytes : is_unwritten name ≡ true → (file : ℕ) → HasHad h name file → new.files file ≡ (disk_of h).files file

-- so does each name
abbrev pub NamesStay : History → LogItem → Type 0
NamesStay h item = (name : Name) → Stays h name (applied (disk_of h) item)

-- ---- both

-- an item of this seat keeps them
pub record Shared (h : History) (item : LogItem) (who : Who) : Type 0 where
  pub written : OnlyHoldersWrite h item who
  pub stay : NamesStay h item
