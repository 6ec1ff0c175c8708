-- The machine of a lookup: the entry's file is read, and judged for the driver.
use Rattle.std.specs.Prelude.{◌≡◌, ◌<◌, ℕ, Bool, false, List, Option, Some, None}
use Rattle.std.proofs.Common.{arith}
use Rattle.cache_types.specs.declared.answer.Answer.{Answer}
use Rattle.cache_types.specs.declared.answer.Answer.TheVariants.{Miss}
use Rattle.cache_types.specs.declared.key.Key.{Key}
use Rattle.cache_types.specs.declared.limits.TheConstants.{MAX_ITEM}
use Rattle.cache_types.specs.declared.name.Name.{Name}
use Rattle.cache_types.specs.declared.name.Name.TheVariants.{Entry}
use Rattle.cache_types.specs.Driver.{DriverKeys}
use Rattle.file_log.specs.declared.call.Call.{Call}
use Rattle.file_log.specs.declared.reply.Reply.{Reply}
use Rattle.files_api.specs.declared.machine.Step.{Step}
use Rattle.item_frame.specs.Item.{Reads}
use Rattle.machine_parts.specs.declared.judged.Judged.{Judged}
use Rattle.machine_parts.specs.declared.open.Open.{Open}
use Rattle.machine_parts.specs.declared.part.After.{After}
use Rattle.machine_parts.specs.declared.reading.Read.TheVariants.{Opening}
use Rattle.machine_parts.specs.declared.reading.Reading.{Reading}
use Rattle.machine_parts.specs.declared.whole.Whole.{Whole}
use Rattle.machine_parts.specs.declared.whole.Whole.TheVariants.{Going}
use Rattle.machine_parts.specs.Ending.{whole_right, whole_asks, whole_asked, WholeFed, whole_slots, whole_hurt, whole_left}
use Rattle.machine_parts.specs.Judging.{judged_right, judged_asks, judged_asked, JudgedFed, judged_slots, judged_left}
use Rattle.machine_parts.specs.Reading.{reading_right, reading_asks, reading_next, reading_slots, reading_left}
use Rattle.machine_parts.specs.Slots.{open_of}
use Rattle.folder_store.specs.declared.get.EntryFile.{EntryFile}
use Rattle.folder_store.specs.declared.get.ForDriver.{ForDriver}
use Rattle.folder_store.specs.Finds.{Finds}

-- ---- its parts

abbrev pub entry_name : EntryFile → Name
entry_name file = Entry file.root file.key

pub one_is_small : 1 < 4
one_is_small = omega arith

-- without a file, or with one that is too long, it is a miss; else what is found in its bytes
abbrev pub JudgesFor : ForDriver → Option (List ℕ) → Answer → Type 0
JudgesFor judge None answer = answer ≡ Miss
JudgesFor judge (Some bytes) answer = Finds (Reads judge.driver bytes) answer

abbrev pub GetPart : Type 0
GetPart = Judged (Reading EntryFile) ForDriver

abbrev pub FolderGet : Type 0
FolderGet = Whole GetPart

abbrev pub part_asks : GetPart → Call
part_asks p = judged_asks (reading_asks 1 entry_name) p

abbrev pub part_asked : GetPart → GetPart
part_asked p = judged_asked (λ r. r) p

abbrev pub PartFed : GetPart → Reply → After GetPart Answer → Type 0
PartFed p reply r = JudgedFed (λ m y a. a ≡ reading_next MAX_ITEM m y) JudgesFor p reply r

abbrev pub part_slots : GetPart → Open
part_slots p = judged_slots (reading_slots 1) p

-- ---- the machine

abbrev pub get_right : FolderGet → Type 0
get_right m = whole_right (judged_right (reading_right 1)) m

abbrev pub get_asks : FolderGet → Step
get_asks m = whole_asks part_asks m

abbrev pub get_asked : FolderGet → FolderGet
get_asked m = whole_asked part_asked m

abbrev pub GetFed : FolderGet → Reply → FolderGet → Type 0
GetFed m reply n = WholeFed PartFed part_slots m reply n

abbrev pub get_slots : FolderGet → ℕ → Bool
get_slots m at = whole_slots part_slots m at

abbrev pub get_hurt : FolderGet → Bool
get_hurt m = whole_hurt m

abbrev pub get_left : FolderGet → ℕ
get_left m = whole_left (judged_left reading_left) m

-- a part that has done nothing yet: it reads this key's entry in this root, for this driver
pub record IsNewPart (root : ℕ) (driver : DriverKeys) (key : Key) (p : GetPart) : Type 0 where
  pub file_is : p.part.file ≡ record { root = root; key = key }
  pub alone : p.part.base ≡ open_of false false false false
  pub opening : p.part.stage ≡ Opening
  pub driver_is : p.judge.driver ≡ driver

-- a lookup of this key for this driver in this root, which has done nothing yet
abbrev pub IsNew : ℕ → DriverKeys → Key → FolderGet → Type 0
IsNew root driver key (Going p) = IsNewPart root driver key p
IsNew root driver key m = ⊥
