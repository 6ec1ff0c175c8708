-- The path that is told of a call.
use Rattle.std.specs.Prelude.{◌≡◌, ℕ, nat_eq, List, [], Option, unwrap_or, if◌then◌else◌}
use Rattle.std.specs.Path.{path_parent}
use Rattle.cache_types.specs.declared.name.Name.{Name}
use Rattle.cache_types.specs.declared.name.Name.TheVariants.{FolderLock}
use Rattle.file_log.specs.declared.call.Call.{Call}
use Rattle.file_log.specs.declared.call.Call.TheVariants as calls
use Rattle.file_log.specs.declared.reply.Reply.{Reply}
use Rattle.file_log.specs.declared.reply.Reply.TheVariants.{Done}
use Rattle.path_names.specs.declared.paths.Paths.{Paths}
use Rattle.path_names.specs.Paths.{HasPath, path_spelled}
use Rattle.host_files.specs.Calls.{HasPaths}
use Rattle.host_files.specs.Slots.{path_of_slot}
use Rattle.host_files.specs.declared.first_fault.FirstFault.{FirstFault}
use Rattle.host_files.specs.declared.opened.Opened.{Opened}
use Rattle.host_files.specs.declared.reason.Reason.TheVariants.{NoPath}

-- the path of a name, or no text where it has none
pub record IsPathOrNone (paths : Paths) (name : Name) (path : List ℕ) : Type 0 where
  pub spelled : HasPath paths name → path ≡ path_spelled paths name
  pub none : (HasPath paths name → ⊥) → path ≡ []

-- the path of the folder that this file lies in
abbrev pub folder_above : List ℕ → List ℕ
folder_above path = unwrap_or (path_parent path) []

-- the path that a call names: of a slot the one that it was opened by, of a renaming the new one, of a listing the folder's
abbrev pub IsPathOfCall : Paths → List (Option Opened) → Call → List ℕ → Type 0
IsPathOfCall paths slots (calls.OpenOld slot name) path = IsPathOrNone paths name path
IsPathOfCall paths slots (calls.OpenNew slot name) path = IsPathOrNone paths name path
IsPathOfCall paths slots (calls.TryLock slot) path = path ≡ path_of_slot slots slot
IsPathOfCall paths slots (calls.Length slot) path = path ≡ path_of_slot slots slot
IsPathOfCall paths slots (calls.ReadAt slot at n) path = path ≡ path_of_slot slots slot
IsPathOfCall paths slots (calls.WriteAt slot at bytes) path = path ≡ path_of_slot slots slot
IsPathOfCall paths slots (calls.Cut slot n) path = path ≡ path_of_slot slots slot
IsPathOfCall paths slots (calls.Rename from to) path = IsPathOrNone paths to path
IsPathOfCall paths slots (calls.Remove name) path = IsPathOrNone paths name path
IsPathOfCall paths slots (calls.ListFolder root byte) path = (lock : List ℕ) × IsPathOrNone paths (FolderLock root byte) lock × (path ≡ folder_above lock)
IsPathOfCall paths slots call path = path ≡ []

-- the paths that the slots' files were opened by, after a call that was answered so
abbrev pub paths_after : Paths → Call → Reply → List (Option Opened) → ℕ → List ℕ
paths_after paths (calls.OpenOld slot name) Done slots at = if nat_eq slot at then path_spelled paths name else path_of_slot slots at
paths_after paths (calls.OpenNew slot name) Done slots at = if nat_eq slot at then path_spelled paths name else path_of_slot slots at
paths_after paths (calls.Close slot) Done slots at = if nat_eq slot at then [] else path_of_slot slots at
paths_after paths call reply slots at = path_of_slot slots at

-- what is kept of a call that failed: the path that it names; and that it has none, where that is why
pub record IsFaultOfCall (paths : Paths) (slots : List (Option Opened)) (call : Call) (fault : FirstFault) : Type 0 where
  pub path : IsPathOfCall paths slots call fault.path
  pub outside : (HasPaths paths call → ⊥) → fault.reason ≡ NoPath
