-- The names of a call.
use Rattle.file_log.specs.declared.call.Call.{Call}
use Rattle.file_log.specs.declared.call.Call.TheVariants as calls
use Rattle.path_names.specs.declared.paths.Paths.{Paths}
use Rattle.path_names.specs.Paths.{HasPath, HasRoot}

-- each name that the call speaks of has a path, and its root is there
abbrev pub HasPaths : Paths → Call → Type 0
HasPaths paths (calls.OpenOld slot name) = HasPath paths name
HasPaths paths (calls.OpenNew slot name) = HasPath paths name
HasPaths paths (calls.Rename from to) = HasPath paths from × HasPath paths to
HasPaths paths (calls.Remove name) = HasPath paths name
HasPaths paths (calls.ListFolder root byte) = HasRoot paths root
HasPaths paths call = Unit {0}
