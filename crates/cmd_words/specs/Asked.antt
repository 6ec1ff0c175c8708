-- What a command asks for.
use Rattle.std.specs.Prelude.{ℕ, List, codes, slice_get, Option, option_and_then, unwrap_or}
use Rattle.cache_types.specs.declared.store.Layout.{Layout}
use Rattle.cache_types.specs.Driver.{DriverKeys}
use Rattle.cmd_words.specs.declared.command.Command.{Command}
use Rattle.cmd_words.specs.Numbers.{number_of}
use Rattle.cmd_words.specs.Options.{layout_of, value_of}

-- the value of an option, where it is given
abbrev pub option_asked : Command → List ℕ → Option (List ℕ)
option_asked command name = value_of command.options name

-- the driver's id; `mesa` where none is given
abbrev pub id_asked : Command → List ℕ
id_asked command = unwrap_or (option_asked command (codes "id")) (codes "mesa")

-- the GPU's name; `generic` where none is given
abbrev pub gpu_asked : Command → List ℕ
gpu_asked command = unwrap_or (option_asked command (codes "gpu")) (codes "generic")

-- the driver's flags; 0 where none are given
abbrev pub flags_asked : Command → ℕ
flags_asked command = unwrap_or (option_and_then number_of (option_asked command (codes "flags"))) 0

-- the driver
abbrev pub driver_asked : Command → DriverKeys
driver_asked command = record { id = id_asked command; gpu = gpu_asked command; flags = flags_asked command }

-- the root folder, where one is given
abbrev pub root_asked : Command → Option (List ℕ)
root_asked command = option_asked command (codes "root")

-- the layout, where one is given
abbrev pub layout_asked : Command → Option Layout
layout_asked command = option_and_then layout_of (option_asked command (codes "layout"))

-- the limit in bytes, where one is given
abbrev pub limit_asked : Command → Option ℕ
limit_asked command = option_and_then number_of (option_asked command (codes "limit"))

-- the texts of the meta, with commas between them, where some are given
abbrev pub meta_asked : Command → Option (List ℕ)
meta_asked command = option_asked command (codes "meta")

-- the first positional word, which is the key where the command has one
abbrev pub key_asked : Command → Option (List ℕ)
key_asked command = slice_get command.places 0
