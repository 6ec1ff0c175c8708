-- What a command's words say in place of the variables, and each setting after both.
use Rattle.std.specs.Prelude.{ℕ, List, [], Option, None, unwrap_or}
use Rattle.cache_types.specs.declared.store.Layout.{Layout}
use Rattle.settings_read.specs.declared.overrides.Overrides.{Overrides}
use Rattle.settings_read.specs.Variables.{Environment, value_of, max_size, read_only, dynamic_list}
use Rattle.settings_read.specs.Places.{layout_of_variables, base_of, root_from}
use Rattle.settings_read.specs.Sizes.{size_of}
use Rattle.settings_read.specs.Names.{names_of_variable}

-- words that say nothing
abbrev pub nothing_over : Overrides
nothing_over = record { root = None; layout = None; limit = None }

-- the layout: that of the words, else the variables'
abbrev pub layout_of : Environment → Overrides → Layout
layout_of vars over = unwrap_or over.layout (layout_of_variables vars)

-- the root: that of the words as it is, else the layout's folder where the variables say, if they do
abbrev pub root_of : Environment → Overrides → Option (List ℕ)
root_of vars over = root_from over.root (base_of vars) (layout_of vars over)

-- how many bytes the cache may have: as the words say, else as the variable spells them
abbrev pub max_of : Environment → Overrides → ℕ
max_of vars over = unwrap_or over.limit (size_of (unwrap_or (value_of vars max_size) []))

-- the read-only databases that a variable names
abbrev pub names_given : Environment → List (List ℕ)
names_given vars = names_of_variable (unwrap_or (value_of vars read_only) [])

-- the path of the file that names more of them
abbrev pub list_given : Environment → Option (List ℕ)
list_given vars = value_of vars dynamic_list
