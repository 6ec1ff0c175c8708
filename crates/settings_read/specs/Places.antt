-- Where the cache lies, and in which layout.
use Rattle.std.specs.Prelude.{ℕ, if◌then◌else◌, List, ◌++◌, codes, Option, option_map}
use Rattle.std.specs.Option.{option_or}
use Rattle.cache_types.specs.declared.store.Layout.{Layout}
use Rattle.cache_types.specs.declared.store.Layout.TheVariants.{Folder, Database, Foz}
use Rattle.settings_read.specs.Variables.{Environment, value_of, is_true, multi_file, single_file, cache_dir, xdg_cache_home, home}

-- the layout that the variables ask for: many files before a single one, and else a database
abbrev pub layout_of_variables : Environment → Layout
layout_of_variables vars = if is_true vars multi_file then Folder else (if is_true vars single_file then Foz else Database)

-- the folder that the cache's own stands in: the first of three that is set
abbrev pub base_of : Environment → Option (List ℕ)
base_of vars = option_or (value_of vars cache_dir) (option_or (value_of vars xdg_cache_home) (option_map (λ folder. folder ++ codes "/.cache") (value_of vars home)))

-- the cache's own folder
abbrev pub folder_of : Layout → List ℕ
folder_of Folder = codes "mesa_shader_cache"
folder_of Foz = codes "mesa_shader_cache_sf"
folder_of Database = codes "mesa_shader_cache_db"

-- the root of a layout's store in a base
abbrev pub root_in : List ℕ → Layout → List ℕ
root_in base layout = base ++ (codes "/" ++ folder_of layout)

-- a root that is given, else the layout's in the base, if there is one
abbrev pub root_from : Option (List ℕ) → Option (List ℕ) → Layout → Option (List ℕ)
root_from given base layout = option_or given (option_map (λ folder. root_in folder layout) base)
