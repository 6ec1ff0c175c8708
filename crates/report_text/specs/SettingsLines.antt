-- What the command `settings` prints.
use Rattle.std.specs.Prelude.{ℕ, List, [], ◌∷◌, ◌++◌, codes, decimal, Option, unwrap_or}
use Rattle.std.specs.List.{join_with_byte}
use Rattle.cache_types.specs.declared.store.Layout.{Layout}
use Rattle.cache_types.specs.declared.store.Layout.TheVariants.{Folder, Database, Foz}
use Rattle.settings_read.specs.declared.cache_settings.CacheSettings.{CacheSettings}
use Rattle.report_text.specs.Lines.{line_end}

-- a layout's word
abbrev pub layout_word : Layout → List ℕ
layout_word Folder = codes "folder"
layout_word Database = codes "database"
layout_word Foz = codes "foz"

-- a word, a space and what stands behind it
abbrev pub line_of : List ℕ → List ℕ → List ℕ
line_of word rest = word ++ (codes " " ++ (rest ++ line_end))

-- the names with commas between them, or a dash where there is none
abbrev pub names_or_dash : List (List ℕ) → List ℕ
names_or_dash [] = codes "-"
names_or_dash (name ∷ names) = join_with_byte 44 (name ∷ names)

-- the path, or a dash where there is none
abbrev pub path_or_dash : Option (List ℕ) → List ℕ
path_or_dash path = unwrap_or path (codes "-")

-- the five lines of settings
abbrev pub settings_lines : CacheSettings → List ℕ
settings_lines settings =
    line_of (codes "root") settings.root
    ++ (line_of (codes "layout") (layout_word settings.layout)
    ++ (line_of (codes "max") (decimal settings.max)
    ++ (line_of (codes "read-only") (names_or_dash settings.ro)
    ++ line_of (codes "list") (path_or_dash settings.list))))
