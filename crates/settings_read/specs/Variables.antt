-- What the variables of the environment say.
use Rattle.std.specs.Prelude.{ℕ, Bool, false, ◌==◌, if◌then◌else◌, List, [], ◌∷◌, length, map, find, codes, bytes_eq, Option, Some, None, option_map, option_and_then, String, string_bytes}
use Rattle.std.specs.Char.{to_ascii_lowercase}
use Rattle.std.specs.List.{list_any}
use Rattle.std.specs.Option.{option_map_or}

-- ---- their names

-- true turns the cache off
abbrev pub disable : List ℕ
disable = codes "MESA_SHADER_CACHE_DISABLE"

-- true asks for a file for each entry
abbrev pub multi_file : List ℕ
multi_file = codes "MESA_DISK_CACHE_MULTI_FILE"

-- true asks for a Foz database
abbrev pub single_file : List ℕ
single_file = codes "MESA_DISK_CACHE_SINGLE_FILE"

-- the folder that the cache's own stands in
abbrev pub cache_dir : List ℕ
cache_dir = codes "MESA_SHADER_CACHE_DIR"

-- the same, where the first isn't set
abbrev pub xdg_cache_home : List ℕ
xdg_cache_home = codes "XDG_CACHE_HOME"

-- the user's folder, where neither is
abbrev pub home : List ℕ
home = codes "HOME"

-- how large the cache may grow
abbrev pub max_size : List ℕ
max_size = codes "MESA_SHADER_CACHE_MAX_SIZE"

-- names of read-only databases, between commas
abbrev pub read_only : List ℕ
read_only = codes "MESA_DISK_CACHE_READ_ONLY_FOZ_DBS"

-- the path of a file that names more
abbrev pub dynamic_list : List ℕ
dynamic_list = codes "MESA_DISK_CACHE_READ_ONLY_FOZ_DBS_DYNAMIC_LIST"

-- ---- their values

-- pairs of a name and a value
abbrev pub Environment : Type 0
Environment = List (List ℕ × List ℕ)

-- the pairs of texts that were handed in
abbrev pub texts_of : {A : Type 0} → List (String A × String A) → Environment
texts_of pairs = map (λ pair. (string_bytes pair.0, string_bytes pair.1)) pairs

-- the value in the first pair of this name
abbrev pub first_value : Environment → List ℕ → Option (List ℕ)
first_value vars name = option_map (λ pair. pair.1) (find (λ pair. bytes_eq pair.0 name) vars)

-- an empty value counts as unset
abbrev pub unless_empty : List ℕ → Option (List ℕ)
unless_empty value = if length value == 0 then None else Some value

-- the value of a variable, where it is set
abbrev pub value_of : Environment → List ℕ → Option (List ℕ)
value_of vars name = option_and_then unless_empty (first_value vars name)

-- ---- which are true

-- the words for true, in lower case
abbrev pub true_words : List (List ℕ)
true_words = codes "1" ∷ codes "true" ∷ codes "yes" ∷ codes "y" ∷ codes "t" ∷ []

-- a value is one of them, each letter in either case
abbrev pub is_true_word : List ℕ → Bool
is_true_word value = list_any (bytes_eq (map to_ascii_lowercase value)) true_words

-- a variable is set, and true
abbrev pub is_true : Environment → List ℕ → Bool
is_true vars name = option_map_or is_true_word (value_of vars name) false
