-- Options: their names, and the values that each may have.
use Rattle.std.specs.Prelude.{ℕ, ◌^◌, Bool, true, false, not, ◌==◌, ◌&&◌, nat_le, List, [], ◌∷◌, length, find, codes, bytes_eq, Option, is_some, option_map}
use Rattle.std.specs.List.{list_all, list_any, slice_split}
use Rattle.std.specs.Option.{option_map_or}
use Rattle.cache_types.specs.declared.store.Layout.{Layout}
use Rattle.cache_types.specs.declared.store.Layout.TheVariants as layouts
use Rattle.cmd_words.specs.declared.option_list.OptionPair.{OptionPair}
use Rattle.cmd_words.specs.Numbers.{is_number_up_to, number_of}

-- any text
abbrev pub is_text : List ℕ → Bool
is_text text = true

-- an id or a GPU name: at most 255 bytes, none of them zero
abbrev pub is_driver_text : List ℕ → Bool
is_driver_text text = nat_le (length text) 255 && list_all (λ byte. not (byte == 0)) text

-- a number below 2^64
abbrev pub is_number : List ℕ → Bool
is_number text = is_some (number_of text)

-- a number of bytes, at most 1 TiB
abbrev pub is_size : List ℕ → Bool
is_size text = is_number_up_to (2 ^ 40) text

-- the layouts, as words name them
abbrev pub layout_names : List (List ℕ × Layout)
layout_names = (codes "folder", layouts.Folder) ∷ (codes "database", layouts.Database) ∷ (codes "foz", layouts.Foz) ∷ []

-- the layout of this name
abbrev pub layout_of : List ℕ → Option Layout
layout_of text = option_map (λ named. named.1) (find (λ named. bytes_eq named.0 text) layout_names)

-- one of the layouts
abbrev pub is_layout : List ℕ → Bool
is_layout text = is_some (layout_of text)

-- at most 64 texts with commas between them
abbrev pub is_meta : List ℕ → Bool
is_meta text = nat_le (length (slice_split (λ byte. byte == 44) text)) 64

-- how a drill is played
abbrev pub mode_names : List (List ℕ)
mode_names = codes "plain" ∷ codes "rogue" ∷ codes "threads" ∷ []

-- one of these
abbrev pub is_mode : List ℕ → Bool
is_mode text = list_any (bytes_eq text) mode_names

-- the options, and which values each may have
abbrev pub option_table : List (List ℕ × (List ℕ → Bool))
option_table = (codes "id", is_driver_text)
    ∷ (codes "gpu", is_driver_text)
    ∷ (codes "flags", is_number)
    ∷ (codes "root", is_text)
    ∷ (codes "layout", is_layout)
    ∷ (codes "limit", is_size)
    ∷ (codes "meta", is_meta)
    ∷ (codes "mode", is_mode)
    ∷ []

-- an option has a value that it may have
abbrev pub has_fit_value : OptionPair → Bool
has_fit_value option = option_map_or (λ row. row.1 option.value) (find (λ row. bytes_eq row.0 option.name) option_table) false

-- an option of this name is among them
abbrev pub has_option : List OptionPair → List ℕ → Bool
has_option options name = list_any (λ option. bytes_eq option.name name) options

-- the value of the option of this name, where there is one
abbrev pub value_of : List OptionPair → List ℕ → Option (List ℕ)
value_of options name = option_map (λ option. option.value) (find (λ option. bytes_eq option.name name) options)

-- no name occurs twice
abbrev pub has_no_repeat : List OptionPair → Bool
has_no_repeat [] = true
has_no_repeat (option ∷ rest) = not (has_option rest option.name) && has_no_repeat rest

-- no value is empty
abbrev pub has_no_empty_value : List OptionPair → Bool
has_no_empty_value options = list_all (λ option. not (length option.value == 0)) options
