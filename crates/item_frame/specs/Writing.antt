-- What an item is made of.
use Rattle.std.specs.Prelude.{ℕ, length}
use Rattle.cache_types.specs.declared.meta.Meta.{Meta}
use Rattle.cache_types.specs.declared.meta.Meta.TheVariants.{Unknown, Glsl}

-- how many keys a meta has
abbrev pub key_count : Meta → ℕ
key_count Unknown = 0
key_count (Glsl keys) = length keys
