-- What the items of a log can hold: bytes are below 256, keys have 20 bytes, a driver is one.
use Rattle.std.specs.Prelude.{◌≡◌, ℕ, ◌<◌, List, length, Option, Some, None}
use Rattle.std.specs.List.{AllByRecursion}
use Rattle.cache_types.specs.Driver.{DriverKeys, IsDriver}
use Rattle.cache_types.specs.declared.key.Key.{Key}
use Rattle.cache_types.specs.declared.meta.Meta.{Meta}
use Rattle.cache_types.specs.declared.meta.Meta.TheVariants as metas
use Rattle.cache_types.specs.declared.name.Name.{Name}
use Rattle.cache_types.specs.declared.name.Name.TheVariants as names
use Rattle.cache_types.specs.declared.request.Request.{Request}
use Rattle.cache_types.specs.declared.request.Request.TheVariants as requests
use Rattle.file_log.specs.declared.call.Call.{Call}
use Rattle.file_log.specs.declared.call.Call.TheVariants as calls

abbrev pub AreBytes : List ℕ → Type 0
AreBytes bytes = AllByRecursion (λ b. b < 256) bytes

abbrev pub IsKey : Key → Type 0
IsKey key = length key.bytes ≡ 20

abbrev pub IsMetaOfKeys : Meta → Type 0
IsMetaOfKeys metas.Unknown = Unit {0}
IsMetaOfKeys (metas.Glsl keys) = AllByRecursion IsKey keys

-- a name of an entry has a key
abbrev pub IsName : Name → Type 0
IsName (names.Entry root key) = IsKey key
IsName (names.Temp root key) = IsKey key
IsName name = Unit {0}

-- the names that a call speaks of are names
abbrev pub CallFits : Call → Type 0
CallFits (calls.OpenOld slot name) = IsName name
CallFits (calls.OpenNew slot name) = IsName name
CallFits (calls.Rename from to) = IsName from × IsName to
CallFits (calls.Remove name) = IsName name
CallFits call = Unit {0}

abbrev pub RequestFits : Request → Type 0
RequestFits (requests.Get store driver key ro) = IsDriver driver × IsKey key
RequestFits (requests.Put store driver key meta blob limit) = IsDriver driver × IsKey key × IsMetaOfKeys meta × AreBytes blob
RequestFits (requests.HasKey root key) = IsKey key
RequestFits (requests.PutKey root key) = IsKey key
RequestFits (requests.Keys store driver) = IsDriver driver
RequestFits request = Unit {0}

abbrev pub TextFits : Option (List ℕ) → Type 0
TextFits None = Unit {0}
TextFits (Some text) = AreBytes text
