-- The settings that variables and words give, and why they give none.
use Rattle.std.specs.Prelude.{◌≡◌, ◌≤◌, ◌<◌, ◌⊎◌, ℕ, true, false, List, [], length, None, IsSome, Result, Err, unwrap_or}
use Rattle.settings_read.specs.declared.cache_settings.CacheSettings.{CacheSettings}
use Rattle.settings_read.specs.declared.cache_settings.SettingsRefusal.{SettingsRefusal}
use Rattle.settings_read.specs.declared.cache_settings.SettingsRefusal.TheVariants.{NoMemory, TooManyReadOnly}
use Rattle.settings_read.specs.declared.overrides.Overrides.{Overrides}
use Rattle.settings_read.specs.Variables.{Environment, is_true, disable}
use Rattle.settings_read.specs.Overridden.{root_of, layout_of, max_of, names_given, list_given}

-- the cache is turned off
abbrev pub IsOff : Environment → Type 0
IsOff vars = is_true vars disable ≡ true

-- it isn't
abbrev pub IsOn : Environment → Type 0
IsOn vars = is_true vars disable ≡ false

-- it is on, and neither the words nor a variable say where
pub record HasNoRoot (vars : Environment) (over : Overrides) : Type 0 where
  pub on : IsOn vars
  pub none : root_of vars over ≡ None

-- it is on and has a root, and so many names are given, more than 8
pub record HasTooMany (vars : Environment) (over : Overrides) (n : ℕ) : Type 0 where
  pub on : IsOn vars
  pub root : IsSome (root_of vars over)
  pub number : n ≡ length (names_given vars)
  pub many : 8 < n

-- this refusal was given, or want of memory stands in its place
abbrev pub Refuses : {T : Type 0} → Result T SettingsRefusal → SettingsRefusal → Type 0
Refuses result refusal = (result ≡ Err refusal) ⊎ (result ≡ Err NoMemory)

-- memory ran out, or these names are too many
abbrev pub IsForNames : List (List ℕ) → SettingsRefusal → Type 0
IsForNames names refusal = (refusal ≡ NoMemory) ⊎ ((refusal ≡ TooManyReadOnly (length names)) × (8 < length names))

-- nothing is to be refused: it is on and has a root, and at most 8 names are given
pub record HasSettings (vars : Environment) (over : Overrides) : Type 0 where
  pub on : IsOn vars
  pub root : IsSome (root_of vars over)
  pub few : length (names_given vars) ≤ 8

-- the settings, each by its rule, where there are any
abbrev pub settings_of : Environment → Overrides → CacheSettings
settings_of vars over = record { root = unwrap_or (root_of vars over) []; layout = layout_of vars over; max = max_of vars over; ro = names_given vars; list = list_given vars }

-- the settings are these, and nothing is to be refused
pub record AreGiven (vars : Environment) (over : Overrides) (settings : CacheSettings) : Type 0 where
  pub allowed : HasSettings vars over
  pub same : settings ≡ settings_of vars over
