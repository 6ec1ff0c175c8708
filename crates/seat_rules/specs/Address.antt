-- What a blob is put under.
use Rattle.std.specs.Prelude.{ℕ}
use Rattle.cache_types.specs.Driver.{DriverKeys}
use Rattle.cache_types.specs.declared.key.Key.{Key}
use Rattle.cache_types.specs.declared.store.Layout.{Layout}
use Rattle.cache_types.specs.declared.store.Store.{Store}

-- what a blob is put under: a store, a driver and a key
pub record Address : Type 0 where
  pub store : Store
  pub driver : DriverKeys
  pub key : Key

-- the address of these parts
abbrev pub address : Store → DriverKeys → Key → Address
address store driver key = record { store = store; driver = driver; key = key }

-- the store of a root that has this layout
abbrev pub store_in : Layout → ℕ → Store
store_in layout root = record { root = root; layout = layout }

-- the address of these in a store of the layout
abbrev pub address_in : Layout → ℕ → DriverKeys → Key → Address
address_in layout root driver key = address (store_in layout root) driver key
