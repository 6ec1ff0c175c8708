-- The puts that began, by the root and the key that they are under, and there by their addresses.
use Rattle.std.specs.Prelude.{◌≡◌, ℕ, nat_eq, Bool, ◌&&◌, ◌||◌, List, [], ◌++◌, option_map, unwrap_or}
use Rattle.std.specs.List.{list_any}
use Rattle.std.specs.Map.{lookup}
use Rattle.cache_types.specs.declared.key.Key.{Key}
use Rattle.seat_rules.specs.Address.{Address}
use Rattle.log_summary.specs.Summary.{BegunPut}
use Rattle.rule_checks.specs.Tests.{same_key}
use Rattle.world_log.specs.declared.groups.PutGroups.{PutGroups}
use Rattle.world_log.specs.declared.groups.PutPlace.{PutPlace}
use Rattle.world_log.specs.declared.puts_at.PutsAt.{PutsAt}

-- the put of this blob under the address
abbrev pub put_under : Address → List ℕ → BegunPut
put_under at blob = record { at = at; blob = blob }

-- a put into a store of this root under the key
abbrev pub is_put_under : ℕ → Key → BegunPut → Bool
is_put_under root key p = nat_eq p.at.store.root root && same_key p.at.key key

-- some put of those under an address passes
abbrev pub any_put : (BegunPut → Bool) → PutsAt → Bool
any_put test r = test (put_under r.at r.first) || list_any (λ blob. test (put_under r.at blob)) r.later.items

-- the place of this root and key
abbrev pub is_place : ℕ → Key → PutPlace → Bool
is_place root key place = nat_eq root place.root && same_key key place.key

-- the records of a root and a key, none where nothing is kept for them
abbrev pub records_under : ℕ → Key → PutGroups → List PutsAt
records_under root key groups = unwrap_or (option_map (λ records. records.items) (lookup (is_place root key) groups.by_place.entries)) []

-- for each root and key, some put of the records there passes a test exactly where some put under them of these does
abbrev pub AreGrouped : PutGroups → List BegunPut → Type 0
AreGrouped groups puts = (root : ℕ) (key : Key) (test : BegunPut → Bool) → list_any (any_put test) (records_under root key groups) ≡ list_any (λ p. is_put_under root key p && test p) puts

-- these began besides
abbrev pub Gains : PutGroups → PutGroups → List BegunPut → Type 0
Gains old new more = (puts : List BegunPut) → AreGrouped old puts → AreGrouped new (puts ++ more)

-- the same in the records of one root and key
abbrev pub GainsThere : List PutsAt → List PutsAt → List BegunPut → Type 0
GainsThere old new more = (test : BegunPut → Bool) → list_any (any_put test) new ≡ (list_any (any_put test) old || list_any test more)
