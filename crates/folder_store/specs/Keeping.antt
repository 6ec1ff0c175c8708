-- The rules among seats, kept by a seat's own items.
use Rattle.std.specs.Prelude.{◌≡◌, ℕ, false, List, []}
use Rattle.cache_types.specs.Driver.{DriverKeys}
use Rattle.cache_types.specs.declared.key.Key.{Key}
use Rattle.cache_types.specs.declared.request.Request.{Request}
use Rattle.cache_types.specs.declared.request.Request.TheVariants as requests
use Rattle.cache_types.specs.declared.seat.Who.{Who}
use Rattle.file_log.specs.declared.item.LogItem.{LogItem}
use Rattle.file_log.specs.Along.{All, Keeps}
use Rattle.file_log.specs.Legal.{Legal}
use Rattle.file_log.specs.Log.{History, is_own}
use Rattle.file_log.specs.State.{first, disk_of}
use Rattle.seat_rules.specs.Changes.{with_item}
use Rattle.seat_rules.specs.Address.{address}
use Rattle.layout_rules.specs.Parts.{IsHeld}
use Rattle.seat_rules.specs.Operations.{AfterOne}
use Rattle.layout_rules.specs.Places.{Cooperating}
use Rattle.layout_rules.specs.Rules.{KeepsRules}
use Rattle.folder_rules.specs.Whole.{folder_of}

-- the history began on an empty disk, its log can be, and no place of it breaks a rule
pub record HasKept (h : History) : Type 0 where
  pub empty : h.start ≡ []
  pub legal : Legal (first h.start) h.log
  pub cooperating : Cooperating h.log

-- After such a history none of the seat's new items is the first that breaks a rule, whatever others do between them: their items that keep
-- the rules, stops of their processes, faults.
abbrev pub KeepsRulesAmong : Who → History → List LogItem → Type 0
KeepsRulesAmong me h news = HasKept h → Keeps with_item KeepsRules me h news

-- no new item of another seat breaks a rule
abbrev pub OthersKeepRules : Who → History → List LogItem → Type 0
OthersKeepRules me h news = All with_item (λ h' item. is_own me item ≡ false → KeepsRules h' item) h news

-- after one of the seat's new items the folder store of this root held no blob for the driver and key
abbrev pub WasLacking : Who → ℕ → DriverKeys → Key → History → List LogItem → Type 0
WasLacking me root driver key h news = AfterOne me (λ d. IsHeld d (address (folder_of root) driver key) → ⊥) (disk_of h) news

-- a request to look up this driver and key in the folder store of this root
abbrev pub AsksGet : Request → ℕ → DriverKeys → Key → Type 0
AsksGet (requests.Get store driver' key' ro) root driver key = (store ≡ folder_of root) × (driver' ≡ driver) × (key' ≡ key)
AsksGet request root driver key = ⊥
