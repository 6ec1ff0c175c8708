-- The folder layout's part of the rules.
use Rattle.cache_types.specs.declared.seat.Who.{Who}
use Rattle.cache_types.specs.declared.store.Layout.TheVariants.{Folder}
use Rattle.file_log.specs.declared.item.LogItem.{LogItem}
use Rattle.file_log.specs.Log.{History}
use Rattle.folder_rules.specs.Holds.{FolderHolds}
use Rattle.folder_rules.specs.Rules.{EntriesComeByRename}
use Rattle.folder_rules.specs.Whole.{EntriesAreWhole}
use Rattle.seat_rules.specs.Part.{Part, anywhere, LosesNothing}

-- entries come by a rename, and what an entry holds isn't lost
pub record KeepsEntries (h : History) (item : LogItem) (who : Who) : Type 0 where
  pub renamed : EntriesComeByRename h item who
  pub kept : LosesNothing Folder FolderHolds h item who

-- a store holds what its entries' files read as, and gives no other; a miss, and what a put stored or kept, is judged after any of its items
abbrev pub folder_part : Part
folder_part = record {
  holds = FolderHolds;
  gives = FolderHolds;
  fits = λ d root limit. Unit {0};
  whole = EntriesAreWhole;
  keeps = KeepsEntries;
  miss_at = anywhere;
  well_at = anywhere;
}
