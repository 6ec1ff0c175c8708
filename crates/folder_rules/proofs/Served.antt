-- The folder layout's part satisfies what the rules of all layouts ask of a part.
use Rattle.std.proofs.Common.{◌≡◌, ℕ, List, Option, None, sym, subst}
use Rattle.cache_types.specs.Driver.{DriverKeys}
use Rattle.cache_types.specs.declared.key.Key.{Key}
use Rattle.cache_types.specs.declared.store.Layout.TheVariants.{Folder}
use Rattle.disk_laws.specs.Tidy.{IsTidy}
use Rattle.file_log.specs.Disk.{Disk}
use Rattle.file_log.specs.Effect.{applied}
use Rattle.file_log.specs.Log.{seat_of}
use Rattle.file_log.specs.declared.item.LogItem.{LogItem}
use Rattle.folder_rules.specs.Holds.{FileReads}
use Rattle.folder_rules.specs.Part.{folder_part}
use Rattle.folder_rules.proofs.Entries.{unseated_file}
use Rattle.folder_rules.proofs.Puts.{holds_put}
use Rattle.seat_rules.specs.Part.{IsHeldBy}
use Rattle.seat_rules.specs.Served.{IsServed}
use Rattle.seat_rules.proofs.Lasting.{items_last}

unseated_held : (d : Disk) (item : LogItem) (root : ℕ) (driver : DriverKeys) (key : Key) → IsTidy d → seat_of item ≡ None → IsHeldBy folder_part d root driver key → IsHeldBy folder_part (applied d item) root driver key
unseated_held d item root driver key t none held = (held.0, subst (λ (o : Option (List ℕ)). FileReads o driver held.0) (sym (unseated_file d item root key t none)) held.1)

pub folder_served : IsServed Folder folder_part
folder_served = record {
  held_given = λ d root driver key blob held. held;
  given_put = holds_put;
  lasts = items_last Folder folder_part (λ h item who keeps. keeps.kept) unseated_held;
}
