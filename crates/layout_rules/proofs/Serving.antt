-- What follows from the rules.
use Rattle.std.proofs.Common.{◌≡◌, List, []}
use Rattle.cache_types.specs.declared.store.Layout.{Layout}
use Rattle.cache_types.specs.declared.store.Layout.TheVariants.{Folder, Database, Foz}
use Rattle.file_log.specs.Legal.{Legal}
use Rattle.file_log.specs.State.{first}
use Rattle.file_log.specs.declared.item.LogItem.{LogItem}
use Rattle.folder_rules.proofs.Served.{folder_served}
use Rattle.layout_rules.specs.Laws.{AreServed}
use Rattle.layout_rules.specs.Parts.{parts}
use Rattle.layout_rules.specs.Places.{Cooperating}
use Rattle.seat_rules.specs.Promises.{Licensed, Found}
use Rattle.seat_rules.specs.Served.{IsServed}
use Rattle.seat_rules.proofs.Finding as finding
use Rattle.seat_rules.proofs.Licensing as licensing
use Rattle.seat_rules.proofs.Limiting.{within_limit}
use Rattle.seat_rules.proofs.Unbuilt.{unbuilt_served}

all_served : (l : Layout) → IsServed l (parts l)
all_served Folder = folder_served
all_served Database = unbuilt_served Database
all_served Foz = unbuilt_served Foz

pub licensed : (log : List LogItem) → Legal (first []) log → Cooperating log → Licensed log
licensed log legal keeps = licensing.licensed parts all_served log legal keeps

pub found : (log : List LogItem) → Legal (first []) log → Cooperating log → Found log
found log legal keeps = finding.found parts all_served log legal keeps

pub served : AreServed
served log legal keeps = (licensed log legal keeps, found log legal keeps, within_limit parts log keeps)
