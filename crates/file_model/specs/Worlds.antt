-- What the fields of a world mean.
use Rattle.std.specs.Prelude.{◌≤◌, ◌+◌, nat_eq}
use Rattle.std.specs.HashSet.{contains}
use Rattle.file_log.specs.Log.{History}
use Rattle.file_model.specs.declared.world.World.TheInside.{Inside}
use Rattle.file_model.specs.Held.{Held}
use Rattle.file_model.specs.Following.{Follows}
use Rattle.file_model.specs.Operations.{course_in}
use Rattle.file_model.specs.Room.{ends}
use Rattle.world_tables.specs.Room.{closes}
use Rattle.world_tables.specs.Tables.{disk_at}

abbrev pub past_of : Inside → History
past_of w = record { start = w.start.items; log = w.book.items }

abbrev pub view_of : Inside → Held
view_of w = record { past = past_of w; clock = w.clock }

-- the tables are what the log leaves, and memory is there for each Close, End and failure to come
pub record AreKept (w : Inside) : Type 0 where
  pub follows : Follows (past_of w) (disk_at w.tables) (contains nat_eq w.halted) (course_in w.operations)
  pub room : closes w.tables.slots.items + ends w.operations ≤ w.book.room
