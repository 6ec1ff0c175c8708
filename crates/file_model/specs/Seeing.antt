-- What a world shows of a seat.
use Rattle.std.specs.Prelude.{false, get_or}
use Rattle.cache_types.specs.declared.seat.Who.{Who}
use Rattle.file_log.specs.Log.{History}
use Rattle.file_log.specs.Seat.{Seen, course_of}
use Rattle.file_log.specs.State.{disk_of}
use Rattle.file_model.specs.Calls.{filled_of}
use Rattle.file_model.specs.declared.seen.Seen.{Seen as Shown}

-- what a log says of a seat
abbrev pub seen_of : Who → History → Seen
seen_of who h = record { filled = filled_of (disk_of h) who; inside = (course_of who h.log).inside; hurt = (course_of who h.log).hurt }

-- the same of what a world gave, in the log's words
abbrev pub seen_by : Shown → Seen
seen_by shown = record { filled = λ at. get_or shown.filled at false; inside = shown.inside; hurt = shown.hurt }
