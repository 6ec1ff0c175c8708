-- Statuses: their codes, and what the program says of each.
use Rattle.std.specs.Prelude.{ℕ, List, [], ◌++◌, codes, decimal}
use Rattle.report_text.specs.declared.status.Status.{Status}
use Rattle.report_text.specs.declared.status.Status.TheVariants as statuses

-- the program's exit status
abbrev pub code_of : Status → ℕ
code_of statuses.Ok = 0
code_of statuses.Miss = 1
code_of statuses.Usage = 2
code_of statuses.BadKey = 3
code_of statuses.Busy = 4
code_of statuses.ReadFault = 5
code_of statuses.WriteFault = 6
code_of statuses.FilesFault = 7
code_of (statuses.TooLarge n) = 8
code_of statuses.Off = 9
code_of statuses.NoMemory = 10
code_of statuses.Damaged = 11
code_of statuses.NoRoot = 12
code_of statuses.Foreign = 13
code_of (statuses.TooManyReadOnly n) = 14
code_of (statuses.BrokenLog at) = 15
code_of (statuses.BadLine line) = 16
code_of statuses.NotBuilt = 17
code_of (statuses.OtherHistory thread at) = 22

-- what stands on standard error, before its newline
abbrev pub text_of : Status → List ℕ
text_of statuses.Ok = []
text_of statuses.Miss = codes "miss"
text_of statuses.Usage = codes "usage: key, put, get, mark, has, list, verify, trim, settings, batch or drill"
text_of statuses.BadKey = codes "bad key"
text_of statuses.Busy = codes "busy"
text_of statuses.ReadFault = codes "read fault"
text_of statuses.WriteFault = codes "write fault"
text_of statuses.FilesFault = codes "files fault"
text_of (statuses.TooLarge n) = codes "too large: " ++ decimal n
text_of statuses.Off = codes "cache is off"
text_of statuses.NoMemory = codes "no memory"
text_of statuses.Damaged = codes "damaged"
text_of statuses.NoRoot = codes "no cache folder"
text_of statuses.Foreign = codes "not a Foz database"
text_of (statuses.TooManyReadOnly n) = codes "too many read-only databases: " ++ decimal n
text_of (statuses.BrokenLog at) = codes "broken log at " ++ decimal at
text_of (statuses.BadLine line) = codes "bad line " ++ decimal line
text_of statuses.NotBuilt = codes "layout not built"
text_of (statuses.OtherHistory thread at) = codes "other history: thread " ++ (decimal thread ++ (codes " at " ++ decimal at))
