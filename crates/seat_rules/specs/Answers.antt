-- Which answers end which requests, and what a request speaks of.
use Rattle.std.specs.Prelude.{ℕ, ◌+◌, Bool, true, false, not, ◌&&◌, ◌||◌, nat_eq, nat_lt, List, length}
use Rattle.cache_types.specs.declared.answer.Answer.{Answer}
use Rattle.cache_types.specs.declared.answer.Answer.TheVariants as answers
use Rattle.cache_types.specs.declared.limits.TheConstants.{MAX_BLOB}
use Rattle.cache_types.specs.declared.request.Request.{Request}
use Rattle.cache_types.specs.declared.request.Request.TheVariants as requests
use Rattle.cache_types.specs.declared.store.Layout.{Layout}
use Rattle.cache_types.specs.declared.store.Layout.TheVariants.{Database, Foz}

-- ---- which answers end which requests

-- all operations of a database wait for its lock
abbrev pub is_database : Layout → Bool
is_database Database = true
is_database layout = false

-- the trim of a Foz store waits for no lock
abbrev pub is_foz : Layout → Bool
is_foz Foz = true
is_foz layout = false

-- an answer that ends every request
abbrev pub ends_any : Answer → Bool
ends_any answers.FilesFault = true
ends_any answers.NoMemory = true
ends_any answer = false

-- the answer is of a kind that ends the request
abbrev pub may_end : Request → Answer → Bool
may_end (requests.Get store driver key ro) (answers.Hit blob) = true
may_end (requests.Get store driver key ro) answers.Miss = true
may_end (requests.Get store driver key ro) answers.Busy = is_database store.layout
may_end (requests.Put store driver key meta blob limit) answers.Stored = true
may_end (requests.Put store driver key meta blob limit) answers.Kept = true
may_end (requests.Put store driver key meta blob limit) (answers.TooLarge n) = true
may_end (requests.Put store driver key meta blob limit) answers.Busy = true
may_end (requests.HasKey root key) answers.Yes = true
may_end (requests.HasKey root key) answers.No = true
may_end (requests.HasKey root key) answers.Busy = true
may_end (requests.PutKey root key) answers.Marked = true
may_end (requests.PutKey root key) answers.Busy = true
may_end (requests.Keys store driver) (answers.Keys keys) = true
may_end (requests.Keys store driver) answers.Busy = is_database store.layout
may_end (requests.Verify store) (answers.Rows rows) = true
may_end (requests.Verify store) answers.Busy = is_database store.layout
may_end (requests.Trim store to) (answers.Trimmed n) = true
may_end (requests.Trim store to) answers.Busy = not (is_foz store.layout)
may_end request answer = ends_any answer

-- a request that may take entries away
abbrev pub may_evict : Request → Bool
may_evict (requests.Put store driver key meta blob limit) = true
may_evict (requests.Trim store to) = true
may_evict request = false

-- ---- what a request speaks of

-- the root that a request speaks of
abbrev pub root_of : Request → ℕ
root_of (requests.Get store driver key ro) = store.root
root_of (requests.Put store driver key meta blob limit) = store.root
root_of (requests.HasKey root key) = root
root_of (requests.PutKey root key) = root
root_of (requests.Keys store driver) = store.root
root_of (requests.Verify store) = store.root
root_of (requests.Trim store to) = store.root

-- a blob is too large, and this is its length, or how much of it was read when that was known
abbrev pub is_too_large : List ℕ → ℕ → Bool
is_too_large blob n = nat_lt MAX_BLOB (length blob) && (nat_eq n (length blob) || nat_eq n (MAX_BLOB + 1))
