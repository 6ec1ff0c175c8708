-- The tests by cases at small logs, of two seats and one key: that each can hold, and that each can fail.
use Rattle.std.proofs.Common.{◌≡◌, ℕ, ◌+◌, true, false, List, [], ◌∷◌, ◌++◌, refl}
use Rattle.cache_types.specs.Driver.{DriverKeys, blob_of}
use Rattle.cache_types.specs.Names.{name_code}
use Rattle.cache_types.specs.declared.answer.Answer.TheVariants as answers
use Rattle.cache_types.specs.declared.key.Key.{Key}
use Rattle.cache_types.specs.declared.meta.Meta.TheVariants.{Unknown}
use Rattle.cache_types.specs.declared.name.Name.TheVariants as names
use Rattle.cache_types.specs.declared.request.Request.TheVariants as requests
use Rattle.cache_types.specs.declared.seat.Who.{Who}
use Rattle.crc_small.specs.Sum.{byte_step}
use Rattle.file_log.specs.declared.call.Call.{Call}
use Rattle.file_log.specs.declared.call.Call.TheVariants as calls
use Rattle.file_log.specs.declared.item.LogItem.{LogItem}
use Rattle.file_log.specs.declared.item.LogItem.TheVariants as items
use Rattle.file_log.specs.declared.reply.Reply.TheVariants.{Done}
use Rattle.folder_rules.specs.Whole.{folder_of}
use Rattle.item_frame.specs.Item.{item_of}
use Rattle.item_frame.specs.Reading.{rest_at, body_at, payload_at}
use Rattle.log_summary.specs.Summary.{summary_of}
use Rattle.rule_cases.specs.Cases.{passes}

abbrev one : Who
one = record { process = 0; seat = 0 }

abbrev two : Who
two = record { process = 1; seat = 0 }

abbrev key : Key
key = record { bytes = 7 ∷ [] }

abbrev driver : DriverKeys
driver = record { id = 1 ∷ []; gpu = 2 ∷ []; flags = 0 }

-- a seat's call that is done
abbrev done : Who → Call → LogItem
done who call = items.Did who call Done

-- ---- a put, step by step

abbrev begins : LogItem
begins = items.Begin one (requests.Put (folder_of 0) driver key Unknown (5 ∷ []) 100)

-- its folder's lock is taken, and its temporary name opened
abbrev locks : List LogItem
locks = done one (calls.OpenNew 0 (names.FolderLock 0 7)) ∷ done one (calls.TryLock 0) ∷ done one (calls.OpenNew 1 (names.Temp 0 key)) ∷ []

-- bytes are written, from a place on
abbrev writes : ℕ → List ℕ → List LogItem
writes at [] = []
writes at (byte ∷ bytes) = items.Byte one 1 at byte ∷ writes (at + 1) bytes

-- its item stands under the temporary name
abbrev ready : List LogItem
ready = locks ++ writes 0 (item_of driver Unknown (5 ∷ []))

abbrev renames : LogItem
renames = done one (calls.Rename (names.Temp 0 key) (names.Entry 0 key))

-- the entry has it
abbrev stored : List LogItem
stored = begins ∷ ready ++ renames ∷ []

-- the entry is told to go
abbrev told : List LogItem
told = stored ++ items.Evict one (folder_of 0) driver key ∷ []

abbrev removes : Who → LogItem
removes who = done who (calls.Remove (names.Entry 0 key))

-- ---- names are made

pub lock_is_made : passes (summary_of []) (done one (calls.OpenNew 0 (names.FolderLock 0 7))) ≡ true
unfolding name_code
lock_is_made = refl

-- but no entry, nor a temporary name without the lock
pub entry_is_not_made : passes (summary_of []) (done one (calls.OpenNew 0 (names.Entry 0 key))) ≡ false
unfolding name_code
entry_is_not_made = refl

pub temporary_is_not_made : passes (summary_of []) (done one (calls.OpenNew 0 (names.Temp 0 key))) ≡ false
unfolding name_code
temporary_is_not_made = refl

-- ---- bytes are written

-- by the lock's holder into the temporary file
pub holder_writes : passes (summary_of locks) (items.Byte one 1 0 9) ≡ true
unfolding name_code
holder_writes = refl

-- not by another seat, nor into a lock's file, nor into an entry's
pub another_does_not : passes (summary_of (locks ++ done two (calls.OpenOld 0 (names.Temp 0 key)) ∷ [])) (items.Byte two 0 0 9) ≡ false
unfolding name_code
another_does_not = refl

pub lock_is_not_written : passes (summary_of locks) (items.Byte one 0 0 9) ≡ false
unfolding name_code
lock_is_not_written = refl

pub entry_is_not_written : passes (summary_of stored) (items.Byte one 1 0 9) ≡ false
unfolding name_code blob_of
entry_is_not_written = refl

-- ---- an entry comes

-- as a whole item of a blob that was put
pub entry_comes : passes (summary_of (begins ∷ ready)) renames ≡ true
unfolding name_code blob_of byte_step rest_at body_at payload_at
entry_comes = refl

-- not where nobody put it, nor before it is whole
pub none_put_it : passes (summary_of ready) renames ≡ false
unfolding name_code blob_of byte_step rest_at body_at payload_at
none_put_it = refl

pub it_is_not_whole : passes (summary_of (begins ∷ locks)) renames ≡ false
unfolding name_code blob_of byte_step rest_at body_at payload_at
it_is_not_whole = refl

-- ---- names go

-- an entry that its holder told to go, and not one that it didn't, nor by another seat
pub evicted_goes : passes (summary_of told) (removes one) ≡ true
unfolding name_code blob_of byte_step rest_at body_at payload_at
evicted_goes = refl

pub unevicted_stays : passes (summary_of stored) (removes one) ≡ false
unfolding name_code blob_of byte_step rest_at body_at payload_at
unevicted_stays = refl

pub another_removes_none : passes (summary_of told) (removes two) ≡ false
unfolding name_code blob_of byte_step rest_at body_at payload_at
another_removes_none = refl

-- a database never
pub database_stays : passes (summary_of (done one (calls.OpenNew 0 (names.Db 0)) ∷ [])) (done one (calls.Remove (names.Db 0))) ≡ false
unfolding name_code
database_stays = refl

-- ---- answers

-- a blob that was stored, and not before it was
pub stored_is_earned : passes (summary_of stored) (items.End one answers.Stored) ≡ true
unfolding name_code blob_of byte_step rest_at body_at payload_at
stored_is_earned = refl

pub stored_is_not_earned : passes (summary_of (begins ∷ ready)) (items.End one answers.Stored) ≡ false
unfolding name_code blob_of byte_step rest_at body_at payload_at
stored_is_not_earned = refl
