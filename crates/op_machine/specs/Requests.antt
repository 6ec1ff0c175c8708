-- Which requests are served, and by which machine.
use Rattle.std.specs.Prelude.{◌≡◌, ◌≤◌, ◌<◌, false, [], length, Some}
use Rattle.cache_types.specs.declared.answer.Answer.TheVariants.{TooLarge}
use Rattle.cache_types.specs.declared.limits.TheConstants.{MAX_BLOB, MAX_KEYS}
use Rattle.cache_types.specs.declared.request.Request.{Request}
use Rattle.cache_types.specs.declared.request.Request.TheVariants as requests
use Rattle.cache_types.specs.declared.store.Layout.TheVariants.{Folder}
use Rattle.folder_store.specs.Gets.{IsNew}
use Rattle.folder_store.specs.PutPhases.{IsNewPut}
use Rattle.item_frame.specs.Item.{item_of}
use Rattle.item_frame.specs.Writing.{key_count}
use Rattle.op_machine.specs.declared.op.Op.{Op}
use Rattle.op_machine.specs.declared.op.Op.TheVariants as ops

-- Requests whose layout and operation are built: lookups in folder stores that ask no read-only database, and puts into folder
-- stores, with at most 64 keys.
abbrev pub IsBuilt : Request → Type 0
IsBuilt (requests.Get store driver key ro) = (store.layout ≡ Folder) × (ro.names ≡ []) × (ro.list ≡ false)
IsBuilt (requests.Put store driver key meta blob limit) = (store.layout ≡ Folder) × (key_count meta ≤ MAX_KEYS)
IsBuilt request = ⊥

-- a put of a blob that no item can have
abbrev pub IsLargePut : Request → Type 0
IsLargePut (requests.Put store driver key meta blob limit) = MAX_BLOB < length blob
IsLargePut request = ⊥

-- The machine of a request, which has done nothing yet: a lookup's; of a put that of the blob's item, or where the blob is too
-- large the one that answers so.
abbrev pub IsOpOf : Request → Op → Type 0
IsOpOf (requests.Get store driver key ro) (ops.Get m) = IsNew store.root driver key m
IsOpOf (requests.Put store driver key meta blob limit) (ops.Put m) = (length blob ≤ MAX_BLOB) × IsNewPut store.root driver key (item_of driver meta blob) m
IsOpOf (requests.Put store driver key meta blob limit) (ops.Refuse m) = (MAX_BLOB < length blob) × (m.answer ≡ Some (TooLarge (length blob)))
IsOpOf request op = ⊥
