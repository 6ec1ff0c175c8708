-- What an answer of a lookup rests on: the seat's own items, whatever others did.
use Rattle.std.specs.Prelude.{◌≡◌, ◌<◌, ◌⊎◌, ℕ, List, [], ◌∷◌, ◌++◌}
use Rattle.std.specs.List.{AllByRecursion}
use Rattle.cache_types.specs.declared.answer.Answer.{Answer}
use Rattle.cache_types.specs.declared.answer.Answer.TheVariants.{Hit, Miss}
use Rattle.cache_types.specs.declared.key.Key.{Key}
use Rattle.cache_types.specs.declared.limits.TheConstants.{MAX_ITEM}
use Rattle.cache_types.specs.declared.name.Name.TheVariants.{Entry}
use Rattle.cache_types.specs.declared.seat.Who.{Who}
use Rattle.cache_types.specs.Driver.{DriverKeys}
use Rattle.file_log.specs.declared.call.Call.TheVariants.{OpenOld, Length, ReadAt, Close}
use Rattle.file_log.specs.declared.item.LogItem.{LogItem}
use Rattle.file_log.specs.declared.item.LogItem.TheVariants.{Did}
use Rattle.file_log.specs.declared.reply.Reply.TheVariants as replies
use Rattle.item_frame.specs.Item.{IsItem, Reads}

module _ (me : Who) (root : ℕ) (key : Key) (made : List LogItem) where
  -- among these items the seat opened the entry's file in a slot, and made this item before it closed the slot
  pub record WithEntry (slot : ℕ) (item : LogItem) : Type 0 where
    pub before : List LogItem
    pub since : List LogItem
    pub later : List LogItem
    pub made_are : made ≡ before ++ Did me (OpenOld slot (Entry root key)) replies.Done ∷ (since ++ item ∷ later)
    pub kept_open : AllByRecursion (λ x. x ≡ Did me (Close slot) replies.Done → ⊥) since

  -- it was told that the entry's file has so many bytes
  abbrev pub HasMeasured : ℕ → ℕ → Type 0
  HasMeasured slot n = WithEntry slot (Did me (Length slot) (replies.Number n))

  -- it read from the start of the entry's file as many bytes as the file had, and got these
  pub record HasRead (bytes : List ℕ) : Type 0 where
    pub slot : ℕ
    pub length : ℕ
    pub measured : HasMeasured slot length
    pub read : WithEntry slot (Did me (ReadAt slot 0 length) (replies.Got bytes))

  -- it opened the entry's file, which wasn't there
  pub record WasMissing : Type 0 where
    pub slot : ℕ
    pub before : List LogItem
    pub later : List LogItem
    pub made_are : made ≡ before ++ Did me (OpenOld slot (Entry root key)) replies.Missing ∷ later

  -- the entry's file was longer than the longest item
  pub record WasTooLong : Type 0 where
    pub slot : ℕ
    pub length : ℕ
    pub long : MAX_ITEM < length
    pub measured : HasMeasured slot length

  -- A hit's blob was read so. A miss came where the file wasn't there or was too long, or where the bytes that were read are no item of
  -- the driver. The other answers rest on nothing that was read.
  abbrev pub RestsOn : DriverKeys → Answer → Type 0
  RestsOn driver (Hit blob) = (bytes : List ℕ) × HasRead bytes × Reads driver bytes blob
  RestsOn driver Miss = WasMissing ⊎ WasTooLong ⊎ ((bytes : List ℕ) × HasRead bytes × (IsItem driver bytes → ⊥))
  RestsOn driver answer = Unit {0}
