-- Calls that only look, and the one item that each of them makes.
use Rattle.std.proofs.Common.{◌≡◌, true, false, List, [], ◌∷◌}
use Rattle.cache_types.specs.declared.seat.Who.{Who}
use Rattle.file_log.specs.declared.call.Call.{Call}
use Rattle.file_log.specs.declared.call.Call.TheVariants as calls
use Rattle.file_log.specs.declared.item.LogItem.{LogItem}
use Rattle.file_log.specs.declared.item.LogItem.TheVariants as items
use Rattle.file_log.specs.declared.reply.Reply.{Reply}
use Rattle.file_log.specs.declared.reply.Reply.TheVariants as replies
use Rattle.file_log.specs.Exchange.{Makes}
use Rattle.files_api.specs.Drive.{IsWithin}

-- a call that opens a file that is there, looks at it or closes it
abbrev pub IsLooking : Call → Type 0
IsLooking (calls.OpenOld slot name) = Unit {0}
IsLooking (calls.Length slot) = Unit {0}
IsLooking (calls.ReadAt slot at n) = Unit {0}
IsLooking (calls.Close slot) = Unit {0}
IsLooking call = ⊥

-- its item
abbrev pub item_for : Who → Call → Reply → LogItem
item_for me call replies.Failed = items.Failed me false
item_for me call replies.NoMemory = items.Failed me true
item_for me call reply = items.Did me call reply

pub makes_one : (me : Who) (call : Call) (reply : Reply) (made : List LogItem) → IsLooking call → Makes me true call reply made → made ≡ item_for me call reply ∷ []
makes_one me (calls.OpenOld slot name) replies.Failed made look makes = makes.1
makes_one me (calls.OpenOld slot name) replies.NoMemory made look makes = makes.1
makes_one me (calls.OpenOld slot name) reply made look makes = makes
makes_one me (calls.Length slot) replies.Failed made look makes = makes.1
makes_one me (calls.Length slot) replies.NoMemory made look makes = makes.1
makes_one me (calls.Length slot) reply made look makes = makes
makes_one me (calls.ReadAt slot at n) replies.Failed made look makes = makes.1
makes_one me (calls.ReadAt slot at n) replies.NoMemory made look makes = makes.1
makes_one me (calls.ReadAt slot at n) reply made look makes = makes
makes_one me (calls.Close slot) replies.Failed made look makes = makes.1
makes_one me (calls.Close slot) replies.NoMemory made look makes = makes.1
makes_one me (calls.Close slot) reply made look makes = makes
makes_one me call reply made look makes = absurd look

pub looking_within : (call : Call) → IsLooking call → IsWithin call
looking_within (calls.OpenOld slot name) look = tt
looking_within (calls.Length slot) look = tt
looking_within (calls.ReadAt slot at n) look = tt
looking_within (calls.Close slot) look = tt
looking_within call look = absurd look
