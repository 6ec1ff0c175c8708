-- The slots of a seat are left alone by the items of others, unless its process is stopped.
use Rattle.std.proofs.Common.{◌≡◌, ℕ, false, List, [], ◌∷◌, take, Option, Some, None, refl, ◌∙◌}
use Rattle.cache_types.specs.Seats.{same_seat}
use Rattle.cache_types.specs.declared.name.Name.{Name}
use Rattle.cache_types.specs.declared.seat.Who.{Who}
use Rattle.file_log.specs.declared.call.Call.{Call}
use Rattle.file_log.specs.declared.call.Call.TheVariants as calls
use Rattle.file_log.specs.declared.item.LogItem.{LogItem}
use Rattle.file_log.specs.declared.item.LogItem.TheVariants as items
use Rattle.file_log.specs.declared.reply.Reply.{Reply}
use Rattle.file_log.specs.declared.reply.Reply.TheVariants.{Done}
use Rattle.file_log.specs.Disk.{Disk, with_slot, made_at, rewritten, renamed, locked, listed}
use Rattle.file_log.specs.Effect.{applied, after_call, done_call}
use Rattle.file_log.specs.Log.{is_own, is_stop}
use Rattle.file_log.specs.Writing.{written}

-- ---- changes that fill and empty no slot

made_slots : (file : Option ℕ) (d : Disk) (name : Name) (who : Who) (at : ℕ) → (made_at file d name).slots who at ≡ d.slots who at
made_slots None d name who at = refl
made_slots (Some f) d name who at = refl

rewritten_slots : (d : Disk) (file : Option ℕ) (change : List ℕ → List ℕ) (who : Who) (at : ℕ) → (rewritten d file change).slots who at ≡ d.slots who at
rewritten_slots d None change who at = refl
rewritten_slots d (Some f) change who at = refl

renamed_slots : (d : Disk) (file : Option ℕ) (from to : Name) (who : Who) (at : ℕ) → (renamed d file from to).slots who at ≡ d.slots who at
renamed_slots d None from to who at = refl
renamed_slots d (Some f) from to who at = refl

locked_slots : (d : Disk) (by : Who) (slot : ℕ) (file : Option ℕ) (who : Who) (at : ℕ) → (locked d by slot file).slots who at ≡ d.slots who at
locked_slots d by slot None who at = refl
locked_slots d by slot (Some f) who at = refl

listed_slots : (d : Disk) (text : Option (List ℕ)) (who : Who) (at : ℕ) → (listed d text).slots who at ≡ d.slots who at
listed_slots d None who at = refl
listed_slots d (Some text) who at = refl

-- another seat's slot is filled or emptied
other_slot : (d : Disk) (by me : Who) (slot : ℕ) (file : Option ℕ) (at : ℕ) → same_seat me by ≡ false → (with_slot d by slot file).slots me at ≡ d.slots me at
other_slot d by me slot file at other = rw other refl

-- ---- items

call_slots : (d : Disk) (by me : Who) (call : Call) (at : ℕ) → same_seat me by ≡ false → (done_call d by call).slots me at ≡ d.slots me at
call_slots d by me (calls.OpenOld slot name) at other = other_slot d by me slot (d.names name) at other
call_slots d by me (calls.OpenNew slot name) at other =
    let m : Disk = made_at (d.names name) d name in
    other_slot m by me slot (m.names name) at other ∙ made_slots (d.names name) d name me at
call_slots d by me (calls.TryLock slot) at other = locked_slots d by slot (d.slots by slot) me at
call_slots d by me (calls.Cut slot n) at other = rewritten_slots d (d.slots by slot) (take n) me at
call_slots d by me (calls.Rename from to) at other = renamed_slots d (d.names from) from to me at
call_slots d by me (calls.Close slot) at other = other_slot d by me slot None at other
call_slots d by me call at other = refl

reply_slots : (d : Disk) (by me : Who) (call : Call) (reply : Reply) (at : ℕ) → same_seat me by ≡ false → (after_call d by call reply).slots me at ≡ d.slots me at
reply_slots d by me call Done at other = call_slots d by me call at other
reply_slots d by me call reply at other = refl

pub other_slots : (me : Who) (d : Disk) (item : LogItem) (at : ℕ) → is_own me item ≡ false → is_stop me.process item ≡ false → (applied d item).slots me at ≡ d.slots me at
other_slots me d (items.Did who call reply) at other goes = reply_slots d who me call reply at other
other_slots me d (items.Byte who slot place value) at other goes = rewritten_slots d (d.slots who slot) (written place (value ∷ [])) me at
other_slots me d (items.Stop process) at other goes = rw goes refl
other_slots me d (items.SetList text) at other goes = listed_slots d text me at
other_slots me d item at other goes = refl
