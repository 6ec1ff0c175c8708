-- Items of one seat.
use Rattle.std.proofs.Common.{◌≡◌, ◌+◌, ℕ, cond, Bool, true, false, nat_eq, [], ◌∷◌, length, get_or, Option, Some, None, refl, sym, ap, ◌∙◌, subst}
use Rattle.std.proofs.lemmas.Bool.{false≢true}
use Rattle.cache_types.specs.Seats.{same_seat}
use Rattle.cache_types.specs.declared.seat.Who.{Who}
use Rattle.file_log.specs.declared.call.Call.{Call}
use Rattle.file_log.specs.declared.call.Call.TheVariants as calls
use Rattle.file_log.specs.declared.note.Note.TheVariants as notes
use Rattle.file_log.specs.declared.reply.Reply.TheVariants as replies
use Rattle.file_log.specs.declared.item.LogItem.{LogItem}
use Rattle.file_log.specs.declared.item.LogItem.TheVariants as items
use Rattle.file_log.specs.Exchange.{items_refused}
use Rattle.file_log.specs.Log.{seat_of, is_seat, is_own}
use Rattle.file_log.proofs.All.{seat_self}
use Rattle.file_model.specs.declared.step.Progress.{Progress}
use Rattle.file_model.specs.declared.step.Progress.TheVariants as progresses
use Rattle.file_model.specs.Steps.{byte_item, done_items, step_items}
use Rattle.world_tables.proofs.Finds.{same_seat-true}
use Rattle.seat_order.proofs.Orderly.{AreMine}

-- an item of a seat is no other's
pub not_others : (me who : Who) (x : LogItem) → is_own me x ≡ true → same_seat me who ≡ false → is_own who x ≡ false
not_others me who x mine other = by_test (is_own who x) refl
  where
    seat_is : (w : Who) (seat : Option Who) → is_seat w seat ≡ true → seat ≡ Some w
    seat_is w None e = absurd (false≢true e)
    seat_is w (Some who) e = ap (λ (v : Who). Some v) (sym (same_seat-true w who e))

    some_is : (a b : Who) → Some a ≡ Some b → a ≡ b
    some_is a b e = cc

    by_test : (b : Bool) → is_own who x ≡ b → is_own who x ≡ false
    by_test true e =
        let same : me ≡ who = some_is me who (sym (seat_is me (seat_of x) mine) ∙ seat_is who (seat_of x) e) in
        absurd (false≢true (sym other ∙ subst (λ (w : Who). same_seat me w ≡ true) same (seat_self me)))
    by_test false e = e

done_mine : (me : Who) (call : Call) (done : ℕ) → AreMine me (done_items me call done)
done_mine me (calls.WriteAt slot at bytes) done = by_test (nat_eq (length bytes) 0)
  where
    by_test : (b : Bool) → AreMine me (cond b (items.Did me (calls.WriteAt slot at bytes) replies.Done ∷ []) (items.Byte me slot (at + done) (get_or bytes done 0) ∷ []))
    by_test true = (seat_self me, tt)
    by_test false = (seat_self me, tt)
done_mine me (calls.Tell (notes.Begin request)) done = (seat_self me, tt)
done_mine me (calls.Tell (notes.Evict store driver key)) done = (seat_self me, tt)
done_mine me (calls.Tell (notes.End answer)) done = (seat_self me, tt)
done_mine me call done = (seat_self me, tt)

byte_mine : (me : Who) (call : Call) (done : ℕ) → AreMine me (byte_item me call done)
byte_mine me (calls.WriteAt slot at bytes) done = (seat_self me, tt)
byte_mine me call done = tt

failed_mine : (me : Who) (inside : Bool) → AreMine me (cond inside (items.Failed me true ∷ []) [])
failed_mine me true = (seat_self me, tt)
failed_mine me false = tt

refused_mine : (me : Who) (inside : Bool) (call : Call) → AreMine me (items_refused me inside call)
refused_mine me inside (calls.Tell note) = tt
refused_mine me inside call = failed_mine me inside

-- a step makes items of its seat alone, in an operation or not
pub step_mine : (me : Who) (progress : Progress) (inside : Bool) (call : Call) (done : ℕ) → AreMine me (step_items progress me inside call done)
step_mine me progresses.More inside call done = byte_mine me call done
step_mine me (progresses.Reply replies.Done) inside call done = done_mine me call done
step_mine me (progresses.Reply replies.Failed) inside call done = (seat_self me, tt)
step_mine me (progresses.Reply replies.NoMemory) inside call done = refused_mine me inside call
step_mine me (progresses.Reply reply) inside call done = (seat_self me, tt)
