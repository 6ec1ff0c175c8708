-- Calls for which a fault of the plan stands.
use Rattle.std.proofs.Common.{◌≡◌, ℕ, cond, nat_eq, ◌&&◌, Bool, true, false, List, [], ◌∷◌, Some, None, refl, sym, ap, ◌∙◌, inl, inr, ⊎_elim}
use Rattle.cache_types.specs.declared.seat.Who.{Who}
use Rattle.file_log.specs.declared.call.Call.{Call}
use Rattle.file_log.specs.declared.call.Call.TheVariants as calls
use Rattle.file_log.specs.declared.note.Note.{Note}
use Rattle.file_log.specs.declared.note.Note.TheVariants as notes
use Rattle.file_log.specs.declared.reply.Reply.{Reply}
use Rattle.file_log.specs.declared.reply.Reply.TheVariants.{NoMemory}
use Rattle.file_log.specs.Exchange.{MayFail, NoteMayLack}
use Rattle.file_log.specs.Seat.{course_of}
use Rattle.cache_types.specs.Driver.{DriverKeys}
use Rattle.cache_types.specs.declared.key.Key.{Key}
use Rattle.cache_types.specs.declared.request.Request.{Request}
use Rattle.cache_types.specs.declared.store.Store.{Store}
use Rattle.file_model.specs.Held.{Held}
use Rattle.memory_files.specs.declared.plan.Fault.{Fault}
use Rattle.memory_files.specs.declared.plan.Plan.{Plan}
use Rattle.memory_files.specs.Failures.{Fails, IsFailure, failure}
use Rattle.memory_files.specs.Plans.{is_counted, is_tell, stands_for, earliest, fault_for}
use Rattle.memory_files.specs.Seats.{GoesOn, Tells}
use Rattle.memory_files.proofs.Calls.{untold}

-- ---- the fault stands for its call

both : (a b : Bool) → (a && b) ≡ true → b ≡ true
both true b e = e
both false b e = absurd cc

earliest_stands : (number : ℕ) (tell : Bool) (faults : List Fault) (fault : Fault) → earliest number tell faults ≡ Some fault → stands_for number tell fault ≡ true
earliest_stands number tell [] fault e = absurd cc
earliest_stands number tell (x ∷ xs) fault e = by_test (stands_for number tell x) refl e (earliest_stands number tell xs fault)
  where
    by_test : (b : Bool) → stands_for number tell x ≡ b → cond b (Some x) (earliest number tell xs) ≡ Some fault → (earliest number tell xs ≡ Some fault → stands_for number tell fault ≡ true) → stands_for number tell fault ≡ true
    by_test true here e later = let same : x ≡ fault = cc in ap (stands_for number tell) (sym same) ∙ here
    by_test false other e later = later e

counted_stands : (counted tell : Bool) (number : ℕ) (faults : List Fault) (fault : Fault) → cond counted (earliest number tell faults) None ≡ Some fault → tell ≡ true → fault.memory ≡ true
counted_stands true true number faults fault e told = both (nat_eq fault.call number) fault.memory (earliest_stands number true faults fault e)
counted_stands true false number faults fault e told = absurd cc
counted_stands false tell number faults fault e told = absurd cc

-- what stands for a Tell is a want of memory
pub tell_memory : (plan : Plan) (call : Call) (fault : Fault) → fault_for plan call ≡ Some fault → is_tell call ≡ true → fault.memory ≡ true
tell_memory plan call fault e told = counted_stands (is_counted call) (is_tell call) plan.calls plan.faults.items fault e told

-- ---- what it makes of it

begin_may : (inside : Bool) (request : Request) → NoteMayLack inside (notes.Begin request)
begin_may true request = tt
begin_may false request = tt

evict_may : (inside : Bool) (store : Store) (driver : DriverKeys) (key : Key) → NoteMayLack inside (notes.Evict store driver key)
evict_may true store driver key = tt
evict_may false store driver key = tt

pub tell_refused : (me : Who) (call : Call) (w : Held) → is_counted call ≡ true → is_tell call ≡ true → GoesOn me w.past → Tells me call NoMemory w w
tell_refused me (calls.Tell (notes.End answer)) w counted tell goes = absurd cc
tell_refused me (calls.Tell (notes.Begin request)) w counted tell goes = untold me (notes.Begin request) w goes (begin_may (course_of me w.past.log).inside request)
tell_refused me (calls.Tell (notes.Evict store driver key)) w counted tell goes = untold me (notes.Evict store driver key) w goes (evict_may (course_of me w.past.log).inside store driver key)
tell_refused me call w counted tell goes = absurd cc

pub counted_may_fail : (call : Call) → is_counted call ≡ true → ((note : Note) → call ≡ calls.Tell note → ⊥) → MayFail call
counted_may_fail (calls.Close slot) counted other = absurd cc
counted_may_fail (calls.Tell note) counted other = absurd (other note refl)
counted_may_fail call counted other = tt

failure_is : (memory : Bool) (reply : Reply) → reply ≡ failure memory → IsFailure memory reply
failure_is true reply e = e
failure_is false reply e = inl e

refusal_is : (memory : Bool) (reply : Reply) → reply ≡ NoMemory → IsFailure memory reply
refusal_is true reply e = e
refusal_is false reply e = inr e

pub fails_so : (me : Who) (memory : Bool) (reply : Reply) (old new : Held) → Fails me memory reply old new → IsFailure memory reply
fails_so me memory reply old new f = ⊎_elim (λ t. failure_is memory reply t.reply_is) (λ u. refusal_is memory reply u.reply_is) f
