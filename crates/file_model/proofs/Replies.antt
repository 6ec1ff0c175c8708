-- A reply that a call has on a disk is one of its replies.
use Rattle.std.proofs.Common.{◌≡◌, ◌≤◌, ℕ, Bool, List, Option, Some, None, length, take, drop, ap, arith}
use Rattle.std.specs.Prelude.{IsSomeAnd}
use Rattle.std.proofs.lemmas.List.{length-take}
use Rattle.cache_types.specs.declared.key.Key.{Key}
use Rattle.cache_types.specs.declared.seat.Who.{Who}
use Rattle.file_log.specs.declared.call.Call.{Call}
use Rattle.file_log.specs.declared.call.Call.TheVariants as calls
use Rattle.file_log.specs.declared.reply.Reply.{Reply}
use Rattle.file_log.specs.declared.reply.Reply.TheVariants as replies
use Rattle.file_log.specs.Disk.{Disk, bytes_at}
use Rattle.file_log.specs.Exchange.{Answers, MayBeDone, MayBeMissing, MayBeHeld, MayGet, MayNumber, MayList}
use Rattle.file_log.specs.Legal.{IsReply, IsDone, IsMissing, IsHeld, IsGot, IsNumber, IsKeys}
use Rattle.file_model.specs.Calls.{IsNoFailure}

done_fits : (d : Disk) (who : Who) (call : Call) → IsDone d who call → MayBeDone call
done_fits d who (calls.Length slot) p = absurd p
done_fits d who (calls.ReadAt slot at n) p = absurd p
done_fits d who (calls.ListFolder root byte) p = absurd p
done_fits d who calls.Now p = absurd p
done_fits d who call p = tt

missing_fits : (d : Disk) (who : Who) (call : Call) → IsMissing d who call → MayBeMissing call
missing_fits d who (calls.OpenOld slot name) p = tt
missing_fits d who call p = absurd p

held_fits : (d : Disk) (who : Who) (call : Call) → IsHeld d who call → MayBeHeld call
held_fits d who (calls.TryLock slot) p = tt
held_fits d who call p = absurd p

no_longer : (o : Option (List ℕ)) (bytes : List ℕ) (at n : ℕ) → IsSomeAnd o (λ whole. bytes ≡ take n (drop at whole)) → length bytes ≤ n
no_longer None bytes at n p = absurd p
no_longer (Some whole) bytes at n p = omega (arith, ap length p, length-take n (drop at whole))

got_fits : (d : Disk) (who : Who) (call : Call) (bytes : List ℕ) → IsGot d who call bytes → MayGet call (length bytes)
got_fits d who (calls.ReadAt slot at n) bytes p = no_longer (bytes_at d who slot) bytes at n p.1
got_fits d who call bytes p = absurd p

number_fits : (d : Disk) (who : Who) (call : Call) (n : ℕ) → IsNumber d who call n → MayNumber call
number_fits d who (calls.Length slot) n p = tt
number_fits d who calls.Now n p = tt
number_fits d who call n p = absurd p

keys_fit : (d : Disk) (who : Who) (call : Call) (keys : List Key) → IsKeys d who call keys → MayList call
keys_fit d who (calls.ListFolder root byte) keys p = tt
keys_fit d who call keys p = absurd p

pub reply_fits : (d : Disk) (who : Who) (call : Call) (reply : Reply) → IsReply d who call reply → (inside : Bool) → Answers inside call reply × IsNoFailure reply
reply_fits d who call replies.Done p inside = (done_fits d who call p, tt)
reply_fits d who call replies.Missing p inside = (missing_fits d who call p, tt)
reply_fits d who call replies.Held p inside = (held_fits d who call p, tt)
reply_fits d who call (replies.Got bytes) p inside = (got_fits d who call bytes p, tt)
reply_fits d who call (replies.Number n) p inside = (number_fits d who call n p, tt)
reply_fits d who call (replies.Keys keys) p inside = (keys_fit d who call keys p, tt)
reply_fits d who call replies.Failed p inside = absurd p
reply_fits d who call replies.NoMemory p inside = absurd p
