-- What a call that failed makes.
use Rattle.std.proofs.Common.{◌≡◌, ℕ, cond, Bool, true, false, List, [], ◌∷◌, ◌++◌, fold, take, refl, sym, ap, subst, ◌∙◌, append_assoc, ⊎_elim}
use Rattle.std.proofs.lemmas.List.{append-nil}
use Rattle.std.proofs.lemmas.List.Sums.{fold-append}
use Rattle.cache_types.specs.declared.seat.Who.{Who}
use Rattle.file_log.specs.declared.call.Call.{Call}
use Rattle.file_log.specs.declared.call.Call.TheVariants as calls
use Rattle.file_log.specs.declared.reply.Reply.{Reply}
use Rattle.file_log.specs.declared.reply.Reply.TheVariants as replies
use Rattle.file_log.specs.declared.item.LogItem.{LogItem}
use Rattle.file_log.specs.declared.item.LogItem.TheVariants as items
use Rattle.file_log.specs.Disk.{Disk}
use Rattle.file_log.specs.Effect.{applied}
use Rattle.file_log.specs.Exchange.{Answers, Makes, MayFail, items_before}
use Rattle.file_log.specs.Legal.{Legal, IsLegal}
use Rattle.file_log.specs.Seat.{Course, Seen, IsSeen, IsCalm, course_after, course_of, seen_after, seen_failed}
use Rattle.file_log.specs.State.{State, after, state_of, disk_of}
use Rattle.file_log.proofs.All.{seat_self}
use Rattle.file_log.proofs.Logs.{All-append}
use Rattle.file_model.specs.Held.{Held, told}
use Rattle.memory_files.specs.Seats.{seen_on, seen_in, GoesOn, Tells}
use Rattle.memory_files.specs.Failures.{failure, is_inside, FailureTold, FailureUntold, Fails}
use Rattle.memory_files.proofs.Telling.{AreOwn, own-append, state_then, course_then, goes_on_then, tells}
use Rattle.memory_files.proofs.Calls.{run_own, run_seen}

-- ---- what was done before

pub before_own : (me : Who) (call : Call) (k : ℕ) → AreOwn me (items_before me call k)
before_own me (calls.WriteAt slot at bytes) k = run_own me slot at (take k bytes)
before_own me call k = tt

before_seen : (me : Who) (d : Disk) (course : Course) (call : Call) (k : ℕ)
    → IsSeen (seen_on me (fold applied d (items_before me call k)) (fold (course_after me) course (items_before me call k))) (seen_on me d course)
before_seen me d course (calls.WriteAt slot at bytes) k = run_seen me d course slot at (take k bytes)
before_seen me d course call k = record { filled = λ at. refl; inside = refl; hurt = refl }

-- nothing was done
none_before : (me : Who) (call : Call) → items_before me call 0 ≡ []
none_before me (calls.WriteAt slot at bytes) = refl
none_before me call = refl

-- ---- what it makes

failed_fits : (inside : Bool) (call : Call) (memory : Bool) → MayFail call → Answers inside call (failure memory)
failed_fits inside (calls.Close slot) memory may = absurd may
failed_fits inside (calls.Tell note) memory may = absurd may
failed_fits inside call true may = tt
failed_fits inside call false may = tt

failed_seen : (seen : Seen) (call : Call) (memory : Bool) → MayFail call → seen_after seen call (failure memory) ≡ seen_failed seen
failed_seen seen (calls.Tell note) memory may = absurd may
failed_seen seen call true may = refl
failed_seen seen call false may = refl

failed_makes : (me : Who) (inside : Bool) (call : Call) (memory : Bool) (k : ℕ) → MayFail call → (memory ≡ true → inside ≡ true) → Makes me inside call (failure memory) (items_before me call k ++ items.Failed me memory ∷ [])
failed_makes me inside (calls.Tell note) memory k may within = absurd may
failed_makes me inside call false k may within = (k, refl)
failed_makes me inside call true k may within =
    (k, ap (λ (b : Bool). items_before me call k ++ cond b (items.Failed me true ∷ []) []) (sym (within refl)))

refused_makes : (me : Who) (inside : Bool) (call : Call) (k : ℕ) → MayFail call → inside ≡ false → Makes me inside call replies.NoMemory (items_before me call k ++ [])
refused_makes me inside (calls.Tell note) k may out = absurd may
refused_makes me inside call k may out = (k, ap (λ (b : Bool). items_before me call k ++ cond b (items.Failed me true ∷ []) []) (sym out))

-- ---- what the seat has then seen

calm_is : (hurt : Bool) (call : Call) → MayFail call → IsCalm hurt call → hurt ≡ false
calm_is hurt (calls.Close slot) may calm = absurd may
calm_is hurt (calls.Tell note) may calm = absurd may
calm_is hurt call may calm = calm

module _ (me : Who) (call : Call) (k : ℕ) (w : Held) (may : MayFail call) (calm : (course_of me w.past.log).hurt ≡ false) (goes : GoesOn me w.past) (legal : Legal (state_of w.past) (items_before me call k)) where
  abbrev before : List LogItem
  before = items_before me call k

  abbrev course : Course
  course = course_of me w.past.log

  abbrev disk : Disk
  disk = disk_of w.past

  abbrev seen_then : List LogItem → Seen
  seen_then made = seen_on me (fold applied disk made) (fold (course_after me) course made)

  within_still : is_inside me (told w before) ≡ course.inside
  within_still = ap (λ (c : Course). c.inside) (course_then me w.past before) ∙ (before_seen me disk course call k).inside

  hurt_seen : (memory : Bool) → IsSeen (seen_then (before ++ items.Failed me memory ∷ [])) (seen_failed (seen_on me disk course))
  hurt_seen memory =
      let item = items.Failed me memory in
      let d1 : Disk = fold applied disk before in
      let c1 : Course = fold (course_after me) course before in
      let b = before_seen me disk course call k in
      let now : Course = record { inside = c1.inside; hurt = c1.inside } in
      let seen : IsSeen (seen_on me d1 now) (seen_failed (seen_on me disk course)) = record { filled = b.filled; inside = b.inside; hurt = b.inside } in
      let d2 : fold applied disk (before ++ item ∷ []) ≡ d1 = fold-append applied disk before (item ∷ []) in
      let c2 : fold (course_after me) course (before ++ item ∷ []) ≡ now = fold-append (course_after me) course before (item ∷ []) ∙ ap (λ (b : Bool). cond b now c1) (seat_self me) in
      subst (λ (d : Disk). IsSeen (seen_on me d (fold (course_after me) course (before ++ item ∷ []))) (seen_failed (seen_on me disk course))) (sym d2)
      (subst (λ (c : Course). IsSeen (seen_on me d1 c) (seen_failed (seen_on me disk course))) (sym c2) seen)

  told_tells : (memory : Bool) (reply : Reply) (new : Held) → FailureTold me memory reply (told w before) new → Tells me call reply w new
  told_tells memory reply new f =
      let item = items.Failed me memory in
      let made = before ++ item ∷ [] in
      let within : memory ≡ true → course.inside ≡ true = λ yes. sym within_still ∙ f.inside yes in
      let alive : GoesOn me (told w before).past = goes_on_then me w.past before (before_own me call k) goes in
      let after_it : Legal (state_of (told w before).past) (item ∷ []) = ((alive, tt), tt) in
      let whole : Legal (state_of w.past) made = All-append after IsLegal (state_of w.past) before (item ∷ []) legal (subst (λ (s : State). Legal s (item ∷ [])) (state_then w.past before) after_it) in
      let one : Tells me call (failure memory) w (told w made) =
      tells me call (failure memory) w made (failed_fits course.inside call memory may) (failed_makes me course.inside call memory k may within) (own-append me before (item ∷ []) (before_own me call k) (seat_self me, tt)) whole goes
      (subst (IsSeen (seen_then made)) (sym (failed_seen (seen_in me w.past) call memory may)) (hurt_seen memory)) in
      let joined : told w made ≡ new = ap (λ (log : List LogItem). record w { past = record { start = w.past.start; log = log } }) (sym (append_assoc w.past.log before (item ∷ []))) ∙ sym f.told_is in
      subst (λ (r : Reply). Tells me call r w new) (sym f.reply_is) (subst (Tells me call (failure memory) w) joined one)

  untold_tells : (reply : Reply) (new : Held) → FailureUntold me reply (told w before) new → Tells me call reply w new
  untold_tells reply new f =
      let out : course.inside ≡ false = sym within_still ∙ f.outside in
      let b = before_seen me disk course call k in
      let seen : IsSeen (seen_then before) (seen_failed (seen_on me disk course)) = record { filled = b.filled; inside = b.inside; hurt = b.hurt ∙ calm ∙ sym out } in
      let makes : Makes me course.inside call replies.NoMemory before = subst (Makes me course.inside call replies.NoMemory) (append-nil before) (refused_makes me course.inside call k may out) in
      let one : Tells me call replies.NoMemory w (told w before) =
      tells me call replies.NoMemory w before (failed_fits course.inside call true may) makes (before_own me call k) legal goes
      (subst (IsSeen (seen_then before)) (sym (failed_seen (seen_in me w.past) call true may)) seen) in
      subst (λ (r : Reply). Tells me call r w new) (sym f.reply_is) (subst (Tells me call replies.NoMemory w) (sym f.same) one)

  -- a call failed after it had told what it did until then
  pub fails_tells : (memory : Bool) (reply : Reply) (mid new : Held) → mid ≡ told w before → Fails me memory reply mid new → Tells me call reply w new
  fails_tells memory reply mid new is f =
      ⊎_elim (told_tells memory reply new) (untold_tells reply new) (subst (λ (w : Held). Fails me memory reply w new) is f)

-- a write of a part leaves the seat's operation as it was, and its process goes on
pub still_calm : (me : Who) (call : Call) (k : ℕ) (w mid : Held) → (course_of me w.past.log).hurt ≡ false → mid ≡ told w (items_before me call k) → (course_of me mid.past.log).hurt ≡ false
still_calm me call k w mid calm is =
    ap (λ (w : Held). (course_of me w.past.log).hurt) is
    ∙ ap (λ (c : Course). c.hurt) (course_then me w.past (items_before me call k))
    ∙ (before_seen me (disk_of w.past) (course_of me w.past.log) call k).hurt
    ∙ calm

pub still_goes_on : (me : Who) (call : Call) (k : ℕ) (w mid : Held) → GoesOn me w.past → mid ≡ told w (items_before me call k) → GoesOn me mid.past
still_goes_on me call k w mid goes is =
    ap (λ (w : Held). (state_of w.past).halted me.process) is ∙ goes_on_then me w.past (items_before me call k) (before_own me call k) goes

-- nothing was done before it
pub fails_at_once : (me : Who) (call : Call) (w : Held) → MayFail call → IsCalm (course_of me w.past.log).hurt call → GoesOn me w.past → (memory : Bool) (reply : Reply) (new : Held) → Fails me memory reply w new → Tells me call reply w new
fails_at_once me call w may calm goes memory reply new f =
    let none : w ≡ told w (items_before me call 0) = ap (λ (log : List LogItem). record w { past = record { start = w.past.start; log = log } }) (sym (append-nil w.past.log) ∙ ap (λ (xs : List LogItem). w.past.log ++ xs) (sym (none_before me call))) in
    fails_tells me call 0 w may (calm_is (course_of me w.past.log).hurt call may calm) goes (subst (Legal (state_of w.past)) (sym (none_before me call)) tt) memory reply w new none f
