-- Scenes that are the same, and the scene after a step.
use Rattle.std.proofs.Common.{◌≡◌, ◌⊎◌, inl, inr, ℕ, ◌+◌, cond, nat_eq, Bool, true, false, List, [], ◌∷◌, length, get_or, Option, Some, None, refl, ap, ◌∙◌}
use mathlib.Core.Path.{fun_ext}
use Rattle.cache_types.specs.declared.seat.Who.{Who}
use Rattle.cache_types.specs.Seats.{same_seat}
use Rattle.file_log.specs.declared.call.Call.{Call}
use Rattle.file_log.specs.declared.call.Call.TheVariants as calls
use Rattle.file_log.specs.declared.item.LogItem.{LogItem}
use Rattle.file_log.specs.declared.item.LogItem.TheVariants as items
use Rattle.file_log.specs.declared.note.Note.TheVariants as notes
use Rattle.file_log.specs.declared.reply.Reply.{Reply}
use Rattle.file_log.specs.declared.reply.Reply.TheVariants as replies
use Rattle.file_log.specs.Exchange.{Answers, MayFail}
use Rattle.file_log.specs.Log.{is_own}
use Rattle.file_log.proofs.All.{seat_self}
use Rattle.file_model.specs.declared.step.Fate.{Fate}
use Rattle.file_model.specs.declared.step.Fate.TheVariants as fates
use Rattle.file_model.specs.declared.step.Progress.{Progress}
use Rattle.file_model.specs.declared.step.Progress.TheVariants as progresses
use Rattle.file_model.specs.Steps.{step_items, StepFits, StepTellsClock, IsFated, HasFailed}
use Rattle.files_api.specs.Drive.{IsWithin}
use Rattle.world_tables.specs.Calls.{TellsClock}
use Rattle.sim_world.specs.declared.seats.Seat.{Seat}
use Rattle.sim_world.specs.declared.seats.Task.{Task}
use Rattle.sim_world.specs.Played.{NeverFails, MayCome, stepped}
use Rattle.sim_world.specs.Scene.{Scene, Activity, Waiting, told}
use Rattle.sim_world.specs.Stages.{activity_of}
use Rattle.sim_world.specs.declared.operation.Brought.TheVariants as brings
use Rattle.sim_world.specs.Steps.{fate_for, fate_of, brought_made, brought_reply, brought_by, IsBrought}
use Rattle.sim_world.specs.Tables.{task_of}
use Rattle.sim_world.proofs.Ordered.{Changes}

-- two scenes are one where their parts are
pub same_scene : (a b : Scene) → a.log ≡ b.log → a.clock ≡ b.clock → ((w : Who) → a.seats w ≡ b.seats w) → ((w : Who) → a.failing w ≡ b.failing w) → ((p : ℕ) → a.queue p ≡ b.queue p) → a ≡ b
same_scene a b log clock seats failing queue =
    ap (λ (x : List LogItem). record { log = x; clock = a.clock; seats = a.seats; failing = a.failing; queue = a.queue }) log
    ∙ ap (λ (x : ℕ). record { log = b.log; clock = x; seats = a.seats; failing = a.failing; queue = a.queue }) clock
    ∙ ap (λ (x : Who → Activity). record { log = b.log; clock = b.clock; seats = x; failing = a.failing; queue = a.queue }) (fun_ext seats)
    ∙ ap (λ (x : Who → Option Bool). record { log = b.log; clock = b.clock; seats = b.seats; failing = x; queue = a.queue }) (fun_ext failing)
    ∙ ap (λ (x : ℕ → List Waiting). record { log = b.log; clock = b.clock; seats = b.seats; failing = b.failing; queue = x }) (fun_ext queue)

-- ---- what a seat is at

at_activity : (b : Bool) (task rest : Option Task) → activity_of (cond b task rest) ≡ cond b (activity_of task) (activity_of rest)
at_activity true task rest = refl
at_activity false task rest = refl

pub activity_then : (who : Who) (task : Option Task) (old new : List Seat) → Changes who task old new → (w : Who) → activity_of (task_of new w) ≡ cond (same_seat w who) (activity_of task) (activity_of (task_of old w))
activity_then who task old new changes w = ap activity_of (changes w) ∙ at_activity (same_seat w who) task (task_of old w)

-- ---- the failure that waits

-- a call that passes a failure by
abbrev PassesBy : Call → Type 0
PassesBy (calls.Close slot) = Unit {0}
PassesBy (calls.Tell note) = Unit {0}
PassesBy call = ⊥

abbrev Fated : Call → Option Bool → Progress → Type 0
Fated call failing progress = IsFated (fate_of call failing) true call progress

not_both : (progress : Progress) → (progress ≡ progresses.Reply replies.Failed → ⊥) → HasFailed true progress → ⊥
not_both progress never (inl e) = never e
not_both progress never (inr e) = let clash : true ≡ false = e.0 in absurd cc

by_fate : (call : Call) (failing : Option Bool) (progress : Progress) → MayFail call → IsFated (fate_for failing) true call progress → (MayFail call → (fate_for failing ≡ fates.NoMemory) → progress ≡ progresses.Reply replies.NoMemory)
    → (progress ≡ progresses.Reply replies.Failed → ⊥) → (progress ≡ progresses.Reply replies.NoMemory → ⊥) → failing ≡ None
by_fate call None progress may fated lacks no_fail no_lack = refl
by_fate call (Some true) progress may fated lacks no_fail no_lack = absurd (no_lack (lacks may refl))
by_fate call (Some false) progress may fated lacks no_fail no_lack = absurd (not_both progress no_fail (fated.fails refl may))

-- none waits where a call that doesn't pass one by was made
unfailed : (call : Call) (failing : Option Bool) (progress : Progress) → Fated call failing progress → (progress ≡ progresses.Reply replies.Failed → ⊥) → (progress ≡ progresses.Reply replies.NoMemory → ⊥) → PassesBy call ⊎ (failing ≡ None)
unfailed (calls.Close slot) failing progress fated no_fail no_lack = inl tt
unfailed (calls.Tell note) failing progress fated no_fail no_lack = inl tt
unfailed (calls.OpenOld slot name) failing progress fated no_fail no_lack = inr (by_fate (calls.OpenOld slot name) failing progress tt fated (λ may e. fated.lacks e tt) no_fail no_lack)
unfailed (calls.OpenNew slot name) failing progress fated no_fail no_lack = inr (by_fate (calls.OpenNew slot name) failing progress tt fated (λ may e. fated.lacks e tt) no_fail no_lack)
unfailed (calls.TryLock slot) failing progress fated no_fail no_lack = inr (by_fate (calls.TryLock slot) failing progress tt fated (λ may e. fated.lacks e tt) no_fail no_lack)
unfailed (calls.Length slot) failing progress fated no_fail no_lack = inr (by_fate (calls.Length slot) failing progress tt fated (λ may e. fated.lacks e tt) no_fail no_lack)
unfailed (calls.ReadAt slot at n) failing progress fated no_fail no_lack = inr (by_fate (calls.ReadAt slot at n) failing progress tt fated (λ may e. fated.lacks e tt) no_fail no_lack)
unfailed (calls.WriteAt slot at bytes) failing progress fated no_fail no_lack = inr (by_fate (calls.WriteAt slot at bytes) failing progress tt fated (λ may e. fated.lacks e tt) no_fail no_lack)
unfailed (calls.Cut slot n) failing progress fated no_fail no_lack = inr (by_fate (calls.Cut slot n) failing progress tt fated (λ may e. fated.lacks e tt) no_fail no_lack)
unfailed (calls.Rename from to) failing progress fated no_fail no_lack = inr (by_fate (calls.Rename from to) failing progress tt fated (λ may e. fated.lacks e tt) no_fail no_lack)
unfailed (calls.Remove name) failing progress fated no_fail no_lack = inr (by_fate (calls.Remove name) failing progress tt fated (λ may e. fated.lacks e tt) no_fail no_lack)
unfailed (calls.ListFolder root byte) failing progress fated no_fail no_lack = inr (by_fate (calls.ListFolder root byte) failing progress tt fated (λ may e. fated.lacks e tt) no_fail no_lack)
unfailed calls.Now failing progress fated no_fail no_lack = inr (by_fate calls.Now failing progress tt fated (λ may e. fated.lacks e tt) no_fail no_lack)
unfailed calls.Pause failing progress fated no_fail no_lack = inr (by_fate calls.Pause failing progress tt fated (λ may e. fated.lacks e tt) no_fail no_lack)

-- a failure of its kind waited for a call that failed
fail_for : (failing : Option Bool) → fate_for failing ≡ fates.Fail → failing ≡ Some false
fail_for None e = absurd cc
fail_for (Some true) e = absurd cc
fail_for (Some false) e = refl

fail_is : (call : Call) (failing : Option Bool) → fate_of call failing ≡ fates.Fail → failing ≡ Some false
fail_is (calls.Close slot) failing e = absurd cc
fail_is (calls.Tell note) failing e = absurd cc
fail_is call failing e = fail_for failing e

-- ---- what was brought

go_brings : (fate : Fate) (reply : Reply) → fate ≡ fates.Go → IsBrought (brought_made reply) → brought_reply fate reply ≡ brings.Item
go_brings fate reply e fine = ap (λ (f : Fate). brought_reply f reply) e ∙ made_brings reply fine
  where
    made_brings : (reply : Reply) → IsBrought (brought_made reply) → brought_made reply ≡ brings.Item
    made_brings replies.NoMemory fine = absurd fine
    made_brings reply fine = refl

go_none : (call : Call) → fate_of call None ≡ fates.Go
go_none (calls.Close slot) = refl
go_none (calls.Tell note) = refl
go_none call = refl

go_passing : (call : Call) (failing : Option Bool) → PassesBy call ⊎ (failing ≡ None) → fate_of call failing ≡ fates.Go
go_passing (calls.Close slot) failing p = refl
go_passing (calls.Tell note) failing p = refl
go_passing call failing (inl never) = absurd never
go_passing call failing (inr e) = ap (λ (f : Option Bool). fate_of call f) e ∙ go_none call

-- a call that was made brought its item
made_item : (call : Call) (failing : Option Bool) (reply : Reply) → PassesBy call ⊎ (failing ≡ None) → IsBrought (brought_made reply) → brought_by (fate_of call failing) (progresses.Reply reply) ≡ brings.Item
made_item call failing reply p fine = go_brings (fate_of call failing) reply (go_passing call failing p) fine

-- one that was refused memory as the schedule asked brought the failure
refused_brings : (fate : Fate) → IsBrought (brought_by fate (progresses.Reply replies.NoMemory)) → brought_by fate (progresses.Reply replies.NoMemory) ≡ brings.Failure
refused_brings fates.Go fine = absurd fine
refused_brings fates.Fail fine = refl
refused_brings fates.NoMemory fine = refl

-- ---- one item of a call

-- the step told this item
pub record Tells (who : Who) (scene : Scene) (failing : Option Bool) (news : List LogItem) : Type 0 where
  pub item : LogItem
  pub news_are : news ≡ item ∷ []
  pub own_item : is_own who item ≡ true
  pub may_come : MayCome scene failing item
  pub plain : stepped scene who item ≡ told scene item

-- or a failure that waited
pub record Fails (who : Who) (failing : Option Bool) (news : List LogItem) : Type 0 where
  pub memory : Bool
  pub news_are : news ≡ items.Failed who memory ∷ []
  pub waited : failing ≡ Some memory

did : (who : Who) (scene : Scene) (failing : Option Bool) (call : Call) (reply : Reply) → NeverFails call ⊎ (failing ≡ None) → TellsClock call scene.clock reply → Tells who scene failing (items.Did who call reply ∷ [])
did who scene failing call reply passes clock = record { item = items.Did who call reply; news_are = refl; own_item = seat_self who; may_come = (passes, clock); plain = refl }

wrote : (who : Who) (scene : Scene) (failing : Option Bool) (slot at value : ℕ) → failing ≡ None → Tells who scene failing (items.Byte who slot at value ∷ [])
wrote who scene failing slot at value none = record { item = items.Byte who slot at value; news_are = refl; own_item = seat_self who; may_come = none; plain = refl }

only_none : (failing : Option Bool) → ⊥ ⊎ (failing ≡ None) → failing ≡ None
only_none failing (inl never) = absurd never
only_none failing (inr e) = e

-- a call whose reply is none of a Tell's
abbrev NoTell : Call → Type 0
NoTell (calls.Tell note) = ⊥
NoTell call = Unit {0}

passes_so : (call : Call) (failing : Option Bool) → NoTell call → PassesBy call ⊎ (failing ≡ None) → NeverFails call ⊎ (failing ≡ None)
passes_so (calls.Close slot) failing fits p = inl tt
passes_so (calls.Tell note) failing fits p = absurd fits
passes_so call failing fits (inl never) = absurd never
passes_so call failing fits (inr e) = inr e

no_missing : (call : Call) → Answers true call replies.Missing → NoTell call
no_missing (calls.OpenOld slot name) fits = tt
no_missing call fits = absurd fits

no_held : (call : Call) → Answers true call replies.Held → NoTell call
no_held (calls.TryLock slot) fits = tt
no_held call fits = absurd fits

no_got : (call : Call) (bytes : List ℕ) → Answers true call (replies.Got bytes) → NoTell call
no_got (calls.ReadAt slot at n) bytes fits = tt
no_got call bytes fits = absurd fits

no_number : (call : Call) (n : ℕ) → Answers true call (replies.Number n) → NoTell call
no_number (calls.Length slot) n fits = tt
no_number calls.Now n fits = tt
no_number call n fits = absurd fits

module _ (who : Who) (scene : Scene) (failing : Option Bool) where
  byte_told : (call : Call) (done : ℕ) → Fated call failing progresses.More → StepFits progresses.More true call done → Tells who scene failing (step_items progresses.More who true call done)
  byte_told (calls.WriteAt slot at bytes) done fated fits =
      wrote who scene failing slot (at + done) (get_or bytes done 0) (only_none failing (unfailed (calls.WriteAt slot at bytes) failing progresses.More fated (λ e. absurd cc) (λ e. absurd cc)))
  byte_told call done fated fits = absurd fits

  done_told : (call : Call) (done : ℕ) → IsWithin call → PassesBy call ⊎ (failing ≡ None) → TellsClock call scene.clock replies.Done → Tells who scene failing (step_items (progresses.Reply replies.Done) who true call done)
  done_told (calls.WriteAt slot at bytes) done within passes clock = by_test (nat_eq (length bytes) 0)
    where
      none : failing ≡ None
      none = only_none failing passes

      by_test : (b : Bool) → Tells who scene failing (cond b (items.Did who (calls.WriteAt slot at bytes) replies.Done ∷ []) (items.Byte who slot (at + done) (get_or bytes done 0) ∷ []))
      by_test true = did who scene failing (calls.WriteAt slot at bytes) replies.Done (inr none) tt
      by_test false = wrote who scene failing slot (at + done) (get_or bytes done 0) none
  done_told (calls.Tell (notes.Evict store driver key)) done within passes clock = record { item = items.Evict who store driver key; news_are = refl; own_item = seat_self who; may_come = tt; plain = refl }
  done_told (calls.Tell (notes.Begin request)) done within passes clock = absurd within
  done_told (calls.Tell (notes.End answer)) done within passes clock = absurd within
  done_told call done within passes clock = did who scene failing call replies.Done (passes_so call failing tt passes) clock

  refused_for : (call : Call) (waits : Option Bool) → failing ≡ waits → MayFail call → IsFated (fate_for waits) true call (progresses.Reply replies.NoMemory) → IsBrought (brought_by (fate_for waits) (progresses.Reply replies.NoMemory)) → Fails who failing (items.Failed who true ∷ [])
  refused_for call None e may fated brought = absurd brought
  refused_for call (Some true) e may fated brought = record { memory = true; news_are = refl; waited = e }
  refused_for call (Some false) e may fated brought = absurd (not_both (progresses.Reply replies.NoMemory) (λ clash. absurd cc) (fated.fails refl may))

  refused_told : (call : Call) (done : ℕ) → Fated call failing (progresses.Reply replies.NoMemory) → IsBrought (brought_by (fate_of call failing) (progresses.Reply replies.NoMemory)) → Fails who failing (step_items (progresses.Reply replies.NoMemory) who true call done)
  refused_told (calls.Close slot) done fated brought = absurd brought
  refused_told (calls.Tell note) done fated brought = absurd brought
  refused_told (calls.OpenOld slot name) done fated brought = refused_for (calls.OpenOld slot name) failing refl tt fated brought
  refused_told (calls.OpenNew slot name) done fated brought = refused_for (calls.OpenNew slot name) failing refl tt fated brought
  refused_told (calls.TryLock slot) done fated brought = refused_for (calls.TryLock slot) failing refl tt fated brought
  refused_told (calls.Length slot) done fated brought = refused_for (calls.Length slot) failing refl tt fated brought
  refused_told (calls.ReadAt slot at n) done fated brought = refused_for (calls.ReadAt slot at n) failing refl tt fated brought
  refused_told (calls.WriteAt slot at bytes) done fated brought = refused_for (calls.WriteAt slot at bytes) failing refl tt fated brought
  refused_told (calls.Cut slot n) done fated brought = refused_for (calls.Cut slot n) failing refl tt fated brought
  refused_told (calls.Rename from to) done fated brought = refused_for (calls.Rename from to) failing refl tt fated brought
  refused_told (calls.Remove name) done fated brought = refused_for (calls.Remove name) failing refl tt fated brought
  refused_told (calls.ListFolder root byte) done fated brought = refused_for (calls.ListFolder root byte) failing refl tt fated brought
  refused_told calls.Now done fated brought = refused_for calls.Now failing refl tt fated brought
  refused_told calls.Pause done fated brought = refused_for calls.Pause failing refl tt fated brought

  -- a step of a call tells one item of it, or the failure that waited
  pub call_told : (progress : Progress) (call : Call) (done : ℕ) → IsWithin call → Fated call failing progress → StepFits progress true call done → StepTellsClock call scene.clock progress → IsBrought (brought_by (fate_of call failing) progress)
      → ((brought_by (fate_of call failing) progress ≡ brings.Item) × Tells who scene failing (step_items progress who true call done)) ⊎ ((brought_by (fate_of call failing) progress ≡ brings.Failure) × Fails who failing (step_items progress who true call done))
  call_told progresses.More call done within fated fits clock brought = inl (refl, byte_told call done fated fits)
  call_told (progresses.Reply replies.Done) call done within fated fits clock brought =
      inl (made_item call failing replies.Done (unfailed call failing (progresses.Reply replies.Done) fated (λ e. absurd cc) (λ e. absurd cc)) tt, done_told call done within (unfailed call failing (progresses.Reply replies.Done) fated (λ e. absurd cc) (λ e. absurd cc)) clock)
  call_told (progresses.Reply replies.Failed) call done within fated fits clock brought = inr (ap (λ (fate : Fate). brought_by fate (progresses.Reply replies.Failed)) (fated.only refl), record { memory = false; news_are = refl; waited = fail_is call failing (fated.only refl) })
  call_told (progresses.Reply replies.NoMemory) call done within fated fits clock brought = inr (refused_brings (fate_of call failing) brought, refused_told call done fated brought)
  call_told (progresses.Reply replies.Missing) call done within fated fits clock brought =
      inl (made_item call failing replies.Missing (unfailed call failing (progresses.Reply replies.Missing) fated (λ e. absurd cc) (λ e. absurd cc)) tt, did who scene failing call replies.Missing (passes_so call failing (no_missing call fits) (unfailed call failing (progresses.Reply replies.Missing) fated (λ e. absurd cc) (λ e. absurd cc))) clock)
  call_told (progresses.Reply replies.Held) call done within fated fits clock brought =
      inl (made_item call failing replies.Held (unfailed call failing (progresses.Reply replies.Held) fated (λ e. absurd cc) (λ e. absurd cc)) tt, did who scene failing call replies.Held (passes_so call failing (no_held call fits) (unfailed call failing (progresses.Reply replies.Held) fated (λ e. absurd cc) (λ e. absurd cc))) clock)
  call_told (progresses.Reply (replies.Got bytes)) call done within fated fits clock brought =
      inl (made_item call failing (replies.Got bytes) (unfailed call failing (progresses.Reply (replies.Got bytes)) fated (λ e. absurd cc) (λ e. absurd cc)) tt, did who scene failing call (replies.Got bytes) (passes_so call failing (no_got call bytes fits) (unfailed call failing (progresses.Reply (replies.Got bytes)) fated (λ e. absurd cc) (λ e. absurd cc))) clock)
  call_told (progresses.Reply (replies.Number n)) call done within fated fits clock brought =
      inl (made_item call failing (replies.Number n) (unfailed call failing (progresses.Reply (replies.Number n)) fated (λ e. absurd cc) (λ e. absurd cc)) tt, did who scene failing call (replies.Number n) (passes_so call failing (no_number call n fits) (unfailed call failing (progresses.Reply (replies.Number n)) fated (λ e. absurd cc) (λ e. absurd cc))) clock)
  call_told (progresses.Reply (replies.Keys keys)) call done within fated fits clock brought =
      inl (made_item call failing (replies.Keys keys) (unfailed call failing (progresses.Reply (replies.Keys keys)) fated (λ e. absurd cc) (λ e. absurd cc)) tt, did who scene failing call (replies.Keys keys) (passes_so call failing (listed call fits) (unfailed call failing (progresses.Reply (replies.Keys keys)) fated (λ e. absurd cc) (λ e. absurd cc))) clock)
    where
      listed : (call : Call) → Answers true call (replies.Keys keys) → NoTell call
      listed (calls.ListFolder root byte) fits = tt
      listed call fits = absurd fits
