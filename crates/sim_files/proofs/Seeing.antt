-- What an item of a call, and what others' items make of what the seat has seen.
use Rattle.std.proofs.Common.{◌≡◌, ℕ, cond, ◌&&◌, Bool, true, false, nat_eq, List, [], ◌∷◌, ◌++◌, fold, length, take, Option, Some, None, refl, sym, ap, ◌∙◌, subst}
use Rattle.std.specs.Prelude.{is_some}
use Rattle.std.proofs.lemmas.List.Sums.{fold-append}
use Rattle.cache_types.specs.declared.name.Name.{Name}
use Rattle.cache_types.specs.declared.seat.Who.{Who}
use Rattle.cache_types.proofs.Names.{same_name_decides}
use Rattle.disk_laws.proofs.Slots.{other_slots}
use Rattle.file_log.specs.declared.call.Call.{Call}
use Rattle.file_log.specs.declared.call.Call.TheVariants as calls
use Rattle.file_log.specs.declared.note.Note.{Note}
use Rattle.file_log.specs.declared.note.Note.TheVariants as notes
use Rattle.file_log.specs.declared.reply.Reply.{Reply}
use Rattle.file_log.specs.declared.reply.Reply.TheVariants as replies
use Rattle.file_log.specs.declared.item.LogItem.{LogItem}
use Rattle.file_log.specs.declared.item.LogItem.TheVariants as items
use Rattle.file_log.specs.Disk.{Disk, with_slot, made, made_at, rewritten, renamed, locked}
use Rattle.file_log.specs.Effect.{applied, done_call}
use Rattle.file_log.specs.Exchange.{Answers, item_of_note, items_refused}
use Rattle.file_log.specs.Legal.{Legal, IsDone}
use Rattle.file_log.specs.Log.{History, with_items, own, is_own, NoStop}
use Rattle.file_log.specs.Seat.{Seen, Course, IsSeen, MayCall, filled_by, seen_after, seen_failed, course_after, course_of}
use Rattle.file_log.specs.State.{State, state_of, disk_of}
use Rattle.file_log.specs.Writing.{written}
use Rattle.file_log.proofs.All.{seat_self}
use Rattle.file_model.specs.declared.step.Progress.{Progress}
use Rattle.file_model.specs.declared.step.Progress.TheVariants as progresses
use Rattle.file_model.specs.Calls.{filled_of}
use Rattle.file_model.specs.Seeing.{seen_of}
use Rattle.file_model.specs.Steps.{byte_item, done_items, step_items, StepFits}
use Rattle.seat_rules.proofs.Histories.{disk_further}

-- ---- what is seen on a disk

module _ (me : Who) where
  abbrev pub seen_on : Disk → Course → Seen
  seen_on d course = record { filled = filled_of d me; inside = course.inside; hurt = course.hurt }

  -- after these items
  abbrev pub seen_then : Disk → Course → List LogItem → Seen
  seen_then d course news = seen_on (fold applied d news) (fold (course_after me) course news)

  abbrev start : Course
  start = record { inside = false; hurt = false }

  pub seen_further : (h : History) (news : List LogItem) → seen_of me (with_items h news) ≡ seen_then (disk_of h) (course_of me h.log) news
  seen_further h news =
      ap (λ (d : Disk). seen_on d (course_of me (h.log ++ news))) (disk_further h news) ∙ ap (seen_on (fold applied (disk_of h) news)) (fold-append (course_after me) start h.log news)

  same : (seen : Seen) → IsSeen seen seen
  same seen = record { filled = λ at. refl; inside = refl; hurt = refl }

  -- ---- others' items

  others_seen : (d : Disk) (course : Course) (news : List LogItem) → own me news ≡ [] → NoStop me.process news → IsSeen (seen_then d course news) (seen_on d course)
  others_seen d course [] none goes = same (seen_on d course)
  others_seen d course (x ∷ news) none goes = by_test (is_own me x) refl none (λ rest. others_seen (applied d x) (course_after me course x) news rest goes.1)
    where
      by_test : (b : Bool) → is_own me x ≡ b → cond b (x ∷ own me news) (own me news) ≡ [] → (own me news ≡ [] → IsSeen (seen_then d course (x ∷ news)) (seen_on (applied d x) (course_after me course x))) → IsSeen (seen_then d course (x ∷ news)) (seen_on d course)
      by_test true mine clash later = absurd cc
      by_test false other rest later =
          let then = later rest in
          let stays : course_after me course x ≡ course = rw other refl in
          record {
            filled = λ at. then.filled at ∙ ap (λ (o : Option ℕ). is_some o) (other_slots me d x at other goes.0);
            inside = then.inside ∙ ap (λ (c : Course). c.inside) stays;
            hurt = then.hurt ∙ ap (λ (c : Course). c.hurt) stays;
          }

  pub others_leave : (h : History) (news : List LogItem) → own me news ≡ [] → NoStop me.process news → IsSeen (seen_of me (with_items h news)) (seen_of me h)
  others_leave h news none goes = subst (λ (seen : Seen). IsSeen seen (seen_of me h)) (sym (seen_further h news)) (others_seen (disk_of h) (course_of me h.log) news none goes)

  -- ---- slots

  made_slots : (d : Disk) (name : Name) (file : Option ℕ) → (made_at file d name).slots ≡ d.slots
  made_slots d name None = refl
  made_slots d name (Some f) = refl

  write_slots : (d : Disk) (file : Option ℕ) (change : List ℕ → List ℕ) → (rewritten d file change).slots ≡ d.slots
  write_slots d None change = refl
  write_slots d (Some f) change = refl

  lock_slots : (d : Disk) (slot : ℕ) (file : Option ℕ) → (locked d me slot file).slots ≡ d.slots
  lock_slots d slot None = refl
  lock_slots d slot (Some f) = refl

  rename_slots : (d : Disk) (from to : Name) (file : Option ℕ) → (renamed d file from to).slots ≡ d.slots
  rename_slots d from to None = refl
  rename_slots d from to (Some f) = refl

  made_some : (d : Disk) (name : Name) (file : Option ℕ) → d.names name ≡ file → is_some ((made_at file d name).names name) ≡ true
  made_some d name None e = ap (λ (b : Bool). is_some (cond b (Some d.count) (d.names name))) ((same_name_decides name name).1 refl)
  made_some d name (Some f) e = ap (λ (o : Option ℕ). is_some o) e

  slot_set : (d : Disk) (slot : ℕ) (file : Option ℕ) (b : Bool) → is_some file ≡ b → (at : ℕ) → filled_of (with_slot d me slot file) me at ≡ cond (nat_eq slot at) b (filled_of d me at)
  slot_set d slot file b is at = ap (λ (c : Bool). is_some (cond (c && nat_eq slot at) file (d.slots me at))) (seat_self me) ∙ by_place (nat_eq slot at)
    where
      by_place : (c : Bool) → is_some (cond c file (d.slots me at)) ≡ cond c b (filled_of d me at)
      by_place true = is
      by_place false = refl

  same_slots : (d e : Disk) → e.slots ≡ d.slots → (at : ℕ) → filled_of e me at ≡ filled_of d me at
  same_slots d e is at = ap (λ (slots : Who → ℕ → Option ℕ). is_some (slots me at)) is

  -- after a call that was answered Done
  done_slots : (d : Disk) (call : Call) → IsDone d me call → (at : ℕ) → filled_of (done_call d me call) me at ≡ filled_by call (filled_of d me) at
  done_slots d (calls.OpenOld slot name) p at = slot_set d slot (d.names name) true p.1 at
  done_slots d (calls.OpenNew slot name) p at =
      slot_set (made d name) slot ((made d name).names name) true (made_some d name (d.names name) refl) at ∙ ap (λ (b : Bool). cond (nat_eq slot at) true b) (same_slots d (made d name) (made_slots d name (d.names name)) at)
  done_slots d (calls.TryLock slot) p at = same_slots d (locked d me slot (d.slots me slot)) (lock_slots d slot (d.slots me slot)) at
  done_slots d (calls.Cut slot n) p at = same_slots d (rewritten d (d.slots me slot) (take n)) (write_slots d (d.slots me slot) (take n)) at
  done_slots d (calls.Rename from to) p at = same_slots d (renamed d (d.names from) from to) (rename_slots d from to (d.names from)) at
  done_slots d (calls.Close slot) p at = slot_set d slot None false refl at
  done_slots d call p at = refl

  -- ---- one own item

  -- one that leaves the operation as it was
  quiet : (d e : Disk) (course : Course) (x : LogItem) (seen : Seen) → course_after me course x ≡ course → seen.inside ≡ course.inside → seen.hurt ≡ course.hurt → ((at : ℕ) → filled_of e me at ≡ seen.filled at) → IsSeen (seen_on e (course_after me course x)) seen
  quiet d e course x seen still inside hurt filled = record {
    filled = filled;
    inside = ap (λ (c : Course). c.inside) still ∙ sym inside;
    hurt = ap (λ (c : Course). c.hurt) still ∙ sym hurt;
  }

  -- one after which the operation is so
  turned : (d : Disk) (course : Course) (x : LogItem) (seen : Seen) (now : Course) → course_after me course x ≡ now → seen.inside ≡ now.inside → seen.hurt ≡ now.hurt → ((at : ℕ) → filled_of d me at ≡ seen.filled at) → IsSeen (seen_on d (course_after me course x)) seen
  turned d course x seen now is inside hurt filled = record {
    filled = filled;
    inside = ap (λ (c : Course). c.inside) is ∙ sym inside;
    hurt = ap (λ (c : Course). c.hurt) is ∙ sym hurt;
  }

  byte_seen : (d : Disk) (course : Course) (slot at value : ℕ) → IsSeen (seen_then d course (items.Byte me slot at value ∷ [])) (seen_on d course)
  byte_seen d course slot at value =
      let e : Disk = rewritten d (d.slots me slot) (written at (value ∷ [])) in
      quiet d e course (items.Byte me slot at value) (seen_on d course) (rw (seat_self me) refl) refl refl (λ place. same_slots d e (write_slots d (d.slots me slot) (written at (value ∷ []))) place)

  failed_seen : (d : Disk) (course : Course) (memory : Bool) → IsSeen (seen_then d course (items.Failed me memory ∷ [])) (seen_failed (seen_on d course))
  failed_seen d course memory =
      turned d course (items.Failed me memory) (seen_failed (seen_on d course)) (record { inside = course.inside; hurt = course.inside }) (rw (seat_self me) refl) refl refl (λ at. refl)

  note_seen : (d : Disk) (course : Course) (note : Note) → IsSeen (seen_then d course (item_of_note me note ∷ [])) (seen_after (seen_on d course) (calls.Tell note) replies.Done)
  note_seen d course (notes.Begin request) =
      turned d course (items.Begin me request) (seen_after (seen_on d course) (calls.Tell (notes.Begin request)) replies.Done) (record { inside = true; hurt = false }) (rw (seat_self me) refl) refl refl (λ at. refl)
  note_seen d course (notes.Evict store driver key) = quiet d d course (items.Evict me store driver key) (seen_on d course) (rw (seat_self me) refl) refl refl (λ at. refl)
  note_seen d course (notes.End answer) =
      turned d course (items.End me answer) (seen_after (seen_on d course) (calls.Tell (notes.End answer)) replies.Done) (record { inside = false; hurt = false }) (rw (seat_self me) refl) refl refl (λ at. refl)

  -- the item of an empty write, or its last byte
  written_seen : (d : Disk) (course : Course) (slot at : ℕ) (bytes : List ℕ) (done : ℕ) → IsSeen (seen_then d course (done_items me (calls.WriteAt slot at bytes) done)) (seen_on d course)
  written_seen d course slot at bytes done = by_test (nat_eq (length bytes) 0)
    where
      by_test : (c : Bool) → IsSeen (seen_then d course (cond c (items.Did me (calls.WriteAt slot at bytes) replies.Done ∷ []) (byte_item me (calls.WriteAt slot at bytes) done))) (seen_on d course)
      by_test true = quiet d d course (items.Did me (calls.WriteAt slot at bytes) replies.Done) (seen_on d course) (rw (seat_self me) refl) refl refl (λ at. refl)
      by_test false = byte_seen d course slot _ _

  done_seen : (s : State) (course : Course) (call : Call) (done : ℕ) → Legal s (step_items (progresses.Reply replies.Done) me course.inside call done) → IsSeen (seen_then s.disk course (done_items me call done)) (seen_after (seen_on s.disk course) call replies.Done)
  done_seen s course (calls.Tell note) done legal = note_seen s.disk course note
  done_seen s course (calls.WriteAt slot at bytes) done legal = written_seen s.disk course slot at bytes done
  done_seen s course call done legal =
      quiet s.disk (done_call s.disk me call) course (items.Did me call replies.Done) (seen_after (seen_on s.disk course) call replies.Done) (rw (seat_self me) refl) refl refl (done_slots s.disk call legal.0.1.0)

  -- a call that was refused memory, where none had failed
  refused_by : (d : Disk) (course : Course) (b : Bool) → course.inside ≡ b → course.hurt ≡ false → IsSeen (seen_then d course (cond b (items.Failed me true ∷ []) [])) (seen_failed (seen_on d course))
  refused_by d course true e calm = failed_seen d course true
  refused_by d course false e calm = record { filled = λ at. refl; inside = refl; hurt = calm ∙ sym e }

  refused_seen : (d : Disk) (course : Course) (call : Call) → MayCall (seen_on d course) call → Answers course.inside call replies.NoMemory → IsSeen (seen_then d course (items_refused me course.inside call)) (seen_after (seen_on d course) call replies.NoMemory)
  refused_seen d course (calls.Tell note) may fits = same (seen_on d course)
  refused_seen d course (calls.Close slot) may fits = absurd fits
  refused_seen d course call may fits = refused_by d course course.inside refl may.1

  -- ---- one step of a call

  -- what the seat has seen then
  abbrev pub seen_by_step : Seen → Call → Progress → Seen
  seen_by_step seen call progresses.More = seen
  seen_by_step seen call (progresses.Reply reply) = seen_after seen call reply

  more_seen : (d : Disk) (course : Course) (call : Call) (done : ℕ) → IsSeen (seen_then d course (byte_item me call done)) (seen_on d course)
  more_seen d course (calls.WriteAt slot at bytes) done = byte_seen d course slot _ _
  more_seen d course call done = same (seen_on d course)

  did_seen : (d : Disk) (course : Course) (call : Call) (reply : Reply) → applied d (items.Did me call reply) ≡ d → IsSeen (seen_then d course (items.Did me call reply ∷ [])) (seen_on d course)
  did_seen d course call reply still = quiet d (applied d (items.Did me call reply)) course (items.Did me call reply) (seen_on d course) (rw (seat_self me) refl) refl refl (λ at. ap (λ (e : Disk). filled_of e me at) still)

  step_seen : (s : State) (course : Course) (call : Call) (done : ℕ) (progress : Progress) → MayCall (seen_on s.disk course) call → StepFits progress course.inside call done → Legal s (step_items progress me course.inside call done)
      → IsSeen (seen_then s.disk course (step_items progress me course.inside call done)) (seen_by_step (seen_on s.disk course) call progress)
  step_seen s course call done progresses.More may fits legal = more_seen s.disk course call done
  step_seen s course call done (progresses.Reply replies.Done) may fits legal = done_seen s course call done legal
  step_seen s course call done (progresses.Reply replies.Failed) may fits legal = failed_seen s.disk course false
  step_seen s course call done (progresses.Reply replies.NoMemory) may fits legal = refused_seen s.disk course call may fits
  step_seen s course call done (progresses.Reply reply) may fits legal = did_seen s.disk course call reply refl

  pub step_leaves : (h : History) (call : Call) (done : ℕ) (progress : Progress) → MayCall (seen_of me h) call → StepFits progress (course_of me h.log).inside call done → Legal (state_of h) (step_items progress me (course_of me h.log).inside call done)
      → IsSeen (seen_of me (with_items h (step_items progress me (course_of me h.log).inside call done))) (seen_by_step (seen_of me h) call progress)
  step_leaves h call done progress may fits legal =
      subst (λ (seen : Seen). IsSeen seen (seen_by_step (seen_of me h) call progress)) (sym (seen_further h (step_items progress me (course_of me h.log).inside call done)))
      (step_seen (state_of h) (course_of me h.log) call done progress may fits legal)
