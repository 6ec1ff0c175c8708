-- What each call that is answered makes, and how it changes what the seat has seen.
use Rattle.std.proofs.Common.{◌≡◌, ◌<◌, ℕ, ◌+◌, cond, nat_eq, nat_lt, ◌&&◌, Bool, true, false, List, [], ◌∷◌, fold, length, take, Option, Some, None, refl, sym, ap, subst, ◌∙◌}
use Rattle.std.specs.Prelude.{is_some}
use Rattle.std.proofs.lemmas.Bool.{eqb-true, lt-ltb}
use Rattle.cache_types.specs.declared.seat.Who.{Who}
use Rattle.cache_types.specs.declared.name.Name.{Name}
use Rattle.cache_types.specs.Seats.{same_seat}
use Rattle.cache_types.proofs.Names.{same_name_decides}
use Rattle.file_log.specs.declared.call.Call.{Call}
use Rattle.file_log.specs.declared.call.Call.TheVariants as calls
use Rattle.file_log.specs.declared.note.Note.{Note}
use Rattle.file_log.specs.declared.note.Note.TheVariants as notes
use Rattle.file_log.specs.declared.reply.Reply.{Reply}
use Rattle.file_log.specs.declared.reply.Reply.TheVariants as replies
use Rattle.file_log.specs.declared.item.LogItem.TheVariants as items
use Rattle.file_log.specs.Disk.{Disk, with_slot, made_at, made, locked, rewritten, renamed}
use Rattle.file_log.specs.Effect.{applied, after_call}
use Rattle.file_log.specs.Exchange.{Answers, Makes, NoteMayLack, byte_items, items_done, item_of_note}
use Rattle.file_log.specs.Legal.{Legal, IsLegal, IsReply}
use Rattle.file_log.specs.Seat.{Seen, Course, IsSeen, SlotFits, course_after, course_of, seen_after}
use Rattle.file_log.specs.State.{state_of, disk_of}
use Rattle.file_log.specs.Writing.{written}
use Rattle.file_log.proofs.All.{seat_self}
use Rattle.file_model.specs.Calls.{MakesOne, IsNoFailure, filled_of}
use Rattle.file_model.specs.Held.{Held, told}
use Rattle.file_model.proofs.Following.{either, run_after, run_courses}
use Rattle.memory_files.specs.Seats.{is_filled, seen_on, seen_in, GoesOn, Tells}
use Rattle.memory_files.proofs.Telling.{AreOwn, tells, tells_nothing}

-- ---- slots

-- of the eight slots these are the disk's
pub of_eight : (d : Disk) (me : Who) (at : ℕ) → at < 8 → is_filled d me at ≡ filled_of d me at
of_eight d me at small = ap (λ (b : Bool). b && filled_of d me at) (lt-ltb at 8 small)

pub slots_fit : (d : Disk) (me : Who) (call : Call) → SlotFits (is_filled d me) call → SlotFits (filled_of d me) call
slots_fit d me (calls.OpenOld slot name) p = (p.0, sym (of_eight d me slot p.0) ∙ p.1)
slots_fit d me (calls.OpenNew slot name) p = (p.0, sym (of_eight d me slot p.0) ∙ p.1)
slots_fit d me (calls.TryLock slot) p = (p.0, sym (of_eight d me slot p.0) ∙ p.1)
slots_fit d me (calls.Length slot) p = (p.0, sym (of_eight d me slot p.0) ∙ p.1)
slots_fit d me (calls.ReadAt slot at n) p = (p.0, sym (of_eight d me slot p.0) ∙ p.1)
slots_fit d me (calls.WriteAt slot at bytes) p = (p.0, sym (of_eight d me slot p.0) ∙ p.1)
slots_fit d me (calls.Cut slot n) p = (p.0, sym (of_eight d me slot p.0) ∙ p.1)
slots_fit d me (calls.Close slot) p = (p.0, sym (of_eight d me slot p.0) ∙ p.1)
slots_fit d me call p = tt

filled_same : (d e : Disk) (me : Who) → d.slots ≡ e.slots → (at : ℕ) → is_filled d me at ≡ is_filled e me at
filled_same d e me same at = ap (λ (slots : Who → ℕ → Option ℕ). nat_lt at 8 && is_some (slots me at)) same

-- a slot is filled with a file, or emptied
slot_set : (d : Disk) (me : Who) (slot : ℕ) (file : Option ℕ) (at : ℕ) → slot < 8 → is_filled (with_slot d me slot file) me at ≡ cond (nat_eq slot at) (is_some file) (is_filled d me at)
slot_set d me slot file at small =
    ap (λ (b : Bool). nat_lt at 8 && is_some (cond (b && nat_eq slot at) file (d.slots me at))) (seat_self me)
    ∙ by_place (nat_eq slot at) refl
  where
    by_place : (b : Bool) → nat_eq slot at ≡ b → (nat_lt at 8 && is_some (cond b file (d.slots me at))) ≡ cond b (is_some file) (is_filled d me at)
    by_place true here = ap (λ (b : Bool). b && is_some file) (ap (λ (n : ℕ). nat_lt n 8) (sym (eqb-true slot at here)) ∙ lt-ltb slot 8 small)
    by_place false other = refl

pub write_slots : (d : Disk) (file : Option ℕ) (change : List ℕ → List ℕ) → (rewritten d file change).slots ≡ d.slots
write_slots d None change = refl
write_slots d (Some f) change = refl

pub lock_slots : (d : Disk) (me : Who) (slot : ℕ) (file : Option ℕ) → (locked d me slot file).slots ≡ d.slots
lock_slots d me slot None = refl
lock_slots d me slot (Some f) = refl

pub rename_slots : (d : Disk) (from to : Name) (file : Option ℕ) → (renamed d file from to).slots ≡ d.slots
rename_slots d from to None = refl
rename_slots d from to (Some f) = refl

pub made_slots : (d : Disk) (name : Name) (file : Option ℕ) → (made_at file d name).slots ≡ d.slots
made_slots d name None = refl
made_slots d name (Some f) = refl

made_some : (d : Disk) (name : Name) (file : Option ℕ) → d.names name ≡ file → is_some ((made_at file d name).names name) ≡ true
made_some d name None e = ap (λ (b : Bool). is_some (cond b (Some d.count) (d.names name))) ((same_name_decides name name).1 refl)
made_some d name (Some f) e = ap (λ (o : Option ℕ). is_some o) e

-- ---- what the seat has then seen

abbrev IsSeenAfter : Who → Disk → Disk → Course → Call → Reply → Type 0
IsSeenAfter me d e course call reply = IsSeen (seen_on me e course) (seen_after (seen_on me d course) call reply)

same_slots : (me : Who) (d e : Disk) (course : Course) (seen : Seen) → e.slots ≡ d.slots → IsSeen (seen_on me d course) seen → IsSeen (seen_on me e course) seen
same_slots me d e course seen same s = record { filled = λ at. filled_same e d me same at ∙ s.filled at; inside = s.inside; hurt = s.hurt }

unchanged : (me : Who) (d : Disk) (course : Course) → IsSeen (seen_on me d course) (seen_on me d course)
unchanged me d course = record { filled = λ at. refl; inside = refl; hurt = refl }

opened : (me : Who) (d e : Disk) (course : Course) (slot : ℕ) (file : Option ℕ) (seen : Seen) → slot < 8 → is_some file ≡ true → e.slots ≡ d.slots
    → ((at : ℕ) → seen.filled at ≡ cond (nat_eq slot at) true (is_filled d me at)) → seen.inside ≡ course.inside → seen.hurt ≡ course.hurt
    → IsSeen (seen_on me (with_slot e me slot file) course) seen
opened me d e course slot file seen small some same filled inside hurt = record {
  filled = λ at. slot_set e me slot file at small ∙ ap (λ (b : Bool). cond (nat_eq slot at) b (is_filled e me at)) some ∙ ap (cond (nat_eq slot at) true) (filled_same e d me same at) ∙ sym (filled at);
  inside = sym inside;
  hurt = sym hurt;
}

did_seen : (me : Who) (d : Disk) (course : Course) (call : Call) (reply : Reply) → MakesOne call → IsNoFailure reply → IsReply d me call reply → IsSeenAfter me d (after_call d me call reply) course call reply
did_seen me d course (calls.OpenOld slot name) replies.Done one fine p = opened me d d course slot (d.names name) _ p.0.small p.1 refl (λ at. refl) refl refl
did_seen me d course (calls.OpenNew slot name) replies.Done one fine p =
    opened me d (made d name) course slot ((made d name).names name) _ p.small (made_some d name (d.names name) refl) (made_slots d name (d.names name)) (λ at. refl) refl refl
did_seen me d course (calls.TryLock slot) replies.Done one fine p = same_slots me d (locked d me slot (d.slots me slot)) course _ (lock_slots d me slot (d.slots me slot)) (unchanged me d course)
did_seen me d course (calls.WriteAt slot at bytes) replies.Done one fine p = unchanged me d course
did_seen me d course (calls.Cut slot n) replies.Done one fine p = same_slots me d (rewritten d (d.slots me slot) (take n)) course _ (write_slots d (d.slots me slot) (take n)) (unchanged me d course)
did_seen me d course (calls.Rename from to) replies.Done one fine p = same_slots me d (renamed d (d.names from) from to) course _ (rename_slots d from to (d.names from)) (unchanged me d course)
did_seen me d course (calls.Remove name) replies.Done one fine p = unchanged me d course
did_seen me d course calls.Pause replies.Done one fine p = unchanged me d course
did_seen me d course (calls.Close slot) replies.Done one fine p = record { filled = λ at. slot_set d me slot None at p.small; inside = refl; hurt = refl }
did_seen me d course (calls.Tell note) reply one fine p = absurd one
did_seen me d course call replies.Done one fine p = absurd p
did_seen me d course call replies.Failed one fine p = absurd fine
did_seen me d course call replies.NoMemory one fine p = absurd fine
did_seen me d course call reply one fine p = unchanged me d course

-- ---- calls of one item

nothing_made : (me : Who) (slot at : ℕ) (bytes : List ℕ) → bytes ≡ [] → items.Did me (calls.WriteAt slot at bytes) replies.Done ∷ [] ≡ items_done me (calls.WriteAt slot at bytes)
nothing_made me slot at bytes none = let P : List ℕ → Type 0 = λ bytes. items.Did me (calls.WriteAt slot at bytes) replies.Done ∷ [] ≡ items_done me (calls.WriteAt slot at bytes) in subst P (sym none) refl

one_made : (me : Who) (call : Call) → MakesOne call → items.Did me call replies.Done ∷ [] ≡ items_done me call
one_made me (calls.WriteAt slot at bytes) one = nothing_made me slot at bytes one
one_made me (calls.Tell note) one = absurd one
one_made me call one = refl

did_makes : (me : Who) (inside : Bool) (call : Call) (reply : Reply) → MakesOne call → IsNoFailure reply → Makes me inside call reply (items.Did me call reply ∷ [])
did_makes me inside call replies.Done one fine = one_made me call one
did_makes me inside call replies.Failed one fine = absurd fine
did_makes me inside call replies.NoMemory one fine = absurd fine
did_makes me inside call reply one fine = refl

-- a call that made one item
pub did_tells : (me : Who) (call : Call) (reply : Reply) (w : Held) → MakesOne call → GoesOn me w.past
    → ((inside : Bool) → Answers inside call reply × IsNoFailure reply) → IsLegal (state_of w.past) (items.Did me call reply)
    → Tells me call reply w (told w (items.Did me call reply ∷ []))
did_tells me call reply w one goes fits legal =
    let course = course_of me w.past.log in
    let d = disk_of w.past in
    let a = fits course.inside in
    tells me call reply w (items.Did me call reply ∷ []) a.0 (did_makes me course.inside call reply one a.1) (seat_self me, tt) (legal, tt) goes
    (subst (λ (c : Course). IsSeen (seen_on me (after_call d me call reply) c) (seen_after (seen_in me w.past) call reply)) (sym (either (same_seat me me) course)) (did_seen me d course call reply one a.1 legal.1.0))

-- ---- notes

note_own : (me : Who) (note : Note) → AreOwn me (item_of_note me note ∷ [])
note_own me (notes.Begin request) = (seat_self me, tt)
note_own me (notes.Evict store driver key) = (seat_self me, tt)
note_own me (notes.End answer) = (seat_self me, tt)

note_seen : (me : Who) (d : Disk) (course : Course) (note : Note) → IsSeen (seen_on me (applied d (item_of_note me note)) (course_after me course (item_of_note me note))) (seen_after (seen_on me d course) (calls.Tell note) replies.Done)
note_seen me d course (notes.Begin request) =
    let now : Course = record { inside = true; hurt = false } in
    subst (λ (b : Bool). IsSeen (seen_on me d (cond b now course)) (seen_on me d now)) (sym (seat_self me)) (unchanged me d now)
note_seen me d course (notes.Evict store driver key) =
    subst (λ (c : Course). IsSeen (seen_on me d c) (seen_on me d course)) (sym (either (same_seat me me) course)) (unchanged me d course)
note_seen me d course (notes.End answer) =
    let now : Course = record { inside = false; hurt = false } in
    subst (λ (b : Bool). IsSeen (seen_on me d (cond b now course)) (seen_on me d now)) (sym (seat_self me)) (unchanged me d now)

-- a note was told
pub note_tells : (me : Who) (note : Note) (w : Held) → GoesOn me w.past → IsLegal (state_of w.past) (item_of_note me note) → Tells me (calls.Tell note) replies.Done w (told w (item_of_note me note ∷ []))
note_tells me note w goes legal =
    tells me (calls.Tell note) replies.Done w (item_of_note me note ∷ []) tt refl (note_own me note) (legal, tt) goes (note_seen me (disk_of w.past) (course_of me w.past.log) note)

-- there was no memory for a note
pub untold : (me : Who) (note : Note) (w : Held) → GoesOn me w.past → NoteMayLack (course_of me w.past.log).inside note → Tells me (calls.Tell note) replies.NoMemory w w
untold me note w goes may = tells_nothing me (calls.Tell note) replies.NoMemory w may (0, refl) goes (unchanged me (disk_of w.past) (course_of me w.past.log))

-- ---- bytes

pub run_own : (me : Who) (slot at : ℕ) (values : List ℕ) → AreOwn me (byte_items me slot at values)
run_own me slot at [] = tt
run_own me slot at (value ∷ values) = (seat_self me, run_own me slot (at + 1) values)

pub run_seen : (me : Who) (d : Disk) (course : Course) (slot at : ℕ) (values : List ℕ)
    → IsSeen (seen_on me (fold applied d (byte_items me slot at values)) (fold (course_after me) course (byte_items me slot at values))) (seen_on me d course)
run_seen me d course slot at values =
    let run = byte_items me slot at values in
    let now : Disk = rewritten d (d.slots me slot) (written at values) in
    subst (λ (e : Disk). IsSeen (seen_on me e (fold (course_after me) course run)) (seen_on me d course)) (sym (run_after d me slot at values))
    (subst (λ (c : Course). IsSeen (seen_on me now c) (seen_on me d course)) (run_courses me slot at values me course)
    (same_slots me d now course (seen_on me d course) (write_slots d (d.slots me slot) (written at values)) (unchanged me d course)))

some_made : (me : Who) (slot at : ℕ) (bytes : List ℕ) → nat_eq (length bytes) 0 ≡ false → byte_items me slot at bytes ≡ items_done me (calls.WriteAt slot at bytes)
some_made me slot at bytes some = ap (λ (b : Bool). cond b (items.Did me (calls.WriteAt slot at bytes) replies.Done ∷ []) (byte_items me slot at bytes)) (sym some)

-- some bytes were written
pub write_tells : (me : Who) (slot at : ℕ) (bytes : List ℕ) (w : Held) → nat_eq (length bytes) 0 ≡ false → GoesOn me w.past → Legal (state_of w.past) (byte_items me slot at bytes)
    → Tells me (calls.WriteAt slot at bytes) replies.Done w (told w (byte_items me slot at bytes))
write_tells me slot at bytes w some goes legal =
    tells me (calls.WriteAt slot at bytes) replies.Done w (byte_items me slot at bytes) tt (some_made me slot at bytes some) (run_own me slot at bytes) legal goes
    (run_seen me (disk_of w.past) (course_of me w.past.log) slot at bytes)
