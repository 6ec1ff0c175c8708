-- What the log says of a seat in an operation is what its machine keeps: which slots are filled, and whether a call failed.
use Rattle.std.proofs.Common.{◌≡◌, ◌+◌, ℕ, cond, ◌&&◌, Bool, true, false, nat_eq, List, [], ◌∷◌, length, take, get_or, Option, Some, None, refl, sym, ap, ◌∙◌, subst}
use Rattle.std.specs.Prelude.{is_some}
use Rattle.std.proofs.lemmas.Bool.{false≢true}
use Rattle.std.proofs.lemmas.List.{append-nil}
use Rattle.cache_types.specs.declared.answer.Answer.{Answer}
use Rattle.cache_types.specs.declared.name.Name.{Name}
use Rattle.cache_types.specs.declared.request.Request.{Request}
use Rattle.cache_types.specs.declared.seat.Who.{Who}
use Rattle.cache_types.proofs.Names.{same_name_decides}
use Rattle.disk_laws.proofs.Slots.{other_slots}
use Rattle.file_log.specs.declared.call.Call.{Call}
use Rattle.file_log.specs.declared.call.Call.TheVariants as calls
use Rattle.file_log.specs.declared.item.LogItem.{LogItem}
use Rattle.file_log.specs.declared.item.LogItem.TheVariants as items
use Rattle.file_log.specs.declared.note.Note.TheVariants as notes
use Rattle.file_log.specs.declared.reply.Reply.{Reply}
use Rattle.file_log.specs.declared.reply.Reply.TheVariants as replies
use Rattle.file_log.specs.Disk.{Disk, with_slot, made, made_at, rewritten, renamed, locked}
use Rattle.file_log.specs.Effect.{applied, done_call}
use Rattle.file_log.specs.Exchange.{Answers}
use Rattle.file_log.specs.Legal.{Legal, IsDone}
use Rattle.file_log.specs.Log.{History, with_items, is_own, is_stop}
use Rattle.file_log.specs.Seat.{MayCall, SlotFits, IsCalm, filled_by, seen_after, Course, course_after, course_of}
use Rattle.file_log.specs.State.{state_of, disk_of}
use Rattle.file_log.specs.Writing.{written}
use Rattle.file_log.proofs.All.{seat_self}
use Rattle.file_model.specs.declared.step.Progress.TheVariants as progresses
use Rattle.file_model.specs.Calls.{filled_of}
use Rattle.file_model.specs.Seeing.{seen_of}
use Rattle.file_model.specs.Steps.{step_items}
use Rattle.files_api.specs.declared.machine.Step.{Step}
use Rattle.files_api.specs.declared.machine.Step.TheVariants.{Ask, Done}
use Rattle.files_api.specs.Drive.{seen_in, IsWithin, Allows, Goes, Moves}
use Rattle.seat_rules.specs.Changes.{with_item}
use Rattle.seat_rules.proofs.Histories.{disk_then}
use Rattle.folder_store.proofs.Keeping.{course_then}
use Rattle.op_machine.specs.declared.op.Op.{Op}
use Rattle.op_machine.specs.Machine.{right, asks, asked, Fed, slots, hurt, left, allowed, goes_on, stays}
use Rattle.seat_order.specs.Slots.{HasSlots, HasNone, HasThose}

-- ---- changes that fill and empty no slot

made_slots : (d : Disk) (name : Name) (file : Option ℕ) → (made_at file d name).slots ≡ d.slots
made_slots d name None = refl
made_slots d name (Some f) = refl

write_slots : (d : Disk) (file : Option ℕ) (change : List ℕ → List ℕ) → (rewritten d file change).slots ≡ d.slots
write_slots d None change = refl
write_slots d (Some f) change = refl

lock_slots : (d : Disk) (me : Who) (slot : ℕ) (file : Option ℕ) → (locked d me slot file).slots ≡ d.slots
lock_slots d me slot None = refl
lock_slots d me slot (Some f) = refl

rename_slots : (d : Disk) (from to : Name) (file : Option ℕ) → (renamed d file from to).slots ≡ d.slots
rename_slots d from to None = refl
rename_slots d from to (Some f) = refl

made_some : (d : Disk) (name : Name) (file : Option ℕ) → d.names name ≡ file → is_some ((made_at file d name).names name) ≡ true
made_some d name None e = ap (λ (b : Bool). is_some (cond b (Some d.count) (d.names name))) ((same_name_decides name name).1 refl)
made_some d name (Some f) e = ap (λ (o : Option ℕ). is_some o) e

-- ---- what a machine may ask its seat may

slots_fit : (f g : ℕ → Bool) (call : Call) → ((at : ℕ) → f at ≡ g at) → SlotFits g call → SlotFits f call
slots_fit f g (calls.OpenOld slot name) same p = (p.0, same slot ∙ p.1)
slots_fit f g (calls.OpenNew slot name) same p = (p.0, same slot ∙ p.1)
slots_fit f g (calls.TryLock slot) same p = (p.0, same slot ∙ p.1)
slots_fit f g (calls.Length slot) same p = (p.0, same slot ∙ p.1)
slots_fit f g (calls.ReadAt slot at n) same p = (p.0, same slot ∙ p.1)
slots_fit f g (calls.WriteAt slot at bytes) same p = (p.0, same slot ∙ p.1)
slots_fit f g (calls.Cut slot n) same p = (p.0, same slot ∙ p.1)
slots_fit f g (calls.Close slot) same p = (p.0, same slot ∙ p.1)
slots_fit f g call same p = tt

calm_too : (h m : Bool) → (h ≡ true → m ≡ true) → m ≡ false → h ≡ false
calm_too true m cover e = absurd (false≢true (sym e ∙ cover refl))
calm_too false m cover e = refl

calm : (h m : Bool) (call : Call) → (h ≡ true → m ≡ true) → IsCalm m call → IsCalm h call
calm h m (calls.Close slot) cover c = tt
calm h m (calls.Tell note) cover c = tt
calm h m call cover c = calm_too h m cover c

module _ (me : Who) where
  pub may_ask : (f : ℕ → Bool) (b : Bool) (call : Call) (h : History) → HasSlots me f b h → MayCall (seen_in f b) call → MayCall (seen_of me h) call
  may_ask f b call h s may = (slots_fit (filled_of (disk_of h) me) f call s.filled may.0, calm (course_of me h.log).hurt b call s.covers may.1)

  -- ---- one item

  -- one that leaves the operation as it was
  kept : (f g : ℕ → Bool) (b : Bool) (h : History) (x : LogItem) → HasSlots me f b h → course_after me (course_of me h.log) x ≡ course_of me h.log → ((at : ℕ) → filled_of (applied (disk_of h) x) me at ≡ g at) → HasSlots me g b (with_item h x)
  kept f g b h x s same filled = record {
    filled = λ at. ap (λ (d : Disk). filled_of d me at) (disk_then h x) ∙ filled at;
    inside = ap (λ (c : Course). c.inside) (course_then me h x ∙ same) ∙ s.inside;
    covers = λ e. s.covers (sym (ap (λ (c : Course). c.hurt) (course_then me h x ∙ same)) ∙ e);
  }

  pub other_keeps : (f : ℕ → Bool) (b : Bool) (h : History) (x : LogItem) → HasSlots me f b h → is_own me x ≡ false → is_stop me.process x ≡ false → HasSlots me f b (with_item h x)
  other_keeps f b h x s other goes = kept f f b h x s (rw other refl) (λ at. ap (λ (o : Option ℕ). is_some o) (other_slots me (disk_of h) x at other goes) ∙ s.filled at)

  pub none_other : (h : History) (x : LogItem) → HasNone me h → is_own me x ≡ false → is_stop me.process x ≡ false → HasNone me (with_item h x)
  none_other h x none other goes = λ at. ap (λ (d : Disk). filled_of d me at) (disk_then h x) ∙ ap (λ (o : Option ℕ). is_some o) (other_slots me (disk_of h) x at other goes) ∙ none at

  -- one that leaves the disk as it was
  pub none_still : (h : History) (x : LogItem) → HasNone me h → applied (disk_of h) x ≡ disk_of h → HasNone me (with_item h x)
  none_still h x none same = λ at. ap (λ (d : Disk). filled_of d me at) (disk_then h x ∙ same) ∙ none at

  pub byte_keeps : (f : ℕ → Bool) (b : Bool) (h : History) (slot at value : ℕ) → HasSlots me f b h → HasSlots me f b (with_item h (items.Byte me slot at value))
  byte_keeps f b h slot at value s =
      kept f f b h (items.Byte me slot at value) s (rw (seat_self me) refl) (λ place. ap (λ (slots : Who → ℕ → Option ℕ). is_some (slots me place)) (write_slots (disk_of h) ((disk_of h).slots me slot) (written at (value ∷ []))) ∙ s.filled place)

  failed_keeps : (f : ℕ → Bool) (b memory : Bool) (h : History) → HasSlots me f b h → HasSlots me f true (with_item h (items.Failed me memory))
  failed_keeps f b memory h s = record {
    filled = λ at. ap (λ (d : Disk). filled_of d me at) (disk_then h (items.Failed me memory)) ∙ s.filled at;
    inside = ap (λ (c : Course). c.inside) (course_then me h (items.Failed me memory)) ∙ rw (seat_self me) s.inside;
    covers = λ e. refl;
  }

  -- its Begin
  pub begun_has : (request : Request) (h : History) → HasNone me h → HasSlots me (λ at. false) false (with_item h (items.Begin me request))
  begun_has request h none = record {
    filled = none_still h (items.Begin me request) none refl;
    inside = ap (λ (c : Course). c.inside) (course_then me h (items.Begin me request)) ∙ rw (seat_self me) refl;
    covers = λ e. absurd (false≢true (sym (ap (λ (c : Course). c.hurt) (course_then me h (items.Begin me request)) ∙ rw (seat_self me) refl) ∙ e));
  }

  -- ---- a call that is answered

  slot_set : (d : Disk) (slot : ℕ) (file : Option ℕ) (f : ℕ → Bool) (b : Bool) → is_some file ≡ b → ((at : ℕ) → filled_of d me at ≡ f at) → (at : ℕ) → filled_of (with_slot d me slot file) me at ≡ cond (nat_eq slot at) b (f at)
  slot_set d slot file f b is filled at = ap (λ (c : Bool). is_some (cond (c && nat_eq slot at) file (d.slots me at))) (seat_self me) ∙ by_place (nat_eq slot at)
    where
      by_place : (c : Bool) → is_some (cond c file (d.slots me at)) ≡ cond c b (f at)
      by_place true = is
      by_place false = filled at

  same_slots : (d e : Disk) (f : ℕ → Bool) → e.slots ≡ d.slots → ((at : ℕ) → filled_of d me at ≡ f at) → (at : ℕ) → filled_of e me at ≡ f at
  same_slots d e f same filled at = ap (λ (slots : Who → ℕ → Option ℕ). is_some (slots me at)) same ∙ filled at

  did_slots : (d : Disk) (call : Call) (f : ℕ → Bool) → ((at : ℕ) → filled_of d me at ≡ f at) → IsDone d me call → (at : ℕ) → filled_of (done_call d me call) me at ≡ filled_by call f at
  did_slots d (calls.OpenOld slot name) f filled p = slot_set d slot (d.names name) f true p.1 filled
  did_slots d (calls.OpenNew slot name) f filled p =
      slot_set (made d name) slot ((made d name).names name) f true (made_some d name (d.names name) refl) (same_slots d (made d name) f (made_slots d name (d.names name)) filled)
  did_slots d (calls.TryLock slot) f filled p = same_slots d (locked d me slot (d.slots me slot)) f (lock_slots d me slot (d.slots me slot)) filled
  did_slots d (calls.Cut slot n) f filled p = same_slots d (rewritten d (d.slots me slot) (take n)) f (write_slots d (d.slots me slot) (take n)) filled
  did_slots d (calls.Rename from to) f filled p = same_slots d (renamed d (d.names from) from to) f (rename_slots d from to (d.names from)) filled
  did_slots d (calls.Close slot) f filled p = slot_set d slot None f false refl filled
  did_slots d call f filled p = filled

  -- what it has then
  abbrev Had : (ℕ → Bool) → Bool → Call → Reply → History → List LogItem → Type 0
  Had f b call reply h news = HasSlots me (λ at. (seen_after (seen_in f b) call reply).filled at) (seen_after (seen_in f b) call reply).hurt (with_items h news)

  abbrev did : Call → Reply → LogItem
  did call reply = items.Did me call reply

  did_done : (f : ℕ → Bool) (b : Bool) (call : Call) (done : ℕ) (h : History) → HasSlots me f b h → IsWithin call → Legal (state_of h) (step_items (progresses.Reply replies.Done) me true call done) → Had f b call replies.Done h (step_items (progresses.Reply replies.Done) me true call done)
  did_done f b (calls.Tell (notes.Evict store driver key)) done h s within legal = kept f f b h (items.Evict me store driver key) s (rw (seat_self me) refl) s.filled
  did_done f b (calls.Tell (notes.Begin request)) done h s within legal = absurd within
  did_done f b (calls.Tell (notes.End answer)) done h s within legal = absurd within
  did_done f b (calls.WriteAt slot at bytes) done h s within legal = by_test (nat_eq (length bytes) 0)
    where
      call : Call
      call = calls.WriteAt slot at bytes

      by_test : (c : Bool) → HasSlots me f b (with_items h (cond c (items.Did me (calls.WriteAt slot at bytes) replies.Done ∷ []) (items.Byte me slot (at + done) (get_or bytes done 0) ∷ [])))
      by_test true = kept f f b h (did (calls.WriteAt slot at bytes) replies.Done) s (rw (seat_self me) refl) s.filled
      by_test false = byte_keeps f b h slot (at + done) (get_or bytes done 0) s
  did_done f b call done h s within legal = kept f (λ at. filled_by call f at) b h (did call replies.Done) s (rw (seat_self me) refl) (did_slots (disk_of h) call f s.filled legal.0.1.0)

  refused : (f : ℕ → Bool) (b : Bool) (call : Call) (done : ℕ) (h : History) → HasSlots me f b h → Had f b call replies.NoMemory h (step_items (progresses.Reply replies.NoMemory) me true call done)
  refused f b (calls.Tell note) done h s = subst (λ (log : List LogItem). HasSlots me f b (record { start = h.start; log = log })) (sym (append-nil h.log)) s
  refused f b call done h s = failed_keeps f b true h s

  seen_then : (f : ℕ → Bool) (b : Bool) (call : Call) (reply : Reply) (done : ℕ) (h : History) → HasSlots me f b h → IsWithin call → Legal (state_of h) (step_items (progresses.Reply reply) me true call done) → Had f b call reply h (step_items (progresses.Reply reply) me true call done)
  seen_then f b call replies.Done done h s within legal = did_done f b call done h s within legal
  seen_then f b call replies.Failed done h s within legal = failed_keeps f b false h s
  seen_then f b call replies.NoMemory done h s within legal = refused f b call done h s
  seen_then f b call reply done h s within legal = kept f f b h (did call reply) s (rw (seat_self me) refl) s.filled

  -- ---- of a machine

  asks_allowed : (m : Op) (call : Call) → right m → asks m ≡ Ask call → Allows (slots m) (hurt m) (Ask call)
  asks_allowed m call r e = subst (Allows (slots m) (hurt m)) e (allowed m r)

  -- another seat's item, and a byte of its own
  pub those_stay : (m : Op) (h : History) (x : LogItem) → HasThose me m h → is_own me x ≡ false → is_stop me.process x ≡ false → HasThose me m (with_item h x)
  those_stay m h x s other goes = (s.0, other_keeps (slots m) (hurt m) h x s.1 other goes)

  pub those_write : (m : Op) (h : History) (slot at value : ℕ) → HasThose me m h → HasThose me m (with_item h (items.Byte me slot at value))
  those_write m h slot at value s = (s.0, byte_keeps (slots m) (hurt m) h slot at value s.1)

  -- what it asks for the seat may ask
  pub machine_may : (m : Op) (call : Call) (h : History) → asks m ≡ Ask call → HasThose me m h → MayCall (seen_of me h) call
  machine_may m call h e s = may_ask (slots m) (hurt m) call h s.1 (asks_allowed m call s.0 e).0

  -- once it is done no slot is filled
  pub machine_done : (m : Op) (given : Answer) (h : History) → asks m ≡ Done given → HasThose me m h → HasSlots me (λ at. false) true h
  machine_done m given h e s =
      let none : Allows (slots m) (hurt m) (Done given) = subst (Allows (slots m) (hurt m)) e (allowed m s.0) in
      record { filled = λ at. s.1.filled at ∙ none at; inside = s.1.inside; covers = λ failed. refl }

  -- a machine that was fed the reply has the slots that the call left
  pub machine_goes : (m n : Op) (call : Call) (reply : Reply) (done : ℕ) (h : History) → asks m ≡ Ask call → HasThose me m h → Fed (asked m) reply n → Answers true call reply → Legal (state_of h) (step_items (progresses.Reply reply) me true call done)
      → HasThose me n (with_items h (step_items (progresses.Reply reply) me true call done))
  machine_goes m n call reply done h e s fed fits legal =
      let within : IsWithin call = (asks_allowed m call s.0 e).1 in
      let moves : Moves (slots m) (hurt m) (left m) call reply (slots n) (hurt n) (left n) = subst (λ (a : Step). Goes (slots m) (hurt m) (left m) a reply (slots n) (hurt n) (left n)) e (goes_on m n reply s.0 fed) fits in
      let had = seen_then (slots m) (hurt m) call reply done h s.1 within legal in
      (stays m n call reply s.0 e fits fed, record { filled = λ at. had.filled at ∙ sym (moves.filled at); inside = had.inside; covers = λ failed. moves.covers (had.covers failed) })
