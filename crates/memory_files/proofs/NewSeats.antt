-- A seat that has no items has no slot filled and no operation open.
use Rattle.std.proofs.Common.{◌≡◌, ℕ, cond, nat_eq, ◌&&◌, ◌||◌, Bool, true, false, List, [], ◌∷◌, fold, take, Option, Some, None, refl, sym, ap, ◌∙◌}
use Rattle.std.specs.Prelude.{◌≢◌, is_some}
use Rattle.std.proofs.lemmas.Bool.{eqb-true}
use Rattle.cache_types.specs.declared.seat.Who.{Who}
use Rattle.cache_types.specs.Seats.{same_seat}
use Rattle.file_log.specs.declared.call.Call.{Call}
use Rattle.file_log.specs.declared.call.Call.TheVariants as calls
use Rattle.file_log.specs.declared.item.LogItem.{LogItem}
use Rattle.file_log.specs.declared.item.LogItem.TheVariants as items
use Rattle.file_log.specs.declared.reply.Reply.{Reply}
use Rattle.file_log.specs.declared.reply.Reply.TheVariants.{Done}
use Rattle.file_log.specs.Disk.{Disk, made}
use Rattle.file_log.specs.Effect.{applied, after_call, done_call}
use Rattle.file_log.specs.Log.{is_own, own}
use Rattle.file_log.specs.Seat.{Course, course_by, course_after, course_of}
use Rattle.file_log.specs.State.{State, first, after, state_of, disk_of}
use Rattle.file_log.specs.Writing.{written}
use Rattle.file_model.specs.Held.{Held, first_of}
use Rattle.memory_files.specs.Seats.{GoesOn}
use Rattle.memory_files.specs.Stopped.{stopped_at}
use Rattle.memory_files.proofs.Calls.{write_slots, lock_slots, rename_slots, made_slots}
use Rattle.memory_files.proofs.Telling.{state_then, course_then}

abbrev Slots : Type 0
Slots = Who → ℕ → Option ℕ

-- ---- slots

other_call : (me who : Who) (at : ℕ) (d : Disk) (call : Call) → same_seat me who ≡ false → (done_call d who call).slots me at ≡ d.slots me at
other_call me who at d (calls.OpenOld slot name) other = ap (λ (b : Bool). cond (b && nat_eq slot at) (d.names name) (d.slots me at)) other
other_call me who at d (calls.OpenNew slot name) other =
    ap (λ (b : Bool). cond (b && nat_eq slot at) ((made d name).names name) ((made d name).slots me at)) other
    ∙ ap (λ (slots : Slots). slots me at) (made_slots d name (d.names name))
other_call me who at d (calls.TryLock slot) other = ap (λ (slots : Slots). slots me at) (lock_slots d who slot (d.slots who slot))
other_call me who at d (calls.Cut slot n) other = ap (λ (slots : Slots). slots me at) (write_slots d (d.slots who slot) (take n))
other_call me who at d (calls.Rename from to) other = ap (λ (slots : Slots). slots me at) (rename_slots d from to (d.names from))
other_call me who at d (calls.Close slot) other = ap (λ (b : Bool). cond (b && nat_eq slot at) None (d.slots me at)) other
other_call me who at d call other = refl

other_reply : (me who : Who) (at : ℕ) (d : Disk) (call : Call) (reply : Reply) → same_seat me who ≡ false → (after_call d who call reply).slots me at ≡ d.slots me at
other_reply me who at d call Done other = other_call me who at d call other
other_reply me who at d call reply other = refl

abbrev IsEmpty : Option ℕ → Type 0
IsEmpty file = file ≡ None

emptied : (b : Bool) (file : Option ℕ) → IsEmpty file → IsEmpty (cond b None file)
emptied true file e = refl
emptied false file e = e

stays_empty : (me : Who) (at : ℕ) (d : Disk) (item : LogItem) → is_own me item ≡ false → IsEmpty (d.slots me at) → IsEmpty ((applied d item).slots me at)
stays_empty me at d (items.Did who call reply) other e = other_reply me who at d call reply other ∙ e
stays_empty me at d (items.Byte who slot place value) other e = ap (λ (slots : Slots). slots me at) (write_slots d (d.slots who slot) (written place (value ∷ []))) ∙ e
stays_empty me at d (items.Stop process) other e = emptied (nat_eq me.process process) (d.slots me at) e
stays_empty me at d (items.SetList None) other e = e
stays_empty me at d (items.SetList (Some text)) other e = e
stays_empty me at d item other e = e

-- ---- a log without own items

others : (b : Bool) (item : LogItem) (log : List LogItem) → cond b (item ∷ log) log ≡ [] → (b ≡ false) × (log ≡ [])
others true item log e = absurd cc
others false item log e = (refl, e)

empty_after : (me : Who) (at : ℕ) (s : State) (log : List LogItem) → own me log ≡ [] → IsEmpty (s.disk.slots me at) → IsEmpty ((fold after s log).disk.slots me at)
empty_after me at s [] none e = e
empty_after me at s (item ∷ log) none e =
    let other = others (is_own me item) item (own me log) none in
    empty_after me at (after s item) log other.1 (stays_empty me at s.disk item other.0 e)

course_stays : (me : Who) (c : Course) (log : List LogItem) → own me log ≡ [] → fold (course_after me) c log ≡ c
course_stays me c [] none = refl
course_stays me c (item ∷ log) none =
    let other = others (is_own me item) item (own me log) none in
    course_stays me (course_after me c item) log other.1 ∙ ap (λ (b : Bool). cond b (course_by c item) c) other.0

-- ---- after the end of a process

pub empty_then : (me : Who) (at n process : ℕ) (held : Held) → own me (take n held.past.log) ≡ [] → is_some ((disk_of (stopped_at n process held).past).slots me at) ≡ false
empty_then me at n process held none =
    let h = (first_of n held).past in
    ap (λ (s : State). is_some (s.disk.slots me at)) (state_then h (items.Stop process ∷ []))
    ∙ ap is_some (emptied (nat_eq me.process process) ((state_of h).disk.slots me at) (empty_after me at (first held.past.start) (take n held.past.log) none refl))

going : (q old : Bool) → q ≡ false → old ≡ false → (q || old) ≡ false
going true old e h = absurd cc
going false old e h = h

another : (a b : ℕ) → a ≢ b → nat_eq a b ≡ false
another a b other = apart (nat_eq a b) refl
  where
    apart : (q : Bool) → nat_eq a b ≡ q → q ≡ false
    apart false e = refl
    apart true e = absurd (other (eqb-true a b e))

-- its process goes on, if it went on before and is another
pub goes_on_after_stop : (me : Who) (n process : ℕ) (held : Held) → me.process ≢ process → GoesOn me (first_of n held).past → GoesOn me (stopped_at n process held).past
goes_on_after_stop me n process held other goes_on =
    let h = (first_of n held).past in
    ap (λ (s : State). s.halted me.process) (state_then h (items.Stop process ∷ [])) ∙ going (nat_eq process me.process) ((state_of h).halted me.process) (another process me.process (λ e. other (sym e))) goes_on

pub outside_then : (me : Who) (n process : ℕ) (held : Held) → own me (take n held.past.log) ≡ [] → (course_of me (stopped_at n process held).past.log).inside ≡ false
outside_then me n process held none =
    let h = (first_of n held).past in
    let start : Course = record { inside = false; hurt = false } in
    ap (λ (c : Course). c.inside) (course_then me h (items.Stop process ∷ []) ∙ course_stays me start (take n held.past.log) none)
