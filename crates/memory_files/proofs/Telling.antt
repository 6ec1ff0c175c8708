-- A call tells the items that it makes.
use Rattle.std.proofs.Common.{◌≡◌, ℕ, cond, Bool, true, false, List, [], ◌∷◌, ◌++◌, fold, refl, sym, ap, subst, ◌∙◌}
use Rattle.std.proofs.lemmas.List.{append-nil}
use Rattle.std.proofs.lemmas.List.Sums.{fold-append}
use Rattle.cache_types.specs.declared.seat.Who.{Who}
use Rattle.file_log.specs.declared.call.Call.{Call}
use Rattle.file_log.specs.declared.reply.Reply.{Reply}
use Rattle.file_log.specs.declared.item.LogItem.{LogItem}
use Rattle.file_log.specs.declared.item.LogItem.TheVariants as items
use Rattle.file_log.specs.Disk.{Disk}
use Rattle.file_log.specs.Effect.{applied}
use Rattle.file_log.specs.Exchange.{Answers, Makes}
use Rattle.file_log.specs.Legal.{Legal}
use Rattle.file_log.specs.Log.{History, with_items, own, is_own, is_stop, EndsOwn, NoStop}
use Rattle.file_log.specs.Seat.{Course, IsSeen, course_after, course_of, seen_after}
use Rattle.file_log.specs.State.{State, first, after, halted_after, state_of, disk_of}
use Rattle.file_log.specs.Told.{IsSomeItem}
use Rattle.file_model.specs.Held.{Held, told}
use Rattle.memory_files.specs.Seats.{seen_on, seen_in, GoesOn, Tells}

-- all of these are a seat's
abbrev pub AreOwn : Who → List LogItem → Type 0
AreOwn me [] = Unit {0}
AreOwn me (item ∷ log) = (is_own me item ≡ true) × AreOwn me log

pub own-append : (me : Who) (xs ys : List LogItem) → AreOwn me xs → AreOwn me ys → AreOwn me (xs ++ ys)
own-append me [] ys a b = b
own-append me (x ∷ xs) ys a b = (a.0, own-append me xs ys a.1 b)

all_own : (me : Who) (log : List LogItem) → AreOwn me log → own me log ≡ log
all_own me [] a = refl
all_own me (x ∷ xs) a = ap (λ (b : Bool). cond b (x ∷ own me xs) (own me xs)) a.0 ∙ ap (λ (log : List LogItem). x ∷ log) (all_own me xs a.1)

-- a seat's own item stops no process
stops_none : (me : Who) (item : LogItem) (process : ℕ) → is_own me item ≡ true → is_stop process item ≡ false
stops_none me (items.Stop other) process mine = absurd cc
stops_none me item process mine = refl

stop_none : (me : Who) (log : List LogItem) (process : ℕ) → AreOwn me log → NoStop process log
stop_none me [] process a = tt
stop_none me (x ∷ xs) process a = (stops_none me x process a.0, stop_none me xs process a.1)

halts_none : (me : Who) (item : LogItem) (halted : ℕ → Bool) (process : ℕ) → is_own me item ≡ true → halted_after halted item process ≡ halted process
halts_none me (items.Stop other) halted process mine = absurd cc
halts_none me item halted process mine = refl

halt_none : (me : Who) (s : State) (log : List LogItem) (process : ℕ) → AreOwn me log → (fold after s log).halted process ≡ s.halted process
halt_none me s [] process a = refl
halt_none me s (x ∷ xs) process a = halt_none me (after s x) xs process a.1 ∙ halts_none me x s.halted process a.0

ends : (me : Who) (x : LogItem) (xs : List LogItem) → AreOwn me (x ∷ xs) → EndsOwn me (x ∷ xs)
ends me x [] a = ([], x, refl, a.0)
ends me x (y ∷ ys) a = let r = ends me y ys a.1 in (x ∷ r.0, r.1, ap (λ (log : List LogItem). x ∷ log) r.2, r.3)

ends_some : (me : Who) (log : List LogItem) → AreOwn me log → IsSomeItem log → EndsOwn me log
ends_some me [] a some = absurd some
ends_some me (x ∷ xs) a some = ends me x xs a

disk_after : (s : State) (news : List LogItem) → (fold after s news).disk ≡ fold applied s.disk news
disk_after s [] = refl
disk_after s (x ∷ xs) = disk_after (after s x) xs

-- no call was made yet
abbrev start_course : Course
start_course = record { inside = false; hurt = false }

pub state_then : (h : History) (made : List LogItem) → state_of (with_items h made) ≡ fold after (state_of h) made
state_then h made = fold-append after (first h.start) h.log made

pub course_then : (me : Who) (h : History) (made : List LogItem) → course_of me (h.log ++ made) ≡ fold (course_after me) (course_of me h.log) made
course_then me h made = fold-append (course_after me) start_course h.log made

pub goes_on_then : (me : Who) (h : History) (made : List LogItem) → AreOwn me made → GoesOn me h → GoesOn me (with_items h made)
goes_on_then me h made mine goes = ap (λ (s : State). s.halted me.process) (state_then h made) ∙ halt_none me (state_of h) made me.process mine ∙ goes

-- a call told these items, which changes what the seat has seen as the call does
pub tells : (me : Who) (call : Call) (reply : Reply) (w : Held) (made : List LogItem)
    → Answers (course_of me w.past.log).inside call reply
    → Makes me (course_of me w.past.log).inside call reply made
    → AreOwn me made → Legal (state_of w.past) made → GoesOn me w.past
    → IsSeen (seen_on me (fold applied (disk_of w.past) made) (fold (course_after me) (course_of me w.past.log) made)) (seen_after (seen_in me w.past) call reply)
    → Tells me call reply w (told w made)
tells me call reply w made fits makes mine legal goes seen =
    let h = w.past in
    let disk : disk_of (with_items h made) ≡ fold applied (disk_of h) made = ap (λ (s : State). s.disk) (state_then h made) ∙ disk_after (state_of h) made in
    record {
      fits = fits;
      seen = subst (λ (d : Disk). IsSeen (seen_on me d (course_of me (h.log ++ made))) (seen_after (seen_in me h) call reply)) (sym disk)
          (subst (λ (c : Course). IsSeen (seen_on me (fold applied (disk_of h) made) c) (seen_after (seen_in me h) call reply)) (sym (course_then me h made)) seen);
      called = record {
        items = made;
        makes = makes;
        told = (made, refl, record { owns = record { own_items = all_own me made mine; legal = legal; goes_on = stop_none me made me.process mine }; ends = ends_some me made mine });
      };
      goes_on = goes_on_then me h made mine goes;
      clock = refl;
      alone = (made, refl, all_own me made mine);
    }

-- nothing is told where a call makes no item
pub tells_nothing : (me : Who) (call : Call) (reply : Reply) (w : Held)
    → Answers (course_of me w.past.log).inside call reply
    → Makes me (course_of me w.past.log).inside call reply []
    → GoesOn me w.past
    → IsSeen (seen_in me w.past) (seen_after (seen_in me w.past) call reply)
    → Tells me call reply w w
tells_nothing me call reply w fits makes goes seen =
    subst (λ (log : List LogItem). Tells me call reply w (record w { past = record { start = w.past.start; log = log } })) (append-nil w.past.log)
    (tells me call reply w [] fits makes tt tt goes seen)
