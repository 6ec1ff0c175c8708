-- What operations meet, item by item, and what that earns.
use Rattle.std.proofs.Common.{◌≡◌, inl, ℕ, zero, suc, ◌+◌, Bool, true, false, cond, ◌&&◌, ◌||◌, List, [], ◌∷◌, ◌++◌, fold, Some, refl, sym, ap, ◌∙◌, subst, append_assoc, append-nil, arith}
use Rattle.std.specs.Prelude.{replicate}
use Rattle.std.specs.List.{list_any}
use Rattle.std.proofs.lemmas.Bool.Decides.{Decides-eqb}
use Rattle.cache_types.specs.declared.answer.Answer.{Answer}
use Rattle.cache_types.specs.declared.answer.Answer.TheVariants as answers
use Rattle.cache_types.specs.declared.request.Request.{Request}
use Rattle.cache_types.specs.declared.request.Request.TheVariants as requests
use Rattle.cache_types.specs.declared.seat.Who.{Who}
use Rattle.file_log.specs.Disk.{Disk}
use Rattle.file_log.specs.Effect.{applied}
use Rattle.file_log.specs.Log.{History, own, is_own, Quiet}
use Rattle.file_log.specs.Operation.{is_fault}
use Rattle.file_log.specs.Seat.{Course, course_by, course_after, course_of}
use Rattle.file_log.specs.State.{disk_of}
use Rattle.file_log.specs.declared.call.Call.TheVariants.{TryLock}
use Rattle.file_log.specs.declared.item.LogItem.{LogItem}
use Rattle.file_log.specs.declared.item.LogItem.TheVariants as items
use Rattle.file_log.specs.declared.reply.Reply.{Reply}
use Rattle.file_log.specs.declared.reply.Reply.TheVariants.{Held}
use Rattle.file_log.proofs.All.{seat_self}
use Rattle.file_log.proofs.Logs.{own-append}
use Rattle.std.proofs.lemmas.List.Folds.{list_any-append}
use Rattle.std.proofs.lemmas.List.Sums.{fold-append}
use Rattle.std.proofs.lemmas.Bool.{false≢true}
use Rattle.seat_rules.specs.Answers.{root_of, may_end}
use Rattle.layout_rules.proofs.Earning.{IsEarnedAlong, ends_by}
use Rattle.seat_rules.specs.Changes.{with_item, disk_at}
use Rattle.seat_rules.specs.Operations.{AfterOne, GoesOn, IsInside, WasHeldOff, is_bound, is_end_of, tried, tries}
use Rattle.seat_rules.proofs.Courses.{after_stays, after_now, inside_then, failed_then}
use Rattle.seat_rules.proofs.Histories.{disk_further, no_end_then}
use Rattle.seat_rules.proofs.Trying.{tries_more, tried_other, held_off_stays, held_off_now}
use Rattle.folder_changes.specs.Course.{HasSeen, IsWithin, OperationsMeet, OperationsEarn, IdleMayBegin}

-- ---- what was seen

-- the disk after the operation's items is that after the history
now_disk : (h : History) (me : Who) (request : Request) (i : IsInside h.log me request) → fold applied (disk_at h i.before) (items.Begin me request ∷ i.since) ≡ disk_of h
now_disk h me request i =
    sym (disk_further (record { start = h.start; log = i.before }) (items.Begin me request ∷ i.since))
    ∙ ap (λ (l : List LogItem). disk_of (record { start = h.start; log = l })) (sym i.log_is)

-- after an own item it has seen the disk as that leaves it
pub sees : (h : History) (item : LogItem) (me : Who) (request : Request) (P : Disk → Type 0) → IsWithin me item → is_own me item ≡ true → IsInside h.log me request → P (applied (disk_of h) item) → HasSeen (with_item h item) me request P
sees h item me request P within mine i so = record {
  inside = inside_then h.log item me request within i;
  seen = after_now me P (disk_at h i.before) (items.Begin me request ∷ i.since) item mine (subst (λ (d : Disk). P (applied d item)) (sym (now_disk h me request i)) so);
}

-- and from its Begin on the disk before it
pub sees_first : (h : History) (me : Who) (request : Request) (P : Disk → Type 0) → P (disk_of h) → HasSeen (with_item h (items.Begin me request)) me request P
sees_first h me request P so = record { inside = record { before = h.log; since = []; log_is = refl; goes_on = tt }; seen = inl (seat_self me, so) }

-- what was seen stays seen
pub seen_stays : (h : History) (item : LogItem) (me : Who) (request : Request) (P : Disk → Type 0) → IsWithin me item → HasSeen h me request P → HasSeen (with_item h item) me request P
seen_stays h item me request P within s = record {
  inside = inside_then h.log item me request within s.inside;
  seen = after_stays me P (disk_at h s.inside.before) (items.Begin me request ∷ s.inside.since) item s.seen;
}

-- ---- failures

faults_grow : (me : Who) (made : List LogItem) (item : LogItem) → list_any is_fault (own me made) ≡ true → list_any is_fault (own me (made ++ item ∷ [])) ≡ true
faults_grow me made item e =
    ap (list_any is_fault) (own-append me made (item ∷ [])) ∙ list_any-append is_fault (own me made) (own me (item ∷ [])) ∙ ap (λ (b : Bool). b || list_any is_fault (own me (item ∷ []))) e

fault_now : (me : Who) (made : List LogItem) (item : LogItem) → is_own me item ≡ true → is_fault item ≡ true → list_any is_fault (own me (made ++ item ∷ [])) ≡ true
fault_now me made item mine fault = sym (failed_then me made item (list_any is_fault (own me made)) mine refl) ∙ ap (λ (b : Bool). list_any is_fault (own me made) || b) fault ∙ or_true (list_any is_fault (own me made))
  where
    or_true : (a : Bool) → (a || true) ≡ true
    or_true true = refl
    or_true false = refl

-- ---- tries

replicate_more : (k : ℕ) → replicate k Held ++ Held ∷ [] ≡ replicate (k + 1) Held
replicate_more zero = refl
replicate_more (suc k) =
    let count : suc k + 1 ≡ suc (k + 1) = omega arith in
    ap (λ (l : List Reply). Held ∷ l) (replicate_more k) ∙ sym (ap (λ (n : ℕ). replicate n Held) count)

tried_now : (me : Who) (file slot : ℕ) (d : Disk) → d.slots me slot ≡ Some file → tried me file d (items.Did me (TryLock slot) Held) ≡ Held ∷ []
tried_now me file slot d e = rw (seat_self me, e, (Decides-eqb file file).1 refl) refl

-- such an item is no End of the seat
within_ends_not : (me : Who) (item : LogItem) → IsWithin me item → is_end_of me item ≡ false
within_ends_not me (items.End who answer) e = by_test (is_own me (items.End who answer)) e
  where
    by_test : (b : Bool) → (b && true) ≡ false → b ≡ false
    by_test true e = e
    by_test false e = refl
within_ends_not me item e = refl

pub meets : OperationsMeet
meets h item me request within = record {
  stays_inside = λ i. inside_then h.log item me request within i;
  stays_failed = λ f. record { inside = inside_then h.log item me request within f.inside; failed = faults_grow me (items.Begin me request ∷ f.inside.since) item f.failed };
  fails = λ i mine fault. record { inside = inside_then h.log item me request within i; failed = fault_now me (items.Begin me request ∷ i.since) item mine fault };
  stays_tried = λ file k other t. record {
    inside = inside_then h.log item me request within t.inside;
    earlier = t.earlier;
    all_held =
        tries_more me file (disk_at h t.inside.before) (items.Begin me request ∷ t.inside.since) item
        ∙ ap (λ (l : List Reply). tries me file (disk_at h t.inside.before) (items.Begin me request ∷ t.inside.since) ++ l) (tried_other me file (fold applied (disk_at h t.inside.before) (items.Begin me request ∷ t.inside.since)) item other)
        ∙ append-nil (tries me file (disk_at h t.inside.before) (items.Begin me request ∷ t.inside.since))
        ∙ t.all_held;
  };
  tries_again = λ file k slot same at t. record {
    inside = inside_then h.log item me request within t.inside;
    earlier = t.earlier;
    all_held =
        tries_more me file (disk_at h t.inside.before) (items.Begin me request ∷ t.inside.since) item
        ∙ ap (λ (d : Disk). tries me file (disk_at h t.inside.before) (items.Begin me request ∷ t.inside.since) ++ tried me file d item) (now_disk h me request t.inside)
        ∙ ap (λ (y : LogItem). tries me file (disk_at h t.inside.before) (items.Begin me request ∷ t.inside.since) ++ tried me file (disk_of h) y) same
        ∙ ap (λ (l : List Reply). tries me file (disk_at h t.inside.before) (items.Begin me request ∷ t.inside.since) ++ l) (tried_now me file slot (disk_of h) at)
        ∙ ap (λ (l : List Reply). l ++ Held ∷ []) t.all_held
        ∙ append_assoc t.earlier (replicate k Held) (Held ∷ [])
        ∙ ap (λ (l : List Reply). t.earlier ++ l) (replicate_more k);
  };
  is_last = λ file slot name same at named lock t. record {
    inside = inside_then h.log item me request within t.inside;
    held_off = held_off_now me (root_of request) (disk_at h t.inside.before) (items.Begin me request ∷ t.inside.since) item (record {
      slot = slot;
      item_is = same;
      file = file;
      has_file = ap (λ (d : Disk). d.slots me slot) (now_disk h me request t.inside) ∙ at;
      name = name;
      is_lock = lock;
      named = ap (λ (d : Disk). d.names name) (now_disk h me request t.inside) ∙ named;
      earlier = t.earlier;
      all_held = t.all_held;
    });
  };
  stays_held_off = λ w. record {
    inside = inside_then h.log item me request within w.inside;
    held_off = held_off_stays me (root_of request) (disk_at h w.inside.before) (items.Begin me request ∷ w.inside.since) item w.held_off;
  };
  opens = λ at same. record { before = h.log; later = []; log_is = ap (λ (y : LogItem). h.log ++ y ∷ []) same; is_open = tt };
  stays_open = λ at o. record {
    before = o.before;
    later = o.later ++ item ∷ [];
    log_is = ap (λ (l : List LogItem). l ++ item ∷ []) o.log_is ∙ append_assoc o.before (items.Evict me at.store at.driver at.key ∷ o.later) (item ∷ []);
    is_open = no_end_then me o.later item o.is_open (within_ends_not me item within);
  };
}

-- ---- where it begins

-- from an open operation on, its seat knows that one is open
inside_since : (me : Who) (since : List LogItem) (c : Course) → c.inside ≡ true → GoesOn me since → (fold (course_after me) c since).inside ≡ true
inside_since me [] c open_ goes = open_
inside_since me (x ∷ since) c open_ goes = inside_since me since (course_after me c x) (after_one x goes.0) goes.1
  where
    by_item : (x : LogItem) → is_bound x ≡ false → (course_by c x).inside ≡ true
    by_item (items.Begin who request) e = absurd (false≢true (sym e))
    by_item (items.End who answer) e = absurd (false≢true (sym e))
    by_item (items.Failed who memory) e = open_
    by_item x e = open_

    by_test : (b : Bool) (x : LogItem) → (b && is_bound x) ≡ false → (cond b (course_by c x) c).inside ≡ true
    by_test true x e = by_item x e
    by_test false x e = open_

    after_one : (x : LogItem) → (is_own me x && is_bound x) ≡ false → (course_after me c x).inside ≡ true
    after_one x e = by_test (is_own me x) x e

inside_told : (log : List LogItem) (me : Who) (request : Request) → IsInside log me request → (course_of me log).inside ≡ true
inside_told log me request i =
    ap (λ (l : List LogItem). (course_of me l).inside) i.log_is
    ∙ ap (λ (c : Course). c.inside) (fold-append (course_after me) (record { inside = false; hurt = false }) i.before (items.Begin me request ∷ i.since))
    ∙ inside_since me i.since (course_after me (course_of me i.before) (items.Begin me request)) (rw (seat_self me) refl) i.goes_on

pub idle_may_begin : IdleMayBegin
idle_may_begin h me request idle other i = false≢true (sym idle ∙ inside_told h.log me other i)

-- ---- answers

end_seen : (h : History) (me : Who) (request : Request) (P : Disk → Type 0) (answer : Answer) → (s : HasSeen h me request P) → AfterOne me P (disk_at h s.inside.before) (items.Begin me request ∷ (s.inside.since ++ items.End me answer ∷ []))
end_seen h me request P answer s = after_stays me P (disk_at h s.inside.before) (items.Begin me request ∷ s.inside.since) (items.End me answer) s.seen

-- what ends every request is of a kind that ends this one
fault_ends : (request : Request) → may_end request answers.FilesFault ≡ true
fault_ends (requests.Get store driver key ro) = refl
fault_ends (requests.Put store driver key meta blob limit) = refl
fault_ends (requests.HasKey root key) = refl
fault_ends (requests.PutKey root key) = refl
fault_ends (requests.Keys store driver) = refl
fault_ends (requests.Verify store) = refl
fault_ends (requests.Trim store to) = refl

memory_ends : (request : Request) → may_end request answers.NoMemory ≡ true
memory_ends (requests.Get store driver key ro) = refl
memory_ends (requests.Put store driver key meta blob limit) = refl
memory_ends (requests.HasKey root key) = refl
memory_ends (requests.PutKey root key) = refl
memory_ends (requests.Keys store driver) = refl
memory_ends (requests.Verify store) = refl
memory_ends (requests.Trim store to) = refl

-- what these answers say, of every request
busy_says : (calm : Type 0) (me : Who) (d : Disk) (made : List LogItem) (request : Request) → WasHeldOff me (root_of request) d made → IsEarnedAlong calm me d made request answers.Busy
busy_says calm me d made (requests.Get store driver key ro) w = w
busy_says calm me d made (requests.Put store driver key meta blob limit) w = w
busy_says calm me d made request w = w

fault_says : (calm : Type 0) (me : Who) (d : Disk) (made : List LogItem) (request : Request) → list_any is_fault (own me made) ≡ true → IsEarnedAlong calm me d made request answers.FilesFault
fault_says calm me d made (requests.Get store driver key ro) e = e
fault_says calm me d made (requests.Put store driver key meta blob limit) e = e
fault_says calm me d made request e = e

memory_says : (calm : Type 0) (me : Who) (d : Disk) (made : List LogItem) (request : Request) → IsEarnedAlong calm me d made request answers.NoMemory
memory_says calm me d made (requests.Get store driver key ro) = tt
memory_says calm me d made (requests.Put store driver key meta blob limit) = tt
memory_says calm me d made request = tt

pub earns : OperationsEarn
earns h me = record {
  hit = λ store driver key ro blob s. ends_by h me (answers.Hit blob) (requests.Get store driver key ro) s.inside (refl, end_seen h me (requests.Get store driver key ro) _ (answers.Hit blob) s);
  miss = λ store driver key ro s. ends_by h me answers.Miss (requests.Get store driver key ro) s.inside (refl, λ calm. end_seen h me (requests.Get store driver key ro) _ answers.Miss s);
  stored = λ store driver key meta blob limit s. ends_by h me answers.Stored (requests.Put store driver key meta blob limit) s.inside (refl, end_seen h me (requests.Put store driver key meta blob limit) _ answers.Stored s);
  kept = λ store driver key meta blob limit s. ends_by h me answers.Kept (requests.Put store driver key meta blob limit) s.inside (refl, end_seen h me (requests.Put store driver key meta blob limit) _ answers.Kept s);
  too_large = λ store driver key meta blob limit n i large. ends_by h me (answers.TooLarge n) (requests.Put store driver key meta blob limit) i (refl, large);
  busy = λ request kind w. ends_by h me answers.Busy request w.inside (
    kind,
    busy_says (Quiet h.log) me (disk_at h w.inside.before) (items.Begin me request ∷ (w.inside.since ++ items.End me answers.Busy ∷ [])) request
        (held_off_stays me (root_of request) (disk_at h w.inside.before) (items.Begin me request ∷ w.inside.since) (items.End me answers.Busy) w.held_off),
  );
  fault = λ request f. ends_by h me answers.FilesFault request f.inside (
    fault_ends request,
    fault_says (Quiet h.log) me (disk_at h f.inside.before) (items.Begin me request ∷ (f.inside.since ++ items.End me answers.FilesFault ∷ [])) request
        (faults_grow me (items.Begin me request ∷ f.inside.since) (items.End me answers.FilesFault) f.failed),
  );
  no_memory = λ request i. ends_by h me answers.NoMemory request i (
    memory_ends request,
    memory_says (Quiet h.log) me (disk_at h i.before) (items.Begin me request ∷ (i.since ++ items.End me answers.NoMemory ∷ [])) request,
  );
}
