-- What is known of a history that goes on.
use Rattle.std.proofs.Common.{◌≡◌, ℕ, ◌+◌, cond, Bool, true, false, List, [], ◌∷◌, ◌++◌, fold, Option, Some, None, refl, sym, ap, subst, ◌∙◌, nat_eq, ◌<◌}
use Rattle.std.specs.Prelude.{IsSome}
use Rattle.std.specs.List.{AllByRecursion}
use Rattle.std.proofs.lemmas.Bool.{eqb-true, eq-eqb}
use Rattle.std.proofs.lemmas.List.Sums.{fold-append}
use mathlib.Core.Path.{fun_ext}
use Rattle.cache_types.specs.declared.seat.Who.{Who}
use Rattle.cache_types.specs.Seats.{same_seat}
use Rattle.file_log.specs.declared.item.LogItem.{LogItem}
use Rattle.file_log.specs.declared.item.LogItem.TheVariants.{Byte}
use Rattle.file_log.specs.declared.item.LogItem.TheVariants as items
use Rattle.file_log.specs.Disk.{Disk, rewritten}
use Rattle.file_log.specs.Effect.{applied}
use Rattle.file_log.specs.Exchange.{byte_items}
use Rattle.file_log.specs.Legal.{Legal, IsLegal, IsOpen}
use Rattle.file_log.specs.Log.{History}
use Rattle.file_log.specs.Seat.{Course, course_after}
use Rattle.file_log.specs.State.{State, first, after, halted_after, state_of}
use Rattle.file_log.specs.Writing.{written}
use Rattle.file_log.proofs.Logs.{All-append}
use Rattle.file_log.proofs.Writing.{written-append}
use Rattle.file_model.specs.Following.{Follows}
use Rattle.file_model.specs.Held.{IsPlain}

-- the parts of a state go their own ways
disk_after : (s : State) (news : List LogItem) → (fold after s news).disk ≡ fold applied s.disk news
disk_after s [] = refl
disk_after s (x ∷ xs) = disk_after (after s x) xs

halted_after_all : (s : State) (news : List LogItem) (process : ℕ) → (fold after s news).halted process ≡ fold halted_after s.halted news process
halted_after_all s [] process = refl
halted_after_all s (x ∷ xs) process = halted_after_all (after s x) xs process

-- items that stop no process
abbrev pub StopsNone : List LogItem → Type 0
StopsNone news = (halted : ℕ → Bool) (process : ℕ) → fold halted_after halted news process ≡ halted process

abbrev with_log : History → List LogItem → History
with_log h log = record { start = h.start; log = log }

pub follows_to : (h : History) (d d' : Disk) (halted halted' : ℕ → Bool) (courses courses' : Who → Course) (news log' : List LogItem)
    → Follows h d halted courses → log' ≡ h.log ++ news → Legal (state_of h) news
    → d' ≡ fold applied d news → ((process : ℕ) → halted' process ≡ fold halted_after halted news process) → ((who : Who) → courses' who ≡ fold (course_after who) (courses who) news)
    → Follows (record { start = h.start; log = log' }) d' halted' courses'
follows_to h d d' halted halted' courses courses' news log' f e legal disk halted_are courses_are =
    let s = state_of h in
    let whole : state_of (with_log h (h.log ++ news)) ≡ fold after s news = fold-append after (first h.start) h.log news in
    let same : halted ≡ s.halted = fun_ext f.halted_is in
    subst (λ (log : List LogItem). Follows (with_log h log) d' halted' courses') (sym e)
    record {
      disk = disk ∙ ap (λ (x : Disk). fold applied x news) f.disk ∙ sym (disk_after s news) ∙ ap (λ (x : State). x.disk) (sym whole);
      halted_is = λ process. halted_are process ∙ ap (λ (g : ℕ → Bool). fold halted_after g news process) same ∙ sym (halted_after_all s news process) ∙ ap (λ (x : State). x.halted process) (sym whole);
      courses_are = λ who. courses_are who ∙ ap (λ (c : Course). fold (course_after who) c news) (f.courses_are who) ∙ sym (fold-append (course_after who) (record { inside = false; hurt = false }) h.log news);
      legal = All-append after IsLegal (first h.start) h.log news f.legal legal;
    }

-- by items that stop no process
pub follows_on : (h : History) (d d' : Disk) (halted : ℕ → Bool) (courses courses' : Who → Course) (news log' : List LogItem)
    → Follows h d halted courses → log' ≡ h.log ++ news → Legal (state_of h) news
    → d' ≡ fold applied d news → StopsNone news → ((who : Who) → courses' who ≡ fold (course_after who) (courses who) news)
    → Follows (record { start = h.start; log = log' }) d' halted courses'
follows_on h d d' halted courses courses' news log' f e legal disk none courses_are = follows_to h d d' halted halted courses courses' news log' f e legal disk (λ process. sym (none halted process)) courses_are

-- nothing new
pub follows_still : (h : History) (d d' : Disk) (halted : ℕ → Bool) (courses courses' : Who → Course) (log' : List LogItem)
    → Follows h d halted courses → log' ≡ h.log → d' ≡ d → ((who : Who) → courses' who ≡ courses who) → Follows (record { start = h.start; log = log' }) d' halted courses'
follows_still h d d' halted courses courses' log' f e disk same =
    subst (λ (log : List LogItem). Follows (with_log h log) d' halted courses') (sym e)
    record { disk = disk ∙ f.disk; halted_is = f.halted_is; courses_are = λ who. same who ∙ f.courses_are who; legal = f.legal }

pub either : (b : Bool) (c : Course) → cond b c c ≡ c
either true c = refl
either false c = refl

-- ---- items that change no file, and open or end no operation

pub plain_disk : (d : Disk) (item : LogItem) → IsPlain item → d ≡ applied d item
plain_disk d (items.Queued process ticket request) p = refl
plain_disk d (items.Taken who ticket) p = refl
plain_disk d (items.Evict who store driver key) p = refl
plain_disk d item p = absurd p

pub plain_stops : (item : LogItem) → IsPlain item → StopsNone (item ∷ [])
plain_stops (items.Queued process ticket request) p = λ halted process. refl
plain_stops (items.Taken who ticket) p = λ halted process. refl
plain_stops (items.Evict who store driver key) p = λ halted process. refl
plain_stops item p = absurd p

pub plain_course : (w : Who) (c : Course) (item : LogItem) → IsPlain item → c ≡ course_after w c item
plain_course w c (items.Queued process ticket request) p = refl
plain_course w c (items.Taken who ticket) p = sym (either (same_seat w who) c)
plain_course w c (items.Evict who store driver key) p = sym (either (same_seat w who) c)
plain_course w c item p = absurd p

-- ---- bytes written one after another

same_choice : (b : Bool) (x y : List ℕ) → (b ≡ true → x ≡ y) → cond b x y ≡ y
same_choice true x y h = h refl
same_choice false x y h = refl

not_rewritten : (d : Disk) (o : Option ℕ) → rewritten d o (λ bytes. bytes) ≡ d
not_rewritten d None = refl
not_rewritten d (Some f) = ap (λ (files : ℕ → List ℕ). record d { files = files }) (fun_ext (λ g. same_choice (nat_eq f g) (d.files f) (d.files g) (λ e. ap d.files (eqb-true f g e))))

twice : (b c : Bool) (x y z : List ℕ) (change : List ℕ → List ℕ) → c ≡ true → cond b (change (cond c x z)) (cond b x y) ≡ cond b (change x) y
twice true true x y z change e = refl
twice false true x y z change e = refl
twice b false x y z change e = absurd cc

rewritten_twice : (d : Disk) (o : Option ℕ) (first second : List ℕ → List ℕ) → rewritten (rewritten d o first) o second ≡ rewritten d o (λ bytes. second (first bytes))
rewritten_twice d None first second = refl
rewritten_twice d (Some f) first second = ap (λ (files : ℕ → List ℕ). record d { files = files }) (fun_ext (λ g. twice (nat_eq f g) (nat_eq f f) (first (d.files f)) (d.files g) (d.files f) second (eq-eqb f f refl)))

rewritten_slots : (d : Disk) (o : Option ℕ) (change : List ℕ → List ℕ) → (rewritten d o change).slots ≡ d.slots
rewritten_slots d None change = refl
rewritten_slots d (Some f) change = refl

pub run_after : (d : Disk) (who : Who) (slot at : ℕ) (values : List ℕ) → fold applied d (byte_items who slot at values) ≡ rewritten d (d.slots who slot) (written at values)
run_after d who slot at [] = sym (not_rewritten d (d.slots who slot))
run_after d who slot at (value ∷ values) =
    let o = d.slots who slot in
    let one : List ℕ → List ℕ = written at (value ∷ []) in
    let d1 : Disk = rewritten d o one in
    run_after d1 who slot (at + 1) values
    ∙ ap (λ (slots : Who → ℕ → Option ℕ). rewritten d1 (slots who slot) (written (at + 1) values)) (rewritten_slots d o one)
    ∙ rewritten_twice d o one (written (at + 1) values)
    ∙ ap (rewritten d o) (fun_ext (λ bytes. sym (written-append at (value ∷ []) values bytes)))

pub run_stops_none : (who : Who) (slot at : ℕ) (values : List ℕ) → StopsNone (byte_items who slot at values)
run_stops_none who slot at [] = λ halted process. refl
run_stops_none who slot at (value ∷ values) = λ halted process. run_stops_none who slot (at + 1) values halted process

pub run_courses : (who : Who) (slot at : ℕ) (values : List ℕ) (w : Who) (c : Course) → c ≡ fold (course_after w) c (byte_items who slot at values)
run_courses who slot at [] w c = refl
run_courses who slot at (value ∷ values) w c =
    run_courses who slot (at + 1) values w c
    ∙ ap (λ (x : Course). fold (course_after w) x (byte_items who slot (at + 1) values)) (sym (either (same_seat w who) c))

pub run_legal : (s : State) (who : Who) (slot at : ℕ) (values : List ℕ) → s.halted who.process ≡ false → IsOpen s.disk who slot → AllByRecursion (λ b. b < 256) values → Legal s (byte_items who slot at values)
run_legal s who slot at [] alive open' fits = tt
run_legal s who slot at (value ∷ values) alive open' fits =
    let o = s.disk.slots who slot in
    let one : List ℕ → List ℕ = written at (value ∷ []) in
    let later : IsSome ((rewritten s.disk o one).slots who slot) = subst (λ (slots : Who → ℕ → Option ℕ). IsSome (slots who slot)) (sym (rewritten_slots s.disk o one)) open'.filled in (
      (alive, record { is_open = open'; byte = fits.0 }),
      run_legal (after s (Byte who slot at value)) who slot (at + 1) values alive (record { small = open'.small; filled = later }) fits.1,
    )
