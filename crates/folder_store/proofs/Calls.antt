-- The calls of a lookup, all in its root, and how many are left.
use Rattle.std.proofs.Common.{◌≡◌, ◌≤◌, ◌+◌, ℕ, Bool, true, false, cond, ltb, List, Option, None, Some, refl, sym, ap, subst, ◌∙◌, arith}
use Rattle.cache_types.specs.declared.answer.Answer.{Answer}
use Rattle.cache_types.specs.declared.answer.Answer.TheVariants as answers
use Rattle.cache_types.specs.declared.key.Key.{Key}
use Rattle.cache_types.specs.declared.limits.TheConstants.{MAX_ITEM}
use Rattle.cache_types.specs.Driver.{DriverKeys}
use Rattle.cache_types.specs.declared.name.Name.{Name}
use Rattle.file_log.specs.declared.call.Call.{Call}
use Rattle.file_log.specs.declared.call.Call.TheVariants as calls
use Rattle.file_log.specs.declared.reply.Reply.{Reply}
use Rattle.file_log.specs.declared.reply.Reply.TheVariants as replies
use Rattle.file_log.specs.Exchange.{Answers}
use Rattle.file_log.specs.Operation.{NamesOnly}
use Rattle.files_api.specs.declared.machine.Step.{Step}
use Rattle.files_api.specs.declared.machine.Step.TheVariants.{Ask, Done}
use Rattle.machine_parts.specs.declared.open.Open.{Open}
use Rattle.machine_parts.specs.declared.part.After.{After}
use Rattle.machine_parts.specs.declared.part.After.TheVariants.{More, Over}
use Rattle.machine_parts.specs.declared.reading.Read.{Read}
use Rattle.machine_parts.specs.declared.reading.Read.TheVariants as reads
use Rattle.machine_parts.specs.declared.reading.Reading.{Reading}
use Rattle.machine_parts.specs.declared.whole.Whole.{Whole}
use Rattle.machine_parts.specs.declared.whole.Whole.TheVariants.{Going, Closing, Spent}
use Rattle.machine_parts.specs.Ending.{close_at, closing_at, whole_of}
use Rattle.machine_parts.specs.Judging.{JudgedTo}
use Rattle.machine_parts.specs.Parts.{IsGood}
use Rattle.machine_parts.specs.Reading.{asks_in, slots_in, left_in, measured, next_in, reading_left}
use Rattle.machine_parts.specs.EndingLaws.{none_open}
use Rattle.machine_parts.specs.Slots.{has, lowest, count, open_of, opened}
pub use Rattle.machine_parts.proofs.Looking.{IsLooking, item_for, makes_one, looking_within}
use Rattle.folder_store.specs.declared.get.EntryFile.{EntryFile}
use Rattle.folder_store.specs.declared.get.ForDriver.{ForDriver}
use Rattle.folder_store.specs.Gets.{entry_name, JudgesFor, GetPart, FolderGet, part_asked, PartFed, part_slots, get_right, get_asks, get_asked, GetFed, get_slots, get_left, IsNewPart, IsNew}
use Rattle.folder_store.proofs.Items.{weight, AsksWithin, Lasts, Spends}

pub ask_is : (a b : Call) → Ask a ≡ Ask b → a ≡ b
ask_is a b e = cc

pub done_is : (a b : Answer) → Done a ≡ Done b → a ≡ b
done_is a b e = cc

pub not_done : {P : Type 0} (c : Call) (a : Answer) → Ask c ≡ Done a → P
not_done c a e = absurd cc

pub not_ask : {P : Type 0} (c : Call) (a : Answer) → Done a ≡ Ask c → P
not_ask c a e = absurd cc

-- it counts as one call
looking_weight : (call : Call) (reply : Reply) → IsLooking call → weight call reply ≡ 1
looking_weight (calls.WriteAt slot at bytes) reply look = absurd look
looking_weight call reply look = refl

-- ---- what a lookup asks

-- it only looks, in its root
abbrev IsOurs : ℕ → Call → Type 0
IsOurs root call = IsLooking call × NamesOnly root call

ours_in : (file : EntryFile) (stage : Read) → IsOurs file.root (asks_in 1 (entry_name file) stage)
ours_in file reads.Opening = (tt, refl)
ours_in file reads.Measuring = (tt, tt)
ours_in file (reads.Taking length) = (tt, tt)
ours_in file (reads.Closing given) = (tt, tt)

close_ours : (root : ℕ) (at : Option ℕ) (answer : Answer) (call : Call) → close_at at answer ≡ Ask call → IsOurs root call
close_ours root (Some slot) answer call e = subst (IsOurs root) (ask_is (calls.Close slot) call e) (tt, tt)
close_ours root None answer call e = not_ask call answer e

-- a lookup in this root
abbrev pub IsInRoot : ℕ → FolderGet → Type 0
IsInRoot root (Going p) = p.part.file.root ≡ root
IsInRoot root m = Unit {0}

ours : (root : ℕ) (m : FolderGet) (call : Call) → IsInRoot root m → get_asks m ≡ Ask call → IsOurs root call
ours root (Going p) call here e =
    subst (IsOurs root) (ask_is (asks_in 1 (entry_name p.part.file) p.part.stage) call e) (subst (λ (r : ℕ). IsOurs r (asks_in 1 (entry_name p.part.file) p.part.stage)) here (ours_in p.part.file p.part.stage))
ours root (Closing o answer) call here e = close_ours root (lowest o) answer call e
ours root Spent call here e = not_ask call answers.NoMemory e

-- the root that it is in
root_of_get : FolderGet → ℕ
root_of_get (Going p) = p.part.file.root
root_of_get m = 0

in_own : (m : FolderGet) → IsInRoot (root_of_get m) m
unfolding root_of_get
in_own (Going p) = refl
in_own (Closing o answer) = tt
in_own Spent = tt

pub looks : (m : FolderGet) (call : Call) → get_asks m ≡ Ask call → IsLooking call
looks m call e = (ours (root_of_get m) m call (in_own m) e).0

-- it asks within its root
pub looks_within : (root : ℕ) → AsksWithin get_asks get_asked GetFed root (IsInRoot root)
looks_within root m call here e =
    let our = ours root m call here e in
    (looking_within call our.0, our.1)

-- ---- what it is after a reply

-- the file of what a reading leads to
abbrev IsOf : EntryFile → After (Reading EntryFile) (Option (List ℕ)) → Type 0
IsOf file (More q) = q.file ≡ file
IsOf file (Over o x) = Unit {0}

files_in : (file : EntryFile) (base : Open) (stage : Read) (reply : Reply) → IsOf file (next_in MAX_ITEM file base stage reply)
files_in file base reads.Opening replies.Done = refl
files_in file base reads.Opening reply = tt
files_in file base reads.Measuring (replies.Number n) = refl
files_in file base reads.Measuring reply = tt
files_in file base (reads.Taking n) (replies.Got bytes) = refl
files_in file base (reads.Taking n) reply = tt
files_in file base (reads.Closing given) reply = tt

-- what that is once it was judged
judged_in : (root : ℕ) (file : EntryFile) (judge : ForDriver) (s : After (Reading EntryFile) (Option (List ℕ))) (r : After GetPart Answer) → file.root ≡ root → IsOf file s → JudgedTo JudgesFor judge s r → IsInRoot root (whole_of r)
judged_in root file judge (More q) r here is j = subst (λ (k : After GetPart Answer). IsInRoot root (whole_of k)) (sym j) (ap (λ (f : EntryFile). f.root) is ∙ here)
judged_in root file judge (Over o x) r here is j = subst (λ (k : After GetPart Answer). IsInRoot root (whole_of k)) (sym j.2) tt

going_root : (root : ℕ) (p : GetPart) (n : FolderGet) (reply : Reply) → p.part.file.root ≡ root → GetFed (Going p) reply n → IsInRoot root n
going_root root p n replies.Failed here e = subst (IsInRoot root) (sym e) tt
going_root root p n replies.NoMemory here e = subst (IsInRoot root) (sym e) tt
going_root root p n reply here e =
    let of : IsOf p.part.file e.1.0 = subst (IsOf p.part.file) (sym e.1.1) (files_in p.part.file p.part.base p.part.stage reply) in
    subst (IsInRoot root) (sym e.2) (judged_in root p.part.file p.judge e.1.0 e.0 here of e.1.2)

closing_root : (root : ℕ) (at : Option ℕ) (o : Open) (answer : Answer) (n : FolderGet) (reply : Reply) → GetFed (closing_at at o answer) reply n → IsInRoot root n
closing_root root (Some slot) o answer n reply e = subst (IsInRoot root) (sym e) tt
closing_root root None o answer n reply e = subst (IsInRoot root) (sym e) tt

pub same_root : (root : ℕ) → Lasts get_asks get_asked GetFed (IsInRoot root)
same_root root (Going p) n reply here fed = going_root root p n reply here fed
same_root root (Closing o answer) n reply here fed = closing_root root (lowest o) o answer n reply fed
same_root root Spent n reply here fed = subst (IsInRoot root) (sym fed) tt

-- ---- how many calls are left

-- one more slot is open at most
open_most : (o : Open) → count (opened o 1 true) ≤ count o + 1
open_most o = omega arith

-- what is left after a good reply
abbrev left_after : After (Reading EntryFile) (Option (List ℕ)) → ℕ
left_after (More q) = reading_left q
left_after (Over o x) = count o

measured_left : (n : ℕ) (b : Bool) → left_in (cond b (reads.Closing None) (reads.Taking n)) ≤ 2
measured_left n true = omega arith
measured_left n false = omega arith

next_left : (file : EntryFile) (base : Open) (stage : Read) (reply : Reply) → Answers true (asks_in 1 (entry_name file) stage) reply → 1 + left_after (next_in MAX_ITEM file base stage reply) ≤ left_in stage + count base
next_left file base reads.Opening replies.Done fits = omega arith
next_left file base reads.Opening reply fits = omega arith
next_left file base reads.Measuring (replies.Number n) fits = omega (arith, measured_left n (ltb MAX_ITEM n))
next_left file base reads.Measuring reply fits = omega arith
next_left file base (reads.Taking n) (replies.Got bytes) fits = omega arith
next_left file base (reads.Taking n) reply fits = omega arith
next_left file base (reads.Closing given) reply fits = omega arith

-- where a call fails what is open is closed
fails_left : (base : Open) (name : Name) (stage : Read) (reply : Reply) → (IsGood reply → ⊥) → Answers true (asks_in 1 name stage) reply → 1 + count (slots_in 1 base stage) ≤ left_in stage + count base
fails_left base name reads.Opening reply bad fits = omega arith
fails_left base name reads.Measuring reply bad fits = omega (arith, open_most base)
fails_left base name (reads.Taking n) reply bad fits = omega (arith, open_most base)
fails_left base name (reads.Closing given) replies.Failed bad fits = absurd fits
fails_left base name (reads.Closing given) replies.NoMemory bad fits = absurd fits
fails_left base name (reads.Closing given) reply bad fits = absurd (bad tt)

judged_left : (judge : ForDriver) (s : After (Reading EntryFile) (Option (List ℕ))) (r : After GetPart Answer) → JudgedTo JudgesFor judge s r → get_left (whole_of r) ≡ left_after s
judged_left judge (More q) r j = ap (λ (k : After GetPart Answer). get_left (whole_of k)) j
judged_left judge (Over o x) r j = ap (λ (k : After GetPart Answer). get_left (whole_of k)) j.2

going_spends : (p : GetPart) (n : FolderGet) (reply : Reply) → Answers true (asks_in 1 (entry_name p.part.file) p.part.stage) reply → GetFed (Going p) reply n → 1 + get_left n ≤ get_left (Going p)
going_spends p n replies.Failed fits e = subst (λ (k : FolderGet). 1 + get_left k ≤ get_left (Going p)) (sym e) (fails_left p.part.base (entry_name p.part.file) p.part.stage replies.Failed (λ good. good) fits)
going_spends p n replies.NoMemory fits e = subst (λ (k : FolderGet). 1 + get_left k ≤ get_left (Going p)) (sym e) (fails_left p.part.base (entry_name p.part.file) p.part.stage replies.NoMemory (λ good. good) fits)
going_spends p n reply fits e =
    let left : get_left n ≡ left_after e.1.0 = ap get_left e.2 ∙ judged_left p.judge e.1.0 e.0 e.1.2 in
    let next : left_after e.1.0 ≡ left_after (next_in MAX_ITEM p.part.file p.part.base p.part.stage reply) = ap left_after e.1.1 in
    omega (arith, left, next, next_left p.part.file p.part.base p.part.stage reply fits)

closing_spends : (z f s t : Bool) (answer : Answer) (n : FolderGet) (reply : Reply) (call : Call) → close_at (lowest (open_of z f s t)) answer ≡ Ask call → GetFed (closing_at (lowest (open_of z f s t)) (open_of z f s t) answer) reply n → 1 + get_left n ≤ count (open_of z f s t)
closing_spends z true s t answer n reply call e fed = rw fed (omega arith)
closing_spends z false true t answer n reply call e fed = rw fed (omega arith)
closing_spends z false false true answer n reply call e fed = rw fed (omega arith)
closing_spends true false false false answer n reply call e fed = rw fed (omega arith)
closing_spends false false false false answer n reply call e fed = not_ask call answer e

spends_one : (m n : FolderGet) (call : Call) (reply : Reply) → get_asks m ≡ Ask call → Answers true call reply → GetFed (get_asked m) reply n → 1 + get_left n ≤ get_left m
spends_one (Going p) n call reply e fits fed = going_spends p n reply (subst (λ (c : Call). Answers true c reply) (sym (ask_is (asks_in 1 (entry_name p.part.file) p.part.stage) call e)) fits) fed
spends_one (Closing o answer) n call reply e fits fed = closing_spends o.zeroth o.first o.second o.third answer n reply call e fed
spends_one Spent n call reply e fits fed = not_ask call answers.NoMemory e

pub looks_spend : Spends get_asks get_asked GetFed get_left
looks_spend m n call reply e fits fed = omega (arith, looking_weight call reply (looks m call e), spends_one m n call reply e fits fed)

-- a lookup that asks has a call left
stage_left : (stage : Read) → 1 ≤ left_in stage
stage_left reads.Opening = omega arith
stage_left reads.Measuring = omega arith
stage_left (reads.Taking n) = omega arith
stage_left (reads.Closing given) = omega arith

open_left : (z f s t : Bool) (answer : Answer) (call : Call) → close_at (lowest (open_of z f s t)) answer ≡ Ask call → 1 ≤ count (open_of z f s t)
open_left z true s t answer call e = omega arith
open_left z false true t answer call e = omega arith
open_left z false false true answer call e = omega arith
open_left true false false false answer call e = omega arith
open_left false false false false answer call e = not_ask call answer e

pub has_call : (m : FolderGet) (call : Call) → get_asks m ≡ Ask call → 1 ≤ get_left m
has_call (Going p) call e = omega (arith, stage_left p.part.stage)
has_call (Closing o answer) call e = open_left o.zeroth o.first o.second o.third answer call e
has_call Spent call e = not_ask call answers.NoMemory e

-- ---- a lookup that has done nothing yet

module _ (root : ℕ) (driver : DriverKeys) (key : Key) where
  pub new_going : (m : FolderGet) → IsNew root driver key m → (p : GetPart) × (m ≡ Going p) × IsNewPart root driver key p
  new_going (Going p) new = (p, refl, new)
  new_going (Closing o answer) new = absurd new
  new_going Spent new = absurd new

  pub new_right : (m : FolderGet) → IsNew root driver key m → get_right m
  new_right (Going p) new = ap (λ (o : Open). has o 1) new.alone
  new_right (Closing o answer) new = absurd new
  new_right Spent new = absurd new

  -- it is in its root, with four calls left, no slot filled, and no call failed
  pub new_root : (m : FolderGet) → IsNew root driver key m → IsInRoot root m
  new_root (Going p) new = ap (λ (f : EntryFile). f.root) new.file_is
  new_root (Closing o answer) new = absurd new
  new_root Spent new = absurd new

  pub new_left : (m : FolderGet) → IsNew root driver key m → get_left m ≡ 4
  new_left (Going p) new = ap (λ (stage : Read). left_in stage + count p.part.base) new.opening ∙ ap (λ (o : Open). 4 + count o) new.alone
  new_left (Closing o answer) new = absurd new
  new_left Spent new = absurd new

  pub new_empty : (m : FolderGet) → IsNew root driver key m → (at : ℕ) → get_slots m at ≡ false
  new_empty (Going p) new at = ap (λ (stage : Read). has (slots_in 1 p.part.base stage) at) new.opening ∙ ap (λ (o : Open). has o at) new.alone ∙ none_open at
  new_empty (Closing o answer) new at = absurd new
  new_empty Spent new at = absurd new
