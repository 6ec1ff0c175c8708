-- The items of a call: the root in which they stand, the calls that they count as, and what they tell of failures and changes.
use Rattle.std.proofs.Common.{◌≡◌, ◌≤◌, ◌+◌, ℕ, nat_eq, Bool, true, false, cond, List, [], ◌∷◌, ◌++◌, length, take, Option, Some, None, refl, sym, ap, subst, ◌∙◌, arith}
use Rattle.std.proofs.lemmas.Bool.{eq-eqb}
use Rattle.std.proofs.lemmas.List.Folds.{list_any-append}
use Rattle.std.specs.List.{AllByRecursion, list_any}
use Rattle.cache_types.specs.declared.answer.Answer.{Answer}
use Rattle.cache_types.specs.declared.seat.Who.{Who}
use Rattle.file_log.specs.declared.call.Call.{Call}
use Rattle.file_log.specs.declared.call.Call.TheVariants as calls
use Rattle.file_log.specs.declared.item.LogItem.{LogItem}
use Rattle.file_log.specs.declared.item.LogItem.TheVariants as items
use Rattle.file_log.specs.declared.note.Note.{Note}
use Rattle.file_log.specs.declared.note.Note.TheVariants as notes
use Rattle.file_log.specs.declared.reply.Reply.{Reply}
use Rattle.file_log.specs.declared.reply.Reply.TheVariants as replies
use Rattle.file_log.specs.Exchange.{Answers, Makes, Exchange, item_of_note, byte_items, items_done, items_before, items_refused}
use Rattle.file_log.specs.Operation.{NamesOnly, IsWithinRoot, is_next, next_place, calls_from, calls_in, is_fault}
use Rattle.files_api.specs.declared.machine.Step.{Step}
use Rattle.files_api.specs.declared.machine.Step.TheVariants.{Ask}
use Rattle.files_api.specs.Drive.{IsWithin, Runs, items_of_all}
use Rattle.folder_store.specs.OwnChanges.{is_change, is_want}

-- ---- the root in which they stand

pub all_append : (P : LogItem → Type 0) (xs ys : List LogItem) → AllByRecursion P xs → AllByRecursion P ys → AllByRecursion P (xs ++ ys)
all_append P [] ys a b = b
all_append P (x ∷ xs) ys a b = (a.0, all_append P xs ys a.1 b)

module _ (me : Who) (root : ℕ) where
  abbrev AreWithin : List LogItem → Type 0
  AreWithin made = AllByRecursion (IsWithinRoot root) made

  bytes_within : (slot at : ℕ) (bytes : List ℕ) → AreWithin (byte_items me slot at bytes)
  bytes_within slot at [] = tt
  bytes_within slot at (value ∷ bytes) = (tt, bytes_within slot (at + 1) bytes)

  done_within : (call : Call) → IsWithin call → NamesOnly root call → AreWithin (items_done me call)
  done_within (calls.Tell (notes.Evict store driver key)) within only = (tt, tt)
  done_within (calls.Tell (notes.Begin request)) within only = absurd within
  done_within (calls.Tell (notes.End answer)) within only = absurd within
  done_within (calls.WriteAt slot at bytes) within only = by_length (nat_eq (length bytes) 0)
    where
      by_length : (b : Bool) → AreWithin (cond b (items.Did me (calls.WriteAt slot at bytes) replies.Done ∷ []) (byte_items me slot at bytes))
      by_length true = (tt, tt)
      by_length false = bytes_within slot at bytes
  done_within call within only = (only, tt)

  before_within : (call : Call) (k : ℕ) → AreWithin (items_before me call k)
  before_within (calls.WriteAt slot at bytes) k = bytes_within slot at (take k bytes)
  before_within call k = tt

  refused_within : (call : Call) → AreWithin (items_refused me true call)
  refused_within (calls.Tell note) = tt
  refused_within call = (tt, tt)

  made_within : (call : Call) (reply : Reply) (made : List LogItem) → IsWithin call → NamesOnly root call → Makes me true call reply made → AreWithin made
  made_within call replies.Done made within only makes = subst AreWithin (sym makes) (done_within call within only)
  made_within call replies.Failed made within only makes = subst AreWithin (sym makes.1) (all_append (IsWithinRoot root) (items_before me call makes.0) _ (before_within call makes.0) (tt, tt))
  made_within call replies.NoMemory made within only makes = subst AreWithin (sym makes.1) (all_append (IsWithinRoot root) (items_before me call makes.0) _ (before_within call makes.0) (refused_within call))
  made_within call reply made within only makes = subst AreWithin (sym makes) (only, tt)

-- ---- the calls that they count as

-- a failed write that has written bytes counts as two calls, any other call as one
abbrev pub weight : Call → Reply → ℕ
weight (calls.WriteAt slot at bytes) replies.Failed = 2
weight (calls.WriteAt slot at bytes) replies.NoMemory = 2
weight call reply = 1

-- a list that is looked at by itself counts for no less
alone_no_less : (place : Option (ℕ × ℕ)) (log : List LogItem) → calls_from place log ≤ calls_in log
alone_no_less place [] = omega arith
alone_no_less place (item ∷ log) = by_test (is_next place item)
  where
    by_test : (b : Bool) → cond b 0 1 + calls_from (next_place item) log ≤ 1 + calls_from (next_place item) log
    by_test true = omega arith
    by_test false = omega arith

calls_append : (place : Option (ℕ × ℕ)) (xs ys : List LogItem) → calls_from place (xs ++ ys) ≤ calls_from place xs + calls_in ys
calls_append place [] ys = omega (arith, alone_no_less place ys)
calls_append place (x ∷ xs) ys = omega (arith, calls_append (next_place x) xs ys)

module _ (me : Who) (slot : ℕ) where
  -- bytes that go on with the one before them
  bytes_go_on : (at : ℕ) (bytes : List ℕ) → calls_from (Some (slot, at)) (byte_items me slot at bytes) ≡ 0
  bytes_go_on at [] = refl
  bytes_go_on at (value ∷ bytes) = rw (eq-eqb slot slot refl, eq-eqb at at refl) (omega (arith, bytes_go_on (at + 1) bytes))

  bytes_count : (at : ℕ) (bytes : List ℕ) → calls_in (byte_items me slot at bytes) ≤ 1
  bytes_count at [] = omega arith
  bytes_count at (value ∷ bytes) = omega (arith, bytes_go_on (at + 1) bytes)

done_count : (me : Who) (call : Call) → calls_in (items_done me call) ≤ 1
done_count me (calls.Tell (notes.Evict store driver key)) = omega arith
done_count me (calls.Tell (notes.Begin request)) = omega arith
done_count me (calls.Tell (notes.End answer)) = omega arith
done_count me (calls.WriteAt slot at bytes) = by_length (nat_eq (length bytes) 0)
  where
    by_length : (b : Bool) → calls_in (cond b (items.Did me (calls.WriteAt slot at bytes) replies.Done ∷ []) (byte_items me slot at bytes)) ≤ 1
    by_length true = omega arith
    by_length false = bytes_count me slot at bytes
done_count me call = omega arith

refused_count : (me : Who) (call : Call) → calls_in (items_refused me true call) ≤ 1
refused_count me (calls.Tell note) = omega arith
refused_count me call = omega arith

write_count : (me : Who) (slot at k : ℕ) (bytes : List ℕ) (memory : Bool) → calls_in (byte_items me slot at (take k bytes) ++ items.Failed me memory ∷ []) ≤ 2
write_count me slot at k bytes memory = omega (arith, calls_append None (byte_items me slot at (take k bytes)) (items.Failed me memory ∷ []), bytes_count me slot at (take k bytes))

made_count : (me : Who) (call : Call) (reply : Reply) (made : List LogItem) → Makes me true call reply made → calls_in made ≤ weight call reply
made_count me (calls.WriteAt slot at bytes) replies.Done made makes = rw makes (done_count me (calls.WriteAt slot at bytes))
made_count me (calls.WriteAt slot at bytes) replies.Failed made makes = rw makes.1 (write_count me slot at makes.0 bytes false)
made_count me (calls.WriteAt slot at bytes) replies.NoMemory made makes = rw makes.1 (write_count me slot at makes.0 bytes true)
made_count me (calls.WriteAt slot at bytes) reply made makes = rw makes (omega arith)
made_count me call replies.Done made makes = rw makes (done_count me call)
made_count me call replies.Failed made makes = rw makes.1 (omega arith)
made_count me call replies.NoMemory made makes = rw makes.1 (refused_count me call)
made_count me call reply made makes = rw makes (omega arith)

-- ---- along a run

module _ {M : Type 0} (asks : M → Step) (asked : M → M) (fed : M → Reply → M → Type 0) where
  -- what a machine asks stands within an operation and names a root's files alone
  abbrev pub AsksWithin : ℕ → (M → Type 0) → Type 0
  AsksWithin root Here = (m : M) (call : Call) → Here m → asks m ≡ Ask call → IsWithin call × NamesOnly root call

  abbrev pub Lasts : (M → Type 0) → Type 0
  Lasts Here = (m n : M) (reply : Reply) → Here m → fed (asked m) reply n → Here n

  -- each call leaves so many fewer as it counts for
  abbrev pub Spends : (M → ℕ) → Type 0
  Spends left = (m n : M) (call : Call) (reply : Reply) → asks m ≡ Ask call → Answers true call reply → fed (asked m) reply n → weight call reply + left n ≤ left m

module _ {M : Type 0} (asks : M → Step) (asked : M → M) (fed : M → Reply → M → Type 0) (me : Who) where
  pub all_within : (root : ℕ) (Here : M → Type 0) → AsksWithin asks asked fed root Here → Lasts asks asked fed Here → (m last : M) (xs : List Exchange) (answer : Answer) → Here m → Runs asks asked fed me m xs answer last → AllByRecursion (IsWithinRoot root) (items_of_all xs)
  all_within root Here within lasts m last [] answer here run = tt
  all_within root Here within lasts m last (x ∷ xs) answer here run =
      let ours = within m x.call here run.0 in
      all_append (IsWithinRoot root) x.items (items_of_all xs) (made_within me root x.call x.reply x.items ours.0 ours.1 run.2)
      (all_within root Here within lasts run.3.0 last xs answer (lasts m run.3.0 x.reply here run.3.1) run.3.2)

  pub all_counted : (left : M → ℕ) → Spends asks asked fed left → (m last : M) (xs : List Exchange) (answer : Answer) → Runs asks asked fed me m xs answer last → calls_in (items_of_all xs) ≤ left m
  all_counted left spends m last [] answer run = omega arith
  all_counted left spends m last (x ∷ xs) answer run =
      omega (arith, calls_append None x.items (items_of_all xs), made_count me x.call x.reply x.items run.2, spends m run.3.0 x.call x.reply run.0 run.1 run.3.1, all_counted left spends run.3.0 last xs answer run.3.2)

-- ---- what they tell

-- a test that only failures pass
pub record TestsFailures (me : Who) (test : LogItem → Bool) : Type 0 where
  pub byte : (slot at value : ℕ) → test (items.Byte me slot at value) ≡ false
  pub did : (call : Call) (reply : Reply) → test (items.Did me call reply) ≡ false
  pub note : (note : Note) → test (item_of_note me note) ≡ false

-- what a call's failure tells
abbrev pub failure_of : Who → Call → Reply → List LogItem
failure_of me call replies.Failed = items.Failed me false ∷ []
failure_of me call replies.NoMemory = items_refused me true call
failure_of me call reply = []

module _ (me : Who) (test : LogItem → Bool) (t : TestsFailures me test) where
  no_byte : (slot at : ℕ) (bytes : List ℕ) → list_any test (byte_items me slot at bytes) ≡ false
  no_byte slot at [] = refl
  no_byte slot at (value ∷ bytes) = rw (t.byte slot at value) (no_byte slot (at + 1) bytes)

  none_done : (call : Call) → list_any test (items_done me call) ≡ false
  none_done (calls.Tell note) = rw (t.note note) refl
  none_done (calls.WriteAt slot at bytes) = by_length (nat_eq (length bytes) 0)
    where
      by_length : (b : Bool) → list_any test (cond b (items.Did me (calls.WriteAt slot at bytes) replies.Done ∷ []) (byte_items me slot at bytes)) ≡ false
      by_length true = rw (t.did (calls.WriteAt slot at bytes) replies.Done) refl
      by_length false = no_byte slot at bytes
  none_done call = rw (t.did call replies.Done) refl

  none_before : (call : Call) (k : ℕ) → list_any test (items_before me call k) ≡ false
  none_before (calls.WriteAt slot at bytes) k = no_byte slot at (take k bytes)
  none_before call k = refl

  after_none : (xs ys : List LogItem) → list_any test xs ≡ false → list_any test (xs ++ ys) ≡ list_any test ys
  after_none xs ys none = list_any-append test xs ys ∙ rw none refl

  pub failures_told : (call : Call) (reply : Reply) (made : List LogItem) → Makes me true call reply made → list_any test made ≡ list_any test (failure_of me call reply)
  failures_told call replies.Done made makes = rw makes (none_done call)
  failures_told call replies.Failed made makes = rw makes.1 (after_none (items_before me call makes.0) (items.Failed me false ∷ []) (none_before call makes.0))
  failures_told call replies.NoMemory made makes = rw makes.1 (after_none (items_before me call makes.0) (items_refused me true call) (none_before call makes.0))
  failures_told call reply made makes = rw makes (rw (t.did call reply) refl)

-- a call failed among these items other than for want of memory
abbrev pub any_fault : List LogItem → Bool
any_fault made = list_any is_fault made

abbrev pub any_want : List LogItem → Bool
any_want made = list_any is_want made

abbrev pub any_change : List LogItem → Bool
any_change made = list_any is_change made

pub tests_faults : (me : Who) → TestsFailures me is_fault
tests_faults me = record { byte = λ slot at value. refl; did = λ call reply. refl; note = no_note }
  where
    no_note : (note : Note) → is_fault (item_of_note me note) ≡ false
    no_note (notes.Begin request) = refl
    no_note (notes.Evict store driver key) = refl
    no_note (notes.End answer) = refl

pub tests_wants : (me : Who) → TestsFailures me is_want
tests_wants me = record { byte = λ slot at value. refl; did = λ call reply. refl; note = no_note }
  where
    no_note : (note : Note) → is_want (item_of_note me note) ≡ false
    no_note (notes.Begin request) = refl
    no_note (notes.Evict store driver key) = refl
    no_note (notes.End answer) = refl

pub refused_no_fault : (me : Who) (call : Call) → any_fault (items_refused me true call) ≡ false
refused_no_fault me (calls.Tell note) = refl
refused_no_fault me call = refl

-- a call that is no note
abbrev pub IsNoNote : Call → Type 0
IsNoNote (calls.Tell note) = ⊥
IsNoNote call = Unit {0}

pub refused_wants : (me : Who) (call : Call) → IsNoNote call → any_want (items_refused me true call) ≡ true
refused_wants me (calls.Tell note) other = absurd other
refused_wants me call other = refl

-- a call that cuts, writes, renames and removes no file
abbrev pub IsQuiet : Call → Type 0
IsQuiet (calls.Cut slot n) = ⊥
IsQuiet (calls.WriteAt slot at bytes) = ⊥
IsQuiet (calls.Rename from to) = ⊥
IsQuiet (calls.Remove name) = ⊥
IsQuiet call = Unit {0}

pub quiet_changes : (me : Who) (call : Call) (reply : Reply) (made : List LogItem) → IsQuiet call → Makes me true call reply made → any_change made ≡ false
quiet_changes me (calls.Cut slot n) reply made quiet makes = absurd quiet
quiet_changes me (calls.WriteAt slot at bytes) reply made quiet makes = absurd quiet
quiet_changes me (calls.Rename from to) reply made quiet makes = absurd quiet
quiet_changes me (calls.Remove name) reply made quiet makes = absurd quiet
quiet_changes me (calls.Tell (notes.Begin request)) replies.Done made quiet makes = ap any_change makes
quiet_changes me (calls.Tell (notes.Evict store driver key)) replies.Done made quiet makes = ap any_change makes
quiet_changes me (calls.Tell (notes.End answer)) replies.Done made quiet makes = ap any_change makes
quiet_changes me call replies.Done made quiet makes = ap any_change makes
quiet_changes me call replies.Failed made quiet makes = ap any_change makes.1
quiet_changes me call replies.NoMemory made quiet makes = ap any_change makes.1
quiet_changes me call reply made quiet makes = ap any_change makes
