-- What a driven machine has done so far, and one call more.
use Rattle.std.proofs.Common.{◌≡◌, ◌≤◌, ◌<◌, ◌+◌, ◌⊎◌, inl, inr, ℕ, Bool, true, false, List, [], ◌∷◌, ◌++◌, length, Option, refl, sym, ap, subst, ◌∙◌, append_assoc, arith, length-append}
use Rattle.std.proofs.lemmas.List.{append-nil}
use Rattle.std.proofs.lemmas.List.Concat.{flat_map-append}
use Rattle.cache_types.specs.declared.answer.Answer.{Answer}
use Rattle.cache_types.specs.declared.seat.Who.{Who}
use Rattle.file_log.specs.declared.call.Call.{Call}
use Rattle.file_log.specs.declared.call.Call.TheVariants as calls
use Rattle.file_log.specs.declared.item.LogItem.{LogItem}
use Rattle.file_log.specs.declared.note.Note.TheVariants as notes
use Rattle.file_log.specs.declared.reply.Reply.{Reply}
use Rattle.file_log.specs.declared.reply.Reply.TheVariants as replies
use Rattle.file_log.specs.Exchange.{Answers, Exchange}
use Rattle.file_log.specs.Log.{History}
use Rattle.file_log.specs.Seat.{Seen, MayCall, IsCalm, seen_after}
use Rattle.file_log.specs.Told.{Grows, Owns, Called, Rose, HasCause}
use Rattle.file_log.proofs.Logs.{grows_then, but_the_end, nothing_yet}
use Rattle.files_api.specs.declared.machine.Step.{Step}
use Rattle.files_api.specs.declared.machine.Step.TheVariants.{Ask, Done}
use Rattle.files_api.specs.Drive.{seen_in, IsWithin, Runs, items_of_all, SomeFailed, Counts, Ran}

-- ---- what the seat has seen, and what the machine keeps of it

-- within an operation, with the machine's slots
pub same_seen : (seen : Seen) (slots : ℕ → Bool) → seen.filled ≡ slots → seen.inside ≡ true → seen ≡ seen_in slots seen.hurt
same_seen seen slots filled inside =
    ap (λ (f : ℕ → Bool). record { filled = f; inside = seen.inside; hurt = seen.hurt }) filled
    ∙ ap (λ (b : Bool). record { filled = slots; inside = b; hurt = seen.hurt }) inside

calm_too : (h m : Bool) → (h ≡ true → m ≡ true) → m ≡ false → h ≡ false
calm_too true m cover e = let clash : true ≡ false = sym (cover refl) ∙ e in absurd cc
calm_too false m cover e = refl

calm : (h m : Bool) (call : Call) → (h ≡ true → m ≡ true) → IsCalm m call → IsCalm h call
calm h m (calls.Close slot) cover c = tt
calm h m (calls.Tell note) cover c = tt
calm h m call cover c = calm_too h m cover c

-- what the machine may ask the seat may
pub may_call : (seen : Seen) (slots : ℕ → Bool) (m : Bool) (call : Call) → seen.filled ≡ slots → seen.inside ≡ true → (seen.hurt ≡ true → m ≡ true) → MayCall (seen_in slots m) call → MayCall seen call
may_call seen slots m call filled inside cover may =
    subst (λ (s : Seen). MayCall s call) (sym (same_seen seen slots filled inside)) (may.0, calm seen.hurt m call cover may.1)

-- a failure takes no part in which slots are filled
filled_apart : (f : ℕ → Bool) (h m : Bool) (call : Call) (reply : Reply) (at : ℕ) → (seen_after (seen_in f h) call reply).filled at ≡ (seen_after (seen_in f m) call reply).filled at
filled_apart f h m (calls.Tell (notes.Begin request)) replies.Done at = refl
filled_apart f h m (calls.Tell (notes.Evict store driver key)) replies.Done at = refl
filled_apart f h m (calls.Tell (notes.End answer)) replies.Done at = refl
filled_apart f h m call replies.Done at = refl
filled_apart f h m (calls.Tell note) replies.NoMemory at = refl
filled_apart f h m call replies.NoMemory at = refl
filled_apart f h m call reply at = refl

-- what a machine takes for failed covers what has failed
hurt_covered : (f : ℕ → Bool) (h m : Bool) (call : Call) (reply : Reply) → (h ≡ true → m ≡ true) → (seen_after (seen_in f h) call reply).hurt ≡ true → (seen_after (seen_in f m) call reply).hurt ≡ true
hurt_covered f h m (calls.Tell (notes.Begin request)) replies.Done cover e = e
hurt_covered f h m (calls.Tell (notes.Evict store driver key)) replies.Done cover e = cover e
hurt_covered f h m (calls.Tell (notes.End answer)) replies.Done cover e = e
hurt_covered f h m call replies.Done cover e = cover e
hurt_covered f h m call replies.Failed cover e = refl
hurt_covered f h m (calls.Tell note) replies.NoMemory cover e = cover e
hurt_covered f h m call replies.NoMemory cover e = refl
hurt_covered f h m call reply cover e = cover e

inside_kept : (f : ℕ → Bool) (h : Bool) (call : Call) (reply : Reply) → IsWithin call → (seen_after (seen_in f h) call reply).inside ≡ true
inside_kept f h (calls.Tell (notes.Evict store driver key)) replies.Done w = refl
inside_kept f h (calls.Tell (notes.Begin request)) replies.Done w = absurd w
inside_kept f h (calls.Tell (notes.End answer)) replies.Done w = absurd w
inside_kept f h call replies.Done w = refl
inside_kept f h (calls.Tell note) replies.NoMemory w = refl
inside_kept f h call replies.NoMemory w = refl
inside_kept f h call reply w = refl

module _ (seen : Seen) (slots : ℕ → Bool) (m : Bool) (call : Call) (reply : Reply) (filled : seen.filled ≡ slots) (inside : seen.inside ≡ true) where
  pub filled_then : (at : ℕ) → (seen_after seen call reply).filled at ≡ (seen_after (seen_in slots m) call reply).filled at
  filled_then at = ap (λ (s : Seen). (seen_after s call reply).filled at) (same_seen seen slots filled inside) ∙ filled_apart slots seen.hurt m call reply at

  pub hurt_then : (seen.hurt ≡ true → m ≡ true) → (seen_after seen call reply).hurt ≡ true → (seen_after (seen_in slots m) call reply).hurt ≡ true
  hurt_then cover e = hurt_covered slots seen.hurt m call reply cover (sym (ap (λ (s : Seen). (seen_after s call reply).hurt) (same_seen seen slots filled inside)) ∙ e)

  pub inside_then : IsWithin call → (seen_after seen call reply).inside ≡ true
  inside_then w = ap (λ (s : Seen). (seen_after s call reply).inside) (same_seen seen slots filled inside) ∙ inside_kept slots seen.hurt call reply w

-- ---- counts of faults

rose_later : (a b c : ℕ) → Rose a b → b ≤ c → Rose a c
rose_later a b c r l = omega arith

later_rose : (a b c : ℕ) → a ≤ b → Rose b c → Rose a c
later_rose a b c l r = omega arith

some_before : (xs ys : List Exchange) → SomeFailed (xs ++ ys) → SomeFailed xs ⊎ SomeFailed ys
some_before [] ys s = inr s
some_before (x ∷ xs) ys (inl e) = inl (inl e)
some_before (x ∷ xs) ys (inr s) = elim (some_before xs ys s) [ inl l ↦ inl (inr l) | inr r ↦ inr r ]

only_last : (x : Exchange) → SomeFailed (x ∷ []) → x.reply ≡ replies.Failed
only_last x (inl e) = e
only_last x (inr none) = absurd none

pub counts_more : (a b c : ℕ) (xs : List Exchange) (x : Exchange) → Counts a b xs → HasCause b c x.reply → Counts a c (xs ++ x ∷ [])
counts_more a b c xs x before cause = record {
  later = omega (arith, before.later, cause.later);
  rose = λ some. elim (some_before xs (x ∷ []) some) [ inl l ↦ rose_later a b c (before.rose l) cause.later | inr r ↦ later_rose a b c before.later (cause.failed (only_last x r)) ];
}

-- ---- the run

items-more : (xs : List Exchange) (x : Exchange) → items_of_all (xs ++ x ∷ []) ≡ items_of_all xs ++ x.items
items-more xs x = flat_map-append _ xs (x ∷ []) ∙ ap (λ (ys : List LogItem). items_of_all xs ++ ys) (append-nil x.items)

-- a machine has come so far, with at most so many calls left
pub record SoFar {M : Type 0} (asks : M → Step) (asked : M → M) (fed : M → Reply → M → Type 0) (me : Who) (most left : ℕ) (first now : M) (old new : Option History) (before count : ℕ) : Type 0 where
  pub exchanges : List Exchange
  pub leads : (xs : List Exchange) (answer : Answer) (last : M) → Runs asks asked fed me now xs answer last → Runs asks asked fed me first (exchanges ++ xs) answer last
  pub within : length exchanges + left ≤ most
  pub counts : Counts before count exchanges
  pub told : Grows old new (Owns me (items_of_all exchanges))

module _ {M : Type 0} (asks : M → Step) (asked : M → M) (fed : M → Reply → M → Type 0) (me : Who) where
  pub begins : (m : M) (left : ℕ) (h : Option History) (count : ℕ) → SoFar asks asked fed me left left m m h h count count
  begins m left h count = record { exchanges = []; leads = λ xs answer last r. r; within = omega arith; counts = record { later = omega arith; rose = λ none. absurd none }; told = nothing_yet me h }

  pub goes_on : (most left left' : ℕ) (first now next : M) (old mid new : Option History) (before count count' : ℕ) (call : Call) (reply : Reply)
      → SoFar asks asked fed me most left first now old mid before count → asks now ≡ Ask call → Answers true call reply → fed (asked now) reply next → left' < left
      → HasCause count count' reply → Called me true call reply mid new → SoFar asks asked fed me most left' first next old new before count'
  goes_on most left left' first now next old mid new before count count' call reply so_far is fits fed' less cause called =
      let x : Exchange = record { call = call; reply = reply; items = called.items } in
      record {
        exchanges = so_far.exchanges ++ x ∷ [];
        leads = λ xs answer last r. subst (λ (ys : List Exchange). Runs asks asked fed me first ys answer last) (sym (append_assoc so_far.exchanges (x ∷ []) xs)) (so_far.leads (x ∷ xs) answer last (is, fits, called.makes, (next, fed', r)));
        within = omega (arith, length-append so_far.exchanges (x ∷ []), so_far.within);
        counts = counts_more before count count' so_far.exchanges x so_far.counts cause;
        told = subst (λ (zs : List LogItem). Grows old new (Owns me zs)) (sym (items-more so_far.exchanges x)) (grows_then me old mid new (items_of_all so_far.exchanges) called.items so_far.told (but_the_end me mid new called.items called.told));
      }

  pub ends : (most left : ℕ) (first now last : M) (old new : Option History) (before count : ℕ) (answer : Answer) → SoFar asks asked fed me most left first now old new before count → asks now ≡ Done answer → last ≡ asked now → Ran asks asked fed most me first last old new before count answer
  ends most left first now last old new before count answer so_far is last-is =
      record {
        exchanges = so_far.exchanges;
        runs = subst (λ (ys : List Exchange). Runs asks asked fed me first ys answer last) (append-nil so_far.exchanges) (so_far.leads [] answer last (is, last-is));
        within = omega (arith, so_far.within);
        counts = so_far.counts;
        told = so_far.told;
      }

-- what was counted within a longer time
pub counts_within : (a b c d : ℕ) (xs : List Exchange) → a ≤ b → Counts b c xs → c ≤ d → Counts a d xs
counts_within a b c d xs ab counts cd = record {
  later = omega (arith, counts.later);
  rose = λ some. later_rose a b d ab (rose_later b c d (counts.rose some) cd);
}
