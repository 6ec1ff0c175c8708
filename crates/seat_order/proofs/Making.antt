-- The items of a call, one step after another.
use Rattle.std.proofs.Common.{◌≡◌, ◌+◌, ◌⊎◌, inl, inr, ℕ, zero, suc, nat_eq, Bool, false, List, [], ◌∷◌, ◌++◌, length, take, refl, sym, ap, ◌∙◌, subst, arith}
use Rattle.std.proofs.Math.Seq.{take-length}
use Rattle.std.proofs.lemmas.Bool.{ne_eqb}
use Rattle.cache_types.specs.declared.seat.Who.{Who}
use Rattle.file_log.specs.declared.call.Call.{Call}
use Rattle.file_log.specs.declared.call.Call.TheVariants as calls
use Rattle.file_log.specs.declared.reply.Reply.{Reply}
use Rattle.file_log.specs.declared.reply.Reply.TheVariants as replies
use Rattle.file_log.specs.declared.item.LogItem.{LogItem}
use Rattle.file_log.specs.declared.item.LogItem.TheVariants as items
use Rattle.file_log.specs.Exchange.{Answers, Makes, MayGet, MayNumber, MayList, items_before, items_done, byte_items}
use Rattle.file_model.specs.declared.step.Progress.TheVariants as progresses
use Rattle.file_model.specs.Steps.{byte_item, done_items, step_items, StepFits, IsLast, IsPlace, IsEarlier}
use Rattle.world_tables.proofs.Runs.{byte_items-next}

module _ (me : Who) where
  -- a call begins with nothing made
  pub none_before : (call : Call) → items_before me call 0 ≡ []
  none_before (calls.WriteAt slot at bytes) = refl
  none_before call = refl

  pub place_at_first : (call : Call) → IsPlace call 0
  place_at_first (calls.WriteAt slot at []) = inl refl
  place_at_first (calls.WriteAt slot at (v ∷ vs)) = inr (omega arith)
  place_at_first call = tt

  pub place_then : (call : Call) (done : ℕ) → IsEarlier call done → IsPlace call (done + 1)
  place_then (calls.WriteAt slot at bytes) done earlier = inr earlier
  place_then call done earlier = absurd earlier

  -- with the next byte
  pub more_made : (call : Call) (done : ℕ) → IsEarlier call done → items_before me call done ++ byte_item me call done ≡ items_before me call (done + 1)
  more_made (calls.WriteAt slot at bytes) done earlier = sym (byte_items-next me slot at done (done + 1) bytes (omega (arith, earlier)) refl)
  more_made call done earlier = absurd earlier

  -- ---- before its reply

  plain_missing : (inside : Bool) (call : Call) (done : ℕ) → Answers inside call replies.Missing → items_before me call done ≡ []
  plain_missing inside (calls.OpenOld slot name) done fits = refl
  plain_missing inside call done fits = absurd fits

  plain_held : (inside : Bool) (call : Call) (done : ℕ) → Answers inside call replies.Held → items_before me call done ≡ []
  plain_held inside (calls.TryLock slot) done fits = refl
  plain_held inside call done fits = absurd fits

  plain_got : (call : Call) (done n : ℕ) → MayGet call n → items_before me call done ≡ []
  plain_got (calls.ReadAt slot at k) done n fits = refl
  plain_got call done n fits = absurd fits

  plain_number : (call : Call) (done : ℕ) → MayNumber call → items_before me call done ≡ []
  plain_number (calls.Length slot) done fits = refl
  plain_number calls.Now done fits = refl
  plain_number call done fits = absurd fits

  plain_keys : (call : Call) (done : ℕ) → MayList call → items_before me call done ≡ []
  plain_keys (calls.ListFolder root byte) done fits = refl
  plain_keys call done fits = absurd fits

  last_made : (slot at : ℕ) (bytes : List ℕ) (done : ℕ) → (bytes ≡ []) ⊎ (done + 1 ≡ length bytes) → items_before me (calls.WriteAt slot at bytes) done ++ done_items me (calls.WriteAt slot at bytes) done ≡ items_done me (calls.WriteAt slot at bytes)
  last_made slot at bytes done (inl empty) = subst (λ (b : List ℕ). items_before me (calls.WriteAt slot at b) done ++ done_items me (calls.WriteAt slot at b) done ≡ items_done me (calls.WriteAt slot at b)) (sym empty) (none done)
    where
      none : (k : ℕ) → items_before me (calls.WriteAt slot at []) k ++ done_items me (calls.WriteAt slot at []) k ≡ items_done me (calls.WriteAt slot at [])
      none zero = refl
      none (suc k) = refl
  last_made slot at bytes done (inr last) =
      let filled : nat_eq (length bytes) 0 ≡ false = ne_eqb (length bytes) 0 (λ e. absurd (omega (arith, e, last))) in
      let next = byte_items-next me slot at done (length bytes) bytes (omega (arith, last)) (sym last) in
      let whole : byte_items me slot at (take (length bytes) bytes) ≡ byte_items me slot at bytes = ap (byte_items me slot at) (take-length bytes) in
      rw filled (sym next ∙ whole)

  made_done : (call : Call) (done : ℕ) → IsLast call done → items_before me call done ++ done_items me call done ≡ items_done me call
  made_done (calls.WriteAt slot at bytes) done last = last_made slot at bytes done last
  made_done call done last = refl

  -- a call that is answered so has made these items
  pub made_all : (inside : Bool) (call : Call) (done : ℕ) (reply : Reply) → StepFits (progresses.Reply reply) inside call done → Makes me inside call reply (items_before me call done ++ step_items (progresses.Reply reply) me inside call done)
  made_all inside call done replies.Done fits = made_done call done fits.1
  made_all inside call done replies.Failed fits = (done, refl)
  made_all inside call done replies.NoMemory fits = (done, refl)
  made_all inside call done replies.Missing fits = ap (λ (l : List LogItem). l ++ items.Did me call replies.Missing ∷ []) (plain_missing inside call done fits)
  made_all inside call done replies.Held fits = ap (λ (l : List LogItem). l ++ items.Did me call replies.Held ∷ []) (plain_held inside call done fits)
  made_all inside call done (replies.Got bytes) fits = ap (λ (l : List LogItem). l ++ items.Did me call (replies.Got bytes) ∷ []) (plain_got call done (length bytes) fits)
  made_all inside call done (replies.Number n) fits = ap (λ (l : List LogItem). l ++ items.Did me call (replies.Number n) ∷ []) (plain_number call done fits)
  made_all inside call done (replies.Keys keys) fits = ap (λ (l : List LogItem). l ++ items.Did me call (replies.Keys keys) ∷ []) (plain_keys call done fits)

  pub answers_so : (inside : Bool) (call : Call) (done : ℕ) (reply : Reply) → StepFits (progresses.Reply reply) inside call done → Answers inside call reply
  answers_so inside call done replies.Done fits = fits.0
  answers_so inside call done reply fits = fits
