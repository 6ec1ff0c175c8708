-- A reading asks what its slots allow, and a good reply moves them.
use Rattle.std.specs.Prelude.{◌≡◌, ◌<◌, ◌+◌, ℕ, zero, suc, Bool, true, false, nat_eq, nat_lt, cond, List, Option, None}
use Rattle.std.proofs.Common.{refl, sym, ap, ◌∙◌, subst, arith}
use Rattle.std.proofs.lemmas.Bool.{eq-eqb, eqb-true}
use Rattle.cache_types.specs.declared.name.Name.{Name}
use Rattle.file_log.specs.declared.call.Call.TheVariants as calls
use Rattle.file_log.specs.declared.reply.Reply.{Reply}
use Rattle.file_log.specs.declared.reply.Reply.TheVariants as replies
use Rattle.file_log.specs.Exchange.{Answers}
use Rattle.machine_parts.specs.declared.open.Open.{Open}
use Rattle.machine_parts.specs.declared.part.After.{After}
use Rattle.machine_parts.specs.declared.reading.Read.{Read}
use Rattle.machine_parts.specs.declared.reading.Read.TheVariants.{Opening, Measuring, Taking, Closing}
use Rattle.machine_parts.specs.declared.reading.Reading.{Reading}
use Rattle.machine_parts.specs.EndingLaws.{by_slot}
use Rattle.machine_parts.specs.Parts.{FitsCall, Bears, Follows, Moved}
use Rattle.machine_parts.specs.Reading.{asks_in, slots_in, left_in, next_in, reading_right, reading_asks, reading_next, reading_slots, reading_left}
use Rattle.machine_parts.specs.Slots.{row, has, one, count, opened}

-- ---- a slot of four

by_four : (P : ℕ → Type 0) (slot : ℕ) → slot < 4 → P 0 → P 1 → P 2 → P 3 → P slot
by_four P zero small a b c d = a
by_four P (suc zero) small a b c d = b
by_four P (suc (suc zero)) small a b c d = c
by_four P (suc (suc (suc zero))) small a b c d = d
by_four P (suc (suc (suc (suc n)))) small a b c d = absurd (omega (arith, small))

-- a slot is filled or emptied
pub opened_has : (o : Open) (filled : Bool) (slot : ℕ) → slot < 4 → (at : ℕ) → has (opened o slot filled) at ≡ cond (nat_eq slot at) filled (has o at)
opened_has o b slot small = by_four (λ s. (at : ℕ) → has (opened o s b) at ≡ cond (nat_eq s at) b (has o at)) slot small
    (λ at. by_slot (λ z f s t. row b o.first o.second o.third z f s t ≡ cond z b (row o.zeroth o.first o.second o.third z f s t)) refl refl refl refl refl at)
    (λ at. by_slot (λ z f s t. row o.zeroth b o.second o.third z f s t ≡ cond f b (row o.zeroth o.first o.second o.third z f s t)) refl refl refl refl refl at)
    (λ at. by_slot (λ z f s t. row o.zeroth o.first b o.third z f s t ≡ cond s b (row o.zeroth o.first o.second o.third z f s t)) refl refl refl refl refl at)
    (λ at. by_slot (λ z f s t. row o.zeroth o.first o.second b z f s t ≡ cond t b (row o.zeroth o.first o.second o.third z f s t)) refl refl refl refl refl at)

-- a slot that is opened is one more
pub opened_count : (o : Open) (slot : ℕ) → slot < 4 → has o slot ≡ false → count (opened o slot true) ≡ count o + 1
opened_count o slot small = by_four (λ s. has o s ≡ false → count (opened o s true) ≡ count o + 1) slot small
    (λ e. let none : one o.zeroth ≡ 0 = ap one e in omega (arith, none))
    (λ e. let none : one o.first ≡ 0 = ap one e in omega (arith, none))
    (λ e. let none : one o.second ≡ 0 = ap one e in omega (arith, none))
    (λ e. let none : one o.third ≡ 0 = ap one e in omega (arith, none))

module _ (slot : ℕ) (small : slot < 4) (base : Open) (free : has base slot ≡ false) where
  is_open : has (opened base slot true) slot ≡ true
  is_open = opened_has base true slot small slot ∙ ap (λ (t : Bool). cond t true (has base slot)) (eq-eqb slot slot refl)

  -- what is closed again is as it was
  closed_again : (at : ℕ) → has base at ≡ cond (nat_eq slot at) false (has (opened base slot true) at)
  closed_again at = by_test (nat_eq slot at) refl
    where
      by_test : (t : Bool) → nat_eq slot at ≡ t → has base at ≡ cond t false (has (opened base slot true) at)
      by_test true same = ap (has base) (sym (eqb-true slot at same)) ∙ free
      by_test false other = sym (opened_has base true slot small at ∙ ap (λ (t : Bool). cond t true (has base at)) other)

  fits_in : (name : Name) (stage : Read) → FitsCall (slots_in slot base stage) (left_in stage + count base) (asks_in slot name stage)
  fits_in name Opening = ((omega (arith, small), free), tt, omega arith)
  fits_in name Measuring = ((omega (arith, small), is_open), tt, omega arith)
  fits_in name (Taking length) = ((omega (arith, small), is_open), tt, omega arith)
  fits_in name (Closing given) = ((omega (arith, small), is_open), tt, omega arith)

  open_bears : (n : ℕ) → 1 < n → count (opened base slot true) < n + count base
  open_bears n more = omega (arith, more, opened_count base slot small free)

  bears_in : (name : Name) (stage : Read) (reply : Reply) → Answers true (asks_in slot name stage) reply → Bears (slots_in slot base stage) (left_in stage + count base) reply
  bears_in name Opening replies.Failed fit = omega arith
  bears_in name Opening replies.NoMemory fit = omega arith
  bears_in name Opening reply fit = tt
  bears_in name Measuring replies.Failed fit = open_bears 3 (omega arith)
  bears_in name Measuring replies.NoMemory fit = open_bears 3 (omega arith)
  bears_in name Measuring reply fit = tt
  bears_in name (Taking length) replies.Failed fit = open_bears 2 (omega arith)
  bears_in name (Taking length) replies.NoMemory fit = open_bears 2 (omega arith)
  bears_in name (Taking length) reply fit = tt
  bears_in name (Closing given) replies.Failed fit = absurd fit
  bears_in name (Closing given) replies.NoMemory fit = absurd fit
  bears_in name (Closing given) reply fit = tt

module _ {L : Type 0} (slot longest : ℕ) (name : L → Name) (small : slot < 4) where
  abbrev FollowsIn : L → Open → Read → Reply → After (Reading L) (Option (List ℕ)) → Type 0
  FollowsIn file base stage reply r = Follows (reading_right slot) (reading_slots slot) reading_left (slots_in slot base stage) (left_in stage + count base) (asks_in slot (name file) stage) reply r

  measured_moves : (base : Open) (n : ℕ) (b : Bool) → Moved (opened base slot true) (3 + count base) (calls.Length slot) (replies.Number n) (slots_in slot base (cond b (Closing None) (Taking n))) (left_in (cond b (Closing None) (Taking n)) + count base)
  measured_moves base n true = record { filled = λ at. refl; less = omega arith }
  measured_moves base n false = record { filled = λ at. refl; less = omega arith }

  goes_in : (file : L) (base : Open) (stage : Read) (reply : Reply) → has base slot ≡ false → FollowsIn file base stage reply (next_in longest file base stage reply)
  goes_in file base Opening replies.Done free = λ fit good. (free, record { filled = opened_has base true slot small; less = omega arith })
  goes_in file base Opening replies.Missing free = λ fit good. record { filled = λ at. refl; less = omega arith }
  goes_in file base Opening replies.Failed free = λ fit good. absurd good
  goes_in file base Opening replies.NoMemory free = λ fit good. absurd good
  goes_in file base Opening reply free = λ fit good. absurd fit
  goes_in file base Measuring (replies.Number n) free = λ fit good. (free, measured_moves base n (nat_lt longest n))
  goes_in file base Measuring replies.Failed free = λ fit good. absurd good
  goes_in file base Measuring replies.NoMemory free = λ fit good. absurd good
  goes_in file base Measuring reply free = λ fit good. absurd fit
  goes_in file base (Taking n) (replies.Got bytes) free = λ fit good. (free, record { filled = λ at. refl; less = omega arith })
  goes_in file base (Taking n) replies.Failed free = λ fit good. absurd good
  goes_in file base (Taking n) replies.NoMemory free = λ fit good. absurd good
  goes_in file base (Taking n) reply free = λ fit good. absurd fit
  goes_in file base (Closing given) replies.Done free = λ fit good. record { filled = closed_again slot small base free; less = omega arith }
  goes_in file base (Closing given) reply free = λ fit good. absurd fit

  pub reading_goes_on : (m : Reading L) (reply : Reply) (r : After (Reading L) (Option (List ℕ))) → reading_right slot m → r ≡ reading_next longest m reply
      → Follows (reading_right slot) (reading_slots slot) reading_left (reading_slots slot m) (reading_left m) (reading_asks slot name m) reply r
  reading_goes_on m reply r free e = subst (FollowsIn m.file m.base m.stage reply) (sym e) (goes_in m.file m.base m.stage reply free)

module _ {L : Type 0} (slot : ℕ) (name : L → Name) (small : slot < 4) where
  pub reading_fits : (m : Reading L) → reading_right slot m → FitsCall (reading_slots slot m) (reading_left m) (reading_asks slot name m)
  reading_fits m free = fits_in slot small m.base free (name m.file) m.stage

  pub reading_bears : (m : Reading L) (reply : Reply) → reading_right slot m → Answers true (reading_asks slot name m) reply → Bears (reading_slots slot m) (reading_left m) reply
  reading_bears m reply free fit = bears_in slot small m.base free (name m.file) m.stage reply fit
