-- A whole file is read.
use Rattle.std.specs.Prelude.{◌≡◌, ℕ, ◌+◌, true, false, List, Option, Some, None, nat_lt, if◌then◌else◌}
use Rattle.cache_types.specs.declared.name.Name.{Name}
use Rattle.file_log.specs.declared.call.Call.{Call}
use Rattle.file_log.specs.declared.call.Call.TheVariants.{OpenOld, Length, ReadAt, Close}
use Rattle.file_log.specs.declared.reply.Reply.{Reply}
use Rattle.file_log.specs.declared.reply.Reply.TheVariants as replies
use Rattle.machine_parts.specs.declared.open.Open.{Open}
use Rattle.machine_parts.specs.declared.part.After.{After}
use Rattle.machine_parts.specs.declared.part.After.TheVariants.{More, Over}
use Rattle.machine_parts.specs.declared.reading.Read.{Read}
use Rattle.machine_parts.specs.declared.reading.Read.TheVariants.{Opening, Measuring, Taking, Closing}
use Rattle.machine_parts.specs.declared.reading.Reading.{Reading}
use Rattle.machine_parts.specs.Slots.{has, count, opened}

abbrev pub asks_in : ℕ → Name → Read → Call
asks_in slot name Opening = OpenOld slot name
asks_in slot name Measuring = Length slot
asks_in slot name (Taking length) = ReadAt slot 0 length
asks_in slot name (Closing given) = Close slot

abbrev pub slots_in : ℕ → Open → Read → Open
slots_in slot base Opening = base
slots_in slot base stage = opened base slot true

-- so many calls are left, besides those that close what else is open
abbrev pub left_in : Read → ℕ
left_in Opening = 4
left_in Measuring = 3
left_in (Taking length) = 2
left_in (Closing given) = 1

-- no longer file than the longest is read
abbrev pub measured : ℕ → ℕ → Read
measured longest length = if nat_lt longest length then Closing None else Taking length

abbrev pub next_in : {L : Type 0} → ℕ → L → Open → Read → Reply → After (Reading L) (Option (List ℕ))
next_in longest file base Opening replies.Done = More (record { file = file; base = base; stage = Measuring })
next_in longest file base Opening reply = Over base None
next_in longest file base Measuring (replies.Number length) = More (record { file = file; base = base; stage = measured longest length })
next_in longest file base Measuring reply = Over base None
next_in longest file base (Taking length) (replies.Got bytes) = More (record { file = file; base = base; stage = Closing (Some bytes) })
next_in longest file base (Taking length) reply = Over base None
next_in longest file base (Closing given) reply = Over base given

-- its slot is none of those that are open besides
abbrev pub reading_right : {L : Type 0} → ℕ → Reading L → Type 0
reading_right slot m = has m.base slot ≡ false

abbrev pub reading_asks : {L : Type 0} → ℕ → (L → Name) → Reading L → Call
reading_asks slot name m = asks_in slot (name m.file) m.stage

abbrev pub reading_next : {L : Type 0} → ℕ → Reading L → Reply → After (Reading L) (Option (List ℕ))
reading_next longest m reply = next_in longest m.file m.base m.stage reply

abbrev pub reading_slots : {L : Type 0} → ℕ → Reading L → Open
reading_slots slot m = slots_in slot m.base m.stage

abbrev pub reading_left : {L : Type 0} → Reading L → ℕ
reading_left m = left_in m.stage + count m.base
