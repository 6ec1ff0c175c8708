-- A part whose result is judged.
use Rattle.std.specs.Prelude.{◌≡◌, ℕ}
use Rattle.file_log.specs.declared.call.Call.{Call}
use Rattle.file_log.specs.declared.reply.Reply.{Reply}
use Rattle.machine_parts.specs.declared.judged.Judged.{Judged}
use Rattle.machine_parts.specs.declared.open.Open.{Open}
use Rattle.machine_parts.specs.declared.part.After.{After}
use Rattle.machine_parts.specs.declared.part.After.TheVariants.{More, Over}

module _ {P J : Type 0} where
  abbrev pub judged_right : (P → Type 0) → Judged P J → Type 0
  judged_right right m = right m.part

  abbrev pub judged_asks : (P → Call) → Judged P J → Call
  judged_asks asks m = asks m.part

  abbrev pub judged_asked : (P → P) → Judged P J → Judged P J
  judged_asked asked m = record { part = asked m.part; judge = m.judge }

  abbrev pub judged_slots : (P → Open) → Judged P J → Open
  judged_slots slots m = slots m.part

  abbrev pub judged_left : (P → ℕ) → Judged P J → ℕ
  judged_left left m = left m.part

  -- more of the part, or a verdict on what it gave
  abbrev pub JudgedTo : {X Y : Type 0} → (J → X → Y → Type 0) → J → After P X → After (Judged P J) Y → Type 0
  JudgedTo {X} {Y} judges judge (More p) r = r ≡ More (record { part = p; judge = judge })
  JudgedTo {X} {Y} judges judge (Over o x) r = (y : Y) × judges judge x y × (r ≡ Over o y)

  abbrev pub JudgedFed : {X Y : Type 0} → (P → Reply → After P X → Type 0) → (J → X → Y → Type 0) → Judged P J → Reply → After (Judged P J) Y → Type 0
  JudgedFed {X} {Y} fed judges m reply r = (s : After P X) × fed m.part reply s × JudgedTo judges m.judge s r
