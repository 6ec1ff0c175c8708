-- What is told of a log that begins on an empty disk.
use Rattle.std.specs.Prelude.{ℕ, ◌<◌, List, [], length, Option, Some, None}
use Rattle.file_log.specs.declared.item.LogItem.{LogItem}
use Rattle.file_log.specs.Legal.{Legal}
use Rattle.file_log.specs.State.{first}
use Rattle.file_model.specs.FirstIllegal.{IsBroken}
use Rattle.seat_rules.specs.Places.{At}
use Rattle.layout_rules.specs.Places.{KeepsAt, BreaksAt, Cooperating}
use Rattle.seat_rules.specs.Promises.{IsLicensed, IsFound, Licensed, Found}
use Rattle.world_log.specs.declared.verdict.Verdict.{Verdict}
use Rattle.world_log.specs.declared.verdict.Verdict.TheVariants.{Good, IllegalAt, BrokenAt}

-- the item at the place keeps the rules, and as a lookup's answer gives what was put and finds what is promised to it
pub record IsGoodAt (log : List LogItem) (n : ℕ) : Type 0 where
  pub keeps : KeepsAt log n
  pub licensed : At IsLicensed log n
  pub found : At IsFound log n

-- the first place that breaks a rule, if there is one
abbrev pub IsFirstBreak : List LogItem → Option ℕ → Type 0
IsFirstBreak log None = Cooperating log
IsFirstBreak log (Some n) = (n < length log) × ((m : ℕ) → m < n → KeepsAt log m) × BreaksAt log n

-- a log that can be, each place of which is so
pub record IsGood (log : List LogItem) : Type 0 where
  pub legal : Legal (first []) log
  pub keeps : Cooperating log
  pub licensed : Licensed log
  pub found : Found log

-- a log that can be, the first place of which that isn't so is this one
pub record IsFirstBad (log : List LogItem) (n : ℕ) : Type 0 where
  pub legal : Legal (first []) log
  pub there : n < length log
  pub before : (m : ℕ) → m < n → IsGoodAt log m
  pub bad : IsGoodAt log n → ⊥

-- the verdict on the log: all of it is good, or its first item that can't be, or else its first place that is bad
abbrev pub IsVerdict : List LogItem → Verdict → Type 0
IsVerdict log Good = IsGood log
IsVerdict log (IllegalAt n) = IsBroken (first []) log n
IsVerdict log (BrokenAt n) = IsFirstBad log n
