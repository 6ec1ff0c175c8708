-- The rules at the places of a log that begins on an empty disk, and the promise on limits.
use Rattle.std.specs.Prelude.{ℕ, List}
use Rattle.cache_types.specs.declared.seat.Who.{Who}
use Rattle.file_log.specs.declared.item.LogItem.{LogItem}
use Rattle.layout_rules.specs.Parts.{parts}
use Rattle.layout_rules.specs.Rules.{KeepsRules}
use Rattle.seat_rules.specs.Judged as judged
use Rattle.seat_rules.specs.Places.{At, KeptBy}

-- the item at the place keeps the rules
abbrev pub KeepsAt : List LogItem → ℕ → Type 0
KeepsAt log n = At KeepsRules log n

-- it breaks one
abbrev pub BreaksAt : List LogItem → ℕ → Type 0
BreaksAt log n = KeepsAt log n → ⊥

-- no place breaks a rule
abbrev pub Cooperating : List LogItem → Type 0
Cooperating log = (n : ℕ) → KeepsAt log n

-- the first place that breaks a rule, if there is one, has no item of this seat
abbrev pub KeepsBy : Who → List LogItem → Type 0
KeepsBy who log = KeptBy KeepsRules who log

-- each put that stored its blob left its store within its limit
abbrev pub WithinLimit : List LogItem → Type 0
WithinLimit log = judged.WithinLimit parts log
