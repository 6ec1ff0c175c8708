-- The rules among seats, by the parts of the layouts, each of one item after a history. An item of no seat breaks none.
use Rattle.cache_types.specs.declared.answer.Answer.{Answer}
use Rattle.cache_types.specs.declared.seat.Who.{Who}
use Rattle.file_log.specs.declared.item.LogItem.{LogItem}
use Rattle.file_log.specs.Log.{History}
use Rattle.layout_rules.specs.Parts.{parts}
use Rattle.seat_rules.specs.Judged as judged

-- the seat is in an operation that the answer may end, and what it says of the operation's items is so
abbrev pub EndsWell : History → Who → Answer → Type 0
EndsWell h who answer = judged.EndsWell parts h who answer

-- an operation begins where the seat is in none, evicts where it may, and ends well
abbrev pub AnswersAreEarned : History → LogItem → Type 0
AnswersAreEarned h item = judged.AnswersAreEarned parts h item

-- an item of this seat keeps the rules
abbrev pub Conforms : History → LogItem → Who → Type 0
Conforms h item who = judged.Conforms parts h item who

-- the item keeps the rules, where it is a seat's
abbrev pub KeepsRules : History → LogItem → Type 0
KeepsRules h item = judged.KeepsRules parts h item
