-- What an operation says among seats that keep the rules, and what a lookup rests on among any.
use Rattle.std.specs.Prelude.{◌≡◌, List, [], ◌++◌}
use Rattle.cache_types.specs.declared.answer.Answer.{Answer}
use Rattle.cache_types.specs.declared.answer.Answer.TheVariants.{Miss}
use Rattle.cache_types.specs.declared.request.Request.{Request}
use Rattle.cache_types.specs.declared.request.Request.TheVariants.{Get}
use Rattle.cache_types.specs.declared.seat.Who.{Who}
use Rattle.file_log.specs.declared.item.LogItem.{LogItem}
use Rattle.file_log.specs.Legal.{Legal}
use Rattle.file_log.specs.Log.{History, own}
use Rattle.file_log.specs.State.{first}
use Rattle.layout_rules.specs.Places.{KeepsBy}
use Rattle.folder_store.specs.Keeping.{HasKept, OthersKeepRules, WasLacking}
use Rattle.folder_store.specs.Rests.{RestsOn}

-- Own handles cooperate: in a log that began on an empty disk and can be, the first place that breaks a rule, if there is one, has no
-- item of this seat, as long as none had before these new items. Others may have items between its own, and be stopped; calls may fail.
abbrev pub KeepsOwn : Who → History → List LogItem → Type 0
KeepsOwn me h news = h.start ≡ [] → Legal (first h.start) h.log → KeepsBy me h.log → KeepsBy me (h.log ++ news)

-- Where no place before broke a rule and no new item of another seat breaks one, a lookup's miss says that after one of its own items
-- its store held no such blob, also after stops and failed calls.
abbrev pub MissesTruly : Who → Request → Answer → History → List LogItem → Type 0
MissesTruly me (Get store driver key ro) answer h news = answer ≡ Miss → HasKept h → OthersKeepRules me h news → WasLacking me store.root driver key h news
MissesTruly me request answer h news = Unit {0}

-- Whatever other seats do, a lookup's answer rests on its own items: a hit's blob on the bytes that it got of all its entry's file, a
-- miss on bytes that are no item of the driver, on a file that was too long, or on one that wasn't there.
abbrev pub AnswersAsRead : Who → Request → Answer → History → List LogItem → Type 0
AnswersAsRead me (Get store driver key ro) answer h news = RestsOn me store.root key (own me news) driver answer
AnswersAsRead me request answer h news = Unit {0}
