-- Within an operation every call of a put but for the eviction makes an item.
use Rattle.std.proofs.Common.{◌≡◌, true, false, List, [], ◌∷◌, ◌++◌, sym, subst}
use Rattle.cache_types.specs.declared.seat.Who.{Who}
use Rattle.file_log.specs.declared.call.Call.{Call}
use Rattle.file_log.specs.declared.call.Call.TheVariants as calls
use Rattle.file_log.specs.declared.item.LogItem.{LogItem}
use Rattle.file_log.specs.declared.item.LogItem.TheVariants.{Failed}
use Rattle.file_log.specs.declared.reply.Reply.{Reply}
use Rattle.file_log.specs.declared.reply.Reply.TheVariants as replies
use Rattle.file_log.specs.Exchange.{Makes, items_before}
use Rattle.file_log.specs.Told.{IsSomeItem}
use Rattle.file_log.proofs.Logs.{some_last}
use Rattle.files_api.specs.declared.machine.Step.{Step}
use Rattle.files_api.specs.declared.machine.Step.TheVariants as steps

-- the items of the call that is asked for
abbrev pub MakesIn : Who → Step → Reply → List LogItem → Type 0
MakesIn me (steps.Ask call) reply made = Makes me true call reply made
MakesIn me (steps.Done answer) reply made = ⊥

abbrev IsPlain : Call → Type 0
IsPlain (calls.OpenOld slot name) = Unit {0}
IsPlain (calls.OpenNew slot name) = Unit {0}
IsPlain (calls.TryLock slot) = Unit {0}
IsPlain calls.Pause = Unit {0}
IsPlain (calls.Length slot) = Unit {0}
IsPlain (calls.ReadAt slot at n) = Unit {0}
IsPlain (calls.Cut slot n) = Unit {0}
IsPlain (calls.Rename from to) = Unit {0}
IsPlain (calls.Close slot) = Unit {0}
IsPlain call = ⊥

none_done : (me : Who) (call : Call) → IsPlain call → Makes me true call replies.Done [] → ⊥
none_done me (calls.OpenOld slot name) plain ms = absurd cc
none_done me (calls.OpenNew slot name) plain ms = absurd cc
none_done me (calls.TryLock slot) plain ms = absurd cc
none_done me calls.Pause plain ms = absurd cc
none_done me (calls.Length slot) plain ms = absurd cc
none_done me (calls.ReadAt slot at n) plain ms = absurd cc
none_done me (calls.Cut slot n) plain ms = absurd cc
none_done me (calls.Rename from to) plain ms = absurd cc
none_done me (calls.Close slot) plain ms = absurd cc
none_done me call plain ms = plain

some_items : (before : List LogItem) (x : LogItem) → [] ≡ before ++ x ∷ [] → ⊥
some_items before x e = subst IsSomeItem (sym e) (some_last before x)

none_refused : (me : Who) (call : Call) → IsPlain call → Makes me true call replies.NoMemory [] → ⊥
none_refused me (calls.OpenOld slot name) plain ms = some_items [] _ ms.1
none_refused me (calls.OpenNew slot name) plain ms = some_items [] _ ms.1
none_refused me (calls.TryLock slot) plain ms = some_items [] _ ms.1
none_refused me calls.Pause plain ms = some_items [] _ ms.1
none_refused me (calls.Length slot) plain ms = some_items [] _ ms.1
none_refused me (calls.ReadAt slot at n) plain ms = some_items [] _ ms.1
none_refused me (calls.Cut slot n) plain ms = some_items [] _ ms.1
none_refused me (calls.Rename from to) plain ms = some_items [] _ ms.1
none_refused me (calls.Close slot) plain ms = some_items [] _ ms.1
none_refused me call plain ms = plain

none_made : (me : Who) (call : Call) (reply : Reply) → IsPlain call → Makes me true call reply [] → ⊥
none_made me call replies.Done plain ms = none_done me call plain ms
none_made me call replies.Failed plain ms = some_items (items_before me call ms.0) (Failed me false) ms.1
none_made me call replies.NoMemory plain ms = none_refused me call plain ms
none_made me call reply plain ms = some_items [] _ ms

-- ---- of what is asked for

abbrev pub AsksPlain : Step → Type 0
AsksPlain (steps.Ask call) = IsPlain call
AsksPlain (steps.Done answer) = ⊥

pub none_asked : (me : Who) (s : Step) (reply : Reply) → AsksPlain s → MakesIn me s reply [] → ⊥
none_asked me (steps.Ask call) reply plain ms = none_made me call reply plain ms
none_asked me (steps.Done answer) reply plain ms = plain
