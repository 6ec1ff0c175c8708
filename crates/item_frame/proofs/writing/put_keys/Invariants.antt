use Rattle.std.proofs.Common.{◌≡◌, ◌++◌, take}
use Rattle.item_frame.proofs.KeysLaws.{flat}
use Rattle.item_frame.proofs.writing.put_keys.Given as goal

abbrev pub invariant-loop-key : goal.invariant-loop-key
invariant-loop-key l = l.item.items ≡ l.initial.item.items ++ flat (take l.key-index l.keys)
