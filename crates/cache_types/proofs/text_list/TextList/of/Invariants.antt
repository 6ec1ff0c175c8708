use Rattle.std.proofs.Common.{◌≡◌, take}
use Rattle.cache_types.proofs.text_list.TextList.of.Given as goal

abbrev pub invariant-loop-item : goal.invariant-loop-item
invariant-loop-item l = l.copies.items ≡ take l.item-index l.items
