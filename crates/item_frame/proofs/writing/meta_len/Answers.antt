use Rattle.std.proofs.Common.{arith, length, ap}
use Rattle.cache_types.specs.declared.meta.Meta.TheVariants.{Glsl}
use Rattle.item_frame.specs.Item.{IsMeta}
use Rattle.item_frame.proofs.Laws.{length-meta_bytes}
use Rattle.item_frame.proofs.writing.meta_len.Goals as goal

fits : (c : goal.After-as_slice) → IsMeta (Glsl c.in-Glsl.keys)
fits c = rw c.in-Glsl.is at c.requires

pub returns-in-Glsl-clause-len : goal.returns-in-Glsl-clause-len
returns-in-Glsl-clause-len c = rw c.in-Glsl.is (omega (arith, length-meta_bytes c.in-Glsl.keys (fits c), ap length c.as_slice.ensures))

pub returns-in-Glsl-clause-short : goal.returns-in-Glsl-clause-short
returns-in-Glsl-clause-short c = let few = (fits c).0 in omega (arith, few, ap length c.as_slice.ensures)
