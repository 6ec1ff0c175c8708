use Rattle.std.proofs.Common.{refl, subst}
use Rattle.cache_types.specs.Driver.{HasNoFront}
use Rattle.item_frame.proofs.AnyLaws.{front_alone}
use Rattle.item_frame.proofs.any.front_driver.Goals as goal

pub returns-in-None-clause-refused : goal.returns-in-None-clause-refused
returns-in-None-clause-refused c =
    let f = c.in-Some.ensures.found in
    absurd (subst HasNoFront c.in_ok-front.ensures (c.in-None.ensures.none.0 refl) f.0 (front_alone f.0 c.args.bytes.now c.in-Some.len f.1 f.2))
