use Rattle.std.proofs.Common.{subst}
use Rattle.cache_types.specs.Driver.{IsDriver}
use Rattle.cache_types.proofs.OneDriver.{same_test}
use Rattle.cache_types.proofs.driver.Driver.is.Goals as goal

pub returns-then-self-other : goal.returns-then-self-other
returns-then-self-other c =
    same_test c.args.self.now c.args.other.now _ _ c.eq.result
    (subst IsDriver c.self.view_is c.self.invariant.fits) (subst IsDriver c.other.view_is c.other.invariant.fits)
    c.blob.ensures.bytes c.blob-then-self-other.ensures.bytes c.eq.ensures
