use Rattle.std.proofs.Common.{subst}
use Rattle.cache_types.specs.Driver.{IsDriver}
use Rattle.cache_types.proofs.driver.Driver.known.Goals as goal

pub returns-clause-fits : goal.returns-clause-fits
returns-clause-fits c = subst IsDriver c.self.view_is c.self.invariant.fits
