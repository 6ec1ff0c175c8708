use Rattle.std.proofs.Common.{subst}
use Rattle.world_log.specs.Verdicts.{IsFirstBreak}
use Rattle.world_log.proofs.Places.{all_good, first_bad}
use Rattle.world_log.proofs.check.check_rules.Goals as goal

pub returns-in-None : goal.returns-in-None
returns-in-None c = all_good c.args.log.now c.requires (subst (IsFirstBreak c.args.log.now) c.in-None.is c.in_ok-first_broken.ensures)

pub returns-in-Some : goal.returns-in-Some
returns-in-Some c = first_bad c.args.log.now c.in-Some.place c.requires (subst (IsFirstBreak c.args.log.now) c.in-Some.is c.in_ok-first_broken.ensures)
