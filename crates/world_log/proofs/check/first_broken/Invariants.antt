use Rattle.std.proofs.Common.{◌≡◌, [], take}
use Rattle.file_log.specs.Along.{All}
use Rattle.log_summary.specs.Summary.{nothing, summed, summary_of}
use Rattle.rule_cases.specs.Laws.{Passed}
use Rattle.world_log.specs.Ledgers.{Carries}
use Rattle.world_log.proofs.check.first_broken.Given as goal

abbrev pub invariant-loop-index : goal.invariant-loop-index
invariant-loop-index l = record {
  world : l.world ≡ record { past = record { start = []; log = take l.index l.log }; clock = 0 };
  ledger : Carries l.ledger (summary_of (take l.index l.log));
  passed : All summed Passed nothing (take l.index l.log);
}
