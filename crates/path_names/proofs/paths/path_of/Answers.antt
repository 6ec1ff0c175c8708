use Rattle.std.proofs.Common.{◌≡◌}
use Rattle.std.proofs.lemmas.Result.{IfOk-weaker}
use Rattle.path_names.specs.Paths.{path_spelled, IsPathOfOne}
use Rattle.path_names.proofs.Places.{one_path}
use Rattle.path_names.proofs.paths.path_of.Goals as goal

pub returns-clause-one : goal.returns-clause-one
returns-clause-one c =
    IfOk-weaker c.spelled.result (λ t. t ≡ path_spelled c.args.paths.now c.args.name.now) (IsPathOfOne c.args.paths.now c.args.name.now)
    (λ t e. one_path c.args.paths.now c.args.name.now t c.requires e) c.spelled.ensures
