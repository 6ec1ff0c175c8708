use Rattle.std.proofs.Common.{[], ◌∷◌}
use Rattle.path_names.proofs.Texts.{IsAscii-encode_lower}
use Rattle.path_names.proofs.digits.byte_digits.Goals as goal

pub returns-clause-text : goal.returns-clause-text
returns-clause-text c = rw c.in-Ok.ensures.written (IsAscii-encode_lower (c.args.byte ∷ []))
