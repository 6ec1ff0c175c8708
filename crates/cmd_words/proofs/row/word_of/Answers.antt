use Rattle.std.proofs.Common.{◌≡◌, codes, bytes_eq, false, refl, List, ℕ}
use Rattle.cmd_words.proofs.Texts.{unlike_text}
use Rattle.cmd_words.proofs.row.word_of.Goals as goal

pub returns-in_default : goal.returns-in_default
returns-in_default c =
    let no : (name : List ℕ) → (c.args.first.now ≡ name → ⊥) → bytes_eq name c.args.first.now ≡ false = λ name other. unlike_text name c.args.first.now other in
    rw (no (codes "key") c.in_default.not-key, no (codes "put") c.in_default.not-put, no (codes "get") c.in_default.not-get, no (codes "mark") c.in_default.not-mark, no (codes "has") c.in_default.not-has, no (codes "list") c.in_default.not-list, no (codes "verify") c.in_default.not-verify, no (codes "trim") c.in_default.not-trim, no (codes "settings") c.in_default.not-settings, no (codes "batch") c.in_default.not-batch, no (codes "drill") c.in_default.not-drill) refl
