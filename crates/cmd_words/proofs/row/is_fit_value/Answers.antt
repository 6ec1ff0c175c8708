use Rattle.std.proofs.Common.{◌≡◌, codes, bytes_eq, false, refl, List, ℕ}
use Rattle.cmd_words.proofs.Texts.{unlike_text}
use Rattle.cmd_words.proofs.row.is_fit_value.Goals as goal

pub returns-in_default : goal.returns-in_default
returns-in_default c =
    let no : (name : List ℕ) → (c.args.name.now ≡ name → ⊥) → bytes_eq name c.args.name.now ≡ false = λ name other. unlike_text name c.args.name.now other in
    rw (no (codes "id") c.in_default.not-id, no (codes "gpu") c.in_default.not-gpu, no (codes "flags") c.in_default.not-flags, no (codes "root") c.in_default.not-root, no (codes "layout") c.in_default.not-layout, no (codes "limit") c.in_default.not-limit, no (codes "meta") c.in_default.not-meta, no (codes "mode") c.in_default.not-mode) refl
