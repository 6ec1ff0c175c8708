use Rattle.std.proofs.Common.{◌≡◌, ◌≢◌, sym, ◌∙◌}
use Rattle.std.specs.Cmp.Lexicographic.{bytes_decides}
use Rattle.hex.specs.Hex.{encode_lower}
use Rattle.host_files.proofs.Entries.{found, no_digits, other_digits}
use Rattle.host_files.proofs.system.key_of_entry.Goals as goal

pub returns-in_default-clause-entry : goal.returns-in_default-clause-entry
returns-in_default-clause-entry c key = (
  λ e. absurd (cc),
  λ entry. absurd (no_digits c.args.byte c.args.name.now key c.ranges.byte.fits (λ rest e. c.in_default.not-Ok rest (c.from_hex.ensures ∙ e)) entry),
)

pub returns-then-eq-clause-entry : goal.returns-then-eq-clause-entry
returns-then-eq-clause-entry c key =
    let tested = (bytes_decides c.as_slice.result.now c.as_bytes.result.now).0 (sym c.eq.ensures ∙ c.if-eq.true) in
    let same : encode_lower c.in-Ok.rest ≡ c.args.name.now = sym c.name_of.ensures ∙ sym c.as_slice.ensures ∙ tested ∙ c.as_bytes.ensures.value in
    found c.args.byte c.args.name.now c.in-Ok.rest c.key_of.result key c.ranges.byte.fits (sym c.in-Ok.ensures) same c.key_of.ensures

pub returns-else-eq-clause-entry : goal.returns-else-eq-clause-entry
returns-else-eq-clause-entry c key =
    let other : encode_lower c.in-Ok.rest ≢ c.args.name.now = λ same.
    let texts = c.as_slice.ensures ∙ c.name_of.ensures ∙ same ∙ sym c.as_bytes.ensures.value in
    let yes = c.eq.ensures ∙ (bytes_decides c.as_slice.result.now c.as_bytes.result.now).1 texts in
    cc (sym yes ∙ c.if-eq.false) in (
      λ e. absurd (cc),
      λ entry. absurd (other_digits c.args.byte c.args.name.now c.in-Ok.rest key c.ranges.byte.fits (sym c.in-Ok.ensures) other entry),
    )
