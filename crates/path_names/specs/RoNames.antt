-- Names of read-only databases.
use Rattle.std.specs.Prelude.{ℕ, Bool, ◌&&◌, not, ◌==◌, nat_eq, nat_le, List, length, codes}
use Rattle.std.specs.Cmp.Lexicographic.{pointwise}
use Rattle.std.specs.List.{list_all, starts_with, ends_with}

-- a byte of such a name: from 0x21 to 0x7e, and neither a slash nor a comma
abbrev pub is_ro_byte : ℕ → Bool
is_ro_byte b = nat_le 0x21 b && nat_le b 0x7e && not (b == 47) && not (b == 44)

-- a name of a read-only database: 1 to 200 such bytes; it doesn't begin with a dot or end in `_idx`, and isn't the name of the writable one
unfoldable pub is_ro_name : List ℕ → Bool
is_ro_name text =
    nat_le 1 (length text) && nat_le (length text) 200 && not (starts_with nat_eq text (codes ".")) && not (ends_with nat_eq text (codes "_idx"))
    && not (pointwise nat_eq text (codes "foz_cache")) && list_all is_ro_byte text
