-- The heads of the two files, and whether the files belong together.
use Rattle.std.specs.Prelude.{◌≡◌, ℕ, List, Option, Some, None, IsSome}
use Rattle.std.specs.Result.{result_ok}
use Rattle.db_format.specs.declared.head.Head.{Head}
use Rattle.db_format.specs.Heads.{head_at}

-- the head in front of a file's bytes, if one stands there
abbrev pub head_in : List ℕ → Option Head
head_in bytes = result_ok (head_at bytes)

-- both files have a head, and the same one
abbrev pub Agree : List ℕ → List ℕ → Type 0
Agree main index = (head_in main ≡ head_in index) × IsSome (head_in main)

abbrev pub identity_of : Option Head → ℕ
identity_of None = 0
identity_of (Some head) = head.identity

-- the identity of a file: that of its head, and 0 where it has none
abbrev pub ident : List ℕ → ℕ
ident bytes = identity_of (head_in bytes)
