-- What a store gave, without repeats.
use Rattle.std.specs.Prelude.{◌≡◌, ℕ, Bool, ◌||◌, List, ◌∷◌, Option}
use Rattle.std.specs.List.{list_any}
use Rattle.operation_ledger.specs.declared.given.Lately.{Lately}
use Rattle.operation_ledger.specs.declared.given.Lately.TheVariants.{AsBefore, Gives}

-- the second says of each test whether what is given now or what the first holds passes it
abbrev pub Learns : List (Option (List ℕ)) → Option (List ℕ) → List (Option (List ℕ)) → Type 0
Learns old given new = (test : Option (List ℕ) → Bool) → list_any test new ≡ (test given || list_any test old)

-- what was given, with what is given now in front, where that isn't known to be there
abbrev pub with_lately : Lately → List (Option (List ℕ)) → List (Option (List ℕ))
with_lately AsBefore gave = gave
with_lately (Gives given) gave = given ∷ gave
