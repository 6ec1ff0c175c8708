-- One step of a reader.
use Rattle.std.proofs.Common.{◌≡◌, Bool, true, false, cond, Result, Ok, Err, refl}
use Rattle.db_format.specs.declared.refusal.DbRefusal.{DbRefusal}

-- no refusal came, so its test failed
pub passed : {A : Type 0} (test : Bool) (refusal : DbRefusal) (rest : Result A DbRefusal) (x : A) → cond test (Err refusal) rest ≡ Ok x → (test ≡ false) × (rest ≡ Ok x)
passed true refusal rest x e = absurd cc
passed false refusal rest x e = (refl, e)
