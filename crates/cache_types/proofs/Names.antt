-- The test of names decides whether they are equal.
use Rattle.std.proofs.Common.{◌≡◌, ℕ, List, get_or, drop, cond, eqb, refl, sym, ap, ◌∙◌}
use Rattle.std.specs.Bool.{Decides}
use Rattle.std.specs.Cmp.Lexicographic.{bytes_decides}
use Rattle.cache_types.specs.declared.name.Name.{Name}
use Rattle.cache_types.specs.declared.name.Name.TheVariants as names
use Rattle.cache_types.specs.Names.{name_code, same_name}

-- the name of a kind with these parts
abbrev name_from : ℕ → ℕ → List ℕ → Name
name_from kind root rest =
    cond (eqb kind 0) (names.FolderLock root (get_or rest 0 0))
    (cond (eqb kind 1) (names.Entry root (record { bytes = rest }))
    (cond (eqb kind 2) (names.Temp root (record { bytes = rest }))
    (cond (eqb kind 3) (names.KeyIndex root)
    (cond (eqb kind 4) (names.Db root)
    (cond (eqb kind 5) (names.Idx root)
    (cond (eqb kind 6) (names.Foz root)
    (cond (eqb kind 7) (names.FozIdx root)
    (cond (eqb kind 8) (names.Ro root rest)
    (cond (eqb kind 9) (names.RoIdx root rest) names.List)))))))))

abbrev name_of : List ℕ → Name
name_of code = name_from (get_or code 0 0) (get_or code 1 0) (drop 2 code)

undone : (n : Name) → name_of (name_code n) ≡ n
unfolding name_code
undone (names.FolderLock root byte) = refl
undone (names.Entry root key) = refl
undone (names.Temp root key) = refl
undone (names.KeyIndex root) = refl
undone (names.Db root) = refl
undone (names.Idx root) = refl
undone (names.Foz root) = refl
undone (names.FozIdx root) = refl
undone (names.Ro root name) = refl
undone (names.RoIdx root name) = refl
undone names.List = refl

pub same_name_decides : (a b : Name) → Decides (same_name a b) (a ≡ b)
same_name_decides a b =
    let d = bytes_decides (name_code a) (name_code b) in
    (λ e. sym (undone a) ∙ ap name_of (d.0 e) ∙ undone b, λ e. d.1 (ap name_code e))
