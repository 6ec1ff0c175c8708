-- What the tables stand for after one of them changed.
use Rattle.std.proofs.Common.{◌≡◌, ◌+◌, ℕ, zero, suc, List, [], ◌∷◌, ◌++◌, cond, Bool, nat_eq, length, get_or, Option, Some, None, true, refl, sym, ap, ◌∙◌, length-append}
use mathlib.Core.Path.{fun_ext}
use Rattle.std.proofs.Math.Dec.{eqb-zero-suc, eqb-suc-zero, eqb-suc-suc}
use Rattle.cache_types.specs.declared.seat.Who.{Who}
use Rattle.cache_types.specs.declared.name.Name.{Name}
use Rattle.cache_types.specs.Names.{same_name}
use Rattle.cache_types.proofs.Names.{same_name_decides}
use Rattle.file_log.specs.Disk.{Disk, created, made_at, with_slot}
use Rattle.world_tables.specs.declared.parts.OpenSlot.{OpenSlot}
use Rattle.world_tables.specs.Find.{file_in}
use Rattle.world_tables.specs.Locks.{Holdings, lock_of}
use Rattle.world_tables.specs.Tables.{disk_from}

same_name-self : (n : Name) → same_name n n ≡ true
same_name-self n = (same_name_decides n n).1 refl

-- a file more
get_or-one_more : (files : List (List ℕ)) (bytes : List ℕ) (f : ℕ) → get_or (files ++ bytes ∷ []) f [] ≡ cond (nat_eq (length files) f) bytes (get_or files f [])
get_or-one_more [] bytes zero = refl
get_or-one_more [] bytes (suc f) = rw (eqb-zero-suc f) refl
get_or-one_more (x ∷ xs) bytes zero = rw (eqb-suc-zero (length xs)) refl
get_or-one_more (x ∷ xs) bytes (suc f) = get_or-one_more xs bytes f ∙ ap (λ (b : Bool). cond b bytes (get_or xs f [])) (sym (eqb-suc-suc (length xs) f))

abbrev pub open_slot : Who → ℕ → ℕ → OpenSlot
open_slot who slot file = record { who = who; slot = slot; file = file }

-- a name has this file, and each other the file that it had
abbrev pub IsNamed : (Name → Option ℕ) → (Name → Option ℕ) → Name → Option ℕ → Type 0
IsNamed names names' name file = (n : Name) → names' n ≡ cond (same_name name n) file (names n)

-- a name with a new file
pub placed : (names names' : Name → Option ℕ) (files : List (List ℕ)) (slots : List OpenSlot) (locks : Holdings) (name : Name) (bytes : List ℕ)
    → IsNamed names names' name (Some (length files)) → disk_from names' (files ++ bytes ∷ []) slots locks ≡ created (disk_from names files slots locks) name bytes
placed names names' files slots locks name bytes h =
    let a : (λ f. get_or (files ++ bytes ∷ []) f []) ≡ (λ f. cond (nat_eq (length files) f) bytes (get_or files f [])) = fun_ext (λ f. get_or-one_more files bytes f) in
    let b : length (files ++ bytes ∷ []) ≡ length files + 1 = length-append files (bytes ∷ []) in
    let c : names' ≡ (λ n. cond (same_name name n) (Some (length files)) (names n)) = fun_ext h in
    let shape : (Name → Option ℕ) → ℕ → (ℕ → List ℕ) → Disk = λ ns n fs. record { names = ns; count = n; files = fs; slots = file_in slots; locks = lock_of locks } in
    ap (λ (ns : Name → Option ℕ). shape ns (length (files ++ bytes ∷ [])) (λ f. get_or (files ++ bytes ∷ []) f [])) c
    ∙ ap (λ (n : ℕ). shape (λ m. cond (same_name name m) (Some (length files)) (names m)) n (λ f. get_or (files ++ bytes ∷ []) f [])) b
    ∙ ap (λ (fs : ℕ → List ℕ). shape (λ m. cond (same_name name m) (Some (length files)) (names m)) (length files + 1) fs) a

-- a name with a new file, in a slot
pub opened_new : (names names' : Name → Option ℕ) (files : List (List ℕ)) (slots : List OpenSlot) (locks : Holdings) (who : Who) (slot : ℕ) (name : Name) (o : Option ℕ) → o ≡ None
    → IsNamed names names' name (Some (length files))
    → disk_from names' (files ++ [] ∷ []) (open_slot who slot (length files) ∷ slots) locks
    ≡ with_slot (made_at o (disk_from names files slots locks) name) who slot ((made_at o (disk_from names files slots locks) name).names name)
opened_new names names' files slots locks who slot name o none h =
    let d = disk_from names files slots locks in
    let e : Some (length files) ≡ cond (same_name name name) (Some (length files)) (names name) = ap (λ (b : Bool). cond b (Some (length files)) (names name)) (sym (same_name-self name)) in
    ap (λ (x : Disk). with_slot x who slot (Some (length files))) (placed names names' files slots locks name [] h)
    ∙ ap (λ (f : Option ℕ). with_slot (created d name []) who slot f) e
    ∙ ap (λ (f : Option ℕ). with_slot (made_at f d name) who slot ((made_at f d name).names name)) (sym none)

-- two names with new files
pub installed : (names names' : Name → Option ℕ) (files : List (List ℕ)) (slots : List OpenSlot) (locks : Holdings) (first second : Name) (main index : List ℕ)
    → ((n : Name) → names' n ≡ cond (same_name second n) (Some (length files + 1)) (cond (same_name first n) (Some (length files)) (names n)))
    → disk_from names' ((files ++ main ∷ []) ++ index ∷ []) slots locks ≡ created (created (disk_from names files slots locks) first main) second index
installed names names' files slots locks first second main index h =
    let between : Name → Option ℕ = λ n. cond (same_name first n) (Some (length files)) (names n) in
    let more : length (files ++ main ∷ []) ≡ length files + 1 = length-append files (main ∷ []) in
    placed between names' (files ++ main ∷ []) slots locks second index (λ n. h n ∙ ap (λ (k : ℕ). cond (same_name second n) (Some k) (between n)) (sym more))
    ∙ ap (λ (d : Disk). created d second index) (placed names between files slots locks first main (λ n. refl))
