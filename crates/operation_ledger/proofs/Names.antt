-- The names that files have had, as they grow.
use Rattle.std.proofs.Common.{◌≡◌, ℕ, Bool, true, false, cond, nat_eq, List, [], ◌∷◌, ◌++◌, refl, sym, ap, ◌∙◌, append_assoc, append-nil, filter, map}
use Rattle.std.proofs.lemmas.List.{map-append}
use Rattle.std.proofs.lemmas.List.Elements.{filter-append}
use Rattle.cache_types.specs.declared.name.Name.{Name}
use Rattle.operation_ledger.specs.NameLists.{names_at, HaveSame}
use Rattle.operation_ledger.specs.Had.{names_of_file, IsNamesHad, Gains}
use Rattle.operation_ledger.specs.declared.names_had.NamesHad.{NamesHad}

pub names_of_file-append : (file : ℕ) (had more : List (Name × ℕ)) → names_of_file file (had ++ more) ≡ names_of_file file had ++ names_of_file file more
names_of_file-append file had more =
    ap (λ (l : List (Name × ℕ)). map (λ (p : Name × ℕ). p.0) l) (filter-append (λ (p : Name × ℕ). nat_eq p.1 file) had more)
    ∙ map-append (λ (p : Name × ℕ). p.0) (filter (λ (p : Name × ℕ). nat_eq p.1 file) had) (filter (λ (p : Name × ℕ). nat_eq p.1 file) more)

-- a list with one name more, where it is this file's
abbrev pub with_one : Bool → List Name → Name → List Name
with_one b names name = cond b (names ++ name ∷ []) names

one_more : (b : Bool) (names : List Name) (name : Name) (file : ℕ) → with_one b names name ≡ names ++ map (λ (p : Name × ℕ). p.0) (cond b ((name, file) ∷ []) [])
one_more true names name file = refl
one_more false names name file = sym (append-nil names)

-- one name with a file more
pub gains_one : (old new : NamesHad) (file : ℕ) (name : Name) → ((f : ℕ) → names_at new.files.items f ≡ with_one (nat_eq file f) (names_at old.files.items f) name) → Gains old new ((name, file) ∷ [])
gains_one old new file name h = λ had is f.
    h f ∙ ap (λ (names : List Name). with_one (nat_eq file f) names name) (is f)
    ∙ one_more (nat_eq file f) (names_of_file f had) name file ∙ sym (names_of_file-append f had ((name, file) ∷ []))

two_more : (a b : Bool) (names : List Name) (first second : Name) (file other : ℕ)
    → with_one b (with_one a names first) second ≡ names ++ map (λ (p : Name × ℕ). p.0) (cond a ((first, file) ∷ cond b ((second, other) ∷ []) []) (cond b ((second, other) ∷ []) []))
two_more true true names first second file other = append_assoc names (first ∷ []) (second ∷ [])
two_more true false names first second file other = refl
two_more false true names first second file other = refl
two_more false false names first second file other = sym (append-nil names)

-- two names
pub gains_two : (old new : NamesHad) (middle : List (List Name)) (file other : ℕ) (first second : Name) → ((f : ℕ) → names_at middle f ≡ with_one (nat_eq file f) (names_at old.files.items f) first)
    → ((f : ℕ) → names_at new.files.items f ≡ with_one (nat_eq other f) (names_at middle f) second) → Gains old new ((first, file) ∷ (second, other) ∷ [])
gains_two old new middle file other first second h k = λ had is f.
    k f ∙ ap (λ (names : List Name). with_one (nat_eq other f) names second) (h f ∙ ap (λ (names : List Name). with_one (nat_eq file f) names first) (is f))
    ∙ two_more (nat_eq file f) (nat_eq other f) (names_of_file f had) first second file other ∙ sym (names_of_file-append f had ((first, file) ∷ (second, other) ∷ []))

-- none
pub gains_none : (old : NamesHad) → Gains old old []
gains_none old had is f = is f ∙ ap (λ (l : List (Name × ℕ)). names_of_file f l) (sym (append-nil had))

-- the same as before
pub same_had : (old new : NamesHad) → HaveSame old.files.items new.files.items → (had : List (Name × ℕ)) → IsNamesHad old had → IsNamesHad new had
same_had old new same had is f = same f ∙ is f
