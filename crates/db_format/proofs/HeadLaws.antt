-- A head is read exactly where it is spelled.
use Rattle.std.proofs.Common.{◌≡◌, ◌≢◌, ◌↔◌, ℕ, ◌^◌, ◌<◌, ◌≤◌, Bool, true, false, not, eqb, ltb, List, [], ◌++◌, length, take, drop, Result, Ok, refl, sym, ap, subst, ◌∙◌, append_assoc, arith}
use Rattle.std.specs.Prelude.{nat_eq}
use Rattle.std.specs.List.{starts_with}
use Rattle.std.specs.Cmp.Lexicographic.{bytes_decides}
use Rattle.std.specs.Int.{w32, w64, to_le_bytes}
use Rattle.std.proofs.lemmas.Bool.{ltb-false, eqb-true, eqb-false, le-ltb, eq-eqb, ne_eqb}
use Rattle.std.proofs.lemmas.List.{append-nil, drop-drop, take-append-drop, length-drop, length-append}
use Rattle.std.proofs.lemmas.Nat.{from_le_bytes-to_le_bytes_4, from_le_bytes-to_le_bytes_8}
use Rattle.item_frame.proofs.Numbers.{IsBytes, IsBytes-drop, number_then, not_false}
use Rattle.db_format.specs.declared.head.Head.{Head}
use Rattle.db_format.specs.declared.refusal.DbRefusal.{DbRefusal}
use Rattle.db_format.specs.Heads.{magic, head_bytes, version_in, identity_in, head_at, ReadsAsHead}
use Rattle.db_format.proofs.LongNumbers.{long_number_then, long_number_fits}
use Rattle.db_format.proofs.Steps.{passed}

-- a head that was read
abbrev head_read : Head → Result Head DbRefusal
head_read head = Ok head

same_head : (a b : Head) → head_read a ≡ head_read b → a ≡ b
same_head a b e = cc

-- the fields of some bytes
abbrev fields : List ℕ → Head
fields bytes = record { version = version_in bytes; identity = identity_in bytes }

-- what is read is spelled so
head_takes : (bytes : List ℕ) (head : Head) → IsBytes bytes → head_at bytes ≡ Ok head → ReadsAsHead bytes head
unfolding head_at
head_takes bytes head fit reads =
    let sized = passed (ltb (length bytes) 20) _ _ head reads in
    let begun = passed (not (starts_with nat_eq bytes magic)) _ _ head sized.1 in
    let known = passed (not (eqb (version_in bytes) 1)) _ _ head begun.1 in
    let some = passed (eqb (identity_in bytes) 0) _ _ head known.1 in
    let long : 20 ≤ length bytes = ltb-false _ _ sized.0 in
    let front_is : magic ≡ take 8 bytes = (bytes_decides magic (take 8 bytes)).0 (not_false _ begun.0) in
    let front : bytes ≡ magic ++ drop 8 bytes = sym (take-append-drop 8 bytes) ∙ ap (λ (x : List ℕ). x ++ drop 8 bytes) (sym front_is) in
    let version : drop 8 bytes ≡ to_le_bytes w32 (version_in bytes) ++ drop 12 bytes =
    number_then (drop 8 bytes) (IsBytes-drop 8 bytes fit) (omega (arith, length-drop 8 bytes)) ∙ ap (λ (x : List ℕ). to_le_bytes w32 (version_in bytes) ++ x) (drop-drop 4 8 bytes) in
    let identity : drop 12 bytes ≡ to_le_bytes w64 (identity_in bytes) ++ drop 20 bytes =
    long_number_then (drop 12 bytes) (IsBytes-drop 12 bytes fit) (omega (arith, length-drop 12 bytes)) ∙ ap (λ (x : List ℕ). to_le_bytes w64 (identity_in bytes) ++ x) (drop-drop 8 12 bytes) in
    let is : fields bytes ≡ head = same_head _ _ some.1 in
    let here : ReadsAsHead bytes (fields bytes) = record {
      version = eqb-true _ _ (not_false _ known.0);
      some = eqb-false _ _ some.0;
      fits = long_number_fits (drop 12 bytes) (IsBytes-drop 12 bytes fit);
      rest = drop 20 bytes;
      whole = front
          ∙ ap (λ (x : List ℕ). magic ++ x) (version ∙ ap (λ (x : List ℕ). to_le_bytes w32 (version_in bytes) ++ x) identity ∙ sym (append_assoc (to_le_bytes w32 (version_in bytes)) (to_le_bytes w64 (identity_in bytes)) (drop 20 bytes)))
          ∙ sym (append_assoc magic (to_le_bytes w32 (version_in bytes) ++ to_le_bytes w64 (identity_in bytes)) (drop 20 bytes));
    } in
    subst (ReadsAsHead bytes) is here

-- over plain bytes: at those that are spelled the numbers would compute to single cells
head_step : (bytes : List ℕ) → 20 ≤ length bytes → starts_with nat_eq bytes magic ≡ true → version_in bytes ≡ 1 → identity_in bytes ≢ 0 → head_at bytes ≡ Ok (fields bytes)
unfolding head_at
head_step bytes long begins known some =
    let a : ltb (length bytes) 20 ≡ false = le-ltb _ _ long in
    let b : eqb (version_in bytes) 1 ≡ true = eq-eqb _ _ known in
    let c : eqb (identity_in bytes) 0 ≡ false = ne_eqb _ _ some in
    rw (a, begins, b, c) refl

version_again : (head : Head) (rest : List ℕ) → head.version < 2 ^ 32 → version_in (head_bytes head ++ rest) ≡ head.version
version_again head rest fits = from_le_bytes-to_le_bytes_4 head.version fits

identity_again : (head : Head) (rest : List ℕ) → head.identity < 2 ^ 64 → identity_in (head_bytes head ++ rest) ≡ head.identity
identity_again head rest fits = from_le_bytes-to_le_bytes_8 head.identity fits

-- what is spelled so is read
spelled_head : (head : Head) (rest : List ℕ) → head.version ≡ 1 → head.identity ≢ 0 → head.identity < 2 ^ 64 → head_at (head_bytes head ++ rest) ≡ Ok head
spelled_head head rest known some fits =
    let bytes = head_bytes head ++ rest in
    let version : version_in bytes ≡ head.version = version_again head rest (omega (arith, known)) in
    let identity : identity_in bytes ≡ head.identity = identity_again head rest fits in
    head_step bytes (omega (arith, length-append (head_bytes head) rest)) refl (version ∙ known) (λ e. some (sym identity ∙ e))
    ∙ ap (λ (n : ℕ). head_read (record { version = n; identity = identity_in bytes })) version
    ∙ ap (λ (n : ℕ). head_read (record { version = head.version; identity = n })) identity

pub head_again : (bytes : List ℕ) (head : Head) → ReadsAsHead bytes head → head_at bytes ≡ Ok head
head_again bytes head r = ap head_at r.whole ∙ spelled_head head r.rest r.version r.some r.fits

pub head_exact : (bytes : List ℕ) (head : Head) → IsBytes bytes → (head_at bytes ≡ Ok head) ↔ ReadsAsHead bytes head
head_exact bytes head fit = (λ e. head_takes bytes head fit e, λ r. head_again bytes head r)

-- what is written is a head
pub head_written : (bytes : List ℕ) (identity : ℕ) → identity < 2 ^ 64 → bytes ≡ head_bytes (record { version = 1; identity = identity }) → identity ≢ 0 → ReadsAsHead bytes (record { version = 1; identity = identity })
head_written bytes identity fits written some =
    record { version = refl; some = some; fits = fits; rest = []; whole = written ∙ sym (append-nil (head_bytes (record { version = 1; identity = identity }))) }
