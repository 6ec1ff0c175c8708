-- Any bytes of a row's length are one row, and a row is read from its own bytes.
use Rattle.std.proofs.Common.{◌≡◌, ◌↔◌, ℕ, ◌≤◌, List, [], ◌++◌, length, drop, refl, sym, ap, subst, ◌∙◌, arith}
use Rattle.std.specs.Int.{w32, w64, to_le_bytes, from_le_bytes}
use Rattle.std.proofs.lemmas.List.{append-nil, drop-drop, drop_all, length-drop}
use Rattle.std.proofs.lemmas.Nat.{from_le_bytes-to_le_bytes_4, from_le_bytes-to_le_bytes_8}
use Rattle.item_frame.specs.Refusals.{number_at}
use Rattle.item_frame.proofs.Numbers.{IsBytes, IsBytes-drop, number_then}
use Rattle.db_format.specs.declared.row.IdxRow.{IdxRow}
use Rattle.db_format.specs.Numbers.{long_number, long_number_at}
use Rattle.db_format.specs.Rows.{row_bytes, row_of, RowFits, ReadsAsRow}
use Rattle.db_format.proofs.LongNumbers.{long_number_then, long_number_fits, number_fits}

-- what is read is spelled so
pub row_takes : (bytes : List ℕ) → IsBytes bytes → length bytes ≡ 28 → ReadsAsRow bytes (row_of bytes)
row_takes bytes fit long =
    let size = number_at 8 bytes in
    let access = long_number_at 12 bytes in
    let place = long_number_at 20 bytes in
    let hash_there : bytes ≡ to_le_bytes w64 (long_number bytes) ++ drop 8 bytes = long_number_then bytes fit (omega (arith, long)) in
    let size_there : drop 8 bytes ≡ to_le_bytes w32 size ++ drop 12 bytes =
    number_then (drop 8 bytes) (IsBytes-drop 8 bytes fit) (omega (arith, long, length-drop 8 bytes)) ∙ ap (λ (x : List ℕ). to_le_bytes w32 size ++ x) (drop-drop 4 8 bytes) in
    let access_there : drop 12 bytes ≡ to_le_bytes w64 access ++ drop 20 bytes =
    long_number_then (drop 12 bytes) (IsBytes-drop 12 bytes fit) (omega (arith, long, length-drop 12 bytes)) ∙ ap (λ (x : List ℕ). to_le_bytes w64 access ++ x) (drop-drop 8 12 bytes) in
    let none : drop 8 (drop 20 bytes) ≡ [] = drop_all 8 (drop 20 bytes) (omega (arith, long, length-drop 20 bytes)) in
    let place_there : drop 20 bytes ≡ to_le_bytes w64 place =
    long_number_then (drop 20 bytes) (IsBytes-drop 20 bytes fit) (omega (arith, long, length-drop 20 bytes)) ∙ ap (λ (x : List ℕ). to_le_bytes w64 place ++ x) none ∙ append-nil (to_le_bytes w64 place) in
    record {
      fits = record {
        hash = long_number_fits bytes fit;
        size = number_fits (drop 8 bytes) (IsBytes-drop 8 bytes fit);
        access = long_number_fits (drop 12 bytes) (IsBytes-drop 12 bytes fit);
        place = long_number_fits (drop 20 bytes) (IsBytes-drop 20 bytes fit);
      };
      whole = hash_there
          ∙ ap (λ (x : List ℕ). to_le_bytes w64 (long_number bytes) ++ x) (size_there ∙ ap (λ (x : List ℕ). to_le_bytes w32 size ++ x) (access_there ∙ ap (λ (x : List ℕ). to_le_bytes w64 access ++ x) place_there));
    }

-- what is spelled so is read
spelled_row : (row : IdxRow) → RowFits row → row_of (row_bytes row) ≡ row
spelled_row row fits =
    ap (λ (n : ℕ). record { hash = n; size = from_le_bytes w32 (to_le_bytes w32 row.size); access = from_le_bytes w64 (to_le_bytes w64 row.access); place = from_le_bytes w64 (to_le_bytes w64 row.place) }) (from_le_bytes-to_le_bytes_8 row.hash fits.hash)
    ∙ ap (λ (n : ℕ). record { hash = row.hash; size = n; access = from_le_bytes w64 (to_le_bytes w64 row.access); place = from_le_bytes w64 (to_le_bytes w64 row.place) }) (from_le_bytes-to_le_bytes_4 row.size fits.size)
    ∙ ap (λ (n : ℕ). record { hash = row.hash; size = row.size; access = n; place = from_le_bytes w64 (to_le_bytes w64 row.place) }) (from_le_bytes-to_le_bytes_8 row.access fits.access)
    ∙ ap (λ (n : ℕ). record { hash = row.hash; size = row.size; access = row.access; place = n }) (from_le_bytes-to_le_bytes_8 row.place fits.place)

pub row_again : (bytes : List ℕ) (row : IdxRow) → ReadsAsRow bytes row → row_of bytes ≡ row
row_again bytes row r = ap row_of r.whole ∙ spelled_row row r.fits

pub row_exact : (bytes : List ℕ) (row : IdxRow) → IsBytes bytes → length bytes ≡ 28 → (row_of bytes ≡ row) ↔ ReadsAsRow bytes row
row_exact bytes row fit long = (λ e. subst (ReadsAsRow bytes) e (row_takes bytes fit long), λ r. row_again bytes row r)
