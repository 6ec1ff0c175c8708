-- A row that is true, and the entry that is read at its place.
use Rattle.std.proofs.Common.{◌≡◌, ℕ, ◌+◌, ◌^◌, ◌<◌, ◌≤◌, List, [], ◌++◌, length, take, drop, refl, sym, ap, subst, ◌∙◌, arith}
use Rattle.std.proofs.lemmas.List.{append-nil, take_at, take_all, length-take, length-drop}
use Rattle.cache_types.specs.declared.key.Key.{Key}
use Rattle.crc_small.specs.Sum.{Sum}
use Rattle.db_format.specs.declared.entry.EntryHead.{EntryHead}
use Rattle.db_format.specs.declared.row.IdxRow.{IdxRow}
use Rattle.db_format.specs.Entries.{head_for, entry_of, ReadsAsEntry}
use Rattle.db_format.specs.Numbers.{part}
use Rattle.db_format.specs.Rows.{hash_of}
use Rattle.db_format.proofs.EntryLaws.{one_entry, length-entry}
use Rattle.db_table.specs.Truth.{row_end, IsTrueRow}

-- a true row is of one key and one item
pub one_true : (main : List ℕ) (row : IdxRow) (key other : Key) (item more : List ℕ) → IsTrueRow main row key item → IsTrueRow main row other more → (key ≡ other) × (item ≡ more)
one_true main row key other item more t u = one_entry key other item more t.key_whole u.key_whole (sym t.entry ∙ u.entry)

-- where the bytes at its place are the same, it is true of another file too
pub true_stays : (main other : List ℕ) (row : IdxRow) (key : Key) (item : List ℕ) → part row.place (28 + row.size) main ≡ part row.place (28 + row.size) other → row_end row ≤ length other → IsTrueRow main row key item → IsTrueRow other row key item
true_stays main other row key item same long t =
    record { above = t.above; within = long; key_whole = t.key_whole; hash = t.hash; size = t.size; short = t.short; entry = sym same ∙ t.entry }

-- the entry of a true row is read from the bytes at its place
pub true_reads : (main : List ℕ) (row : IdxRow) (key : Key) (item : List ℕ) → IsTrueRow main row key item → ReadsAsEntry (part row.place (28 + row.size) main) (head_for key item)
true_reads main row key item t =
    let size = t.size in
    let short = t.short in
    record { key = t.key_whole; item = item; fits = omega (arith, size, short); head_is = refl; rest = []; whole = t.entry ∙ sym (append-nil (entry_of key item)) }

-- bytes that are an entry and no more
entry_alone : (bytes : List ℕ) (head : EntryHead) (r : ReadsAsEntry bytes head) → length bytes ≡ 28 + head.size → bytes ≡ entry_of head.key r.item
entry_alone bytes head r len =
    let sized : head.size ≡ length r.item = ap (λ (h : EntryHead). h.size) r.head_is in
    let exact : length (entry_of head.key r.item) ≡ length bytes = omega (arith, length-entry head.key r.item r.key, sized, len) in
    sym (take_all (length bytes) bytes (omega arith)) ∙ ap (take (length bytes)) r.whole ∙ take_at (entry_of head.key r.item) r.rest (length bytes) exact

-- what is read at a row's place, and has the row's hash and length, makes it true
pub true_from_entry : (main : List ℕ) (row : IdxRow) (head : EntryHead) → 20 ≤ row.place → row_end row ≤ length main → (r : ReadsAsEntry (part row.place (28 + row.size) main) head)
    → hash_of head.key ≡ row.hash → head.size ≡ row.size → row.size ≤ 16779034 → IsTrueRow main row head.key r.item
true_from_entry main row head above within r hash size short =
    let sized : head.size ≡ length r.item = ap (λ (h : EntryHead). h.size) r.head_is in
    let a = length-take (28 + row.size) (drop row.place main) in
    let b = length-drop row.place main in
    let len : length (part row.place (28 + row.size) main) ≡ 28 + head.size = omega (arith, a, b, within, size) in
    record { above = above; within = within; key_whole = r.key; hash = hash; size = sym sized ∙ size; short = short; entry = entry_alone _ head r len }
