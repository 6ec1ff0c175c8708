-- An entry is read exactly where it is spelled.
use Rattle.std.proofs.Common.{◌≡◌, ◌↔◌, ℕ, ◌+◌, ◌^◌, ◌<◌, ◌≤◌, Bool, true, false, not, eqb, ltb, List, ◌++◌, length, take, drop, Result, Ok, refl, sym, ap, subst, ◌∙◌, append_assoc, arith}
use Rattle.std.specs.Int.{w32, to_le_bytes}
use Rattle.std.proofs.lemmas.Bool.{ltb-false, eqb-true, le-ltb, eq-eqb}
use Rattle.std.proofs.lemmas.List.{drop-drop, take_at, drop_at, take-append-drop, length-take-le, length-drop, length-append}
use Rattle.cache_types.specs.declared.key.Key.{Key}
use Rattle.crc_small.specs.Sum.{Sum}
use Rattle.item_frame.specs.Reading.{number}
use Rattle.item_frame.proofs.Numbers.{IsBytes, IsBytes-drop, number_then, number_again, after_number, not_false}
use Rattle.item_frame.proofs.ReadBack.{Sum_fits}
use Rattle.db_format.specs.declared.entry.EntryHead.{EntryHead}
use Rattle.db_format.specs.declared.refusal.DbRefusal.{DbRefusal}
use Rattle.db_format.specs.Numbers.{part}
use Rattle.db_format.specs.Entries.{entry_head_bytes, head_for, entry_of, sum_in, size_in, item_in, entry_at, ReadsAsEntry}
use Rattle.db_format.proofs.LongNumbers.{number_fits}
use Rattle.db_format.proofs.Steps.{passed}

-- a head that was read
abbrev entry_read : EntryHead → Result EntryHead DbRefusal
entry_read head = Ok head

same_entry : (a b : EntryHead) → entry_read a ≡ entry_read b → a ≡ b
same_entry a b e = cc

-- the key in front of some bytes, and their fields
abbrev key_in : List ℕ → Key
key_in bytes = record { bytes = take 20 bytes }

abbrev fields : List ℕ → EntryHead
fields bytes = record { key = key_in bytes; sum = sum_in bytes; size = size_in bytes }

-- an entry and what follows it, from left to right
pub regrouped : (key sum size item rest : List ℕ) → ((key ++ (sum ++ size)) ++ item) ++ rest ≡ key ++ (sum ++ (size ++ (item ++ rest)))
regrouped key sum size item rest =
    append_assoc (key ++ (sum ++ size)) item rest ∙ append_assoc key (sum ++ size) (item ++ rest) ∙ ap (λ (x : List ℕ). key ++ x) (append_assoc sum size (item ++ rest))

-- what is read is spelled so
entry_takes : (bytes : List ℕ) (head : EntryHead) → IsBytes bytes → entry_at bytes ≡ Ok head → ReadsAsEntry bytes head
unfolding entry_at
entry_takes bytes head fit reads =
    let sized = passed (ltb (length bytes) 28) _ _ head reads in
    let there = passed (ltb (length bytes) (28 + size_in bytes)) _ _ head sized.1 in
    let summed = passed (not (eqb (sum_in bytes) (Sum (item_in bytes)))) _ _ head there.1 in
    let long : 28 ≤ length bytes = ltb-false _ _ sized.0 in
    let whole : 28 + size_in bytes ≤ length bytes = ltb-false _ _ there.0 in
    let sum_is : sum_in bytes ≡ Sum (item_in bytes) = eqb-true _ _ (not_false _ summed.0) in
    let size_is : length (item_in bytes) ≡ size_in bytes = length-take-le (size_in bytes) (drop 28 bytes) (omega (arith, length-drop 28 bytes)) in
    let rest = drop (size_in bytes) (drop 28 bytes) in
    let sum_there : drop 20 bytes ≡ to_le_bytes w32 (sum_in bytes) ++ drop 24 bytes =
    number_then (drop 20 bytes) (IsBytes-drop 20 bytes fit) (omega (arith, length-drop 20 bytes)) ∙ ap (λ (x : List ℕ). to_le_bytes w32 (sum_in bytes) ++ x) (drop-drop 4 20 bytes) in
    let size_there : drop 24 bytes ≡ to_le_bytes w32 (size_in bytes) ++ drop 28 bytes =
    number_then (drop 24 bytes) (IsBytes-drop 24 bytes fit) (omega (arith, length-drop 24 bytes)) ∙ ap (λ (x : List ℕ). to_le_bytes w32 (size_in bytes) ++ x) (drop-drop 4 24 bytes) in
    let item_there : drop 28 bytes ≡ item_in bytes ++ rest = sym (take-append-drop (size_in bytes) (drop 28 bytes)) in
    let spelled : bytes ≡ take 20 bytes ++ (to_le_bytes w32 (sum_in bytes) ++ (to_le_bytes w32 (size_in bytes) ++ (item_in bytes ++ rest))) =
    sym (take-append-drop 20 bytes)
    ∙ ap (λ (x : List ℕ). take 20 bytes ++ x) (sum_there ∙ ap (λ (x : List ℕ). to_le_bytes w32 (sum_in bytes) ++ x) (size_there ∙ ap (λ (x : List ℕ). to_le_bytes w32 (size_in bytes) ++ x) item_there)) in
    let is : fields bytes ≡ head = same_entry _ _ summed.1 in
    let head_is : fields bytes ≡ head_for (key_in bytes) (item_in bytes) =
    ap (λ (n : ℕ). record { key = key_in bytes; sum = n; size = size_in bytes }) sum_is ∙ ap (λ (n : ℕ). record { key = key_in bytes; sum = Sum (item_in bytes); size = n }) (sym size_is) in
    let here : ReadsAsEntry bytes (fields bytes) = record {
      key = length-take-le 20 bytes (omega (arith, long));
      item = item_in bytes;
      fits = omega (arith, size_is, number_fits (drop 24 bytes) (IsBytes-drop 24 bytes fit));
      head_is = head_is;
      rest = rest;
      whole = spelled
          ∙ sym (regrouped (take 20 bytes) (to_le_bytes w32 (sum_in bytes)) (to_le_bytes w32 (size_in bytes)) (item_in bytes) rest)
          ∙ ap (λ (h : EntryHead). (entry_head_bytes h ++ item_in bytes) ++ rest) head_is;
    } in
    subst (ReadsAsEntry bytes) is here

-- over plain bytes: at those that are spelled the numbers would compute to single cells
entry_step : (bytes : List ℕ) → 28 + size_in bytes ≤ length bytes → sum_in bytes ≡ Sum (item_in bytes) → entry_at bytes ≡ Ok (fields bytes)
unfolding entry_at
entry_step bytes whole sums =
    let a : ltb (length bytes) 28 ≡ false = le-ltb _ _ (omega (arith, whole)) in
    let b : ltb (length bytes) (28 + size_in bytes) ≡ false = le-ltb _ _ whole in
    let c : eqb (sum_in bytes) (Sum (item_in bytes)) ≡ true = eq-eqb _ _ sums in
    rw (a, b, c) refl

-- what is spelled so is read
spelled_entry : (key : Key) (item rest : List ℕ) → length key.bytes ≡ 20 → length item < 2 ^ 32 → entry_at (entry_of key item ++ rest) ≡ Ok (head_for key item)
spelled_entry key item rest whole fits = ap entry_at flat ∙ entry_step bytes long (sum ∙ sym (ap Sum item_is)) ∙ ap entry_read head_is
  where
    size_bytes : List ℕ
    size_bytes = to_le_bytes w32 (length item)

    behind : List ℕ
    behind = size_bytes ++ (item ++ rest)

    bytes : List ℕ
    bytes = key.bytes ++ (to_le_bytes w32 (Sum item) ++ behind)

    flat : entry_of key item ++ rest ≡ bytes
    flat = regrouped key.bytes (to_le_bytes w32 (Sum item)) size_bytes item rest

    from_sum : drop 20 bytes ≡ to_le_bytes w32 (Sum item) ++ behind
    from_sum = drop_at key.bytes (to_le_bytes w32 (Sum item) ++ behind) 20 whole

    from_size : drop 24 bytes ≡ behind
    from_size = sym (drop-drop 4 20 bytes) ∙ ap (drop 4) from_sum ∙ after_number (Sum item) behind

    from_item : drop 28 bytes ≡ item ++ rest
    from_item = sym (drop-drop 4 24 bytes) ∙ ap (drop 4) from_size ∙ after_number (length item) (item ++ rest)

    sum : sum_in bytes ≡ Sum item
    sum = ap number from_sum ∙ number_again (Sum item) behind (Sum_fits item)

    size : size_in bytes ≡ length item
    size = ap number from_size ∙ number_again (length item) (item ++ rest) fits

    item_is : item_in bytes ≡ item
    item_is = ap (take (size_in bytes)) from_item ∙ take_at item rest (size_in bytes) (sym size)

    long : 28 + size_in bytes ≤ length bytes
    long =
        let a = length-append key.bytes (to_le_bytes w32 (Sum item) ++ behind) in
        let b = length-append item rest in
        omega (arith, a, b, whole, size)

    head_is : fields bytes ≡ head_for key item
    head_is =
        ap (λ (k : List ℕ). record { key = record { bytes = k }; sum = sum_in bytes; size = size_in bytes }) (take_at key.bytes (to_le_bytes w32 (Sum item) ++ behind) 20 whole)
        ∙ ap (λ (n : ℕ). record { key = key; sum = n; size = size_in bytes }) sum
        ∙ ap (λ (n : ℕ). record { key = key; sum = Sum item; size = n }) size

pub entry_again : (bytes : List ℕ) (head : EntryHead) → ReadsAsEntry bytes head → entry_at bytes ≡ Ok head
entry_again bytes head r = ap entry_at r.whole ∙ spelled_entry head.key r.item r.rest r.key r.fits ∙ ap entry_read (sym r.head_is)

pub entry_exact : (bytes : List ℕ) (head : EntryHead) → IsBytes bytes → (entry_at bytes ≡ Ok head) ↔ ReadsAsEntry bytes head
entry_exact bytes head fit = (λ e. entry_takes bytes head fit e, λ r. entry_again bytes head r)

-- what is written in front of its item is an entry
pub entry_written : (bytes : List ℕ) (head : EntryHead) → length head.key.bytes ≡ 20 → head.size < 2 ^ 32 → bytes ≡ entry_head_bytes head
    → (item rest : List ℕ) → Sum item ≡ head.sum → length item ≡ head.size → ReadsAsEntry (bytes ++ (item ++ rest)) head
entry_written bytes head whole fits written item rest sums sized =
    let head_is : head ≡ head_for head.key item =
    ap (λ (n : ℕ). record { key = head.key; sum = n; size = head.size }) (sym sums) ∙ ap (λ (n : ℕ). record { key = head.key; sum = Sum item; size = n }) (sym sized) in
    record {
      key = whole;
      item = item;
      fits = omega (arith, fits, sized);
      head_is = head_is;
      rest = rest;
      whole = sym (append_assoc bytes item rest) ∙ ap (λ (x : List ℕ). (x ++ item) ++ rest) (written ∙ ap entry_head_bytes head_is);
    }

-- ---- the parts of an entry

pub length-entry_head : (key : Key) (item : List ℕ) → length key.bytes ≡ 20 → length (entry_head_bytes (head_for key item)) ≡ 28
length-entry_head key item whole =
    let a = length-append key.bytes (to_le_bytes w32 (Sum item) ++ to_le_bytes w32 (length item)) in
    omega (arith, a, whole)

pub length-entry : (key : Key) (item : List ℕ) → length key.bytes ≡ 20 → length (entry_of key item) ≡ 28 + length item
length-entry key item whole =
    let a = length-append (entry_head_bytes (head_for key item)) item in
    let b = length-entry_head key item whole in
    omega (arith, a, b)

pub key_in_front : (key : Key) (item : List ℕ) → length key.bytes ≡ 20 → take 20 (entry_of key item) ≡ key.bytes
key_in_front key item whole =
    let numbers = to_le_bytes w32 (Sum item) ++ to_le_bytes w32 (length item) in
    ap (take 20) (append_assoc key.bytes numbers item) ∙ take_at key.bytes (numbers ++ item) 20 whole

pub item_behind : (key : Key) (item : List ℕ) → length key.bytes ≡ 20 → drop 28 (entry_of key item) ≡ item
item_behind key item whole = drop_at (entry_head_bytes (head_for key item)) item 28 (length-entry_head key item whole)

-- an entry is of one key and one item
pub one_entry : (key other : Key) (item more : List ℕ) → length key.bytes ≡ 20 → length other.bytes ≡ 20 → entry_of key item ≡ entry_of other more → (key ≡ other) × (item ≡ more)
one_entry key other item more whole whole' same =
    let keys : key.bytes ≡ other.bytes = sym (key_in_front key item whole) ∙ ap (take 20) same ∙ key_in_front other more whole' in
    let items : item ≡ more = sym (item_behind key item whole) ∙ ap (drop 28) same ∙ item_behind other more whole' in
    (ap (λ (k : List ℕ). record { bytes = k }) keys, items)
