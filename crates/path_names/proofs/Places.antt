-- A place in a root tells the name that it is of.
use Rattle.std.proofs.Common.{◌≡◌, ℕ, zero, suc, ◌/◌, ◌%◌, ◌-◌, ◌<◌, ◌≤◌, ◌==◌, Bool, true, false, ◌&&◌, not, nat_eq, nat_le, List, [], ◌∷◌, ◌++◌, length, take, drop, slice_index, Option, Some, None, codes, refl, sym, ap, ◌∙◌, arith, if◌then◌else◌, append-nil, append_assoc, get_or, subst}
use Rattle.std.proofs.Math.Seq.{take-append_seam, take-length, drop-append_seam}
use Rattle.std.proofs.lemmas.Bool.{and_parts, leb-true, not-true}
use Rattle.std.proofs.lemmas.List.{append_cancel_left, length-append}
use Rattle.std.specs.Cmp.Lexicographic.{pointwise}
use Rattle.std.specs.List.{list_all, starts_with, ends_with}
use Rattle.std.specs.Result.{result_unwrap_or}
use Rattle.hex.specs.Hex.{IsBytes, decode_of, encode_lower, encode_with, lower_digits}
use Rattle.hex.proofs.HexLemmas.{decode_of-encode_lower, length-encode_with}
use Rattle.cache_types.specs.declared.key.Key.{Key}
use Rattle.cache_types.specs.declared.name.Name.{Name}
use Rattle.cache_types.specs.declared.name.Name.TheVariants as names
use Rattle.path_names.specs.declared.paths.Paths.{Paths}
use Rattle.path_names.specs.Paths.{CanBe, HasPath, IsPathOfOne, path_in, path_spelled, place_of, root_of}
use Rattle.path_names.specs.RoNames.{is_ro_byte, is_ro_name}

-- ---- the end of a list

take_front : (xs ys : List ℕ) → take (length (xs ++ ys) - length ys) (xs ++ ys) ≡ xs
take_front xs ys =
    let e : length (xs ++ ys) - length ys ≡ length xs = omega (arith, length-append xs ys) in
    rw e (take-append_seam xs ys)

drop_front : (xs ys : List ℕ) → drop (length (xs ++ ys) - length ys) (xs ++ ys) ≡ ys
drop_front xs ys =
    let e : length (xs ++ ys) - length ys ≡ length xs = omega (arith, length-append xs ys) in
    rw e (drop-append_seam xs ys)

-- ---- reading a place

-- the bytes that digits spell
abbrev bytes_of : List ℕ → List ℕ
bytes_of digits = result_unwrap_or (decode_of digits) []

abbrev key_of : List ℕ → Key
key_of digits = record { bytes = bytes_of digits }

-- two digits, a slash, and the rest
abbrev folder_name : ℕ → ℕ → ℕ → List ℕ → Name
folder_name root a b rest =
    if length rest == 4 then names.FolderLock root (slice_index (bytes_of (a ∷ b ∷ [])) 0)
    else if length rest == 38 then names.Entry root (key_of (a ∷ b ∷ take 38 rest))
    else names.Temp root (key_of (a ∷ b ∷ take 38 rest))

-- without the end `_idx.foz`
abbrev index_name : ℕ → List ℕ → Name
index_name root stem = if pointwise nat_eq stem (codes "foz_cache") then names.FozIdx root else names.RoIdx root stem

-- without the end `.foz`
abbrev foz_name : ℕ → List ℕ → Name
foz_name root stem =
    if ends_with nat_eq stem (codes "_idx") then index_name root (take (length stem - 4) stem)
    else if pointwise nat_eq stem (codes "foz_cache") then names.Foz root
    else names.Ro root stem

abbrev root_name : ℕ → List ℕ → Name
root_name root place =
    if ends_with nat_eq place (codes ".foz") then foz_name root (take (length place - 4) place)
    else if pointwise nat_eq place (codes "index") then names.KeyIndex root
    else if pointwise nat_eq place (codes "mesa_cache.db") then names.Db root
    else names.Idx root

abbrev name_at : ℕ → List ℕ → Name
name_at root (a ∷ b ∷ c ∷ rest) = if c == 47 then folder_name root a b rest else root_name root (a ∷ b ∷ c ∷ rest)
name_at root place = names.List

-- ---- folders

one_byte : (byte : ℕ) → byte < 256 → IsBytes (byte ∷ [])
one_byte byte h zero = h
one_byte byte h (suc i) = omega arith

-- a byte's two digits spell it
byte_back : (byte : ℕ) → byte < 256 → slice_index (bytes_of (encode_lower (byte ∷ []))) 0 ≡ byte
byte_back byte h = ap (λ r. slice_index (result_unwrap_or r []) 0) (decode_of-encode_lower (byte ∷ []) (one_byte byte h))

lock_back : (root byte : ℕ) → byte < 256 → name_at root (place_of (names.FolderLock root byte)) ≡ names.FolderLock root byte
unfolding place_of encode_with
lock_back root byte h = ap (names.FolderLock root) (byte_back byte h)

-- a key's digits spell it
key_back : (bytes : List ℕ) → IsBytes bytes → key_of (encode_lower bytes) ≡ record { bytes = bytes }
key_back bytes h = ap (λ r. record { bytes = result_unwrap_or r [] }) (decode_of-encode_lower bytes h)

-- the choice by the length of what stands after the slash
choose_entry : (n : ℕ) (x y z : Name) → n ≡ 38 → (if n == 4 then x else if n == 38 then y else z) ≡ y
choose_entry n x y z e = rw e refl

choose_temp : (n : ℕ) (x y z : Name) → n ≡ 42 → (if n == 4 then x else if n == 38 then y else z) ≡ z
choose_temp n x y z e = rw e refl

entry_rest : (root a b : ℕ) (rest : List ℕ) → length rest ≡ 38 → folder_name root a b (rest ++ []) ≡ names.Entry root (key_of (a ∷ b ∷ rest))
entry_rest root a b rest e =
    let t : take 38 rest ≡ rest = subst (λ n. take n rest ≡ rest) e (take-length rest) in
    rw (append-nil rest) (
    choose_entry (length rest) (names.FolderLock root (slice_index (bytes_of (a ∷ b ∷ [])) 0)) (names.Entry root (key_of (a ∷ b ∷ take 38 rest))) (names.Temp root (key_of (a ∷ b ∷ take 38 rest))) e
    ∙ ap (λ d. names.Entry root (key_of (a ∷ b ∷ d))) t
    )

temp_rest : (root a b : ℕ) (rest : List ℕ) → length rest ≡ 38 → folder_name root a b (rest ++ codes ".tmp") ≡ names.Temp root (key_of (a ∷ b ∷ rest))
temp_rest root a b rest e =
    let all : List ℕ = rest ++ codes ".tmp" in
    let t : take 38 all ≡ rest = subst (λ n. take n all ≡ rest) e (take-append_seam rest (codes ".tmp")) in
    choose_temp (length all) (names.FolderLock root (slice_index (bytes_of (a ∷ b ∷ [])) 0)) (names.Entry root (key_of (a ∷ b ∷ take 38 all))) (names.Temp root (key_of (a ∷ b ∷ take 38 all))) (omega (arith, length-append rest (codes ".tmp")))
    ∙ ap (λ d. names.Temp root (key_of (a ∷ b ∷ d))) t

entry_back : (root : ℕ) (bytes : List ℕ) → length bytes ≡ 20 → IsBytes bytes → name_at root (place_of (names.Entry root (record { bytes = bytes }))) ≡ names.Entry root (record { bytes = bytes })
unfolding place_of encode_with
entry_back root [] e h = absurd (omega arith)
entry_back root (b ∷ bytes) e h =
    entry_rest root (slice_index lower_digits (b / 16)) (slice_index lower_digits (b % 16)) (encode_lower bytes) (omega (arith, length-encode_with lower_digits bytes))
    ∙ ap (names.Entry root) (key_back (b ∷ bytes) h)

temp_back : (root : ℕ) (bytes : List ℕ) → length bytes ≡ 20 → IsBytes bytes → name_at root (place_of (names.Temp root (record { bytes = bytes }))) ≡ names.Temp root (record { bytes = bytes })
unfolding place_of encode_with
temp_back root [] e h = absurd (omega arith)
temp_back root (b ∷ bytes) e h =
    temp_rest root (slice_index lower_digits (b / 16)) (slice_index lower_digits (b % 16)) (encode_lower bytes) (omega (arith, length-encode_with lower_digits bytes))
    ∙ ap (names.Temp root) (key_back (b ∷ bytes) h)

-- ---- read-only databases

-- what is known of their names
record Parts (name : List ℕ) : Type 0 where
  some : 1 ≤ length name
  bytes : list_all is_ro_byte name ≡ true
  no_idx : ends_with nat_eq name (codes "_idx") ≡ false
  no_foz : pointwise nat_eq name (codes "foz_cache") ≡ false

six_parts : (a b c d e f : Bool) → (a && b && c && d && e && f) ≡ true → (a ≡ true) × (d ≡ true) × (e ≡ true) × (f ≡ true)
six_parts a b c d e f h =
    let five = and_parts (a && b && c && d && e) f h in
    let four = and_parts (a && b && c && d) e five.0 in
    let three = and_parts (a && b && c) d four.0 in
    let two = and_parts (a && b) c three.0 in
    ((and_parts a b two.0).0, three.1, four.1, five.1)

parts_of : (name : List ℕ) → is_ro_name name ≡ true → Parts name
unfolding is_ro_name
parts_of name h =
    let p = six_parts
    (nat_le 1 (length name)) (nat_le (length name) 200) (not (starts_with nat_eq name (codes ".")))
    (not (ends_with nat_eq name (codes "_idx"))) (not (pointwise nat_eq name (codes "foz_cache"))) (list_all is_ro_byte name) h in
    record {
      some = leb-true 1 (length name) p.0;
      no_idx = not-true (ends_with nat_eq name (codes "_idx")) p.1;
      no_foz = not-true (pointwise nat_eq name (codes "foz_cache")) p.2;
      bytes = p.3;
    }

third_byte : (x y z : ℕ) (name : List ℕ) → list_all is_ro_byte (x ∷ y ∷ z ∷ name) ≡ true → (z == 47) ≡ false
third_byte x y z name h =
    let a = and_parts (is_ro_byte x) (list_all is_ro_byte (y ∷ z ∷ name)) h in
    let b = and_parts (is_ro_byte y) (list_all is_ro_byte (z ∷ name)) a.1 in
    let c = and_parts (is_ro_byte z) (list_all is_ro_byte name) b.1 in
    let d = and_parts (nat_le 0x21 z && nat_le z 0x7e && not (z == 47)) (not (z == 44)) c.0 in
    not-true (z == 47) (and_parts (nat_le 0x21 z && nat_le z 0x7e) (not (z == 47)) d.0).1

-- a slash is no third byte of a name with such an end
no_slash : (root : ℕ) (name : List ℕ) (p q : ℕ) (more : List ℕ) → Parts name → (p == 47) ≡ false → (q == 47) ≡ false
    → name_at root (name ++ (p ∷ q ∷ more)) ≡ root_name root (name ++ (p ∷ q ∷ more))
no_slash root [] p q more parts hp hq = absurd (omega (arith, parts.some))
no_slash root (x ∷ []) p q more parts hp hq = rw hq refl
no_slash root (x ∷ y ∷ []) p q more parts hp hq = rw hp refl
no_slash root (x ∷ y ∷ z ∷ name) p q more parts hp hq = rw (third_byte x y z name parts.bytes) refl

-- what ends in `.foz` is read without that end
foz_end : (root : ℕ) (stem : List ℕ) → root_name root (stem ++ codes ".foz") ≡ foz_name root stem
foz_end root stem = rw (drop_front stem (codes ".foz"), take_front stem (codes ".foz")) refl

-- what doesn't end in `_idx` then is a read-only database's
stem_ro : (root : ℕ) (name : List ℕ) → ends_with nat_eq name (codes "_idx") ≡ false → pointwise nat_eq name (codes "foz_cache") ≡ false → foz_name root name ≡ names.Ro root name
stem_ro root name a b = rw (a, b) refl

stem_idx : (root : ℕ) (name : List ℕ) → pointwise nat_eq name (codes "foz_cache") ≡ false → foz_name root (name ++ codes "_idx") ≡ names.RoIdx root name
stem_idx root name b = rw (drop_front name (codes "_idx"), take_front name (codes "_idx"), b) refl

ro_back : (root : ℕ) (name : List ℕ) → is_ro_name name ≡ true → name_at root (place_of (names.Ro root name)) ≡ names.Ro root name
unfolding place_of
ro_back root name h =
    let parts = parts_of name h in
    no_slash root name 46 102 (111 ∷ 122 ∷ []) parts refl refl ∙ foz_end root name ∙ stem_ro root name parts.no_idx parts.no_foz

ro_idx_back : (root : ℕ) (name : List ℕ) → is_ro_name name ≡ true → name_at root (place_of (names.RoIdx root name)) ≡ names.RoIdx root name
unfolding place_of
ro_idx_back root name h =
    let parts = parts_of name h in
    no_slash root name 95 105 (codes "dx.foz") parts refl refl
    ∙ ap (root_name root) (sym (append_assoc name (codes "_idx") (codes ".foz")))
    ∙ foz_end root (name ++ codes "_idx")
    ∙ stem_idx root name parts.no_foz

-- ---- all names

-- what is known of a name that has a root
abbrev pub IsGood : Name → Type 0
IsGood (names.Ro root name) = is_ro_name name ≡ true
IsGood (names.RoIdx root name) = is_ro_name name ≡ true
IsGood name = CanBe name

-- a name is read back from its root and its place
pub name_back : (name : Name) (root : ℕ) → IsGood name → root_of name ≡ Some root → name_at root (place_of name) ≡ name
unfolding place_of
name_back (names.FolderLock root byte) at h e = let same : root ≡ at = cc in rw (sym same) (lock_back root byte h)
name_back (names.Entry root key) at h e = let same : root ≡ at = cc in rw (sym same) (entry_back root key.bytes h.length_is h.bytes)
name_back (names.Temp root key) at h e = let same : root ≡ at = cc in rw (sym same) (temp_back root key.bytes h.length_is h.bytes)
name_back (names.KeyIndex root) at h e = ap names.KeyIndex (cc)
name_back (names.Db root) at h e = ap names.Db (cc)
name_back (names.Idx root) at h e = ap names.Idx (cc)
name_back (names.Foz root) at h e = ap names.Foz (cc)
name_back (names.FozIdx root) at h e = ap names.FozIdx (cc)
name_back (names.Ro root name) at h e = let same : root ≡ at = cc in rw (sym same) (ro_back root name h)
name_back (names.RoIdx root name) at h e = let same : root ≡ at = cc in rw (sym same) (ro_idx_back root name h)
name_back names.List at h e = absurd (cc)

-- the list is the only name without a root
list_alone : (name : Name) → root_of name ≡ None → name ≡ names.List
list_alone names.List e = refl
list_alone (names.FolderLock root byte) e = absurd (cc)
list_alone (names.Entry root key) e = absurd (cc)
list_alone (names.Temp root key) e = absurd (cc)
list_alone (names.KeyIndex root) e = absurd (cc)
list_alone (names.Db root) e = absurd (cc)
list_alone (names.Idx root) e = absurd (cc)
list_alone (names.Foz root) e = absurd (cc)
list_alone (names.FozIdx root) e = absurd (cc)
list_alone (names.Ro root name) e = absurd (cc)
list_alone (names.RoIdx root name) e = absurd (cc)

pub good : (paths : Paths) (name : Name) → CanBe name → HasPath paths name → IsGood name
good paths (names.Ro root name) can has = has.1
good paths (names.RoIdx root name) can has = has.1
good paths (names.FolderLock root byte) can has = can
good paths (names.Entry root key) can has = can
good paths (names.Temp root key) can has = can
good paths (names.KeyIndex root) can has = can
good paths (names.Db root) can has = can
good paths (names.Idx root) can has = can
good paths (names.Foz root) can has = can
good paths (names.FozIdx root) can has = can
good paths names.List can has = can

-- two names of one root with one path are one
same_in : (paths : Paths) (a b : Name) (at : Option ℕ) → IsGood a → IsGood b → root_of a ≡ at → root_of b ≡ at
    → path_in paths at (place_of a) ≡ path_in paths at (place_of b) → a ≡ b
same_in paths a b None ga gb ra rb e = list_alone a ra ∙ sym (list_alone b rb)
same_in paths a b (Some root) ga gb ra rb e =
    let text : List ℕ = get_or paths.roots root [] in
    let places = append_cancel_left (text ++ codes "/") (place_of a) (place_of b) (append_assoc text (codes "/") (place_of a) ∙ e ∙ sym (append_assoc text (codes "/") (place_of b))) in
    sym (name_back a root ga ra) ∙ ap (name_at root) places ∙ name_back b root gb rb

pub one_path : (paths : Paths) (name : Name) (path : List ℕ) → HasPath paths name → path ≡ path_spelled paths name → IsPathOfOne paths name path
one_path paths name path has e other can can_other has_other roots same =
    same_in paths name other (root_of other) (good paths name can has) (good paths other can_other has_other) roots refl
    (subst (λ r. path_in paths r (place_of name) ≡ path_spelled paths other) roots (sym e ∙ same))
