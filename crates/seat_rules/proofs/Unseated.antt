-- An item of no seat leaves the names that seats give, and their files.
use Rattle.std.proofs.Common.{◌≡◌, ℕ, ◌+◌, ◌<◌, Bool, true, false, nat_eq, List, Option, Some, None, refl, sym, ap, ◌∙◌, arith}
use Rattle.std.proofs.lemmas.Bool.{false≢true}
use Rattle.std.proofs.lemmas.Bool.Decides.{Decides-eqb}
use Rattle.cache_types.proofs.Names.{same_name_decides}
use Rattle.cache_types.specs.Names.{same_name}
use Rattle.cache_types.specs.declared.name.Name.{Name}
use Rattle.cache_types.specs.declared.name.Name.TheVariants as names
use Rattle.disk_laws.specs.Tidy.{IsTidy}
use Rattle.file_log.specs.Disk.{Disk, file_of, bytes_in, listed}
use Rattle.file_log.specs.Effect.{applied}
use Rattle.file_log.specs.Log.{seat_of}
use Rattle.file_log.specs.declared.item.LogItem.{LogItem}
use Rattle.file_log.specs.declared.item.LogItem.TheVariants as items
use Rattle.seat_rules.specs.Kinds.{is_foreign}

pub apart : (f g : ℕ) → (f ≡ g → ⊥) → nat_eq f g ≡ false
apart f g h = by_test (nat_eq f g) refl
  where
    by_test : (b : Bool) → nat_eq f g ≡ b → b ≡ false
    by_test true e = absurd (h ((Decides-eqb f g).0 e))
    by_test false e = refl

-- ---- names

foreign_apart : (a b : Name) → is_foreign a ≡ true → is_foreign b ≡ false → same_name a b ≡ false
foreign_apart a b e g = by_test (same_name a b) refl
  where
    by_test : (t : Bool) → same_name a b ≡ t → t ≡ false
    by_test true same = absurd (false≢true (sym g ∙ ap is_foreign (sym ((same_name_decides a b).0 same)) ∙ e))
    by_test false other = refl

listed_name : (d : Disk) (text : Option (List ℕ)) (name : Name) → is_foreign name ≡ false → (listed d text).names name ≡ d.names name
listed_name d None name e = rw (foreign_apart names.List name refl e) refl
listed_name d (Some text) name e = rw (foreign_apart names.List name refl e) refl

pub unseated_name : (d : Disk) (item : LogItem) (name : Name) → is_foreign name ≡ false → seat_of item ≡ None → (applied d item).names name ≡ d.names name
unseated_name d (items.Queued process ticket request) name e none = refl
unseated_name d (items.Stop process) name e none = refl
unseated_name d (items.Install r n main index) name e none = rw (foreign_apart (names.RoIdx r n) name refl e, foreign_apart (names.Ro r n) name refl e) refl
unseated_name d (items.SetList text) name e none = listed_name d text name e
unseated_name d (items.Taken who ticket) name e none = absurd cc
unseated_name d (items.Begin who request) name e none = absurd cc
unseated_name d (items.Did who call reply) name e none = absurd cc
unseated_name d (items.Byte who slot place value) name e none = absurd cc
unseated_name d (items.Failed who memory) name e none = absurd cc
unseated_name d (items.Evict who store driver k) name e none = absurd cc
unseated_name d (items.End who answer) name e none = absurd cc

-- ---- files

new_apart : (n f : ℕ) → f < n → nat_eq n f ≡ false
new_apart n f less = apart n f (λ same. absurd (omega (arith, less, same)))

listed_bytes : (d : Disk) (text : Option (List ℕ)) (f : ℕ) → f < d.count → (listed d text).files f ≡ d.files f
listed_bytes d None f less = refl
listed_bytes d (Some text) f less = rw (new_apart d.count f less) refl

pub unseated_bytes : (d : Disk) (item : LogItem) (f : ℕ) → f < d.count → seat_of item ≡ None → (applied d item).files f ≡ d.files f
unseated_bytes d (items.Queued process ticket request) f less none = refl
unseated_bytes d (items.Stop process) f less none = refl
unseated_bytes d (items.Install r n main index) f less none = rw (new_apart (d.count + 1) f (omega (arith, less)), new_apart d.count f less) refl
unseated_bytes d (items.SetList text) f less none = listed_bytes d text f less
unseated_bytes d (items.Taken who ticket) f less none = absurd cc
unseated_bytes d (items.Begin who request) f less none = absurd cc
unseated_bytes d (items.Did who call reply) f less none = absurd cc
unseated_bytes d (items.Byte who slot place value) f less none = absurd cc
unseated_bytes d (items.Failed who memory) f less none = absurd cc
unseated_bytes d (items.Evict who store driver k) f less none = absurd cc
unseated_bytes d (items.End who answer) f less none = absurd cc

pub unseated_file : (d : Disk) (item : LogItem) (name : Name) → IsTidy d → is_foreign name ≡ false → seat_of item ≡ None → file_of (applied d item) name ≡ file_of d name
unseated_file d item name t e none = by_number (d.names name) refl
  where
    by_number : (o : Option ℕ) → d.names name ≡ o → file_of (applied d item) name ≡ file_of d name
    by_number None is = ap (bytes_in (applied d item).files) (unseated_name d item name e none ∙ is) ∙ sym (ap (bytes_in d.files) is)
    by_number (Some f) is =
        ap (bytes_in (applied d item).files) (unseated_name d item name e none ∙ is)
        ∙ ap (λ (b : List ℕ). Some b) (unseated_bytes d item f (t.there name f is) none)
        ∙ sym (ap (bytes_in d.files) is)
