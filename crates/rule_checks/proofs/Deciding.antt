-- The words of the tests decide what they stand for.
use Rattle.std.proofs.Common.{◌≡◌, ℕ, Bool, true, false, ◌||◌, List, Option, Some, None, refl, sym, ap, ◌∙◌, subst}
use Rattle.std.specs.Bool.{Decides}
use Rattle.std.specs.Cmp.Lexicographic.{bytes_decides}
use Rattle.std.proofs.lemmas.Bool.{false≢true}
use Rattle.std.proofs.lemmas.Bool.Decides.{Decides-eqb, Decides-like, Decides-and}
use Rattle.cache_types.specs.Driver.{DriverKeys}
use Rattle.cache_types.specs.declared.key.Key.{Key}
use Rattle.cache_types.specs.declared.name.Name.{Name}
use Rattle.cache_types.specs.declared.name.Name.TheVariants.{Entry, Temp, FolderLock}
use Rattle.cache_types.specs.declared.seat.Who.{Who}
use Rattle.cache_types.specs.declared.store.Layout.{Layout}
use Rattle.cache_types.specs.declared.store.Layout.TheVariants.{Folder, Database, Foz}
use Rattle.cache_types.specs.declared.store.Store.{Store}
use Rattle.file_log.specs.Disk.{Disk}
use Rattle.file_log.specs.declared.item.LogItem.{LogItem}
use Rattle.seat_rules.specs.Changes.{has_lock, may_write, is_rename, is_rename_of}
use Rattle.seat_rules.specs.Address.{Address}
use Rattle.seat_rules.specs.Kinds.{folder_byte, is_temporary, comes_guarded, is_lasting, is_foreign}
use Rattle.seat_rules.specs.Rules.{IsLeft}
use Rattle.rule_checks.specs.Tests.{implies, same_number, same_blob, same_layout, same_store, same_driver, same_key, same_address, keeps_bytes_of, had_before, has_still, keep_bytes, left_at, guarded_at, renamed_at, stays_at}
use Rattle.log_summary.specs.Telling.{In}
use Rattle.log_summary.proofs.Lists.{all_in, all_out}

some_is : {A : Type 0} (a b : A) → Some a ≡ Some b → a ≡ b
some_is a b e = cc

pub same_number_decides : (a b : Option ℕ) → Decides (same_number a b) (a ≡ b)
same_number_decides None None = (λ e. refl, λ e. refl)
same_number_decides (Some a) (Some b) = Decides-like _ (λ e. ap (λ (n : ℕ). Some n) e) (some_is a b) (Decides-eqb a b)
same_number_decides None (Some b) = (λ e. absurd (false≢true e), λ e. absurd cc)
same_number_decides (Some a) None = (λ e. absurd (false≢true e), λ e. absurd cc)

pub same_blob_decides : (a b : Option (List ℕ)) → Decides (same_blob a b) (a ≡ b)
same_blob_decides None None = (λ e. refl, λ e. refl)
same_blob_decides (Some a) (Some b) = Decides-like _ (λ e. ap (λ (n : List ℕ). Some n) e) (some_is a b) (bytes_decides a b)
same_blob_decides None (Some b) = (λ e. absurd (false≢true e), λ e. absurd cc)
same_blob_decides (Some a) None = (λ e. absurd (false≢true e), λ e. absurd cc)

layout_number : Layout → ℕ
layout_number Folder = 0
layout_number Database = 1
layout_number Foz = 2

pub same_layout_decides : (a b : Layout) → Decides (same_layout a b) (a ≡ b)
same_layout_decides Folder Folder = (λ e. refl, λ e. refl)
same_layout_decides Database Database = (λ e. refl, λ e. refl)
same_layout_decides Foz Foz = (λ e. refl, λ e. refl)
same_layout_decides Folder Database = (λ e. absurd (false≢true e), λ e. absurd cc)
same_layout_decides Folder Foz = (λ e. absurd (false≢true e), λ e. absurd cc)
same_layout_decides Database Folder = (λ e. absurd (false≢true e), λ e. absurd cc)
same_layout_decides Database Foz = (λ e. absurd (false≢true e), λ e. absurd cc)
same_layout_decides Foz Folder = (λ e. absurd (false≢true e), λ e. absurd cc)
same_layout_decides Foz Database = (λ e. absurd (false≢true e), λ e. absurd cc)

pub same_store_decides : (a b : Store) → Decides (same_store a b) (a ≡ b)
same_store_decides a b = Decides-like _
    (λ p. ap (λ (x : ℕ). record { root = x; layout = a.layout }) p.0 ∙ ap (λ (x : Layout). record { root = b.root; layout = x }) p.1)
    (λ e. (ap (λ (s : Store). s.root) e, ap (λ (s : Store). s.layout) e))
    (Decides-and _ _ (Decides-eqb a.root b.root) (same_layout_decides a.layout b.layout))

pub same_driver_decides : (a b : DriverKeys) → Decides (same_driver a b) (a ≡ b)
same_driver_decides a b = Decides-like _
    (λ p. ap (λ (x : List ℕ). record { id = x; gpu = a.gpu; flags = a.flags }) p.0.0
    ∙ ap (λ (x : List ℕ). record { id = b.id; gpu = x; flags = a.flags }) p.0.1
    ∙ ap (λ (x : ℕ). record { id = b.id; gpu = b.gpu; flags = x }) p.1)
    (λ e. ((ap (λ (d : DriverKeys). d.id) e, ap (λ (d : DriverKeys). d.gpu) e), ap (λ (d : DriverKeys). d.flags) e))
    (Decides-and _ _ (Decides-and _ _ (bytes_decides a.id b.id) (bytes_decides a.gpu b.gpu)) (Decides-eqb a.flags b.flags))

pub same_key_decides : (a b : Key) → Decides (same_key a b) (a ≡ b)
same_key_decides a b = Decides-like _ (λ e. ap (λ (x : List ℕ). record { bytes = x }) e) (λ e. ap (λ (k : Key). k.bytes) e) (bytes_decides a.bytes b.bytes)

pub same_address_decides : (a b : Address) → Decides (same_address a b) (a ≡ b)
same_address_decides a b = Decides-like _
    (λ p. ap (λ (x : Store). record { store = x; driver = a.driver; key = a.key }) p.0.0
    ∙ ap (λ (x : DriverKeys). record { store = b.store; driver = x; key = a.key }) p.0.1
    ∙ ap (λ (x : Key). record { store = b.store; driver = b.driver; key = x }) p.1)
    (λ e. ((ap (λ (x : Address). x.store) e, ap (λ (x : Address). x.driver) e), ap (λ (x : Address). x.key) e))
    (Decides-and _ _ (Decides-and _ _ (same_store_decides a.store b.store) (same_driver_decides a.driver b.driver)) (same_key_decides a.key b.key))

-- ---- where something holds

pub implies_decides : {P : Type 0} (a b : Bool) → Decides b P → Decides (implies a b) (a ≡ true → P)
implies_decides true b d = (λ e t. d.0 e, λ f. d.1 (f refl))
implies_decides false b d = (λ e t. absurd (false≢true t), λ f. refl)

pub unless_decides : {P : Type 0} (a b : Bool) → Decides b P → Decides (a || b) (a ≡ false → P)
unless_decides true b d = (λ e t. absurd (false≢true (sym t)), λ f. refl)
unless_decides false b d = (λ e t. d.0 e, λ f. d.1 (f refl))

-- ---- what becomes of a name

keeps_bytes_decides : (old new : Disk) (o : Option ℕ) → Decides (keeps_bytes_of old new o) ((f : ℕ) → o ≡ Some f → new.files f ≡ old.files f)
keeps_bytes_decides old new None = (λ e f clash. absurd cc, λ h. refl)
keeps_bytes_decides old new (Some g) = Decides-like _ (λ e f same. subst (λ (x : ℕ). new.files x ≡ old.files x) (some_is g f same) e) (λ h. h g refl) (bytes_decides (new.files g) (old.files g))

had_before_decides : (old : Disk) (name : Name) (o : Option ℕ) → Decides (had_before old name o) ((f : ℕ) → o ≡ Some f → old.names name ≡ Some f)
had_before_decides old name None = (λ e f clash. absurd cc, λ h. refl)
had_before_decides old name (Some g) = Decides-like _ (λ e f same. e ∙ same) (λ h. h g refl) (same_number_decides (old.names name) (Some g))

has_still_decides : (new : Disk) (name : Name) (o : Option ℕ) → Decides (has_still new name o) ((f : ℕ) → o ≡ Some f → new.names name ≡ Some f)
has_still_decides new name None = (λ e f clash. absurd cc, λ h. refl)
has_still_decides new name (Some g) = Decides-like _ (λ e f same. e ∙ same) (λ h. h g refl) (same_number_decides (new.names name) (Some g))

left_decides : (old new : Disk) (name : Name) → Decides (left_at old new name) (IsLeft old new name)
left_decides old new name = Decides-like _
    (λ p. record { bytes = p.0.0; comes = p.0.1; stays = p.1 })
    (λ r. ((r.bytes, r.comes), r.stays))
    (Decides-and _ _
    (Decides-and _ _ (keeps_bytes_decides old new (old.names name)) (implies_decides (comes_guarded name) _ (had_before_decides old name (new.names name))))
    (implies_decides (is_temporary name) _ (same_number_decides (new.names name) (old.names name))))

-- only a holder writes
pub guarded_decides : (old new : Disk) (who : Who) (name : Name) → Decides (guarded_at old new who name) (may_write old who name ≡ false → IsLeft old new name)
guarded_decides old new who name = unless_decides (may_write old who name) _ (left_decides old new name)

-- what an entry's name keeps
pub record IsRenamed (old new : Disk) (item : LogItem) (who : Who) (root : ℕ) (key : Key) : Type 0 where
  pub held : has_lock old who (FolderLock root (folder_byte key)) ≡ false → new.names (Entry root key) ≡ old.names (Entry root key)
  pub renamed : is_rename (Temp root key) (Entry root key) item ≡ false → (f : ℕ) → new.names (Entry root key) ≡ Some f → old.names (Entry root key) ≡ Some f
  pub stays : is_rename_of (Entry root key) item ≡ true → new.names (Entry root key) ≡ old.names (Entry root key)

pub renamed_decides : (old new : Disk) (item : LogItem) (who : Who) (root : ℕ) (key : Key) → Decides (renamed_at old new item who root key) (IsRenamed old new item who root key)
renamed_decides old new item who root key = Decides-like _
    (λ p. record { held = p.0.0; renamed = p.0.1; stays = p.1 })
    (λ r. ((r.held, r.renamed), r.stays))
    (Decides-and _ _
    (Decides-and _ _ (unless_decides _ _ (same_number_decides (new.names (Entry root key)) (old.names (Entry root key)))) (unless_decides _ _ (had_before_decides old (Entry root key) (new.names (Entry root key)))))
    (implies_decides _ _ (same_number_decides (new.names (Entry root key)) (old.names (Entry root key)))))

-- what another name keeps
abbrev pub StaysSo : Disk → Disk → Name → Type 0
StaysSo old new name = (is_lasting name ≡ true → (f : ℕ) → old.names name ≡ Some f → new.names name ≡ Some f) × (is_foreign name ≡ true → new.names name ≡ old.names name)

pub stays_decides : (old new : Disk) (name : Name) → Decides (stays_at old new name) (StaysSo old new name)
stays_decides old new name = Decides-and _ _ (implies_decides _ _ (has_still_decides new name (old.names name))) (implies_decides _ _ (same_number_decides (new.names name) (old.names name)))

-- files keep their bytes
pub keep_decides : (is_kind : Name → Bool) (had : List (Name × ℕ)) (old new : Disk) → Decides (keep_bytes is_kind had old new) ((name : Name) (f : ℕ) → In had (name, f) → is_kind name ≡ true → new.files f ≡ old.files f)
keep_decides is_kind had old new = (
  λ e name f i kind. (implies_decides (is_kind name) _ (bytes_decides (new.files f) (old.files f))).0 (all_in _ had (name, f) e i) kind,
  λ h. all_out _ had (λ p i. (implies_decides (is_kind p.0) _ (bytes_decides (new.files p.1) (old.files p.1))).1 (h p.0 p.1 i)),
)
