-- What reading a file as an item tells of what a store gives.
use Rattle.std.proofs.Common.{◌≡◌, ℕ, List, inl, inr, true, false, Bool, ◌&&◌, is_some, is_none, Result, Ok, Err, Option, Some, None, refl, sym, ap, ap₂, ◌∙◌}
use Rattle.std.specs.Prelude.{◌≢◌, IfOk, OnOk}
use Rattle.std.specs.Result.{result_err, is_ok}
use Rattle.std.proofs.lemmas.Bool.{and_right}
use Rattle.cache_types.specs.Driver.{DriverKeys, blob_of}
use Rattle.cache_types.specs.declared.key.Key.{Key}
use Rattle.folder_rules.specs.Whole.{folder_of}
use Rattle.item_frame.proofs.FirstRefusal.{first_refusal_is}
use Rattle.item_frame.proofs.Laws.{item_at-reads}
use Rattle.item_frame.specs.Item.{Reads}
use Rattle.item_frame.specs.Reading.{item_at}
use Rattle.item_frame.specs.Refusals.{IsRefused, IsWrong, first_refusal}
use Rattle.item_frame.specs.declared.refusal.ItemRefusal.{ItemRefusal}
use Rattle.item_frame.specs.declared.refusal.ItemRefusal.TheVariants.{NoMemory}
use Rattle.log_summary.specs.Summary.{read_part, read_for}
use Rattle.rule_checks.specs.Tests.{same_blob, same_key, same_store, is_item_of}
use Rattle.world_log.proofs.Grouping.{any_constant, any_same}
use Rattle.world_log.specs.Grouping.{any_put}
use Rattle.world_log.specs.declared.puts_at.PutsAt.{PutsAt}

-- a blob that the bytes read as is given
pub reads_some : (driver : DriverKeys) (bytes blob : List ℕ) → Reads driver bytes blob → read_for driver (Some bytes) ≡ Some blob
reads_some driver bytes blob reads = ap read_part (item_at-reads driver bytes blob reads)

unread : (r : Result (List ℕ) ItemRefusal) (refusal : ItemRefusal) → result_err r ≡ Some refusal → read_part r ≡ None
unread (Ok blob) refusal e = absurd cc
unread (Err other) refusal e = refl

-- none is given where something is wrong with them
pub reads_none : (driver : DriverKeys) (bytes : List ℕ) (refusal : ItemRefusal) → IsWrong driver bytes refusal → read_for driver (Some bytes) ≡ None
reads_none driver bytes refusal wrong = unread (item_at (blob_of driver) bytes) refusal (sym (first_refusal_is (blob_of driver) bytes) ∙ wrong.0)

right_part : (r : Result (List ℕ) ItemRefusal) → is_none (result_err r) ≡ is_some (read_part r)
right_part (Ok blob) = refl
right_part (Err refusal) = refl

right_unit : {T : Type 0} (r : Result T ItemRefusal) → is_ok r ≡ is_none (result_err r)
right_unit (Ok x) = refl
right_unit (Err refusal) = refl

-- some is given exactly where nothing is wrong with them
pub reads_right : {T : Type 0} (driver : DriverKeys) (bytes : List ℕ) (checked : Result T ItemRefusal) → result_err checked ≡ first_refusal (blob_of driver) bytes → is_ok checked ≡ is_some (read_for driver (Some bytes))
reads_right driver bytes checked e = right_unit checked ∙ ap is_none (e ∙ first_refusal_is (blob_of driver) bytes) ∙ right_part (item_at (blob_of driver) bytes)

-- ---- compared with the puts under an address

-- an address elsewhere has no item there
pub none_elsewhere : (root : ℕ) (key : Key) (bytes : List ℕ) (r : PutsAt) → (same_store r.at.store (folder_of root) && same_key r.at.key key) ≡ false → any_put (is_item_of root key bytes) r ≡ false
none_elsewhere root key bytes r e = any_constant (is_item_of root key bytes) false r (λ blob. ap (λ (b : Bool). b && same_blob (read_for r.at.driver (Some bytes)) (Some blob)) e)

-- the blob that the bytes read as is compared with those that are put
pub any_read : (root : ℕ) (key : Key) (bytes read : List ℕ) (r : PutsAt) → (same_store r.at.store (folder_of root) && same_key r.at.key key) ≡ true → Reads r.at.driver bytes read
    → any_put (λ p. same_blob (Some read) (Some p.blob)) r ≡ any_put (is_item_of root key bytes) r
any_read root key bytes read r e reads = any_same (λ p. same_blob (Some read) (Some p.blob)) (is_item_of root key bytes) r
    (λ blob. ap₂ (λ (b : Bool) (o : Option (List ℕ)). b && same_blob o (Some blob)) (sym e) (sym (reads_some r.at.driver bytes read reads)))

-- where something is wrong with them they are no item of any
pub none_read : (root : ℕ) (key : Key) (bytes : List ℕ) (r : PutsAt) (refusal : ItemRefusal) → IsRefused r.at.driver bytes refusal → refusal ≢ NoMemory → false ≡ any_put (is_item_of root key bytes) r
none_read root key bytes r refusal refused not_memory =
    elim refused [
      | inl memory ↦ absurd (not_memory memory)
      | inr wrong ↦ sym (any_constant (is_item_of root key bytes) false r (λ blob.
          ap (λ (o : Option (List ℕ)). (same_store r.at.store (folder_of root) && same_key r.at.key key) && same_blob o (Some blob)) (reads_none r.at.driver bytes refusal wrong)
          ∙ and_right (same_store r.at.store (folder_of root) && same_key r.at.key key) false refl))
    ]

pub none_then : {E P : Type 0} (r : Result Bool E) (x : Bool) → IfOk r (λ b. b ≡ false) → OnOk r P → (P → false ≡ x) → IfOk r (λ b. b ≡ x)
none_then (Ok b) x e p so = e ∙ so p
none_then (Err error) x e p so = tt
