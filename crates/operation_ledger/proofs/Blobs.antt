-- What a file reads as for a driver, and what an entry gives.
use Rattle.std.proofs.Common.{◌≡◌, ◌≢◌, inl, inr, ℕ, List, Option, Some, None, Result, Ok, Err, refl, sym, ap, ◌∙◌}
use Rattle.std.specs.Prelude.{IfOk, OnOk}
use Rattle.std.specs.Result.{result_err}
use Rattle.cache_types.specs.Driver.{DriverKeys, blob_of}
use Rattle.cache_types.specs.declared.key.Key.{Key}
use Rattle.cache_types.specs.declared.request.Request.{Request}
use Rattle.cache_types.specs.declared.request.Request.TheVariants as requests
use Rattle.cache_types.specs.declared.store.Layout.{Layout}
use Rattle.cache_types.specs.declared.store.Layout.TheVariants.{Folder, Database, Foz}
use Rattle.file_log.specs.Disk.{Disk, bytes_in}
use Rattle.item_frame.specs.Item.{Reads}
use Rattle.item_frame.specs.Reading.{item_at}
use Rattle.item_frame.specs.Refusals.{IsRefused}
use Rattle.item_frame.specs.declared.refusal.ItemRefusal.{ItemRefusal}
use Rattle.item_frame.specs.declared.refusal.ItemRefusal.TheVariants.{NoMemory}
use Rattle.item_frame.proofs.FirstRefusal.{first_refusal_is}
use Rattle.log_summary.specs.Summary.{read_part, read_for, given_by, given_for}
use Rattle.rule_checks.proofs.Reading.{reads_to}
use Rattle.operation_ledger.specs.Entries.{entry_by, entry_of, read_by}

-- a file was read
pub read_is : (driver : DriverKeys) (files : ℕ → List ℕ) (file : Option ℕ) (f : ℕ) (bytes blob : List ℕ) → file ≡ Some f → bytes ≡ files f → Reads driver bytes blob → Some blob ≡ read_for driver (bytes_in files file)
read_is driver files file f bytes blob named same r =
    sym (reads_to driver bytes blob r) ∙ ap (λ (b : List ℕ). read_for driver (Some b)) same ∙ sym (ap (λ (o : Option ℕ). read_for driver (bytes_in files o)) named)

none_read : (r : Result (List ℕ) ItemRefusal) (refusal : ItemRefusal) → result_err r ≡ Some refusal → None ≡ read_part r
none_read (Ok blob) refusal e = absurd cc
none_read (Err other) refusal e = refl

-- it was not, and not for want of memory
pub read_none : (driver : DriverKeys) (files : ℕ → List ℕ) (file : Option ℕ) (f : ℕ) (bytes : List ℕ) (refusal : ItemRefusal) → file ≡ Some f → bytes ≡ files f → refusal ≢ NoMemory → IsRefused driver bytes refusal
    → None ≡ read_for driver (bytes_in files file)
read_none driver files file f bytes refusal named same memory (inl out) = absurd (memory out)
read_none driver files file f bytes refusal named same memory (inr wrong) =
    none_read (item_at (blob_of driver) bytes) refusal (sym (first_refusal_is (blob_of driver) bytes) ∙ wrong.0)
    ∙ ap (λ (b : List ℕ). read_for driver (Some b)) same ∙ sym (ap (λ (o : Option ℕ). read_for driver (bytes_in files o)) named)

given_by_entry : (layout : Layout) (d : Disk) (root : ℕ) (driver : DriverKeys) (key : Key) → given_by layout d root driver key ≡ read_for driver (bytes_in d.files (entry_by layout d root key))
given_by_entry Folder d root driver key = refl
given_by_entry Database d root driver key = refl
given_by_entry Foz d root driver key = refl

-- what a store gives is what the entry's file reads as
pub given_by_file : (d : Disk) (request : Request) → given_for d request ≡ read_by request (bytes_in d.files (entry_of d request))
given_by_file d (requests.Get store driver key ro) = given_by_entry store.layout d store.root driver key
given_by_file d (requests.Put store driver key meta blob limit) = given_by_entry store.layout d store.root driver key
given_by_file d request = refl

-- nothing was read, where memory did not run out
pub none_then : (E P : Type 0) (r : Result (Option (List ℕ)) E) (x : Option (List ℕ)) → IfOk r (λ b. b ≡ None) → OnOk r P → (P → None ≡ x) → IfOk r (λ b. b ≡ x)
none_then E P (Ok b) x is memory h = is ∙ h memory
none_then E P (Err e) x is memory h = tt
