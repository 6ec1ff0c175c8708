-- What stands in an entry that is replaced is being evicted.
use Rattle.std.proofs.Common.{◌≡◌, inl, inr, ℕ, List, Option, Some, None, refl, sym, ap, ◌∙◌, subst}
use Rattle.cache_types.specs.Driver.{DriverKeys}
use Rattle.cache_types.specs.declared.key.Key.{Key}
use Rattle.cache_types.specs.declared.name.Name.TheVariants.{Entry}
use Rattle.cache_types.specs.declared.store.Layout.{Layout}
use Rattle.cache_types.specs.declared.store.Layout.TheVariants.{Folder, Database, Foz}
use Rattle.cache_types.proofs.OneDriver.{one_front}
use Rattle.file_log.specs.Disk.{file_of}
use Rattle.file_log.specs.State.{disk_of}
use Rattle.item_frame.proofs.AnyLaws.{front_of_item}
use Rattle.seat_rules.specs.Address.{Address, address}
use Rattle.layout_rules.specs.Parts.{GivesBy}
use Rattle.folder_rules.specs.Holds.{FileReads}
use Rattle.seat_rules.specs.Operations.{EvictIsOpen}
use Rattle.folder_rules.specs.Whole.{folder_of}
use Rattle.folder_changes.specs.Own.{IsReplacing, ReplacingEvicts}

-- an address is that of its parts
address_is : (root : ℕ) (driver : DriverKeys) (key : Key) (at : Address) → at.store.layout ≡ Folder → at.store.root ≡ root → driver ≡ at.driver → at.key ≡ key → address (folder_of root) driver key ≡ at
address_is root driver key at layout r d k =
    ap (λ (x : ℕ). address (record { root = x; layout = Folder }) driver key) (sym r)
    ∙ ap (λ (x : Layout). address (record { root = at.store.root; layout = x }) driver key) (sym layout)
    ∙ ap (λ (x : DriverKeys). address at.store x key) d
    ∙ ap (λ (x : Key). address at.store at.driver x) (sym k)

pub replacing_evicts : ReplacingEvicts
replacing_evicts h me root key told at r k driver held = by_layout at.store.layout refl held.1
  where
    by_file : (o : Option (List ℕ)) → at.store.layout ≡ Folder → IsReplacing h.log me root key o → FileReads o at.driver held.0 → EvictIsOpen h.log me at
    by_file None layout told reads = absurd reads
    by_file (Some bytes) layout (inl none) reads = absurd (none at.driver (front_of_item at.driver bytes held.0 driver reads))
    by_file (Some bytes) layout (inr evicted) reads =
        let fronts = front_of_item at.driver bytes held.0 driver reads in
        subst (EvictIsOpen h.log me) (address_is root evicted.0 key at layout r (one_front bytes evicted.0 at.driver evicted.1 fronts) k) evicted.2

    by_layout : (l : Layout) → at.store.layout ≡ l → GivesBy l (disk_of h) at.store.root at.driver at.key held.0 → EvictIsOpen h.log me at
    by_layout Folder layout gives =
        by_file (file_of (disk_of h) (Entry root key)) layout told
        (subst (λ (x : Key). FileReads (file_of (disk_of h) (Entry root x)) at.driver held.0) k (subst (λ (x : ℕ). FileReads (file_of (disk_of h) (Entry x at.key)) at.driver held.0) r gives))
    by_layout Database layout gives = absurd gives
    by_layout Foz layout gives = absurd gives
