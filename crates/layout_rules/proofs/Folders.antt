-- The rules, as long as folders alone are built: as the six of folder stores.
use Rattle.std.proofs.Common.{◌≡◌, ◌⊎◌, inl, inr, ℕ, List, Option, refl, sym, ap, ◌∙◌, subst}
use Rattle.cache_types.specs.Driver.{DriverKeys, IsDriver}
use Rattle.cache_types.specs.declared.seat.Who.{Who}
use Rattle.cache_types.specs.declared.store.Layout.{Layout}
use Rattle.cache_types.specs.declared.store.Layout.TheVariants.{Folder, Database, Foz}
use Rattle.cache_types.specs.declared.store.Store.{Store}
use Rattle.file_log.specs.Disk.{Disk, file_of}
use Rattle.file_log.specs.Effect.{applied}
use Rattle.file_log.specs.Log.{History, WasPut, Quiet}
use Rattle.file_log.specs.State.{disk_of}
use Rattle.file_log.specs.declared.item.LogItem.{LogItem}
use Rattle.folder_rules.specs.Holds.{FileReads}
use Rattle.folder_rules.specs.Rules.{EntriesStayWhole, EntriesComeByRename}
use Rattle.folder_rules.specs.Whole.{folder_of, EntriesAreWhole}
use Rattle.folder_rules.proofs.Entries.{entry_of}
use Rattle.folder_rules.proofs.Puts.{holds_put}
use Rattle.layout_rules.specs.Parts.{parts, GivesBy, Gives, IsHeld}
use Rattle.layout_rules.specs.Rules.{AnswersAreEarned, Conforms}
use Rattle.seat_rules.specs.Address.{Address, address_in}
use Rattle.seat_rules.specs.Changes.{with_item}
use Rattle.seat_rules.specs.Operations.{EvictIsOpen}
use Rattle.seat_rules.specs.Part.{HasSome}
use Rattle.seat_rules.specs.Places.{past}
use Rattle.seat_rules.specs.Rules.{OnlyHoldersWrite, NamesStay}
use Rattle.seat_rules.proofs.Puts.{PutIn}

-- while no process was stopped and no call failed, what was held is held, or the seat has an open Evict of it
abbrev pub NothingIsLost : History → LogItem → Who → Type 0
NothingIsLost h item who = Quiet h.log → (at : Address) → IsDriver at.driver → IsHeld (disk_of h) at → IsHeld (applied (disk_of h) item) at ⊎ EvictIsOpen h.log who at

-- an item of this seat keeps the six rules
pub record SixRules (h : History) (item : LogItem) (who : Who) : Type 0 where
  pub whole : EntriesStayWhole h item
  pub written : OnlyHoldersWrite h item who
  pub renamed : EntriesComeByRename h item who
  pub stay : NamesStay h item
  pub kept : NothingIsLost h item who
  pub earned : AnswersAreEarned h item

module _ (h : History) (item : LogItem) (who : Who) where
  whole_of : (l : Layout) → SixRules h item who → (parts l).whole (with_item h item)
  whole_of Folder c = c.whole
  whole_of Database c = tt
  whole_of Foz c = tt

  kept_of : (l : Layout) → SixRules h item who → (parts l).keeps h item who
  kept_of Folder c = record { renamed = c.renamed; kept = λ quiet root driver key fits held. c.kept quiet (address_in Folder root driver key) fits held }
  kept_of Database c = tt
  kept_of Foz c = tt

  pub conforms_of : SixRules h item who → Conforms h item who
  conforms_of c = record { whole = λ l. whole_of l c; shared = record { written = c.written; stay = c.stay }; kept = λ l. kept_of l c; earned = c.earned }

  nothing_lost : Conforms h item who → NothingIsLost h item who
  nothing_lost c quiet at fits held = by_layout at.store.layout refl held
    where
      by_layout : (l : Layout) → at.store.layout ≡ l → HasSome (GivesBy l) (disk_of h) at.store.root at.driver at.key
          → HasSome (GivesBy l) (applied (disk_of h) item) at.store.root at.driver at.key ⊎ EvictIsOpen h.log who at
      by_layout Folder e held = elim ((c.kept Folder).kept quiet at.store.root at.driver at.key fits held) [
        | inl stays ↦ inl stays
        | inr told ↦ inr (subst (λ (l : Layout). EvictIsOpen h.log who (address_in l at.store.root at.driver at.key)) (sym e) told)
      ]
      by_layout Database e held = absurd held.1
      by_layout Foz e held = absurd held.1

  pub six_of : Conforms h item who → SixRules h item who
  six_of c = record { whole = c.whole Folder; written = c.shared.written; renamed = (c.kept Folder).renamed; stay = c.shared.stay; kept = nothing_lost c; earned = c.earned }

-- ---- what stores hold

-- what is held by a file with the same bytes
pub held_same : (d d' : Disk) (at : Address) → file_of d' (entry_of at) ≡ file_of d (entry_of at) → IsHeld d at → IsHeld d' at
held_same d d' at same held = by_layout at.store.layout held
  where
    by_layout : (l : Layout) → (blob : List ℕ) × GivesBy l d at.store.root at.driver at.key blob → (blob : List ℕ) × GivesBy l d' at.store.root at.driver at.key blob
    by_layout Folder h = (h.0, subst (λ (o : Option (List ℕ)). FileReads o at.driver h.0) (sym same) h.1)
    by_layout Database h = absurd h.1
    by_layout Foz h = absurd h.1

-- what a store gives was put there
pub gives_put : (log : List LogItem) (at : Address) (blob : List ℕ) → EntriesAreWhole (past log)
    → ((driver : DriverKeys) (b : List ℕ) → WasPut log (folder_of at.store.root) driver at.key b → IsDriver driver) → IsDriver at.driver → Gives (disk_of (past log)) at blob → PutIn log at blob
gives_put log at blob whole fits driver gives = by_layout at.store.layout refl gives
  where
    root : ℕ
    root = at.store.root

    in_folder : (l : Layout) → at.store.layout ≡ l → l ≡ Folder → ◌≡◌ {A = Store} (folder_of root) at.store
    in_folder l e f = ap (λ (x : Layout). record { root = root; layout = x }) (sym (e ∙ f))

    by_layout : (l : Layout) → at.store.layout ≡ l → GivesBy l (disk_of (past log)) root at.driver at.key blob → PutIn log at blob
    by_layout Folder e gives = subst (λ (s : Store). WasPut log s at.driver at.key blob) (in_folder Folder e refl) (holds_put log root at.driver at.key blob whole fits driver gives)
    by_layout Database e gives = absurd gives
    by_layout Foz e gives = absurd gives
