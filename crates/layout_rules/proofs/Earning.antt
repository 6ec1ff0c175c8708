-- Answers that are earned, by recursion along an operation's items: each place is watched, as long as folders alone are built.
use Rattle.std.proofs.Common.{◌≡◌, ℕ, true, List, [], ◌∷◌, ◌++◌}
use Rattle.std.specs.List.{list_any}
use Rattle.cache_types.specs.Driver.{DriverKeys}
use Rattle.cache_types.specs.declared.answer.Answer.{Answer}
use Rattle.cache_types.specs.declared.answer.Answer.TheVariants as answers
use Rattle.cache_types.specs.declared.key.Key.{Key}
use Rattle.cache_types.specs.declared.request.Request.{Request}
use Rattle.cache_types.specs.declared.request.Request.TheVariants as requests
use Rattle.cache_types.specs.declared.seat.Who.{Who}
use Rattle.cache_types.specs.declared.store.Layout.{Layout}
use Rattle.cache_types.specs.declared.store.Layout.TheVariants.{Folder, Database, Foz}
use Rattle.file_log.specs.Disk.{Disk}
use Rattle.file_log.specs.Log.{History, own, Quiet}
use Rattle.file_log.specs.Operation.{is_fault}
use Rattle.file_log.specs.State.{disk_of}
use Rattle.file_log.specs.declared.item.LogItem.{LogItem}
use Rattle.file_log.specs.declared.item.LogItem.TheVariants as items
use Rattle.layout_rules.specs.Parts.{parts, GivesBy, Gives, IsHeld}
use Rattle.layout_rules.specs.Rules.{EndsWell}
use Rattle.seat_rules.specs.Address.{address}
use Rattle.seat_rules.specs.Answers.{may_end, is_too_large, root_of}
use Rattle.seat_rules.specs.Changes.{disk_at}
use Rattle.seat_rules.specs.Judged as judged
use Rattle.seat_rules.specs.Operations.{IsInside, AfterOne, WasHeldOff}
use Rattle.seat_rules.specs.Part.{After}
use Rattle.seat_rules.proofs.Finding as finding
use Rattle.seat_rules.proofs.Watching.{after_anywhere, one_after}

-- what an answer says of an operation with these items, the first of which came on this disk, by recursion along them
abbrev pub IsEarnedAlong : Type 0 → Who → Disk → List LogItem → Request → Answer → Type 0
IsEarnedAlong calm who d made (requests.Get store driver key ro) (answers.Hit blob) = AfterOne who (λ e. Gives e (address store driver key) blob) d made
IsEarnedAlong calm who d made (requests.Get store driver key ro) answers.Miss = calm → AfterOne who (λ e. IsHeld e (address store driver key) → ⊥) d made
IsEarnedAlong calm who d made (requests.Put store driver key meta blob limit) answers.Stored = AfterOne who (λ e. Gives e (address store driver key) blob) d made
IsEarnedAlong calm who d made (requests.Put store driver key meta blob limit) answers.Kept = AfterOne who (λ e. IsHeld e (address store driver key)) d made
IsEarnedAlong calm who d made (requests.Put store driver key meta blob limit) (answers.TooLarge n) = is_too_large blob n ≡ true
IsEarnedAlong calm who d made request answers.Busy = WasHeldOff who (root_of request) d made
IsEarnedAlong calm who d made request answers.FilesFault = list_any is_fault (own who made) ≡ true
IsEarnedAlong calm who d made request answer = Unit {0}

-- ---- each place is watched

miss_anywhere : (l : Layout) (root : ℕ) (who : Who) (h : History) (item : LogItem) (later : List LogItem) → (parts l).miss_at root who h item later
miss_anywhere Folder root who h item later = tt
miss_anywhere Database root who h item later = tt
miss_anywhere Foz root who h item later = tt

well_anywhere : (l : Layout) (root : ℕ) (who : Who) (h : History) (item : LogItem) (later : List LogItem) → (parts l).well_at root who h item later
well_anywhere Folder root who h item later = tt
well_anywhere Database root who h item later = tt
well_anywhere Foz root who h item later = tt

-- a store holds what it gives, and has no limit
stored_as : (l : Layout) (d : Disk) (root : ℕ) (driver : DriverKeys) (key : Key) (blob : List ℕ) (limit : ℕ) → GivesBy l d root driver key blob → (parts l).holds d root driver key blob × (parts l).fits d root limit
stored_as Folder d root driver key blob limit g = (g, tt)
stored_as Database d root driver key blob limit g = (g, tt)
stored_as Foz d root driver key blob limit g = (g, tt)

as_stored : (l : Layout) (d : Disk) (root : ℕ) (driver : DriverKeys) (key : Key) (blob : List ℕ) → (parts l).holds d root driver key blob → GivesBy l d root driver key blob
as_stored Folder d root driver key blob g = g
as_stored Database d root driver key blob g = g
as_stored Foz d root driver key blob g = g

after_as : (W : History → LogItem → List LogItem → Type 0) → ((k : History) (item : LogItem) (later : List LogItem) → W k item later) → (P Q : Disk → Type 0) → ((d : Disk) → P d → Q d)
    → (who : Who) (h : History) (made : List LogItem) → AfterOne who P (disk_of h) made → After W Q who h made
after_as W all P Q f who h made a =
    let r = after_anywhere P who h made a in
    record { earlier = r.earlier; item = r.item; later = r.later; made_are = r.made_are; mine = r.mine; at_place = all _ r.item r.later; so = f _ r.so }

as_after : (W : History → LogItem → List LogItem → Type 0) (P Q : Disk → Type 0) → ((d : Disk) → P d → Q d) → (who : Who) (h : History) (made : List LogItem) → After W P who h made → AfterOne who Q (disk_of h) made
as_after W P Q f who h made a =
    one_after W Q who h made (record { earlier = a.earlier; item = a.item; later = a.later; made_are = a.made_are; mine = a.mine; at_place = a.at_place; so = f _ a.so })

-- ---- both forms say the same

pub earned_as : (calm : Type 0) (who : Who) (h : History) (made : List LogItem) (request : Request) (answer : Answer) → IsEarnedAlong calm who (disk_of h) made request answer → judged.IsEarned parts calm who h made request answer
earned_as calm who h made (requests.Get store driver key ro) (answers.Hit blob) e = after_as _ (λ k item later. tt) _ _ (λ d g. g) who h made e
earned_as calm who h made (requests.Get store driver key ro) answers.Miss e =
    λ quiet. after_as _ (λ k item later. miss_anywhere store.layout store.root who k item later) _ _ (λ d none. none) who h made (e quiet)
earned_as calm who h made (requests.Put store driver key meta blob limit) answers.Stored e =
    after_as _ (λ k item later. well_anywhere store.layout store.root who k item later) _ _ (λ d g. stored_as store.layout d store.root driver key blob limit g) who h made e
earned_as calm who h made (requests.Put store driver key meta blob limit) answers.Kept e =
    after_as _ (λ k item later. well_anywhere store.layout store.root who k item later) _ _ (λ d held. held) who h made e
earned_as calm who h made request answer e = e

pub as_earned : (calm : Type 0) (who : Who) (h : History) (made : List LogItem) (request : Request) (answer : Answer) → judged.IsEarned parts calm who h made request answer → IsEarnedAlong calm who (disk_of h) made request answer
as_earned calm who h made (requests.Get store driver key ro) (answers.Hit blob) e = as_after _ _ _ (λ d g. g) who h made e
as_earned calm who h made (requests.Get store driver key ro) answers.Miss e = λ quiet. as_after _ _ _ (λ d none. none) who h made (e quiet)
as_earned calm who h made (requests.Put store driver key meta blob limit) answers.Stored e =
    as_after _ _ _ (λ d held. as_stored store.layout d store.root driver key blob held.0) who h made e
as_earned calm who h made (requests.Put store driver key meta blob limit) answers.Kept e = as_after _ _ _ (λ d held. held) who h made e
as_earned calm who h made request answer e = e

-- ---- Ends

-- what the answer of an operation says of it
abbrev pub Earned : History → Who → Answer → Request → List LogItem → List LogItem → Type 0
Earned h who answer request before since =
    (may_end request answer ≡ true) × IsEarnedAlong (Quiet h.log) who (disk_at h before) (items.Begin who request ∷ (since ++ items.End who answer ∷ [])) request answer

-- an operation of which it is so ends well
pub ends_by : (h : History) (who : Who) (answer : Answer) (request : Request) (i : IsInside h.log who request) → Earned h who answer request i.before i.since → EndsWell h who answer
ends_by h who answer request i earned = record {
  request = request;
  inside = i;
  kind = earned.0;
  earned = earned_as (Quiet h.log) who (record { start = h.start; log = i.before }) (items.Begin who request ∷ (i.since ++ items.End who answer ∷ [])) request answer earned.1;
}

-- and it is so of the operation that the seat is in, where that ends well
pub earned_at : (h : History) (who : Who) (answer : Answer) (request : Request) → EndsWell h who answer → (i : IsInside h.log who request) → Earned h who answer request i.before i.since
earned_at h who answer request ends i =
    let said = finding.earned_at parts h who answer request ends i in
    (said.0, as_earned (Quiet h.log) who (record { start = h.start; log = i.before }) (items.Begin who request ∷ (i.since ++ items.End who answer ∷ [])) request answer said.1)
