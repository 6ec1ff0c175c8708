-- What an answer of a lookup says of its operation among seats that keep the rules.
use Rattle.std.proofs.Common.{ℕ}
use Rattle.cache_types.specs.Driver.{DriverKeys}
use Rattle.cache_types.specs.declared.answer.Answer.{Answer}
use Rattle.cache_types.specs.declared.answer.Answer.TheVariants as answers
use Rattle.cache_types.specs.declared.key.Key.{Key}
use Rattle.cache_types.specs.declared.request.Request.{Request}
use Rattle.cache_types.specs.declared.request.Request.TheVariants as requests
use Rattle.cache_types.specs.declared.request.RoPlan.{RoPlan}
use Rattle.cache_types.specs.declared.seat.Who.{Who}
use Rattle.file_log.specs.declared.item.LogItem.{LogItem}
use Rattle.file_log.specs.declared.item.LogItem.TheVariants as items
use Rattle.file_log.specs.Log.{History}
use Rattle.seat_rules.specs.Changes.{with_item}
use Rattle.layout_rules.specs.Parts.{Gives, IsHeld}
use Rattle.seat_rules.specs.Address.{Address, address}
use Rattle.layout_rules.specs.Rules.{AnswersAreEarned}
use Rattle.folder_rules.specs.Whole.{folder_of}
use Rattle.folder_changes.specs.Course.{HasSeen, HasFailed}
use Rattle.folder_changes.proofs.Earning.{seen_stays, meets, earns}
use Rattle.folder_store.proofs.Keeping.{Within, IsIn}
use Rattle.folder_store.proofs.Opened.{HasOpen}

module _ (me : Who) (root : ℕ) (driver : DriverKeys) (key : Key) (ro : RoPlan) where
  abbrev pub asked_for : Request
  asked_for = requests.Get (folder_of root) driver key ro

  abbrev pub place : Address
  place = address (folder_of root) driver key

  abbrev pub Opens : History → Type 0
  Opens h = HasOpen me asked_for root key h

  -- what an answer says of the operation
  abbrev pub Told : Answer → History → Type 0
  Told (answers.Hit blob) h = HasSeen h me asked_for (λ d. Gives d place blob)
  Told answers.Miss h = HasSeen h me asked_for (λ d. IsHeld d place → ⊥)
  Told answers.FilesFault h = HasFailed h me asked_for
  Told answers.NoMemory h = Unit {0}
  Told answer h = ⊥

  -- ---- an item more

  pub told_then : (answer : Answer) (h : History) (x : LogItem) → Within me x → Told answer h → Told answer (with_item h x)
  told_then (answers.Hit blob) h x within t = seen_stays h x me asked_for (λ d. Gives d place blob) within t
  told_then answers.Miss h x within t = seen_stays h x me asked_for (λ d. IsHeld d place → ⊥) within t
  told_then answers.FilesFault h x within t = (meets h x me asked_for within).stays_failed t
  told_then answers.NoMemory h x within t = tt
  told_then answer h x within t = absurd t

  -- ---- its End

  pub told_earns : (answer : Answer) (h : History) → IsIn me asked_for h → Told answer h → AnswersAreEarned h (items.End me answer)
  told_earns (answers.Hit blob) h i t = (earns h me).hit (folder_of root) driver key ro blob t
  told_earns answers.Miss h i t = (earns h me).miss (folder_of root) driver key ro t
  told_earns answers.FilesFault h i t = (earns h me).fault asked_for t
  told_earns answers.NoMemory h i t = (earns h me).no_memory asked_for i.inside
  told_earns answer h i t = absurd t
