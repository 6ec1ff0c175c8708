-- The calls of a put: all in its root, and at most so many.
use Rattle.std.proofs.Common.{◌≡◌, ◌≤◌, ◌+◌, ◌<◌, ℕ, Bool, true, false, List, refl, ap, subst, ◌∙◌, arith}
use Rattle.cache_types.specs.declared.key.Key.{Key}
use Rattle.cache_types.specs.Driver.{DriverKeys}
use Rattle.file_log.specs.declared.call.Call.TheVariants.{WriteAt}
use Rattle.file_log.specs.declared.reply.Reply.{Reply}
use Rattle.file_log.specs.declared.reply.Reply.TheVariants as replies
use Rattle.file_log.specs.Operation.{NamesOnly}
use Rattle.files_api.specs.declared.machine.Step.{Step}
use Rattle.files_api.specs.declared.machine.Step.TheVariants.{Ask, Done}
use Rattle.files_api.specs.Drive.{IsWithin, Goes}
use Rattle.folder_store.specs.declared.put.FolderPut.{FolderPut}
use Rattle.folder_store.specs.declared.put_phase.Besides.TheVariants.{LockAndTemp}
use Rattle.folder_store.specs.declared.put_phase.PutPhase.{PutPhase}
use Rattle.folder_store.specs.declared.put_phase.PutPhase.TheVariants.{Opening, Measuring, Reading, ReadingFront, Leaving, OpeningLock, Locking, Pausing, Evicting, Making, Cutting, Writing, Renaming, ClosingEntry, ClosingTemp, ClosingLock}
use Rattle.folder_store.specs.PutLaws.{put_goes_on}
use Rattle.folder_store.specs.PutPhases.{asks_put, asks_put_in, asked_put, after_put_asking, unless_done, NextPut, FedPut, put_slots_in, put_hurt_in, put_left_in}
use Rattle.folder_store.proofs.Items.{weight, AsksWithin, Lasts, Spends}

-- the phase after a reply, from the phase before it
pub put_next_of : (m n : FolderPut) (p : PutPhase) (reply : Reply) → m.phase ≡ p → FedPut (asked_put m) reply n → NextPut m.driver (after_put_asking p) reply n.phase
put_next_of m n p reply e fed =
    let same : n.phase ≡ fed.0 = ap (λ (x : FolderPut). x.phase) fed.1 in
    rw same (subst (λ (q : PutPhase). NextPut m.driver (after_put_asking q) reply fed.0) e fed.2)

-- ---- in its root

abbrev WithinStep : ℕ → Step → Type 0
WithinStep root (Ask call) = IsWithin call × NamesOnly root call
WithinStep root (Done answer) = Unit {0}

within_in : (root : ℕ) (key : Key) (item : List ℕ) (p : PutPhase) → WithinStep root (asks_put_in root key item p)
within_in root key item (Opening look) = (tt, refl)
within_in root key item (Measuring look) = (tt, tt)
within_in root key item (Reading look length) = (tt, tt)
within_in root key item ReadingFront = (tt, tt)
within_in root key item Leaving = (tt, tt)
within_in root key item OpeningLock = (tt, refl)
within_in root key item (Locking again) = (tt, tt)
within_in root key item (Pausing again) = (tt, tt)
within_in root key item (Evicting driver) = (tt, tt)
within_in root key item (Making entry) = (tt, refl)
within_in root key item (Cutting entry) = (tt, tt)
within_in root key item (Writing entry) = (tt, tt)
within_in root key item (Renaming entry) = (tt, (refl, refl))
within_in root key item (ClosingEntry answer besides) = (tt, tt)
within_in root key item (ClosingTemp answer) = (tt, tt)
within_in root key item (ClosingLock answer) = (tt, tt)
within_in root key item p = tt

pub put_within : (root : ℕ) → AsksWithin asks_put asked_put FedPut root (λ m. m.root ≡ root)
put_within root m call here e = subst (λ (r : ℕ). IsWithin call × NamesOnly r call) here (subst (WithinStep m.root) e (within_in m.root m.key m.item m.phase))

pub same_put_root : (root : ℕ) → Lasts asks_put asked_put FedPut (λ m. m.root ≡ root)
same_put_root root m n reply here fed = ap (λ (x : FolderPut). x.root) fed.1 ∙ here

-- ---- how many

abbrev weight_of : Step → Reply → ℕ
weight_of (Ask call) reply = weight call reply
weight_of (Done answer) reply = 0

after_write : (entry : Bool) (slot at : ℕ) (bytes : List ℕ) (reply : Reply) (q : PutPhase) → q ≡ unless_done reply entry LockAndTemp (Renaming entry) → weight (WriteAt slot at bytes) reply + put_left_in q ≤ 5
after_write true slot at bytes replies.Done q e = rw e (omega arith)
after_write true slot at bytes reply q e = rw e (omega arith)
after_write false slot at bytes replies.Done q e = rw e (omega arith)
after_write false slot at bytes reply q e = rw e (omega arith)

spends_in : (root : ℕ) (key : Key) (item : List ℕ) (driver : DriverKeys) (p : PutPhase) (reply : Reply) (q : PutPhase) → NextPut driver (after_put_asking p) reply q → put_left_in q < put_left_in p → weight_of (asks_put_in root key item p) reply + put_left_in q ≤ put_left_in p
spends_in root key item driver (Writing entry) reply q next less = after_write entry 3 0 item reply q next
spends_in root key item driver p reply q next less = omega arith

pub put_spends : Spends asks_put asked_put FedPut (λ m. put_left_in m.phase)
put_spends m n call reply e fits fed =
    let goes = subst (λ (s : Step). Goes (put_slots_in m.phase) (put_hurt_in m.phase) (put_left_in m.phase) s reply (put_slots_in n.phase) (put_hurt_in n.phase) (put_left_in n.phase)) e (put_goes_on m n reply fed) in
    subst (λ (s : Step). weight_of s reply + put_left_in n.phase ≤ put_left_in m.phase) e
    (spends_in m.root m.key m.item m.driver m.phase reply n.phase (put_next_of m n m.phase reply refl fed) (goes fits).less)
