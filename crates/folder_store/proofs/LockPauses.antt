-- A put pauses between any two of its tries of the lock.
use Rattle.std.proofs.Common.{◌≡◌, ℕ, ◌-◌, nat_eq, Bool, true, false, cond, ◌||◌, List, [], ◌∷◌, ◌++◌, refl, sym, ap, subst, ◌∙◌, append_assoc}
use Rattle.std.specs.List.{list_any}
use Rattle.std.proofs.lemmas.Bool.{false≢true}
use Rattle.cache_types.specs.declared.answer.Answer.{Answer}
use Rattle.cache_types.specs.declared.answer.Answer.TheVariants as answers
use Rattle.cache_types.specs.declared.key.Key.{Key}
use Rattle.cache_types.specs.declared.request.Request.{Request}
use Rattle.cache_types.specs.declared.seat.Who.{Who}
use Rattle.file_log.specs.declared.call.Call.{Call}
use Rattle.file_log.specs.declared.call.Call.TheVariants as calls
use Rattle.file_log.specs.declared.item.LogItem.{LogItem}
use Rattle.file_log.specs.declared.item.LogItem.TheVariants as items
use Rattle.file_log.specs.declared.reply.Reply.{Reply}
use Rattle.file_log.specs.declared.reply.Reply.TheVariants as replies
use Rattle.file_log.specs.Exchange.{Answers, Makes, Exchange}
use Rattle.files_api.specs.declared.machine.Step.TheVariants.{Ask, Done}
use Rattle.files_api.specs.Drive.{Runs, items_of_all}
use Rattle.folder_store.specs.declared.put.FolderPut.{FolderPut}
use Rattle.folder_store.specs.declared.put_phase.Look.TheVariants.{First}
use Rattle.folder_store.specs.declared.put_phase.PutPhase.{PutPhase}
use Rattle.folder_store.specs.declared.put_phase.PutPhase.TheVariants.{Opening}
use Rattle.folder_store.specs.Locking.{lock_name, is_try, is_pause, PausesBetweenTries}
use Rattle.folder_store.specs.PutPhases.{asks_put, asked_put, FedPut}
use Rattle.folder_store.proofs.LockStages.{LockStage, Before, Entering, Trying, Resting, Inside, Over, lock_stage, AsksIn, Gives, LockLeads}
use Rattle.folder_store.proofs.LockTries.{all_replies, replies-append, no_try, looking_no_try, alone_no_try, IsOf, asks_of, still_of, leads_of}

-- ---- pauses, try by try

-- a pause comes before the first try, if there is one
abbrev paused_first : List LogItem → Bool
paused_first [] = true
paused_first (x ∷ made) = cond (is_pause x) true (cond (is_try x) false (paused_first made))

abbrev Paced : List LogItem → Type 0
Paced [] = Unit {0}
Paced (x ∷ made) = (is_try x ≡ true → paused_first made ≡ true) × Paced made

try_no_pause : (x : LogItem) → is_try x ≡ true → is_pause x ≡ false
try_no_pause (items.Did who (calls.TryLock slot) reply) e = refl
try_no_pause x e = absurd (false≢true e)

first_pause : (between later : List LogItem) (other : LogItem) → paused_first (between ++ other ∷ later) ≡ true → is_try other ≡ true → list_any is_pause between ≡ true
first_pause [] later other e try = absurd (false≢true (sym (rw (try_no_pause other try, try) refl) ∙ e))
first_pause (x ∷ between) later other e try = by_pause (is_pause x) (is_try x) e (λ e'. first_pause between later other e' try)
  where
    by_pause : (p t : Bool) → cond p true (cond t false (paused_first (between ++ other ∷ later))) ≡ true → (paused_first (between ++ other ∷ later) ≡ true → list_any is_pause between ≡ true) → (p || list_any is_pause between) ≡ true
    by_pause true t e' again = refl
    by_pause false true e' again = absurd (false≢true e')
    by_pause false false e' again = again e'

pub paced_pauses : (made : List LogItem) → Paced made → PausesBetweenTries made
paced_pauses [] paced [] between later one other e one_try try = absurd cc
paced_pauses [] paced (y ∷ before) between later one other e one_try try = absurd cc
paced_pauses (x ∷ made) paced [] between later one other e one_try try =
    let same : x ≡ one = cc in
    let rest : made ≡ between ++ other ∷ later = cc in
    first_pause between later other (ap paused_first (sym rest) ∙ paced.0 (ap is_try same ∙ one_try)) try
paced_pauses (x ∷ made) paced (y ∷ before) between later one other e one_try try =
    let rest : made ≡ before ++ one ∷ (between ++ other ∷ later) = cc in
    paced_pauses made paced.1 before between later one other rest one_try try

-- ---- items without a try

-- they need no pause, and leave what comes behind them
none_paused : (made rest : List LogItem) → all_replies made ≡ [] → paused_first rest ≡ true → paused_first (made ++ rest) ≡ true
none_paused [] rest none p = p
none_paused (items.Did who (calls.TryLock slot) reply ∷ made) rest none p = absurd cc
none_paused (x ∷ made) rest none p = by_pause (is_pause x) (none_paused made rest none p)
  where
    by_pause : (b : Bool) → paused_first (made ++ rest) ≡ true → cond b true (paused_first (made ++ rest)) ≡ true
    by_pause true e = refl
    by_pause false e = e

none_paced : (made rest : List LogItem) → all_replies made ≡ [] → Paced rest → Paced (made ++ rest)
none_paced [] rest none p = p
none_paced (items.Did who (calls.TryLock slot) reply ∷ made) rest none p = absurd cc
none_paced (x ∷ made) rest none p = (λ e. absurd (false≢true e), none_paced made rest none p)

-- a pause comes first, and each two tries have one between them
record Rested (made : List LogItem) : Type 0 where
  pub paced : Paced made
  pub first : paused_first made ≡ true

none_rested : (made : List LogItem) → all_replies made ≡ [] → Rested made
none_rested [] none = record { paced = tt; first = refl }
none_rested (items.Did who (calls.TryLock slot) reply ∷ made) none = absurd cc
none_rested (x ∷ made) none =
    let r = none_rested made none in
    record { paced = (λ e. absurd (false≢true e), r.paced); first = by_pause (is_pause x) r.first }
  where
    by_pause : (b : Bool) → paused_first made ≡ true → cond b true (paused_first made) ≡ true
    by_pause true e = refl
    by_pause false e = e

pub none_pauses : (made : List LogItem) → all_replies made ≡ [] → PausesBetweenTries made
none_pauses made none = paced_pauses made (none_rested made none).paced

module _ (me : Who) (root : ℕ) (key : Key) where
  -- ---- along a run

  abbrev Comes : LockStage → List LogItem → Type 0
  Comes Before made = Paced made
  Comes Entering made = Paced made
  Comes (Trying again) made = Paced made
  Comes (Resting again) made = Rested made
  Comes Inside made = all_replies made ≡ []
  Comes (Over given) made = all_replies made ≡ []

  none_more : (made rest : List LogItem) → all_replies made ≡ [] → all_replies rest ≡ [] → all_replies (made ++ rest) ≡ []
  none_more made rest a b = replies-append made rest ∙ rw (a, b) refl

  -- an end without a try
  gives_rested : (next : LockStage) (made rest : List LogItem) → all_replies made ≡ [] → Gives next → Comes next rest → Rested (made ++ rest)
  gives_rested (Over given) made rest none g c = none_rested (made ++ rest) (none_more made rest none c)
  gives_rested next made rest none g c = absurd g

  abbrev Made : Call → Reply → List LogItem → Type 0
  Made call reply made = Answers true call reply × Makes me true call reply made

  tried : (reply : Reply) (rest : List LogItem) → Rested rest → Paced (items.Did me (calls.TryLock 0) reply ∷ rest)
  tried reply rest r = (λ e. r.first, r.paced)

  trying : (again : ℕ) (next : LockStage) (reply : Reply) (made rest : List LogItem) → Made (calls.TryLock 0) reply made → LockLeads (Trying again) reply next → Comes next rest → Paced (made ++ rest)
  trying again next replies.Done made rest m l c =
      subst (λ (xs : List LogItem). Paced (xs ++ rest)) (sym m.1) (tried replies.Done rest (none_rested rest (subst (λ (n : LockStage). Comes n rest) l c)))
  trying again next replies.Held made rest m l c =
      subst (λ (xs : List LogItem). Paced (xs ++ rest)) (sym m.1) (tried replies.Held rest (by_last (nat_eq again 0) (subst (λ (n : LockStage). Comes n rest) l c)))
    where
      by_last : (b : Bool) → Comes (cond b (Over answers.Busy) (Resting (again - 1))) rest → Rested rest
      by_last true c' = none_rested rest c'
      by_last false c' = c'
  trying again next replies.Failed made rest m l c = (gives_rested next made rest (ap all_replies m.1.1) l c).paced
  trying again next replies.NoMemory made rest m l c = (gives_rested next made rest (ap all_replies m.1.1) l c).paced
  trying again next reply made rest m l c = absurd m.0

  step : (now next : LockStage) (call : Call) (reply : Reply) (made rest : List LogItem) → AsksIn root key now (Ask call) → Made call reply made → LockLeads now reply next → Comes next rest → Comes now (made ++ rest)
  step Before Before call reply made rest asks m l c = none_paced made rest (no_try me call reply made (looking_no_try call asks) m.1) c
  step Before Entering call reply made rest asks m l c = none_paced made rest (no_try me call reply made (looking_no_try call asks) m.1) c
  step Before (Over given) call reply made rest asks m l c = (gives_rested (Over given) made rest (no_try me call reply made (looking_no_try call asks) m.1) l c).paced
  step Before next call reply made rest asks m l c = absurd l
  step Entering next call replies.Done made rest asks m l c =
      let m' : Made (calls.OpenNew 0 (lock_name root key)) replies.Done made = subst (λ (c' : Call). Made c' replies.Done made) (sym asks) m in
      none_paced made rest (no_try me (calls.OpenNew 0 (lock_name root key)) replies.Done made tt m'.1) (subst (λ (n : LockStage). Comes n rest) l c)
  step Entering next call reply made rest asks m l c =
      let m' : Made (calls.OpenNew 0 (lock_name root key)) reply made = subst (λ (c' : Call). Made c' reply made) (sym asks) m in
      (gives_rested next made rest (no_try me (calls.OpenNew 0 (lock_name root key)) reply made tt m'.1) l c).paced
  step (Trying again) next call reply made rest asks m l c = trying again next reply made rest (subst (λ (c' : Call). Made c' reply made) (sym asks) m) l c
  step (Resting again) next call replies.Done made rest asks m l c =
      let m' : Made calls.Pause replies.Done made = subst (λ (c' : Call). Made c' replies.Done made) (sym asks) m in
      let paced : Paced rest = subst (λ (n : LockStage). Comes n rest) l c in
      subst (λ (xs : List LogItem). Rested (xs ++ rest)) (sym m'.1) (record { paced = (λ e. absurd (false≢true e), paced); first = refl })
  step (Resting again) next call reply made rest asks m l c =
      let m' : Made calls.Pause reply made = subst (λ (c' : Call). Made c' reply made) (sym asks) m in
      gives_rested next made rest (no_try me calls.Pause reply made tt m'.1) l c
  step Inside Inside call reply made rest asks m l c = none_more made rest (no_try me call reply made (alone_no_try root key call asks) m.1) c
  step Inside (Over given) call reply made rest asks m l c = none_more made rest (no_try me call reply made (alone_no_try root key call asks) m.1) c
  step Inside next call reply made rest asks m l c = absurd l
  step (Over given) next call reply made rest asks m l c =
      none_more made rest (no_try me call reply made (looking_no_try call asks) m.1) (subst (λ (n : LockStage). Comes n rest) l c)

  last_comes : (s : LockStage) (answer ended : Answer) → AsksIn root key s (Done answer) → Comes s (items.End me ended ∷ [])
  last_comes (Over given) answer ended asks = refl
  last_comes s answer ended asks = absurd asks

  comes_from : (m last : FolderPut) (xs : List Exchange) (answer ended : Answer) → IsOf me root key m → Runs asks_put asked_put FedPut me m xs answer last → Comes (lock_stage m.phase) (items_of_all xs ++ items.End me ended ∷ [])
  comes_from m last [] answer ended of run = last_comes (lock_stage m.phase) answer ended (subst (AsksIn root key (lock_stage m.phase)) run.0 (asks_of me root key m of))
  comes_from m last (x ∷ xs) answer ended of run =
      let n = run.3.0 in
      let more = comes_from n last xs answer ended (still_of me root key m n x.reply of run.3.1) run.3.2 in
      subst (Comes (lock_stage m.phase)) (sym (append_assoc x.items (items_of_all xs) (items.End me ended ∷ [])))
      (step (lock_stage m.phase) (lock_stage n.phase) x.call x.reply x.items (items_of_all xs ++ items.End me ended ∷ []) (subst (AsksIn root key (lock_stage m.phase)) run.0 (asks_of me root key m of)) (run.1, run.2) (leads_of me root key m n x.call x.reply run.0 run.1 run.3.1) more)

  -- from its Begin to its End
  pub pauses_between : (m last : FolderPut) (request : Request) (xs : List Exchange) (answer ended : Answer) → IsOf me root key m → m.phase ≡ Opening First → Runs asks_put asked_put FedPut me m xs answer last → PausesBetweenTries (items.Begin me request ∷ (items_of_all xs ++ items.End me ended ∷ []))
  pauses_between m last request xs answer ended of opening run =
      let paced : Paced (items_of_all xs ++ items.End me ended ∷ []) = subst (λ (p : PutPhase). Comes (lock_stage p) (items_of_all xs ++ items.End me ended ∷ [])) opening (comes_from m last xs answer ended of run) in
      paced_pauses (items.Begin me request ∷ (items_of_all xs ++ items.End me ended ∷ [])) (λ e. absurd (false≢true e), paced)
