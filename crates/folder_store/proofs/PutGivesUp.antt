-- A put stores exactly where it gives its temporary file the entry's name.
use Rattle.std.proofs.Common.{◌≡◌, inl, inr, ℕ, ◌+◌, Bool, true, false, cond, nat_eq, List, [], ◌∷◌, ◌++◌, length, take, refl, sym, ap, ◌∙◌, subst}
use Rattle.std.specs.List.{list_any}
use Rattle.std.proofs.lemmas.Bool.{false≢true}
use Rattle.std.proofs.lemmas.List.Folds.{list_any-append}
use Rattle.cache_types.specs.Driver.{DriverKeys}
use Rattle.cache_types.specs.declared.answer.Answer.{Answer}
use Rattle.cache_types.specs.declared.answer.Answer.TheVariants as answers
use Rattle.cache_types.specs.declared.key.Key.{Key}
use Rattle.cache_types.specs.declared.name.Name.TheVariants.{Entry, Temp}
use Rattle.cache_types.specs.declared.request.Request.{Request}
use Rattle.cache_types.specs.declared.seat.Who.{Who}
use Rattle.file_log.specs.declared.call.Call.{Call}
use Rattle.file_log.specs.declared.call.Call.TheVariants as calls
use Rattle.file_log.specs.declared.item.LogItem.{LogItem}
use Rattle.file_log.specs.declared.item.LogItem.TheVariants as items
use Rattle.file_log.specs.declared.note.Note.TheVariants as notes
use Rattle.file_log.specs.declared.reply.Reply.{Reply}
use Rattle.file_log.specs.declared.reply.Reply.TheVariants as replies
use Rattle.file_log.specs.Exchange.{Answers, Makes, Exchange, byte_items}
use Rattle.files_api.specs.declared.machine.Step.TheVariants.{Ask, Done}
use Rattle.files_api.specs.Drive.{Runs, items_of_all}
use Rattle.seat_rules.specs.Changes.{is_rename}
use Rattle.folder_store.specs.declared.put.FolderPut.{FolderPut}
use Rattle.folder_store.specs.declared.put_phase.Look.TheVariants.{First}
use Rattle.folder_store.specs.declared.put_phase.PutPhase.{PutPhase}
use Rattle.folder_store.specs.declared.put_phase.PutPhase.TheVariants.{Opening}
use Rattle.folder_store.specs.OwnChanges.{is_change, is_want, has_placed, GivesUp}
use Rattle.folder_store.specs.PutPhases.{asks_put, asked_put, FedPut}
use Rattle.folder_store.proofs.LockTries.{IsOf, still_of}
use Rattle.folder_store.proofs.Operations.{any_inside}
use Rattle.folder_store.proofs.PutCourse.{Course, Seeking, Looking, Measured, Aside, Starting, Filling, Placing, Settled, course, AsksOn, IsAside, IsFilling, IsClosing, IsGivenUp, GoesOff, GoesAside, FillsOn, Leads}
use Rattle.folder_store.proofs.PutDisks.{same_self}
use Rattle.folder_store.proofs.PutReadings.{course_asks_of, course_leads_of}

module _ (root : ℕ) (key : Key) where
  abbrev placed : List LogItem → Bool
  placed made = has_placed root key made

  -- it stored exactly where these items placed the temporary file
  pub record Places (answer : Answer) (made : List LogItem) : Type 0 where
    pub stored : answer ≡ answers.Stored → placed made ≡ true
    pub only : placed made ≡ true → answer ≡ answers.Stored

  pub gives_up : (answer : Answer) (made : List LogItem) → Places answer made → (answer ≡ answers.NoMemory → list_any is_change made ≡ true → list_any is_want made ≡ true) → GivesUp root key answer made
  gives_up answers.Stored made p want = p.stored refl
  gives_up answers.NoMemory made p want = (by_test (placed made) refl, want refl)
    where
      by_test : (b : Bool) → placed made ≡ b → placed made ≡ false
      by_test true e = let clash : answers.NoMemory ≡ answers.Stored = p.only e in absurd cc
      by_test false e = e
  gives_up answer made p want = by_test (placed made) refl
    where
      by_test : (b : Bool) → placed made ≡ b → placed made ≡ false
      by_test true e = let clash : answer ≡ answers.Stored = p.only e in absurd cc
      by_test false e = e

  -- an operation that made none, and found no memory
  pub never_places : (answer : Answer) (made : List LogItem) → answer ≡ answers.NoMemory → placed made ≡ false → Places answer made
  never_places answer made e none = record {
    stored = λ s. let clash : answers.NoMemory ≡ answers.Stored = sym e ∙ s in absurd cc;
    only = λ some. absurd (false≢true (sym none ∙ some));
  }

  -- ---- calls that rename nothing

  abbrev IsNoRename : Call → Type 0
  IsNoRename (calls.Rename from to) = ⊥
  IsNoRename call = Unit {0}

  none_bytes : (me : Who) (slot at : ℕ) (bytes : List ℕ) → placed (byte_items me slot at bytes) ≡ false
  none_bytes me slot at [] = refl
  none_bytes me slot at (value ∷ bytes) = none_bytes me slot (at + 1) bytes

  none_more : (xs ys : List LogItem) → placed xs ≡ false → placed ys ≡ false → placed (xs ++ ys) ≡ false
  none_more xs ys a b = list_any-append (is_rename (Temp root key) (Entry root key)) xs ys ∙ rw (a, b) refl

  none_placed : (me : Who) (call : Call) (reply : Reply) (made : List LogItem) → IsNoRename call → Makes me true call reply made → placed made ≡ false
  none_placed me (calls.Rename from to) reply made other ms = absurd other
  none_placed me (calls.WriteAt slot at bytes) replies.Done made other ms = ap placed ms ∙ by_length (nat_eq (length bytes) 0)
    where
      by_length : (b : Bool) → placed (cond b (items.Did me (calls.WriteAt slot at bytes) replies.Done ∷ []) (byte_items me slot at bytes)) ≡ false
      by_length true = refl
      by_length false = none_bytes me slot at bytes
  none_placed me (calls.WriteAt slot at bytes) replies.Failed made other ms = ap placed ms.1 ∙ none_more (byte_items me slot at (take ms.0 bytes)) (items.Failed me false ∷ []) (none_bytes me slot at (take ms.0 bytes)) refl
  none_placed me (calls.WriteAt slot at bytes) replies.NoMemory made other ms = ap placed ms.1 ∙ none_more (byte_items me slot at (take ms.0 bytes)) (items.Failed me true ∷ []) (none_bytes me slot at (take ms.0 bytes)) refl
  none_placed me (calls.Tell (notes.Begin request)) replies.Done made other ms = ap placed ms
  none_placed me (calls.Tell (notes.Evict store driver key')) replies.Done made other ms = ap placed ms
  none_placed me (calls.Tell (notes.End answer)) replies.Done made other ms = ap placed ms
  none_placed me call replies.Done made other ms = ap placed ms
  none_placed me call replies.Failed made other ms = ap placed ms.1
  none_placed me call replies.NoMemory made other ms = ap placed ms.1
  none_placed me call reply made other ms = ap placed ms

  aside_no_rename : (call : Call) → IsAside root key call → IsNoRename call
  aside_no_rename (calls.Rename from to) a = absurd a
  aside_no_rename call a = tt

  filling_no_rename : (call : Call) → IsFilling call → IsNoRename call
  filling_no_rename (calls.Rename from to) a = absurd a
  filling_no_rename call a = tt

  closing_no_rename : (call : Call) → IsClosing call → IsNoRename call
  closing_no_rename (calls.Rename from to) a = absurd a
  closing_no_rename call a = tt

  module _ (me : Who) (driver : DriverKeys) (answer : Answer) where
    -- ---- along a run

    -- its answer stands fast, and nothing more is placed
    pub record Stands (given : Answer) (made : List LogItem) : Type 0 where
      pub same : answer ≡ given
      pub none : placed made ≡ false

    abbrev Left : Course → List LogItem → Type 0
    Left (Settled given) made = Stands given made
    Left c made = Places answer made

    abbrev Made : Call → Reply → List LogItem → Type 0
    Made call reply made = Answers true call reply × Makes me true call reply made

    module _ (made rest : List LogItem) where
      joined : placed made ≡ false → placed (made ++ rest) ≡ placed rest
      joined none = list_any-append (is_rename (Temp root key) (Entry root key)) made rest ∙ rw none refl

      places_more : placed made ≡ false → Places answer rest → Places answer (made ++ rest)
      places_more none p = record { stored = λ e. joined none ∙ p.stored e; only = λ some. p.only (sym (joined none) ∙ some) }

      given_up : (given : Answer) → (given ≡ answers.Stored → ⊥) → Stands given rest → Places answer rest
      given_up given other s = record { stored = λ e. absurd (other (sym s.same ∙ e)); only = λ some. absurd (false≢true (sym s.none ∙ some)) }

      settled : (given : Answer) (next : Course) → (given ≡ answers.Stored → ⊥) → next ≡ Settled given → Left next rest → Places answer rest
      settled given next other l k = given_up given other (subst (λ (c : Course). Left c rest) l k)

      fails : (next : Course) → placed made ≡ false → next ≡ Settled answers.FilesFault → Left next rest → Places answer (made ++ rest)
      fails next none l k = places_more none (settled answers.FilesFault next (λ e. absurd cc) l k)

      lacks : (next : Course) → placed made ≡ false → next ≡ Settled answers.NoMemory → Left next rest → Places answer (made ++ rest)
      lacks next none l k = places_more none (settled answers.NoMemory next (λ e. absurd cc) l k)

      off_places : (next : Course) → GoesOff next → Left next rest → Places answer rest
      off_places Aside g k = k
      off_places Starting g k = k
      off_places next g k = absurd g

      up_no_stored : (given : Answer) → IsGivenUp given → given ≡ answers.Stored → ⊥
      up_no_stored given up e = subst IsGivenUp e up

      aside_places : (next : Course) → GoesAside next → Left next rest → Places answer rest
      aside_places Aside g k = k
      aside_places Starting g k = k
      aside_places Seeking g k = k
      aside_places (Settled given) g k = given_up given (up_no_stored given g) k
      aside_places next g k = absurd g

      fills_places : (next : Course) → FillsOn next → Left next rest → Places answer rest
      fills_places Filling g k = k
      fills_places Placing g k = k
      fills_places next g k = absurd g

    -- the renaming is what stores
    renamed : (rest : List LogItem) → Stands answers.Stored rest → Places answer (items.Did me (calls.Rename (Temp root key) (Entry root key)) replies.Done ∷ rest)
    renamed rest s = record { stored = λ e. rw (same_self (Temp root key), same_self (Entry root key)) refl; only = λ some. s.same }

    step : (now next : Course) (call : Call) (reply : Reply) (made rest : List LogItem) → AsksOn root key now (Ask call) → Made call reply made → Leads driver now reply next → Left next rest → Left now (made ++ rest)
    step (Settled given) next call reply made rest asks m l k =
        let s : Stands given rest = subst (λ (c : Course). Left c rest) l k in
        record { same = s.same; none = none_more made rest (none_placed me call reply made (closing_no_rename call asks) m.1) s.none }
    step Seeking next call replies.Failed made rest asks m l k = fails made rest next (none_placed me call replies.Failed made (subst IsNoRename asks tt) m.1) l k
    step Seeking next call replies.NoMemory made rest asks m l k = lacks made rest next (none_placed me call replies.NoMemory made (subst IsNoRename asks tt) m.1) l k
    step Seeking next call replies.Done made rest asks m l k = places_more made rest (none_placed me call replies.Done made (subst IsNoRename asks tt) m.1) (subst (λ (c : Course). Left c rest) l k)
    step Seeking next call replies.Missing made rest asks m l k = places_more made rest (none_placed me call replies.Missing made (subst IsNoRename asks tt) m.1) (off_places made rest next l k)
    step Seeking next call reply made rest asks m l k = absurd l
    step Looking next call replies.Failed made rest asks m l k = fails made rest next (none_placed me call replies.Failed made (subst IsNoRename asks tt) m.1) l k
    step Looking next call replies.NoMemory made rest asks m l k = lacks made rest next (none_placed me call replies.NoMemory made (subst IsNoRename asks tt) m.1) l k
    step Looking next call (replies.Number n) made rest asks m (inl l) k = places_more made rest (none_placed me call (replies.Number n) made (subst IsNoRename asks tt) m.1) (subst (λ (c : Course). Left c rest) l k)
    step Looking next call (replies.Number n) made rest asks m (inr l) k = places_more made rest (none_placed me call (replies.Number n) made (subst IsNoRename asks tt) m.1) (subst (λ (c : Course). Left c rest) l k)
    step Looking next call reply made rest asks m l k = absurd l
    step (Measured n) next call replies.Failed made rest asks m l k = fails made rest next (none_placed me call replies.Failed made (subst IsNoRename asks tt) m.1) l k
    step (Measured n) next call replies.NoMemory made rest asks m l k = lacks made rest next (none_placed me call replies.NoMemory made (subst IsNoRename asks tt) m.1) l k
    step (Measured n) next call (replies.Got bytes) made rest asks m (inl l) k = places_more made rest (none_placed me call (replies.Got bytes) made (subst IsNoRename asks tt) m.1) (settled made rest answers.Kept next (λ e. absurd cc) l.1 k)
    step (Measured n) next call (replies.Got bytes) made rest asks m (inr l) k = places_more made rest (none_placed me call (replies.Got bytes) made (subst IsNoRename asks tt) m.1) (off_places made rest next l k)
    step (Measured n) next call reply made rest asks m l k = absurd l
    step Aside next call replies.Failed made rest asks m l k = fails made rest next (none_placed me call replies.Failed made (aside_no_rename call asks) m.1) l k
    step Aside next call replies.NoMemory made rest asks m l k = lacks made rest next (none_placed me call replies.NoMemory made (aside_no_rename call asks) m.1) l k
    step Aside next call reply made rest asks m l k = places_more made rest (none_placed me call reply made (aside_no_rename call asks) m.1) (aside_places made rest next l k)
    step Starting next call replies.Failed made rest asks m l k = fails made rest next (none_placed me call replies.Failed made (subst IsNoRename asks tt) m.1) l k
    step Starting next call replies.NoMemory made rest asks m l k = lacks made rest next (none_placed me call replies.NoMemory made (subst IsNoRename asks tt) m.1) l k
    step Starting next call replies.Done made rest asks m l k = places_more made rest (none_placed me call replies.Done made (subst IsNoRename asks tt) m.1) (subst (λ (c : Course). Left c rest) l k)
    step Starting next call reply made rest asks m l k = absurd l
    step Filling next call replies.Failed made rest asks m l k = fails made rest next (none_placed me call replies.Failed made (filling_no_rename call asks) m.1) l k
    step Filling next call replies.NoMemory made rest asks m l k = lacks made rest next (none_placed me call replies.NoMemory made (filling_no_rename call asks) m.1) l k
    step Filling next call replies.Done made rest asks m l k = places_more made rest (none_placed me call replies.Done made (filling_no_rename call asks) m.1) (fills_places made rest next l k)
    step Filling next call reply made rest asks m l k = absurd l
    step Placing next call replies.Failed made rest asks m l k =
        let m' : Made (calls.Rename (Temp root key) (Entry root key)) replies.Failed made = subst (λ (c : Call). Made c replies.Failed made) (sym asks) m in
        fails made rest next (ap placed m'.1.1) l k
    step Placing next call replies.NoMemory made rest asks m l k =
        let m' : Made (calls.Rename (Temp root key) (Entry root key)) replies.NoMemory made = subst (λ (c : Call). Made c replies.NoMemory made) (sym asks) m in
        lacks made rest next (ap placed m'.1.1) l k
    step Placing next call replies.Done made rest asks m l k =
        let m' : Made (calls.Rename (Temp root key) (Entry root key)) replies.Done made = subst (λ (c : Call). Made c replies.Done made) (sym asks) m in
        subst (λ (xs : List LogItem). Places answer (xs ++ rest)) (sym m'.1) (renamed rest (subst (λ (c : Course). Left c rest) l k))
    step Placing next call reply made rest asks m l k = absurd l

    last_left : (c : Course) → AsksOn root key c (Done answer) → Left c []
    last_left (Settled given) asks = record { same = sym asks; none = refl }
    last_left c asks = absurd asks

    left_from : (m last : FolderPut) (xs : List Exchange) → IsOf me root key m → m.driver ≡ driver → Runs asks_put asked_put FedPut me m xs answer last → Left (course m.phase) (items_of_all xs)
    left_from m last [] of same run = last_left (course m.phase) (subst (AsksOn root key (course m.phase)) run.0 (course_asks_of me root key m of))
    left_from m last (x ∷ xs) of same run =
        let n = run.3.0 in
        let leads = subst (λ (d : DriverKeys). Leads d (course m.phase) x.reply (course n.phase)) same (course_leads_of m n x.call x.reply run.0 run.1 run.3.1) in
        let still : n.driver ≡ driver = ap (λ (y : FolderPut). y.driver) run.3.1.1 ∙ same in
        step (course m.phase) (course n.phase) x.call x.reply x.items (items_of_all xs) (subst (AsksOn root key (course m.phase)) run.0 (course_asks_of me root key m of)) (run.1, run.2) leads
        (left_from n last xs (still_of me root key m n x.reply of run.3.1) still run.3.2)

    -- from its Begin to its End
    pub put_places : (m last : FolderPut) (request : Request) (xs : List Exchange) (ended : Answer) → IsOf me root key m → m.driver ≡ driver → m.phase ≡ Opening First → Runs asks_put asked_put FedPut me m xs answer last
        → Places answer (items.Begin me request ∷ (items_of_all xs ++ items.End me ended ∷ []))
    put_places m last request xs ended of same opening run =
        let p : Places answer (items_of_all xs) = subst (λ (phase : PutPhase). Left (course phase) (items_of_all xs)) opening (left_from m last xs of same run) in
        let e : placed (items.Begin me request ∷ (items_of_all xs ++ items.End me ended ∷ [])) ≡ placed (items_of_all xs) = any_inside (is_rename (Temp root key) (Entry root key)) me request ended (items_of_all xs) refl refl in
        record { stored = λ s. e ∙ p.stored s; only = λ some. p.only (sym e ∙ some) }
