-- A put keeps a blob only where it read the entry, and what it read is an item of the driver.
use Rattle.std.proofs.Common.{◌≡◌, ◌⊎◌, inl, inr, ℕ, true, List, [], ◌∷◌, ◌++◌, refl, sym, ap, ◌∙◌, subst, append_assoc}
use Rattle.cache_types.specs.Driver.{DriverKeys}
use Rattle.cache_types.specs.declared.answer.Answer.{Answer}
use Rattle.cache_types.specs.declared.answer.Answer.TheVariants as answers
use Rattle.cache_types.specs.declared.key.Key.{Key}
use Rattle.cache_types.specs.declared.name.Name.TheVariants.{Entry}
use Rattle.cache_types.specs.declared.request.Request.{Request}
use Rattle.cache_types.specs.declared.seat.Who.{Who}
use Rattle.file_log.specs.declared.call.Call.{Call}
use Rattle.file_log.specs.declared.call.Call.TheVariants as calls
use Rattle.file_log.specs.declared.item.LogItem.{LogItem}
use Rattle.file_log.specs.declared.item.LogItem.TheVariants as items
use Rattle.file_log.specs.declared.reply.Reply.{Reply}
use Rattle.file_log.specs.declared.reply.Reply.TheVariants as replies
use Rattle.file_log.specs.Exchange.{Answers, Makes, Exchange}
use Rattle.files_api.specs.declared.machine.Step.{Step}
use Rattle.files_api.specs.declared.machine.Step.TheVariants.{Ask, Done}
use Rattle.files_api.specs.Drive.{Runs, items_of_all}
use Rattle.item_frame.specs.Item.{IsItem}
use Rattle.folder_store.specs.declared.put.FolderPut.{FolderPut}
use Rattle.folder_store.specs.declared.put_phase.Look.TheVariants.{First}
use Rattle.folder_store.specs.declared.put_phase.PutPhase.{PutPhase}
use Rattle.folder_store.specs.declared.put_phase.PutPhase.TheVariants.{Opening}
use Rattle.folder_store.specs.PutPhases.{asks_put, asked_put, FedPut}
use Rattle.folder_store.specs.Readings.{Yields, ReadsItem}
use Rattle.folder_store.proofs.LockTries.{IsOf, still_of, open_later}
use Rattle.folder_store.proofs.PutCalls.{put_next_of}
use Rattle.folder_store.proofs.PutCourse.{Course, Seeking, Looking, Measured, Aside, Starting, Filling, Placing, Settled, course, AsksOn, course_asks, IsGivenUp, GoesOff, GoesAside, FillsOn, Leads, course_leads}
use Rattle.folder_store.proofs.PutSteps.{AnswersIn}

-- what a put of this key asks in its course
pub course_asks_of : (me : Who) (root : ℕ) (key : Key) (m : FolderPut) → IsOf me root key m → AsksOn root key (course m.phase) (asks_put m)
course_asks_of me root key m of =
    let here = course_asks m.root m.key m.item m.phase in
    let at_root = subst (λ (r : ℕ). AsksOn r m.key (course m.phase) (asks_put m)) of.root_is here in
    subst (λ (k : Key). AsksOn root k (course m.phase) (asks_put m)) of.key_is at_root

-- and where a reply leads it
pub course_leads_of : (m n : FolderPut) (call : Call) (reply : Reply) → asks_put m ≡ Ask call → Answers true call reply → FedPut (asked_put m) reply n → Leads m.driver (course m.phase) reply (course n.phase)
course_leads_of m n call reply e fits fed =
    course_leads m.root m.key m.item m.driver m.phase reply n.phase (subst (λ (s : Step). AnswersIn s reply) (sym e) fits) (put_next_of m n m.phase reply refl fed)

module _ (me : Who) (root : ℕ) (driver : DriverKeys) (key : Key) (answer : Answer) where
  abbrev IsRead : List LogItem → Type 0
  IsRead made = ReadsItem root driver key made

  read_later : (xs made : List LogItem) → IsRead made → IsRead (xs ++ made)
  read_later xs made r = record {
    before = xs ++ r.before;
    reading = r.reading;
    later = r.later;
    made_are = ap (λ (l : List LogItem). xs ++ l) r.made_are ∙ sym (append_assoc xs r.before (r.reading ++ r.later));
    slot = r.slot;
    entry = open_later me root key r.slot (Entry root key) xs r.before r.entry;
    bytes = r.bytes;
    yields = r.yields;
    item = r.item;
  }

  read_front : (made ys : List LogItem) → IsRead made → IsRead (made ++ ys)
  read_front made ys r = record {
    before = r.before;
    reading = r.reading;
    later = r.later ++ ys;
    made_are = ap (λ (l : List LogItem). l ++ ys) r.made_are ∙ append_assoc r.before (r.reading ++ r.later) ys ∙ ap (λ (l : List LogItem). r.before ++ l) (append_assoc r.reading r.later ys);
    slot = r.slot;
    entry = r.entry;
    bytes = r.bytes;
    yields = r.yields;
    item = r.item;
  }

  -- ---- what is still read

  -- the file in slot 1 is read, and is an item
  record ReadsOpen (made : List LogItem) : Type 0 where
    pub reading : List LogItem
    pub later : List LogItem
    pub made_are : made ≡ reading ++ later
    pub bytes : List ℕ
    pub yields : Yields 1 bytes reading
    pub item : IsItem driver bytes

  -- so many bytes of it are
  record Gets (n : ℕ) (made : List LogItem) : Type 0 where
    pub bytes : List ℕ
    pub later : List LogItem
    pub made_are : made ≡ items.Did me (calls.ReadAt 1 0 n) (replies.Got bytes) ∷ later
    pub item : IsItem driver bytes

  abbrev Seeks : List LogItem → Type 0
  Seeks made = answer ≡ answers.Kept → IsRead made

  abbrev Left : Course → List LogItem → Type 0
  Left Looking made = answer ≡ answers.Kept → IsRead made ⊎ ReadsOpen made
  Left (Measured n) made = answer ≡ answers.Kept → IsRead made ⊎ Gets n made
  Left (Settled given) made = answer ≡ given
  Left c made = Seeks made

  -- ---- one call more

  module _ (made rest : List LogItem) where
    seeks_more : Seeks rest → Seeks (made ++ rest)
    seeks_more s = λ e. read_later made rest (s e)

    given_up : (given : Answer) → IsGivenUp given → answer ≡ given → Seeks rest
    given_up given up same = λ e. absurd (subst IsGivenUp (sym same ∙ e) up)

    failed_seeks : (given : Answer) (next : Course) → IsGivenUp given → next ≡ Settled given → Left next rest → Seeks rest
    failed_seeks given next up l k = given_up given up (subst (λ (c : Course). Left c rest) l k)

    off_seeks : (next : Course) → GoesOff next → Left next rest → Seeks rest
    off_seeks Aside g k = k
    off_seeks Starting g k = k
    off_seeks next g k = absurd g

    aside_seeks : (next : Course) → GoesAside next → Left next rest → Seeks rest
    aside_seeks Aside g k = k
    aside_seeks Starting g k = k
    aside_seeks Seeking g k = k
    aside_seeks (Settled given) g k = given_up given g k
    aside_seeks next g k = absurd g

    fills_seeks : (next : Course) → FillsOn next → Left next rest → Seeks rest
    fills_seeks Filling g k = k
    fills_seeks Placing g k = k
    fills_seeks next g k = absurd g

    -- it ended for want of memory, or in a fault
    fails : (next : Course) → next ≡ Settled answers.FilesFault → Left next rest → Seeks (made ++ rest)
    fails next l k = seeks_more (failed_seeks answers.FilesFault next tt l k)

    lacks : (next : Course) → next ≡ Settled answers.NoMemory → Left next rest → Seeks (made ++ rest)
    lacks next l k = seeks_more (failed_seeks answers.NoMemory next tt l k)

  -- the entry was opened
  opened : (rest : List LogItem) → Left Looking rest → Seeks (items.Did me (calls.OpenOld 1 (Entry root key)) replies.Done ∷ rest)
  opened rest k = λ e. elim (k e) [
    | inl r ↦ read_later (items.Did me (calls.OpenOld 1 (Entry root key)) replies.Done ∷ []) rest r
    | inr o ↦
        let x : LogItem = items.Did me (calls.OpenOld 1 (Entry root key)) replies.Done in
        record {
          before = x ∷ [];
          reading = o.reading;
          later = o.later;
          made_are = ap (λ (l : List LogItem). x ∷ l) o.made_are;
          slot = 1;
          entry = record { before = []; opening = x; since = []; made_are = refl; opens = (refl, refl); meanwhile = refl };
          bytes = o.bytes;
          yields = o.yields;
          item = o.item;
        }
  ]

  -- its length was told
  told : (n : ℕ) (rest : List LogItem) → Left (Measured n) rest → Left Looking (items.Did me (calls.Length 1) (replies.Number n) ∷ rest)
  told n rest k = λ e. elim (k e) [
    | inl r ↦ inl (read_later (items.Did me (calls.Length 1) (replies.Number n) ∷ []) rest r)
    | inr g ↦
        let x : LogItem = items.Did me (calls.Length 1) (replies.Number n) in
        let y : LogItem = items.Did me (calls.ReadAt 1 0 n) (replies.Got g.bytes) in
        inr (record {
          reading = x ∷ (y ∷ []);
          later = g.later;
          made_are = ap (λ (l : List LogItem). x ∷ l) g.made_are;
          bytes = g.bytes;
          yields = record { who = me; n = n; between = []; made_are = refl; meanwhile = refl };
          item = g.item;
        })
  ]

  abbrev Made : Call → Reply → List LogItem → Type 0
  Made call reply made = Answers true call reply × Makes me true call reply made

  step : (now next : Course) (call : Call) (reply : Reply) (made rest : List LogItem) → AsksOn root key now (Ask call) → Made call reply made → Leads driver now reply next → Left next rest → Left now (made ++ rest)
  step (Settled given) next call reply made rest asks m l k = subst (λ (c : Course). Left c rest) l k
  step Seeking next call replies.Failed made rest asks m l k = fails made rest next l k
  step Seeking next call replies.NoMemory made rest asks m l k = lacks made rest next l k
  step Seeking next call replies.Done made rest asks m l k =
      let m' : Made (calls.OpenOld 1 (Entry root key)) replies.Done made = subst (λ (c : Call). Made c replies.Done made) (sym asks) m in
      subst (λ (xs : List LogItem). Seeks (xs ++ rest)) (sym m'.1) (opened rest (subst (λ (c : Course). Left c rest) l k))
  step Seeking next call replies.Missing made rest asks m l k = seeks_more made rest (off_seeks made rest next l k)
  step Seeking next call reply made rest asks m l k = absurd l
  step Looking next call replies.Failed made rest asks m l k = λ e. inl (fails made rest next l k e)
  step Looking next call replies.NoMemory made rest asks m l k = λ e. inl (lacks made rest next l k e)
  step Looking next call (replies.Number n) made rest asks m (inl l) k =
      let m' : Made (calls.Length 1) (replies.Number n) made = subst (λ (c : Call). Made c (replies.Number n) made) (sym asks) m in
      subst (λ (xs : List LogItem). Left Looking (xs ++ rest)) (sym m'.1) (told n rest (subst (λ (c : Course). Left c rest) l k))
  step Looking next call (replies.Number n) made rest asks m (inr l) k = λ e. inl (seeks_more made rest (subst (λ (c : Course). Left c rest) l k) e)
  step Looking next call reply made rest asks m l k = absurd l
  step (Measured n) next call replies.Failed made rest asks m l k = λ e. inl (fails made rest next l k e)
  step (Measured n) next call replies.NoMemory made rest asks m l k = λ e. inl (lacks made rest next l k e)
  step (Measured n) next call (replies.Got bytes) made rest asks m (inl l) k =
      let m' : Made (calls.ReadAt 1 0 n) (replies.Got bytes) made = subst (λ (c : Call). Made c (replies.Got bytes) made) (sym asks) m in
      λ e. inr (record { bytes = bytes; later = rest; made_are = ap (λ (xs : List LogItem). xs ++ rest) m'.1; item = l.0 })
  step (Measured n) next call (replies.Got bytes) made rest asks m (inr l) k = λ e. inl (seeks_more made rest (off_seeks made rest next l k) e)
  step (Measured n) next call reply made rest asks m l k = absurd l
  step Aside next call replies.Failed made rest asks m l k = fails made rest next l k
  step Aside next call replies.NoMemory made rest asks m l k = lacks made rest next l k
  step Aside next call reply made rest asks m l k = seeks_more made rest (aside_seeks made rest next l k)
  step Starting next call replies.Failed made rest asks m l k = fails made rest next l k
  step Starting next call replies.NoMemory made rest asks m l k = lacks made rest next l k
  step Starting next call replies.Done made rest asks m l k = seeks_more made rest (subst (λ (c : Course). Left c rest) l k)
  step Starting next call reply made rest asks m l k = absurd l
  step Filling next call replies.Failed made rest asks m l k = fails made rest next l k
  step Filling next call replies.NoMemory made rest asks m l k = lacks made rest next l k
  step Filling next call replies.Done made rest asks m l k = seeks_more made rest (fills_seeks made rest next l k)
  step Filling next call reply made rest asks m l k = absurd l
  step Placing next call replies.Failed made rest asks m l k = fails made rest next l k
  step Placing next call replies.NoMemory made rest asks m l k = lacks made rest next l k
  step Placing next call replies.Done made rest asks m l k =
      let same : answer ≡ answers.Stored = subst (λ (c : Course). Left c rest) l k in
      λ e. let clash : answers.Stored ≡ answers.Kept = sym same ∙ e in absurd cc
  step Placing next call reply made rest asks m l k = absurd l

  last_left : (c : Course) → AsksOn root key c (Done answer) → Left c []
  last_left (Settled given) asks = sym asks
  last_left c asks = absurd asks

  left_from : (m last : FolderPut) (xs : List Exchange) → IsOf me root key m → m.driver ≡ driver → Runs asks_put asked_put FedPut me m xs answer last → Left (course m.phase) (items_of_all xs)
  left_from m last [] of same run = last_left (course m.phase) (subst (AsksOn root key (course m.phase)) run.0 (course_asks_of me root key m of))
  left_from m last (x ∷ xs) of same run =
      let n = run.3.0 in
      let leads = subst (λ (d : DriverKeys). Leads d (course m.phase) x.reply (course n.phase)) same (course_leads_of m n x.call x.reply run.0 run.1 run.3.1) in
      let still : n.driver ≡ driver = ap (λ (y : FolderPut). y.driver) run.3.1.1 ∙ same in
      step (course m.phase) (course n.phase) x.call x.reply x.items (items_of_all xs) (subst (AsksOn root key (course m.phase)) run.0 (course_asks_of me root key m of)) (run.1, run.2) leads
      (left_from n last xs (still_of me root key m n x.reply of run.3.1) still run.3.2)

  -- from its Begin to its End
  pub put_reads : (m last : FolderPut) (request : Request) (xs : List Exchange) (ended : Answer) → IsOf me root key m → m.driver ≡ driver → m.phase ≡ Opening First → Runs asks_put asked_put FedPut me m xs answer last → answer ≡ answers.Kept
      → ReadsItem root driver key (items.Begin me request ∷ (items_of_all xs ++ items.End me ended ∷ []))
  put_reads m last request xs ended of same opening run e =
      let seeks : Seeks (items_of_all xs) = subst (λ (p : PutPhase). Left (course p) (items_of_all xs)) opening (left_from m last xs of same run) in
      read_later (items.Begin me request ∷ []) (items_of_all xs ++ items.End me ended ∷ []) (read_front (items_of_all xs) (items.End me ended ∷ []) (seeks e))
