-- A lookup along the log, between its calls and within one: its own items keep the rules among seats.
use Rattle.std.proofs.Common.{◌≡◌, ◌<◌, inl, inr, ℕ, Bool, true, false, List, [], ◌∷◌, length, take, drop, Option, Some, None, refl, sym, ap, subst, ◌∙◌, arith}
use Rattle.std.specs.List.{AllByRecursion}
use Rattle.std.specs.Prelude.{IsSomeAnd}
use Rattle.cache_types.specs.Driver.{DriverKeys, IsDriver}
use Rattle.cache_types.specs.declared.answer.Answer.{Answer}
use Rattle.cache_types.specs.declared.answer.Answer.TheVariants as answers
use Rattle.cache_types.specs.declared.key.Key.{Key}
use Rattle.cache_types.specs.declared.limits.TheConstants.{MAX_ITEM}
use Rattle.cache_types.specs.declared.name.Name.{Name}
use Rattle.cache_types.specs.declared.name.Name.TheVariants.{Entry}
use Rattle.cache_types.specs.declared.request.Request.{Request}
use Rattle.cache_types.specs.declared.request.RoPlan.{RoPlan}
use Rattle.cache_types.specs.declared.seat.Who.{Who}
use Rattle.file_log.specs.declared.call.Call.{Call}
use Rattle.file_log.specs.declared.call.Call.TheVariants.{OpenOld, Length, ReadAt, Close}
use Rattle.file_log.specs.declared.item.LogItem.{LogItem}
use Rattle.file_log.specs.declared.item.LogItem.TheVariants as items
use Rattle.file_log.specs.declared.reply.Reply.{Reply}
use Rattle.file_log.specs.declared.reply.Reply.TheVariants as replies
use Rattle.file_log.specs.Disk.{Disk, file_of}
use Rattle.file_log.specs.Effect.{applied}
use Rattle.file_log.specs.Exchange.{Makes}
use Rattle.file_log.specs.Log.{History, is_own, is_stop}
use Rattle.file_log.specs.State.{disk_of}
use Rattle.file_log.proofs.All.{seat_self}
use Rattle.files_api.specs.declared.machine.Step.TheVariants.{Ask, Done}
use Rattle.files_api.specs.Drive.{IsEndOf}
use Rattle.files_api.proofs.Weave.{Inductive}
use Rattle.item_frame.specs.Item.{Reads}
use Rattle.item_frame.proofs.Laws.{at_most}
use Rattle.machine_parts.specs.declared.part.After.{After}
use Rattle.machine_parts.specs.declared.reading.Read.{Read}
use Rattle.machine_parts.specs.declared.reading.Reading.{Reading}
use Rattle.machine_parts.specs.declared.whole.Whole.TheVariants.{Going, Closing, Spent}
use Rattle.machine_parts.specs.Ending.{close_at}
use Rattle.machine_parts.specs.Reading.{reading_asks, reading_next}
use Rattle.machine_parts.specs.Slots.{lowest}
use Rattle.machine_parts.proofs.Kept as kept
use Rattle.seat_rules.specs.Changes.{with_item}
use Rattle.seat_rules.specs.Operations.{is_bound}
use Rattle.layout_rules.specs.Rules.{AnswersAreEarned, KeepsRules}
use Rattle.folder_changes.specs.Course.{HasSeen}
use Rattle.folder_changes.specs.Frame.{Leaves}
use Rattle.folder_changes.proofs.Earning.{meets, seen_stays}
use Rattle.folder_changes.proofs.Framing.{others_leave}
use Rattle.folder_store.specs.declared.get.EntryFile.{EntryFile}
use Rattle.folder_store.specs.declared.get.ForDriver.{ForDriver}
use Rattle.folder_store.specs.Finds.{Finds}
use Rattle.folder_store.specs.Gets.{entry_name, JudgesFor, GetPart, FolderGet, part_asks, part_asked, PartFed, part_slots, get_asks, get_asked, GetFed, IsNew}
use Rattle.folder_store.proofs.Calls.{IsLooking, item_for, makes_one, looks, done_is, not_done, new_going}
use Rattle.folder_store.proofs.Finding.{whole_is}
use Rattle.folder_store.proofs.GetKnown.{asked_for, Told, told_then, told_earns}
use Rattle.folder_store.proofs.Keeping.{CanFollow, still_rules, within_inner, within_other, IsIn, in_then, end_rules}
use Rattle.folder_store.proofs.Opened.{HasOpen, opened_now, missing_now, open_then, open_other, in_slot, seen_gives, seen_lacks}
use Rattle.folder_store.proofs.Still.{looking_still}

-- the item of a call that only looks
inner : (me : Who) (call : Call) (reply : Reply) → is_bound (item_for me call reply) ≡ false
inner me call replies.Failed = refl
inner me call replies.NoMemory = refl
inner me call reply = refl

earned : (h : History) (me : Who) (call : Call) (reply : Reply) → AnswersAreEarned h (item_for me call reply)
earned h me call replies.Failed = tt
earned h me call replies.NoMemory = tt
earned h me call reply = tt

module _ (me : Who) (root : ℕ) (driver : DriverKeys) (key : Key) (ro : RoPlan) (fits : IsDriver driver) where
  abbrev this_get : Request
  this_get = asked_for me root driver key ro

  abbrev entry : Name
  entry = Entry root key

  abbrev Open : History → Type 0
  Open h = HasOpen me this_get root key h

  abbrev In : History → Type 0
  In h = IsIn me this_get h

  abbrev Tells : Answer → History → Type 0
  Tells answer h = Told me root driver key ro answer h

  -- ---- what it knows

  -- the entry's file is open, with these bytes
  abbrev Opened : List ℕ → History → Type 0
  Opened bytes h = In h × ((o : Open h) × (o.bytes ≡ bytes))

  -- the entry was seen with these bytes, or without an item of the driver
  abbrev Sees : Option (List ℕ) → History → Type 0
  Sees None h = Tells answers.Miss h
  Sees (Some bytes) h = HasSeen h me this_get (λ d. file_of d entry ≡ Some bytes)

  abbrev Given : Option (List ℕ) → History → Type 0
  Given given h = In h × Sees given h

  abbrev Left : Answer → History → Type 0
  Left answer h = In h × Tells answer h

  -- ---- an item more

  abbrev Own : LogItem → (History → Type 0) → (History → Type 0) → Type 0
  Own x P Q = kept.Own me with_item CanFollow KeepsRules x P Q

  abbrev Lasts : (History → Type 0) → Type 0
  Lasts P = kept.Lasts me with_item CanFollow KeepsRules P

  -- an own call that only looks
  own_look : (call : Call) (reply : Reply) → IsLooking call → Own (item_for me call reply) In In
  own_look call reply look h i legal =
      let x = item_for me call reply in
      let rules : KeepsRules h x = still_rules h x i.order (earned h me call reply) (looking_still me call reply look (disk_of h)) in
      (rules, in_then me this_get h x i (within_inner me x (inner me call reply)) legal rules)

  sees_then : (given : Option (List ℕ)) (h : History) (x : LogItem) → is_bound x ≡ false → Sees given h → Sees given (with_item h x)
  sees_then None h x within s = told_then me root driver key ro answers.Miss h x (within_inner me x within) s
  sees_then (Some bytes) h x within s = seen_stays h x me this_get (λ d. file_of d entry ≡ Some bytes) (within_inner me x within) s

  sees_other : (given : Option (List ℕ)) (h : History) (x : LogItem) → is_own me x ≡ false → Sees given h → Sees given (with_item h x)
  sees_other None h x other s = told_then me root driver key ro answers.Miss h x (within_other me x other) s
  sees_other (Some bytes) h x other s = seen_stays h x me this_get (λ d. file_of d entry ≡ Some bytes) (within_other me x other) s

  failing : (h : History) → In h → Tells answers.FilesFault (with_item h (items.Failed me false))
  failing h i = (meets h (items.Failed me false) me this_get (within_inner me (items.Failed me false) refl)).fails i.inside (seat_self me) refl

  leaves : (h : History) (x : LogItem) → In h → is_own me x ≡ false → is_stop me.process x ≡ false → KeepsRules h x → Leaves h me (applied (disk_of h) x)
  leaves h x i other goes_on rules = others_leave h x me i.order other goes_on rules

  in_lasts : Lasts In
  in_lasts x h i other goes_on legal rules = in_then me this_get h x i (within_other me x other) legal rules

  -- ---- what a reading of the entry's file sees

  opens : Own (items.Did me (OpenOld 1 entry) replies.Done) In (λ h. (bytes : List ℕ) × Opened bytes h)
  opens h i legal =
      let g = own_look (OpenOld 1 entry) replies.Done tt h i legal in
      let o : Open (with_item h (items.Did me (OpenOld 1 entry) replies.Done)) = opened_now me this_get root key h i.inside legal in
      (g.0, (o.bytes, (g.1, (o, refl))))

  lacks : Own (items.Did me (OpenOld 1 entry) replies.Missing) In (Given None)
  lacks h i legal =
      let x : LogItem = items.Did me (OpenOld 1 entry) replies.Missing in
      let g = own_look (OpenOld 1 entry) replies.Missing tt h i legal in
      (g.0, (g.1, seen_lacks me this_get root key driver (with_item h x) None (λ blob reads. reads) (missing_now me this_get root key h i.inside legal)))

  measures : (n : ℕ) (bytes : List ℕ) → Own (items.Did me (Length 1) (replies.Number n)) (Opened bytes) (λ h. (n ≡ length bytes) × Opened bytes h)
  measures n bytes h k legal =
      let x : LogItem = items.Did me (Length 1) (replies.Number n) in
      let o : Open h = k.1.0 in
      let g = own_look (Length 1) (replies.Number n) tt h k.0 legal in
      let len : n ≡ length o.bytes = subst (λ (b : Option (List ℕ)). IsSomeAnd b (λ w. n ≡ length w)) (in_slot me this_get root key h o) legal.1.0.1 in
      let now : Open (with_item h x) = open_then me this_get root key h x (within_inner me x refl) o refl refl in
      (g.0, (len ∙ ap (λ (l : List ℕ). length l) k.1.1, (g.1, (now, k.1.1))))

  takes : (n : ℕ) (got bytes : List ℕ) → Own (items.Did me (ReadAt 1 0 n) (replies.Got got)) (Opened bytes) (λ h. (got ≡ take n bytes) × Opened bytes h)
  takes n got bytes h k legal =
      let x : LogItem = items.Did me (ReadAt 1 0 n) (replies.Got got) in
      let o : Open h = k.1.0 in
      let g = own_look (ReadAt 1 0 n) (replies.Got got) tt h k.0 legal in
      let part : got ≡ take n (drop 0 o.bytes) = subst (λ (b : Option (List ℕ)). IsSomeAnd b (λ w. got ≡ take n (drop 0 w))) (in_slot me this_get root key h o) legal.1.0.1 in
      let now : Open (with_item h x) = open_then me this_get root key h x (within_inner me x refl) o refl refl in
      (g.0, (part ∙ ap (take n) k.1.1, (g.1, (now, k.1.1))))

  long : (bytes : List ℕ) (h : History) → MAX_ITEM < length bytes → Opened bytes h → Given None h
  long bytes h longer k =
      let o : Open h = k.1.0 in
      let more : MAX_ITEM < length o.bytes = subst (λ (l : List ℕ). MAX_ITEM < length l) (sym k.1.1) longer in
      (k.0, seen_lacks me this_get root key driver h (Some o.bytes) (λ blob reads. absurd (omega (arith, more, at_most driver o.bytes blob fits reads))) o.seen)

  whole : (bytes : List ℕ) (h : History) → Opened bytes h → Given (Some bytes) h
  whole bytes h k = (k.0, subst (λ (l : List ℕ). Sees (Some l) h) k.1.1 k.1.0.seen)

  closes : (given : Option (List ℕ)) → Own (items.Did me (Close 1) replies.Done) (Given given) (Given given)
  closes given h k legal =
      let x : LogItem = items.Did me (Close 1) replies.Done in
      let g = own_look (Close 1) replies.Done tt h k.0 legal in
      (g.0, (g.1, sees_then given h x refl k.1))

  fails : Own (items.Failed me false) In (Left answers.FilesFault)
  fails h i legal = let g = own_look (Length 1) replies.Failed tt h i legal in (g.0, (g.1, failing h i))

  wants : Own (items.Failed me true) In (Left answers.NoMemory)
  wants h i legal = let g = own_look (Length 1) replies.NoMemory tt h i legal in (g.0, (g.1, tt))

  opened_lasts : (bytes : List ℕ) → Lasts (Opened bytes)
  opened_lasts bytes x h k other goes_on legal rules =
      let o : Open h = k.1.0 in
      let now : Open (with_item h x) = open_other me this_get root key h x (within_other me x other) (leaves h x k.0 other goes_on rules) o in
      (in_lasts x h k.0 other goes_on legal rules, (now, k.1.1))

  given_lasts : (given : Option (List ℕ)) → Lasts (Given given)
  given_lasts given x h k other goes_on legal rules = (in_lasts x h k.0 other goes_on legal rules, sees_other given h x other k.1)

  left_lasts : (answer : Answer) → Lasts (Left answer)
  left_lasts answer x h k other goes_on legal rules = (in_lasts x h k.0 other goes_on legal rules, told_then me root driver key ro answer h x (within_other me x other) k.1)

  abbrev file : EntryFile
  file = record { root = root; key = key }

  pub sights : kept.Sights me with_item CanFollow KeepsRules 1 MAX_ITEM entry_name file In Opened Given Left
  sights = record {
    opens = opens;
    lacks = lacks;
    measures = measures;
    takes = takes;
    long = long;
    whole = whole;
    closes = closes;
    start_fails = fails;
    start_wants = wants;
    fails = λ bytes h k legal. fails h k.0 legal;
    wants = λ bytes h k legal. wants h k.0 legal;
    starts = in_lasts;
    opened = opened_lasts;
    given = given_lasts;
    left = left_lasts;
  }

  -- ---- what its judge finds

  found : (answer : Answer) (h : History) (bytes : List ℕ) → Sees (Some bytes) h → Finds (Reads driver bytes) answer → Tells answer h
  found (answers.Hit blob) h bytes s finds = seen_gives me this_get root key driver h bytes blob finds s
  found answers.Miss h bytes s finds = seen_lacks me this_get root key driver h (Some bytes) finds s
  found answers.NoMemory h bytes s finds = tt
  found answer h bytes s finds = absurd finds

  abbrev IsOurs : ForDriver → Type 0
  IsOurs judge = judge.driver ≡ driver

  pub finds : (judge : ForDriver) (given : Option (List ℕ)) (answer : Answer) (h : History) → IsOurs judge → Given given h → JudgesFor judge given answer → Left answer h
  finds judge None answer h is k j = subst (λ (a : Answer). Left a h) (sym j) k
  finds judge (Some bytes) answer h is k j = (k.0, found answer h bytes k.1 (subst (λ (d : DriverKeys). Finds (Reads d bytes) answer) is j))

  closing : kept.Closes me with_item CanFollow KeepsRules Left
  closing = record {
    closing = λ answer slot h k legal.
        let g = own_look (Close slot) replies.Done tt h k.0 legal in
        (g.0, (g.1, told_then me root driver key ro answer h (items.Did me (Close slot) replies.Done) (within_inner me (items.Did me (Close slot) replies.Done) refl) k.1));
    lasting = left_lasts;
  }

  -- ---- along a run

  abbrev ReadFed : Reading EntryFile → Reply → After (Reading EntryFile) (Option (List ℕ)) → Type 0
  ReadFed m reply r = r ≡ reading_next MAX_ITEM m reply

  abbrev ReadInv : Reading EntryFile → History → Type 0
  ReadInv m h = kept.ReadInv me with_item CanFollow KeepsRules 1 MAX_ITEM entry_name file In Opened Given Left m h

  abbrev ReadDuring : Reading EntryFile → Reply → List LogItem → History → Type 0
  ReadDuring m reply made h = kept.ReadDuring me with_item CanFollow KeepsRules 1 MAX_ITEM entry_name file In Opened Given Left sights m reply made h

  pub read_keeps : kept.Kept me with_item CanFollow KeepsRules (reading_asks 1 entry_name) (λ m. m) ReadFed ReadInv ReadDuring Given Left
  read_keeps = kept.reading_keeps me with_item CanFollow KeepsRules 1 MAX_ITEM entry_name file In Opened Given Left sights

  abbrev PartInv : GetPart → History → Type 0
  PartInv p h = kept.JudgedInv me with_item CanFollow KeepsRules (reading_asks 1 entry_name) (λ m. m) ReadFed JudgesFor ReadInv ReadDuring Given Left Left IsOurs read_keeps finds p h

  abbrev PartDuring : GetPart → Reply → List LogItem → History → Type 0
  PartDuring p reply made h = kept.JudgedDuring me with_item CanFollow KeepsRules (reading_asks 1 entry_name) (λ m. m) ReadFed JudgesFor ReadInv ReadDuring Given Left Left IsOurs read_keeps finds p reply made h

  part_keeps : kept.Kept me with_item CanFollow KeepsRules part_asks part_asked PartFed PartInv PartDuring Left Left
  part_keeps = kept.judged_keeps me with_item CanFollow KeepsRules (reading_asks 1 entry_name) (λ m. m) ReadFed JudgesFor ReadInv ReadDuring Given Left Left IsOurs read_keeps finds

  abbrev Knows : FolderGet → History → Type 0
  Knows m h = kept.WholeInv me with_item CanFollow KeepsRules part_asks part_asked PartFed part_slots PartInv PartDuring Left m h

  abbrev Does : FolderGet → Call → Reply → List LogItem → History → Type 0
  Does m call reply made h = kept.WholeDuring me with_item CanFollow KeepsRules part_asks part_asked PartFed part_slots PartInv PartDuring Left m call reply made h

  keeps : Inductive get_asks get_asked GetFed me with_item CanFollow KeepsRules Knows Does
  keeps = kept.whole_keeps me with_item CanFollow KeepsRules part_asks part_asked PartFed part_slots PartInv PartDuring Left part_keeps closing

  -- no item begins or ends an operation
  abbrev AreInner : List LogItem → Type 0
  AreInner made = AllByRecursion (λ x. is_bound x ≡ false) made

  abbrev pub Between : FolderGet → History → Type 0
  Between m h = In h × Knows m h

  abbrev pub During : FolderGet → Call → Reply → List LogItem → History → Type 0
  During m call reply made h = In h × AreInner made × Does m call reply made h

  made_inner : (m : FolderGet) (call : Call) (reply : Reply) (made : List LogItem) → get_asks m ≡ Ask call → Makes me true call reply made → AreInner made
  made_inner m call reply made e makes = subst AreInner (sym (makes_one me call reply made (looks m call e) makes)) (inner me call reply, tt)

  pub inductive : Inductive get_asks get_asked GetFed me with_item CanFollow KeepsRules Between During
  inductive = record {
    enters = λ m call reply made h b e a makes. (b.0, made_inner m call reply made e makes, keeps.enters m call reply made h b.1 e a makes);
    steps = λ m call reply x made h d legal.
        let g = keeps.steps m call reply x made h d.2 legal in
        (g.0, (in_then me this_get h x d.0 (within_inner me x d.1.0) legal g.0, d.1.1, g.1));
    others = λ m call reply made x h d other goes_on legal rules. (in_lasts x h d.0 other goes_on legal rules, d.1, keeps.others m call reply made x h d.2 other goes_on legal rules);
    between = λ m x h b other goes_on legal rules. (in_lasts x h b.0 other goes_on legal rules, keeps.between m x h b.1 other goes_on legal rules);
    leaves = λ m n call reply h d fed. (d.0, keeps.leaves m n call reply h d.2 fed);
  }

  -- ---- its End

  closed_gives : (at : Option ℕ) (answer given : Answer) (h : History) → Left answer h → close_at at answer ≡ Done given → Tells given h
  closed_gives (Some slot) answer given h k e = not_done (Close slot) given e
  closed_gives None answer given h k e = subst (λ (a : Answer). Tells a h) (done_is answer given e) k.1

  ended : (m : FolderGet) (given : Answer) (h : History) → Knows m h → get_asks m ≡ Done given → Tells given h
  ended (Going p) given h k e = not_done (part_asks p) given e
  ended (Closing o answer) given h k e = closed_gives (lowest o) answer given h k e
  ended Spent given h k e = absurd k

  told_end : (given answer : Answer) (h : History) → IsEndOf given answer → Tells given h → Tells answer h
  told_end given answer h (inl e) t = subst (λ (a : Answer). Tells a h) (sym e) t
  told_end given answer h (inr lack) t = subst (λ (a : Answer). Tells a h) (sym lack.0) tt

  -- what its answer tells
  pub tells : (m : FolderGet) (given answer : Answer) (h : History) → Between m h → get_asks m ≡ Done given → IsEndOf given answer → Tells answer h
  tells m given answer h b e is = told_end given answer h is (ended m given h b.1 e)

  pub ends : (m : FolderGet) (given answer : Answer) (h : History) → Between m h → get_asks m ≡ Done given → IsEndOf given answer → KeepsRules h (items.End me answer)
  ends m given answer h b e is = end_rules me h answer b.0.order (told_earns me root driver key ro answer h b.0 (tells m given answer h b e is))

  -- ---- its start

  -- a lookup that has done nothing yet
  pub starts : (first : FolderGet) (h : History) → IsNew root driver key first → In h → Between first h
  starts first h new i =
      let g = new_going root driver key first new in
      let at_stage : kept.StageInv me with_item CanFollow KeepsRules 1 MAX_ITEM entry_name file In Opened Given Left g.0.part.stage h = subst (λ (stage : Read). kept.StageInv me with_item CanFollow KeepsRules 1 MAX_ITEM entry_name file In Opened Given Left stage h) (sym g.2.opening) i in
      let part : PartInv g.0 h = (g.2.driver_is, (g.2.file_is, at_stage)) in
      (i, subst (λ (m : FolderGet). Knows m h) (sym g.1) part)
