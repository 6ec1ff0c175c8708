-- What a lookup read: its answer rests on its own items, and where nobody disturbs it, it is by what the store holds.
use Rattle.std.proofs.Common.{◌≡◌, ◌<◌, ◌⊎◌, inl, inr, ℕ, Bool, true, false, List, [], ◌∷◌, ◌++◌, length, take, drop, Option, Some, None, IsSome, refl, sym, ap, subst, ◌∙◌, arith}
use Rattle.std.specs.Prelude.{IsSomeAnd}
use Rattle.std.proofs.Math.Seq.{take-length}
use Rattle.std.proofs.lemmas.Bool.{eq-eqb}
use Rattle.cache_types.specs.declared.answer.Answer.{Answer}
use Rattle.cache_types.specs.declared.answer.Answer.TheVariants as answers
use Rattle.cache_types.specs.declared.key.Key.{Key}
use Rattle.cache_types.specs.declared.limits.TheConstants.{MAX_ITEM}
use Rattle.cache_types.specs.declared.name.Name.{Name}
use Rattle.cache_types.specs.declared.name.Name.TheVariants.{Entry}
use Rattle.cache_types.specs.declared.seat.Who.{Who}
use Rattle.cache_types.specs.Driver.{DriverKeys, IsDriver}
use Rattle.file_log.specs.declared.call.Call.{Call}
use Rattle.file_log.specs.declared.call.Call.TheVariants.{OpenOld, Length, ReadAt, Close}
use Rattle.file_log.specs.declared.item.LogItem.{LogItem}
use Rattle.file_log.specs.declared.item.LogItem.TheVariants.{Did}
use Rattle.file_log.specs.declared.reply.Reply.{Reply}
use Rattle.file_log.specs.declared.reply.Reply.TheVariants as replies
use Rattle.file_log.specs.Disk.{Disk, file_of, bytes_in, bytes_at, with_slot}
use Rattle.file_log.specs.Legal.{Legal}
use Rattle.file_log.specs.State.{State, after}
use Rattle.file_log.proofs.All.{seat_self}
use Rattle.item_frame.specs.Item.{IsItem, Reads}
use Rattle.item_frame.proofs.Laws.{at_most}
use Rattle.machine_parts.proofs.Readings.{HasRead, Missing, Long, Got}
use Rattle.folder_rules.specs.Holds.{FileReads, FolderHolds}
use Rattle.folder_store.specs.declared.get.ForDriver.{ForDriver}
use Rattle.folder_store.specs.Finds.{Finds, FindsOrFails}
use Rattle.folder_store.specs.Gets.{JudgesFor}
use Rattle.folder_store.specs.Rests as rests
use Rattle.folder_store.specs.Rests.{WithEntry, RestsOn}
use Rattle.folder_store.proofs.Outcome.{HasLooked, EndsSo}

-- all bytes of a file
pub whole_is : (bytes whole : List ℕ) (n : ℕ) → n ≡ length whole → bytes ≡ take n (drop 0 whole) → bytes ≡ whole
whole_is bytes whole n e f = f ∙ ap (λ (k : ℕ). take k whole) e ∙ take-length whole

-- a slot that was filled has the file
pub slot_filled : (d : Disk) (who : Who) (slot : ℕ) (file : Option ℕ) → (with_slot d who slot file).slots who slot ≡ file
slot_filled d who slot file = rw (seat_self who, eq-eqb slot slot refl) refl

module _ (me : Who) (root : ℕ) (driver : DriverKeys) (key : Key) where
  abbrev did : Call → Reply → LogItem
  did call reply = Did me call reply

  abbrev opening : LogItem
  opening = did (OpenOld 1 (Entry root key)) replies.Done

  -- ---- what the answer rests on

  -- an item stands before and after what was read
  abbrev Around : LogItem → List LogItem → List LogItem → List LogItem → List LogItem
  Around first read closing last = first ∷ ((read ++ closing) ++ last)

  abbrev Rests : Answer → LogItem → List LogItem → List LogItem → List LogItem → Type 0
  Rests answer first read closing last = RestsOn me root key (Around first read closing last) driver answer

  no_close : (n : ℕ) → did (Length 1) (replies.Number n) ≡ did (Close 1) replies.Done → ⊥
  no_close n e = absurd cc

  measured_at : (n : ℕ) (first : LogItem) (more : List LogItem) → WithEntry me root key (first ∷ (opening ∷ did (Length 1) (replies.Number n) ∷ more)) 1 (did (Length 1) (replies.Number n))
  measured_at n first more = record { before = first ∷ []; since = []; later = more; made_are = refl; kept_open = tt }

  read_at : (n : ℕ) (bytes : List ℕ) (first : LogItem) (more : List LogItem) → rests.HasRead me root key (first ∷ (opening ∷ did (Length 1) (replies.Number n) ∷ did (ReadAt 1 0 n) (replies.Got bytes) ∷ more)) bytes
  read_at n bytes first more = record {
    slot = 1;
    length = n;
    measured = measured_at n first (did (ReadAt 1 0 n) (replies.Got bytes) ∷ more);
    read = record { before = first ∷ []; since = did (Length 1) (replies.Number n) ∷ []; later = more; made_are = refl; kept_open = (no_close n, tt) };
  }

  -- what is found in the bytes that were read rests on them
  found_rests : (answer : Answer) (made : List LogItem) (bytes : List ℕ) → rests.HasRead me root key made bytes → Finds (Reads driver bytes) answer → RestsOn me root key made driver answer
  found_rests (answers.Hit blob) made bytes read f = (bytes, read, f)
  found_rests answers.Miss made bytes read f = inr (inr (bytes, read, λ item. f item.0 item.1))
  found_rests answers.NoMemory made bytes read f = tt
  found_rests answer made bytes read f = absurd f

  read_rests : (judge : ForDriver) (given : Option (List ℕ)) (answer : Answer) (read : List LogItem) (first : LogItem) (closing last : List LogItem) → judge.driver ≡ driver → JudgesFor judge given answer → HasRead me 1 MAX_ITEM (Entry root key) given read → Rests answer first read closing last
  read_rests judge given answer read first closing last is j (Missing none made) =
      let miss : answer ≡ answers.Miss = subst (λ (g : Option (List ℕ)). JudgesFor judge g answer) none j in
      subst (λ (a : Answer). Rests a first read closing last) (sym miss) (subst (λ (l : List LogItem). Rests answers.Miss first l closing last) (sym made)
      (inl (record { slot = 1; before = first ∷ []; later = closing ++ last; made_are = refl })))
  read_rests judge given answer read first closing last is j (Long n long none made) =
      let miss : answer ≡ answers.Miss = subst (λ (g : Option (List ℕ)). JudgesFor judge g answer) none j in
      subst (λ (a : Answer). Rests a first read closing last) (sym miss) (subst (λ (l : List LogItem). Rests answers.Miss first l closing last) (sym made)
      (inr (inl (record { slot = 1; length = n; long = long; measured = measured_at n first (did (Close 1) replies.Done ∷ (closing ++ last)) }))))
  read_rests judge given answer read first closing last is j (Got n bytes short some made) =
      let finds : Finds (Reads judge.driver bytes) answer = subst (λ (g : Option (List ℕ)). JudgesFor judge g answer) some j in
      subst (λ (l : List LogItem). Rests answer first l closing last) (sym made)
      (found_rests answer _ bytes (read_at n bytes first (did (Close 1) replies.Done ∷ (closing ++ last))) (subst (λ (d : DriverKeys). Finds (Reads d bytes) answer) is finds))

  pub rests_so : (answer : Answer) (made : List LogItem) (first : LogItem) (last : List LogItem) → EndsSo me root driver key answer made → RestsOn me root key (first ∷ (made ++ last)) driver answer
  rests_so answer made first last (inl l) =
      subst (λ (m : List LogItem). RestsOn me root key (first ∷ (m ++ last)) driver answer) (sym l.made_are) (read_rests l.judge l.given answer l.read first l.closing last l.driver_is l.judged l.has_read)
  rests_so answer made first last (inr (inl e)) = rw e tt
  rests_so answer made first last (inr (inr e)) = rw e tt

  -- ---- what a lookup finds that nobody disturbs

  bytes_there : (files : ℕ → List ℕ) (file : Option ℕ) → IsSome file → (whole : List ℕ) × (bytes_in files file ≡ Some whole)
  bytes_there files (Some f) there = (files f, refl)
  bytes_there files None there = absurd cc

  -- what is found is an answer of a lookup that may fail
  or_fails : (Held : List ℕ → Type 0) (answer : Answer) → Finds Held answer → FindsOrFails Held answer
  or_fails Held answers.FilesFault finds = tt
  or_fails Held answer finds = finds

  abbrev FindsHere : State → Answer → Type 0
  FindsHere s answer = FindsOrFails (FolderHolds s.disk root driver key) answer

  -- what a file of these bytes lets find
  found_here : (s : State) (answer : Answer) (whole : List ℕ) → file_of s.disk (Entry root key) ≡ Some whole → FindsOrFails (Reads driver whole) answer → FindsHere s answer
  found_here s answer whole file f = subst (λ (o : Option (List ℕ)). FindsOrFails (FileReads o driver) answer) (sym file) f

  finds_read : (s : State) (judge : ForDriver) (given : Option (List ℕ)) (answer : Answer) (read rest : List LogItem) → IsDriver driver → judge.driver ≡ driver → JudgesFor judge given answer → HasRead me 1 MAX_ITEM (Entry root key) given read → Legal s (read ++ rest) → FindsHere s answer
  finds_read s judge given answer read rest fits is j (Missing none made) legal =
      let miss : answer ≡ answers.Miss = subst (λ (g : Option (List ℕ)). JudgesFor judge g answer) none j in
      let now = subst (λ (l : List LogItem). Legal s (l ++ rest)) made legal in
      let lacks : file_of s.disk (Entry root key) ≡ None = ap (bytes_in s.disk.files) now.0.1.0.1 in
      rw miss (λ blob held. subst (λ (o : Option (List ℕ)). FileReads o driver blob) lacks held)
  finds_read s judge given answer read rest fits is j (Long n long none made) legal =
      let miss : answer ≡ answers.Miss = subst (λ (g : Option (List ℕ)). JudgesFor judge g answer) none j in
      let now = subst (λ (l : List LogItem). Legal s (l ++ rest)) made legal in
      let whole = bytes_there s.disk.files (s.disk.names (Entry root key)) now.0.1.0.1 in
      let file : bytes_at (after s opening).disk me 1 ≡ Some whole.0 = ap (bytes_in s.disk.files) (slot_filled s.disk me 1 (s.disk.names (Entry root key))) ∙ whole.1 in
      let len : n ≡ length whole.0 = subst (λ (o : Option (List ℕ)). IsSomeAnd o (λ w. n ≡ length w)) file now.1.0.1.0.1 in
      let longer : MAX_ITEM < length whole.0 = subst (λ (k : ℕ). MAX_ITEM < k) len long in
      rw miss (λ blob held. absurd (omega (arith, longer, at_most driver whole.0 blob fits (subst (λ (o : Option (List ℕ)). FileReads o driver blob) whole.1 held))))
  finds_read s judge given answer read rest fits is j (Got n bytes short some made) legal =
      let finds : Finds (Reads judge.driver bytes) answer = subst (λ (g : Option (List ℕ)). JudgesFor judge g answer) some j in
      let now = subst (λ (l : List LogItem). Legal s (l ++ rest)) made legal in
      let whole = bytes_there s.disk.files (s.disk.names (Entry root key)) now.0.1.0.1 in
      let file : bytes_at (after s opening).disk me 1 ≡ Some whole.0 = ap (bytes_in s.disk.files) (slot_filled s.disk me 1 (s.disk.names (Entry root key))) ∙ whole.1 in
      let len : n ≡ length whole.0 = subst (λ (o : Option (List ℕ)). IsSomeAnd o (λ w. n ≡ length w)) file now.1.0.1.0.1 in
      let got : bytes ≡ take n (drop 0 whole.0) = subst (λ (o : Option (List ℕ)). IsSomeAnd o (λ w. bytes ≡ take n (drop 0 w))) file now.1.1.0.1.0.1 in
      let same : bytes ≡ whole.0 = whole_is bytes whole.0 n len got in
      let of_driver : Finds (Reads driver bytes) answer = subst (λ (d : DriverKeys). Finds (Reads d bytes) answer) is finds in
      found_here s answer whole.0 whole.1 (or_fails (Reads driver whole.0) answer (subst (λ (b : List ℕ). Finds (Reads driver b) answer) same of_driver))

  append_more : (xs ys zs : List LogItem) → (xs ++ ys) ++ zs ≡ xs ++ (ys ++ zs)
  append_more [] ys zs = refl
  append_more (x ∷ xs) ys zs = ap (λ (l : List LogItem). x ∷ l) (append_more xs ys zs)

  pub finding : (s : State) (answer : Answer) (made rest : List LogItem) → IsDriver driver → EndsSo me root driver key answer made → Legal s (made ++ rest) → FindsHere s answer
  finding s answer made rest fits (inl l) legal =
      let whole = subst (λ (m : List LogItem). Legal s (m ++ rest)) l.made_are legal in
      finds_read s l.judge l.given answer l.read (l.closing ++ rest) fits l.driver_is l.judged l.has_read (subst (Legal s) (append_more l.read l.closing rest) whole)
  finding s answer made rest fits (inr (inl e)) legal = rw e tt
  finding s answer made rest fits (inr (inr e)) legal = rw e tt
