-- The calls of a put that look at the entry, and what they find.
use Rattle.std.proofs.Common.{◌≡◌, ◌<◌, ◌+◌, ◌-◌, inl, inr, ℕ, Bool, true, false, cond, ltb, List, ◌∷◌, ◌++◌, length, take, drop, Option, Some, None, IsSome, refl, sym, ap, ◌∙◌, subst, append_assoc, arith}
use Rattle.std.specs.Prelude.{IsSomeAnd}
use Rattle.std.proofs.Math.Seq.{take-append-add}
use Rattle.std.proofs.lemmas.Bool.{false≢true, ltb-true}
use Rattle.std.proofs.lemmas.List.{take-append-drop}
use Rattle.cache_types.specs.Driver.{DriverKeys, blob_of, IsDriver, Fronts, HasNoFront}
use Rattle.cache_types.specs.declared.answer.Answer.TheVariants as answers
use Rattle.cache_types.specs.declared.limits.TheConstants.{MAX_ITEM}
use Rattle.cache_types.specs.declared.name.Name.{Name}
use Rattle.cache_types.specs.declared.name.Name.TheVariants.{Entry}
use Rattle.cache_types.proofs.Blobs.{length-blob_of}
use Rattle.file_log.specs.declared.call.Call.TheVariants as calls
use Rattle.file_log.specs.declared.item.LogItem.{LogItem}
use Rattle.file_log.specs.declared.item.LogItem.TheVariants.{Did}
use Rattle.file_log.specs.declared.reply.Reply.{Reply}
use Rattle.file_log.specs.declared.reply.Reply.TheVariants as replies
use Rattle.file_log.specs.Disk.{bytes_in, bytes_at, file_of}
use Rattle.file_log.proofs.All.{seat_self}
use Rattle.item_frame.proofs.Laws.{at_most}
use Rattle.folder_store.specs.declared.put_phase.Besides.TheVariants.{Nothing, Lock}
use Rattle.folder_store.specs.declared.put_phase.Look.{Look}
use Rattle.folder_store.specs.declared.put_phase.Look.TheVariants.{First, Second}
use Rattle.folder_store.specs.declared.put_phase.PutPhase.{PutPhase}
use Rattle.folder_store.specs.declared.put_phase.PutPhase.TheVariants.{Opening, Measuring, Reading, ReadingFront, Leaving, OpeningLock, Evicting, Making, ClosingEntry, ClosingLock, Ended}
use Rattle.folder_rules.specs.Holds.{FileReads}
use Rattle.folder_store.specs.Put.{TellsReplaced}
use Rattle.folder_store.specs.PutPhases.{besides_in, too_long, measured, Judged, Fronted}
use Rattle.folder_store.proofs.Finding.{whole_is}
use Rattle.folder_store.proofs.PutDisks.{same_bytes, own_slot}
use Rattle.folder_store.proofs.PutKnown.{Job, Place, step, Base, Looking, Ready, Looks, Lacks, Going, Excused, HasEntry, KnowsAt, rests_goes, looking_on, ready_on, looks_on, old}
use Rattle.folder_store.proofs.PutRules.{quiet}
use Rattle.folder_store.proofs.PutMakes.{MakesIn}
use Rattle.folder_store.proofs.PutSteps.{AnswersIn, split, asks_at, Steps, into, fails}

some_of : (o : Option ℕ) → IsSome o → (f : ℕ) × (o ≡ Some f)
some_of None h = absurd (false≢true h)
some_of (Some f) h = (f, refl)

-- ---- the front of an entry

-- a driver in front of the first bytes is one in front of all
pub part_fronts : (n : ℕ) (whole : List ℕ) (d : DriverKeys) → Fronts (take n whole) d → Fronts whole d
part_fronts n whole d f = record {
  driver = f.driver;
  rest = f.rest ++ drop n whole;
  bytes_are = sym (take-append-drop n whole) ∙ ap (λ (l : List ℕ). l ++ drop n whole) f.bytes_are ∙ append_assoc (blob_of d) f.rest (drop n whole);
}

-- the longest driver's blob has 522 bytes
pub fronts_part : (whole : List ℕ) (d : DriverKeys) → Fronts whole d → Fronts (take 522 whole) d
fronts_part whole d f =
    let n : ℕ = 522 - length (blob_of d) in
    let all : 522 ≡ length (blob_of d) + n = omega (arith, length-blob_of d, f.driver.id.0, f.driver.gpu.0) in
    record {
      driver = f.driver;
      rest = take n f.rest;
      bytes_are = ap (take 522) f.bytes_are ∙ ap (λ (k : ℕ). take k (blob_of d ++ f.rest)) all ∙ take-append-add (blob_of d) f.rest n;
    }

module _ (j : Job) where
  abbrev entry_name : Name
  entry_name = Entry j.root j.key

  looks_entry : (look : Look) (p : Place) → Looks j look p → file_of p.state.disk entry_name ≡ old j p
  looks_entry First p l = l.entry
  looks_entry Second p l = l.entry

  pub looks_excused : (look : Look) (p : Place) → Looks j look p → Excused j p
  looks_excused First p l = record { entry = l.entry; told = inl l.quiet }
  looks_excused Second p l = record { entry = l.entry; told = inl l.quiet }

  was_entry : (p : Place) (whole : List ℕ) → file_of p.state.disk entry_name ≡ old j p → HasEntry j p whole → old j p ≡ Some whole
  was_entry p whole same h = sym same ∙ ap (bytes_in p.state.disk.files) h.named ∙ ap (λ (b : List ℕ). Some b) h.bytes

  in_slot : (p : Place) (whole : List ℕ) → HasEntry j p whole → bytes_at p.state.disk j.me 1 ≡ Some whole
  in_slot p whole h = ap (bytes_in p.state.disk.files) h.slot ∙ ap (λ (b : List ℕ). Some b) h.bytes

  -- no entry holds no blob
  none_lacks : (o : Option (List ℕ)) → o ≡ None → Lacks j o
  none_lacks o none blob reads = subst (λ (o' : Option (List ℕ)). FileReads o' j.driver blob) none reads

  -- after the first look, which found no blob
  looked : (p : Place) → Looking j p → Lacks j (old j p) → Ready j p
  looked p l lacks = record { entry = l.entry; lacks = lacks; quiet = l.quiet }

  -- with no entry there is none to replace
  none_going : (p : Place) → Ready j p → old j p ≡ None → Going j p
  none_going p r none = record {
    entry = r.entry;
    lacks = r.lacks;
    replaced = subst (λ (o : Option (List ℕ)). TellsReplaced j.me j.root j.key o p.told) (sym none) r.quiet;
    told = λ bytes driver is fronts. let clash : Some bytes ≡ None = sym is ∙ none in absurd cc;
  }

  -- nor is there a driver to tell of
  no_front_going : (p : Place) (whole : List ℕ) → Ready j p → old j p ≡ Some whole → HasNoFront whole → Going j p
  no_front_going p whole r is none = record {
    entry = r.entry;
    lacks = r.lacks;
    replaced = subst (λ (o : Option (List ℕ)). TellsReplaced j.me j.root j.key o p.told) (sym is) (inr (none, r.quiet));
    told = λ bytes driver is' fronts. let same : whole ≡ bytes = same_bytes whole bytes (sym is ∙ is') in absurd (none driver (subst (λ (b : List ℕ). Fronts b driver) (sym same) fronts));
  }

  pub opening : (look : Look) (bytes : List ℕ) (reply : Reply) (p : Place) (x : LogItem) (left : List LogItem) → Base j p → KnowsAt j (Opening look) bytes p → AnswersIn (asks_at j (Opening look) bytes) reply → MakesIn j.me (asks_at j (Opening look) bytes) reply (x ∷ left) → Steps j (Opening look) bytes reply p x left
  opening look bytes replies.Done p x left b k a ms = split _ x left ms (Steps j (Opening look) bytes replies.Done p) (λ legal.
      let did : LogItem = Did j.me (calls.OpenOld 1 entry_name) replies.Done in
      let q = quiet j p did b (seat_self j.me) refl refl refl tt tt (record { names = λ name. refl; files = λ f. refl }) in
      let p' : Place = step j.me p did in
      let file = some_of (p.state.disk.names entry_name) legal.1.0.1 in
      let has : HasEntry j p' (p.state.disk.files file.0) = record { file = file.0; named = file.1; slot = own_slot j.me j.root j.key p.state.disk 1 (p.state.disk.names entry_name) ∙ file.1; bytes = refl } in
      record { right = q.right; base = q.base; last = refl; follows = into j (Measuring look) bytes p' (k.0, looks_on j look p p' q.rests k.1, (p.state.disk.files file.0, has)) })
  opening First bytes replies.Missing p x left b k a ms = split _ x left ms (Steps j (Opening First) bytes replies.Missing p) (λ legal.
      let did : LogItem = Did j.me (calls.OpenOld 1 entry_name) replies.Missing in
      let q = quiet j p did b (seat_self j.me) refl refl refl tt tt (record { names = λ name. refl; files = λ f. refl }) in
      let p' : Place = step j.me p did in
      let l = looking_on j p p' q.rests k.1 in
      let none : old j p' ≡ None = sym l.entry ∙ ap (bytes_in p.state.disk.files) legal.1.0.1 in
      record { right = q.right; base = q.base; last = refl; follows = into j OpeningLock bytes p' (k.0, looked p' l (none_lacks (old j p') none)) })
  opening Second bytes replies.Missing p x left b k a ms = split _ x left ms (Steps j (Opening Second) bytes replies.Missing p) (λ legal.
      let did : LogItem = Did j.me (calls.OpenOld 1 entry_name) replies.Missing in
      let q = quiet j p did b (seat_self j.me) refl refl refl tt tt (record { names = λ name. refl; files = λ f. refl }) in
      let p' : Place = step j.me p did in
      let r = ready_on j p p' (rests_goes j p p' q.rests) k.1 in
      let none : old j p' ≡ None = sym r.entry ∙ ap (bytes_in p.state.disk.files) legal.1.0.1 in
      record { right = q.right; base = q.base; last = refl; follows = into j (Making false) bytes p' (k.0, none_going p' r none) })
  opening First bytes replies.Failed p x left b k a ms = split _ x left ms.1 (Steps j (Opening First) bytes replies.Failed p) (fails j false (Opening First) bytes replies.Failed p b (looks_excused First p k.1) (λ p' e. into j (Ended answers.FilesFault) bytes p' e))
  opening Second bytes replies.Failed p x left b k a ms = split _ x left ms.1 (Steps j (Opening Second) bytes replies.Failed p) (fails j false (Opening Second) bytes replies.Failed p b (looks_excused Second p k.1) (λ p' e. into j (ClosingLock answers.FilesFault) bytes p' e))
  opening First bytes replies.NoMemory p x left b k a ms = split _ x left ms.1 (Steps j (Opening First) bytes replies.NoMemory p) (fails j true (Opening First) bytes replies.NoMemory p b (looks_excused First p k.1) (λ p' e. into j (Ended answers.NoMemory) bytes p' e))
  opening Second bytes replies.NoMemory p x left b k a ms = split _ x left ms.1 (Steps j (Opening Second) bytes replies.NoMemory p) (fails j true (Opening Second) bytes replies.NoMemory p b (looks_excused Second p k.1) (λ p' e. into j (ClosingLock answers.NoMemory) bytes p' e))
  opening look bytes reply p x left b k a ms = absurd a

  -- ---- how long it is

  file_long : (p : Place) (whole : List ℕ) (n : ℕ) → HasEntry j p whole → IsSomeAnd (bytes_at p.state.disk j.me 1) (λ w. n ≡ length w) → n ≡ length whole
  file_long p whole n h number = subst (λ (o : Option (List ℕ)). IsSomeAnd o (λ w. n ≡ length w)) (in_slot p whole h) number

  -- a file that is too long holds no blob
  long_lacks : (whole : List ℕ) (n : ℕ) → IsDriver j.driver → n ≡ length whole → MAX_ITEM < n → Lacks j (Some whole)
  long_lacks whole n fits is long blob reads = absurd (omega (arith, is, long, at_most j.driver whole blob fits reads))

  measured_knows : (look : Look) (bytes : List ℕ) (p : Place) (n : ℕ) (whole : List ℕ) → IsDriver j.driver → bytes ≡ j.item → Looks j look p → HasEntry j p whole → n ≡ length whole → KnowsAt j (measured look n) bytes p
  measured_knows look bytes p n whole fits item l h is = by_test (ltb MAX_ITEM n) refl
    where
      too_long_knows : (look : Look) → Looks j look p → MAX_ITEM < n → KnowsAt j (too_long look) bytes p
      too_long_knows First l long = (item, looked p l (subst (Lacks j) (sym (was_entry p whole l.entry h)) (long_lacks whole n fits is long)))
      too_long_knows Second l long = (item, l, (whole, h))

      by_test : (t : Bool) → ltb MAX_ITEM n ≡ t → KnowsAt j (cond t (too_long look) (Reading look n)) bytes p
      by_test true long = too_long_knows look l (ltb-true MAX_ITEM n long)
      by_test false short = (item, l, (whole, h, is))

  pub measuring : (look : Look) (bytes : List ℕ) (reply : Reply) (p : Place) (x : LogItem) (left : List LogItem) → IsDriver j.driver → Base j p → KnowsAt j (Measuring look) bytes p → AnswersIn (asks_at j (Measuring look) bytes) reply → MakesIn j.me (asks_at j (Measuring look) bytes) reply (x ∷ left) → Steps j (Measuring look) bytes reply p x left
  measuring look bytes (replies.Number n) p x left fits b k a ms = split _ x left ms (Steps j (Measuring look) bytes (replies.Number n) p) (λ legal.
      let did : LogItem = Did j.me (calls.Length 1) (replies.Number n) in
      let q = quiet j p did b (seat_self j.me) refl refl refl tt tt (record { names = λ name. refl; files = λ f. refl }) in
      let p' : Place = step j.me p did in
      let h : HasEntry j p' k.2.0 = record { file = k.2.1.file; named = k.2.1.named; slot = k.2.1.slot; bytes = k.2.1.bytes } in
      record { right = q.right; base = q.base; last = refl; follows = into j (measured look n) bytes p' (measured_knows look bytes p' n k.2.0 fits k.0 (looks_on j look p p' q.rests k.1) h (file_long p k.2.0 n k.2.1 legal.1.0.1)) })
  measuring look bytes replies.Failed p x left fits b k a ms = split _ x left ms.1 (Steps j (Measuring look) bytes replies.Failed p) (fails j false (Measuring look) bytes replies.Failed p b (looks_excused look p k.1) (λ p' e. into j (ClosingEntry answers.FilesFault (besides_in look)) bytes p' e))
  measuring look bytes replies.NoMemory p x left fits b k a ms = split _ x left ms.1 (Steps j (Measuring look) bytes replies.NoMemory p) (fails j true (Measuring look) bytes replies.NoMemory p b (looks_excused look p k.1) (λ p' e. into j (ClosingEntry answers.NoMemory (besides_in look)) bytes p' e))
  measuring look bytes reply p x left fits b k a ms = absurd a

  -- ---- what it holds

  -- what follows on the front of an entry that goes
  fronted_knows : (front bytes whole : List ℕ) (p : Place) (next : PutPhase) → ((driver : DriverKeys) → Fronts front driver → Fronts whole driver) → (HasNoFront front → HasNoFront whole)
      → bytes ≡ j.item → Ready j p → old j p ≡ Some whole → Fronted front next → KnowsAt j next bytes p
  fronted_knows front bytes whole p (Evicting driver) some none item r is fronts = (item, r, (whole, is, some driver fronts))
  fronted_knows front bytes whole p (Making true) some none item r is fronts = (item, no_front_going p whole r is (none fronts))
  fronted_knows front bytes whole p (Making false) some none item r is fronts = absurd fronts
  fronted_knows front bytes whole p next some none item r is fronts = absurd fronts

  judged_knows : (look : Look) (bytes whole : List ℕ) (p : Place) (next : PutPhase) → bytes ≡ j.item → Looks j look p → old j p ≡ Some whole → Judged j.driver look whole next → KnowsAt j next bytes p
  judged_knows First bytes whole p next item l is (inl kept) =
      into j (ClosingEntry answers.Kept Nothing) bytes p (record { held = (kept.0.0, subst (λ (o : Option (List ℕ)). FileReads o j.driver kept.0.0) (sym is) kept.0.1); looking = l }) next kept.1
  judged_knows Second bytes whole p next item r is (inl kept) = absurd (r.lacks kept.0.0 (subst (λ (o : Option (List ℕ)). FileReads o j.driver kept.0.0) (sym is) kept.0.1))
  judged_knows First bytes whole p next item l is (inr refused) =
      let lacks : Lacks j (Some whole) = λ blob reads. refused.0 (blob, reads) in
      into j Leaving bytes p (item, looked p l (subst (Lacks j) (sym is) lacks)) next refused.1
  judged_knows Second bytes whole p next item r is (inr refused) = fronted_knows whole bytes whole p next (λ driver f. f) (λ none. none) item r is refused.1

  file_got : (p : Place) (whole got : List ℕ) (n : ℕ) → HasEntry j p whole → IsSomeAnd (bytes_at p.state.disk j.me 1) (λ w. got ≡ take n (drop 0 w)) → got ≡ take n (drop 0 whole)
  file_got p whole got n h is = subst (λ (o : Option (List ℕ)). IsSomeAnd o (λ w. got ≡ take n (drop 0 w))) (in_slot p whole h) is

  pub reading : (look : Look) (n : ℕ) (bytes : List ℕ) (reply : Reply) (p : Place) (x : LogItem) (left : List LogItem) → Base j p → KnowsAt j (Reading look n) bytes p → AnswersIn (asks_at j (Reading look n) bytes) reply → MakesIn j.me (asks_at j (Reading look n) bytes) reply (x ∷ left) → Steps j (Reading look n) bytes reply p x left
  reading look n bytes (replies.Got got) p x left b k a ms = split _ x left ms (Steps j (Reading look n) bytes (replies.Got got) p) (λ legal.
      let did : LogItem = Did j.me (calls.ReadAt 1 0 n) (replies.Got got) in
      let q = quiet j p did b (seat_self j.me) refl refl refl tt tt (record { names = λ name. refl; files = λ f. refl }) in
      let p' : Place = step j.me p did in
      let whole : List ℕ = k.2.0 in
      let same : got ≡ whole = whole_is got whole n k.2.2 (file_got p whole got n k.2.1 legal.1.0.1) in
      let l = looks_on j look p p' q.rests k.1 in
      record { right = q.right; base = q.base; last = refl; follows = λ next judged. judged_knows look bytes whole p' next k.0 l (was_entry p whole (looks_entry look p k.1) k.2.1) (subst (λ (b : List ℕ). Judged j.driver look b next) same judged) })
  reading look n bytes replies.Failed p x left b k a ms = split _ x left ms.1 (Steps j (Reading look n) bytes replies.Failed p) (fails j false (Reading look n) bytes replies.Failed p b (looks_excused look p k.1) (λ p' e. into j (ClosingEntry answers.FilesFault (besides_in look)) bytes p' e))
  reading look n bytes replies.NoMemory p x left b k a ms = split _ x left ms.1 (Steps j (Reading look n) bytes replies.NoMemory p) (fails j true (Reading look n) bytes replies.NoMemory p b (looks_excused look p k.1) (λ p' e. into j (ClosingEntry answers.NoMemory (besides_in look)) bytes p' e))
  reading look n bytes reply p x left b k a ms = absurd a

  pub reading_front : (bytes : List ℕ) (reply : Reply) (p : Place) (x : LogItem) (left : List LogItem) → Base j p → KnowsAt j ReadingFront bytes p → AnswersIn (asks_at j ReadingFront bytes) reply → MakesIn j.me (asks_at j ReadingFront bytes) reply (x ∷ left) → Steps j ReadingFront bytes reply p x left
  reading_front bytes (replies.Got got) p x left b k a ms = split _ x left ms (Steps j ReadingFront bytes (replies.Got got) p) (λ legal.
      let did : LogItem = Did j.me (calls.ReadAt 1 0 522) (replies.Got got) in
      let q = quiet j p did b (seat_self j.me) refl refl refl tt tt (record { names = λ name. refl; files = λ f. refl }) in
      let p' : Place = step j.me p did in
      let whole : List ℕ = k.2.0 in
      let part : got ≡ take 522 whole = file_got p whole got 522 k.2.1 legal.1.0.1 in
      let r = ready_on j p p' (rests_goes j p p' q.rests) k.1 in
      record { right = q.right; base = q.base; last = refl; follows = λ next fronted. fronted_knows (take 522 whole) bytes whole p' next (part_fronts 522 whole) (λ none driver f. none driver (fronts_part whole driver f)) k.0 r (was_entry p whole k.1.entry k.2.1) (subst (λ (b : List ℕ). Fronted b next) part fronted) })
  reading_front bytes replies.Failed p x left b k a ms = split _ x left ms.1 (Steps j ReadingFront bytes replies.Failed p) (fails j false ReadingFront bytes replies.Failed p b (looks_excused Second p k.1) (λ p' e. into j (ClosingEntry answers.FilesFault Lock) bytes p' e))
  reading_front bytes replies.NoMemory p x left b k a ms = split _ x left ms.1 (Steps j ReadingFront bytes replies.NoMemory p) (fails j true ReadingFront bytes replies.NoMemory p b (looks_excused Second p k.1) (λ p' e. into j (ClosingEntry answers.NoMemory Lock) bytes p' e))
  reading_front bytes reply p x left b k a ms = absurd a

  pub leaving : (bytes : List ℕ) (reply : Reply) (p : Place) (x : LogItem) (left : List LogItem) → Base j p → KnowsAt j Leaving bytes p → AnswersIn (asks_at j Leaving bytes) reply → MakesIn j.me (asks_at j Leaving bytes) reply (x ∷ left) → Steps j Leaving bytes reply p x left
  leaving bytes replies.Done p x left b k a ms = split _ x left ms (Steps j Leaving bytes replies.Done p) (λ legal.
      let did : LogItem = Did j.me (calls.Close 1) replies.Done in
      let q = quiet j p did b (seat_self j.me) refl refl refl tt tt (record { names = λ name. refl; files = λ f. refl }) in
      record { right = q.right; base = q.base; last = refl; follows = into j OpeningLock bytes (step j.me p did) (k.0, ready_on j p (step j.me p did) (rests_goes j p (step j.me p did) q.rests) k.1) })
  leaving bytes reply p x left b k a ms = absurd a
