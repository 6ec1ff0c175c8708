-- The items of a reading: what it gives rests on them, whatever others do.
use Rattle.std.proofs.Common.{◌≡◌, ◌<◌, ◌≤◌, ◌⊎◌, inl, inr, ℕ, Bool, true, false, cond, ltb, List, [], ◌∷◌, ◌++◌, Option, Some, None, refl, ap, subst, ◌∙◌}
use Rattle.std.proofs.lemmas.Bool.{ltb-true, ltb-false}
use Rattle.cache_types.specs.declared.name.Name.{Name}
use Rattle.cache_types.specs.declared.seat.Who.{Who}
use Rattle.file_log.specs.declared.call.Call.{Call}
use Rattle.file_log.specs.declared.call.Call.TheVariants as calls
use Rattle.file_log.specs.declared.item.LogItem.{LogItem}
use Rattle.file_log.specs.declared.item.LogItem.TheVariants as items
use Rattle.file_log.specs.declared.reply.Reply.{Reply}
use Rattle.file_log.specs.declared.reply.Reply.TheVariants as replies
use Rattle.file_log.specs.Exchange.{Answers, Makes, Exchange}
use Rattle.files_api.specs.Drive.{items_of_all}
use Rattle.machine_parts.specs.declared.open.Open.{Open}
use Rattle.machine_parts.specs.declared.part.After.{After}
use Rattle.machine_parts.specs.declared.part.After.TheVariants.{More, Over}
use Rattle.machine_parts.specs.declared.reading.Read.{Read}
use Rattle.machine_parts.specs.declared.reading.Read.TheVariants.{Opening, Measuring, Taking, Closing}
use Rattle.machine_parts.specs.declared.reading.Reading.{Reading}
use Rattle.machine_parts.specs.Parts.{IsGood}
use Rattle.machine_parts.specs.Reading.{asks_in, measured, next_in, reading_asks, reading_next}
use Rattle.machine_parts.proofs.Ends.{Comes}
use Rattle.machine_parts.proofs.Looking.{IsLooking, item_for, makes_one}

module _ (me : Who) (slot longest : ℕ) where
  abbrev did : Call → Reply → LogItem
  did call reply = items.Did me call reply

  -- A file with this name wasn't there, was longer than the longest, or this is what a reading of all its bytes got.
  pub data HasRead (name : Name) (given : Option (List ℕ)) (made : List LogItem) : Type 0 where
    Missing : given ≡ None → made ≡ did (calls.OpenOld slot name) replies.Missing ∷ [] → HasRead name given made
    Long : (n : ℕ) → longest < n → given ≡ None → made ≡ did (calls.OpenOld slot name) replies.Done ∷ did (calls.Length slot) (replies.Number n) ∷ did (calls.Close slot) replies.Done ∷ [] → HasRead name given made
    Got : (n : ℕ) (bytes : List ℕ) → n ≤ longest → given ≡ Some bytes
        → made ≡ did (calls.OpenOld slot name) replies.Done ∷ did (calls.Length slot) (replies.Number n) ∷ did (calls.ReadAt slot 0 n) (replies.Got bytes) ∷ did (calls.Close slot) replies.Done ∷ [] → HasRead name given made

  module _ {L : Type 0} (file_name : L → Name) where
    abbrev After' : Type 0
    After' = After (Reading L) (Option (List ℕ))

    abbrev pub ReadComes : Reading L → List Exchange → Option (List ℕ) → Type 0
    ReadComes m xs given = Comes (reading_asks slot file_name) (λ p. p) (λ p reply r. r ≡ reading_next longest p reply) me m xs given

    -- one step, from a stage
    abbrev Goes : Reading L → Read → Reply → List Exchange → Option (List ℕ) → Type 0
    Goes m stage reply xs given = ((o : Open) × (Over o given ≡ next_in longest m.file m.base stage reply) × (xs ≡ [])) ⊎ ((q : Reading L) × (More q ≡ next_in longest m.file m.base stage reply) × ReadComes q xs given)

    record Steps (m : Reading L) (stage : Read) (x : Exchange) (xs : List Exchange) (given : Option (List ℕ)) : Type 0 where
      fits : Answers true (asks_in slot (file_name m.file) stage) x.reply
      made : x.items ≡ item_for me (asks_in slot (file_name m.file) stage) x.reply ∷ []
      good : IsGood x.reply
      goes : Goes m stage x.reply xs given

    looks_in : (stage : Read) (n : Name) → IsLooking (asks_in slot n stage)
    looks_in Opening n = tt
    looks_in Measuring n = tt
    looks_in (Taking length) n = tt
    looks_in (Closing given) n = tt

    steps : (m : Reading L) (stage : Read) (x : Exchange) (xs : List Exchange) (given : Option (List ℕ)) → m.stage ≡ stage → ReadComes m (x ∷ xs) given → Steps m stage x xs given
    steps m stage x xs given e c =
        let call : x.call ≡ asks_in slot (file_name m.file) stage = c.0.0 ∙ ap (asks_in slot (file_name m.file)) e in
        record {
          fits = subst (λ (k : Call). Answers true k x.reply) call c.0.1;
          made = makes_one me (asks_in slot (file_name m.file) stage) x.reply x.items (looks_in stage (file_name m.file)) (subst (λ (k : Call). Makes me true k x.reply x.items) call c.0.2);
          good = c.1;
          goes = subst (λ (k : Read). Goes m k x.reply xs given) e c.2;
        }

    no_over : {Q : Type 0} (o : Open) (given : Option (List ℕ)) (q : Reading L) (r : After') → r ≡ More q → Over o given ≡ r → Q
    no_over o given q r is e = let clash : Over o given ≡ More q = e ∙ is in absurd cc

    no_more : {Q : Type 0} (o : Open) (given : Option (List ℕ)) (q : Reading L) (r : After') → r ≡ Over o given → More q ≡ r → Q
    no_more o given q r is e = let clash : More q ≡ Over o given = e ∙ is in absurd cc

    abbrev over : Open → Option (List ℕ) → After'
    over o given = Over o given

    abbrev more : Reading L → After'
    more q = More q

    same_given : (o o' : Open) (given given' : Option (List ℕ)) → over o given ≡ over o' given' → given ≡ given'
    same_given o o' given given' e = cc

    same_more : (p q : Reading L) → more p ≡ more q → p ≡ q
    same_more p q e = cc

    items_then : (x : Exchange) (xs : List Exchange) (item : LogItem) (rest : List LogItem) → x.items ≡ item ∷ [] → items_of_all xs ≡ rest → items_of_all (x ∷ xs) ≡ item ∷ rest
    items_then x xs item rest e f = ap (λ (l : List LogItem). l ++ items_of_all xs) e ∙ ap (λ (l : List LogItem). item ∷ l) f

    -- ---- closing

    closing_by : (m : Reading L) (kept given : Option (List ℕ)) (x : Exchange) (xs : List Exchange) (reply : Reply) → Answers true (calls.Close slot) reply → x.items ≡ item_for me (calls.Close slot) reply ∷ [] → Goes m (Closing kept) reply xs given
        → (given ≡ kept) × (items_of_all (x ∷ xs) ≡ did (calls.Close slot) replies.Done ∷ [])
    closing_by m kept given x xs replies.Done fits made (inl o) = (same_given o.0 m.base given kept o.1, items_then x xs (did (calls.Close slot) replies.Done) [] made (ap items_of_all o.2))
    closing_by m kept given x xs replies.Done fits made (inr q) = no_more m.base kept q.0 (Over m.base kept) refl q.1
    closing_by m kept given x xs reply fits made goes = absurd fits

    closing_is : (m : Reading L) (kept given : Option (List ℕ)) (xs : List Exchange) → m.stage ≡ Closing kept → ReadComes m xs given → (given ≡ kept) × (items_of_all xs ≡ did (calls.Close slot) replies.Done ∷ [])
    closing_is m kept given [] e c = absurd c
    closing_is m kept given (x ∷ xs) e c = let s = steps m (Closing kept) x xs given e c in closing_by m kept given x xs x.reply s.fits s.made s.goes

    -- ---- taking the bytes

    abbrev TookAll : ℕ → Option (List ℕ) → List LogItem → Type 0
    TookAll n given made = (bytes : List ℕ) × (given ≡ Some bytes) × (made ≡ did (calls.ReadAt slot 0 n) (replies.Got bytes) ∷ did (calls.Close slot) replies.Done ∷ [])

    taking_by : (m : Reading L) (n : ℕ) (given : Option (List ℕ)) (x : Exchange) (xs : List Exchange) (reply : Reply) → Answers true (calls.ReadAt slot 0 n) reply → IsGood reply → x.items ≡ item_for me (calls.ReadAt slot 0 n) reply ∷ [] → Goes m (Taking n) reply xs given
        → TookAll n given (items_of_all (x ∷ xs))
    taking_by m n given x xs (replies.Got bytes) fits good made (inl o) = no_over o.0 given (record { file = m.file; base = m.base; stage = Closing (Some bytes) }) _ refl o.1
    taking_by m n given x xs (replies.Got bytes) fits good made (inr q) =
        let at : q.0 ≡ record { file = m.file; base = m.base; stage = Closing (Some bytes) } = same_more q.0 _ q.1 in
        let rest = closing_is q.0 (Some bytes) given xs (ap (λ (p : Reading L). p.stage) at) q.2 in
        (bytes, rest.0, items_then x xs (did (calls.ReadAt slot 0 n) (replies.Got bytes)) (did (calls.Close slot) replies.Done ∷ []) made rest.1)
    taking_by m n given x xs replies.Failed fits good made goes = absurd good
    taking_by m n given x xs replies.NoMemory fits good made goes = absurd good
    taking_by m n given x xs reply fits good made goes = absurd fits

    taking_is : (m : Reading L) (n : ℕ) (given : Option (List ℕ)) (xs : List Exchange) → m.stage ≡ Taking n → ReadComes m xs given → TookAll n given (items_of_all xs)
    taking_is m n given [] e c = absurd c
    taking_is m n given (x ∷ xs) e c = let s = steps m (Taking n) x xs given e c in taking_by m n given x xs x.reply s.fits s.good s.made s.goes

    -- ---- its length

    abbrev LongAfter : ℕ → Option (List ℕ) → List LogItem → Type 0
    LongAfter n given made = (longest < n) × (given ≡ None) × (made ≡ did (calls.Length slot) (replies.Number n) ∷ did (calls.Close slot) replies.Done ∷ [])

    abbrev TookAfter : ℕ → Option (List ℕ) → List LogItem → Type 0
    TookAfter n given made = (n ≤ longest) × ((bytes : List ℕ) × (given ≡ Some bytes) × (made ≡ did (calls.Length slot) (replies.Number n) ∷ did (calls.ReadAt slot 0 n) (replies.Got bytes) ∷ did (calls.Close slot) replies.Done ∷ []))

    abbrev Measured : Option (List ℕ) → List LogItem → Type 0
    Measured given made = (n : ℕ) × (LongAfter n given made ⊎ TookAfter n given made)

    measured_by : (m : Reading L) (n : ℕ) (given : Option (List ℕ)) (x : Exchange) (xs : List Exchange) (b : Bool) → ltb longest n ≡ b → m.stage ≡ cond b (Closing None) (Taking n) → x.items ≡ did (calls.Length slot) (replies.Number n) ∷ [] → ReadComes m xs given → Measured given (items_of_all (x ∷ xs))
    measured_by m n given x xs true b e made c =
        let rest = closing_is m None given xs e c in
        (n, inl (ltb-true longest n b, rest.0, items_then x xs (did (calls.Length slot) (replies.Number n)) (did (calls.Close slot) replies.Done ∷ []) made rest.1))
    measured_by m n given x xs false b e made c =
        let rest = taking_is m n given xs e c in
        (n, inr (ltb-false longest n b, (rest.0, rest.1, items_then x xs (did (calls.Length slot) (replies.Number n)) (did (calls.ReadAt slot 0 n) (replies.Got rest.0) ∷ did (calls.Close slot) replies.Done ∷ []) made rest.2)))

    measuring_by : (m : Reading L) (given : Option (List ℕ)) (x : Exchange) (xs : List Exchange) (reply : Reply) → Answers true (calls.Length slot) reply → IsGood reply → x.items ≡ item_for me (calls.Length slot) reply ∷ [] → Goes m Measuring reply xs given → Measured given (items_of_all (x ∷ xs))
    measuring_by m given x xs (replies.Number n) fits good made (inl o) = no_over o.0 given (record { file = m.file; base = m.base; stage = measured longest n }) _ refl o.1
    measuring_by m given x xs (replies.Number n) fits good made (inr q) =
        let at : q.0 ≡ record { file = m.file; base = m.base; stage = measured longest n } = same_more q.0 _ q.1 in
        measured_by q.0 n given x xs (ltb longest n) refl (ap (λ (p : Reading L). p.stage) at) made q.2
    measuring_by m given x xs replies.Failed fits good made goes = absurd good
    measuring_by m given x xs replies.NoMemory fits good made goes = absurd good
    measuring_by m given x xs reply fits good made goes = absurd fits

    measuring_is : (m : Reading L) (given : Option (List ℕ)) (xs : List Exchange) → m.stage ≡ Measuring → ReadComes m xs given → Measured given (items_of_all xs)
    measuring_is m given [] e c = absurd c
    measuring_is m given (x ∷ xs) e c = let s = steps m Measuring x xs given e c in measuring_by m given x xs x.reply s.fits s.good s.made s.goes

    -- ---- opening

    opened_then : (name : Name) (given : Option (List ℕ)) (x : Exchange) (xs : List Exchange) (n : ℕ) → x.items ≡ did (calls.OpenOld slot name) replies.Done ∷ [] → LongAfter n given (items_of_all xs) ⊎ TookAfter n given (items_of_all xs) → HasRead name given (items_of_all (x ∷ xs))
    opened_then name given x xs n made (inl l) = Long n l.0 l.1 (items_then x xs (did (calls.OpenOld slot name) replies.Done) _ made l.2)
    opened_then name given x xs n made (inr t) = Got n t.1.0 t.0 t.1.1 (items_then x xs (did (calls.OpenOld slot name) replies.Done) _ made t.1.2)

    opening_by : (m : Reading L) (given : Option (List ℕ)) (x : Exchange) (xs : List Exchange) (reply : Reply) → Answers true (calls.OpenOld slot (file_name m.file)) reply → IsGood reply → x.items ≡ item_for me (calls.OpenOld slot (file_name m.file)) reply ∷ [] → Goes m Opening reply xs given
        → HasRead (file_name m.file) given (items_of_all (x ∷ xs))
    opening_by m given x xs replies.Done fits good made (inl o) = no_over o.0 given (record { file = m.file; base = m.base; stage = Measuring }) _ refl o.1
    opening_by m given x xs replies.Done fits good made (inr q) =
        let at : q.0 ≡ record { file = m.file; base = m.base; stage = Measuring } = same_more q.0 _ q.1 in
        let rest = measuring_is q.0 given xs (ap (λ (p : Reading L). p.stage) at) q.2 in
        opened_then (file_name m.file) given x xs rest.0 made rest.1
    opening_by m given x xs replies.Missing fits good made (inl o) = Missing (same_given o.0 m.base given None o.1) (items_then x xs (did (calls.OpenOld slot (file_name m.file)) replies.Missing) [] made (ap items_of_all o.2))
    opening_by m given x xs replies.Missing fits good made (inr q) = no_more m.base None q.0 (Over m.base None) refl q.1
    opening_by m given x xs replies.Failed fits good made goes = absurd good
    opening_by m given x xs replies.NoMemory fits good made goes = absurd good
    opening_by m given x xs reply fits good made goes = absurd fits

    -- what a reading that has done nothing yet has read once it is over
    pub reading_comes : (m : Reading L) (given : Option (List ℕ)) (xs : List Exchange) → m.stage ≡ Opening → ReadComes m xs given → HasRead (file_name m.file) given (items_of_all xs)
    reading_comes m given [] e c = absurd c
    reading_comes m given (x ∷ xs) e c = let s = steps m Opening x xs given e c in opening_by m given x xs x.reply s.fits s.good s.made s.goes
