-- What a part of a machine keeps, whatever others do between its items; and its whole machine keeps it.
use Rattle.std.proofs.Common.{◌≡◌, ◌<◌, ℕ, Bool, true, false, cond, ltb, List, [], ◌∷◌, length, take, Option, Some, None, refl, sym, ap, subst, ◌∙◌}
use Rattle.std.proofs.Math.Seq.{take-length}
use Rattle.std.proofs.lemmas.Bool.{ltb-true}
use Rattle.cache_types.specs.declared.answer.Answer.{Answer}
use Rattle.cache_types.specs.declared.answer.Answer.TheVariants as answers
use Rattle.cache_types.specs.declared.name.Name.{Name}
use Rattle.cache_types.specs.declared.seat.Who.{Who}
use Rattle.file_log.specs.declared.call.Call.{Call}
use Rattle.file_log.specs.declared.call.Call.TheVariants as calls
use Rattle.file_log.specs.declared.item.LogItem.{LogItem}
use Rattle.file_log.specs.declared.item.LogItem.TheVariants as items
use Rattle.file_log.specs.declared.reply.Reply.{Reply}
use Rattle.file_log.specs.declared.reply.Reply.TheVariants as replies
use Rattle.file_log.specs.Exchange.{Answers, Makes}
use Rattle.file_log.specs.Log.{is_own, is_stop}
use Rattle.files_api.specs.declared.machine.Step.TheVariants.{Ask, Done}
use Rattle.files_api.proofs.Weave.{Inductive}
use Rattle.machine_parts.specs.declared.judged.Judged.{Judged}
use Rattle.machine_parts.specs.declared.open.Open.{Open}
use Rattle.machine_parts.specs.declared.part.After.{After}
use Rattle.machine_parts.specs.declared.part.After.TheVariants.{More, Over}
use Rattle.machine_parts.specs.declared.reading.Read.{Read}
use Rattle.machine_parts.specs.declared.reading.Read.TheVariants as reads
use Rattle.machine_parts.specs.declared.reading.Reading.{Reading}
use Rattle.machine_parts.specs.declared.whole.Whole.{Whole}
use Rattle.machine_parts.specs.declared.whole.Whole.TheVariants.{Going, Closing, Spent}
use Rattle.machine_parts.specs.Ending.{close_at, closing_at, whole_asks, whole_asked, whole_of, GoingFed, WholeFed}
use Rattle.machine_parts.specs.Judging.{judged_asks, judged_asked, JudgedTo, JudgedFed}
use Rattle.machine_parts.specs.Parts.{IsGood}
use Rattle.machine_parts.specs.Reading.{asks_in, measured, reading_asks, reading_next}
use Rattle.machine_parts.specs.Slots.{lowest, closed}
use Rattle.machine_parts.proofs.Looking.{IsLooking, item_for, makes_one}

module _ {S : Type 0} (me : Who) (step : S → LogItem → S) (IsLegal Rule : S → LogItem → Type 0) where
  -- an own item that can come keeps the rule, and leads from one thing known to another
  abbrev pub Own : LogItem → (S → Type 0) → (S → Type 0) → Type 0
  Own x P Q = (s : S) → P s → IsLegal s x → Rule s x × Q (step s x)

  -- what is known is not touched by others
  abbrev pub Lasts : (S → Type 0) → Type 0
  Lasts P = (x : LogItem) (s : S) → P s → is_own me x ≡ false → is_stop me.process x ≡ false → IsLegal s x → Rule s x → P (step s x)

  -- what is known after a reply: of the part, or of its result
  abbrev pub Known : {P T : Type 0} → (P → S → Type 0) → (T → S → Type 0) → After P T → S → Type 0
  Known Inv Given (More q) s = Inv q s
  Known Inv Given (Over o x) s = Given x s

  -- What is known between calls of a part (Inv), within one (During), of its result (Given), and with an answer (Left).
  pub record Kept {P T : Type 0} (asks : P → Call) (asked : P → P) (fed : P → Reply → After P T → Type 0) (Inv : P → S → Type 0) (During : P → Reply → List LogItem → S → Type 0) (Given : T → S → Type 0) (Left : Answer → S → Type 0) : Type 0 where
    pub enters : (p : P) (reply : Reply) (made : List LogItem) (s : S) → Inv p s → Answers true (asks p) reply → Makes me true (asks p) reply made → During p reply made s
    pub steps : (p : P) (reply : Reply) (x : LogItem) (made : List LogItem) → Own x (During p reply (x ∷ made)) (During p reply made)
    pub others : (p : P) (reply : Reply) (made : List LogItem) → Lasts (During p reply made)
    pub between : (p : P) → Lasts (Inv p)
    pub leaves : (p : P) (reply : Reply) (r : After P T) (s : S) → During p reply [] s → IsGood reply → fed (asked p) reply r → Known Inv Given r s
    pub faults : (p : P) (s : S) → During p replies.Failed [] s → Left answers.FilesFault s
    pub wants : (p : P) (s : S) → During p replies.NoMemory [] s → Left answers.NoMemory s

  -- ---- the whole machine

  -- what is known with an answer outlives the closing
  pub record Closes (Left : Answer → S → Type 0) : Type 0 where
    pub closing : (answer : Answer) (slot : ℕ) → Own (items.Did me (calls.Close slot) replies.Done) (Left answer) (Left answer)
    pub lasting : (answer : Answer) → Lasts (Left answer)

  module _ {P : Type 0} (asks : P → Call) (asked : P → P) (fed : P → Reply → After P Answer → Type 0) (slots : P → Open) (Inv : P → S → Type 0) (During : P → Reply → List LogItem → S → Type 0) (Left : Answer → S → Type 0) where
    -- the items that a Close still makes
    pub data Closed (o : Open) (answer : Answer) (s : S) : List LogItem → Type 0 where
      Unclosed : (slot : ℕ) → lowest o ≡ Some slot → Left answer s → Closed o answer s (items.Did me (calls.Close slot) replies.Done ∷ [])
      Shut : (slot : ℕ) → lowest o ≡ Some slot → Left answer s → Closed o answer s []

    abbrev pub WholeInv : Whole P → S → Type 0
    WholeInv (Going p) s = Inv p s
    WholeInv (Closing o answer) s = Left answer s
    WholeInv Spent s = ⊥

    abbrev pub WholeDuring : Whole P → Call → Reply → List LogItem → S → Type 0
    WholeDuring (Going p) call reply made s = During p reply made s
    WholeDuring (Closing o answer) call reply made s = Closed o answer s made
    WholeDuring Spent call reply made s = ⊥

    same_call : (a b : Call) → Ask a ≡ Ask b → a ≡ b
    same_call a b e = cc

    no_ask : {Q : Type 0} (a : Answer) (c : Call) → Done a ≡ Ask c → Q
    no_ask a c e = absurd cc

    makes_close : (o : Open) (slot : ℕ) (reply : Reply) (made : List LogItem) (answer : Answer) (s : S) → lowest o ≡ Some slot → Left answer s → Answers true (calls.Close slot) reply → Makes me true (calls.Close slot) reply made → Closed o answer s made
    makes_close o slot replies.Done made answer s is left fits makes = subst (Closed o answer s) (sym makes) (Unclosed slot is left)
    makes_close o slot reply made answer s is left fits makes = absurd fits

    enters_close : (o : Open) (at : Option ℕ) (answer : Answer) (call : Call) (reply : Reply) (made : List LogItem) (s : S) → lowest o ≡ at → Left answer s → close_at at answer ≡ Ask call → Answers true call reply → Makes me true call reply made → Closed o answer s made
    enters_close o (Some slot) answer call reply made s is left e fits makes =
        let same : calls.Close slot ≡ call = same_call (calls.Close slot) call e in
        makes_close o slot reply made answer s is left (subst (λ (c : Call). Answers true c reply) (sym same) fits) (subst (λ (c : Call). Makes me true c reply made) (sym same) makes)
    enters_close o None answer call reply made s is left e fits makes = no_ask answer call e

    module _ (kept : Kept asks asked fed Inv During Left Left) (ending : Closes Left) where
      enters_whole : (m : Whole P) (call : Call) (reply : Reply) (made : List LogItem) (s : S) → WholeInv m s → whole_asks asks m ≡ Ask call → Answers true call reply → Makes me true call reply made → WholeDuring m call reply made s
      enters_whole (Going p) call reply made s inv e fits makes =
          let same : asks p ≡ call = same_call (asks p) call e in
          kept.enters p reply made s inv (subst (λ (c : Call). Answers true c reply) (sym same) fits) (subst (λ (c : Call). Makes me true c reply made) (sym same) makes)
      enters_whole (Closing o answer) call reply made s left e fits makes = enters_close o (lowest o) answer call reply made s refl left e fits makes
      enters_whole Spent call reply made s inv e fits makes = absurd inv

      steps_closed : (o : Open) (answer : Answer) (x : LogItem) (made : List LogItem) (s : S) → Closed o answer s (x ∷ made) → IsLegal s x → Rule s x × Closed o answer (step s x) made
      steps_closed o answer x made s (Unclosed slot is left) legal =
          let g = ending.closing answer slot s left legal in
          (g.0, Shut slot is g.1)

      steps_whole : (m : Whole P) (call : Call) (reply : Reply) (x : LogItem) (made : List LogItem) (s : S) → WholeDuring m call reply (x ∷ made) s → IsLegal s x → Rule s x × WholeDuring m call reply made (step s x)
      steps_whole (Going p) call reply x made s d legal = kept.steps p reply x made s d legal
      steps_whole (Closing o answer) call reply x made s d legal = steps_closed o answer x made s d legal
      steps_whole Spent call reply x made s d legal = absurd d

      closed_on : (o : Open) (answer : Answer) (made : List LogItem) (x : LogItem) (s : S) → Closed o answer s made → is_own me x ≡ false → is_stop me.process x ≡ false → IsLegal s x → Rule s x → Closed o answer (step s x) made
      closed_on o answer made x s (Unclosed slot is left) other p l k = Unclosed slot is (ending.lasting answer x s left other p l k)
      closed_on o answer made x s (Shut slot is left) other p l k = Shut slot is (ending.lasting answer x s left other p l k)

      others_whole : (m : Whole P) (call : Call) (reply : Reply) (made : List LogItem) (x : LogItem) (s : S) → WholeDuring m call reply made s → is_own me x ≡ false → is_stop me.process x ≡ false → IsLegal s x → Rule s x → WholeDuring m call reply made (step s x)
      others_whole (Going p) call reply made x s d other q l k = kept.others p reply made x s d other q l k
      others_whole (Closing o answer) call reply made x s d other q l k = closed_on o answer made x s d other q l k
      others_whole Spent call reply made x s d other q l k = absurd d

      between_whole : (m : Whole P) (x : LogItem) (s : S) → WholeInv m s → is_own me x ≡ false → is_stop me.process x ≡ false → IsLegal s x → Rule s x → WholeInv m (step s x)
      between_whole (Going p) x s inv other q l k = kept.between p x s inv other q l k
      between_whole (Closing o answer) x s inv other q l k = ending.lasting answer x s inv other q l k
      between_whole Spent x s inv other q l k = absurd inv

      known_whole : (r : After P Answer) (s : S) → Known Inv Left r s → WholeInv (whole_of r) s
      known_whole (More p) s k = k
      known_whole (Over o answer) s k = k

      leaves_going : (p : P) (n : Whole P) (reply : Reply) (s : S) → During p reply [] s → GoingFed fed slots (asked p) reply n → WholeInv n s
      leaves_going p n replies.Failed s d e = subst (λ (m : Whole P). WholeInv m s) (sym e) (kept.faults p s d)
      leaves_going p n replies.NoMemory s d e = subst (λ (m : Whole P). WholeInv m s) (sym e) (kept.wants p s d)
      leaves_going p n reply s d e = subst (λ (m : Whole P). WholeInv m s) (sym e.2) (known_whole e.0 s (kept.leaves p reply e.0 s d tt e.1))

      leaves_closing : (o : Open) (answer : Answer) (n : Whole P) (reply : Reply) (s : S) → Closed o answer s [] → WholeFed fed slots (closing_at (lowest o) o answer) reply n → WholeInv n s
      leaves_closing o answer n reply s (Shut slot is left) f =
          let e : n ≡ Closing (closed o) answer = subst (λ (at : Option ℕ). WholeFed fed slots (closing_at at o answer) reply n) is f in
          subst (λ (m : Whole P). WholeInv m s) (sym e) left

      leaves_whole : (m n : Whole P) (call : Call) (reply : Reply) (s : S) → WholeDuring m call reply [] s → WholeFed fed slots (whole_asked asked m) reply n → WholeInv n s
      leaves_whole (Going p) n call reply s d f = leaves_going p n reply s d f
      leaves_whole (Closing o answer) n call reply s d f = leaves_closing o answer n reply s d f
      leaves_whole Spent n call reply s d f = absurd d

      -- what a part keeps, its whole machine keeps
      pub whole_keeps : Inductive (whole_asks asks) (whole_asked asked) (WholeFed fed slots) me step IsLegal Rule WholeInv WholeDuring
      whole_keeps = record { enters = enters_whole; steps = steps_whole; others = others_whole; between = between_whole; leaves = leaves_whole }

  -- ---- a part whose result is judged

  module _ {P J X Y : Type 0} (asks : P → Call) (asked : P → P) (fed : P → Reply → After P X → Type 0) (judges : J → X → Y → Type 0) (Inv : P → S → Type 0) (During : P → Reply → List LogItem → S → Type 0) (Given : X → S → Type 0) (Found : Y → S → Type 0) (Left : Answer → S → Type 0) (Of : J → Type 0)
      (kept : Kept asks asked fed Inv During Given Left) (finds : (j : J) (x : X) (y : Y) (s : S) → Of j → Given x s → judges j x y → Found y s) where
    abbrev pub JudgedInv : Judged P J → S → Type 0
    JudgedInv m s = Of m.judge × Inv m.part s

    abbrev pub JudgedDuring : Judged P J → Reply → List LogItem → S → Type 0
    JudgedDuring m reply made s = Of m.judge × During m.part reply made s

    judged_known : (j : J) (t : After P X) (r : After (Judged P J) Y) (s : S) → Of j → Known Inv Given t s → JudgedTo judges j t r → Known JudgedInv Found r s
    judged_known j (More p) r s of k e = subst (λ (q : After (Judged P J) Y). Known JudgedInv Found q s) (sym e) (of, k)
    judged_known j (Over o x) r s of k e = subst (λ (q : After (Judged P J) Y). Known JudgedInv Found q s) (sym e.2) (finds j x e.0 s of k e.1)

    -- what a part keeps it keeps where its result is judged
    pub judged_keeps : Kept (judged_asks asks) (judged_asked asked) (JudgedFed fed judges) JudgedInv JudgedDuring Found Left
    judged_keeps = record {
      enters = λ m reply made s inv fits makes. (inv.0, kept.enters m.part reply made s inv.1 fits makes);
      steps = λ m reply x made s d legal. let g = kept.steps m.part reply x made s d.1 legal in (g.0, (d.0, g.1));
      others = λ m reply made x s d other p l k. (d.0, kept.others m.part reply made x s d.1 other p l k);
      between = λ m x s inv other p l k. (inv.0, kept.between m.part x s inv.1 other p l k);
      leaves = λ m reply r s d good f. judged_known m.judge f.0 r s d.0 (kept.leaves m.part reply f.0 s d.1 good f.1) f.2;
      faults = λ m s d. kept.faults m.part s d.1;
      wants = λ m s d. kept.wants m.part s d.1;
    }

  -- ---- a part whose calls only look, so that each makes one item

  module _ {P T : Type 0} (asks : P → Call) (asked : P → P) (fed : P → Reply → After P T → Type 0) (Inv : P → S → Type 0) (Given : T → S → Type 0) (Left : Answer → S → Type 0) where
    -- what is known after a reply
    abbrev pub Then : P → Reply → S → Type 0
    Then p replies.Failed s = Left answers.FilesFault s
    Then p replies.NoMemory s = Left answers.NoMemory s
    Then p reply s = (r : After P T) → fed (asked p) reply r → Known Inv Given r s

    pub record Looks : Type 0 where
      pub looks : (p : P) → IsLooking (asks p)
      pub takes : (p : P) (reply : Reply) → Answers true (asks p) reply → Own (item_for me (asks p) reply) (Inv p) (Then p reply)
      pub between : (p : P) → Lasts (Inv p)
      pub given : (x : T) → Lasts (Given x)
      pub left : (answer : Answer) → Lasts (Left answer)

    -- the item that a call still makes
    pub data Doing (p : P) (reply : Reply) (s : S) : List LogItem → Type 0 where
      Before : Inv p s → Answers true (asks p) reply → Doing p reply s (item_for me (asks p) reply ∷ [])
      Made : Then p reply s → Doing p reply s []

    abbrev pub LookDuring : P → Reply → List LogItem → S → Type 0
    LookDuring p reply made s = Doing p reply s made

    module _ (look : Looks) where
      enters_look : (p : P) (reply : Reply) (made : List LogItem) (s : S) → Inv p s → Answers true (asks p) reply → Makes me true (asks p) reply made → Doing p reply s made
      enters_look p reply made s inv fits makes = subst (Doing p reply s) (sym (makes_one me (asks p) reply made (look.looks p) makes)) (Before inv fits)

      steps_look : (p : P) (reply : Reply) (x : LogItem) (made : List LogItem) (s : S) → Doing p reply s (x ∷ made) → IsLegal s x → Rule s x × Doing p reply (step s x) made
      steps_look p reply x made s (Before inv fits) legal =
          let g = look.takes p reply fits s inv legal in
          (g.0, Made g.1)

      known_lasts : (r : After P T) → Lasts (Known Inv Given r)
      known_lasts (More q) x s k other p l i = look.between q x s k other p l i
      known_lasts (Over o given) x s k other p l i = look.given given x s k other p l i

      then_lasts : (p : P) (reply : Reply) → Lasts (Then p reply)
      then_lasts p replies.Failed x s t other q l k = look.left answers.FilesFault x s t other q l k
      then_lasts p replies.NoMemory x s t other q l k = look.left answers.NoMemory x s t other q l k
      then_lasts p reply x s t other q l k = λ r f. known_lasts r x s (t r f) other q l k

      others_look : (p : P) (reply : Reply) (made : List LogItem) (x : LogItem) (s : S) → Doing p reply s made → is_own me x ≡ false → is_stop me.process x ≡ false → IsLegal s x → Rule s x → Doing p reply (step s x) made
      others_look p reply made x s (Before inv fits) other q l k = Before (look.between p x s inv other q l k) fits
      others_look p reply made x s (Made t) other q l k = Made (then_lasts p reply x s t other q l k)

      made_then : (p : P) (reply : Reply) (s : S) → Doing p reply s [] → Then p reply s
      made_then p reply s (Made t) = t

      good_then : (p : P) (reply : Reply) (r : After P T) (s : S) → IsGood reply → Then p reply s → fed (asked p) reply r → Known Inv Given r s
      good_then p replies.Failed r s good t f = absurd good
      good_then p replies.NoMemory r s good t f = absurd good
      good_then p reply r s good t f = t r f

      pub look_keeps : Kept asks asked fed Inv LookDuring Given Left
      look_keeps = record {
        enters = λ p reply made s inv fits makes. enters_look p reply made s inv fits makes;
        steps = λ p reply x made s d legal. steps_look p reply x made s d legal;
        others = λ p reply made x s d other q l k. others_look p reply made x s d other q l k;
        between = λ p x s inv other q l k. look.between p x s inv other q l k;
        leaves = λ p reply r s d good f. good_then p reply r s good (made_then p reply s d) f;
        faults = λ p s d. made_then p replies.Failed s d;
        wants = λ p s d. made_then p replies.NoMemory s d;
      }

  -- ---- a reading

  module _ {L : Type 0} (slot longest : ℕ) (name : L → Name) (file : L) (Start : S → Type 0) (Opened : List ℕ → S → Type 0) (Given : Option (List ℕ) → S → Type 0) (Left : Answer → S → Type 0) where
    abbrev did : Call → Reply → LogItem
    did call reply = items.Did me call reply

    -- what a seat that reads this file sees of it: opened with these bytes, which others leave alone, or not there
    pub record Sights : Type 0 where
      pub opens : Own (did (calls.OpenOld slot (name file)) replies.Done) Start (λ s. (bytes : List ℕ) × Opened bytes s)
      pub lacks : Own (did (calls.OpenOld slot (name file)) replies.Missing) Start (Given None)
      pub measures : (n : ℕ) (bytes : List ℕ) → Own (did (calls.Length slot) (replies.Number n)) (Opened bytes) (λ s. (n ≡ length bytes) × Opened bytes s)
      pub takes : (n : ℕ) (got bytes : List ℕ) → Own (did (calls.ReadAt slot 0 n) (replies.Got got)) (Opened bytes) (λ s. (got ≡ take n bytes) × Opened bytes s)
      pub long : (bytes : List ℕ) (s : S) → longest < length bytes → Opened bytes s → Given None s
      pub whole : (bytes : List ℕ) (s : S) → Opened bytes s → Given (Some bytes) s
      pub closes : (given : Option (List ℕ)) → Own (did (calls.Close slot) replies.Done) (Given given) (Given given)
      pub start_fails : Own (items.Failed me false) Start (Left answers.FilesFault)
      pub start_wants : Own (items.Failed me true) Start (Left answers.NoMemory)
      pub fails : (bytes : List ℕ) → Own (items.Failed me false) (Opened bytes) (Left answers.FilesFault)
      pub wants : (bytes : List ℕ) → Own (items.Failed me true) (Opened bytes) (Left answers.NoMemory)
      pub starts : Lasts Start
      pub opened : (bytes : List ℕ) → Lasts (Opened bytes)
      pub given : (x : Option (List ℕ)) → Lasts (Given x)
      pub left : (answer : Answer) → Lasts (Left answer)

    abbrev pub StageInv : Read → S → Type 0
    StageInv reads.Opening s = Start s
    StageInv reads.Measuring s = (bytes : List ℕ) × Opened bytes s
    StageInv (reads.Taking n) s = (bytes : List ℕ) × (n ≡ length bytes) × Opened bytes s
    StageInv (reads.Closing given) s = Given given s

    abbrev pub ReadInv : Reading L → S → Type 0
    ReadInv m s = (m.file ≡ file) × StageInv m.stage s

    abbrev pub ReadFed : Reading L → Reply → After (Reading L) (Option (List ℕ)) → Type 0
    ReadFed m reply r = r ≡ reading_next longest m reply

    abbrev ReadThen : Reading L → Reply → S → Type 0
    ReadThen m reply s = Then (reading_asks slot name) (λ p. p) ReadFed ReadInv Given Left m reply s

    -- from a stage on
    abbrev at : Open → Read → Reading L
    at base stage = record { file = file; base = base; stage = stage }

    abbrev Takes : Reading L → Reply → Type 0
    Takes m reply = Answers true (reading_asks slot name m) reply → Own (item_for me (reading_asks slot name m) reply) (ReadInv m) (ReadThen m reply)

    module _ (sights : Sights) where
      -- what a length leads to
      measured_known : (n : ℕ) (bytes : List ℕ) (s : S) → n ≡ length bytes → Opened bytes s → StageInv (measured longest n) s
      measured_known n bytes s len o = by_size (ltb longest n) refl
        where
          by_size : (b : Bool) → ltb longest n ≡ b → StageInv (cond b (reads.Closing None) (reads.Taking n)) s
          by_size true e = sights.long bytes s (subst (λ (k : ℕ). longest < k) len (ltb-true longest n e)) o
          by_size false e = (bytes, len, o)

      whole_got : (n : ℕ) (got bytes : List ℕ) → n ≡ length bytes → got ≡ take n bytes → got ≡ bytes
      whole_got n got bytes len e = e ∙ ap (λ (k : ℕ). take k bytes) len ∙ take-length bytes

      known : (r : After (Reading L) (Option (List ℕ))) (s : S) → Known ReadInv Given r s → (q : After (Reading L) (Option (List ℕ))) → q ≡ r → Known ReadInv Given q s
      known r s k q e = subst (λ (t : After (Reading L) (Option (List ℕ))). Known ReadInv Given t s) (sym e) k

      takes_at : (base : Open) (stage : Read) (reply : Reply) → Takes (at base stage) reply
      takes_at base reads.Opening replies.Done = λ fits s inv legal. let g = sights.opens s inv.1 legal in (g.0, known (More (at base reads.Measuring)) _ (refl, g.1))
      takes_at base reads.Opening replies.Missing = λ fits s inv legal. let g = sights.lacks s inv.1 legal in (g.0, known (Over base None) _ g.1)
      takes_at base reads.Opening replies.Failed = λ fits s inv legal. sights.start_fails s inv.1 legal
      takes_at base reads.Opening replies.NoMemory = λ fits s inv legal. sights.start_wants s inv.1 legal
      takes_at base reads.Opening reply = λ fits s inv legal. absurd fits
      takes_at base reads.Measuring (replies.Number n) = λ fits s inv legal.
          let g = sights.measures n inv.1.0 s inv.1.1 legal in
          (g.0, known (More (at base (measured longest n))) _ (refl, measured_known n inv.1.0 _ g.1.0 g.1.1))
      takes_at base reads.Measuring replies.Failed = λ fits s inv legal. sights.fails inv.1.0 s inv.1.1 legal
      takes_at base reads.Measuring replies.NoMemory = λ fits s inv legal. sights.wants inv.1.0 s inv.1.1 legal
      takes_at base reads.Measuring reply = λ fits s inv legal. absurd fits
      takes_at base (reads.Taking n) (replies.Got got) = λ fits s inv legal.
          let g = sights.takes n got inv.1.0 s inv.1.2 legal in
          let same : got ≡ inv.1.0 = whole_got n got inv.1.0 inv.1.1 g.1.0 in
          (g.0, known (More (at base (reads.Closing (Some got)))) _ (refl, subst (λ (b : List ℕ). Given (Some b) _) (sym same) (sights.whole inv.1.0 _ g.1.1)))
      takes_at base (reads.Taking n) replies.Failed = λ fits s inv legal. sights.fails inv.1.0 s inv.1.2 legal
      takes_at base (reads.Taking n) replies.NoMemory = λ fits s inv legal. sights.wants inv.1.0 s inv.1.2 legal
      takes_at base (reads.Taking n) reply = λ fits s inv legal. absurd fits
      takes_at base (reads.Closing given) replies.Done = λ fits s inv legal. let g = sights.closes given s inv.1 legal in (g.0, known (Over base given) _ g.1)
      takes_at base (reads.Closing given) reply = λ fits s inv legal. absurd fits

      takes_read : (m : Reading L) (reply : Reply) → Takes m reply
      takes_read m reply = λ fits s inv legal.
          let same : at m.base m.stage ≡ m = ap (λ (f : L). record { file = f; base = m.base; stage = m.stage }) (sym inv.0) in
          subst (λ (k : Reading L). Takes k reply) same (takes_at m.base m.stage reply) fits s inv legal

      stage_lasts : (stage : Read) → Lasts (StageInv stage)
      stage_lasts reads.Opening x s inv other p l k = sights.starts x s inv other p l k
      stage_lasts reads.Measuring x s inv other p l k = (inv.0, sights.opened inv.0 x s inv.1 other p l k)
      stage_lasts (reads.Taking n) x s inv other p l k = (inv.0, inv.1, sights.opened inv.0 x s inv.2 other p l k)
      stage_lasts (reads.Closing given) x s inv other p l k = sights.given given x s inv other p l k

      looks_in : (stage : Read) (n : Name) → IsLooking (asks_in slot n stage)
      looks_in reads.Opening n = tt
      looks_in reads.Measuring n = tt
      looks_in (reads.Taking length) n = tt
      looks_in (reads.Closing given) n = tt

      reading_looks : Looks (reading_asks slot name) (λ p. p) ReadFed ReadInv Given Left
      reading_looks = record {
        looks = λ m. looks_in m.stage (name m.file);
        takes = λ m reply fits s inv legal. takes_read m reply fits s inv legal;
        between = λ m x s inv other p l k. (inv.0, stage_lasts m.stage x s inv.1 other p l k);
        given = λ g x s inv other p l k. sights.given g x s inv other p l k;
        left = λ answer x s inv other p l k. sights.left answer x s inv other p l k;
      }

      abbrev pub ReadDuring : Reading L → Reply → List LogItem → S → Type 0
      ReadDuring m reply made s = LookDuring (reading_asks slot name) (λ p. p) ReadFed ReadInv Given Left m reply made s

      -- what a reading gives are the bytes that the file had as it was opened, or that it isn't there, or too long
      pub reading_keeps : Kept (reading_asks slot name) (λ p. p) ReadFed ReadInv ReadDuring Given Left
      reading_keeps = look_keeps (reading_asks slot name) (λ p. p) ReadFed ReadInv Given Left reading_looks
