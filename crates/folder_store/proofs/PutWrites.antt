-- The write of a put, byte by byte.
use Rattle.std.proofs.Common.{◌≡◌, ◌≤◌, ◌+◌, ℕ, Bool, true, false, cond, nat_eq, List, [], ◌∷◌, ◌++◌, length, take, drop, refl, sym, ap, ◌∙◌, subst, append_assoc, arith}
use Rattle.std.proofs.Math.Seq.{take-length}
use Rattle.std.proofs.lemmas.List.{append-nil, drop_all, length_push}
use Rattle.cache_types.specs.declared.answer.Answer.TheVariants as answers
use Rattle.file_log.specs.declared.call.Call.TheVariants as calls
use Rattle.file_log.specs.declared.item.LogItem.{LogItem}
use Rattle.file_log.specs.declared.item.LogItem.TheVariants.{Did, Byte, Failed}
use Rattle.file_log.specs.declared.reply.Reply.{Reply}
use Rattle.file_log.specs.declared.reply.Reply.TheVariants as replies
use Rattle.file_log.specs.Exchange.{byte_items}
use Rattle.file_log.specs.Legal.{IsLegal}
use Rattle.file_log.specs.Writing.{written}
use Rattle.file_log.proofs.All.{seat_self}
use Rattle.file_log.proofs.Writing.{reached}
use Rattle.folder_store.specs.declared.put_phase.Besides.TheVariants.{LockAndTemp}
use Rattle.folder_store.specs.declared.put_phase.PutPhase.{PutPhase}
use Rattle.folder_store.specs.declared.put_phase.PutPhase.TheVariants.{Writing, Renaming}
use Rattle.folder_store.specs.PutPhases.{closing}
use Rattle.folder_store.proofs.PutDisks.{writing_apart, writing_has}
use Rattle.folder_store.proofs.PutKnown.{Job, Place, step, Base, Going, HasWritten, KnowsAt, rests_goes, going_on}
use Rattle.folder_store.proofs.PutRules.{IsRight, Changed, changed}
use Rattle.folder_store.proofs.PutMakes.{MakesIn}
use Rattle.folder_store.proofs.PutSteps.{AnswersIn, asks_at, Follows, into, closing_knows, going_excused, failed}

-- a byte at the end of a file
pub written_end : (done : List ℕ) (value : ℕ) → written (length done) (value ∷ []) done ≡ done ++ value ∷ []
written_end done value =
    let within : length done ≤ length done = omega arith in
    let behind : length done ≤ length done + 1 = omega arith in
    ap (λ (l : List ℕ). take (length done) l ++ (value ∷ drop (length done + 1) done)) (reached (length done) done within)
    ∙ ap (λ (l : List ℕ). l ++ (value ∷ drop (length done + 1) done)) (take-length done)
    ∙ ap (λ (l : List ℕ). done ++ (value ∷ l)) (drop_all (length done + 1) done behind)

module _ (j : Job) where
  -- the items that a write with this reply still makes, once these bytes are written
  abbrev pub Writes : Reply → List ℕ → List LogItem → Type 0
  Writes replies.Done done made = (left : List ℕ) × (j.item ≡ done ++ left) × (made ≡ byte_items j.me 3 (length done) left)
  Writes replies.Failed done made = (left : List ℕ) × (made ≡ byte_items j.me 3 (length done) left ++ Failed j.me false ∷ [])
  Writes replies.NoMemory done made = (left : List ℕ) × (made ≡ byte_items j.me 3 (length done) left ++ Failed j.me true ∷ [])
  Writes reply done made = ⊥

  -- what is known within a call, with the items that it still makes
  abbrev pub Doing : PutPhase → List ℕ → Reply → List LogItem → Place → Type 0
  Doing phase bytes reply [] p = Follows j phase bytes reply p
  Doing (Writing entry) bytes reply (x ∷ made) p = Going j p × ((done : List ℕ) × HasWritten j p done × Writes reply done (x ∷ made))
  Doing phase bytes reply (x ∷ made) p = KnowsAt j phase bytes p × AnswersIn (asks_at j phase bytes) reply × MakesIn j.me (asks_at j phase bytes) reply (x ∷ made)

  -- an own item is right, and the call goes on
  pub record Moved (phase : PutPhase) (bytes : List ℕ) (reply : Reply) (p : Place) (x : LogItem) (made : List LogItem) : Type 0 where
    pub right : IsRight j p x
    pub base : Base j (step j.me p x)
    pub does : Doing phase bytes reply made (step j.me p x)

  abbrev pub Moves : PutPhase → List ℕ → Reply → Place → LogItem → List LogItem → Type 0
  Moves phase bytes reply p x made = IsLegal p.state x → Moved phase bytes reply p x made

  -- ---- what is still to be written

  done_next : (entry : Bool) (bytes : List ℕ) (p : Place) (done left : List ℕ) → Going j p → HasWritten j p done → j.item ≡ done ++ left → Doing (Writing entry) bytes replies.Done (byte_items j.me 3 (length done) left) p
  done_next entry bytes p done [] g h e = into j (Renaming entry) [] p (g, subst (HasWritten j p) (sym (e ∙ append-nil done)) h)
  done_next entry bytes p done (v ∷ vs) g h e = (g, (done, h, (v ∷ vs, e, refl)))

  failed_next : (entry : Bool) (bytes : List ℕ) (p : Place) (done left : List ℕ) → Going j p → HasWritten j p done → Doing (Writing entry) bytes replies.Failed (byte_items j.me 3 (length done) left ++ Failed j.me false ∷ []) p
  failed_next entry bytes p done [] g h = (g, (done, h, ([], refl)))
  failed_next entry bytes p done (v ∷ vs) g h = (g, (done, h, (v ∷ vs, refl)))

  refused_next : (entry : Bool) (bytes : List ℕ) (p : Place) (done left : List ℕ) → Going j p → HasWritten j p done → Doing (Writing entry) bytes replies.NoMemory (byte_items j.me 3 (length done) left ++ Failed j.me true ∷ []) p
  refused_next entry bytes p done [] g h = (g, (done, h, ([], refl)))
  refused_next entry bytes p done (v ∷ vs) g h = (g, (done, h, (v ∷ vs, refl)))

  -- ---- one item

  abbrev byte : List ℕ → ℕ → LogItem
  byte done v = Byte j.me 3 (length done) v

  byte_is : (p : Place) (done : List ℕ) (v : ℕ) → Base j p → HasWritten j p done → Changed j p (byte done v)
  byte_is p done v b h = changed j p (byte done v) b (seat_self j.me) refl refl refl tt tt (writing_apart j.me j.root j.key p.state.disk done (written (length done) (v ∷ [])) b.tidy h)

  byte_has : (p : Place) (done : List ℕ) (v : ℕ) → HasWritten j p done → HasWritten j (step j.me p (byte done v)) (done ++ v ∷ [])
  byte_has p done v h = subst (HasWritten j (step j.me p (byte done v))) (written_end done v) (writing_has j.me j.root j.key p.state.disk done (written (length done) (v ∷ [])) h)

  -- a byte is written, whatever is made then
  byte_moves : (entry : Bool) (bytes : List ℕ) (reply : Reply) (p : Place) (done : List ℕ) (v : ℕ) (made : ℕ → List LogItem) (x : LogItem) (rest : List LogItem) → Base j p → Going j p → HasWritten j p done → x ∷ rest ≡ byte done v ∷ made (length done + 1)
      → (let p' : Place = step j.me p (byte done v) in Going j p' → HasWritten j p' (done ++ v ∷ []) → Doing (Writing entry) bytes reply (made (length (done ++ v ∷ []))) p') → Moves (Writing entry) bytes reply p x rest
  byte_moves entry bytes reply p done v made x rest b g h e goes =
      let c = byte_is p done v b h in
      let p' : Place = step j.me p (byte done v) in
      let does = goes (going_on j p p' c.goes g) (byte_has p done v h) in
      let same : byte done v ≡ x = cc in
      let more : made (length done + 1) ≡ rest = cc in
      let moves : Moves (Writing entry) bytes reply p (byte done v) (made (length done + 1)) =
      λ legal. record { right = c.right; base = c.base; does = subst (λ (n : ℕ). Doing (Writing entry) bytes reply (made n) p') (length_push done v) does } in
      subst (λ (y : LogItem). Moves (Writing entry) bytes reply p y rest) same (subst (Moves (Writing entry) bytes reply p (byte done v)) more moves)

  -- the write failed
  fault_moves : (entry : Bool) (bytes : List ℕ) (memory : Bool) (reply : Reply) (p : Place) (x : LogItem) (rest : List LogItem) → Base j p → Going j p → x ∷ rest ≡ Failed j.me memory ∷ []
      → (let p' : Place = step j.me p (Failed j.me memory) in Going j p' → Follows j (Writing entry) bytes reply p') → Moves (Writing entry) bytes reply p x rest
  fault_moves entry bytes memory reply p x rest b g e follows =
      let f = failed j memory p b in
      let p' : Place = step j.me p (Failed j.me memory) in
      let same : Failed j.me memory ≡ x = cc in
      let none : [] ≡ rest = cc in
      let moves : Moves (Writing entry) bytes reply p (Failed j.me memory) [] =
      λ legal. record { right = f.right; base = f.base; does = follows (going_on j p p' (rests_goes j p p' f.rests) g) } in
      subst (λ (y : LogItem). Moves (Writing entry) bytes reply p y rest) same (subst (Moves (Writing entry) bytes reply p (Failed j.me memory)) none moves)

  done_moves : (entry : Bool) (bytes : List ℕ) (p : Place) (x : LogItem) (rest : List LogItem) (done left : List ℕ) → Base j p → Going j p → HasWritten j p done → j.item ≡ done ++ left → x ∷ rest ≡ byte_items j.me 3 (length done) left → Moves (Writing entry) bytes replies.Done p x rest
  done_moves entry bytes p x rest done [] b g h e ms = absurd cc
  done_moves entry bytes p x rest done (v ∷ vs) b g h e ms =
      let p' : Place = step j.me p (byte done v) in
      byte_moves entry bytes replies.Done p done v (λ n. byte_items j.me 3 n vs) x rest b g h ms (λ g' h'. done_next entry bytes p' (done ++ v ∷ []) vs g' h' (e ∙ sym (append_assoc done (v ∷ []) vs)))

  failed_moves : (entry : Bool) (bytes : List ℕ) (p : Place) (x : LogItem) (rest : List LogItem) (done left : List ℕ) → Base j p → Going j p → HasWritten j p done → x ∷ rest ≡ byte_items j.me 3 (length done) left ++ Failed j.me false ∷ [] → Moves (Writing entry) bytes replies.Failed p x rest
  failed_moves entry bytes p x rest done [] b g h ms =
      let p' : Place = step j.me p (Failed j.me false) in
      fault_moves entry bytes false replies.Failed p x rest b g ms (λ g'. into j (closing answers.FilesFault entry LockAndTemp) [] p' (closing_knows j answers.FilesFault entry LockAndTemp [] p' (going_excused j p' g')))
  failed_moves entry bytes p x rest done (v ∷ vs) b g h ms =
      let p' : Place = step j.me p (byte done v) in
      byte_moves entry bytes replies.Failed p done v (λ n. byte_items j.me 3 n vs ++ Failed j.me false ∷ []) x rest b g h ms (λ g' h'. failed_next entry bytes p' (done ++ v ∷ []) vs g' h')

  refused_moves : (entry : Bool) (bytes : List ℕ) (p : Place) (x : LogItem) (rest : List LogItem) (done left : List ℕ) → Base j p → Going j p → HasWritten j p done → x ∷ rest ≡ byte_items j.me 3 (length done) left ++ Failed j.me true ∷ [] → Moves (Writing entry) bytes replies.NoMemory p x rest
  refused_moves entry bytes p x rest done [] b g h ms =
      let p' : Place = step j.me p (Failed j.me true) in
      fault_moves entry bytes true replies.NoMemory p x rest b g ms (λ g'. into j (closing answers.NoMemory entry LockAndTemp) [] p' (closing_knows j answers.NoMemory entry LockAndTemp [] p' (going_excused j p' g')))
  refused_moves entry bytes p x rest done (v ∷ vs) b g h ms =
      let p' : Place = step j.me p (byte done v) in
      byte_moves entry bytes replies.NoMemory p done v (λ n. byte_items j.me 3 n vs ++ Failed j.me true ∷ []) x rest b g h ms (λ g' h'. refused_next entry bytes p' (done ++ v ∷ []) vs g' h')

  pub writing : (entry : Bool) (bytes : List ℕ) (reply : Reply) (p : Place) (x : LogItem) (rest : List LogItem) → Base j p → Doing (Writing entry) bytes reply (x ∷ rest) p → Moves (Writing entry) bytes reply p x rest
  writing entry bytes replies.Done p x rest b k = done_moves entry bytes p x rest k.1.0 k.1.2.0 b k.0 k.1.1 k.1.2.1 k.1.2.2
  writing entry bytes replies.Failed p x rest b k = failed_moves entry bytes p x rest k.1.0 k.1.2.0 b k.0 k.1.1 k.1.2.1
  writing entry bytes replies.NoMemory p x rest b k = refused_moves entry bytes p x rest k.1.0 k.1.2.0 b k.0 k.1.1 k.1.2.1
  writing entry bytes reply p x rest b k = absurd k.1.2

  -- ---- its begin

  -- an item that is not empty is written byte by byte
  item_bytes : nat_eq (length j.item) 0 ≡ false → (made : List LogItem) → made ≡ cond (nat_eq (length j.item) 0) (Did j.me (calls.WriteAt 3 0 j.item) replies.Done ∷ []) (byte_items j.me 3 0 j.item) → byte_items j.me 3 0 j.item ≡ made
  item_bytes filled made e = sym (e ∙ ap (λ (t : Bool). cond t (Did j.me (calls.WriteAt 3 0 j.item) replies.Done ∷ []) (byte_items j.me 3 0 j.item)) filled)

  starts : (entry : Bool) (reply : Reply) (made : List LogItem) (p : Place) → nat_eq (length j.item) 0 ≡ false → Going j p → HasWritten j p [] → AnswersIn (asks_at j (Writing entry) j.item) reply → MakesIn j.me (asks_at j (Writing entry) j.item) reply made → Doing (Writing entry) j.item reply made p
  starts entry replies.Done made p filled g h a ms = subst (λ (l : List LogItem). Doing (Writing entry) j.item replies.Done l p) (item_bytes filled made ms) (done_next entry j.item p [] j.item g h refl)
  starts entry replies.Failed made p filled g h a ms = subst (λ (l : List LogItem). Doing (Writing entry) j.item replies.Failed l p) (sym ms.1) (failed_next entry j.item p [] (take ms.0 j.item) g h)
  starts entry replies.NoMemory made p filled g h a ms = subst (λ (l : List LogItem). Doing (Writing entry) j.item replies.NoMemory l p) (sym ms.1) (refused_next entry j.item p [] (take ms.0 j.item) g h)
  starts entry reply made p filled g h a ms = absurd a

  pub writing_starts : (entry : Bool) (bytes : List ℕ) (reply : Reply) (made : List LogItem) (p : Place) → nat_eq (length j.item) 0 ≡ false → KnowsAt j (Writing entry) bytes p → AnswersIn (asks_at j (Writing entry) bytes) reply → MakesIn j.me (asks_at j (Writing entry) bytes) reply made → Doing (Writing entry) bytes reply made p
  writing_starts entry bytes reply made p filled k a ms =
      let at_item : MakesIn j.me (asks_at j (Writing entry) j.item) reply made = subst (λ (b : List ℕ). MakesIn j.me (asks_at j (Writing entry) b) reply made) k.0 ms in
      let fits : AnswersIn (asks_at j (Writing entry) j.item) reply = subst (λ (b : List ℕ). AnswersIn (asks_at j (Writing entry) b) reply) k.0 a in
      subst (λ (b : List ℕ). Doing (Writing entry) b reply made p) (sym k.0) (starts entry reply made p filled k.1 k.2 fits at_item)
