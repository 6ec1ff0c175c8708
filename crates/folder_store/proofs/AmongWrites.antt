-- The write of a put, byte by byte, among seats that keep the rules.
use Rattle.std.proofs.Common.{◌≡◌, ◌+◌, ℕ, Bool, true, false, cond, nat_eq, List, [], ◌∷◌, ◌++◌, length, take, refl, sym, ap, ◌∙◌, subst, append_assoc}
use Rattle.std.proofs.lemmas.List.{append-nil, length_push}
use Rattle.cache_types.specs.declared.answer.Answer.TheVariants as answers
use Rattle.file_log.specs.declared.call.Call.TheVariants as calls
use Rattle.file_log.specs.declared.item.LogItem.{LogItem}
use Rattle.file_log.specs.declared.item.LogItem.TheVariants.{Did, Byte, Failed}
use Rattle.file_log.specs.declared.reply.Reply.{Reply}
use Rattle.file_log.specs.declared.reply.Reply.TheVariants as replies
use Rattle.file_log.specs.Exchange.{byte_items}
use Rattle.file_log.specs.Log.{History}
use Rattle.file_log.specs.State.{disk_of}
use Rattle.file_log.specs.Writing.{written}
use Rattle.seat_rules.specs.Changes.{with_item}
use Rattle.layout_rules.specs.Rules.{KeepsRules}
use Rattle.folder_store.specs.declared.put_phase.Besides.TheVariants.{LockAndTemp}
use Rattle.folder_store.specs.declared.put_phase.PutPhase.{PutPhase}
use Rattle.folder_store.specs.declared.put_phase.PutPhase.TheVariants.{Writing, Renaming}
use Rattle.folder_store.specs.Put.{NamesFront}
use Rattle.folder_store.specs.PutPhases.{closing}
use Rattle.folder_store.proofs.AmongChanges.{changed}
use Rattle.folder_store.proofs.AmongKnown.{Task, In, Going, HasWritten, KnowsAt}
use Rattle.folder_store.proofs.PutMakes.{MakesIn}
use Rattle.folder_store.proofs.AmongSteps.{asks_at, Follows, into, closing_knows, failed_now, fails}
use Rattle.folder_store.proofs.Keeping.{CanFollow, Within, within_inner}
use Rattle.folder_store.proofs.PutSteps.{AnswersIn}
use Rattle.folder_store.proofs.PutWrites.{written_end}

module _ (t : Task) where
  -- the items that a write with this reply still makes, once these bytes are written
  abbrev pub Writes : Reply → List ℕ → List LogItem → Type 0
  Writes replies.Done done made = (left : List ℕ) × (t.item ≡ done ++ left) × (made ≡ byte_items t.me 3 (length done) left)
  Writes replies.Failed done made = (left : List ℕ) × (made ≡ byte_items t.me 3 (length done) left ++ Failed t.me false ∷ [])
  Writes replies.NoMemory done made = (left : List ℕ) × (made ≡ byte_items t.me 3 (length done) left ++ Failed t.me true ∷ [])
  Writes reply done made = ⊥

  -- what is known within a call, with the items that it still makes
  abbrev pub Doing : PutPhase → List ℕ → Reply → List LogItem → History → Type 0
  Doing phase bytes reply [] h = Follows t phase bytes reply h
  Doing (Writing also) bytes reply (x ∷ made) h = Going t h × ((done : List ℕ) × HasWritten t h done × Writes reply done (x ∷ made))
  Doing phase bytes reply (x ∷ made) h = KnowsAt t phase bytes h × AnswersIn (asks_at t phase bytes) reply × MakesIn t.me (asks_at t phase bytes) reply (x ∷ made)

  -- an own item keeps the rules, and the call goes on
  pub record Moved (phase : PutPhase) (bytes : List ℕ) (reply : Reply) (h : History) (x : LogItem) (made : List LogItem) : Type 0 where
    pub rules : KeepsRules h x
    pub within : Within t.me x
    pub evicts : NamesFront t.root t.key (disk_of h) x
    pub does : Doing phase bytes reply made (with_item h x)

  abbrev pub Moves : PutPhase → List ℕ → Reply → History → LogItem → List LogItem → Type 0
  Moves phase bytes reply h x made = CanFollow h x → Moved phase bytes reply h x made

  -- ---- what is still to be written

  done_next : (also : Bool) (bytes : List ℕ) (h : History) (done left : List ℕ) → Going t h → HasWritten t h done → t.item ≡ done ++ left → Doing (Writing also) bytes replies.Done (byte_items t.me 3 (length done) left) h
  done_next also bytes h done [] g w e = into t (Renaming also) [] h (g, subst (HasWritten t h) (sym (e ∙ append-nil done)) w)
  done_next also bytes h done (v ∷ vs) g w e = (g, (done, w, (v ∷ vs, e, refl)))

  failed_next : (also : Bool) (bytes : List ℕ) (h : History) (done left : List ℕ) → Going t h → HasWritten t h done → Doing (Writing also) bytes replies.Failed (byte_items t.me 3 (length done) left ++ Failed t.me false ∷ []) h
  failed_next also bytes h done [] g w = (g, (done, w, ([], refl)))
  failed_next also bytes h done (v ∷ vs) g w = (g, (done, w, (v ∷ vs, refl)))

  refused_next : (also : Bool) (bytes : List ℕ) (h : History) (done left : List ℕ) → Going t h → HasWritten t h done → Doing (Writing also) bytes replies.NoMemory (byte_items t.me 3 (length done) left ++ Failed t.me true ∷ []) h
  refused_next also bytes h done [] g w = (g, (done, w, ([], refl)))
  refused_next also bytes h done (v ∷ vs) g w = (g, (done, w, (v ∷ vs, refl)))

  -- ---- one item

  abbrev byte : List ℕ → ℕ → LogItem
  byte done v = Byte t.me 3 (length done) v

  -- a byte is written, whatever is made then
  byte_moves : (also : Bool) (bytes : List ℕ) (reply : Reply) (h : History) (done : List ℕ) (v : ℕ) (made : ℕ → List LogItem) (x : LogItem) (rest : List LogItem) → In t h → Going t h → HasWritten t h done → x ∷ rest ≡ byte done v ∷ made (length done + 1)
      → (let h' : History = with_item h (byte done v) in Going t h' → HasWritten t h' (done ++ v ∷ []) → Doing (Writing also) bytes reply (made (length (done ++ v ∷ []))) h') → Moves (Writing also) bytes reply h x rest
  byte_moves also bytes reply h done v made x rest i g w e goes =
      let y : LogItem = byte done v in
      let h' : History = with_item h y in
      let c = changed t h y done (written (length done) (v ∷ [])) i refl refl tt refl g w in
      let does = goes c.going (subst (HasWritten t h') (written_end done v) c.written) in
      let same : y ≡ x = cc in
      let more : made (length done + 1) ≡ rest = cc in
      let moves : Moves (Writing also) bytes reply h y (made (length done + 1)) =
      λ legal. record { rules = c.rules; within = within_inner t.me y refl; evicts = tt; does = subst (λ (n : ℕ). Doing (Writing also) bytes reply (made n) h') (length_push done v) does } in
      subst (λ (z : LogItem). Moves (Writing also) bytes reply h z rest) same (subst (Moves (Writing also) bytes reply h y) more moves)

  -- the write failed
  fault_moves : (also : Bool) (bytes : List ℕ) (memory : Bool) (reply : Reply) (h : History) (x : LogItem) (rest : List LogItem) → In t h → x ∷ rest ≡ Failed t.me memory ∷ []
      → ((legal : CanFollow h (Failed t.me memory)) → Moved (Writing also) bytes reply h (Failed t.me memory) []) → Moves (Writing also) bytes reply h x rest
  fault_moves also bytes memory reply h x rest i e moves =
      let same : Failed t.me memory ≡ x = cc in
      let none : [] ≡ rest = cc in
      subst (λ (y : LogItem). Moves (Writing also) bytes reply h y rest) same (subst (Moves (Writing also) bytes reply h (Failed t.me memory)) none moves)

  done_moves : (also : Bool) (bytes : List ℕ) (h : History) (x : LogItem) (rest : List LogItem) (done left : List ℕ) → In t h → Going t h → HasWritten t h done → t.item ≡ done ++ left → x ∷ rest ≡ byte_items t.me 3 (length done) left → Moves (Writing also) bytes replies.Done h x rest
  done_moves also bytes h x rest done [] i g w e ms = absurd cc
  done_moves also bytes h x rest done (v ∷ vs) i g w e ms =
      let h' : History = with_item h (byte done v) in
      byte_moves also bytes replies.Done h done v (λ n. byte_items t.me 3 n vs) x rest i g w ms (λ g' w'. done_next also bytes h' (done ++ v ∷ []) vs g' w' (e ∙ sym (append_assoc done (v ∷ []) vs)))

  failed_moves : (also : Bool) (bytes : List ℕ) (h : History) (x : LogItem) (rest : List LogItem) (done left : List ℕ) → In t h → Going t h → HasWritten t h done → x ∷ rest ≡ byte_items t.me 3 (length done) left ++ Failed t.me false ∷ [] → Moves (Writing also) bytes replies.Failed h x rest
  failed_moves also bytes h x rest done [] i g w ms = fault_moves also bytes false replies.Failed h x rest i ms (λ legal.
      let f = fails t false (Writing also) bytes replies.Failed h i (failed_now t h i) (λ h' e. into t (closing answers.FilesFault also LockAndTemp) [] h' (closing_knows t answers.FilesFault also LockAndTemp [] h' e)) legal in
      record { rules = f.rules; within = f.within; evicts = tt; does = f.follows })
  failed_moves also bytes h x rest done (v ∷ vs) i g w ms =
      let h' : History = with_item h (byte done v) in
      byte_moves also bytes replies.Failed h done v (λ n. byte_items t.me 3 n vs ++ Failed t.me false ∷ []) x rest i g w ms (λ g' w'. failed_next also bytes h' (done ++ v ∷ []) vs g' w')

  refused_moves : (also : Bool) (bytes : List ℕ) (h : History) (x : LogItem) (rest : List LogItem) (done left : List ℕ) → In t h → Going t h → HasWritten t h done → x ∷ rest ≡ byte_items t.me 3 (length done) left ++ Failed t.me true ∷ [] → Moves (Writing also) bytes replies.NoMemory h x rest
  refused_moves also bytes h x rest done [] i g w ms = fault_moves also bytes true replies.NoMemory h x rest i ms (λ legal.
      let f = fails t true (Writing also) bytes replies.NoMemory h i tt (λ h' e. into t (closing answers.NoMemory also LockAndTemp) [] h' (closing_knows t answers.NoMemory also LockAndTemp [] h' e)) legal in
      record { rules = f.rules; within = f.within; evicts = tt; does = f.follows })
  refused_moves also bytes h x rest done (v ∷ vs) i g w ms =
      let h' : History = with_item h (byte done v) in
      byte_moves also bytes replies.NoMemory h done v (λ n. byte_items t.me 3 n vs ++ Failed t.me true ∷ []) x rest i g w ms (λ g' w'. refused_next also bytes h' (done ++ v ∷ []) vs g' w')

  pub writing : (also : Bool) (bytes : List ℕ) (reply : Reply) (h : History) (x : LogItem) (rest : List LogItem) → In t h → Doing (Writing also) bytes reply (x ∷ rest) h → Moves (Writing also) bytes reply h x rest
  writing also bytes replies.Done h x rest i k = done_moves also bytes h x rest k.1.0 k.1.2.0 i k.0 k.1.1 k.1.2.1 k.1.2.2
  writing also bytes replies.Failed h x rest i k = failed_moves also bytes h x rest k.1.0 k.1.2.0 i k.0 k.1.1 k.1.2.1
  writing also bytes replies.NoMemory h x rest i k = refused_moves also bytes h x rest k.1.0 k.1.2.0 i k.0 k.1.1 k.1.2.1
  writing also bytes reply h x rest i k = absurd k.1.2

  -- ---- its begin

  -- an item that is not empty is written byte by byte
  item_bytes : nat_eq (length t.item) 0 ≡ false → (made : List LogItem) → made ≡ cond (nat_eq (length t.item) 0) (Did t.me (calls.WriteAt 3 0 t.item) replies.Done ∷ []) (byte_items t.me 3 0 t.item) → byte_items t.me 3 0 t.item ≡ made
  item_bytes filled made e = sym (e ∙ ap (λ (b : Bool). cond b (Did t.me (calls.WriteAt 3 0 t.item) replies.Done ∷ []) (byte_items t.me 3 0 t.item)) filled)

  starts : (also : Bool) (reply : Reply) (made : List LogItem) (h : History) → nat_eq (length t.item) 0 ≡ false → Going t h → HasWritten t h [] → AnswersIn (asks_at t (Writing also) t.item) reply → MakesIn t.me (asks_at t (Writing also) t.item) reply made → Doing (Writing also) t.item reply made h
  starts also replies.Done made h filled g w a ms = subst (λ (l : List LogItem). Doing (Writing also) t.item replies.Done l h) (item_bytes filled made ms) (done_next also t.item h [] t.item g w refl)
  starts also replies.Failed made h filled g w a ms = subst (λ (l : List LogItem). Doing (Writing also) t.item replies.Failed l h) (sym ms.1) (failed_next also t.item h [] (take ms.0 t.item) g w)
  starts also replies.NoMemory made h filled g w a ms = subst (λ (l : List LogItem). Doing (Writing also) t.item replies.NoMemory l h) (sym ms.1) (refused_next also t.item h [] (take ms.0 t.item) g w)
  starts also reply made h filled g w a ms = absurd a

  pub writing_starts : (also : Bool) (bytes : List ℕ) (reply : Reply) (made : List LogItem) (h : History) → nat_eq (length t.item) 0 ≡ false → KnowsAt t (Writing also) bytes h → AnswersIn (asks_at t (Writing also) bytes) reply → MakesIn t.me (asks_at t (Writing also) bytes) reply made → Doing (Writing also) bytes reply made h
  writing_starts also bytes reply made h filled k a ms =
      let at_item : MakesIn t.me (asks_at t (Writing also) t.item) reply made = subst (λ (b : List ℕ). MakesIn t.me (asks_at t (Writing also) b) reply made) k.0 ms in
      let fits : AnswersIn (asks_at t (Writing also) t.item) reply = subst (λ (b : List ℕ). AnswersIn (asks_at t (Writing also) b) reply) k.0 a in
      subst (λ (b : List ℕ). Doing (Writing also) b reply made h) (sym k.0) (starts also reply made h filled k.1 k.2 fits at_item)
