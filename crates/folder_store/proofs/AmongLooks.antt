-- The calls of a put that look at the entry, among seats that keep the rules.
use Rattle.std.proofs.Common.{◌≡◌, inl, inr, ℕ, Bool, true, false, cond, ltb, List, ◌∷◌, length, take, drop, Option, Some, None, refl, sym, ap, ◌∙◌, subst}
use Rattle.std.specs.Prelude.{IsSomeAnd}
use Rattle.cache_types.specs.Driver.{DriverKeys, Fronts, HasNoFront}
use Rattle.cache_types.specs.declared.answer.Answer.TheVariants as answers
use Rattle.cache_types.specs.declared.limits.TheConstants.{MAX_ITEM}
use Rattle.cache_types.specs.declared.name.Name.{Name}
use Rattle.cache_types.specs.declared.name.Name.TheVariants.{Entry}
use Rattle.file_log.specs.declared.call.Call.TheVariants as calls
use Rattle.file_log.specs.declared.item.LogItem.{LogItem}
use Rattle.file_log.specs.declared.item.LogItem.TheVariants.{Did}
use Rattle.file_log.specs.declared.reply.Reply.{Reply}
use Rattle.file_log.specs.declared.reply.Reply.TheVariants as replies
use Rattle.file_log.specs.Disk.{Disk, bytes_in, file_of}
use Rattle.file_log.specs.Effect.{applied}
use Rattle.file_log.specs.Log.{History}
use Rattle.file_log.specs.State.{disk_of}
use Rattle.seat_rules.specs.Changes.{with_item}
use Rattle.seat_rules.proofs.Histories.{disk_then}
use Rattle.folder_changes.specs.Own.{IsReplacing}
use Rattle.folder_store.specs.declared.put_phase.Besides.TheVariants.{Lock}
use Rattle.folder_store.specs.declared.put_phase.Look.{Look}
use Rattle.folder_store.specs.declared.put_phase.Look.TheVariants.{First, Second}
use Rattle.folder_store.specs.declared.put_phase.PutPhase.{PutPhase}
use Rattle.folder_store.specs.declared.put_phase.PutPhase.TheVariants.{Opening, Measuring, Reading, ReadingFront, Leaving, OpeningLock, Evicting, Making, ClosingEntry, ClosingLock, Ended}
use Rattle.folder_store.specs.PutPhases.{besides_in, too_long, measured, Judged, Fronted}
use Rattle.folder_store.proofs.AmongKnown.{Task, asked_for, In, Opens, Holds, AtLook, IsNamed, Looks, Going, KnowsAt}
use Rattle.folder_store.proofs.PutMakes.{MakesIn}
use Rattle.folder_store.proofs.AmongSteps.{asks_at, Steps, into, still_step, holds_own, failed_now, fails}
use Rattle.folder_store.proofs.Finding.{whole_is}
use Rattle.folder_store.proofs.Keeping.{Within, within_inner}
use Rattle.folder_store.proofs.Opened.{opened_now, named_now, open_then, in_slot, seen_held}
use Rattle.folder_store.proofs.PutLooks.{part_fronts, fronts_part}
use Rattle.folder_store.proofs.PutSteps.{AnswersIn, split}

module _ (t : Task) where
  abbrev entry_name : Name
  entry_name = Entry t.root t.key

  -- a call that only looks leaves what is known of the look
  at_own : (look : Look) (h : History) (x : LogItem) → (Holds t h → Holds t (with_item h x)) → AtLook t look h → AtLook t look (with_item h x)
  at_own First h x holds at = tt
  at_own Second h x holds at = holds at

  named_own : (look : Look) (h : History) (x : LogItem) (within : Within t.me x) (o : Opens t h) (files : (applied (disk_of h) x).files o.file ≡ (disk_of h).files o.file) (slots : (applied (disk_of h) x).slots t.me 1 ≡ (disk_of h).slots t.me 1)
      → (applied (disk_of h) x).names entry_name ≡ (disk_of h).names entry_name → IsNamed t look h o → IsNamed t look (with_item h x) (open_then t.me (asked_for t) t.root t.key h x within o files slots)
  named_own First h x within o files slots names named = tt
  named_own Second h x within o files slots names named = ap (λ (d : Disk). d.names entry_name) (disk_then h x) ∙ names ∙ named

  named_first : (look : Look) (h : History) (o : Opens t h) → (disk_of h).names entry_name ≡ Some o.file → IsNamed t look h o
  named_first First h o named = tt
  named_first Second h o named = named

  -- the bytes that the entry has
  entry_now : (h : History) (l : Looks t Second h) → file_of (disk_of h) entry_name ≡ Some l.0.bytes
  entry_now h l = ap (bytes_in (disk_of h).files) l.1 ∙ ap (λ (b : List ℕ). Some b) l.0.is

  going : (h : History) (o : Option (List ℕ)) → Holds t h → file_of (disk_of h) entry_name ≡ o → IsReplacing h.log t.me t.root t.key o → Going t h
  going h o holds is r = record { holds = holds; replacing = subst (IsReplacing h.log t.me t.root t.key) (sym is) r }

  -- ---- it is opened

  pub opening : (look : Look) (bytes : List ℕ) (reply : Reply) (h : History) (x : LogItem) (left : List LogItem) → In t h → KnowsAt t (Opening look) bytes h → AnswersIn (asks_at t (Opening look) bytes) reply → MakesIn t.me (asks_at t (Opening look) bytes) reply (x ∷ left) → Steps t (Opening look) bytes reply h x left
  opening look bytes replies.Done h x left i k a ms = split _ x left ms (Steps t (Opening look) bytes replies.Done h) (λ legal.
      let did : LogItem = Did t.me (calls.OpenOld 1 entry_name) replies.Done in
      let h' : History = with_item h did in
      let o : Opens t h' = opened_now t.me (asked_for t) t.root t.key h i.inside legal in
      let named : IsNamed t look h' o = named_first look h' o (named_now t.me (asked_for t) t.root t.key h i.inside legal) in
      let at = at_own look h did (holds_own t h did refl (λ f. refl)) k.1 in
      still_step t (Opening look) bytes replies.Done h did i refl tt tt (record { names = λ name. refl; files = λ f. refl }) (into t (Measuring look) bytes h' (k.0, at, (o, named))))
  opening First bytes replies.Missing h x left i k a ms = split _ x left ms (Steps t (Opening First) bytes replies.Missing h) (λ legal.
      let did : LogItem = Did t.me (calls.OpenOld 1 entry_name) replies.Missing in
      still_step t (Opening First) bytes replies.Missing h did i refl tt tt (record { names = λ name. refl; files = λ f. refl }) (into t OpeningLock bytes (with_item h did) k.0))
  opening Second bytes replies.Missing h x left i k a ms = split _ x left ms (Steps t (Opening Second) bytes replies.Missing h) (λ legal.
      let did : LogItem = Did t.me (calls.OpenOld 1 entry_name) replies.Missing in
      let h' : History = with_item h did in
      let none : file_of (disk_of h') entry_name ≡ None = ap (λ (d : Disk). file_of d entry_name) (disk_then h did) ∙ ap (bytes_in (disk_of h).files) legal.1.0.1 in
      still_step t (Opening Second) bytes replies.Missing h did i refl tt tt (record { names = λ name. refl; files = λ f. refl }) (into t (Making false) bytes h' (k.0, going h' None (holds_own t h did refl (λ f. refl) k.1) none tt)))
  opening First bytes replies.Failed h x left i k a ms = split _ x left ms.1 (Steps t (Opening First) bytes replies.Failed h) (fails t false (Opening First) bytes replies.Failed h i (failed_now t h i) (λ h' e. into t (Ended answers.FilesFault) bytes h' e))
  opening Second bytes replies.Failed h x left i k a ms = split _ x left ms.1 (Steps t (Opening Second) bytes replies.Failed h) (fails t false (Opening Second) bytes replies.Failed h i (failed_now t h i) (λ h' e. into t (ClosingLock answers.FilesFault) bytes h' e))
  opening First bytes replies.NoMemory h x left i k a ms = split _ x left ms.1 (Steps t (Opening First) bytes replies.NoMemory h) (fails t true (Opening First) bytes replies.NoMemory h i tt (λ h' e. into t (Ended answers.NoMemory) bytes h' e))
  opening Second bytes replies.NoMemory h x left i k a ms = split _ x left ms.1 (Steps t (Opening Second) bytes replies.NoMemory h) (fails t true (Opening Second) bytes replies.NoMemory h i tt (λ h' e. into t (ClosingLock answers.NoMemory) bytes h' e))
  opening look bytes reply h x left i k a ms = absurd a

  -- ---- how long it is

  -- what is known of it after a call that only looks
  abbrev looks_own : (look : Look) (h : History) (x : LogItem) (within : Within t.me x) (l : Looks t look h) (files : (applied (disk_of h) x).files l.0.file ≡ (disk_of h).files l.0.file) (slots : (applied (disk_of h) x).slots t.me 1 ≡ (disk_of h).slots t.me 1)
      → (applied (disk_of h) x).names entry_name ≡ (disk_of h).names entry_name → Looks t look (with_item h x)
  looks_own look h x within l files slots names = (open_then t.me (asked_for t) t.root t.key h x within l.0 files slots, named_own look h x within l.0 files slots names l.1)

  measured_knows : (look : Look) (bytes : List ℕ) (h : History) (n : ℕ) → bytes ≡ t.item → AtLook t look h → (l : Looks t look h) → n ≡ length l.0.bytes → KnowsAt t (measured look n) bytes h
  measured_knows look bytes h n item at l is = by_test (ltb MAX_ITEM n)
    where
      too_long_knows : (look : Look) → AtLook t look h → Looks t look h → KnowsAt t (too_long look) bytes h
      too_long_knows First at l = item
      too_long_knows Second at l = (item, at, l)

      by_test : (b : Bool) → KnowsAt t (cond b (too_long look) (Reading look n)) bytes h
      by_test true = too_long_knows look at l
      by_test false = (item, at, (l, is))

  pub measuring : (look : Look) (bytes : List ℕ) (reply : Reply) (h : History) (x : LogItem) (left : List LogItem) → In t h → KnowsAt t (Measuring look) bytes h → AnswersIn (asks_at t (Measuring look) bytes) reply → MakesIn t.me (asks_at t (Measuring look) bytes) reply (x ∷ left) → Steps t (Measuring look) bytes reply h x left
  measuring look bytes (replies.Number n) h x left i k a ms = split _ x left ms (Steps t (Measuring look) bytes (replies.Number n) h) (λ legal.
      let did : LogItem = Did t.me (calls.Length 1) (replies.Number n) in
      let h' : History = with_item h did in
      let at = at_own look h did (holds_own t h did refl (λ f. refl)) k.1 in
      let l = looks_own look h did (within_inner t.me did refl) k.2 refl refl refl in
      let long : n ≡ length k.2.0.bytes = subst (λ (o : Option (List ℕ)). IsSomeAnd o (λ w. n ≡ length w)) (in_slot t.me (asked_for t) t.root t.key h k.2.0) legal.1.0.1 in
      still_step t (Measuring look) bytes (replies.Number n) h did i refl tt tt (record { names = λ name. refl; files = λ f. refl }) (into t (measured look n) bytes h' (measured_knows look bytes h' n k.0 at l long)))
  measuring look bytes replies.Failed h x left i k a ms = split _ x left ms.1 (Steps t (Measuring look) bytes replies.Failed h) (fails t false (Measuring look) bytes replies.Failed h i (failed_now t h i) (λ h' e. into t (ClosingEntry answers.FilesFault (besides_in look)) bytes h' e))
  measuring look bytes replies.NoMemory h x left i k a ms = split _ x left ms.1 (Steps t (Measuring look) bytes replies.NoMemory h) (fails t true (Measuring look) bytes replies.NoMemory h i tt (λ h' e. into t (ClosingEntry answers.NoMemory (besides_in look)) bytes h' e))
  measuring look bytes reply h x left i k a ms = absurd a

  -- ---- what it holds

  -- what follows on the front of an entry that goes
  fronted_knows : (front bytes whole : List ℕ) (h : History) (next : PutPhase) → ((driver : DriverKeys) → Fronts front driver → Fronts whole driver) → (HasNoFront front → HasNoFront whole)
      → bytes ≡ t.item → Holds t h → file_of (disk_of h) entry_name ≡ Some whole → Fronted front next → KnowsAt t next bytes h
  fronted_knows front bytes whole h (Evicting driver) some none item holds is fronts = (item, holds, (whole, is, some driver fronts))
  fronted_knows front bytes whole h (Making true) some none item holds is fronts = (item, going h (Some whole) holds is (inl (none fronts)))
  fronted_knows front bytes whole h (Making false) some none item holds is fronts = absurd fronts
  fronted_knows front bytes whole h next some none item holds is fronts = absurd fronts

  judged_knows : (look : Look) (bytes : List ℕ) (h : History) (next : PutPhase) → bytes ≡ t.item → AtLook t look h → (l : Looks t look h) → Judged t.driver look l.0.bytes next → KnowsAt t next bytes h
  judged_knows look bytes h next item at l (inl kept) = into t (ClosingEntry answers.Kept (besides_in look)) bytes h (seen_held t.me (asked_for t) t.root t.key t.driver h l.0.bytes kept.0.0 kept.0.1 l.0.seen) next kept.1
  judged_knows First bytes h next item at l (inr refused) = into t Leaving bytes h item next refused.1
  judged_knows Second bytes h next item at l (inr refused) = fronted_knows l.0.bytes bytes l.0.bytes h next (λ driver f. f) (λ none. none) item at (entry_now h l) refused.1

  pub reading : (look : Look) (n : ℕ) (bytes : List ℕ) (reply : Reply) (h : History) (x : LogItem) (left : List LogItem) → In t h → KnowsAt t (Reading look n) bytes h → AnswersIn (asks_at t (Reading look n) bytes) reply → MakesIn t.me (asks_at t (Reading look n) bytes) reply (x ∷ left) → Steps t (Reading look n) bytes reply h x left
  reading look n bytes (replies.Got got) h x left i k a ms = split _ x left ms (Steps t (Reading look n) bytes (replies.Got got) h) (λ legal.
      let did : LogItem = Did t.me (calls.ReadAt 1 0 n) (replies.Got got) in
      let h' : History = with_item h did in
      let whole : List ℕ = k.2.0.0.bytes in
      let at = at_own look h did (holds_own t h did refl (λ f. refl)) k.1 in
      let l = looks_own look h did (within_inner t.me did refl) k.2.0 refl refl refl in
      let part : got ≡ take n (drop 0 whole) = subst (λ (o : Option (List ℕ)). IsSomeAnd o (λ w. got ≡ take n (drop 0 w))) (in_slot t.me (asked_for t) t.root t.key h k.2.0.0) legal.1.0.1 in
      let same : got ≡ whole = whole_is got whole n k.2.1 part in
      still_step t (Reading look n) bytes (replies.Got got) h did i refl tt tt (record { names = λ name. refl; files = λ f. refl })
      (λ next judged. judged_knows look bytes h' next k.0 at l (subst (λ (b : List ℕ). Judged t.driver look b next) same judged)))
  reading look n bytes replies.Failed h x left i k a ms = split _ x left ms.1 (Steps t (Reading look n) bytes replies.Failed h) (fails t false (Reading look n) bytes replies.Failed h i (failed_now t h i) (λ h' e. into t (ClosingEntry answers.FilesFault (besides_in look)) bytes h' e))
  reading look n bytes replies.NoMemory h x left i k a ms = split _ x left ms.1 (Steps t (Reading look n) bytes replies.NoMemory h) (fails t true (Reading look n) bytes replies.NoMemory h i tt (λ h' e. into t (ClosingEntry answers.NoMemory (besides_in look)) bytes h' e))
  reading look n bytes reply h x left i k a ms = absurd a

  pub reading_front : (bytes : List ℕ) (reply : Reply) (h : History) (x : LogItem) (left : List LogItem) → In t h → KnowsAt t ReadingFront bytes h → AnswersIn (asks_at t ReadingFront bytes) reply → MakesIn t.me (asks_at t ReadingFront bytes) reply (x ∷ left) → Steps t ReadingFront bytes reply h x left
  reading_front bytes (replies.Got got) h x left i k a ms = split _ x left ms (Steps t ReadingFront bytes (replies.Got got) h) (λ legal.
      let did : LogItem = Did t.me (calls.ReadAt 1 0 522) (replies.Got got) in
      let h' : History = with_item h did in
      let whole : List ℕ = k.2.0.bytes in
      let holds = holds_own t h did refl (λ f. refl) k.1 in
      let l = looks_own Second h did (within_inner t.me did refl) k.2 refl refl refl in
      let part : got ≡ take 522 whole = subst (λ (o : Option (List ℕ)). IsSomeAnd o (λ w. got ≡ take 522 (drop 0 w))) (in_slot t.me (asked_for t) t.root t.key h k.2.0) legal.1.0.1 in
      still_step t ReadingFront bytes (replies.Got got) h did i refl tt tt (record { names = λ name. refl; files = λ f. refl })
      (λ next fronted. fronted_knows (take 522 whole) bytes whole h' next (part_fronts 522 whole) (λ none driver f. none driver (fronts_part whole driver f)) k.0 holds (entry_now h' l) (subst (λ (b : List ℕ). Fronted b next) part fronted)))
  reading_front bytes replies.Failed h x left i k a ms = split _ x left ms.1 (Steps t ReadingFront bytes replies.Failed h) (fails t false ReadingFront bytes replies.Failed h i (failed_now t h i) (λ h' e. into t (ClosingEntry answers.FilesFault Lock) bytes h' e))
  reading_front bytes replies.NoMemory h x left i k a ms = split _ x left ms.1 (Steps t ReadingFront bytes replies.NoMemory h) (fails t true ReadingFront bytes replies.NoMemory h i tt (λ h' e. into t (ClosingEntry answers.NoMemory Lock) bytes h' e))
  reading_front bytes reply h x left i k a ms = absurd a

  pub leaving : (bytes : List ℕ) (reply : Reply) (h : History) (x : LogItem) (left : List LogItem) → In t h → KnowsAt t Leaving bytes h → AnswersIn (asks_at t Leaving bytes) reply → MakesIn t.me (asks_at t Leaving bytes) reply (x ∷ left) → Steps t Leaving bytes reply h x left
  leaving bytes replies.Done h x left i k a ms = split _ x left ms (Steps t Leaving bytes replies.Done h) (λ legal.
      let did : LogItem = Did t.me (calls.Close 1) replies.Done in
      still_step t Leaving bytes replies.Done h did i refl tt tt (record { names = λ name. refl; files = λ f. refl }) (into t OpeningLock bytes (with_item h did) k))
  leaving bytes reply h x left i k a ms = absurd a
