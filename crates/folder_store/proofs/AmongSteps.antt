-- A step of a put among seats that keep the rules: an own item keeps them too, and what is known once its call is answered.
use Rattle.std.proofs.Common.{◌≡◌, ℕ, Bool, true, false, List, [], Some, refl, sym, ap, ◌∙◌, subst}
use Rattle.cache_types.specs.declared.answer.Answer.{Answer}
use Rattle.cache_types.specs.declared.seat.Who.{Who}
use Rattle.file_log.specs.declared.item.LogItem.{LogItem}
use Rattle.file_log.specs.declared.item.LogItem.TheVariants.{Failed}
use Rattle.file_log.specs.declared.reply.Reply.{Reply}
use Rattle.file_log.specs.Disk.{Disk}
use Rattle.file_log.specs.Effect.{applied}
use Rattle.file_log.specs.Log.{History, seat_of}
use Rattle.file_log.specs.Operation.{IsStill}
use Rattle.file_log.specs.State.{disk_of}
use Rattle.file_log.proofs.All.{seat_self}
use Rattle.files_api.specs.declared.machine.Step.{Step}
use Rattle.seat_rules.specs.Changes.{with_item}
use Rattle.seat_rules.specs.Operations.{is_bound}
use Rattle.layout_rules.specs.Rules.{AnswersAreEarned, Conforms, KeepsRules}
use Rattle.seat_rules.proofs.Histories.{disk_then}
use Rattle.folder_changes.specs.Course.{HasFailed}
use Rattle.folder_changes.proofs.Earning.{meets}
use Rattle.folder_store.specs.declared.put_phase.Besides.{Besides}
use Rattle.folder_store.specs.declared.put_phase.Besides.TheVariants.{Nothing, Lock, LockAndTemp}
use Rattle.folder_store.specs.declared.put_phase.PutPhase.{PutPhase}
use Rattle.folder_store.specs.Phases.{fault}
use Rattle.folder_store.specs.Put.{NamesFront}
use Rattle.folder_store.specs.PutPhases.{asks_put_in, after_put_asking, item_after, closing, NextPut}
use Rattle.folder_store.proofs.AmongKnown.{Task, asked_for, lock, In, Holds, Told, KnowsAt}
use Rattle.folder_store.proofs.Keeping.{CanFollow, still_rules, Within, within_inner}

-- an item of this seat that conforms keeps the rules
pub own_rules : (h : History) (x : LogItem) (me : Who) → seat_of x ≡ Some me → Conforms h x me → KeepsRules h x
own_rules h x me mine c who seat = let same : me ≡ who = who_is me who (sym mine ∙ seat) in subst (Conforms h x) same c
  where
    who_is : (a b : Who) → Some a ≡ Some b → a ≡ b
    who_is a b e = cc

module _ (t : Task) where
  -- what it asks in a phase
  abbrev pub asks_at : PutPhase → List ℕ → Step
  asks_at phase bytes = asks_put_in t.root t.key bytes phase

  -- what is known in whichever phase follows on the reply
  abbrev pub Follows : PutPhase → List ℕ → Reply → History → Type 0
  Follows phase bytes reply h = (next : PutPhase) → NextPut t.driver (after_put_asking phase) reply next → KnowsAt t next (item_after phase bytes) h

  -- an own item keeps the rules, and then the next phase is known
  pub record Stepped (phase : PutPhase) (bytes : List ℕ) (reply : Reply) (h : History) (x : LogItem) (left : List LogItem) : Type 0 where
    pub rules : KeepsRules h x
    pub within : Within t.me x
    pub evicts : NamesFront t.root t.key (disk_of h) x
    pub last : left ≡ []
    pub follows : Follows phase bytes reply (with_item h x)

  abbrev pub Steps : PutPhase → List ℕ → Reply → History → LogItem → List LogItem → Type 0
  Steps phase bytes reply h x left = CanFollow h x → Stepped phase bytes reply h x left

  -- the next phase is this one
  pub into : (q : PutPhase) (bytes : List ℕ) (h : History) → KnowsAt t q bytes h → (next : PutPhase) → next ≡ q → KnowsAt t next bytes h
  into q bytes h k next e = subst (λ (phase : PutPhase). KnowsAt t phase bytes h) (sym e) k

  pub closing_knows : (answer : Answer) (entry : Bool) (besides : Besides) (bytes : List ℕ) (h : History) → Told t answer h → KnowsAt t (closing answer entry besides) bytes h
  closing_knows answer true besides bytes h k = k
  closing_knows answer false Nothing bytes h k = k
  closing_knows answer false Lock bytes h k = k
  closing_knows answer false LockAndTemp bytes h k = k

  -- ---- an own item that changes nothing

  pub still_step : (phase : PutPhase) (bytes : List ℕ) (reply : Reply) (h : History) (x : LogItem) → In t h → is_bound x ≡ false → AnswersAreEarned h x → NamesFront t.root t.key (disk_of h) x → IsStill (disk_of h) (applied (disk_of h) x) → Follows phase bytes reply (with_item h x) → Stepped phase bytes reply h x []
  still_step phase bytes reply h x i inner earned evicts still follows = record { rules = still_rules h x i.order earned still; within = within_inner t.me x inner; evicts = evicts; last = refl; follows = follows }

  -- it leaves the lock
  pub holds_own : (h : History) (x : LogItem) → (applied (disk_of h) x).names (lock t) ≡ (disk_of h).names (lock t) → ((f : ℕ) → (applied (disk_of h) x).locks f ≡ (disk_of h).locks f) → Holds t h → Holds t (with_item h x)
  holds_own h x names locks o = record {
    file = o.file;
    slot = o.slot;
    named = ap (λ (d : Disk). d.names (lock t)) (disk_then h x) ∙ names ∙ o.named;
    taken = ap (λ (d : Disk). d.locks o.file) (disk_then h x) ∙ locks o.file ∙ o.taken;
  }

  -- ---- a call that failed

  pub failed_now : (h : History) → In t h → HasFailed (with_item h (Failed t.me false)) t.me (asked_for t)
  failed_now h i = (meets h (Failed t.me false) t.me (asked_for t) (within_inner t.me (Failed t.me false) refl)).fails i.inside (seat_self t.me) refl

  -- it leads to the end, which tells that it failed
  pub fails : (memory : Bool) (phase : PutPhase) (bytes : List ℕ) (reply : Reply) (h : History) → In t h → Told t (fault reply) (with_item h (Failed t.me memory))
      → ((h' : History) → Told t (fault reply) h' → Follows phase bytes reply h') → Steps phase bytes reply h (Failed t.me memory) []
  fails memory phase bytes reply h i told follows = λ legal.
      still_step phase bytes reply h (Failed t.me memory) i refl tt tt (record { names = λ name. refl; files = λ f. refl }) (follows (with_item h (Failed t.me memory)) told)
