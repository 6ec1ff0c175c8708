-- What the machine of a request gives at its end, and what may be told of that.
use Rattle.std.proofs.Common.{◌≡◌, inl, inr, ℕ, nat_lt, Bool, true, false, List, [], ◌∷◌, length, refl, sym, ap, ◌∙◌, subst}
use Rattle.std.proofs.lemmas.Bool.{ltb-true, ltb-false}
use Rattle.cache_types.specs.Answers.{IsSmall}
use Rattle.cache_types.specs.declared.answer.Answer.{Answer}
use Rattle.cache_types.specs.declared.answer.Answer.TheVariants as answers
use Rattle.cache_types.specs.Driver.{DriverKeys}
use Rattle.cache_types.specs.declared.key.Key.{Key}
use Rattle.cache_types.specs.declared.limits.TheConstants.{MAX_BLOB}
use Rattle.cache_types.specs.declared.request.Request.{Request}
use Rattle.cache_types.specs.declared.request.Request.TheVariants as requests
use Rattle.cache_types.specs.declared.seat.Who.{Who}
use Rattle.file_log.specs.declared.item.LogItem.{LogItem}
use Rattle.file_log.specs.declared.reply.Reply.{Reply}
use Rattle.file_log.specs.Exchange.{Exchange}
use Rattle.files_api.specs.declared.machine.Step.{Step}
use Rattle.files_api.specs.declared.machine.Step.TheVariants.{Done}
use Rattle.files_api.specs.Drive.{Runs, IsEndOf, items_of_all}
use Rattle.folder_store.specs.declared.put.FolderPut.{FolderPut}
use Rattle.folder_store.specs.declared.put_phase.Look.TheVariants.{First}
use Rattle.folder_store.specs.declared.put_phase.PutPhase.TheVariants as puts
use Rattle.folder_store.specs.Gets.{FolderGet, IsNew, get_asks, get_asked, GetFed}
use Rattle.folder_store.specs.Put.{IsPutAnswer}
use Rattle.folder_store.specs.PutPhases.{asks_put, asked_put, FedPut}
use Rattle.folder_store.proofs.Calls.{done_is}
use Rattle.folder_store.proofs.LockTries.{busy_is, never_tried, tried_lock}
use Rattle.folder_store.proofs.Outcome.{outcome}
use Rattle.folder_store.proofs.PutOutcome.{put_outcome}
use Rattle.op_machine.specs.declared.op.Op.{Op}
use Rattle.op_machine.specs.declared.op.Op.TheVariants as ops
use Rattle.op_machine.specs.Given.{given_step}
use Rattle.op_machine.specs.Machine.{asks, asked, Fed}
use Rattle.op_machine.specs.Requests.{IsOpOf}
use Rattle.seat_order.specs.Doing.{RunsTo, HasCome}
use Rattle.seat_order.specs.Operating.{EndsLookup, EndsPut, EndsFor}
use Rattle.seat_order.proofs.Running.{no_ask, runs_out}

-- ---- the machine of a kind

-- machines of one kind among all: what they ask and where a reply leads them is the same
record IsKind {M : Type 0} (asks_m : M → Step) (asked_m : M → M) (FedM : M → Reply → M → Type 0) (kind : M → Op) : Type 0 where
  asks_same : (m : M) → asks (kind m) ≡ asks_m m
  fed_same : (m : M) (reply : Reply) (n : Op) → Fed (asked (kind m)) reply n → (k : M) × (n ≡ kind k) × FedM (asked_m m) reply k

kind_runs : {M : Type 0} (asks_m : M → Step) (asked_m : M → M) (FedM : M → Reply → M → Type 0) (kind : M → Op) → IsKind asks_m asked_m FedM kind → (me : Who) (m : M) (last : Op) (xs : List Exchange) (given : Answer) → Runs asks asked Fed me (kind m) xs given last
    → (end : M) × Runs asks_m asked_m FedM me m xs given end
kind_runs asks_m asked_m FedM kind same me m last [] given run = (asked_m m, (sym (same.asks_same m) ∙ run.0, refl))
kind_runs asks_m asked_m FedM kind same me m last (x ∷ xs) given run =
    let next = same.fed_same m x.reply run.3.0 run.3.1 in
    let rest = kind_runs asks_m asked_m FedM kind same me next.0 last xs given (subst (λ (n : Op). Runs asks asked Fed me n xs given last) next.1 run.3.2) in
    (rest.0, (sym (same.asks_same m) ∙ run.0, run.1, run.2, (next.0, next.2, rest.1)))

get_kind : IsKind get_asks get_asked GetFed ops.Get
get_kind = record { asks_same = λ m. refl; fed_same = fed }
  where
    fed : (m : FolderGet) (reply : Reply) (n : Op) → Fed (asked (ops.Get m)) reply n → (k : FolderGet) × (n ≡ ops.Get k) × GetFed (get_asked m) reply k
    fed m reply (ops.Get n) f = (n, refl, f)
    fed m reply n f = absurd f

put_kind : IsKind asks_put asked_put FedPut ops.Put
put_kind = record { asks_same = λ m. refl; fed_same = fed }
  where
    fed : (m : FolderPut) (reply : Reply) (n : Op) → Fed (asked (ops.Put m)) reply n → (k : FolderPut) × (n ≡ ops.Put k) × FedPut (asked_put m) reply k
    fed m reply (ops.Put n) f = (n, refl, f)
    fed m reply n f = absurd f

-- ---- what it gives

module _ (me : Who) where
  get_gives : (root : ℕ) (driver : DriverKeys) (key : Key) (first : FolderGet) (last : Op) (xs : List Exchange) (given : Answer) → IsNew root driver key first → Runs asks asked Fed me (ops.Get first) xs given last → EndsLookup given (items_of_all xs)
  get_gives root driver key first last xs given new run =
      let r = kind_runs get_asks get_asked GetFed ops.Get get_kind me first last xs given run in
      let out = outcome me root driver key first r.0 xs given new r.1 in
      record { kind = out.kind; fault = (out.told, out.only) }

  put_gives : (first : FolderPut) (last : Op) (xs : List Exchange) (given : Answer) → first.phase ≡ puts.Opening First → Runs asks asked Fed me (ops.Put first) xs given last → EndsPut first.root first.key given (items_of_all xs)
  put_gives first last xs given opening run =
      let r = kind_runs asks_put asked_put FedPut ops.Put put_kind me first last xs given run in
      let out = put_outcome me first r.0 xs given opening r.1 in
      let tried = tried_lock me first.root first.key first r.0 xs given (record { root_is = refl; key_is = refl }) opening r.1 in
      record { kind = out.kind; fault = (out.told, out.only); busy = busy_is me first.root first.key given (items_of_all xs) tried }

  gives_so : (request : Request) (first m : Op) (xs : List Exchange) (given : Answer) → IsOpOf request first → RunsTo me first xs m → asks m ≡ Done given → EndsFor request given (items_of_all xs)
  gives_so (requests.Get store driver key ro) (ops.Get first) m xs given new runs e = get_gives store.root driver key first (asked m) xs given new (runs_out me (ops.Get first) m xs given runs e)
  gives_so (requests.Put store driver key meta blob limit) (ops.Put first) m xs given new runs e =
      let gives = put_gives first (asked m) xs given new.1.opening (runs_out me (ops.Put first) m xs given runs e) in
      let at_root = subst (λ (r : ℕ). EndsPut r first.key given (items_of_all xs)) new.1.root_is gives in
      inl (new.0, subst (λ (k : Key). EndsPut store.root k given (items_of_all xs)) new.1.key_is at_root)
  gives_so (requests.Put store driver key meta blob limit) (ops.Refuse first) m [] given new runs e =
      inr (new.0, inl (sym (done_is (answers.TooLarge (length blob)) given (sym (ap given_step new.1) ∙ (ap asks runs ∙ e)))))
  gives_so (requests.Put store driver key meta blob limit) (ops.Refuse first) m (x ∷ xs) given new runs e = no_ask first.answer x.call runs.0
  gives_so request first m xs given new runs e = absurd new

  -- the request's machine gives an answer of the request, whose cause is among the items so far
  pub come_ends : (request : Request) (m : Op) (made : List LogItem) (given : Answer) → HasCome me request m made → asks m ≡ Done given → EndsFor request given made
  come_ends request m made given c e = subst (EndsFor request given) (sym c.made_are) (gives_so request c.first m c.exchanges given c.is_of c.runs e)

-- ---- what may be told of it

-- there was no memory for a machine
pub none_ends : (me : Who) (request : Request) → EndsFor request answers.NoMemory []
none_ends me (requests.Get store driver key ro) = record { kind = tt; fault = (λ e. absurd cc, λ e. absurd cc) }
none_ends me (requests.Put store driver key meta blob limit) = by_size (nat_lt MAX_BLOB (length blob)) refl
  where
    nothing_put : EndsPut store.root key answers.NoMemory []
    nothing_put = record { kind = tt; fault = (λ e. absurd cc, λ e. absurd cc); busy = busy_is me store.root key answers.NoMemory [] (never_tried me store.root key answers.NoMemory [] refl refl) }

    by_size : (b : Bool) → nat_lt MAX_BLOB (length blob) ≡ b → EndsFor (requests.Put store driver key meta blob limit) answers.NoMemory []
    by_size true e = inr (ltb-true MAX_BLOB (length blob) e, inr refl)
    by_size false e = inl (ltb-false MAX_BLOB (length blob) e, nothing_put)
none_ends me request = refl

small_put : (a : Answer) → IsPutAnswer a → IsSmall a
small_put answers.Stored k = tt
small_put answers.Kept k = tt
small_put answers.Busy k = tt
small_put answers.FilesFault k = tt
small_put answers.NoMemory k = tt
small_put a k = absurd k

-- want of memory in place of an answer that carries a list
lack_ends : (request : Request) (given : Answer) (made : List LogItem) → (IsSmall given → ⊥) → EndsFor request given made → EndsFor request answers.NoMemory made
lack_ends (requests.Get store driver key ro) given made big ends = record { kind = tt; fault = (λ e. absurd cc, λ some. absurd (big (subst IsSmall (sym (ends.fault.1 some)) tt))) }
lack_ends (requests.Put store driver key meta blob limit) given made big (inl ends) = absurd (big (small_put given ends.1.kind))
lack_ends (requests.Put store driver key meta blob limit) given made big (inr ends) = inr (ends.0, inr refl)
lack_ends request given made big ends = refl

pub told_ends : (request : Request) (given answer : Answer) (made : List LogItem) → IsEndOf given answer → EndsFor request given made → EndsFor request answer made
told_ends request given answer made (inl e) ends = rw e ends
told_ends request given answer made (inr lack) ends = rw lack.0 (lack_ends request given made lack.1 ends)
