-- The machine that was made for a request, as the operation begins.
use Rattle.std.proofs.Common.{◌≡◌, ◌<◌, ◌≤◌, ℕ, true, false, List, length, refl, sym, ap, ◌∙◌, subst}
use Rattle.std.proofs.lemmas.Bool.{false≢true, eq-eqb, lt-ltb}
use Rattle.cache_types.specs.declared.answer.Answer.TheVariants.{TooLarge}
use Rattle.cache_types.specs.Driver.{DriverKeys}
use Rattle.cache_types.specs.declared.key.Key.{Key}
use Rattle.cache_types.specs.declared.limits.TheConstants.{MAX_BLOB, MAX_KEYS}
use Rattle.cache_types.specs.declared.meta.Meta.{Meta}
use Rattle.cache_types.specs.declared.meta.Meta.TheVariants.{Unknown, Glsl}
use Rattle.cache_types.specs.declared.request.Request.{Request}
use Rattle.cache_types.specs.declared.request.Request.TheVariants as requests
use Rattle.cache_types.specs.declared.seat.Who.{Who}
use Rattle.cache_types.specs.declared.store.Layout.{Layout}
use Rattle.cache_types.specs.declared.store.Layout.TheVariants.{Folder}
use Rattle.cache_types.specs.declared.store.Store.{Store}
use Rattle.file_log.specs.declared.item.LogItem.TheVariants.{End}
use Rattle.file_log.specs.Fits.{RequestFits, IsMetaOfKeys}
use Rattle.file_log.specs.Log.{History}
use Rattle.item_frame.specs.Item.{item_of, IsMeta, Reads}
use Rattle.item_frame.specs.Writing.{key_count}
use Rattle.seat_rules.specs.Answers.{is_too_large}
use Rattle.seat_rules.specs.Operations.{IsInside}
use Rattle.layout_rules.specs.Rules.{AnswersAreEarned}
use Rattle.folder_rules.specs.Whole.{folder_of}
use Rattle.folder_changes.proofs.Earning.{earns}
use Rattle.folder_store.specs.declared.put_phase.PutPhase.{PutPhase}
use Rattle.folder_store.specs.Gets.{FolderGet, IsNew, get_slots, get_hurt}
use Rattle.folder_store.specs.PutPhases.{put_slots_in, put_hurt_in}
use Rattle.folder_store.proofs.AmongKnown.{Task}
use Rattle.folder_store.proofs.Calls.{new_right, new_empty}
use Rattle.folder_store.proofs.Keeping.{IsIn}
use Rattle.op_machine.specs.declared.op.Op.{Op}
use Rattle.op_machine.specs.declared.op.Op.TheVariants.{Get, Put, Refuse}
use Rattle.op_machine.specs.Requests.{IsBuilt, IsOpOf}
use Rattle.op_machine.proofs.Known as known
use Rattle.seat_order.specs.Slots.{HasSlots, HasThose}

-- a blob that is too large for an item is
is_large : (blob : List ℕ) → MAX_BLOB < length blob → is_too_large blob (length blob) ≡ true
is_large blob large = rw (eq-eqb (length blob) (length blob) refl, lt-ltb MAX_BLOB (length blob) large) refl

store_is : (store : Store) → store.layout ≡ Folder → folder_of store.root ≡ store
store_is store e = ap (λ (l : Layout). record { root = store.root; layout = l }) (sym e)

meta_fits : (meta : Meta) → key_count meta ≤ MAX_KEYS → IsMetaOfKeys meta → IsMeta meta
meta_fits Unknown few fits = tt
meta_fits (Glsl keys) few fits = (few, fits)

-- what is known of it then
pub starts : (me : Who) (request : Request) (m : Op) (h : History) → IsBuilt request → IsOpOf request m → RequestFits request → IsIn me request h → known.Between me request m h
starts me (requests.Get store driver key ro) (Get m) h built new fits i =
    let request : Request = requests.Get store driver key ro in
    let for : known.ForGet me request = record { root = store.root; driver = driver; key = key; ro = ro; fits = fits.0; request_is = ap (λ (s : Store). requests.Get s driver key ro) (store_is store built.0) } in
    known.get_starts me request for m h new i
starts me (requests.Put store driver key meta blob limit) (Put m) h built new fits i =
    let request : Request = requests.Put store driver key meta blob limit in
    let task : Task = record { me = me; root = store.root; driver = driver; key = key; meta = meta; blob = blob; limit = limit; item = item_of driver meta blob } in
    let reads : Reads driver (item_of driver meta blob) blob = record { meta = meta; fits = meta_fits meta built.1 fits.2; size = new.0; whole = refl } in
    let for : known.ForPut me request = record { task = task; mine = refl; reads = reads; request_is = ap (λ (s : Store). requests.Put s driver key meta blob limit) (store_is store built.0) } in
    known.put_starts me request for m h new.1 i
starts me (requests.Put store driver key meta blob limit) (Refuse m) h built new fits i =
    let request : Request = requests.Put store driver key meta blob limit in
    let large : (at : History) → IsInside at.log me request → AnswersAreEarned at (End me (TooLarge (length blob))) = λ at inside. (earns at me).too_large store driver key meta blob limit (length blob) inside (is_large blob new.0) in
    known.given_starts me request m h i (subst (known.IsEarnedByAny me request) (sym new.1) large)
starts me request m h built new fits i = absurd new

get_empty : (me : Who) (root : ℕ) (driver : DriverKeys) (key : Key) (m : FolderGet) (h : History) → IsNew root driver key m → HasSlots me (λ at. false) false h → HasSlots me (get_slots m) (get_hurt m) h
get_empty me root driver key m h new s = record { filled = λ at. s.filled at ∙ sym (new_empty root driver key m new at); inside = s.inside; covers = λ failed. absurd (false≢true (s.covers failed)) }

-- it has filled no slot
pub starts_empty : (me : Who) (request : Request) (m : Op) (h : History) → IsOpOf request m → HasSlots me (λ at. false) false h → HasThose me m h
starts_empty me (requests.Get store driver key ro) (Get m) h new s = (new_right store.root driver key m new, get_empty me store.root driver key m h new s)
starts_empty me (requests.Put store driver key meta blob limit) (Put m) h new s = (tt, subst (λ (p : PutPhase). HasSlots me (put_slots_in p) (put_hurt_in p) h) (sym new.1.opening) s)
starts_empty me (requests.Put store driver key meta blob limit) (Refuse m) h new s = (tt, s)
starts_empty me request m h new s = absurd new
