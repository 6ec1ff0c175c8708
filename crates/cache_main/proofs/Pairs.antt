-- A put and a get of the same key that were served.
use Rattle.std.proofs.Common.{◌≡◌, ◌≤◌, ◌⊎◌, inl, inr, ℕ, List, Option, sym, ap, subst, ◌∙◌, arith}
use Rattle.std.specs.List.{AllByRecursion}
use Rattle.cache_key.specs.Digits.{IsKeyText, Spells}
use Rattle.cache_types.specs.declared.answer.Answer.{Answer}
use Rattle.cache_types.specs.declared.answer.Answer.TheVariants as answers
use Rattle.cache_types.specs.declared.key.Key.{Key}
use Rattle.cache_types.specs.declared.request.Request.{Request}
use Rattle.cache_types.specs.declared.seat.Who.{Who}
use Rattle.cache_types.specs.Driver.{DriverKeys}
use Rattle.cmd_words.specs.declared.command.Command.{Command}
use Rattle.cmd_words.specs.declared.word.Word.{Word}
use Rattle.cmd_words.specs.declared.word.Word.TheVariants.{Get, Put}
use Rattle.cmd_words.specs.Asked.{driver_asked}
use Rattle.file_log.specs.declared.item.LogItem.{LogItem}
use Rattle.file_log.specs.Log.{History}
use Rattle.file_log.specs.Told.{Grows}
use Rattle.folder_store.specs.Lookup.{LooksUp}
use Rattle.folder_store.specs.Put.{IsPutAnswer, PutDone}
use Rattle.op_union.specs.Requests.{Operates}
use Rattle.report_text.specs.declared.status.Status.{Status}
use Rattle.report_text.specs.declared.status.Status.TheVariants as statuses
use Rattle.settings_read.specs.Variables.{Environment}
use Rattle.cache_main.specs.Keys.{HasKeys, meta_for, meta_words, key_word}
use Rattle.cache_main.specs.Printing.{IsPrinted}
use Rattle.cache_main.specs.Requests.{request_for, request_of, IsBlobFor}
use Rattle.cache_main.specs.RoundTrip.{IsLone, ArePair, FindsAgain}
use Rattle.cache_main.specs.Served.{Served, ServedBy, OperationServed}
use Rattle.cache_main.specs.Top.{IsRefused, IsUnread}
use Rattle.cache_main.proofs.GivenBack.{given_back, never_busy}
use Rattle.cache_main.proofs.Asking.{of_asked}
use Rattle.cache_main.proofs.Puts.{put_served}
use Rattle.cache_main.proofs.Statuses.{busy_back}

-- two keys that one text spells are one
pub one_key : (text : List ℕ) (a b : Key) → Spells text a → Spells text b → a ≡ b
one_key text a b s t =
    let bytes : a.bytes ≡ b.bytes = cc in
    ap (λ (x : List ℕ). record { bytes = x }) bytes

-- a call that ended well was served
pub served_well : {P Q S : Type 0} (status : Status) → status ≡ statuses.Ok → IsRefused status ⊎ IsUnread status ⊎ ((status ≡ statuses.NoMemory) × P × Q) ⊎ S → S
served_well status e (inl refused) = absurd (subst IsRefused e refused)
served_well status e (inr (inl unread)) = absurd (subst IsUnread e unread)
served_well status e (inr (inr (inl none))) = let clash : statuses.Ok ≡ statuses.NoMemory = sym e ∙ none.0 in absurd cc
served_well status e (inr (inr (inr served))) = served

-- ---- the keys of a pair

put_meta : (word : Word) (command : Command) → word ≡ Put → AllByRecursion IsKeyText (meta_words (meta_for Put command)) → AllByRecursion IsKeyText (meta_words (meta_for word command))
put_meta word command put all = subst (λ (w : Word). AllByRecursion IsKeyText (meta_words (meta_for w command))) (sym put) all

get_meta : (word : Word) (command : Command) → word ≡ Get → AllByRecursion IsKeyText (meta_words (meta_for word command))
get_meta word command get = subst (λ (w : Word). AllByRecursion IsKeyText (meta_words (meta_for w command))) (sym get) tt

module _ (puts gets : Option Command) (vars : Environment) (pair : ArePair puts gets vars) where
  pub put_keys : HasKeys pair.stores
  put_keys = record { key = pair.put_key.0; meta = put_meta pair.stores.word pair.stores pair.is_put pair.meta }

  pub get_keys : HasKeys pair.looks
  get_keys = record { key = pair.get_key.0; meta = get_meta pair.looks.word pair.looks pair.is_get }

  module _ (me : Who) (status : Status) (old mid new : Option History) (before between now : ℕ) (left left' left'' w w' w'' : Option (List ℕ)) (f f' f'' : ℕ)
      (stored : OperationServed pair.stores vars me statuses.Ok old mid before between left left' w w' f f') (found : OperationServed pair.looks vars me status mid new between now left' left'' w' w'' f' f'') where
    found_again : IsLone me old → IsLone me new → before ≤ between → f ≤ f' → FindsAgain status new (driver_asked pair.stores) pair.key before now left left' w w'' f f''
    found_again lone lone' later more =
        let put = request_for Put (driver_asked pair.stores) stored.settings.max pair.key stored.meta stored.blob in
        let get = request_for Get (driver_asked pair.stores) found.settings.max pair.key found.meta found.blob in
        let put_key : stored.key ≡ pair.key = one_key (key_word pair.stores) stored.key pair.key stored.spells pair.put_key.1 in
        let get_key : found.key ≡ pair.key = one_key (key_word pair.looks) found.key pair.key found.spells pair.get_key.1 in
        let put_is : request_of pair.stores stored.settings stored.key stored.meta stored.blob ≡ put =
        ap (λ (word : Word). request_for word (driver_asked pair.stores) stored.settings.max stored.key stored.meta stored.blob) pair.is_put ∙ ap (λ (k : Key). request_for Put (driver_asked pair.stores) stored.settings.max k stored.meta stored.blob) put_key in
        let get_is : request_of pair.looks found.settings found.key found.meta found.blob ≡ get =
        ap (λ (word : Word). request_for word (driver_asked pair.looks) found.settings.max found.key found.meta found.blob) pair.is_get ∙ ap (λ (k : Key). request_for Get (driver_asked pair.looks) found.settings.max k found.meta found.blob) get_key
        ∙ ap (λ (d : DriverKeys). request_for Get d found.settings.max pair.key found.meta found.blob) pair.driver in
        let whole : IsBlobFor Put left left' stored.blob = subst (λ (word : Word). IsBlobFor word left left' stored.blob) pair.is_put stored.taken in
        let done = subst (λ (r : Request). Operates me r old mid before between stored.answer) put_is stored.done in
        let printed = subst (λ (r : Request). IsPrinted r stored.answer statuses.Ok w w' f f') put_is stored.printed in
        let looked = subst (λ (r : Request). Operates me r mid new between now found.answer) get_is found.done in
        let shown = subst (λ (r : Request). IsPrinted r found.answer status w' w'' f' f'') get_is found.printed in
        elim done [
          | inl went ↦ given_back me (driver_asked pair.stores) pair.key stored.blob put get stored.answer found.answer status old mid new before between now left left' w w' w'' f f' f'' whole.whole went.1 printed looked shown lone lone' later more
          | inr large ↦ absurd (omega (arith, whole.fits, large.0))
        ]

  get_was : (me : Who) (status : Status) (mid new : Option History) (between now : ℕ) (left' left'' w' w'' : Option (List ℕ)) (f' f'' : ℕ) → Served gets vars me status mid new between now left' left'' w' w'' f' f'' → OperationServed pair.looks vars me status mid new between now left' left'' w' w'' f' f''
  get_was me status mid new between now left' left'' w' w'' f' f'' s =
      subst (λ (word : Word). ServedBy word pair.looks vars me status mid new between now left' left'' w' w'' f' f'') pair.is_get (of_asked gets pair.looks (λ c. ServedBy c.word c vars me status mid new between now left' left'' w' w'' f' f'') pair.gets s)

  pub finds_again : {P Q : Type 0} (me me' : Who) (first status : Status) (old mid new : Option History) (before between now : ℕ) (left left' left'' w w' w'' : Option (List ℕ)) (f f' f'' : ℕ)
      → first ≡ statuses.Ok → me' ≡ me → left'' ≡ left' → Served puts vars me first old mid before between left left' w w' f f'
      → ((status ≡ statuses.NoMemory) × P × Q) ⊎ Served gets vars me' status mid new between now left' left'' w' w'' f' f'' → IsLone me old → IsLone me new → before ≤ between → f ≤ f'
      → FindsAgain status new (driver_asked pair.stores) pair.key before now left left'' w w'' f f''
  finds_again me me' first status old mid new before between now left left' left'' w w' w'' f f' f'' well same kept stored (inl none) lone lone' later more =
      subst (λ (s : Status). FindsAgain s new (driver_asked pair.stores) pair.key before now left left'' w w'' f f'') (sym none.0) tt
  finds_again me me' first status old mid new before between now left left' left'' w w' w'' f f' f'' well same kept stored (inr found) lone lone' later more =
      let ok = subst (λ (s : Status). Served puts vars me s old mid before between left left' w w' f f') well stored in
      let mine = subst (λ (who : Who). Served gets vars who status mid new between now left' left'' w' w'' f' f'') same found in
      subst (λ (o : Option (List ℕ)). FindsAgain status new (driver_asked pair.stores) pair.key before now left o w w'' f f'') (sym kept)
      (found_again me status old mid new before between now left left' left'' w w' w'' f f' f'' (put_served puts vars pair.stores pair.puts pair.is_put me statuses.Ok old mid before between left left' w w' f f' ok) (get_was me status mid new between now left' left'' w' w'' f' f'' mine) lone lone' later more)

  -- ---- the put isn't busy, where no other seat has an item

  was_busy : (request : Request) (answer : Answer) (w w' : Option (List ℕ)) (f f' : ℕ) → IsPutAnswer answer → IsPrinted request answer statuses.Busy w w' f f' → answer ≡ answers.Busy
  was_busy request answer w w' f f' kind (inl p) = busy_back answer kind (sym p.0)
  was_busy request answer w w' f f' kind (inr cut) = let clash : statuses.Busy ≡ statuses.WriteFault = cut.0 in absurd cc

  ends_busy : (status : Status) → status ≡ statuses.Busy → IsRefused status ⊎ IsUnread status ⊎ (status ≡ statuses.NoMemory) → ⊥
  ends_busy status e (inl refused) = absurd (subst IsRefused e refused)
  ends_busy status e (inr (inl unread)) = absurd (subst IsUnread e unread)
  ends_busy status e (inr (inr none)) = let clash : statuses.Busy ≡ statuses.NoMemory = sym e ∙ none in absurd cc

  looked_since : (me : Who) (mid new : Option History) (between now : ℕ) (left' left'' w' w'' : Option (List ℕ)) (f' f'' : ℕ) (status : Status) (found : OperationServed pair.looks vars me status mid new between now left' left'' w' w'' f' f'')
      → Grows mid new (LooksUp me (request_for Get (driver_asked pair.looks) found.settings.max found.key found.meta found.blob) 0 (driver_asked pair.looks) found.key found.answer)
  looked_since me mid new between now left' left'' w' w'' f' f'' status found =
      let get_is = ap (λ (word : Word). request_for word (driver_asked pair.looks) found.settings.max found.key found.meta found.blob) pair.is_get in
      let looked = subst (λ (r : Request). Operates me r mid new between now found.answer) get_is found.done in
      looked.told

  stored_alone : (P : History → List LogItem → Type 0) (me : Who) (old mid new : Option History) (before between : ℕ) (left left' w w' : Option (List ℕ)) (f f' : ℕ)
      → OperationServed pair.stores vars me statuses.Busy old mid before between left left' w w' f f' → (new ≡ mid) ⊎ Grows mid new P → IsLone me old → IsLone me new → ⊥
  stored_alone P me old mid new before between left left' w w' f f' stored goes lone lone' =
      let put = request_for Put (driver_asked pair.stores) stored.settings.max stored.key stored.meta stored.blob in
      let put_is : request_of pair.stores stored.settings stored.key stored.meta stored.blob ≡ put = ap (λ (word : Word). request_for word (driver_asked pair.stores) stored.settings.max stored.key stored.meta stored.blob) pair.is_put in
      let whole : IsBlobFor Put left left' stored.blob = subst (λ (word : Word). IsBlobFor word left left' stored.blob) pair.is_put stored.taken in
      let done = subst (λ (r : Request). Operates me r old mid before between stored.answer) put_is stored.done in
      let printed = subst (λ (r : Request). IsPrinted r stored.answer statuses.Busy w w' f f') put_is stored.printed in
      elim done [
        | inl went ↦
            let busy = was_busy put stored.answer w w' f f' went.1.kind printed in
            never_busy P me (driver_asked pair.stores) stored.key stored.blob put old mid new before between (subst (PutDone me put 0 (driver_asked pair.stores) stored.key stored.blob old mid before between) busy went.1) goes lone lone'
        | inr large ↦ absurd (omega (arith, whole.fits, large.0))
      ]

  pub not_busy : {P Q M N : Type 0} (me me' : Who) (first status : Status) (old mid new : Option History) (before between now : ℕ) (left left' left'' w w' w'' : Option (List ℕ)) (f f' f'' : ℕ)
      → me' ≡ me → IsRefused first ⊎ IsUnread first ⊎ ((first ≡ statuses.NoMemory) × M × N) ⊎ Served puts vars me first old mid before between left left' w w' f f'
      → (P → new ≡ mid) → ((status ≡ statuses.NoMemory) × P × Q) ⊎ Served gets vars me' status mid new between now left' left'' w' w'' f' f'' → first ≡ statuses.Busy → IsLone me old × IsLone me new → ⊥
  not_busy me me' first status old mid new before between now left left' left'' w w' w'' f f' f'' same (inl refused) stays got busy lone = ends_busy first busy (inl refused)
  not_busy me me' first status old mid new before between now left left' left'' w w' w'' f f' f'' same (inr (inl unread)) stays got busy lone = ends_busy first busy (inr (inl unread))
  not_busy me me' first status old mid new before between now left left' left'' w w' w'' f f' f'' same (inr (inr (inl none))) stays got busy lone = ends_busy first busy (inr (inr none.0))
  not_busy me me' first status old mid new before between now left left' left'' w w' w'' f f' f'' same (inr (inr (inr stored))) stays got busy lone =
      let served = subst (λ (s : Status). Served puts vars me s old mid before between left left' w w' f f') busy stored in
      let put = put_served puts vars pair.stores pair.puts pair.is_put me statuses.Busy old mid before between left left' w w' f f' served in
      elim got [
        | inl none ↦ stored_alone (λ h news. ⊥) me old mid new before between left left' w w' f f' put (inl (stays none.1)) lone.0 lone.1
        | inr found ↦
            let mine = subst (λ (who : Who). Served gets vars who status mid new between now left' left'' w' w'' f' f'') same found in
            let looked = get_was me status mid new between now left' left'' w' w'' f' f'' mine in
            stored_alone _ me old mid new before between left left' w w' f f' put (inr (looked_since me mid new between now left' left'' w' w'' f' f'' status looked)) lone.0 lone.1
      ]
