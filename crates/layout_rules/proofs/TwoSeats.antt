-- The definitions at small values, two seats and one key: that each can hold, and that each can fail.
use Rattle.std.proofs.Common.{◌≡◌, inl, inr, ℕ, zero, suc, true, false, List, [], ◌∷◌, ◌++◌, Option, Some, None, refl, subst, arith}
use Rattle.std.proofs.lemmas.List.Elements.{Contains-push, Contains-append_left, Contains-push_cases}
use Rattle.cache_types.specs.Driver.{DriverKeys, IsDriver}
use Rattle.cache_types.specs.Names.{name_code}
use Rattle.cache_types.specs.declared.answer.Answer.TheVariants as answers
use Rattle.cache_types.specs.declared.key.Key.{Key}
use Rattle.cache_types.specs.declared.meta.Meta.TheVariants.{Unknown}
use Rattle.cache_types.specs.declared.name.Name.TheVariants as names
use Rattle.cache_types.specs.declared.request.Request.{Request}
use Rattle.cache_types.specs.declared.request.Request.TheVariants as requests
use Rattle.cache_types.specs.declared.request.RoPlan.{RoPlan}
use Rattle.cache_types.specs.declared.seat.Who.{Who}
use Rattle.cache_types.specs.declared.store.Layout.TheVariants.{Folder}
use Rattle.file_log.specs.Log.{History, WasPut}
use Rattle.file_log.specs.State.{disk_of}
use Rattle.file_log.specs.declared.call.Call.TheVariants as calls
use Rattle.file_log.specs.declared.item.LogItem.{LogItem}
use Rattle.file_log.specs.declared.item.LogItem.TheVariants as items
use Rattle.file_log.specs.declared.reply.Reply.TheVariants as replies
use Rattle.item_frame.specs.Item.{item_of}
use Rattle.seat_rules.specs.Address.{Address, address}
use Rattle.layout_rules.specs.Parts.{IsHeld}
use Rattle.seat_rules.specs.Operations.{IsInside, EvictIsOpen}
use Rattle.layout_rules.specs.Places.{BreaksAt, Cooperating}
use Rattle.seat_rules.specs.Promises.{IsLicensed, IsPromised, IsFound}
use Rattle.seat_rules.specs.Rules.{OnlyHoldersWrite, NamesStay}
use Rattle.layout_rules.proofs.Folders.{NothingIsLost, conforms_of}
use Rattle.layout_rules.specs.Rules.{AnswersAreEarned, Conforms, KeepsRules}
use Rattle.folder_rules.specs.Rules.{EntriesComeByRename}
use Rattle.folder_rules.specs.Whole.{folder_of, EntriesAreWhole}
use Rattle.seat_rules.proofs.Along.{past}
use Rattle.seat_rules.proofs.Inside.{one_inside}
use Rattle.layout_rules.proofs.Earning.{earned_at}

abbrev one : Who
one = record { process = 0; seat = 0 }

abbrev two : Who
two = record { process = 1; seat = 0 }

abbrev key : Key
key = record { bytes = 7 ∷ [] }

abbrev driver : DriverKeys
driver = record { id = 1 ∷ []; gpu = 2 ∷ []; flags = 0 }

abbrev at : Address
at = address (folder_of 0) driver key

abbrev plan : RoPlan
plan = record { names = []; list = false }

abbrev put : LogItem
put = items.Begin one (requests.Put (folder_of 0) driver key Unknown (5 ∷ []) 100)

abbrev lookup : LogItem
lookup = items.Begin two (requests.Get (folder_of 0) driver key plan)

-- ---- who writes

-- the folder's lock is taken, and the temporary file made under it
abbrev locked : List LogItem
locked = items.Did one (calls.OpenNew 0 (names.FolderLock 0 7)) replies.Done ∷ items.Did one (calls.TryLock 0) replies.Done ∷ items.Did one (calls.OpenNew 1 (names.Temp 0 key)) replies.Done ∷ []

-- its holder may write it, and so keeps that rule; the other seat breaks it by a byte
pub other_may_not : (h : OnlyHoldersWrite (past (locked ++ items.Did two (calls.OpenOld 0 (names.Temp 0 key)) replies.Done ∷ [])) (items.Byte two 0 0 9) two) → ⊥
unfolding name_code
other_may_not h = let clash : ◌≡◌ {A = List ℕ} (9 ∷ []) [] = (h (names.Temp 0 key) refl).bytes 1 refl in absurd cc

none_is_no_file : ◌≡◌ {A = Option ℕ} None (Some 0) → ⊥
none_is_no_file e = cc

-- ---- how an entry comes

-- not by opening it
pub not_by_opening : EntriesComeByRename (past []) (items.Did one (calls.OpenNew 0 (names.Entry 0 key)) replies.Done) one → ⊥
unfolding name_code
not_by_opening r = none_is_no_file ((r 0 key).renamed refl 0 refl)

-- ---- names that stay

-- a database is never removed
pub not_removed : NamesStay (past (items.Did one (calls.OpenNew 0 (names.Db 0)) replies.Done ∷ [])) (items.Did one (calls.Remove (names.Db 0)) replies.Done) → ⊥
unfolding name_code
not_removed s = none_is_no_file ((s (names.Db 0)).lasting refl 0 refl)

-- ---- what is lost

is_driver : IsDriver driver
is_driver = record { id = (omega arith, (λ e. absurd (omega (arith, e)), tt)); gpu = (omega arith, (λ e. absurd (omega (arith, e)), tt)); flags = omega arith }

-- a store that holds a blob at first
abbrev stored : List LogItem → History
stored log = record { start = (names.Entry 0 key, item_of driver Unknown (5 ∷ [])) ∷ []; log = log }

held_at_first : IsHeld (disk_of (stored [])) at
unfolding name_code
held_at_first = (5 ∷ [], record { meta = Unknown; fits = tt; size = omega arith; whole = refl })

-- but that nobody put there: its entry isn't whole
pub not_put : EntriesAreWhole (stored []) → ⊥
unfolding name_code
not_put whole = let short = (whole 0 key (item_of driver Unknown (5 ∷ [])) refl).put.3.1 in absurd (omega (arith, short))

none_told : EvictIsOpen [] two at → ⊥
none_told o = by_front o.before o.later o.log_is
  where
    by_front : (before later : List LogItem) → [] ≡ before ++ items.Evict two (folder_of 0) driver key ∷ later → ⊥
    by_front [] later e = cc
    by_front (x ∷ before) later e = cc

-- an entry that no Evict names isn't removed
pub not_lost : NothingIsLost (stored []) (items.Did two (calls.Remove (names.Entry 0 key)) replies.Done) two → ⊥
unfolding name_code
not_lost kept = elim (kept tt at is_driver held_at_first) [ inl held ↦ held.1 | inr told ↦ none_told told ]

-- ---- answers

-- after a call of it failed an operation ends in a fault
abbrev faulted : List LogItem
faulted = lookup ∷ items.Failed two false ∷ []

pub fault_is_earned : AnswersAreEarned (past faulted) (items.End two answers.FilesFault)
fault_is_earned = record { request = requests.Get (folder_of 0) driver key plan; inside = record { before = []; since = items.Failed two false ∷ []; log_is = refl; goes_on = (refl, tt) }; kind = refl; earned = refl }

-- but not where none failed
pub fault_is_not_earned : AnswersAreEarned (past (lookup ∷ [])) (items.End two answers.FilesFault) → ⊥
fault_is_not_earned ends =
    let inside : IsInside (lookup ∷ []) two (requests.Get (folder_of 0) driver key plan) = record { before = []; since = []; log_is = refl; goes_on = tt } in
    let failed : false ≡ true = (earned_at (past (lookup ∷ [])) two answers.FilesFault (requests.Get (folder_of 0) driver key plan) ends inside).1 in
    absurd cc

-- an operation begins where none is open
pub not_twice : AnswersAreEarned (past (lookup ∷ [])) lookup → ⊥
not_twice none = none (requests.Get (folder_of 0) driver key plan) (record { before = []; since = []; log_is = refl; goes_on = tt })

-- ---- what is promised

-- the blob was put that a lookup asks for
abbrev PutFor : List LogItem → Request → Type 0
PutFor log (requests.Get store driver' key' ro) = WasPut log store driver' key' (5 ∷ [])
PutFor log request = ⊥

-- a hit of what was put is licensed
pub hit_is_licensed : IsLicensed (past (put ∷ lookup ∷ [])) (items.End two (answers.Hit (5 ∷ [])))
hit_is_licensed at' ro inside =
    let mine : IsInside (put ∷ lookup ∷ []) two (requests.Get (folder_of 0) driver key plan) = record { before = put ∷ []; since = []; log_is = refl; goes_on = tt } in
    let same = one_inside (put ∷ lookup ∷ []) two (requests.Get (folder_of 0) driver key plan) (requests.Get at'.store at'.driver at'.key ro) mine inside in
    inl (subst (PutFor (put ∷ lookup ∷ [])) same.request (one, Unknown, 100, Contains-append_left (put ∷ []) (lookup ∷ []) put (Contains-push [] put)))

-- but only where its blob was put
pub hit_is_not_licensed : IsLicensed (past (lookup ∷ [])) (items.End two (answers.Hit (5 ∷ []))) → ⊥
hit_is_not_licensed licensed = elim (licensed at plan (record { before = []; since = []; log_is = refl; goes_on = tt })) [
  | inl was ↦ elim (Contains-push_cases [] lookup (items.Begin was.0 (requests.Put (folder_of 0) driver key was.1 (5 ∷ []) was.2)) was.3) [
    | inl none ↦ let short = none.1 in absurd (omega (arith, short))
    | inr same ↦ absurd cc
  ]
  | inr given ↦ given
]

-- what was stored before the lookup began is promised to it
abbrev served : List LogItem
served = put ∷ items.End one answers.Stored ∷ lookup ∷ []

pub is_promised : IsPromised served two at
is_promised = record {
  by = one;
  meta = Unknown;
  blob = 5 ∷ [];
  limit = 100;
  answer = answers.Stored;
  ro = plan;
  first = [];
  within = [];
  between = [];
  since = [];
  log_is = refl;
  put_goes_on = tt;
  is_well = refl;
  goes_on = tt;
  none_open = λ other o. nothing_told o.before _ o.later o.log_is;
  none_told = none_told_since;
}
  where
    nothing_told : (before : List LogItem) (x : LogItem) (later : List LogItem) → [] ≡ before ++ x ∷ later → ⊥
    nothing_told [] x later e = cc
    nothing_told (y ∷ before) x later e = cc

    none_told_since : (before later : List LogItem) (who : Who) → items.End one answers.Stored ∷ lookup ∷ [] ≡ before ++ items.Evict who (folder_of 0) driver key ∷ later → ⊥
    none_told_since [] later who e = cc
    none_told_since (x ∷ []) later who e = cc
    none_told_since (x ∷ y ∷ []) later who e = cc
    none_told_since (x ∷ y ∷ z ∷ before) later who e = cc

-- so a miss is not as promised
pub miss_is_not_found : IsFound (past served) (items.End two answers.Miss) → ⊥
miss_is_not_found found = let clash : false ≡ true = found (refl, (refl, (refl, tt))) at is_promised in absurd cc

-- ---- places

-- a log of a pause breaks no rule
pub a_pause_conforms : Conforms (past []) (items.Did one calls.Pause replies.Done) one
a_pause_conforms = conforms_of (past []) (items.Did one calls.Pause replies.Done) one (record {
  whole = λ root k bytes file. absurd cc;
  written = λ name other. record { bytes = λ f e. refl; comes = λ kind f e. e; stays = λ kind. refl };
  renamed = λ root k. record { held = λ other. refl; renamed = λ not_so f e. e; stays = λ so. refl; bytes = λ f had. refl };
  stay = λ name. record { lasting = λ kind f e. e; foreign = λ kind. refl; bytes = λ kind f had. refl };
  kept = λ calm a fits held. inl held;
  earned = tt;
})

pub a_pause_cooperates : Cooperating (items.Did one calls.Pause replies.Done ∷ [])
a_pause_cooperates zero item e =
    let same : items.Did one calls.Pause replies.Done ≡ item = cc in
    subst (KeepsRules (past [])) same (λ who seat. let me : one ≡ who = cc in subst (Conforms (past []) (items.Did one calls.Pause replies.Done)) me a_pause_conforms)
a_pause_cooperates (suc n) item e = absurd cc

-- one that opens an entry's name breaks one at its first place
pub breaks_at_first : BreaksAt (items.Did one (calls.OpenNew 0 (names.Entry 0 key)) replies.Done ∷ []) 0
breaks_at_first keeps = not_by_opening (((keeps (items.Did one (calls.OpenNew 0 (names.Entry 0 key)) replies.Done) refl one refl).kept Folder).renamed)
