-- An operation among seats that keep the rules.
use Rattle.std.proofs.Common.{◌≡◌, inl, inr, ℕ, List, [], ◌∷◌, ◌++◌, fold, Option, refl, sym, ap, ◌∙◌, subst}
use Rattle.cache_types.specs.Driver.{DriverKeys}
use Rattle.cache_types.specs.declared.answer.Answer.{Answer}
use Rattle.cache_types.specs.declared.key.Key.{Key}
use Rattle.cache_types.specs.declared.request.Request.{Request}
use Rattle.cache_types.specs.declared.request.Request.TheVariants as requests
use Rattle.cache_types.specs.declared.request.RoPlan.{RoPlan}
use Rattle.cache_types.specs.declared.seat.Who.{Who}
use Rattle.cache_types.specs.declared.store.Layout.{Layout}
use Rattle.cache_types.specs.declared.store.Layout.TheVariants.{Folder}
use Rattle.cache_types.specs.declared.store.Store.{Store}
use Rattle.file_log.specs.declared.item.LogItem.{LogItem}
use Rattle.file_log.specs.Along.{All, Keeps}
use Rattle.file_log.specs.Disk.{Start}
use Rattle.file_log.specs.Log.{History}
use Rattle.file_log.specs.Told.{Grows}
use Rattle.seat_rules.specs.Changes.{with_item}
use Rattle.seat_rules.specs.Places.{past}
use Rattle.layout_rules.specs.Rules.{KeepsRules}
use Rattle.seat_rules.proofs.Histories.{goes_by}
use Rattle.layout_rules.proofs.Placing.{hold_along}
use Rattle.folder_store.specs.Keeping.{HasKept, KeepsRulesAmong, AsksGet}
use Rattle.folder_store.proofs.Operations.{Grows-map}
use Rattle.op_union.specs.Cooperating.{KeepsOwn, MissesTruly, AnswersAsRead}
use Rattle.op_union.specs.Requests.{IsBuilt, Operates}

-- a seat that isn't the first to break a rule in a log, nor in what follows where none broke one in it, isn't the first in both
keeps_both : {S : Type 0} (step : S → LogItem → S) (Rule : S → LogItem → Type 0) (me : Who) (s : S) (xs ys : List LogItem) → Keeps step Rule me s xs → (All step Rule s xs → Keeps step Rule me (fold step s xs) ys) → Keeps step Rule me s (xs ++ ys)
keeps_both step Rule me s [] ys keeps more = more tt
keeps_both step Rule me s (x ∷ xs) ys keeps more = (keeps.0, λ rule. keeps_both step Rule me (step s x) xs ys (keeps.1 rule) (λ all. more (rule, all)))

-- a seat that keeps the rules after each history in which none was broken cooperates
pub own_kept : (me : Who) (h : History) (news : List LogItem) → KeepsRulesAmong me h news → KeepsOwn me h news
own_kept me h news keeps empty legal by =
    let begun : fold with_item (past []) h.log ≡ h = goes_by (past []) h.log ∙ ap (λ (start : Start). record { start = start; log = h.log }) (sym empty) in
    ((hold_along (h.log ++ news)).1 me).1 (keeps_both with_item KeepsRules me (past []) h.log news (((hold_along h.log).1 me).0 by)
    (λ all. let kept : HasKept h = record { empty = empty; legal = legal; cooperating = (hold_along h.log).0.1 all } in subst (λ (h' : History). Keeps with_item KeepsRules me h' news) (sym begun) (keeps kept)))

-- ---- whichever it is

-- a lookup asks a folder store
abbrev pub AsksFolder : Request → Type 0
AsksFolder (requests.Get store driver key ro) = store.layout ≡ Folder
AsksFolder request = Unit {0}

pub built_asks : (request : Request) → IsBuilt request → AsksFolder request
built_asks (requests.Get store driver key ro) built = built.0
built_asks request built = tt

asks_get : (store : Store) (driver : DriverKeys) (key : Key) (ro : RoPlan) → store.layout ≡ Folder → AsksGet (requests.Get store driver key ro) store.root driver key
asks_get store driver key ro folder = (ap (λ (layout : Layout). record { root = store.root; layout = layout }) folder, refl, refl)

module _ (me : Who) (old new : Option History) (before now : ℕ) (answer : Answer) where
  pub keeps_own : (request : Request) → AsksFolder request → Operates me request old new before now answer → Grows old new (KeepsOwn me)
  keeps_own (requests.Get store driver key ro) folder done = Grows-map old new _ _ done.told (λ h news looks. own_kept me h news (looks.keeps (asks_get store driver key ro folder)))
  keeps_own (requests.Put store driver key meta blob limit) folder (inl put) = Grows-map old new _ _ put.1.told (λ h news puts. own_kept me h news puts.keeps)
  keeps_own (requests.Put store driver key meta blob limit) folder (inr large) = Grows-map old new _ _ large.1.told (λ h news refuses. own_kept me h news refuses.keeps)
  keeps_own request folder done = absurd done

  pub misses_truly : (request : Request) → AsksFolder request → Operates me request old new before now answer → Grows old new (MissesTruly me request answer)
  misses_truly (requests.Get store driver key ro) folder done = Grows-map old new _ _ done.told (λ h news looks miss kept others. looks.misses (asks_get store driver key ro folder) kept others miss)
  misses_truly (requests.Put store driver key meta blob limit) folder (inl put) = Grows-map old new _ _ put.1.told (λ h news puts. tt)
  misses_truly (requests.Put store driver key meta blob limit) folder (inr large) = Grows-map old new _ _ large.1.told (λ h news refuses. tt)
  misses_truly request folder done = absurd done

  pub answers_as_read : (request : Request) → Operates me request old new before now answer → Grows old new (AnswersAsRead me request answer)
  answers_as_read (requests.Get store driver key ro) done = Grows-map old new _ _ done.told (λ h news looks. looks.rests)
  answers_as_read (requests.Put store driver key meta blob limit) (inl put) = Grows-map old new _ _ put.1.told (λ h news puts. tt)
  answers_as_read (requests.Put store driver key meta blob limit) (inr large) = Grows-map old new _ _ large.1.told (λ h news refuses. tt)
  answers_as_read request done = absurd done
