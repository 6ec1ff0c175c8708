-- A whole lookup, from its Begin to its End, keeps the rules among seats.
use Rattle.std.proofs.Common.{◌≡◌, ℕ, true, false, List, [], ◌∷◌, ◌++◌, fold, sym, ap, subst, ◌∙◌}
use Rattle.std.proofs.lemmas.Bool.{false≢true}
use Rattle.cache_types.specs.Driver.{DriverKeys, IsDriver}
use Rattle.cache_types.specs.declared.answer.Answer.{Answer}
use Rattle.cache_types.specs.declared.answer.Answer.TheVariants as answers
use Rattle.cache_types.specs.declared.key.Key.{Key}
use Rattle.cache_types.specs.declared.request.Request.{Request}
use Rattle.cache_types.specs.declared.request.Request.TheVariants as requests
use Rattle.cache_types.specs.declared.request.RoPlan.{RoPlan}
use Rattle.cache_types.specs.declared.seat.Who.{Who}
use Rattle.cache_types.specs.declared.store.Store.{Store}
use Rattle.file_log.specs.declared.item.LogItem.{LogItem}
use Rattle.file_log.specs.declared.item.LogItem.TheVariants as items
use Rattle.file_log.specs.Along.{All, Keeps}
use Rattle.file_log.specs.Exchange.{Exchange}
use Rattle.file_log.specs.Legal.{Legal}
use Rattle.file_log.specs.Log.{History, with_items, own, is_own, NoStop}
use Rattle.file_log.specs.Seat.{course_of}
use Rattle.file_log.specs.State.{state_of, disk_of}
use Rattle.file_log.proofs.All.{seat_self}
use Rattle.files_api.specs.Drive.{Runs, items_of_all, IsEndOf}
use Rattle.seat_rules.specs.Changes.{with_item}
use Rattle.layout_rules.specs.Parts.{IsHeld}
use Rattle.seat_rules.specs.Address.{address}
use Rattle.seat_rules.specs.Operations.{is_bound}
use Rattle.layout_rules.specs.Rules.{KeepsRules}
use Rattle.folder_rules.specs.Whole.{folder_of}
use Rattle.seat_rules.proofs.Histories.{goes_by}
use Rattle.folder_store.specs.Keeping.{HasKept, KeepsRulesAmong, OthersKeepRules, WasLacking, AsksGet}
use Rattle.folder_store.specs.Gets.{FolderGet, IsNew, get_asks, get_asked, GetFed}
use Rattle.folder_store.proofs.GetAlong as along
use Rattle.folder_store.proofs.GetKnown.{asked_for, Told}
use Rattle.folder_store.proofs.Keeping.{order_of, IsOut}
use Rattle.folder_store.proofs.PutPlaces.{all_at}
use Rattle.folder_store.proofs.Since.{seen_since, before_too, own_stands}
use Rattle.folder_store.proofs.Stronger.{Stronger, IsStronger, keeps_rules, all_more, keeps_stronger}

module _ (me : Who) (root : ℕ) (driver : DriverKeys) (key : Key) (ro : RoPlan) (fits : IsDriver driver) where
  abbrev this_lookup : Request
  this_lookup = asked_for me root driver key ro

  abbrev Lacks : History → Type 0
  Lacks h = Told me root driver key ro answers.Miss h

  -- ---- what a miss says

  -- a miss of this seat says that the store was seen without such a blob
  abbrev Says : History → LogItem → Type 0
  Says h (items.End who answers.Miss) = is_own me (items.End who answers.Miss) ≡ true → Lacks h
  Says h x = Unit {0}

  says_inner : (h : History) (x : LogItem) → is_bound x ≡ false → Says h x
  says_inner h (items.End who answer) inner = absurd (false≢true (sym inner))
  says_inner h x inner = tt

  says_end : (h : History) (answer : Answer) → Told me root driver key ro answer h → Says h (items.End me answer)
  says_end h answers.Miss told = λ own'. told
  says_end h answer told = tt

  says_other : (h : History) (x : LogItem) → is_own me x ≡ false → Says h x
  says_other h (items.End who answers.Miss) other = λ own'. absurd (false≢true (sym other ∙ own'))
  says_other h (items.End who answer) other = tt
  says_other h x other = tt

  -- ---- the whole lookup

  says : (first : FolderGet) (answer : Answer) → IsNew root driver key first → IsStronger (along.inductive me root driver key ro fits) Says first this_lookup answer
  says first answer new = record {
    begins = λ h. tt;
    starts = λ h i. along.starts me root driver key ro fits first h new i;
    calls = λ m call reply x made h d legal. says_inner h x d.1.0;
    is_in = λ m h b. b.0;
    ends = λ m given h b e is. (along.ends me root driver key ro fits m given answer h b e is, says_end h answer (along.tells me root driver key ro fits m given answer h b e is));
  }

  -- A lookup of a seat in no operation is not the first to break a rule, or to say what it hasn't seen.
  weaves : (first last : FolderGet) (xs : List Exchange) (given answer : Answer) (h : History) (news : List LogItem) → IsNew root driver key first → Runs get_asks get_asked GetFed me first xs given last → IsEndOf given answer
      → own me news ≡ items.Begin me this_lookup ∷ (items_of_all xs ++ items.End me answer ∷ []) → Legal (state_of h) news → NoStop me.process news → IsOut me h → Keeps with_item (Stronger Says) me h news
  weaves first last xs given answer h news new runs is e legal goes_on out =
      keeps_stronger (along.inductive me root driver key ro fits) Says first this_lookup answer (says first answer new) last xs given h news runs is e legal goes_on out

  pub keeps_asked : (first last : FolderGet) (xs : List Exchange) (given answer : Answer) (h : History) (news : List LogItem) → IsNew root driver key first → Runs get_asks get_asked GetFed me first xs given last → IsEndOf given answer
      → own me news ≡ items.Begin me this_lookup ∷ (items_of_all xs ++ items.End me answer ∷ []) → Legal (state_of h) news → NoStop me.process news → IsOut me h → Keeps with_item KeepsRules me h news
  keeps_asked first last xs given answer h news new runs is e legal goes_on out = keeps_rules me Says says_other h news (weaves first last xs given answer h news new runs is e legal goes_on out)

  pub misses_asked : (first last : FolderGet) (xs : List Exchange) (given : Answer) (h : History) (news : List LogItem) → IsNew root driver key first → Runs get_asks get_asked GetFed me first xs given last → IsEndOf given answers.Miss
      → own me news ≡ items.Begin me this_lookup ∷ (items_of_all xs ++ items.End me answers.Miss ∷ []) → Legal (state_of h) news → NoStop me.process news → IsOut me h → OthersKeepRules me h news → WasLacking me root driver key h news
  misses_asked first last xs given h news new runs is e legal goes_on out others =
      let seen = all_more me Says says_other h news (weaves first last xs given answers.Miss h news new runs is e legal goes_on out) others in
      let stands = own_stands me news (items.Begin me this_lookup ∷ items_of_all xs) [] (items.End me answers.Miss) e in
      let at_end : Says (fold with_item h stands.before) (items.End me answers.Miss) = all_at with_item Says h stands.before stands.later (items.End me answers.Miss) (subst (All with_item Says h) stands.news_are seen) in
      let told : Lacks (with_items h stands.before) = subst Lacks (goes_by h stands.before) (at_end (seat_self me)) in
      let lacking = seen_since h me this_lookup (λ d. IsHeld d (address (folder_of root) driver key) → ⊥) stands.before out.idle told in
      subst (WasLacking me root driver key h) (sym stands.news_are) (before_too me (λ d. IsHeld d (address (folder_of root) driver key) → ⊥) (disk_of h) stands.before (items.End me answers.Miss ∷ stands.later) lacking)

-- ---- of each request for it

asked_so : (request : Request) (root : ℕ) (driver : DriverKeys) (key : Key) → AsksGet request root driver key → (ro : RoPlan) × (requests.Get (folder_of root) driver key ro ≡ request)
asked_so (requests.Get store driver' key' ro) root driver key asks = (
  ro,
  sym (ap (λ (s : Store). requests.Get s driver' key' ro) asks.0 ∙ ap (λ (d : DriverKeys). requests.Get (folder_of root) d key' ro) asks.1 ∙ ap (λ (k : Key). requests.Get (folder_of root) driver k ro) asks.2),
)
asked_so request root driver key asks = absurd asks

pub lookup_keeps : (me : Who) (request : Request) (root : ℕ) (driver : DriverKeys) (key : Key) (first last : FolderGet) (xs : List Exchange) (given answer : Answer) (h : History) (news : List LogItem) → IsDriver driver → IsNew root driver key first
    → Runs get_asks get_asked GetFed me first xs given last → IsEndOf given answer → own me news ≡ items.Begin me request ∷ (items_of_all xs ++ items.End me answer ∷ []) → Legal (state_of h) news → NoStop me.process news → (course_of me h.log).inside ≡ false
    → AsksGet request root driver key → KeepsRulesAmong me h news
lookup_keeps me request root driver key first last xs given answer h news fits new runs is e legal goes_on idle asks kept =
    let r = asked_so request root driver key asks in
    let e' = subst (λ (q : Request). own me news ≡ items.Begin me q ∷ (items_of_all xs ++ items.End me answer ∷ [])) (sym r.1) e in
    keeps_asked me root driver key r.0 fits first last xs given answer h news new runs is e' legal goes_on (record { order = order_of h kept; idle = idle })

pub lookup_misses : (me : Who) (request : Request) (root : ℕ) (driver : DriverKeys) (key : Key) (first last : FolderGet) (xs : List Exchange) (given answer : Answer) (h : History) (news : List LogItem) → IsDriver driver → IsNew root driver key first
    → Runs get_asks get_asked GetFed me first xs given last → IsEndOf given answer → own me news ≡ items.Begin me request ∷ (items_of_all xs ++ items.End me answer ∷ []) → Legal (state_of h) news → NoStop me.process news → (course_of me h.log).inside ≡ false
    → AsksGet request root driver key → HasKept h → OthersKeepRules me h news → answer ≡ answers.Miss → WasLacking me root driver key h news
lookup_misses me request root driver key first last xs given answer h news fits new runs is e legal goes_on idle asks kept others miss =
    let r = asked_so request root driver key asks in
    let e' = subst (λ (q : Request). own me news ≡ items.Begin me q ∷ (items_of_all xs ++ items.End me answer ∷ [])) (sym r.1) e in
    let e'' = subst (λ (a : Answer). own me news ≡ items.Begin me (requests.Get (folder_of root) driver key r.0) ∷ (items_of_all xs ++ items.End me a ∷ [])) miss e' in
    misses_asked me root driver key r.0 fits first last xs given h news new runs (subst (IsEndOf given) miss is) e'' legal goes_on (record { order = order_of h kept; idle = idle }) others
