-- A whole put, from its Begin to its End, keeps the rules among seats.
use Rattle.std.proofs.Common.{◌≡◌, ℕ, true, false, nat_eq, List, [], ◌∷◌, ◌++◌, length, sym, ap, ◌∙◌, subst}
use Rattle.std.proofs.lemmas.Bool.{false≢true}
use Rattle.cache_types.specs.Driver.{DriverKeys}
use Rattle.cache_types.specs.declared.answer.Answer.{Answer}
use Rattle.cache_types.specs.declared.key.Key.{Key}
use Rattle.cache_types.specs.declared.meta.Meta.{Meta}
use Rattle.cache_types.specs.declared.request.Request.{Request}
use Rattle.cache_types.specs.declared.request.Request.TheVariants as requests
use Rattle.cache_types.specs.declared.seat.Who.{Who}
use Rattle.cache_types.specs.declared.store.Store.{Store}
use Rattle.file_log.specs.declared.item.LogItem.{LogItem}
use Rattle.file_log.specs.declared.item.LogItem.TheVariants.{Begin, End}
use Rattle.file_log.specs.Along.{Keeps}
use Rattle.file_log.specs.Exchange.{Exchange}
use Rattle.file_log.specs.Legal.{Legal}
use Rattle.file_log.specs.Log.{History, is_own, own, NoStop}
use Rattle.file_log.specs.Seat.{course_of}
use Rattle.file_log.specs.State.{state_of, disk_of}
use Rattle.files_api.specs.Drive.{Runs, items_of_all, IsEndOf}
use Rattle.item_frame.specs.Item.{Reads}
use Rattle.seat_rules.specs.Changes.{with_item}
use Rattle.layout_rules.specs.Rules.{KeepsRules}
use Rattle.folder_rules.specs.Whole.{folder_of}
use Rattle.folder_store.specs.declared.put.FolderPut.{FolderPut}
use Rattle.folder_store.specs.Keeping.{HasKept, KeepsRulesAmong, OthersKeepRules}
use Rattle.folder_store.specs.Put.{AsksPut, blob_in, NamesFront, EvictsNameFronts}
use Rattle.folder_store.specs.PutPhases.{IsNewPut, asks_put, asked_put, FedPut}
use Rattle.folder_store.proofs.AmongKnown.{Task, asked_for}
use Rattle.folder_store.proofs.Keeping.{order_of, IsOut}
use Rattle.folder_store.proofs.PutAlong as along
use Rattle.folder_store.proofs.PutEnds.{filled, asked_reads}
use Rattle.folder_store.proofs.Stronger.{IsStronger, keeps_rules, all_more, keeps_stronger}

module _ (t : Task) (some : nat_eq (length t.item) 0 ≡ false) (reads : Reads t.driver t.item t.blob) where
  -- a seat's own Evict names what stands in front of the entry
  abbrev Names : History → LogItem → Type 0
  Names h x = is_own t.me x ≡ true → NamesFront t.root t.key (disk_of h) x

  names_other : (h : History) (x : LogItem) → is_own t.me x ≡ false → Names h x
  names_other h x other = λ mine. absurd (false≢true (sym other ∙ mine))

  names : (first : FolderPut) (answer : Answer) → IsNewPut t.root t.driver t.key t.item first → IsStronger (along.inductive t some reads) Names first (asked_for t) answer
  names first answer new = record {
    begins = λ h mine. tt;
    starts = λ h i. along.starts_new t some reads first h new i;
    calls = λ m call reply x made h d legal mine. (along.moves t some reads m.phase m.item reply x made h d.1 d.2 legal).evicts;
    is_in = λ m h b. b.1;
    ends = λ m given h b e is. (along.ends t some reads m given answer h b e is, λ mine. tt);
  }

  -- A put of a seat in no operation is not the first to break a rule, or to tell an Evict that names no front.
  pub keeps_asked : (first last : FolderPut) (xs : List Exchange) (given answer : Answer) (h : History) (news : List LogItem) → IsNewPut t.root t.driver t.key t.item first → Runs asks_put asked_put FedPut t.me first xs given last → IsEndOf given answer
      → own t.me news ≡ Begin t.me (asked_for t) ∷ (items_of_all xs ++ End t.me answer ∷ []) → Legal (state_of h) news → NoStop t.me.process news → IsOut t.me h → Keeps with_item KeepsRules t.me h news × (OthersKeepRules t.me h news → EvictsNameFronts t.me t.root t.key h news)
  keeps_asked first last xs given answer h news new runs is e legal goes out =
      let woven = keeps_stronger (along.inductive t some reads) Names first (asked_for t) answer (names first answer new) last xs given h news runs is e legal goes out in
      (keeps_rules t.me Names names_other h news woven, all_more t.me Names names_other h news woven)

-- ---- of each request for it

asked_so : (request : Request) (root : ℕ) (driver : DriverKeys) (key : Key) (item : List ℕ) → AsksPut request root driver key item → (meta : Meta) × (limit : ℕ) × (requests.Put (folder_of root) driver key meta (blob_in request) limit ≡ request)
asked_so (requests.Put store driver' key' meta blob limit) root driver key item asks = (
  meta,
  limit,
  sym (ap (λ (s : Store). requests.Put s driver' key' meta blob limit) asks.0 ∙ ap (λ (d : DriverKeys). requests.Put (folder_of root) d key' meta blob limit) asks.1 ∙ ap (λ (k : Key). requests.Put (folder_of root) driver k meta blob limit) asks.2),
)
asked_so request root driver key item asks = absurd asks

-- what it keeps among seats that keep the rules
pub record IsKeptAmong (me : Who) (root : ℕ) (key : Key) (h : History) (news : List LogItem) : Type 0 where
  pub keeps : KeepsRulesAmong me h news
  pub evicts : HasKept h → OthersKeepRules me h news → EvictsNameFronts me root key h news

pub put_keeps : (me : Who) (request : Request) (root : ℕ) (driver : DriverKeys) (key : Key) (item : List ℕ) (first last : FolderPut) (xs : List Exchange) (given answer : Answer) (h : History) (news : List LogItem) → AsksPut request root driver key item → IsNewPut root driver key item first
    → Runs asks_put asked_put FedPut me first xs given last → IsEndOf given answer → own me news ≡ Begin me request ∷ (items_of_all xs ++ End me answer ∷ []) → Legal (state_of h) news → NoStop me.process news → (course_of me h.log).inside ≡ false → IsKeptAmong me root key h news
put_keeps me request root driver key item first last xs given answer h news asks new runs is e legal goes idle =
    let r = asked_so request root driver key item asks in
    let reads = asked_reads request root driver key item asks in
    let t : Task = record { me = me; root = root; driver = driver; key = key; meta = r.0; blob = blob_in request; limit = r.1; item = item } in
    let e' = subst (λ (q : Request). own me news ≡ Begin me q ∷ (items_of_all xs ++ End me answer ∷ [])) (sym r.2) e in
    let both = λ (kept : HasKept h). keeps_asked t (filled driver item (blob_in request) reads) reads first last xs given answer h news new runs is e' legal goes (record { order = order_of h kept; idle = idle }) in
    record { keeps = λ kept. (both kept).0; evicts = λ kept. (both kept).1 }
