-- The tests of what a summary says decide the rules.
use Rattle.std.proofs.Common.{◌≡◌, ◌⊎◌, inl, inr, ℕ, Bool, true, false, ◌&&◌, ◌||◌, List, [], ◌∷◌, ◌++◌, Option, Some, None, refl, sym, subst, append-nil, ◌↔◌}
use Rattle.std.specs.List.{list_any, list_all}
use Rattle.std.proofs.lemmas.Bool.{false≢true}
use Rattle.std.proofs.lemmas.List.Elements.{Contains-append_left}
use Rattle.cache_types.specs.Driver.{DriverKeys, IsDriver}
use Rattle.cache_types.specs.declared.key.Key.{Key}
use Rattle.cache_types.specs.declared.name.Name.{Name}
use Rattle.cache_types.specs.declared.name.Name.TheVariants as names
use Rattle.cache_types.specs.declared.request.Request.TheVariants as requests
use Rattle.cache_types.specs.declared.seat.Who.{Who}
use Rattle.cache_types.specs.declared.store.Store.{Store}
use Rattle.file_log.specs.Disk.{Disk, file_of}
use Rattle.file_log.specs.Effect.{applied}
use Rattle.file_log.specs.Legal.{Legal}
use Rattle.file_log.specs.Log.{WasPut, Quiet}
use Rattle.file_log.specs.State.{State, first, state_of, disk_of}
use Rattle.file_log.specs.declared.item.LogItem.{LogItem}
use Rattle.file_log.specs.declared.item.LogItem.TheVariants as items
use Rattle.item_frame.proofs.Numbers.{IsBytes}
use Rattle.seat_rules.specs.Address.{Address}
use Rattle.layout_rules.specs.Parts.{IsHeld}
use Rattle.seat_rules.specs.Kinds.{is_entry, is_unwritten}
use Rattle.seat_rules.specs.Operations.{EvictIsOpen}
use Rattle.layout_rules.specs.Rules.{Conforms, KeepsRules}
use Rattle.log_summary.specs.Summary.{BegunPut, OpenEvict, Summary, put_in, read_for}
use Rattle.cache_types.specs.Seats.{same_seat}
use Rattle.rule_checks.specs.Tests.{same_store, same_key, same_blob, same_address, is_item_of, is_whole, is_held, evicts, kept_at, kept, Passes, PassesTests}
use Rattle.folder_rules.specs.Whole.{folder_of, IsPutItem, EntriesAreWhole}
use Rattle.seat_rules.proofs.Along.{past}
use Rattle.rule_checks.proofs.Deciding.{same_blob_decides, same_store_decides, same_key_decides, same_address_decides, implies_decides, guarded_decides, renamed_decides, stays_decides, keep_decides}
use Rattle.log_summary.proofs.Seats.{same_seat_decides}
use Rattle.rule_checks.proofs.Earned.{earned_decides}
use Rattle.seat_rules.proofs.Histories.{disk_then}
use Rattle.seat_rules.proofs.Puts.{fits_in}
use Rattle.layout_rules.proofs.Folders.{SixRules, conforms_of, six_of, gives_put}
use Rattle.log_summary.specs.Telling.{In}
use Rattle.log_summary.proofs.Lists.{and_parts, and_both, or_cases, or_left, or_right, any_in, any_from, all_in, all_out}
use Rattle.log_summary.specs.Telling.{ListsPuts, ListsEvicts, TellsCalm}
use Rattle.log_summary.proofs.Past.{puts_then}
use Rattle.rule_checks.proofs.Reading.{FilesFit, files_fit, reads_from, reads_to, file_fits, held_from, held_to}
use Rattle.log_summary.specs.Telling.{Tells}

-- ---- entries are whole

item_from : (log : List LogItem) (puts : List BegunPut) (root : ℕ) (key : Key) (bytes : List ℕ) → ListsPuts log puts → IsBytes bytes → list_any (is_item_of root key bytes) puts ≡ true → IsPutItem log root key bytes
item_from log puts root key bytes l fit e =
    let one = any_in (is_item_of root key bytes) puts e in
    let p = one.0 in
    let parts = and_parts (same_store p.at.store (folder_of root) && same_key p.at.key key) (same_blob (read_for p.at.driver (Some bytes)) (Some p.blob)) one.2 in
    let where_ = and_parts (same_store p.at.store (folder_of root)) (same_key p.at.key key) parts.0 in
    record {
      driver = p.at.driver;
      blob = p.blob;
      reads = reads_from p.at.driver bytes p.blob fit ((same_blob_decides (read_for p.at.driver (Some bytes)) (Some p.blob)).0 parts.1);
      put = subst (λ (k : Key). WasPut log (folder_of root) p.at.driver k p.blob) ((same_key_decides p.at.key key).0 where_.1)
          (subst (λ (st : Store). WasPut log st p.at.driver p.at.key p.blob) ((same_store_decides p.at.store (folder_of root)).0 where_.0) (l.right p one.1));
    }

item_to : (log : List LogItem) (puts : List BegunPut) (root : ℕ) (key : Key) (bytes : List ℕ) → ListsPuts log puts → IsPutItem log root key bytes → list_any (is_item_of root key bytes) puts ≡ true
item_to log puts root key bytes l i =
    let at : Address = record { store = folder_of root; driver = i.driver; key = key } in
    any_from (is_item_of root key bytes) puts (record { at = at; blob = i.blob }) (l.all at i.blob i.put)
    (and_both (same_store (folder_of root) (folder_of root) && same_key key key) _
    (and_both (same_store (folder_of root) (folder_of root)) _ ((same_store_decides (folder_of root) (folder_of root)).1 refl) ((same_key_decides key key).1 refl))
    ((same_blob_decides (read_for i.driver (Some bytes)) (Some i.blob)).1 (reads_to i.driver bytes i.blob i.reads)))

whole_from : (log : List LogItem) (puts : List BegunPut) → ListsPuts log puts → FilesFit (disk_of (past log)) → ((root : ℕ) (key : Key) → is_whole puts root key (file_of (disk_of (past log)) (names.Entry root key)) ≡ true) → EntriesAreWhole (past log)
whole_from log puts l fit whole root key bytes e =
    item_from log puts root key bytes l (file_fits (disk_of (past log)) (names.Entry root key) bytes fit e) (subst (λ (o : Option (List ℕ)). is_whole puts root key o ≡ true) e (whole root key))

whole_to : (log : List LogItem) (puts : List BegunPut) → ListsPuts log puts → EntriesAreWhole (past log) → (root : ℕ) (key : Key) → is_whole puts root key (file_of (disk_of (past log)) (names.Entry root key)) ≡ true
whole_to log puts l whole root key = by_file (file_of (disk_of (past log)) (names.Entry root key)) refl
  where
    by_file : (o : Option (List ℕ)) → file_of (disk_of (past log)) (names.Entry root key) ≡ o → is_whole puts root key o ≡ true
    by_file None e = refl
    by_file (Some bytes) e = item_to log puts root key bytes l (whole root key bytes e)

-- ---- nothing is lost unevicted

evict_from : (log : List LogItem) (open_ : List OpenEvict) (who : Who) (at : Address) → ListsEvicts log open_ → list_any (evicts who at) open_ ≡ true → EvictIsOpen log who at
evict_from log open_ who at l e =
    let one = any_in (evicts who at) open_ e in
    let parts = and_parts (same_seat one.0.who who) (same_address one.0.at at) one.2 in
    subst (λ (a : Address). EvictIsOpen log who a) ((same_address_decides one.0.at at).0 parts.1)
    (subst (λ (w : Who). EvictIsOpen log w one.0.at) ((same_seat_decides one.0.who who).0 parts.0) (l.right one.0 one.1))

evict_to : (log : List LogItem) (open_ : List OpenEvict) (who : Who) (at : Address) → ListsEvicts log open_ → EvictIsOpen log who at → list_any (evicts who at) open_ ≡ true
evict_to log open_ who at l o =
    any_from (evicts who at) open_ (record { who = who; at = at }) (l.all who at o)
    (and_both (same_seat who who) _ ((same_seat_decides who who).1 refl) ((same_address_decides at at).1 refl))

-- what is held under an address was put there, where entries are whole
held_put : (log : List LogItem) (at : Address) → EntriesAreWhole (past log) → ((store : Store) (driver : DriverKeys) (key : Key) (blob : List ℕ) → WasPut log store driver key blob → IsDriver driver) → IsDriver at.driver
    → IsHeld (disk_of (past log)) at → (blob : List ℕ) × WasPut log at.store at.driver at.key blob
held_put log at whole fits driver held = (held.0, gives_put log at held.0 whole (λ d b. fits (folder_of at.store.root) d at.key b) driver held.1)

-- every driver of a put is one
abbrev PutsFit : List LogItem → Type 0
PutsFit log = (store : Store) (driver : DriverKeys) (key : Key) (blob : List ℕ) → WasPut log store driver key blob → IsDriver driver

while_calm : (rough b : Bool) → rough ≡ false → (rough || b) ≡ true → b ≡ true
while_calm true b calm e = absurd (false≢true (sym calm))
while_calm false b calm e = e

-- what a history of a summary tells of losses
abbrev LosesNone : List LogItem → Who → Disk → Type 0
LosesNone log who new = Quiet log → (at : Address) → IsDriver at.driver → IsHeld (disk_of (past log)) at → IsHeld new at ⊎ EvictIsOpen log who at

kept_from : (log : List LogItem) (rough : Bool) (puts : List BegunPut) (evicting : List OpenEvict) (who : Who) (new : Disk) → TellsCalm log rough → ListsPuts log puts → ListsEvicts log evicting → EntriesAreWhole (past log) → PutsFit log → FilesFit new
    → kept rough puts evicting who (disk_of (past log)) new ≡ true → LosesNone log who new
kept_from log rough puts evicting who new calm listed told whole fits fit e quiet at driver held =
    let put = held_put log at whole fits driver held in
    let all : list_all (kept_at evicting who (disk_of (past log)) new) puts ≡ true = while_calm rough _ (calm.1 quiet) e in
    let one = all_in (kept_at evicting who (disk_of (past log)) new) puts (record { at = at; blob = put.0 }) all (listed.all at put.0 put.1) in
    let still = (implies_decides {P = (is_held new at || list_any (evicts who at) evicting) ≡ true} (is_held (disk_of (past log)) at) _ (λ x. x, λ x. x)).0 one (held_to (disk_of (past log)) at held) in
    elim (or_cases (is_held new at) _ still) [ inl there ↦ inl (held_from new at fit there) | inr evicted ↦ inr (evict_from log evicting who at told evicted) ]

kept_to : (log : List LogItem) (rough : Bool) (puts : List BegunPut) (evicting : List OpenEvict) (who : Who) (new : Disk) → TellsCalm log rough → ListsPuts log puts → ListsEvicts log evicting → PutsFit log → FilesFit (disk_of (past log))
    → LosesNone log who new → kept rough puts evicting who (disk_of (past log)) new ≡ true
kept_to log true puts evicting who new calm listed told fits fit loses = refl
kept_to log false puts evicting who new calm listed told fits fit loses = all_out (kept_at evicting who (disk_of (past log)) new) puts each
  where
    each : (p : BegunPut) → In puts p → kept_at evicting who (disk_of (past log)) new p ≡ true
    each p i = (implies_decides {P = (is_held new p.at || list_any (evicts who p.at) evicting) ≡ true} (is_held (disk_of (past log)) p.at) _ (λ x. x, λ x. x)).1 (λ there.
        elim (loses (calm.0 refl) p.at (fits p.at.store p.at.driver p.at.key p.blob (listed.right p i)) (held_from (disk_of (past log)) p.at fit there)) [
          | inl still ↦ or_left (is_held new p.at) _ (held_to new p.at still)
          | inr open_ ↦ or_right (is_held new p.at) _ (evict_to log evicting who p.at told open_)
        ])

-- ---- all of them, at a place

tells_stated : (log : List LogItem) (s : Summary) → Tells log s → Tells log (record s { state = state_of (past log) })
tells_stated log s t = record { state = refl; files = t.files; puts = t.puts; evicts = t.evicts; calm = t.calm; inside = t.inside }

-- what is known at a place of a log that can be: the summary tells what stands before it, and entries are whole there
record IsPlace (log : List LogItem) (x : LogItem) (s : Summary) : Type 0 where
  legal : Legal (first []) (log ++ x ∷ [])
  tells : Tells log s
  whole : EntriesAreWhole (past log)

-- the summary with the state that the log has
abbrev stated : List LogItem → Summary → Summary
stated log s = record s { state = state_of (past log) }

place_fit : (log : List LogItem) (x : LogItem) (s : Summary) → IsPlace log x s → FilesFit (disk_of (past (log ++ x ∷ [])))
place_fit log x s p = files_fit (log ++ x ∷ []) [] (subst (Legal (first [])) (sym (append-nil (log ++ x ∷ []))) p.legal)

puts_fit : (log : List LogItem) (x : LogItem) → Legal (first []) (log ++ x ∷ []) → PutsFit log
puts_fit log x legal store driver key blob put =
    let begun : LogItem = items.Begin put.0 (requests.Put store driver key put.1 blob put.2) in
    (fits_in (first []) (log ++ x ∷ []) begun legal (Contains-append_left log (x ∷ []) begun put.3)).0

passes_conforms : (log : List LogItem) (x : LogItem) (s : Summary) (who : Who) → IsPlace log x s → Passes (stated log s) x who → Conforms (past log) x who
passes_conforms log x s who p pass = conforms_of (past log) x who (record {
  whole = whole_from (log ++ x ∷ []) (s.puts ++ put_in x) (puts_then log s.puts x p.tells.puts) (place_fit log x s p)
      (λ root key. subst (λ (d : Disk). is_whole (s.puts ++ put_in x) root key (file_of d (names.Entry root key)) ≡ true) (sym (disk_then (past log) x)) (pass.whole root key));
  written = λ name. (guarded_decides (disk_of (past log)) (applied (disk_of (past log)) x) who name).0 (pass.written name);
  renamed = λ root key.
      let r = (renamed_decides (disk_of (past log)) (applied (disk_of (past log)) x) x who root key).0 (pass.renamed root key) in
      record { held = r.held; renamed = r.renamed; stays = r.stays; bytes = λ f h. (keep_decides is_entry s.had (disk_of (past log)) (applied (disk_of (past log)) x)).0 pass.entries (names.Entry root key) f (p.tells.files.all (names.Entry root key) f h) refl };
  stay = λ name.
      let r = (stays_decides (disk_of (past log)) (applied (disk_of (past log)) x) name).0 (pass.stay name) in
      record { lasting = r.0; foreign = r.1; bytes = λ kind f h. (keep_decides is_unwritten s.had (disk_of (past log)) (applied (disk_of (past log)) x)).0 pass.unwritten name f (p.tells.files.all name f h) kind };
  kept = kept_from log s.rough s.puts s.evicting who (applied (disk_of (past log)) x) p.tells.calm p.tells.puts p.tells.evicts p.whole (puts_fit log x p.legal) (subst FilesFit (disk_then (past log) x) (place_fit log x s p)) pass.kept;
  earned = (earned_decides log (stated log s) x p.legal (tells_stated log s p.tells)).0 pass.earned;
})

conforms_passes : (log : List LogItem) (x : LogItem) (s : Summary) (who : Who) → IsPlace log x s → Conforms (past log) x who → Passes (stated log s) x who
conforms_passes log x s who p conforms = record {
  whole = λ root key. subst (λ (d : Disk). is_whole (s.puts ++ put_in x) root key (file_of d (names.Entry root key)) ≡ true) (disk_then (past log) x) (whole_to (log ++ x ∷ []) (s.puts ++ put_in x) (puts_then log s.puts x p.tells.puts) c.whole root key);
  written = λ name. (guarded_decides (disk_of (past log)) (applied (disk_of (past log)) x) who name).1 (c.written name);
  renamed = λ root key. let r = c.renamed root key in (renamed_decides (disk_of (past log)) (applied (disk_of (past log)) x) x who root key).1 (record { held = r.held; renamed = r.renamed; stays = r.stays });
  entries = (keep_decides is_entry s.had (disk_of (past log)) (applied (disk_of (past log)) x)).1 (λ name f i. entry_bytes name f i);
  stay = λ name. let r = c.stay name in (stays_decides (disk_of (past log)) (applied (disk_of (past log)) x) name).1 (r.lasting, r.foreign);
  unwritten = (keep_decides is_unwritten s.had (disk_of (past log)) (applied (disk_of (past log)) x)).1 (λ name f i kind. (c.stay name).bytes kind f (p.tells.files.right name f i));
  kept = kept_to log s.rough s.puts s.evicting who (applied (disk_of (past log)) x) p.tells.calm p.tells.puts p.tells.evicts (puts_fit log x p.legal) (files_fit log (x ∷ []) p.legal) c.kept;
  earned = (earned_decides log (stated log s) x p.legal (tells_stated log s p.tells)).1 c.earned;
}
  where
    c : SixRules (past log) x who
    c = six_of (past log) x who conforms

    entry_bytes : (name : Name) (f : ℕ) → In s.had (name, f) → is_entry name ≡ true → (applied (disk_of (past log)) x).files f ≡ (disk_of (past log)).files f
    entry_bytes (names.Entry root key) f i kind = (c.renamed root key).bytes f (p.tells.files.right (names.Entry root key) f i)
    entry_bytes name f i kind = absurd (false≢true kind)

-- the tests decide the rules
pub tests_decide : (log : List LogItem) (x : LogItem) (s : Summary) → Legal (first []) (log ++ x ∷ []) → Tells log s → EntriesAreWhole (past log) → PassesTests s x ↔ KeepsRules (past log) x
tests_decide log x s legal t whole = (
  λ pass who seat. passes_conforms log x s who place (subst (λ (st : State). Passes (record s { state = st }) x who) (sym t.state) (pass who seat)),
  λ keeps who seat. subst (λ (st : State). Passes (record s { state = st }) x who) t.state (conforms_passes log x s who place (keeps who seat)),
)
  where
    place : IsPlace log x s
    place = record { legal = legal; tells = t; whole = whole }
