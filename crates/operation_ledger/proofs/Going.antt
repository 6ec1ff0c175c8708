-- One operation over an item.
use Rattle.std.proofs.Common.{◌≡◌, ℕ, Bool, true, false, ◌||◌, min, List, [], ◌∷◌, ◌++◌, Option, Some, None, refl, sym, ap, ap₂, ◌∙◌, subst, append-nil}
use Rattle.std.specs.List.{list_any}
use Rattle.cache_types.specs.declared.name.Name.{Name}
use Rattle.cache_types.specs.declared.request.Request.{Request}
use Rattle.cache_types.specs.declared.seat.Who.{Who}
use Rattle.file_log.specs.Disk.{Disk, bytes_in, locked}
use Rattle.file_log.specs.Effect.{applied, after_call}
use Rattle.file_log.specs.Operation.{is_fault}
use Rattle.file_log.specs.declared.call.Call.TheVariants as calls
use Rattle.file_log.specs.declared.item.LogItem.{LogItem}
use Rattle.file_log.specs.declared.item.LogItem.TheVariants as items
use Rattle.file_log.specs.declared.reply.Reply.{Reply}
use Rattle.file_log.specs.declared.reply.Reply.TheVariants.{Done, Held}
use Rattle.seat_rules.specs.Answers.{root_of}
use Rattle.seat_rules.specs.Kinds.{is_entry}
use Rattle.log_summary.specs.Summary.{Operation, Summary, begun, gained, given_for, goes_on, is_64th, is_last_try, row_after}
use Rattle.rule_checks.specs.Tests.{same_blob, same_number, keep_bytes}
use Rattle.rule_checks.proofs.Deciding.{same_number_decides, keep_decides}
use Rattle.world_tables.specs.Tables.{disk_at}
use Rattle.world_tables.specs.declared.tables.Tables.{Tables}
use Rattle.operation_ledger.specs.Entries.{entry_of, read_by}
use Rattle.operation_ledger.specs.Given.{Learns}
use Rattle.operation_ledger.specs.Had.{IsNamesHad}
use Rattle.operation_ledger.specs.Listed.{AreListed, WasEntry}
use Rattle.operation_ledger.specs.Operations.{IsRemembered, Holds, Looks, KeepsRest, KeepsGiven, IsAfter}
use Rattle.operation_ledger.specs.Tries.{AreTries}
use Rattle.operation_ledger.specs.declared.names_had.NamesHad.{NamesHad}
use Rattle.operation_ledger.specs.declared.operation.OpenOperation.{OpenOperation}
use Rattle.operation_ledger.proofs.Blobs.{given_by_file}
use Rattle.operation_ledger.proofs.Learning.{known_already, known_then}
use Rattle.operation_ledger.proofs.Listing.{listed_then, was_entry_of, was_entry_still}

-- ---- it begins

same_itself : (given : Option (List ℕ)) → list_any (same_blob given) (given ∷ []) ≡ true
same_itself given = known_then [] (given ∷ []) given (λ test. refl)

pub begun_holds : (had : List (Name × ℕ)) (d : Disk) (x : OpenOperation) (request : Request) (given : Option (List ℕ)) → x.request ≡ request → x.gave.items ≡ given ∷ [] → given ≡ read_by request (bytes_in d.files x.entry)
    → x.entry ≡ entry_of d request → x.failed ≡ false → x.tries.items ≡ [] → x.held_off ≡ false → AreListed had d → Holds had d x (begun d request)
begun_holds had d x request given asked gave read entry failed tries held_off listed = record {
  request = asked;
  gave = λ test. ap (λ (l : List (Option (List ℕ))). list_any test l) (gave ∙ ap (λ (g : Option (List ℕ)). g ∷ []) now);
  remembered = rw (asked, gave) (subst (λ (g : Option (List ℕ)). list_any (same_blob g) (given ∷ []) ≡ true) read (same_itself given));
  was_entry = subst (WasEntry had) (sym entry) (was_entry_of had d request listed);
  failed = failed;
  row = λ file. rw tries refl;
  held_off = held_off;
}
  where
    now : given ≡ given_for d request
    now = read ∙ ap (λ (o : Option ℕ). read_by request (bytes_in d.files o)) entry ∙ sym (given_by_file d request)

-- ---- it looks at its entry

-- the entry has the remembered file still
pub looks_still : (d : Disk) (x : OpenOperation) → same_number (entry_of d x.request) x.entry ≡ true → Looks d x x
looks_still d x e =
    let same : entry_of d x.request ≡ x.entry = (same_number_decides (entry_of d x.request) x.entry).0 e in
    record {
      gave = λ known. known_already x.gave.items (given_for d x.request)
          (ap (λ (g : Option (List ℕ)). list_any (same_blob g) x.gave.items) (given_by_file d x.request ∙ ap (λ (o : Option ℕ). read_by x.request (bytes_in d.files o)) same) ∙ known);
      entry = sym same;
    }

-- ---- others' items

kept_file : (had : List (Name × ℕ)) (old new : Disk) (o : Option ℕ) → WasEntry had o → keep_bytes is_entry had old new ≡ true → bytes_in new.files o ≡ bytes_in old.files o
kept_file had old new None was kept = refl
kept_file had old new (Some f) was kept = ap (λ (b : List ℕ). Some b) ((keep_decides is_entry had old new).0 kept was.0 f was.2 was.1)

remembered_still : (had : List (Name × ℕ)) (old new : Disk) (x : OpenOperation) → WasEntry had x.entry → keep_bytes is_entry had old new ≡ true → IsRemembered old x → IsRemembered new x
remembered_still had old new x was kept known = ap (λ (o : Option (List ℕ)). list_any (same_blob (read_by x.request o)) x.gave.items) (kept_file had old new x.entry was kept) ∙ known

-- an operation at an item of another seat
pub holds_still : (had : List (Name × ℕ)) (d : Disk) (item : LogItem) (x : OpenOperation) (o : Operation) → keep_bytes is_entry had d (applied d item) ≡ true → Holds had d x o → Holds (had ++ gained d item) (applied d item) x o
holds_still had d item x o kept h = record {
  request = h.request;
  gave = h.gave;
  remembered = remembered_still had d (applied d item) x h.was_entry kept h.remembered;
  was_entry = was_entry_still had (gained d item) x.entry h.was_entry;
  failed = h.failed;
  row = h.row;
  held_off = h.held_off;
}

-- ---- tries

locked_slots : (d : Disk) (by who : Who) (slot at : ℕ) (o : Option ℕ) → (locked d by at o).slots who slot ≡ d.slots who slot
locked_slots d by who slot at None = refl
locked_slots d by who slot at (Some f) = refl

lock_slots : (d : Disk) (who : Who) (slot : ℕ) (reply : Reply) → (after_call d who (calls.TryLock slot) reply).slots who slot ≡ d.slots who slot
lock_slots d who slot Done = locked_slots d who who slot slot (d.slots who slot)
lock_slots d who slot reply = refl

-- a try changes no slot
row_same : (row : ℕ → ℕ) (d : Disk) (item : LogItem) (file : ℕ) → row_after row (applied d item) item file ≡ row_after row d item file
row_same row d (items.Did who (calls.TryLock slot) reply) file = rw (lock_slots d who slot reply) refl
row_same row d item file = refl

-- and no name
last_same : (had : List (Name × ℕ)) (d : Disk) (root : ℕ) (row : ℕ → ℕ) (item : LogItem) → is_64th (had ++ gained d item) (applied d item) root row item ≡ is_64th had d root row item
last_same had d root row (items.Did who (calls.TryLock slot) Held) = ap (λ (l : List (Name × ℕ)). is_last_try l d root row (d.slots who slot)) (append-nil had)
last_same had d root row item = refl

-- ---- its own items

-- what it noted of the item
pub record Notes (had : List (Name × ℕ)) (d : Disk) (item : LogItem) (row : ℕ → ℕ) (old new : OpenOperation) : Type 0 where
  pub row_is : AreTries new.tries.items (row_after row d item)
  pub held_off : new.held_off ≡ (old.held_off || is_64th had d (root_of old.request) row item)
  pub failed : new.failed ≡ (old.failed || is_fault item)
  pub rest : KeepsGiven old new

-- an operation that holds in other memory
pub holds_moved : (had : List (Name × ℕ)) (d : Disk) (x y : OpenOperation) (o : Operation) → y.request ≡ x.request → y.gave.items ≡ x.gave.items → y.entry ≡ x.entry → y.failed ≡ x.failed → y.tries.items ≡ x.tries.items → y.held_off ≡ x.held_off → Holds had d x o → Holds had d y o
holds_moved had d x y o request gave entry failed tries held_off h = record {
  request = request ∙ h.request;
  gave = λ test. ap (λ (l : List (Option (List ℕ))). list_any test l) gave ∙ h.gave test;
  remembered = rw (request, gave, entry) h.remembered;
  was_entry = subst (WasEntry had) (sym entry) h.was_entry;
  failed = failed ∙ h.failed;
  row = λ file. rw tries (h.row file);
  held_off = held_off ∙ h.held_off;
}

-- it looked at its entry, and noted the item
goes_holds : (had : List (Name × ℕ)) (d e : Disk) (item : LogItem) (o : Operation) (x y z : OpenOperation) → e ≡ applied d item → keep_bytes is_entry had d (applied d item) ≡ true → AreListed had d → Holds had d x o
    → Looks e x y → KeepsRest x y → Notes (had ++ gained d item) e item o.row y z → Holds (had ++ gained d item) (applied d item) z (goes_on had d item o)
goes_holds had d e item o x y z disk kept listed h looks rest notes = record {
  request = asked ∙ h.request;
  gave = λ test. ap (λ (l : List (Option (List ℕ))). list_any test l) gave ∙ learns test ∙ ap₂ (λ (g : Option (List ℕ)) (b : Bool). test g || b) given (h.gave test);
  remembered = rw (asked, entry, gave) (subst (λ (g : Option (List ℕ)). list_any (same_blob g) y.gave.items ≡ true) (given_by_file (applied d item) x.request) (known_then x.gave.items y.gave.items (given_for (applied d item) x.request) (rw disk at learns)));
  was_entry = subst (WasEntry (had ++ gained d item)) (sym entry) (was_entry_of (had ++ gained d item) (applied d item) x.request (listed_then had d item listed));
  failed = notes.failed ∙ ap (λ (b : Bool). b || is_fault item) (rest.failed ∙ h.failed);
  row = λ file. notes.row_is file ∙ ap (λ (n : ℕ). min 63 n) (ap (λ (f : Disk). row_after o.row f item file) disk ∙ row_same o.row d item file);
  held_off = notes.held_off ∙ ap₂ (λ (a b : Bool). a || b) (rest.held_off ∙ h.held_off)
      (ap₂ (λ (f : Disk) (r : Request). is_64th (had ++ gained d item) f (root_of r) o.row item) disk (rest.request ∙ h.request) ∙ last_same had d (root_of o.request) o.row item);
}
  where
    asked : z.request ≡ x.request
    asked = notes.rest.request ∙ rest.request

    gave : z.gave.items ≡ y.gave.items
    gave = rw notes.rest.gave refl

    entry : z.entry ≡ entry_of (applied d item) x.request
    entry = notes.rest.entry ∙ looks.entry ∙ ap (λ (f : Disk). entry_of f x.request) disk

    learns : Learns x.gave.items (given_for e x.request) y.gave.items
    learns = looks.gave (subst (λ (f : Disk). IsRemembered f x) (sym disk) (remembered_still had d (applied d item) x h.was_entry kept h.remembered))

    given : given_for e x.request ≡ given_for (applied d item) o.request
    given = ap₂ (λ (f : Disk) (r : Request). given_for f r) disk h.request

-- so it goes on, by what is known after the item
pub follows_holds : (names : NamesHad) (tables : Tables) (s : Summary) (item : LogItem) (o : Operation) (x y z : OpenOperation) → AreListed s.had s.state.disk → IsAfter names tables s item → Holds s.had s.state.disk x o
    → Looks (disk_at tables) x y → KeepsRest x y
    → ((row : ℕ → ℕ) → AreTries y.tries.items row → AreTries z.tries.items (row_after row (disk_at tables) item))
    → ((had : List (Name × ℕ)) (row : ℕ → ℕ) → IsNamesHad names had → AreListed had (disk_at tables) → AreTries y.tries.items row → z.held_off ≡ (y.held_off || is_64th had (disk_at tables) (root_of y.request) row item))
    → z.failed ≡ (y.failed || is_fault item) → KeepsGiven y z → Holds (s.had ++ gained s.state.disk item) (applied s.state.disk item) z (goes_on s.had s.state.disk item o)
follows_holds names tables s item o x y z listed after h looks rest row held_off failed given =
    goes_holds s.had s.state.disk (disk_at tables) item o x y z after.disk after.kept listed h looks rest (record { row_is = row o.row tries; held_off = held_off (s.had ++ gained s.state.disk item) o.row after.had now tries; failed = failed; rest = given })
  where
    tries : AreTries y.tries.items o.row
    tries file = rw rest.tries (h.row file)

    now : AreListed (s.had ++ gained s.state.disk item) (disk_at tables)
    now = subst (AreListed (s.had ++ gained s.state.disk item)) (sym after.disk) (listed_then s.had s.state.disk item listed)
