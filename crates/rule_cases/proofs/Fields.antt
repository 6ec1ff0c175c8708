-- What the tests of the rules say of an item, as facts of the disk before it and the disk after it; and what keeps them where nothing becomes of a name.
use Rattle.std.proofs.Common.{◌≡◌, ℕ, ◌<◌, Bool, true, false, not, is_some, List, ◌++◌, Option, Some, None, refl, sym, ap, ◌∙◌}
use Rattle.std.specs.List.{list_any}
use Rattle.std.proofs.lemmas.Bool.{false≢true, not_from_false, false_from_ne_true, true_from_ne_false}
use Rattle.std.proofs.lemmas.List.Folds.{list_any-append}
use Rattle.cache_types.specs.declared.key.Key.{Key}
use Rattle.cache_types.specs.declared.name.Name.{Name}
use Rattle.cache_types.specs.declared.name.Name.TheVariants as names
use Rattle.cache_types.specs.declared.seat.Who.{Who}
use Rattle.cache_types.specs.declared.store.Layout.{Layout}
use Rattle.cache_types.specs.declared.store.Layout.TheVariants.{Folder, Database, Foz}
use Rattle.disk_laws.specs.Tidy.{IsTidy}
use Rattle.file_log.specs.Disk.{Disk, file_of}
use Rattle.file_log.specs.Effect.{applied}
use Rattle.file_log.specs.declared.item.LogItem.{LogItem}
use Rattle.seat_rules.specs.Changes.{may_write}
use Rattle.seat_rules.specs.Address.{Address}
use Rattle.seat_rules.specs.Kinds.{is_entry, is_unwritten}
use Rattle.seat_rules.specs.Rules.{IsLeft}
use Rattle.folder_rules.proofs.Entries.{entry_of}
use Rattle.folder_changes.proofs.Changing.{file_same}
use Rattle.log_summary.specs.Summary.{BegunPut, OpenEvict, Summary, put_in, read_for, given_by}
use Rattle.log_summary.specs.Telling.{In}
use Rattle.log_summary.proofs.Lists.{or_left, or_right, all_out}
use Rattle.rule_checks.specs.Tests.{implies, is_item_of, is_whole, is_held, kept_at, kept, is_earned, Passes}
use Rattle.rule_checks.proofs.Deciding.{IsRenamed, StaysSo, guarded_decides, renamed_decides, stays_decides, keep_decides}

-- ---- what is known of a summary

-- what holds of the summary of a log that can be, none of whose places breaks a rule
pub record Known (s : Summary) : Type 0 where
  pub tidy : IsTidy s.state.disk
  pub below : (name : Name) (f : ℕ) → In s.had (name, f) → f < s.state.disk.count
  pub listed : (name : Name) (f : ℕ) → s.state.disk.names name ≡ Some f → In s.had (name, f)
  pub whole : (root : ℕ) (key : Key) → is_whole s.puts root key (file_of s.state.disk (names.Entry root key)) ≡ true

-- ---- what the tests say

-- an item that leaves this disk passes all tests but that of answers
pub record Leaves (s : Summary) (new : Disk) (item : LogItem) (who : Who) : Type 0 where
  pub whole : (root : ℕ) (key : Key) → is_whole (s.puts ++ put_in item) root key (file_of new (names.Entry root key)) ≡ true
  pub left : (name : Name) → may_write s.state.disk who name ≡ false → IsLeft s.state.disk new name
  pub renamed : (root : ℕ) (key : Key) → IsRenamed s.state.disk new item who root key
  pub entries : (name : Name) (f : ℕ) → In s.had (name, f) → is_entry name ≡ true → new.files f ≡ s.state.disk.files f
  pub stay : (name : Name) → StaysSo s.state.disk new name
  pub unwritten : (name : Name) (f : ℕ) → In s.had (name, f) → is_unwritten name ≡ true → new.files f ≡ s.state.disk.files f
  pub kept : kept s.rough s.puts s.evicting who s.state.disk new ≡ true

pub passes_from : (s : Summary) (item : LogItem) (who : Who) → Leaves s (applied s.state.disk item) item who → is_earned s item ≡ true → Passes s item who
passes_from s item who l earned = record {
  whole = l.whole;
  written = λ name. (guarded_decides s.state.disk (applied s.state.disk item) who name).1 (l.left name);
  renamed = λ root key. (renamed_decides s.state.disk (applied s.state.disk item) item who root key).1 (l.renamed root key);
  entries = (keep_decides is_entry s.had s.state.disk (applied s.state.disk item)).1 l.entries;
  stay = λ name. (stays_decides s.state.disk (applied s.state.disk item) name).1 (l.stay name);
  unwritten = (keep_decides is_unwritten s.had s.state.disk (applied s.state.disk item)).1 l.unwritten;
  kept = l.kept;
  earned = earned;
}

pub passes_to : (s : Summary) (item : LogItem) (who : Who) → Passes s item who → Leaves s (applied s.state.disk item) item who
passes_to s item who p = record {
  whole = p.whole;
  left = λ name. (guarded_decides s.state.disk (applied s.state.disk item) who name).0 (p.written name);
  renamed = λ root key. (renamed_decides s.state.disk (applied s.state.disk item) item who root key).0 (p.renamed root key);
  entries = (keep_decides is_entry s.had s.state.disk (applied s.state.disk item)).0 p.entries;
  stay = λ name. (stays_decides s.state.disk (applied s.state.disk item) name).0 (p.stay name);
  unwritten = (keep_decides is_unwritten s.had s.state.disk (applied s.state.disk item)).0 p.unwritten;
  kept = p.kept;
}

-- ---- words

pub implies_in : (a b : Bool) → implies a b ≡ true → a ≡ true → b ≡ true
implies_in true b e is = e
implies_in false b e is = absurd (false≢true is)

pub implies_out : (a b : Bool) → (a ≡ true → b ≡ true) → implies a b ≡ true
implies_out true b h = h refl
implies_out false b h = refl

-- not so, as it cannot be
pub never : (b : Bool) → (b ≡ true → ⊥) → not b ≡ true
never b h = not_from_false b (false_from_ne_true b h)

-- it is so, as it cannot be otherwise
pub always : (b : Bool) → (b ≡ false → ⊥) → b ≡ true
always b h = true_from_ne_false b h

pub clash : (b : Bool) → b ≡ true → b ≡ false → ⊥
clash b e f = false≢true (sym f ∙ e)

-- ---- a name of which nothing becomes

pub record IsAsBefore (old new : Disk) (name : Name) : Type 0 where
  pub named : new.names name ≡ old.names name
  pub bytes : (f : ℕ) → old.names name ≡ Some f → new.files f ≡ old.files f

pub left_so : (old new : Disk) (name : Name) → IsAsBefore old new name → IsLeft old new name
left_so old new name a = record { bytes = a.bytes; comes = λ kind f e. sym a.named ∙ e; stays = λ kind. a.named }

pub renamed_so : (old new : Disk) (item : LogItem) (who : Who) (root : ℕ) (key : Key) → IsAsBefore old new (names.Entry root key) → IsRenamed old new item who root key
renamed_so old new item who root key a = record { held = λ other. a.named; renamed = λ other f e. sym a.named ∙ e; stays = λ moved. a.named }

pub stays_so : (old new : Disk) (name : Name) → IsAsBefore old new name → StaysSo old new name
stays_so old new name a = (λ kind f e. a.named ∙ e, λ kind. a.named)

pub file_so : (old new : Disk) (name : Name) → IsAsBefore old new name → file_of new name ≡ file_of old name
file_so old new name a = file_same old new name a.named a.bytes

-- ---- entries that are whole

-- with more puts it stays whole
pub whole_more : (puts more : List BegunPut) (root : ℕ) (key : Key) (file : Option (List ℕ)) → is_whole puts root key file ≡ true → is_whole (puts ++ more) root key file ≡ true
whole_more puts more root key None e = refl
whole_more puts more root key (Some bytes) e = list_any-append (is_item_of root key bytes) puts more ∙ or_left (list_any (is_item_of root key bytes) puts) _ e

pub whole_so : (s : Summary) (new : Disk) (item : LogItem) → Known s → (root : ℕ) (key : Key) → IsAsBefore s.state.disk new (names.Entry root key) → is_whole (s.puts ++ put_in item) root key (file_of new (names.Entry root key)) ≡ true
whole_so s new item k root key a = whole_more s.puts (put_in item) root key (file_of new (names.Entry root key)) (ap (is_whole s.puts root key) (file_so s.state.disk new (names.Entry root key) a) ∙ k.whole root key)

-- ---- what is held

pub held_so : (old new : Disk) (at : Address) → (at.store.layout ≡ Folder → file_of new (entry_of at) ≡ file_of old (entry_of at)) → is_held new at ≡ is_held old at
held_so old new at same = by_layout at.store.layout refl
  where
    by_layout : (l : Layout) → at.store.layout ≡ l → is_some (given_by l new at.store.root at.driver at.key) ≡ is_some (given_by l old at.store.root at.driver at.key)
    by_layout Folder e = ap (λ (o : Option (List ℕ)). is_some (read_for at.driver o)) (same e)
    by_layout Database e = refl
    by_layout Foz e = refl

-- it is kept where the entry's file is as before
pub kept_at_so : (evicting : List OpenEvict) (who : Who) (old new : Disk) (p : BegunPut) → is_held new p.at ≡ is_held old p.at → kept_at evicting who old new p ≡ true
kept_at_so evicting who old new p same = implies_out (is_held old p.at) _ (λ e. or_left (is_held new p.at) _ (same ∙ e))

pub kept_so : (s : Summary) (new : Disk) (who : Who) → ((root : ℕ) (key : Key) → IsAsBefore s.state.disk new (names.Entry root key)) → kept s.rough s.puts s.evicting who s.state.disk new ≡ true
kept_so s new who a = or_right s.rough _ (all_out (kept_at s.evicting who s.state.disk new) s.puts (λ p i.
    kept_at_so s.evicting who s.state.disk new p (held_so s.state.disk new p.at (λ folder. file_so s.state.disk new (entry_of p.at) (a p.at.store.root p.at.key)))))
