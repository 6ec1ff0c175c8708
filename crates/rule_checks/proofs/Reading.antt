-- Files of logs that can be hold bytes, and reading them tells what a store gives.
use Rattle.std.proofs.Common.{◌≡◌, inl, inr, ℕ, zero, suc, ◌<◌, Bool, true, false, cond, nat_eq, List, [], ◌∷◌, ◌++◌, take, drop, fold, is_some, is_none, Result, Ok, Err, Option, Some, None, refl, sym, ap, ◌∙◌, subst, arith}
use Rattle.std.specs.Prelude.{replicate}
use Rattle.std.proofs.lemmas.Bool.{false≢true}
use Rattle.cache_types.specs.Driver.{DriverKeys, blob_of}
use Rattle.cache_types.specs.declared.name.Name.{Name}
use Rattle.cache_types.specs.declared.name.Name.TheVariants as names
use Rattle.cache_types.specs.declared.seat.Who.{Who}
use Rattle.cache_types.specs.declared.store.Layout.{Layout}
use Rattle.cache_types.specs.declared.store.Layout.TheVariants.{Folder, Database, Foz}
use Rattle.file_log.specs.Along.{All}
use Rattle.file_log.specs.Disk.{Disk, file_of, bytes_in, created, made_at, rewritten, renamed, locked, listed}
use Rattle.file_log.specs.Effect.{applied, after_call, done_call}
use Rattle.file_log.specs.Fits.{AreBytes, TextFits}
use Rattle.file_log.specs.Legal.{CanCome, IsLegal, Legal}
use Rattle.file_log.specs.State.{State, first, after, disk_of}
use Rattle.file_log.specs.Writing.{written}
use Rattle.file_log.specs.declared.call.Call.{Call}
use Rattle.file_log.specs.declared.call.Call.TheVariants as calls
use Rattle.file_log.specs.declared.item.LogItem.{LogItem}
use Rattle.file_log.specs.declared.item.LogItem.TheVariants as items
use Rattle.file_log.specs.declared.reply.Reply.{Reply}
use Rattle.file_log.specs.declared.reply.Reply.TheVariants.{Done}
use Rattle.item_frame.specs.Item.{Reads}
use Rattle.item_frame.specs.Reading.{item_at}
use Rattle.item_frame.specs.declared.refusal.ItemRefusal.{ItemRefusal}
use Rattle.item_frame.proofs.Laws.{Reads-from_item_at, item_at-reads}
use Rattle.item_frame.proofs.Numbers.{IsBytes}
use Rattle.seat_rules.specs.Address.{Address}
use Rattle.layout_rules.specs.Parts.{GivesBy, Gives, IsHeld}
use Rattle.folder_rules.specs.Holds.{FileReads}
use Rattle.seat_rules.specs.Operations.{AfterOne}
use Rattle.log_summary.specs.Summary.{read_part, read_for, given_by, given}
use Rattle.rule_checks.specs.Tests.{is_held}
use Rattle.seat_rules.proofs.Along.{past, all_split}

-- ---- bytes

bytes_both : (xs ys : List ℕ) → AreBytes xs → AreBytes ys → AreBytes (xs ++ ys)
bytes_both [] ys a b = b
bytes_both (x ∷ xs) ys a b = (a.0, bytes_both xs ys a.1 b)

bytes_taken : (n : ℕ) (xs : List ℕ) → AreBytes xs → AreBytes (take n xs)
bytes_taken zero xs a = tt
bytes_taken (suc n) [] a = tt
bytes_taken (suc n) (x ∷ xs) a = (a.0, bytes_taken n xs a.1)

bytes_dropped : (n : ℕ) (xs : List ℕ) → AreBytes xs → AreBytes (drop n xs)
bytes_dropped zero xs a = a
bytes_dropped (suc n) [] a = tt
bytes_dropped (suc n) (x ∷ xs) a = bytes_dropped n xs a.1

bytes_zero : (n : ℕ) → AreBytes (replicate n 0)
bytes_zero zero = tt
bytes_zero (suc n) = (omega arith, bytes_zero n)

bytes_written : (at value : ℕ) (bytes : List ℕ) → value < 256 → AreBytes bytes → AreBytes (written at (value ∷ []) bytes)
bytes_written at value bytes small a = bytes_both _ _ (bytes_taken at _ (bytes_both bytes _ a (bytes_zero _))) (bytes_both (value ∷ []) _ (small, tt) (bytes_dropped _ bytes a))

pub are_bytes : (xs : List ℕ) → AreBytes xs → IsBytes xs
are_bytes [] a i = omega arith
are_bytes (x ∷ xs) a zero = a.0
are_bytes (x ∷ xs) a (suc i) = are_bytes xs a.1 i

-- each file holds bytes
abbrev pub FilesFit : Disk → Type 0
FilesFit d = (f : ℕ) → AreBytes (d.files f)

either : (b : Bool) (x y : List ℕ) → AreBytes x → AreBytes y → AreBytes (cond b x y)
either true x y a b = a
either false x y a b = b

created_fits : (d : Disk) (name : Name) (bytes : List ℕ) → FilesFit d → AreBytes bytes → FilesFit (created d name bytes)
created_fits d name bytes fit a f = either (nat_eq d.count f) bytes (d.files f) a (fit f)

made_fits : (o : Option ℕ) (d : Disk) (name : Name) → FilesFit d → FilesFit (made_at o d name)
made_fits None d name fit = created_fits d name [] fit tt
made_fits (Some f) d name fit = fit

rewritten_fits : (d : Disk) (o : Option ℕ) (change : List ℕ → List ℕ) → FilesFit d → ((bytes : List ℕ) → AreBytes bytes → AreBytes (change bytes)) → FilesFit (rewritten d o change)
rewritten_fits d None change fit good f = fit f
rewritten_fits d (Some g) change fit good f = either (nat_eq g f) (change (d.files g)) (d.files f) (good (d.files g) (fit g)) (fit f)

renamed_fits : (d : Disk) (o : Option ℕ) (from to : Name) → FilesFit d → FilesFit (renamed d o from to)
renamed_fits d None from to fit = fit
renamed_fits d (Some g) from to fit = fit

locked_fits : (d : Disk) (who : Who) (slot : ℕ) (o : Option ℕ) → FilesFit d → FilesFit (locked d who slot o)
locked_fits d who slot None fit = fit
locked_fits d who slot (Some g) fit = fit

done_fits : (d : Disk) (who : Who) (call : Call) → FilesFit d → FilesFit (done_call d who call)
done_fits d who (calls.OpenNew slot name) fit = made_fits (d.names name) d name fit
done_fits d who (calls.TryLock slot) fit = locked_fits d who slot (d.slots who slot) fit
done_fits d who (calls.Cut slot n) fit = rewritten_fits d (d.slots who slot) (take n) fit (bytes_taken n)
done_fits d who (calls.Rename from to) fit = renamed_fits d (d.names from) from to fit
done_fits d who call fit = fit

call_fits : (d : Disk) (who : Who) (call : Call) (reply : Reply) → FilesFit d → FilesFit (after_call d who call reply)
call_fits d who call Done fit = done_fits d who call fit
call_fits d who call reply fit = fit

listed_fits : (d : Disk) (text : Option (List ℕ)) → FilesFit d → TextFits text → FilesFit (listed d text)
listed_fits d None fit a = fit
listed_fits d (Some text) fit a = created_fits d names.List text fit a

fits_after : (s : State) (x : LogItem) → CanCome s x → FilesFit s.disk → FilesFit (applied s.disk x)
fits_after s (items.Did who call reply) can fit = call_fits s.disk who call reply fit
fits_after s (items.Byte who slot at value) can fit = rewritten_fits s.disk (s.disk.slots who slot) (written at (value ∷ [])) fit (λ bytes a. bytes_written at value bytes can.byte a)
fits_after s (items.Install root name main index) can fit =
    created_fits (created s.disk (names.Ro root name) main) (names.RoIdx root name) index (created_fits s.disk (names.Ro root name) main fit can.main_fits) can.index_fits
fits_after s (items.SetList text) can fit = listed_fits s.disk text fit can
fits_after s x can fit = fit

fits_log : (s : State) (log : List LogItem) → FilesFit s.disk → All after IsLegal s log → FilesFit (fold after s log).disk
fits_log s [] fit legal = fit
fits_log s (x ∷ log) fit legal = fits_log (after s x) log (fits_after s x legal.0.1 fit) legal.1

none_fit : FilesFit (first []).disk
none_fit f = tt

-- the files of a log that can be hold bytes
pub files_fit : (log more : List LogItem) → Legal (first []) (log ++ more) → FilesFit (disk_of (past log))
files_fit log more legal = fits_log (first []) log none_fit (all_split after IsLegal (first []) log more legal).0

-- and those of each disk after one of some items
abbrev pub AllFit : Disk → List LogItem → Type 0
AllFit d [] = Unit {0}
AllFit d (x ∷ log) = FilesFit (applied d x) × AllFit (applied d x) log

all_fit_from : (s : State) (log : List LogItem) → FilesFit s.disk → All after IsLegal s log → AllFit s.disk log
all_fit_from s [] fit legal = tt
all_fit_from s (x ∷ log) fit legal = (fits_after s x legal.0.1 fit, all_fit_from (after s x) log (fits_after s x legal.0.1 fit) legal.1)

pub all_fit : (log more : List LogItem) → Legal (first []) (log ++ more) → AllFit (disk_of (past log)) more
all_fit log more legal = let parts = all_split after IsLegal (first []) log more legal in all_fit_from (fold after (first []) log) more (fits_log (first []) log none_fit parts.0) parts.1

pub after_fits : (who : Who) (P Q : Disk → Type 0) (d : Disk) (made : List LogItem) → AllFit d made → ((e : Disk) → FilesFit e → P e → Q e) → AfterOne who P d made → AfterOne who Q d made
after_fits who P Q d [] fit f a = a
after_fits who P Q d (x ∷ made) fit f (inl here) = inl (here.0, f (applied d x) fit.0 here.1)
after_fits who P Q d (x ∷ made) fit f (inr later) = inr (after_fits who P Q (applied d x) made fit.1 f later)

-- ---- what is read

ok_is : (r : Result (List ℕ) ItemRefusal) (blob : List ℕ) → read_part r ≡ Some blob → r ≡ Ok blob
ok_is (Ok x) blob e = let same : x ≡ blob = cc in ap (λ (b : List ℕ). Ok b) same
ok_is (Err x) blob e = absurd cc

pub reads_from : (driver : DriverKeys) (bytes blob : List ℕ) → IsBytes bytes → read_for driver (Some bytes) ≡ Some blob → Reads driver bytes blob
reads_from driver bytes blob fit e = Reads-from_item_at driver bytes blob fit (ok_is (item_at (blob_of driver) bytes) blob e)

pub reads_to : (driver : DriverKeys) (bytes blob : List ℕ) → Reads driver bytes blob → read_for driver (Some bytes) ≡ Some blob
reads_to driver bytes blob r = ap read_part (item_at-reads driver bytes blob r)

-- the bytes of a name's file are bytes
pub file_fits : (d : Disk) (name : Name) (bytes : List ℕ) → FilesFit d → file_of d name ≡ Some bytes → IsBytes bytes
file_fits d name bytes fit e = by_number (d.names name) e
  where
    by_number : (o : Option ℕ) → bytes_in d.files o ≡ Some bytes → IsBytes bytes
    by_number None e = absurd cc
    by_number (Some f) e = let same : d.files f ≡ bytes = cc in subst IsBytes same (are_bytes (d.files f) (fit f))

pub gives_from : (d : Disk) (at : Address) (blob : List ℕ) → FilesFit d → given d at ≡ Some blob → Gives d at blob
gives_from d at blob fit e = by_layout at.store.layout e
  where
    by_file : (o : Option (List ℕ)) → file_of d (names.Entry at.store.root at.key) ≡ o → read_for at.driver o ≡ Some blob → FileReads o at.driver blob
    by_file None file e = absurd cc
    by_file (Some bytes) file e = reads_from at.driver bytes blob (file_fits d (names.Entry at.store.root at.key) bytes fit file) e

    by_layout : (l : Layout) → given_by l d at.store.root at.driver at.key ≡ Some blob → GivesBy l d at.store.root at.driver at.key blob
    by_layout Folder e = by_file (file_of d (names.Entry at.store.root at.key)) refl e
    by_layout Database e = absurd cc
    by_layout Foz e = absurd cc

pub gives_to : (d : Disk) (at : Address) (blob : List ℕ) → Gives d at blob → given d at ≡ Some blob
gives_to d at blob g = by_layout at.store.layout g
  where
    by_file : (o : Option (List ℕ)) → FileReads o at.driver blob → read_for at.driver o ≡ Some blob
    by_file None r = absurd r
    by_file (Some bytes) r = reads_to at.driver bytes blob r

    by_layout : (l : Layout) → GivesBy l d at.store.root at.driver at.key blob → given_by l d at.store.root at.driver at.key ≡ Some blob
    by_layout Folder g = by_file (file_of d (names.Entry at.store.root at.key)) g
    by_layout Database g = absurd g
    by_layout Foz g = absurd g

pub held_from : (d : Disk) (at : Address) → FilesFit d → is_held d at ≡ true → IsHeld d at
held_from d at fit e = by_given (given d at) refl e
  where
    by_given : (o : Option (List ℕ)) → given d at ≡ o → is_some o ≡ true → IsHeld d at
    by_given None g e = absurd (false≢true e)
    by_given (Some blob) g e = (blob, gives_from d at blob fit g)

pub held_to : (d : Disk) (at : Address) → IsHeld d at → is_held d at ≡ true
held_to d at h = ap is_some (gives_to d at h.0 h.1)

pub none_from : (d : Disk) (at : Address) → is_none (given d at) ≡ true → IsHeld d at → ⊥
none_from d at e h = false≢true (ap is_none (sym (gives_to d at h.0 h.1)) ∙ e)

pub none_to : (d : Disk) (at : Address) → FilesFit d → (IsHeld d at → ⊥) → is_none (given d at) ≡ true
none_to d at fit none = by_given (given d at) refl
  where
    by_given : (o : Option (List ℕ)) → given d at ≡ o → is_none o ≡ true
    by_given None g = refl
    by_given (Some blob) g = absurd (none (blob, gives_from d at blob fit g))
