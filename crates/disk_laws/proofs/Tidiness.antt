-- Every disk is tidy: at first, and after each item.
use Rattle.std.proofs.Common.{◌≡◌, ℕ, ◌+◌, ◌<◌, ◌≤◌, Bool, true, false, cond, nat_eq, ◌&&◌, List, [], ◌∷◌, fold, length, take, Option, Some, None, refl, sym, ◌∙◌, arith, if◌then◌else◌}
use Rattle.std.proofs.lemmas.Bool.{false≢true, eqb-true}
use Rattle.cache_types.specs.Names.{same_name}
use Rattle.cache_types.specs.Seats.{same_seat}
use Rattle.cache_types.specs.declared.name.Name.{Name}
use Rattle.cache_types.specs.declared.name.Name.TheVariants as names
use Rattle.cache_types.specs.declared.seat.Who.{Who}
use Rattle.cache_types.proofs.Names.{same_name_decides}
use Rattle.file_log.specs.declared.call.Call.{Call}
use Rattle.file_log.specs.declared.call.Call.TheVariants as calls
use Rattle.file_log.specs.declared.item.LogItem.{LogItem}
use Rattle.file_log.specs.declared.item.LogItem.TheVariants as items
use Rattle.file_log.specs.declared.reply.Reply.{Reply}
use Rattle.file_log.specs.declared.reply.Reply.TheVariants.{Done}
use Rattle.file_log.specs.Disk.{Disk, Lock, Start, lock_taken, is_slot, is_process, number_from, opening, with_slot, named, created, made, made_at, rewritten, renamed, locked, freed, stopped, listed}
use Rattle.file_log.specs.Effect.{applied, after_call, done_call}
use Rattle.file_log.specs.Log.{History}
use Rattle.file_log.specs.State.{State, first, after, disk_of}
use Rattle.disk_laws.specs.Tidy.{IsTidy}
use Rattle.file_log.specs.Writing.{written}

is_name : (a b : Name) → same_name a b ≡ true → a ≡ b
is_name a b e = (same_name_decides a b).0 e

some_is : (a b : ℕ) → Some a ≡ Some b → a ≡ b
some_is a b e = cc

-- ---- at first

-- the number of a name's file is one of the start's
numbered : (k : ℕ) (start : Start) (name : Name) (f : ℕ) → number_from k start name ≡ Some f → (k ≤ f) × (f < k + length start)
numbered k [] name f e = absurd cc
numbered k (file ∷ start) name f e = by_test (same_name file.0 name) e (numbered (k + 1) start name f)
  where
    by_test : (b : Bool) → cond b (Some k) (number_from (k + 1) start name) ≡ Some f → (number_from (k + 1) start name ≡ Some f → (k + 1 ≤ f) × (f < k + 1 + length start)) → (k ≤ f) × (f < k + length (file ∷ start))
    by_test true e again = let same = some_is k f e in (omega (arith, same), omega (arith, same))
    by_test false e again = let rest = again e in (omega (arith, rest.0), omega (arith, rest.1))

numbers_apart : (k : ℕ) (start : Start) (a b : Name) (f : ℕ) → number_from k start a ≡ Some f → number_from k start b ≡ Some f → a ≡ b
numbers_apart k [] a b f e g = absurd cc
numbers_apart k (file ∷ start) a b f e g = by_test (same_name file.0 a) (same_name file.0 b) refl refl e g (numbers_apart (k + 1) start a b f)
  where
    later : (name : Name) → number_from (k + 1) start name ≡ Some f → k < f
    later name e = let rest = numbered (k + 1) start name f e in omega (arith, rest.0)

    by_test : (x y : Bool) → same_name file.0 a ≡ x → same_name file.0 b ≡ y → cond x (Some k) (number_from (k + 1) start a) ≡ Some f → cond y (Some k) (number_from (k + 1) start b) ≡ Some f → (number_from (k + 1) start a ≡ Some f → number_from (k + 1) start b ≡ Some f → a ≡ b) → a ≡ b
    by_test true true x y e g again = sym (is_name file.0 a x) ∙ is_name file.0 b y
    by_test true false x y e g again = let same = some_is k f e in absurd (omega (arith, same, later b g))
    by_test false true x y e g again = let same = some_is k f g in absurd (omega (arith, same, later a e))
    by_test false false x y e g again = again e g

pub opening_tidy : (start : Start) → IsTidy (opening start)
opening_tidy start = record {
  there = λ name f e. let n = numbered 0 start name f e in omega (arith, n.1);
  filled = λ who slot f e. absurd cc;
  locked = λ f lock e. absurd cc;
  apart = λ a b f e g. numbers_apart 0 start a b f e g;
}

-- ---- each change

abbrev IsBelow : ℕ → Option ℕ → Type 0
IsBelow n file = (f : ℕ) → file ≡ Some f → f < n

-- one of two
either_way : {A : Type 0} (P : A → Type 0) (b : Bool) (x y : A) → P x → P y → P (cond b x y)
either_way P true x y p q = p
either_way P false x y p q = q

slot_tidy : (d : Disk) (who : Who) (slot : ℕ) (file : Option ℕ) → IsTidy d → IsBelow d.count file → IsTidy (with_slot d who slot file)
slot_tidy d who slot file t below = record {
  there = t.there;
  filled = λ other at. either_way (IsBelow d.count) (same_seat other who && nat_eq slot at) file (d.slots other at) below (t.filled other at);
  locked = t.locked;
  apart = t.apart;
}

-- a name loses its file
unnamed_tidy : (d : Disk) (name : Name) → IsTidy d → IsTidy (named d name None)
unnamed_tidy d name t = record {
  there = λ n f e. by_test n f _ e (λ h. t.there n f h);
  filled = t.filled;
  locked = t.locked;
  apart = λ a b f e g. by_test a f _ e (λ h. by_test b f _ g (λ h'. t.apart a b f h h'));
}
  where
    by_test : {C : Type 0} (n : Name) (f : ℕ) (b : Bool) → cond b None (d.names n) ≡ Some f → (d.names n ≡ Some f → C) → C
    by_test n f true e k = absurd cc
    by_test n f false e k = k e

-- a name gets a file that no other name has
named_tidy : (d : Disk) (name : Name) (f : ℕ) → IsTidy d → f < d.count → ((n : Name) → d.names n ≡ Some f → n ≡ name) → IsTidy (named d name (Some f))
named_tidy d name f t below only = record {
  there = λ n g e. there_by n g _ e;
  filled = t.filled;
  locked = t.locked;
  apart = λ a b g e e'. apart_by a b g _ _ refl refl e e';
}
  where
    there_by : (n : Name) (g : ℕ) (b : Bool) → cond b (Some f) (d.names n) ≡ Some g → g < d.count
    there_by n g true e = let same = some_is f g e in omega (arith, same, below)
    there_by n g false e = t.there n g e

    apart_by : (a b : Name) (g : ℕ) (x y : Bool) → same_name name a ≡ x → same_name name b ≡ y → cond x (Some f) (d.names a) ≡ Some g → cond y (Some f) (d.names b) ≡ Some g → a ≡ b
    apart_by a b g true true x y e e' = sym (is_name name a x) ∙ is_name name b y
    apart_by a b g true false x y e e' = sym (is_name name a x) ∙ sym (only b (e' ∙ sym e))
    apart_by a b g false true x y e e' = only a (e ∙ sym e') ∙ is_name name b y
    apart_by a b g false false x y e e' = t.apart a b g e e'

-- a file more, which no name has yet
abbrev grown : Disk → List ℕ → Disk
grown d bytes = record d { count = d.count + 1; files = λ f. if nat_eq d.count f then bytes else d.files f }

grown_tidy : (d : Disk) (bytes : List ℕ) → IsTidy d → IsTidy (grown d bytes)
grown_tidy d bytes t = record {
  there = λ n f e. let below = t.there n f e in omega (arith, below);
  filled = λ who at f e. let below = t.filled who at f e in omega (arith, below);
  locked = λ f lock e. let below = t.locked f lock e in omega (arith, below);
  apart = t.apart;
}

created_tidy : (d : Disk) (name : Name) (bytes : List ℕ) → IsTidy d → IsTidy (created d name bytes)
created_tidy d name bytes t =
    named_tidy (grown d bytes) name d.count (grown_tidy d bytes t) (omega arith) (λ n e. let below = t.there n d.count e in absurd (omega (arith, below)))

made_tidy : (file : Option ℕ) (d : Disk) (name : Name) → IsTidy d → IsTidy (made_at file d name)
made_tidy None d name t = created_tidy d name [] t
made_tidy (Some f) d name t = t

rewritten_tidy : (d : Disk) (file : Option ℕ) (change : List ℕ → List ℕ) → IsTidy d → IsTidy (rewritten d file change)
rewritten_tidy d None change t = t
rewritten_tidy d (Some f) change t = record { there = t.there; filled = t.filled; locked = t.locked; apart = t.apart }

renamed_tidy : (d : Disk) (file : Option ℕ) (from to : Name) → d.names from ≡ file → IsTidy d → IsTidy (renamed d file from to)
renamed_tidy d None from to e t = t
renamed_tidy d (Some f) from to e t =
    named_tidy (named d from None) to f (unnamed_tidy d from t) (t.there from f e) (λ n h. by_test n _ refl h)
  where
    by_test : (n : Name) (b : Bool) → same_name from n ≡ b → cond b None (d.names n) ≡ Some f → n ≡ to
    by_test n true s h = absurd cc
    by_test n false s h = absurd (false≢true (sym s ∙ (same_name_decides from n).1 (t.apart from n f e h)))

-- a file that is locked is there
abbrev IsThere : Disk → ℕ → Option Lock → Type 0
IsThere d f lock = (l : Lock) → lock ≡ Some l → f < d.count

locked_tidy : (d : Disk) (who : Who) (slot : ℕ) (file : Option ℕ) → d.slots who slot ≡ file → IsTidy d → IsTidy (locked d who slot file)
locked_tidy d who slot None e t = t
locked_tidy d who slot (Some f) e t = record {
  there = t.there;
  filled = t.filled;
  locked = λ g. by_test g (nat_eq f g) refl;
  apart = t.apart;
}
  where
    by_test : (g : ℕ) (b : Bool) → nat_eq f g ≡ b → IsThere d g (cond b (lock_taken (d.locks f) (record { who = who; slot = slot })) (d.locks g))
    by_test g true same = λ l is. let one : f ≡ g = eqb-true f g same in let below = t.filled who slot f e in omega (arith, one, below)
    by_test g false other = t.locked g

freed_tidy : (d : Disk) (who : Who) (slot : ℕ) → IsTidy d → IsTidy (freed d who slot)
freed_tidy d who slot t = record {
  there = t.there;
  filled = t.filled;
  locked = λ f. either_way (IsThere d f) (is_slot (d.locks f) who slot) None (d.locks f) (λ l e. absurd cc) (t.locked f);
  apart = t.apart;
}

stopped_tidy : (d : Disk) (process : ℕ) → IsTidy d → IsTidy (stopped d process)
stopped_tidy d process t = record {
  there = t.there;
  filled = λ who at. either_way (IsBelow d.count) (nat_eq who.process process) None (d.slots who at) (λ f e. absurd cc) (t.filled who at);
  locked = λ f. either_way (IsThere d f) (is_process process (d.locks f)) None (d.locks f) (λ l e. absurd cc) (t.locked f);
  apart = t.apart;
}

listed_tidy : (d : Disk) (text : Option (List ℕ)) → IsTidy d → IsTidy (listed d text)
listed_tidy d None t = unnamed_tidy d names.List t
listed_tidy d (Some text) t = created_tidy d names.List text t

-- ---- each item

done_tidy : (d : Disk) (who : Who) (call : Call) → IsTidy d → IsTidy (done_call d who call)
done_tidy d who (calls.OpenOld slot name) t = slot_tidy d who slot (d.names name) t (t.there name)
done_tidy d who (calls.OpenNew slot name) t =
    let m = made_tidy (d.names name) d name t in
    slot_tidy (made d name) who slot ((made d name).names name) m (m.there name)
done_tidy d who (calls.TryLock slot) t = locked_tidy d who slot (d.slots who slot) refl t
done_tidy d who (calls.Cut slot n) t = rewritten_tidy d (d.slots who slot) (take n) t
done_tidy d who (calls.Rename from to) t = renamed_tidy d (d.names from) from to refl t
done_tidy d who (calls.Remove name) t = unnamed_tidy d name t
done_tidy d who (calls.Close slot) t = freed_tidy (with_slot d who slot None) who slot (slot_tidy d who slot None t (λ f e. absurd cc))
done_tidy d who call t = t

call_tidy : (d : Disk) (who : Who) (call : Call) (reply : Reply) → IsTidy d → IsTidy (after_call d who call reply)
call_tidy d who call Done t = done_tidy d who call t
call_tidy d who call reply t = t

pub item_tidy : (d : Disk) (item : LogItem) → IsTidy d → IsTidy (applied d item)
item_tidy d (items.Did who call reply) t = call_tidy d who call reply t
item_tidy d (items.Byte who slot at value) t = rewritten_tidy d (d.slots who slot) (written at (value ∷ [])) t
item_tidy d (items.Stop process) t = stopped_tidy d process t
item_tidy d (items.Install root name main index) t = created_tidy (created d (names.Ro root name) main) (names.RoIdx root name) index (created_tidy d (names.Ro root name) main t)
item_tidy d (items.SetList text) t = listed_tidy d text t
item_tidy d item t = t

log_tidy : (s : State) (log : List LogItem) → IsTidy s.disk → IsTidy (fold after s log).disk
log_tidy s [] t = t
log_tidy s (item ∷ log) t = log_tidy (after s item) log (item_tidy s.disk item t)

-- the disk of each history is tidy
pub tidy : (h : History) → IsTidy (disk_of h)
tidy h = log_tidy (first h.start) h.log (opening_tidy h.start)
