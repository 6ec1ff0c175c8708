-- A put asks what its slots allow, and a reply moves them.
use Rattle.std.specs.Prelude.{◌≡◌, ◌≢◌, ℕ, ◌-◌, Bool, true, false, nat_eq, nat_lt, cond, List}
use Rattle.std.proofs.Common.{inl, inr, refl, sym, ap, ◌∙◌, subst, arith}
use Rattle.std.proofs.lemmas.Bool.{eqb-true, false≢true, eq-eqb}
use Rattle.cache_types.specs.declared.answer.Answer.TheVariants.{Busy}
use Rattle.cache_types.specs.declared.key.Key.{Key}
use Rattle.cache_types.specs.declared.limits.TheConstants.{MAX_ITEM}
use Rattle.cache_types.specs.Driver.{DriverKeys}
use Rattle.file_log.specs.declared.call.Call.{Call}
use Rattle.file_log.specs.declared.call.Call.TheVariants.{ReadAt}
use Rattle.file_log.specs.declared.reply.Reply.{Reply}
use Rattle.file_log.specs.declared.reply.Reply.TheVariants as replies
use Rattle.files_api.specs.declared.machine.Step.TheVariants.{Ask}
use Rattle.files_api.specs.Drive.{Allows, Goes}
use Rattle.folder_store.specs.declared.put.FolderPut.{FolderPut}
use Rattle.folder_store.specs.declared.put_phase.Besides.TheVariants.{Nothing, Lock, LockAndTemp}
use Rattle.folder_store.specs.declared.put_phase.Look.{Look}
use Rattle.folder_store.specs.declared.put_phase.Look.TheVariants.{First, Second}
use Rattle.folder_store.specs.declared.put_phase.PutPhase.{PutPhase}
use Rattle.folder_store.specs.declared.put_phase.PutPhase.TheVariants.{Opening, Measuring, Reading, ReadingFront, Leaving, OpeningLock, Locking, Pausing, Evicting, Evicted, Making, Cutting, Writing, Renaming, ClosingEntry, ClosingTemp, ClosingLock, Ended, Spent}
use Rattle.folder_store.specs.PutPhases.{asks_put, asks_put_in, asked_put, after_put_asking, NextPut, FedPut, Fronted, Judged, too_long, slots_of, put_slots_in, put_hurt_in, put_left_in}

allowed_in : (root : ℕ) (key : Key) (item : List ℕ) (p : PutPhase) → Allows (put_slots_in p) (put_hurt_in p) (asks_put_in root key item p)
allowed_in root key item (Opening First) = (((omega arith, refl), refl), tt)
allowed_in root key item (Opening Second) = (((omega arith, refl), refl), tt)
allowed_in root key item (Measuring First) = (((omega arith, refl), refl), tt)
allowed_in root key item (Measuring Second) = (((omega arith, refl), refl), tt)
allowed_in root key item (Reading First length) = (((omega arith, refl), refl), tt)
allowed_in root key item (Reading Second length) = (((omega arith, refl), refl), tt)
allowed_in root key item ReadingFront = (((omega arith, refl), refl), tt)
allowed_in root key item Leaving = (((omega arith, refl), tt), tt)
allowed_in root key item OpeningLock = (((omega arith, refl), refl), tt)
allowed_in root key item (Locking again) = (((omega arith, refl), refl), tt)
allowed_in root key item (Pausing again) = ((tt, refl), tt)
allowed_in root key item (Evicting driver) = ((tt, tt), tt)
allowed_in root key item Evicted = λ at. refl
allowed_in root key item (Making entry) = (((omega arith, refl), refl), tt)
allowed_in root key item (Cutting entry) = (((omega arith, refl), refl), tt)
allowed_in root key item (Writing entry) = (((omega arith, refl), refl), tt)
allowed_in root key item (Renaming entry) = ((tt, refl), tt)
allowed_in root key item (ClosingEntry answer Nothing) = (((omega arith, refl), tt), tt)
allowed_in root key item (ClosingEntry answer Lock) = (((omega arith, refl), tt), tt)
allowed_in root key item (ClosingEntry answer LockAndTemp) = (((omega arith, refl), tt), tt)
allowed_in root key item (ClosingTemp answer) = (((omega arith, refl), tt), tt)
allowed_in root key item (ClosingLock answer) = (((omega arith, refl), tt), tt)
allowed_in root key item (Ended answer) = λ at. refl
allowed_in root key item Spent = λ at. refl

pub put_allowed : (m : FolderPut) → Allows (put_slots_in m.phase) (put_hurt_in m.phase) (asks_put m)
put_allowed m = allowed_in m.root m.key m.item m.phase

-- ---- slots: 0 has the lock file, 1 the entry's, 3 the temporary file, and a slot is but one of them

by_slot : (P : Bool → Bool → Bool → Type 0) → P true false false → P false true false → P false false true → P false false false → (at : ℕ) → P (nat_eq 0 at) (nat_eq 1 at) (nat_eq 3 at)
by_slot P zeroth first third other at = by_zeroth (nat_eq 0 at) refl
  where
    by_third : (t : Bool) → nat_eq 0 at ≡ false → nat_eq 1 at ≡ false → nat_eq 3 at ≡ t → P (nat_eq 0 at) (nat_eq 1 at) (nat_eq 3 at)
    by_third true z o is = subst (λ (k : ℕ). P (nat_eq 0 k) (nat_eq 1 k) (nat_eq 3 k)) (eqb-true 3 at is) third
    by_third false z o is = rw (z, o, is) other

    by_first : (t : Bool) → nat_eq 0 at ≡ false → nat_eq 1 at ≡ t → P (nat_eq 0 at) (nat_eq 1 at) (nat_eq 3 at)
    by_first true z is = subst (λ (k : ℕ). P (nat_eq 0 k) (nat_eq 1 k) (nat_eq 3 k)) (eqb-true 1 at is) first
    by_first false z is = by_third (nat_eq 3 at) z is refl

    by_zeroth : (t : Bool) → nat_eq 0 at ≡ t → P (nat_eq 0 at) (nat_eq 1 at) (nat_eq 3 at)
    by_zeroth true is = subst (λ (k : ℕ). P (nat_eq 0 k) (nat_eq 1 k) (nat_eq 3 k)) (eqb-true 0 at is) zeroth
    by_zeroth false is = by_first (nat_eq 1 at) is refl

-- what the three slots have
abbrev row : Bool → Bool → Bool → Bool → Bool → Bool → Bool
row lock entry temp zeroth first third = cond zeroth lock (cond first entry (cond third temp false))

lock_opened : (at : ℕ) → slots_of false Lock at ≡ cond (nat_eq 0 at) true false
lock_opened at = by_slot (λ z o t. row true false false z o t ≡ cond z true false) refl refl refl refl at

lock_closed : (at : ℕ) → false ≡ cond (nat_eq 0 at) false (slots_of false Lock at)
lock_closed at = by_slot (λ z o t. false ≡ cond z false (row true false false z o t)) refl refl refl refl at

first_opened : (at : ℕ) → slots_of true Nothing at ≡ cond (nat_eq 1 at) true false
first_opened at = by_slot (λ z o t. row false true false z o t ≡ cond o true false) refl refl refl refl at

second_opened : (at : ℕ) → slots_of true Lock at ≡ cond (nat_eq 1 at) true (slots_of false Lock at)
second_opened at = by_slot (λ z o t. row true true false z o t ≡ cond o true (row true false false z o t)) refl refl refl refl at

first_closed : (at : ℕ) → false ≡ cond (nat_eq 1 at) false (slots_of true Nothing at)
first_closed at = by_slot (λ z o t. false ≡ cond o false (row false true false z o t)) refl refl refl refl at

second_closed : (at : ℕ) → slots_of false Lock at ≡ cond (nat_eq 1 at) false (slots_of true Lock at)
second_closed at = by_slot (λ z o t. row true false false z o t ≡ cond o false (row true true false z o t)) refl refl refl refl at

last_closed : (at : ℕ) → slots_of false LockAndTemp at ≡ cond (nat_eq 1 at) false (slots_of true LockAndTemp at)
last_closed at = by_slot (λ z o t. row true false true z o t ≡ cond o false (row true true true z o t)) refl refl refl refl at

temp_opened : (entry : Bool) (at : ℕ) → slots_of entry LockAndTemp at ≡ cond (nat_eq 3 at) true (slots_of entry Lock at)
temp_opened entry at = by_slot (λ z o t. row true entry true z o t ≡ cond t true (row true entry false z o t)) refl refl refl refl at

temp_closed : (at : ℕ) → slots_of false Lock at ≡ cond (nat_eq 3 at) false (slots_of false LockAndTemp at)
temp_closed at = by_slot (λ z o t. row true false false z o t ≡ cond t false (row true false true z o t)) refl refl refl refl at

-- ---- where a reply leads

abbrev GoesTo : ℕ → Key → List ℕ → PutPhase → Reply → PutPhase → Type 0
GoesTo root key item p reply q = Goes (put_slots_in p) (put_hurt_in p) (put_left_in p) (asks_put_in root key item p) reply (put_slots_in q) (put_hurt_in q) (put_left_in q)

-- what a longer or a shorter file leads to
measured : (root : ℕ) (key : Key) (item : List ℕ) (look : Look) (length : ℕ) (b : Bool) → GoesTo root key item (Measuring look) (replies.Number length) (cond b (too_long look) (Reading look length))
measured root key item First length true = λ fits. record { filled = λ at. refl; covers = λ h. h; less = omega arith }
measured root key item First length false = λ fits. record { filled = λ at. refl; covers = λ h. h; less = omega arith }
measured root key item Second length true = λ fits. record { filled = λ at. refl; covers = λ h. h; less = omega arith }
measured root key item Second length false = λ fits. record { filled = λ at. refl; covers = λ h. h; less = omega arith }

-- what the bytes at the front of an entry lead to
abbrev FrontGoes : Call → List ℕ → PutPhase → Type 0
FrontGoes call bytes q = Goes (slots_of true Lock) false 9 (Ask call) (replies.Got bytes) (put_slots_in q) (put_hurt_in q) (put_left_in q)

fronted : (call : Call) (bytes : List ℕ) (q : PutPhase) → Fronted bytes q → FrontGoes call bytes q
fronted call bytes (Evicting driver) f = λ fits. record { filled = λ at. refl; covers = λ h. h; less = omega arith }
fronted call bytes (Making true) f = λ fits. record { filled = λ at. refl; covers = λ h. h; less = omega arith }
fronted call bytes (Making false) f = absurd f
fronted call bytes q f = absurd f

-- what all bytes of an entry lead to
judged : (root : ℕ) (key : Key) (item : List ℕ) (driver : DriverKeys) (bytes : List ℕ) (look : Look) (length : ℕ) (q : PutPhase) → Judged driver look bytes q → GoesTo root key item (Reading look length) (replies.Got bytes) q
judged root key item driver bytes First length q (inl kept) = subst (GoesTo root key item (Reading First length) (replies.Got bytes)) (sym kept.1) (λ fits. record { filled = λ at. refl; covers = λ h. refl; less = omega arith })
judged root key item driver bytes Second length q (inl kept) = subst (GoesTo root key item (Reading Second length) (replies.Got bytes)) (sym kept.1) (λ fits. record { filled = λ at. refl; covers = λ h. refl; less = omega arith })
judged root key item driver bytes First length q (inr other) = subst (GoesTo root key item (Reading First length) (replies.Got bytes)) (sym other.1) (λ fits. record { filled = λ at. refl; covers = λ h. h; less = omega arith })
judged root key item driver bytes Second length q (inr other) = fronted (ReadAt 1 0 length) bytes q other.1

-- what a lock that is held leads to
held : (root : ℕ) (key : Key) (item : List ℕ) (again : ℕ) (b : Bool) → nat_eq again 0 ≡ b → GoesTo root key item (Locking again) replies.Held (cond b (ClosingLock Busy) (Pausing (again - 1)))
held root key item again true e = λ fits. record { filled = λ at. refl; covers = λ h. refl; less = omega arith }
held root key item again false e = λ fits. record { filled = λ at. refl; covers = λ h. h; less = omega (arith, some again e) }
  where
    some : (n : ℕ) → nat_eq n 0 ≡ false → n ≢ 0
    some n e is = false≢true (sym e ∙ eq-eqb n 0 is)

goes : (root : ℕ) (key : Key) (item : List ℕ) (driver : DriverKeys) (p : PutPhase) (reply : Reply) (q : PutPhase) → NextPut driver (after_put_asking p) reply q → GoesTo root key item p reply q
goes root key item driver (Opening First) replies.Done q e = subst (GoesTo root key item (Opening First) replies.Done) (sym e) (λ fits. record { filled = λ at. first_opened at; covers = λ h. h; less = omega arith })
goes root key item driver (Opening First) replies.Missing q e = subst (GoesTo root key item (Opening First) replies.Missing) (sym e) (λ fits. record { filled = λ at. refl; covers = λ h. h; less = omega arith })
goes root key item driver (Opening First) reply q e = subst (GoesTo root key item (Opening First) reply) (sym e) (λ fits. record { filled = λ at. refl; covers = λ h. refl; less = omega arith })
goes root key item driver (Opening Second) replies.Done q e = subst (GoesTo root key item (Opening Second) replies.Done) (sym e) (λ fits. record { filled = λ at. second_opened at; covers = λ h. h; less = omega arith })
goes root key item driver (Opening Second) replies.Missing q e = subst (GoesTo root key item (Opening Second) replies.Missing) (sym e) (λ fits. record { filled = λ at. refl; covers = λ h. h; less = omega arith })
goes root key item driver (Opening Second) reply q e = subst (GoesTo root key item (Opening Second) reply) (sym e) (λ fits. record { filled = λ at. refl; covers = λ h. refl; less = omega arith })
goes root key item driver (Measuring First) (replies.Number length) q e = subst (GoesTo root key item (Measuring First) (replies.Number length)) (sym e) (measured root key item First length (nat_lt MAX_ITEM length))
goes root key item driver (Measuring First) reply q e = subst (GoesTo root key item (Measuring First) reply) (sym e) (λ fits. record { filled = λ at. refl; covers = λ h. refl; less = omega arith })
goes root key item driver (Measuring Second) (replies.Number length) q e = subst (GoesTo root key item (Measuring Second) (replies.Number length)) (sym e) (measured root key item Second length (nat_lt MAX_ITEM length))
goes root key item driver (Measuring Second) reply q e = subst (GoesTo root key item (Measuring Second) reply) (sym e) (λ fits. record { filled = λ at. refl; covers = λ h. refl; less = omega arith })
goes root key item driver (Reading First length) (replies.Got bytes) q e = judged root key item driver bytes First length q e
goes root key item driver (Reading First length) reply q e = subst (GoesTo root key item (Reading First length) reply) (sym e) (λ fits. record { filled = λ at. refl; covers = λ h. refl; less = omega arith })
goes root key item driver (Reading Second length) (replies.Got bytes) q e = judged root key item driver bytes Second length q e
goes root key item driver (Reading Second length) reply q e = subst (GoesTo root key item (Reading Second length) reply) (sym e) (λ fits. record { filled = λ at. refl; covers = λ h. refl; less = omega arith })
goes root key item driver ReadingFront (replies.Got bytes) q e = fronted (ReadAt 1 0 522) bytes q e
goes root key item driver ReadingFront reply q e = subst (GoesTo root key item ReadingFront reply) (sym e) (λ fits. record { filled = λ at. refl; covers = λ h. refl; less = omega arith })
goes root key item driver Leaving replies.Done q e = subst (GoesTo root key item Leaving replies.Done) (sym e) (λ fits. record { filled = λ at. first_closed at; covers = λ h. h; less = omega arith })
goes root key item driver Leaving reply q e = λ fits. absurd fits
goes root key item driver OpeningLock replies.Done q e = subst (GoesTo root key item OpeningLock replies.Done) (sym e) (λ fits. record { filled = λ at. lock_opened at; covers = λ h. h; less = omega arith })
goes root key item driver OpeningLock reply q e = subst (GoesTo root key item OpeningLock reply) (sym e) (λ fits. record { filled = λ at. refl; covers = λ h. refl; less = omega arith })
goes root key item driver (Locking again) replies.Done q e = subst (GoesTo root key item (Locking again) replies.Done) (sym e) (λ fits. record { filled = λ at. refl; covers = λ h. h; less = omega arith })
goes root key item driver (Locking again) replies.Held q e = subst (GoesTo root key item (Locking again) replies.Held) (sym e) (held root key item again (nat_eq again 0) refl)
goes root key item driver (Locking again) reply q e = subst (GoesTo root key item (Locking again) reply) (sym e) (λ fits. record { filled = λ at. refl; covers = λ h. refl; less = omega arith })
goes root key item driver (Pausing again) replies.Done q e = subst (GoesTo root key item (Pausing again) replies.Done) (sym e) (λ fits. record { filled = λ at. refl; covers = λ h. h; less = omega arith })
goes root key item driver (Pausing again) reply q e = subst (GoesTo root key item (Pausing again) reply) (sym e) (λ fits. record { filled = λ at. refl; covers = λ h. refl; less = omega arith })
goes root key item driver (Evicting driver') replies.Done q e = subst (GoesTo root key item (Evicting driver') replies.Done) (sym e) (λ fits. record { filled = λ at. refl; covers = λ h. h; less = omega arith })
goes root key item driver (Evicting driver') replies.NoMemory q e = subst (GoesTo root key item (Evicting driver') replies.NoMemory) (sym e) (λ fits. record { filled = λ at. refl; covers = λ h. refl; less = omega arith })
goes root key item driver (Evicting driver') reply q e = λ fits. absurd fits
goes root key item driver Evicted reply q e = tt
goes root key item driver (Making entry) replies.Done q e = subst (GoesTo root key item (Making entry) replies.Done) (sym e) (λ fits. record { filled = λ at. temp_opened entry at; covers = λ h. h; less = omega arith })
goes root key item driver (Making true) reply q e = subst (GoesTo root key item (Making true) reply) (sym e) (λ fits. record { filled = λ at. refl; covers = λ h. refl; less = omega arith })
goes root key item driver (Making false) reply q e = subst (GoesTo root key item (Making false) reply) (sym e) (λ fits. record { filled = λ at. refl; covers = λ h. refl; less = omega arith })
goes root key item driver (Cutting entry) replies.Done q e = subst (GoesTo root key item (Cutting entry) replies.Done) (sym e) (λ fits. record { filled = λ at. refl; covers = λ h. h; less = omega arith })
goes root key item driver (Cutting true) reply q e = subst (GoesTo root key item (Cutting true) reply) (sym e) (λ fits. record { filled = λ at. refl; covers = λ h. refl; less = omega arith })
goes root key item driver (Cutting false) reply q e = subst (GoesTo root key item (Cutting false) reply) (sym e) (λ fits. record { filled = λ at. refl; covers = λ h. refl; less = omega arith })
goes root key item driver (Writing entry) replies.Done q e = subst (GoesTo root key item (Writing entry) replies.Done) (sym e) (λ fits. record { filled = λ at. refl; covers = λ h. h; less = omega arith })
goes root key item driver (Writing true) reply q e = subst (GoesTo root key item (Writing true) reply) (sym e) (λ fits. record { filled = λ at. refl; covers = λ h. refl; less = omega arith })
goes root key item driver (Writing false) reply q e = subst (GoesTo root key item (Writing false) reply) (sym e) (λ fits. record { filled = λ at. refl; covers = λ h. refl; less = omega arith })
goes root key item driver (Renaming true) replies.Done q e = subst (GoesTo root key item (Renaming true) replies.Done) (sym e) (λ fits. record { filled = λ at. refl; covers = λ h. refl; less = omega arith })
goes root key item driver (Renaming true) reply q e = subst (GoesTo root key item (Renaming true) reply) (sym e) (λ fits. record { filled = λ at. refl; covers = λ h. refl; less = omega arith })
goes root key item driver (Renaming false) replies.Done q e = subst (GoesTo root key item (Renaming false) replies.Done) (sym e) (λ fits. record { filled = λ at. refl; covers = λ h. refl; less = omega arith })
goes root key item driver (Renaming false) reply q e = subst (GoesTo root key item (Renaming false) reply) (sym e) (λ fits. record { filled = λ at. refl; covers = λ h. refl; less = omega arith })
goes root key item driver (ClosingEntry answer Nothing) replies.Done q e = subst (GoesTo root key item (ClosingEntry answer Nothing) replies.Done) (sym e) (λ fits. record { filled = λ at. first_closed at; covers = λ h. refl; less = omega arith })
goes root key item driver (ClosingEntry answer Lock) replies.Done q e = subst (GoesTo root key item (ClosingEntry answer Lock) replies.Done) (sym e) (λ fits. record { filled = λ at. second_closed at; covers = λ h. refl; less = omega arith })
goes root key item driver (ClosingEntry answer LockAndTemp) replies.Done q e = subst (GoesTo root key item (ClosingEntry answer LockAndTemp) replies.Done) (sym e) (λ fits. record { filled = λ at. last_closed at; covers = λ h. refl; less = omega arith })
goes root key item driver (ClosingEntry answer besides) reply q e = λ fits. absurd fits
goes root key item driver (ClosingTemp answer) replies.Done q e = subst (GoesTo root key item (ClosingTemp answer) replies.Done) (sym e) (λ fits. record { filled = λ at. temp_closed at; covers = λ h. refl; less = omega arith })
goes root key item driver (ClosingTemp answer) reply q e = λ fits. absurd fits
goes root key item driver (ClosingLock answer) replies.Done q e = subst (GoesTo root key item (ClosingLock answer) replies.Done) (sym e) (λ fits. record { filled = λ at. lock_closed at; covers = λ h. refl; less = omega arith })
goes root key item driver (ClosingLock answer) reply q e = λ fits. absurd fits
goes root key item driver (Ended answer) reply q e = tt
goes root key item driver Spent reply q e = tt

pub put_goes_on : (m n : FolderPut) (reply : Reply) → FedPut (asked_put m) reply n → Goes (put_slots_in m.phase) (put_hurt_in m.phase) (put_left_in m.phase) (asks_put m) reply (put_slots_in n.phase) (put_hurt_in n.phase) (put_left_in n.phase)
put_goes_on m n reply fed =
    let e : n.phase ≡ fed.0 = ap (λ (x : FolderPut). x.phase) fed.1 in
    subst (GoesTo m.root m.key m.item m.phase reply) (sym e) (goes m.root m.key m.item m.driver m.phase reply fed.0 fed.2)
