-- Names and files after an item.
use Rattle.std.proofs.Common.{◌≡◌, ◌⊎◌, inl, inr, ℕ, ◌≤◌, Bool, true, false, cond, List, [], ◌∷◌, take, Option, Some, None, refl, sym, ◌∙◌, subst, arith}
use Rattle.cache_types.specs.Names.{same_name}
use Rattle.cache_types.specs.declared.name.Name.{Name}
use Rattle.cache_types.specs.declared.name.Name.TheVariants as names
use Rattle.cache_types.specs.declared.seat.Who.{Who}
use Rattle.cache_types.proofs.Names.{same_name_decides}
use Rattle.file_log.specs.Disk.{Disk, file_of, created, made_at, rewritten, renamed, locked, listed}
use Rattle.file_log.specs.Effect.{applied, after_call, done_call}
use Rattle.file_log.specs.Log.{History}
use Rattle.file_log.specs.State.{disk_of}
use Rattle.file_log.specs.Writing.{written}
use Rattle.file_log.specs.declared.call.Call.{Call}
use Rattle.file_log.specs.declared.call.Call.TheVariants as calls
use Rattle.file_log.specs.declared.item.LogItem.{LogItem}
use Rattle.file_log.specs.declared.item.LogItem.TheVariants as items
use Rattle.file_log.specs.declared.reply.Reply.{Reply}
use Rattle.file_log.specs.declared.reply.Reply.TheVariants.{Done}
use Rattle.seat_rules.specs.Changes.{with_item, HasHad}
use Rattle.seat_rules.proofs.Histories.{front_cases}

-- ---- names

pub same_self : (name : Name) → same_name name name ≡ true
same_self name = (same_name_decides name name).1 refl

pub one_or_other : (a b : Name) → (a ≡ b) ⊎ (same_name a b ≡ false)
one_or_other a b = by_test (same_name a b) refl
  where
    by_test : (t : Bool) → same_name a b ≡ t → (a ≡ b) ⊎ (same_name a b ≡ false)
    by_test true e = inl ((same_name_decides a b).0 e)
    by_test false e = inr e

pub pick : (b : Bool) (x y z : Option ℕ) → cond b x y ≡ z → ((b ≡ true) × (x ≡ z)) ⊎ ((b ≡ false) × (y ≡ z))
pick true x y z e = inl (refl, e)
pick false x y z e = inr (refl, e)

pub none_is_no_file : (f : ℕ) → ◌≡◌ {A = Option ℕ} None (Some f) → ⊥
none_is_no_file f e = cc

pub some_is : (a b : ℕ) → Some a ≡ Some b → a ≡ b
some_is a b e = cc

-- a file of the same number has the same bytes
pub file_same : (old new : Disk) (name : Name) → new.names name ≡ old.names name → ((f : ℕ) → old.names name ≡ Some f → new.files f ≡ old.files f) → file_of new name ≡ file_of old name
file_same old new name names files = by_number (old.names name) refl
  where
    by_number : (o : Option ℕ) → old.names name ≡ o → file_of new name ≡ file_of old name
    by_number None e = rw (names, e) refl
    by_number (Some f) e = rw (names, e, files f e) refl

-- ---- which file a name can get

-- the item gives the file of a name to another
pub record IsMoved (d : Disk) (x : LogItem) (f : ℕ) : Type 0 where
  pub who : Who
  pub from : Name
  pub to : Name
  pub item_is : x ≡ items.Did who (calls.Rename from to) Done
  pub named : d.names from ≡ Some f

-- it had the file, the file is new, or another name had it
abbrev pub Comes : Disk → LogItem → Name → ℕ → Type 0
Comes d x name f = (d.names name ≡ Some f) ⊎ ((d.count ≤ f) ⊎ IsMoved d x f)

created_comes : (d : Disk) (new : Name) (bytes : List ℕ) (name : Name) (f : ℕ) → (created d new bytes).names name ≡ Some f → (d.names name ≡ Some f) ⊎ (d.count ≤ f)
created_comes d new bytes name f e = elim (pick (same_name new name) (Some d.count) (d.names name) (Some f) e) [
  | inl h ↦ let same = some_is d.count f h.1 in inr (omega (arith, same))
  | inr h ↦ inl h.1
]

made_comes : (o : Option ℕ) (d : Disk) (new name : Name) (f : ℕ) → (made_at o d new).names name ≡ Some f → (d.names name ≡ Some f) ⊎ (d.count ≤ f)
made_comes None d new name f e = created_comes d new [] name f e
made_comes (Some g) d new name f e = inl e

removed_comes : (d : Disk) (gone name : Name) (f : ℕ) → cond (same_name gone name) None (d.names name) ≡ Some f → d.names name ≡ Some f
removed_comes d gone name f e = elim (pick (same_name gone name) None (d.names name) (Some f) e) [
  | inl k ↦ absurd (none_is_no_file f k.1)
  | inr k ↦ k.1
]

renamed_comes : (o : Option ℕ) (d : Disk) (from to name : Name) (f : ℕ) → d.names from ≡ o → (renamed d o from to).names name ≡ Some f → (d.names name ≡ Some f) ⊎ (d.names from ≡ Some f)
renamed_comes None d from to name f is e = inl e
renamed_comes (Some g) d from to name f is e = elim (pick (same_name to name) (Some g) (cond (same_name from name) None (d.names name)) (Some f) e) [
  | inl h ↦ inr (is ∙ h.1)
  | inr h ↦ inl (removed_comes d from name f h.1)
]

locked_names : (d : Disk) (who : Who) (slot : ℕ) (o : Option ℕ) (name : Name) → (locked d who slot o).names name ≡ d.names name
locked_names d who slot None name = refl
locked_names d who slot (Some f) name = refl

rewritten_names : (d : Disk) (o : Option ℕ) (change : List ℕ → List ℕ) (name : Name) → (rewritten d o change).names name ≡ d.names name
rewritten_names d None change name = refl
rewritten_names d (Some f) change name = refl

old_or_new : (d : Disk) (x : LogItem) (name : Name) (f : ℕ) → (d.names name ≡ Some f) ⊎ (d.count ≤ f) → Comes d x name f
old_or_new d x name f (inl e) = inl e
old_or_new d x name f (inr e) = inr (inl e)

done_comes : (d : Disk) (who : Who) (call : Call) (name : Name) (f : ℕ) → (done_call d who call).names name ≡ Some f → Comes d (items.Did who call Done) name f
done_comes d who (calls.OpenNew slot new) name f e = old_or_new d (items.Did who (calls.OpenNew slot new) Done) name f (made_comes (d.names new) d new name f e)
done_comes d who (calls.Rename from to) name f e = elim (renamed_comes (d.names from) d from to name f refl e) [
  | inl old ↦ inl old
  | inr moved ↦ inr (inr (record { who = who; from = from; to = to; item_is = refl; named = moved }))
]
done_comes d who (calls.TryLock slot) name f e = inl (sym (locked_names d who slot (d.slots who slot) name) ∙ e)
done_comes d who (calls.Cut slot n) name f e = inl (sym (rewritten_names d (d.slots who slot) (take n) name) ∙ e)
done_comes d who (calls.Remove gone) name f e = inl (removed_comes d gone name f e)
done_comes d who call name f e = inl e

call_comes : (d : Disk) (who : Who) (call : Call) (reply : Reply) (name : Name) (f : ℕ) → (after_call d who call reply).names name ≡ Some f → Comes d (items.Did who call reply) name f
call_comes d who call Done name f e = done_comes d who call name f e
call_comes d who call reply name f e = inl e

listed_comes : (d : Disk) (text : Option (List ℕ)) (name : Name) (f : ℕ) → (listed d text).names name ≡ Some f → (d.names name ≡ Some f) ⊎ (d.count ≤ f)
listed_comes d None name f e = inl (removed_comes d names.List name f e)
listed_comes d (Some text) name f e = created_comes d names.List text name f e

pub comes : (d : Disk) (x : LogItem) (name : Name) (f : ℕ) → (applied d x).names name ≡ Some f → Comes d x name f
comes d (items.Did who call reply) name f e = call_comes d who call reply name f e
comes d (items.Byte who slot at value) name f e = inl (sym (rewritten_names d (d.slots who slot) (written at (value ∷ [])) name) ∙ e)
comes d (items.Install root base main index) name f e = elim (created_comes (created d (names.Ro root base) main) (names.RoIdx root base) index name f e) [
  | inl old ↦ old_or_new d (items.Install root base main index) name f (created_comes d (names.Ro root base) main name f old)
  | inr new ↦ inr (inl (omega (arith, new)))
]
comes d (items.SetList text) name f e = old_or_new d (items.SetList text) name f (listed_comes d text name f e)
comes d x name f e = inl e

-- ---- how many files there are

made_count : (o : Option ℕ) (d : Disk) (new : Name) → d.count ≤ (made_at o d new).count
made_count None d new = omega arith
made_count (Some f) d new = omega arith

rewritten_count : (d : Disk) (o : Option ℕ) (change : List ℕ → List ℕ) → d.count ≤ (rewritten d o change).count
rewritten_count d None change = omega arith
rewritten_count d (Some f) change = omega arith

renamed_count : (d : Disk) (o : Option ℕ) (from to : Name) → d.count ≤ (renamed d o from to).count
renamed_count d None from to = omega arith
renamed_count d (Some f) from to = omega arith

locked_count : (d : Disk) (who : Who) (slot : ℕ) (o : Option ℕ) → d.count ≤ (locked d who slot o).count
locked_count d who slot None = omega arith
locked_count d who slot (Some f) = omega arith

listed_count : (d : Disk) (text : Option (List ℕ)) → d.count ≤ (listed d text).count
listed_count d None = omega arith
listed_count d (Some text) = omega arith

done_count : (d : Disk) (who : Who) (call : Call) → d.count ≤ (done_call d who call).count
done_count d who (calls.OpenNew slot name) = made_count (d.names name) d name
done_count d who (calls.TryLock slot) = locked_count d who slot (d.slots who slot)
done_count d who (calls.Cut slot n) = rewritten_count d (d.slots who slot) (take n)
done_count d who (calls.Rename from to) = renamed_count d (d.names from) from to
done_count d who call = omega arith

call_count : (d : Disk) (who : Who) (call : Call) (reply : Reply) → d.count ≤ (after_call d who call reply).count
call_count d who call Done = done_count d who call
call_count d who call reply = omega arith

pub count_grows : (d : Disk) (x : LogItem) → d.count ≤ (applied d x).count
count_grows d (items.Did who call reply) = call_count d who call reply
count_grows d (items.Byte who slot at value) = rewritten_count d (d.slots who slot) (written at (value ∷ []))
count_grows d (items.SetList text) = listed_count d text
count_grows d (items.Install root name main index) = omega arith
count_grows d x = omega arith

-- ---- files that names have had

pub had_split : (h : History) (x : LogItem) (name : Name) (f : ℕ) → HasHad (with_item h x) name f → HasHad h name f ⊎ ((disk_of (with_item h x)).names name ≡ Some f)
had_split h x name f had = elim (front_cases h.log x had.before had.later had.log_is) [
  | inl same ↦ inr (subst (λ (l : List LogItem). (disk_of (record { start = h.start; log = l })).names name ≡ Some f) same had.named)
  | inr shorter ↦ inl (record { before = had.before; later = shorter.0; log_is = shorter.1; named = had.named })
]
