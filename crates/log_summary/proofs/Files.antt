-- The files that names have had, as a log's summary lists them.
use Rattle.std.proofs.Common.{◌≡◌, ◌⊎◌, inl, inr, ℕ, Bool, true, false, cond, List, [], ◌∷◌, ◌++◌, take, Option, Some, None, refl, sym, ap, ◌∙◌, subst, append_assoc, append-nil}
use Rattle.cache_types.specs.Names.{same_name, name_code}
use Rattle.cache_types.specs.declared.name.Name.{Name}
use Rattle.cache_types.specs.declared.name.Name.TheVariants as names
use Rattle.cache_types.specs.declared.seat.Who.{Who}
use Rattle.cache_types.proofs.Names.{same_name_decides}
use Rattle.file_log.specs.Disk.{Disk, created, made_at, rewritten, renamed, locked, listed}
use Rattle.file_log.specs.Effect.{applied, after_call, done_call}
use Rattle.file_log.specs.State.{disk_of}
use Rattle.file_log.specs.Writing.{written}
use Rattle.file_log.specs.declared.call.Call.{Call}
use Rattle.file_log.specs.declared.call.Call.TheVariants as calls
use Rattle.file_log.specs.declared.item.LogItem.{LogItem}
use Rattle.file_log.specs.declared.item.LogItem.TheVariants as items
use Rattle.file_log.specs.declared.reply.Reply.{Reply}
use Rattle.file_log.specs.declared.reply.Reply.TheVariants.{Done}
use Rattle.seat_rules.specs.Changes.{HasHad}
use Rattle.log_summary.specs.Summary.{gained, gained_by, gained_new, gained_old, gained_list}
use Rattle.seat_rules.proofs.Along.{past}
use Rattle.seat_rules.proofs.Histories.{front_cases}
use Rattle.log_summary.specs.Telling.{In}

-- ---- files that names have had

pub had_grows : (log more : List LogItem) (name : Name) (f : ℕ) → HasHad (past log) name f → HasHad (past (log ++ more)) name f
had_grows log more name f h = record { before = h.before; later = h.later ++ more; log_is = ap (λ (l : List LogItem). l ++ more) h.log_is ∙ append_assoc h.before h.later more; named = h.named }

pub had_now : (log : List LogItem) (name : Name) (f : ℕ) → (disk_of (past log)).names name ≡ Some f → HasHad (past log) name f
had_now log name f e = record { before = log; later = []; log_is = sym (append-nil log); named = e }

-- with an item more: before it, or after it
pub had_split : (log : List LogItem) (x : LogItem) (name : Name) (f : ℕ) → HasHad (past (log ++ x ∷ [])) name f → HasHad (past log) name f ⊎ ((disk_of (past (log ++ x ∷ []))).names name ≡ Some f)
had_split log x name f h = elim (front_cases log x h.before h.later h.log_is) [
  | inl same ↦ inr (subst (λ (l : List LogItem). (disk_of (past l)).names name ≡ Some f) same h.named)
  | inr shorter ↦ inl (record { before = h.before; later = shorter.0; log_is = shorter.1; named = h.named })
]

-- ---- the files that names get by an item

same_self : (name : Name) → same_name name name ≡ true
same_self name = (same_name_decides name name).1 refl

pick : (b : Bool) (x y z : Option ℕ) → cond b x y ≡ z → ((b ≡ true) × (x ≡ z)) ⊎ ((b ≡ false) × (y ≡ z))
pick true x y z e = inl (refl, e)
pick false x y z e = inr (refl, e)

some_is : (a b : ℕ) → Some a ≡ Some b → a ≡ b
some_is a b e = cc

pair_is : (a b : Name) (f g : ℕ) → a ≡ b → f ≡ g → ◌≡◌ {A = Name × ℕ} (a, f) (b, g)
pair_is a b f g e h = ap (λ (x : Name). (x, f)) e ∙ ap (λ (y : ℕ). (b, y)) h

first_is : (a b : Name) (f g : ℕ) → ◌≡◌ {A = Name × ℕ} (a, f) (b, g) → a ≡ b
first_is a b f g e = ap (λ (p : Name × ℕ). p.0) e

second_is : (a b : Name) (f g : ℕ) → ◌≡◌ {A = Name × ℕ} (a, f) (b, g) → f ≡ g
second_is a b f g e = ap (λ (p : Name × ℕ). p.1) e

-- a new file has its name
new_named : (d : Disk) (new : Name) (bytes : List ℕ) (name : Name) (f : ℕ) → ◌≡◌ {A = Name × ℕ} (new, d.count) (name, f) → (created d new bytes).names name ≡ Some f
new_named d new bytes name f e =
    let own : (created d new bytes).names new ≡ Some d.count = rw (same_self new) refl in
    subst (λ (n : Name). (created d new bytes).names n ≡ Some f) (first_is new name d.count f e) (own ∙ ap (λ (n : ℕ). Some n) (second_is new name d.count f e))

named_new : (d : Disk) (new : Name) (bytes : List ℕ) (name : Name) (f : ℕ) → (created d new bytes).names name ≡ Some f → (d.names name ≡ Some f) ⊎ (◌≡◌ {A = Name × ℕ} (new, d.count) (name, f))
named_new d new bytes name f e = elim (pick (same_name new name) (Some d.count) (d.names name) (Some f) e) [
  | inl h ↦ inr (pair_is new name d.count f ((same_name_decides new name).0 h.0) (some_is d.count f h.1))
  | inr h ↦ inl h.1
]

made_gained : (o : Option ℕ) (d : Disk) (new name : Name) (f : ℕ) → In (gained_new d new o) (name, f) → (made_at o d new).names name ≡ Some f
made_gained None d new name f (inl e) = new_named d new [] name f e
made_gained None d new name f (inr i) = absurd i
made_gained (Some g) d new name f i = absurd i

gained_made : (o : Option ℕ) (d : Disk) (new name : Name) (f : ℕ) → (made_at o d new).names name ≡ Some f → (d.names name ≡ Some f) ⊎ In (gained_new d new o) (name, f)
gained_made None d new name f e = elim (named_new d new [] name f e) [ inl old ↦ inl old | inr same ↦ inr (inl same) ]
gained_made (Some g) d new name f e = inl e

renamed_gained : (o : Option ℕ) (d : Disk) (from to name : Name) (f : ℕ) → In (gained_old to o) (name, f) → (renamed d o from to).names name ≡ Some f
renamed_gained None d from to name f i = absurd i
renamed_gained (Some g) d from to name f (inl e) =
    let own : (renamed d (Some g) from to).names to ≡ Some g = rw (same_self to) refl in
    subst (λ (n : Name). (renamed d (Some g) from to).names n ≡ Some f) (first_is to name g f e) (own ∙ ap (λ (n : ℕ). Some n) (second_is to name g f e))
renamed_gained (Some g) d from to name f (inr i) = absurd i

gained_renamed : (o : Option ℕ) (d : Disk) (from to name : Name) (f : ℕ) → (renamed d o from to).names name ≡ Some f → (d.names name ≡ Some f) ⊎ In (gained_old to o) (name, f)
gained_renamed None d from to name f e = inl e
gained_renamed (Some g) d from to name f e = elim (pick (same_name to name) (Some g) (cond (same_name from name) None (d.names name)) (Some f) e) [
  | inl h ↦ inr (inl (pair_is to name g f ((same_name_decides to name).0 h.0) (some_is g f h.1)))
  | inr h ↦ elim (pick (same_name from name) None (d.names name) (Some f) h.1) [
    | inl k ↦ let clash : None ≡ Some f = k.1 in absurd cc
    | inr k ↦ inl k.1
  ]
]

removed_named : (d : Disk) (gone name : Name) (f : ℕ) → cond (same_name gone name) None (d.names name) ≡ Some f → d.names name ≡ Some f
removed_named d gone name f e = elim (pick (same_name gone name) None (d.names name) (Some f) e) [
  | inl k ↦ let clash : None ≡ Some f = k.1 in absurd cc
  | inr k ↦ k.1
]

locked_names : (d : Disk) (who : Who) (slot : ℕ) (o : Option ℕ) (name : Name) → (locked d who slot o).names name ≡ d.names name
locked_names d who slot None name = refl
locked_names d who slot (Some f) name = refl

rewritten_names : (d : Disk) (o : Option ℕ) (change : List ℕ → List ℕ) (name : Name) → (rewritten d o change).names name ≡ d.names name
rewritten_names d None change name = refl
rewritten_names d (Some f) change name = refl

call_gained : (d : Disk) (who : Who) (call : Call) (reply : Reply) (name : Name) (f : ℕ) → In (gained_by d call reply) (name, f) → (after_call d who call reply).names name ≡ Some f
call_gained d who (calls.OpenNew slot new) Done name f i = made_gained (d.names new) d new name f i
call_gained d who (calls.Rename from to) Done name f i = renamed_gained (d.names from) d from to name f i
call_gained d who call reply name f i = absurd i

gained_done : (d : Disk) (who : Who) (call : Call) (name : Name) (f : ℕ) → (done_call d who call).names name ≡ Some f → (d.names name ≡ Some f) ⊎ In (gained_by d call Done) (name, f)
gained_done d who (calls.OpenNew slot new) name f e = gained_made (d.names new) d new name f e
gained_done d who (calls.Rename from to) name f e = gained_renamed (d.names from) d from to name f e
gained_done d who (calls.TryLock slot) name f e = inl (sym (locked_names d who slot (d.slots who slot) name) ∙ e)
gained_done d who (calls.Cut slot n) name f e = inl (sym (rewritten_names d (d.slots who slot) (take n) name) ∙ e)
gained_done d who (calls.Remove gone) name f e = inl (removed_named d gone name f e)
gained_done d who call name f e = inl e

gained_call : (d : Disk) (who : Who) (call : Call) (reply : Reply) (name : Name) (f : ℕ) → (after_call d who call reply).names name ≡ Some f → (d.names name ≡ Some f) ⊎ In (gained_by d call reply) (name, f)
gained_call d who call Done name f e = gained_done d who call name f e
gained_call d who call reply name f e = inl e

list_gained : (d : Disk) (text : Option (List ℕ)) (name : Name) (f : ℕ) → In (gained_list d text) (name, f) → (listed d text).names name ≡ Some f
list_gained d None name f i = absurd i
list_gained d (Some text) name f (inl e) = new_named d names.List text name f e
list_gained d (Some text) name f (inr i) = absurd i

gained_listed : (d : Disk) (text : Option (List ℕ)) (name : Name) (f : ℕ) → (listed d text).names name ≡ Some f → (d.names name ≡ Some f) ⊎ In (gained_list d text) (name, f)
gained_listed d None name f e = inl (removed_named d names.List name f e)
gained_listed d (Some text) name f e = elim (named_new d names.List text name f e) [ inl old ↦ inl old | inr same ↦ inr (inl same) ]

rows_of_another : (root : ℕ) (name : List ℕ) → same_name (names.RoIdx root name) (names.Ro root name) ≡ false
unfolding name_code
rows_of_another root name = refl

installed_first : (d : Disk) (root : ℕ) (base main index : List ℕ) (name : Name) (f : ℕ) → ◌≡◌ {A = Name × ℕ} (names.Ro root base, d.count) (name, f)
    → (created (created d (names.Ro root base) main) (names.RoIdx root base) index).names name ≡ Some f
installed_first d root base main index name f e =
    let own : (created (created d (names.Ro root base) main) (names.RoIdx root base) index).names (names.Ro root base) ≡ Some d.count = rw (rows_of_another root base, same_self (names.Ro root base)) refl in
    subst (λ (n : Name). (created (created d (names.Ro root base) main) (names.RoIdx root base) index).names n ≡ Some f) (first_is (names.Ro root base) name d.count f e) (own ∙ ap (λ (n : ℕ). Some n) (second_is (names.Ro root base) name d.count f e))

-- a name has a file that it gets
pub gained_named : (d : Disk) (x : LogItem) (name : Name) (f : ℕ) → In (gained d x) (name, f) → (applied d x).names name ≡ Some f
gained_named d (items.Did who call reply) name f i = call_gained d who call reply name f i
gained_named d (items.SetList text) name f i = list_gained d text name f i
gained_named d (items.Install root base main index) name f (inl e) = installed_first d root base main index name f e
gained_named d (items.Install root base main index) name f (inr (inl e)) = new_named (created d (names.Ro root base) main) (names.RoIdx root base) index name f e
gained_named d (items.Install root base main index) name f (inr (inr i)) = absurd i
gained_named d x name f i = absurd i

-- a file that a name has after the item is one that it had or gets
pub named_gained : (d : Disk) (x : LogItem) (name : Name) (f : ℕ) → (applied d x).names name ≡ Some f → (d.names name ≡ Some f) ⊎ In (gained d x) (name, f)
named_gained d (items.Did who call reply) name f e = gained_call d who call reply name f e
named_gained d (items.SetList text) name f e = gained_listed d text name f e
named_gained d (items.Byte who slot at value) name f e = inl (sym (rewritten_names d (d.slots who slot) (written at (value ∷ [])) name) ∙ e)
named_gained d (items.Install root base main index) name f e =
    elim (named_new (created d (names.Ro root base) main) (names.RoIdx root base) index name f e) [
      | inl old ↦ elim (named_new d (names.Ro root base) main name f old) [ inl older ↦ inl older | inr same ↦ inr (inl same) ]
      | inr same ↦ inr (inr (inl same))
    ]
named_gained d x name f e = inl e
