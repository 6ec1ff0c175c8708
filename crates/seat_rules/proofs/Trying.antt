-- Tries for a lock, with an item more.
use Rattle.std.proofs.Common.{◌≡◌, ◌⊎◌, inl, inr, ℕ, true, false, List, [], ◌∷◌, ◌++◌, fold, Some, refl, sym, ap, ◌∙◌, subst, append_assoc, append-nil}
use Rattle.std.specs.Prelude.{replicate}
use Rattle.cache_types.specs.declared.name.Name.{Name}
use Rattle.cache_types.specs.declared.seat.Who.{Who}
use Rattle.file_log.specs.Disk.{Disk}
use Rattle.file_log.specs.Effect.{applied}
use Rattle.file_log.specs.Log.{is_own}
use Rattle.file_log.specs.declared.call.Call.TheVariants as calls
use Rattle.file_log.specs.declared.item.LogItem.{LogItem}
use Rattle.file_log.specs.declared.item.LogItem.TheVariants as items
use Rattle.file_log.specs.declared.reply.Reply.{Reply}
use Rattle.file_log.specs.declared.reply.Reply.TheVariants.{Held}
use Rattle.seat_rules.specs.Kinds.{is_lock_of}
use Rattle.seat_rules.specs.Operations.{tried, tries, WasHeldOff}
use Rattle.seat_rules.proofs.Histories.{last_of}

pub tries_more : (who : Who) (f : ℕ) (d : Disk) (made : List LogItem) (x : LogItem) → tries who f d (made ++ x ∷ []) ≡ tries who f d made ++ tried who f (fold applied d made) x
tries_more who f d [] x = append-nil (tried who f d x)
tries_more who f d (y ∷ made) x = ap (λ (l : List Reply). tried who f d y ++ l) (tries_more who f (applied d y) made x) ∙ sym (append_assoc (tried who f d y) (tries who f (applied d y) made) (tried who f (fold applied (applied d y) made) x))

pub tried_other : (who : Who) (f : ℕ) (d : Disk) (x : LogItem) → is_own who x ≡ false → tried who f d x ≡ []
tried_other who f d (items.Did by (calls.TryLock slot) reply) e = rw e refl
tried_other who f d x e = refl

-- ---- the 64th

-- the item is the seat's 64th try in a row that was answered so
pub record IsLast (who : Who) (root : ℕ) (d : Disk) (made : List LogItem) (x : LogItem) : Type 0 where
  pub slot : ℕ
  pub item_is : x ≡ items.Did who (calls.TryLock slot) Held
  pub file : ℕ
  pub has_file : (fold applied d made).slots who slot ≡ Some file
  pub name : Name
  pub is_lock : is_lock_of root name ≡ true
  pub named : (fold applied d made).names name ≡ Some file
  pub earlier : List Reply
  pub all_held : tries who file d made ≡ earlier ++ replicate 63 Held

pub held_off_split : (who : Who) (root : ℕ) (d : Disk) (made : List LogItem) (x : LogItem) → WasHeldOff who root d (made ++ x ∷ []) → WasHeldOff who root d made ⊎ IsLast who root d made x
held_off_split who root d made x w = elim (last_of made x w.before (items.Did who (calls.TryLock w.slot) Held) w.later w.made_are) [
  | inl r ↦ inl (record { before = w.before; slot = w.slot; later = r.shorter; made_are = r.log_is; file = w.file; has_file = w.has_file; name = w.name; is_lock = w.is_lock; named = w.named; earlier = w.earlier; all_held = w.all_held })
  | inr now ↦ inr (record {
    slot = w.slot;
    item_is = now.0;
    file = w.file;
    has_file = subst (λ (l : List LogItem). (fold applied d l).slots who w.slot ≡ Some w.file) (sym now.1) w.has_file;
    name = w.name;
    is_lock = w.is_lock;
    named = subst (λ (l : List LogItem). (fold applied d l).names w.name ≡ Some w.file) (sym now.1) w.named;
    earlier = w.earlier;
    all_held = subst (λ (l : List LogItem). tries who w.file d l ≡ w.earlier ++ replicate 63 Held) (sym now.1) w.all_held;
  })
]

pub held_off_stays : (who : Who) (root : ℕ) (d : Disk) (made : List LogItem) (x : LogItem) → WasHeldOff who root d made → WasHeldOff who root d (made ++ x ∷ [])
held_off_stays who root d made x w = record {
  before = w.before;
  slot = w.slot;
  later = w.later ++ x ∷ [];
  made_are = ap (λ (l : List LogItem). l ++ x ∷ []) w.made_are ∙ append_assoc w.before (items.Did who (calls.TryLock w.slot) Held ∷ w.later) (x ∷ []);
  file = w.file;
  has_file = w.has_file;
  name = w.name;
  is_lock = w.is_lock;
  named = w.named;
  earlier = w.earlier;
  all_held = w.all_held;
}

pub held_off_now : (who : Who) (root : ℕ) (d : Disk) (made : List LogItem) (x : LogItem) → IsLast who root d made x → WasHeldOff who root d (made ++ x ∷ [])
held_off_now who root d made x l = record {
  before = made;
  slot = l.slot;
  later = [];
  made_are = ap (λ (y : LogItem). made ++ y ∷ []) l.item_is;
  file = l.file;
  has_file = l.has_file;
  name = l.name;
  is_lock = l.is_lock;
  named = l.named;
  earlier = l.earlier;
  all_held = l.all_held;
}
