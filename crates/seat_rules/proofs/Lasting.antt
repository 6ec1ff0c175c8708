-- A layout whose stores lose nothing at any item holds what it held.
use Rattle.std.proofs.Common.{◌≡◌, inl, inr, ℕ, List, [], ◌∷◌, ◌++◌, fold, Option, Some, None, refl, sym, subst}
use Rattle.cache_types.specs.Driver.{DriverKeys}
use Rattle.cache_types.specs.declared.key.Key.{Key}
use Rattle.cache_types.specs.declared.seat.Who.{Who}
use Rattle.cache_types.specs.declared.store.Layout.{Layout}
use Rattle.disk_laws.proofs.Tidiness.{tidy}
use Rattle.disk_laws.specs.Tidy.{IsTidy}
use Rattle.file_log.specs.Disk.{Disk}
use Rattle.file_log.specs.Effect.{applied}
use Rattle.file_log.specs.Log.{History, seat_of, with_items}
use Rattle.file_log.specs.State.{disk_of}
use Rattle.file_log.specs.declared.item.LogItem.{LogItem}
use Rattle.seat_rules.specs.Address.{address_in}
use Rattle.seat_rules.specs.Changes.{with_item}
use Rattle.seat_rules.specs.Part.{Part, IsHeldBy, LosesNothing}
use Rattle.seat_rules.specs.Served.{IsSafe, PartRule, Stretch}
use Rattle.seat_rules.proofs.Histories.{disk_then, goes_by}
use Rattle.seat_rules.proofs.Safe.{safe_front, safe_rest, safe_then}

module _ (l : Layout) (p : Part) (loses_nothing : (h : History) (item : LogItem) (who : Who) → p.keeps h item who → LosesNothing l p.gives h item who)
    (unseated : (d : Disk) (item : LogItem) (root : ℕ) (driver : DriverKeys) (key : Key) → IsTidy d → seat_of item ≡ None → IsHeldBy p d root driver key → IsHeldBy p (applied d item) root driver key)
    (root : ℕ) (driver : DriverKeys) (key : Key) where
  held_then : (h : History) (x : LogItem) (log : List LogItem) → IsSafe (PartRule p) (address_in l root driver key) h (x ∷ log) → IsHeldBy p (disk_of h) root driver key → IsHeldBy p (disk_of (with_item h x)) root driver key
  held_then h x log s held = subst (λ (d : Disk). IsHeldBy p d root driver key) (sym (disk_then h x)) (by_seat (seat_of x) refl)
    where
      by_seat : (seat : Option Who) → seat_of x ≡ seat → IsHeldBy p (applied (disk_of h) x) root driver key
      by_seat None e = unseated (disk_of h) x root driver key (tidy h) e held
      by_seat (Some who) e = elim (loses_nothing h x who (s.keeps.0 who e).1 s.quiet root driver key s.driver held) [ inl stays ↦ stays | inr told ↦ absurd (s.none_open who told) ]

  held_along : (h : History) (log : List LogItem) → IsSafe (PartRule p) (address_in l root driver key) h log → IsHeldBy p (disk_of h) root driver key → IsHeldBy p (disk_of (fold with_item h log)) root driver key
  held_along h [] s held = held
  held_along h (x ∷ log) s held = held_along (with_item h x) log (safe_then (PartRule p) (address_in l root driver key) h x log s) (held_then h x log s held)

  pub items_last : (h : History) (x : LogItem) (ys : List LogItem) (y : LogItem) → Stretch l p root driver key h x ys y
      → IsHeldBy p (disk_of (with_item h x)) root driver key → IsHeldBy p (disk_of (with_item (with_items (with_item h x) ys) y)) root driver key
  items_last h x ys y s held =
      let safe = safe_then (PartRule p) (address_in l root driver key) h x (ys ++ y ∷ []) s.safe in
      let there : IsHeldBy p (disk_of (fold with_item (with_item h x) ys)) root driver key =
      held_along (with_item h x) ys (safe_front (PartRule p) (address_in l root driver key) (with_item h x) ys (y ∷ []) safe) held in
      held_then (with_items (with_item h x) ys) y [] (safe_rest (PartRule p) (address_in l root driver key) (with_item h x) ys (y ∷ []) safe)
      (subst (λ (k : History). IsHeldBy p (disk_of k) root driver key) (goes_by (with_item h x) ys) there)
