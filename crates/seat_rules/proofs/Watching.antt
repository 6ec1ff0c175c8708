-- After one of a seat's items at a watched place, with an item more.
use Rattle.std.proofs.Common.{◌≡◌, ◌⊎◌, inl, inr, true, List, [], ◌∷◌, ◌++◌, fold, refl, sym, ap, ◌∙◌, subst, append_assoc, append-nil}
use Rattle.cache_types.specs.declared.seat.Who.{Who}
use Rattle.file_log.specs.Disk.{Disk}
use Rattle.file_log.specs.Effect.{applied}
use Rattle.file_log.specs.Log.{History, is_own, with_items}
use Rattle.file_log.specs.State.{disk_of}
use Rattle.file_log.specs.declared.item.LogItem.{LogItem}
use Rattle.seat_rules.proofs.Histories.{disk_then, disk_further, last_of}
use Rattle.seat_rules.specs.Changes.{with_item}
use Rattle.seat_rules.specs.Operations.{AfterOne}
use Rattle.seat_rules.specs.Part.{After}

nothing_later : (before : List LogItem) (x y : LogItem) (later : List LogItem) → before ++ x ∷ [] ≡ before ++ y ∷ later → [] ≡ later
nothing_later [] x y later e = cc
nothing_later (z ∷ before) x y later e = let rest : before ++ x ∷ [] ≡ before ++ y ∷ later = cc in nothing_later before x y later rest

module _ (W : History → LogItem → List LogItem → Type 0) (Is : Disk → Type 0) (who : Who) (h : History) where
  -- the item more is the one
  pub record IsNow (made : List LogItem) (x : LogItem) : Type 0 where
    pub mine : is_own who x ≡ true
    pub at_place : W (with_items h made) x []
    pub so : Is (disk_of (with_item (with_items h made) x))

  pub after_now : (made : List LogItem) (x : LogItem) → IsNow made x → After W Is who h (made ++ x ∷ [])
  after_now made x n = record { earlier = made; item = x; later = []; made_are = refl; mine = n.mine; at_place = n.at_place; so = n.so }

  -- or it comes later than the one
  pub after_more : (made : List LogItem) (x : LogItem) → After (λ k item later. W k item (later ++ x ∷ [])) Is who h made → After W Is who h (made ++ x ∷ [])
  after_more made x a = record {
    earlier = a.earlier;
    item = a.item;
    later = a.later ++ x ∷ [];
    made_are = ap (λ (l : List LogItem). l ++ x ∷ []) a.made_are ∙ append_assoc a.earlier (a.item ∷ a.later) (x ∷ []);
    mine = a.mine;
    at_place = a.at_place;
    so = a.so;
  }

  pub after_split : (made : List LogItem) (x : LogItem) → After W Is who h (made ++ x ∷ []) → After (λ k item later. W k item (later ++ x ∷ [])) Is who h made ⊎ IsNow made x
  after_split made x a = elim (last_of made x a.earlier a.item a.later a.made_are) [
    | inl r ↦ inl (record { earlier = a.earlier; item = a.item; later = r.shorter; made_are = r.log_is; mine = a.mine; at_place = subst (W (with_items h a.earlier) a.item) r.later_is a.at_place; so = a.so })
    | inr now ↦ inr (record {
      mine = subst (λ (i : LogItem). is_own who i ≡ true) (sym now.0) a.mine;
      at_place = subst (λ (i : LogItem). W (with_items h made) i []) (sym now.0) (subst (λ (l : List LogItem). W (with_items h l) a.item []) (sym now.1)
          (subst (W (with_items h a.earlier) a.item) (sym (nothing_later a.earlier x a.item a.later (ap (λ (l : List LogItem). l ++ x ∷ []) (sym now.1) ∙ a.made_are))) a.at_place));
      so = subst (λ (i : LogItem). Is (disk_of (with_item (with_items h made) i))) (sym now.0) (subst (λ (l : List LogItem). Is (disk_of (with_item (with_items h l) a.item))) (sym now.1) a.so);
    })
  ]

-- where every place is watched: the form by recursion
pub after_anywhere : (Is : Disk → Type 0) (who : Who) (h : History) (made : List LogItem) → AfterOne who Is (disk_of h) made → After (λ k item later. Unit {0}) Is who h made
after_anywhere Is who h made a = by_list (disk_of h) h made refl a
  where
    by_list : (d : Disk) (k : History) (made : List LogItem) → disk_of k ≡ d → AfterOne who Is d made → After (λ k item later. Unit {0}) Is who k made
    by_list d k [] e a = absurd a
    by_list d k (x ∷ made) e (inl here) = record {
      earlier = [];
      item = x;
      later = made;
      made_are = refl;
      mine = here.0;
      at_place = tt;
      so = subst Is (sym (ap (λ (l : List LogItem). disk_of (with_item (record { start = k.start; log = l }) x)) (append-nil k.log) ∙ disk_then k x ∙ ap (λ (d : Disk). applied d x) e)) here.1;
    }
    by_list d k (x ∷ made) e (inr later) =
        let r = by_list (applied d x) (with_item k x) made (disk_then k x ∙ ap (λ (d : Disk). applied d x) e) later in
        record {
          earlier = x ∷ r.earlier;
          item = r.item;
          later = r.later;
          made_are = ap (λ (l : List LogItem). x ∷ l) r.made_are;
          mine = r.mine;
          at_place = tt;
          so = subst (λ (l : List LogItem). Is (disk_of (with_item (record { start = k.start; log = l }) r.item))) (append_assoc k.log (x ∷ []) r.earlier) r.so;
        }

-- and back, whatever is watched
pub one_after : (W : History → LogItem → List LogItem → Type 0) (Is : Disk → Type 0) (who : Who) (h : History) (made : List LogItem) → After W Is who h made → AfterOne who Is (disk_of h) made
one_after W Is who h made a = subst (AfterOne who Is (disk_of h)) (sym a.made_are) (from_front (disk_of h) a.earlier (subst Is then_is a.so))
  where
    then_is : disk_of (with_item (with_items h a.earlier) a.item) ≡ applied (fold applied (disk_of h) a.earlier) a.item
    then_is = disk_then (with_items h a.earlier) a.item ∙ ap (λ (d : Disk). applied d a.item) (disk_further h a.earlier)

    from_front : (d : Disk) (earlier : List LogItem) → Is (applied (fold applied d earlier) a.item) → AfterOne who Is d (earlier ++ a.item ∷ a.later)
    from_front d [] so = inl (a.mine, so)
    from_front d (x ∷ earlier) so = inr (from_front (applied d x) earlier so)
