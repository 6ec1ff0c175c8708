-- A log that goes on.
use Rattle.std.proofs.Common.{◌≡◌, ℕ, List, [], ◌∷◌, ◌++◌, fold, Option, Some, None, refl, sym, ap, subst, ◌∙◌, append_assoc}
use Rattle.std.proofs.lemmas.List.{append-nil}
use Rattle.std.proofs.lemmas.List.Sums.{fold-append}
use Rattle.std.proofs.lemmas.List.Elements.{filter-append}
use Rattle.cache_types.specs.declared.seat.Who.{Who}
use Rattle.file_log.specs.declared.item.LogItem.{LogItem}
use Rattle.file_log.specs.Log.{History, own, NoStop, EndsOwn}
use Rattle.file_log.specs.Along.{All}
use Rattle.file_log.specs.State.{State, first, after, state_of}
use Rattle.file_log.specs.Legal.{Legal}
use Rattle.file_log.specs.Told.{Grows, Owns, OwnsToEnd, IsSomeItem}

pub All-append : {S : Type 0} (step : S → LogItem → S) (Rule : S → LogItem → Type 0) (s : S) (xs ys : List LogItem) → All step Rule s xs → All step Rule (fold step s xs) ys → All step Rule s (xs ++ ys)
All-append step Rule s [] ys p q = q
All-append step Rule s (x ∷ xs) ys p q = (p.0, All-append step Rule (step s x) xs ys p.1 q)

pub NoStop-append : (process : ℕ) (xs ys : List LogItem) → NoStop process xs → NoStop process ys → NoStop process (xs ++ ys)
NoStop-append process [] ys p q = q
NoStop-append process (x ∷ xs) ys p q = (p.0, NoStop-append process xs ys p.1 q)

pub own-append : (me : Who) (xs ys : List LogItem) → own me (xs ++ ys) ≡ own me xs ++ own me ys
own-append me xs ys = filter-append _ xs ys

pub nothing_yet : (me : Who) (h : Option History) → Grows h h (Owns me [])
nothing_yet me None = tt
nothing_yet me (Some h) = ([], ap (λ (log : List LogItem). Some (record { start = h.start; log = log })) (sym (append-nil h.log)), record { own_items = refl; legal = tt; goes_on = tt })

owns_then : (me : Who) (h : History) (xs ys n1 n2 : List LogItem) → Owns me xs h n1 → Owns me ys (record { start = h.start; log = h.log ++ n1 }) n2 → Owns me (xs ++ ys) h (n1 ++ n2)
owns_then me h xs ys n1 n2 p q =
    record {
      own_items = own-append me n1 n2 ∙ ap (λ (zs : List LogItem). zs ++ own me n2) p.own_items ∙ ap (λ (zs : List LogItem). xs ++ zs) q.own_items;
      legal = All-append after _ (state_of h) n1 n2 p.legal (subst (λ (s : State). Legal s n2) (fold-append after (first h.start) h.log n1) q.legal);
      goes_on = NoStop-append me.process n1 n2 p.goes_on q.goes_on;
    }

abbrev told_log : History → List LogItem → Option History
told_log h log = Some (record { start = h.start; log = log })

joined : (h : History) (n1 n2 : List LogItem) → told_log h ((h.log ++ n1) ++ n2) ≡ told_log h (h.log ++ (n1 ++ n2))
joined h n1 n2 = ap (told_log h) (append_assoc h.log n1 n2)

-- what is known of one growth after another
pub grows_then : (me : Who) (old mid new : Option History) (xs ys : List LogItem) → Grows old mid (Owns me xs) → Grows mid new (Owns me ys) → Grows old new (Owns me (xs ++ ys))
grows_then me None mid new xs ys p q = tt
grows_then me (Some h) mid new xs ys p q =
    let q' = subst (λ (m : Option History). Grows m new (Owns me ys)) p.1 q in
    (p.0 ++ q'.0, q'.1 ∙ joined h p.0 q'.0, owns_then me h xs ys p.0 q'.0 p.2 q'.2)

-- the last item is still the last
ends_then : (me : Who) (n1 n2 : List LogItem) → EndsOwn me n2 → EndsOwn me (n1 ++ n2)
ends_then me n1 n2 e = (n1 ++ e.0, e.1, ap (λ (log : List LogItem). n1 ++ log) e.2 ∙ sym (append_assoc n1 e.0 (e.1 ∷ [])), e.3)

-- where the later part has items of its own, they stand at the end of the whole
pub grows_to_end : (me : Who) (old mid new : Option History) (xs ys : List LogItem) → IsSomeItem ys → Grows old mid (Owns me xs) → Grows mid new (OwnsToEnd me ys) → Grows old new (OwnsToEnd me (xs ++ ys))
grows_to_end me None mid new xs ys some p q = tt
grows_to_end me (Some h) mid new xs ys some p q =
    let q' = subst (λ (m : Option History). Grows m new (OwnsToEnd me ys)) p.1 q in
    (p.0 ++ q'.0, q'.1 ∙ joined h p.0 q'.0, record { owns = owns_then me h xs ys p.0 q'.0 p.2 q'.2.owns; ends = λ any. ends_then me p.0 q'.0 (q'.2.ends some) })

pub but_the_end : (me : Who) (old new : Option History) (xs : List LogItem) → Grows old new (OwnsToEnd me xs) → Grows old new (Owns me xs)
but_the_end me None new xs p = tt
but_the_end me (Some h) new xs p = (p.0, p.1, p.2.owns)

pub some_last : (xs : List LogItem) (x : LogItem) → IsSomeItem (xs ++ x ∷ [])
some_last [] x = tt
some_last (y ∷ ys) x = tt
