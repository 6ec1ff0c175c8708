-- A lookup finds what is promised to it, where each layout's part satisfies the laws.
use Rattle.std.proofs.Common.{◌≡◌, ℕ, Bool, true, false, cond, List, [], ◌∷◌, ◌++◌, refl, sym, ap, ◌∙◌, subst, append_assoc}
use Rattle.std.specs.List.{list_any}
use Rattle.std.proofs.lemmas.Bool.{false≢true}
use Rattle.cache_types.specs.declared.answer.Answer.{Answer}
use Rattle.cache_types.specs.declared.answer.Answer.TheVariants as answers
use Rattle.cache_types.specs.declared.meta.Meta.{Meta}
use Rattle.cache_types.specs.declared.request.Request.{Request}
use Rattle.cache_types.specs.declared.request.Request.TheVariants as requests
use Rattle.cache_types.specs.declared.request.RoPlan.{RoPlan}
use Rattle.cache_types.specs.declared.seat.Who.{Who}
use Rattle.cache_types.specs.declared.store.Layout.{Layout}
use Rattle.file_log.specs.Legal.{Legal}
use Rattle.file_log.specs.Log.{History, own, is_own, is_rough, Quiet}
use Rattle.file_log.specs.Operation.{is_fault}
use Rattle.file_log.specs.State.{first, disk_of}
use Rattle.file_log.specs.declared.item.LogItem.{LogItem}
use Rattle.file_log.specs.declared.item.LogItem.TheVariants as items
use Rattle.seat_rules.specs.Answers.{may_end}
use Rattle.seat_rules.specs.Changes.{with_item}
use Rattle.seat_rules.specs.Address.{Address}
use Rattle.seat_rules.specs.Operations.{IsInside}
use Rattle.seat_rules.specs.Places.{AtEach, past}
use Rattle.seat_rules.specs.Promises.{is_well, is_finding, NoEvictOf, IsPromised, IsFound, Found}
use Rattle.seat_rules.proofs.Along.{there, everywhere, all_from}
use Rattle.seat_rules.proofs.Histories.{quiet_then, quiet_front, quiet_rest}
use Rattle.seat_rules.proofs.Inside.{one_inside}
use Rattle.seat_rules.proofs.Puts.{fits_there}
use Rattle.seat_rules.specs.Judged.{IsEarned, EndsWell, KeepsRules, Cooperating}
use Rattle.seat_rules.specs.Part.{Parts, After, IsHeld, miss_at, well_at}
use Rattle.seat_rules.specs.Served.{IsSafe, IsServed, PartRule, Stretch}
use Rattle.seat_rules.proofs.Safe.{safe_front, safe_map, safe_rest, no_evict_more, no_evict_last}

-- ---- what the answer of an operation says is said of the one that the seat is in

abbrev pub Earned : Parts → History → Who → Answer → Request → List LogItem → List LogItem → Type 0
Earned parts h who answer request before since =
    (may_end request answer ≡ true) × IsEarned parts (Quiet h.log) who (record { start = h.start; log = before }) (items.Begin who request ∷ (since ++ items.End who answer ∷ [])) request answer

pub earned_at : (parts : Parts) (h : History) (who : Who) (answer : Answer) (request : Request) → EndsWell parts h who answer → (i : IsInside h.log who request) → Earned parts h who answer request i.before i.since
earned_at parts h who answer request ends i =
    let one = one_inside h.log who ends.request request ends.inside i in
    subst (λ (l : List LogItem). Earned parts h who answer request i.before l) one.since
    (subst (λ (l : List LogItem). Earned parts h who answer request l ends.inside.since) one.before
    (subst (λ (q : Request). Earned parts h who answer q ends.inside.before ends.inside.since) one.request (ends.kind, ends.earned)))

-- ---- no call of a quiet part failed

no_fault_in : (item : LogItem) → is_rough item ≡ false → is_fault item ≡ false
no_fault_in (items.Failed who memory) e = absurd (false≢true (sym e))
no_fault_in item e = refl

no_faults : (who : Who) (log : List LogItem) → Quiet log → list_any is_fault (own who log) ≡ false
no_faults who [] q = refl
no_faults who (x ∷ log) q = by_test (is_own who x) (no_faults who log q.1)
  where
    by_test : (b : Bool) → list_any is_fault (own who log) ≡ false → list_any is_fault (cond b (x ∷ own who log) (own who log)) ≡ false
    by_test true rest = rw (no_fault_in x q.0) rest
    by_test false rest = rest

-- ---- parts of a log, put together otherwise

same_front : (f e : List LogItem) (x : LogItem) (l b m p : List LogItem) → p ≡ e ++ x ∷ l → ((f ++ e) ++ x ∷ []) ++ (l ++ (b ++ m)) ≡ (f ++ (p ++ b)) ++ m
same_front f e x l b m p is = rw is (simp append_assoc)

same_parts : (e : List LogItem) (x : LogItem) (l b m : List LogItem) (y : LogItem) (n p q : List LogItem) → p ≡ e ++ x ∷ l → q ≡ m ++ y ∷ n → p ++ (b ++ q) ≡ e ++ ((x ∷ ((l ++ (b ++ m)) ++ y ∷ [])) ++ n)
same_parts e x l b m y n p q is is' = rw (is, is') (simp append_assoc)

-- ---- a lookup to which something is promised

module _ (parts : Parts) (laws : (l : Layout) → IsServed l (parts l)) where
  -- the address is held at a watched place of a put that ended well
  well_held : (calm : Type 0) (who : Who) (h : History) (made : List LogItem) (at : Address) (meta : Meta) (blob : List ℕ) (limit : ℕ) (answer : Answer) → is_well answer ≡ true
      → IsEarned parts calm who h made (requests.Put at.store at.driver at.key meta blob limit) answer → After (well_at parts at who) (λ e. IsHeld parts e at) who h made
  well_held calm who h made at meta blob limit answers.Stored well earned = record {
    earlier = earned.earlier;
    item = earned.item;
    later = earned.later;
    made_are = earned.made_are;
    mine = earned.mine;
    at_place = earned.at_place;
    so = (blob, (laws at.store.layout).held_given _ _ _ _ _ earned.so.0);
  }
  well_held calm who h made at meta blob limit answers.Kept well earned = earned
  well_held calm who h made at meta blob limit answer well earned = absurd (false≢true well)

  -- an answer that is no finding comes only where the address wasn't held at a watched place, or a call failed
  finds_by : (calm : Type 0) (who : Who) (h : History) (made : List LogItem) (at : Address) (ro : RoPlan) (answer : Answer) → calm → list_any is_fault (own who made) ≡ false → (After (miss_at parts at who) (λ e. IsHeld parts e at → ⊥) who h made → ⊥)
      → may_end (requests.Get at.store at.driver at.key ro) answer ≡ true → IsEarned parts calm who h made (requests.Get at.store at.driver at.key ro) answer → is_finding answer ≡ true
  finds_by calm who h made at ro (answers.Hit blob) quiet fine held kind earned = refl
  finds_by calm who h made at ro answers.Busy quiet fine held kind earned = refl
  finds_by calm who h made at ro answers.NoMemory quiet fine held kind earned = refl
  finds_by calm who h made at ro answers.Miss quiet fine held kind earned = absurd (held (earned quiet))
  finds_by calm who h made at ro answers.FilesFault quiet fine held kind earned = absurd (false≢true (sym fine ∙ earned))
  finds_by calm who h made at ro answer quiet fine held kind earned = absurd (false≢true kind)

  -- what is held at a watched place of one part is held at each of a later part
  not_lost : (at : Address) (first put_part between lookup_part : List LogItem) (by who : Who) → IsSafe (KeepsRules parts) at (past first) (put_part ++ (between ++ lookup_part))
      → After (well_at parts at by) (λ e. IsHeld parts e at) by (past first) put_part → After (miss_at parts at who) (λ e. IsHeld parts e at → ⊥) who (past (first ++ (put_part ++ between))) lookup_part → ⊥
  not_lost at first put_part between lookup_part by who safe w m = m.so (subst (λ (l : List LogItem). IsHeld parts (disk_of (with_item (past l) m.item)) at) same_past lasting)
    where
      xs : List LogItem
      xs = first ++ w.earlier

      ys : List LogItem
      ys = w.later ++ (between ++ m.earlier)

      same_past : (xs ++ w.item ∷ []) ++ ys ≡ (first ++ (put_part ++ between)) ++ m.earlier
      same_past = same_front first w.earlier w.item w.later between m.earlier put_part w.made_are

      parts_are : put_part ++ (between ++ lookup_part) ≡ w.earlier ++ ((w.item ∷ (ys ++ m.item ∷ [])) ++ m.later)
      parts_are = same_parts w.earlier w.item w.later between m.earlier m.item m.later put_part lookup_part w.made_are m.made_are

      part_rule : (h : History) (item : LogItem) → KeepsRules parts h item → PartRule (parts at.store.layout) h item
      part_rule h item keeps = λ me seat. let k = keeps me seat in (k.shared, k.kept at.store.layout)

      stretch_safe : IsSafe (KeepsRules parts) at (past xs) (w.item ∷ (ys ++ m.item ∷ []))
      stretch_safe =
          safe_front (KeepsRules parts) at (past xs) (w.item ∷ (ys ++ m.item ∷ [])) m.later
          (safe_rest (KeepsRules parts) at (past first) w.earlier ((w.item ∷ (ys ++ m.item ∷ [])) ++ m.later) (subst (IsSafe (KeepsRules parts) at (past first)) parts_are safe))

      stretch : Stretch at.store.layout (parts at.store.layout) at.store.root at.driver at.key (past xs) w.item ys m.item
      stretch = record {
        safe = safe_map (KeepsRules parts) (PartRule (parts at.store.layout)) part_rule at (past xs) (w.item ∷ (ys ++ m.item ∷ [])) stretch_safe;
        by = by;
        its = w.mine;
        later = w.later;
        well = w.at_place;
        who = who;
        mine = m.mine;
        further = m.later;
        miss = subst (λ (l : List LogItem). miss_at parts at who (past l) m.item m.later) (sym same_past) m.at_place;
      }

      lasting : IsHeld parts (disk_of (with_item (past ((xs ++ w.item ∷ []) ++ ys)) m.item)) at
      lasting = (laws at.store.layout).lasts at.store.root at.driver at.key (past xs) w.item ys m.item stretch w.so

  lookup_finds : (log xs ys : List LogItem) (who : Who) (answer : Answer) (at : Address) → log ≡ xs ++ items.End who answer ∷ ys → Legal (first []) log → Cooperating parts log → Quiet xs → IsPromised xs who at → is_finding answer ≡ true
  lookup_finds log xs ys who answer at e legal keeps quiet p = finds_by (Quiet xs) who (past earlier) lookup_part at p.ro answer quiet no_fault lost_not said.0 said.1
    where
      begun : LogItem
      begun = items.Begin p.by (requests.Put at.store at.driver at.key p.meta p.blob p.limit)

      ended : LogItem
      ended = items.End p.by p.answer

      looks : LogItem
      looks = items.Begin who (requests.Get at.store at.driver at.key p.ro)

      done : LogItem
      done = items.End who answer

      put_part : List LogItem
      put_part = begun ∷ (p.within ++ ended ∷ [])

      lookup_part : List LogItem
      lookup_part = looks ∷ (p.since ++ done ∷ [])

      -- all before the lookup
      earlier : List LogItem
      earlier = p.first ++ (put_part ++ p.between)

      -- from the put on, without the lookup's End
      since_put : List LogItem
      since_put = p.within ++ ended ∷ (p.between ++ looks ∷ p.since)

      parts_are : (begun ∷ since_put) ++ done ∷ [] ≡ put_part ++ (p.between ++ lookup_part)
      parts_are = simp append_assoc

      xs_parts : xs ≡ earlier ++ looks ∷ p.since
      xs_parts = p.log_is ∙ simp append_assoc

      log_parts : log ≡ p.first ++ ((put_part ++ (p.between ++ lookup_part)) ++ ys)
      log_parts = e ∙ ap (λ (l : List LogItem). l ++ done ∷ ys) p.log_is ∙ simp append_assoc

      -- the lookup is the operation that its seat is in
      inside : IsInside xs who (requests.Get at.store at.driver at.key p.ro)
      inside = record { before = earlier; since = p.since; log_is = xs_parts; goes_on = p.goes_on }

      said : Earned parts (past xs) who answer (requests.Get at.store at.driver at.key p.ro) earlier p.since
      said = earned_at parts (past xs) who answer (requests.Get at.store at.driver at.key p.ro) ((there (KeepsRules parts) xs ys done (subst (AtEach (KeepsRules parts)) e keeps) who refl).earned) inside

      quiet_part : Quiet (begun ∷ since_put)
      quiet_part = quiet_rest p.first (begun ∷ since_put) (subst Quiet p.log_is quiet)

      no_fault : list_any is_fault (own who lookup_part) ≡ false
      no_fault = no_faults who lookup_part (quiet_then (looks ∷ p.since) (done ∷ []) (quiet_rest earlier (looks ∷ p.since) (subst Quiet xs_parts quiet)) (refl, tt))

      from_begin : log ≡ p.first ++ begun ∷ (since_put ++ done ∷ ys)
      from_begin = e ∙ ap (λ (l : List LogItem). l ++ done ∷ ys) p.log_is ∙ append_assoc p.first (begun ∷ since_put) (done ∷ ys)

      safe : IsSafe (KeepsRules parts) at (past p.first) (put_part ++ (p.between ++ lookup_part))
      safe = record {
        driver = (fits_there (first []) p.first (since_put ++ done ∷ ys) begun (subst (Legal (first [])) from_begin legal)).0;
        keeps = all_from (KeepsRules parts) log p.first (put_part ++ (p.between ++ lookup_part)) ys log_parts keeps;
        quiet = quiet_front p.first (begun ∷ since_put) (subst Quiet p.log_is quiet);
        smooth = subst Quiet parts_are (quiet_then (begun ∷ since_put) (done ∷ []) quiet_part (refl, tt));
        none_open = p.none_open;
        none_told = subst (NoEvictOf at) parts_are (no_evict_last at (begun ∷ since_put) done (λ other e. cc) (no_evict_more at begun since_put (λ other e. cc) p.none_told));
      }

      to_end : log ≡ (p.first ++ begun ∷ p.within) ++ ended ∷ ((p.between ++ lookup_part) ++ ys)
      to_end = log_parts ∙ simp append_assoc

      put_there : KeepsRules parts (past (p.first ++ begun ∷ p.within)) ended
      put_there = there (KeepsRules parts) (p.first ++ begun ∷ p.within) ((p.between ++ lookup_part) ++ ys) ended (subst (AtEach (KeepsRules parts)) to_end keeps)

      put_inside : IsInside (p.first ++ begun ∷ p.within) p.by (requests.Put at.store at.driver at.key p.meta p.blob p.limit)
      put_inside = record { before = p.first; since = p.within; log_is = refl; goes_on = p.put_goes_on }

      put_said : After (well_at parts at p.by) (λ e. IsHeld parts e at) p.by (past p.first) put_part
      put_said = well_held (Quiet (p.first ++ begun ∷ p.within)) p.by (past p.first) put_part at p.meta p.blob p.limit p.answer p.is_well
          (earned_at parts (past (p.first ++ begun ∷ p.within)) p.by p.answer (requests.Put at.store at.driver at.key p.meta p.blob p.limit) ((put_there p.by refl).earned) put_inside).1

      lost_not : After (miss_at parts at who) (λ e. IsHeld parts e at → ⊥) who (past earlier) lookup_part → ⊥
      lost_not lost = not_lost at p.first put_part p.between lookup_part p.by who safe put_said lost

  found_there : (log xs ys : List LogItem) (item : LogItem) → log ≡ xs ++ item ∷ ys → Legal (first []) log → Cooperating parts log → IsFound (past xs) item
  found_there log xs ys (items.End who answer) e legal keeps = λ quiet at p. lookup_finds log xs ys who answer at e legal keeps quiet p
  found_there log xs ys item e legal keeps = tt

  -- each lookup of a cooperating log finds what is promised to it
  pub found : (log : List LogItem) → Legal (first []) log → Cooperating parts log → Found log
  found log legal keeps = everywhere IsFound log (λ xs ys item e. found_there log xs ys item e legal keeps)
