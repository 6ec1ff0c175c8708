-- Tries for a lock that were answered, in a row, that another seat has it.
use Rattle.log_summary.specs.Telling.{counted, streak}
use Rattle.std.proofs.Common.{◌≡◌, inl, inr, ℕ, zero, suc, ◌+◌, ◌≤◌, Bool, true, false, cond, ◌&&◌, List, [], ◌∷◌, ◌++◌, fold, Option, Some, None, refl, sym, ap, ◌∙◌, subst, append_assoc, append-nil, arith}
use Rattle.std.specs.Prelude.{nat_le, replicate}
use Rattle.std.specs.Bool.{Decides}
use Rattle.std.proofs.lemmas.Bool.{false≢true}
use Rattle.std.proofs.lemmas.Bool.Decides.{Decides-eqb, leb_tells}
use Rattle.std.proofs.lemmas.List.Sums.{fold-append}
use Rattle.cache_types.specs.declared.name.Name.{Name}
use Rattle.cache_types.specs.declared.seat.Who.{Who}
use Rattle.file_log.specs.Disk.{Disk}
use Rattle.file_log.specs.Effect.{applied}
use Rattle.file_log.specs.Log.{is_own}
use Rattle.file_log.specs.declared.call.Call.TheVariants as calls
use Rattle.file_log.specs.declared.item.LogItem.{LogItem}
use Rattle.file_log.specs.declared.item.LogItem.TheVariants as items
use Rattle.file_log.specs.declared.reply.Reply.{Reply}
use Rattle.file_log.specs.declared.reply.Reply.TheVariants.{Held}
use Rattle.seat_rules.specs.Kinds.{is_lock_of}
use Rattle.seat_rules.specs.Operations.{is_file, tried, tries}
use Rattle.log_summary.specs.Summary.{is_held_reply, row_after, is_lock_file, is_last_try, is_64th}
use Rattle.log_summary.proofs.Seats.{same_seat_decides}
use Rattle.seat_rules.proofs.Trying.{tries_more, tried_other, IsLast}
use Rattle.log_summary.specs.Telling.{In}
use Rattle.log_summary.proofs.Lists.{and_parts, and_both, any_in, any_from}

-- ---- how many of the last replies are Held

abbrev EndsIn : ℕ → List Reply → Type 0
EndsIn k replies = (earlier : List Reply) × (replies ≡ earlier ++ replicate k Held)

replicate_last : (k : ℕ) → replicate k Held ++ Held ∷ [] ≡ Held ∷ replicate k Held
replicate_last zero = refl
replicate_last (suc k) = ap (λ (l : List Reply). Held ∷ l) (replicate_last k)

one_more : (replies : List Reply) (n : ℕ) (reply : Reply) → ((k : ℕ) → k ≤ n → EndsIn k replies) → (k : ℕ) → k ≤ counted n reply → EndsIn k (replies ++ reply ∷ [])
one_more replies n reply ends zero le = (replies ++ reply ∷ [], sym (append-nil (replies ++ reply ∷ [])))
one_more replies n Held ends (suc k) le =
    let r = ends k (omega (arith, le)) in
    (r.0, ap (λ (l : List Reply). l ++ Held ∷ []) r.1 ∙ append_assoc r.0 (replicate k Held) (Held ∷ []) ∙ ap (λ (l : List Reply). r.0 ++ l) (replicate_last k))
one_more replies n reply ends (suc k) le = absurd (omega (arith, le))

all_more : (before replies : List Reply) (n : ℕ) → ((k : ℕ) → k ≤ n → EndsIn k before) → (k : ℕ) → k ≤ fold counted n replies → EndsIn k (before ++ replies)
all_more before [] n ends k le = subst (EndsIn k) (sym (append-nil before)) (ends k le)
all_more before (reply ∷ replies) n ends k le =
    subst (EndsIn k) (append_assoc before (reply ∷ []) replies) (all_more (before ++ reply ∷ []) replies (counted n reply) (one_more before n reply ends) k le)

none_yet : (k : ℕ) → k ≤ 0 → EndsIn k []
none_yet zero le = ([], refl)
none_yet (suc k) le = absurd (omega (arith, le))

pub streak_ends : (replies : List Reply) (k : ℕ) → k ≤ streak replies → EndsIn k replies
streak_ends replies k le = all_more [] replies 0 none_yet k le

count_held : (k n : ℕ) → n + k ≤ fold counted n (replicate k Held)
count_held zero n = omega arith
count_held (suc k) n = let rest = count_held k (n + 1) in omega (arith, rest)

pub ends_streak : (replies earlier : List Reply) (k : ℕ) → replies ≡ earlier ++ replicate k Held → k ≤ streak replies
ends_streak replies earlier k e =
    let whole : streak replies ≡ fold counted (streak earlier) (replicate k Held) = ap streak e ∙ fold-append counted 0 earlier (replicate k Held) in
    let many = count_held k (streak earlier) in
    omega (arith, whole, many)

-- ---- an item more

row_step : (row : ℕ → ℕ) (who : Who) (f : ℕ) (d : Disk) (x : LogItem) (n : ℕ) → is_own who x ≡ true → row f ≡ n → row_after row d x f ≡ fold counted n (tried who f d x)
row_step row who f d (items.Did by (calls.TryLock slot) reply) n own e = rw own (by_test (is_file f (d.slots by slot)))
  where
    by_test : (b : Bool) → cond b (cond (is_held_reply reply) (row f + 1) 0) (row f) ≡ fold counted n (cond b (reply ∷ []) [])
    by_test true = ap (λ (m : ℕ). cond (is_held_reply reply) (m + 1) 0) e
    by_test false = e
row_step row who f d x n own e = e

-- an item of the seat moves its rows as it moves the streak
pub row_then : (row : ℕ → ℕ) (who : Who) (f : ℕ) (d : Disk) (made : List LogItem) (x : LogItem) → is_own who x ≡ true → row f ≡ streak (tries who f d made) → row_after row (fold applied d made) x f ≡ streak (tries who f d (made ++ x ∷ []))
row_then row who f d made x own e =
    row_step row who f (fold applied d made) x (streak (tries who f d made)) own e
    ∙ sym (fold-append counted 0 (tries who f d made) (tried who f (fold applied d made) x))
    ∙ ap streak (sym (tries_more who f d made x))

-- another's item leaves it
pub row_stays : (who : Who) (f : ℕ) (d : Disk) (made : List LogItem) (x : LogItem) → is_own who x ≡ false → streak (tries who f d made) ≡ streak (tries who f d (made ++ x ∷ []))
row_stays who f d made x other =
    ap streak (sym (append-nil (tries who f d made)) ∙ ap (λ (l : List Reply). tries who f d made ++ l) (sym (tried_other who f (fold applied d made) x other)) ∙ sym (tries_more who f d made x))

-- ---- the 64th

le_decides : (a b : ℕ) → Decides (nat_le a b) (a ≤ b)
le_decides a b = (
  λ e. elim (leb_tells a b) [ inl t ↦ t.1 | inr t ↦ absurd (false≢true (sym t.0 ∙ e)) ],
  λ l. elim (leb_tells a b) [ inl t ↦ t.0 | inr t ↦ let more = t.1 in absurd (omega (arith, l, more)) ],
)

file_decides : (f : ℕ) (o : Option ℕ) → Decides (is_file f o) (o ≡ Some f)
file_decides f None = (λ e. absurd (false≢true e), λ e. absurd cc)
file_decides f (Some g) = (λ e. ap (λ (n : ℕ). Some n) ((Decides-eqb g f).0 e), λ e. (Decides-eqb g f).1 cc)

pub last_is_64th : (who : Who) (root : ℕ) (d : Disk) (made : List LogItem) (x : LogItem) (had : List (Name × ℕ)) (row : ℕ → ℕ) → ((f : ℕ) → row f ≡ streak (tries who f d made)) → ((name : Name) (f : ℕ) → (fold applied d made).names name ≡ Some f → In had (name, f))
    → IsLast who root d made x → is_64th had (fold applied d made) root row x ≡ true
last_is_64th who root d made x had row rows current l =
    subst (λ (y : LogItem). is_64th had (fold applied d made) root row y ≡ true) (sym l.item_is)
    (subst (λ (o : Option ℕ). is_last_try had (fold applied d made) root row o ≡ true) (sym l.has_file)
    (and_both (nat_le 63 (row l.file)) _ ((le_decides 63 (row l.file)).1 many)
    (any_from _ had (l.name, l.file) (current l.name l.file l.named) (and_both (is_lock_of root l.name) _ l.is_lock ((file_decides l.file _).1 l.named)))))
  where
    many : 63 ≤ row l.file
    many = let long = ends_streak (tries who l.file d made) l.earlier 63 l.all_held in let same = rows l.file in omega (arith, long, same)

pub is_64th_last : (who : Who) (root : ℕ) (d : Disk) (made : List LogItem) (x : LogItem) (had : List (Name × ℕ)) (row : ℕ → ℕ) → ((f : ℕ) → row f ≡ streak (tries who f d made)) → is_own who x ≡ true
    → is_64th had (fold applied d made) root row x ≡ true → IsLast who root d made x
is_64th_last who root d made (items.Did by (calls.TryLock slot) Held) had row rows own e = by_file ((fold applied d made).slots by slot) refl e
  where
    me : who ≡ by
    me = (same_seat_decides who by).0 own

    by_file : (o : Option ℕ) → (fold applied d made).slots by slot ≡ o → is_last_try had (fold applied d made) root row o ≡ true → IsLast who root d made (items.Did by (calls.TryLock slot) Held)
    by_file None at e = absurd (false≢true e)
    by_file (Some f) at e =
        let parts = and_parts (nat_le 63 (row f)) (is_lock_file had (fold applied d made) root f) e in
        let lock = any_in (λ (p : Name × ℕ). is_lock_of root p.0 && is_file f ((fold applied d made).names p.0)) had parts.1 in
        let lock_parts = and_parts (is_lock_of root lock.0.0) (is_file f ((fold applied d made).names lock.0.0)) lock.2 in
        let long = (le_decides 63 (row f)).0 parts.0 in
        let same = rows f in
        let ends = streak_ends (tries who f d made) 63 (omega (arith, long, same)) in
        record {
          slot = slot;
          item_is = ap (λ (w : Who). items.Did w (calls.TryLock slot) Held) (sym me);
          file = f;
          has_file = ap (λ (w : Who). (fold applied d made).slots w slot) me ∙ at;
          name = lock.0.0;
          is_lock = lock_parts.0;
          named = (file_decides f _).0 lock_parts.1;
          earlier = ends.0;
          all_held = ends.1;
        }
is_64th_last who root d made x had row rows own e = absurd (false≢true e)
