-- What a seat has seen in an operation that it began after a history, it has seen after one of the items since.
use Rattle.std.proofs.Common.{◌≡◌, ◌⊎◌, inl, inr, Bool, true, false, cond, List, [], ◌∷◌, ◌++◌, fold, refl, sym, ap, ◌∙◌, subst}
use Rattle.cache_types.specs.declared.request.Request.{Request}
use Rattle.cache_types.specs.declared.seat.Who.{Who}
use Rattle.file_log.specs.declared.item.LogItem.{LogItem}
use Rattle.file_log.specs.declared.item.LogItem.TheVariants as items
use Rattle.file_log.specs.Disk.{Disk}
use Rattle.file_log.specs.Effect.{applied}
use Rattle.file_log.specs.Log.{History, with_items, is_own, own}
use Rattle.file_log.specs.Seat.{course_of}
use Rattle.file_log.specs.State.{disk_of}
use Rattle.seat_rules.specs.Operations.{AfterOne, GoesOn}
use Rattle.seat_rules.proofs.Histories.{disk_further}
use Rattle.folder_changes.specs.Course.{HasSeen}
use Rattle.folder_changes.proofs.Earning.{idle_may_begin}

-- two ways in which a log falls apart
record Within (xs ys before rest : List LogItem) : Type 0 where
  part : List LogItem
  before_is : before ≡ xs ++ part
  ys_is : ys ≡ part ++ rest

record Beyond (xs ys before : List LogItem) (x : LogItem) (rest : List LogItem) : Type 0 where
  part : List LogItem
  xs_is : xs ≡ before ++ x ∷ part
  rest_is : rest ≡ part ++ ys

apart_at : (xs ys before : List LogItem) (x : LogItem) (rest : List LogItem) → xs ++ ys ≡ before ++ x ∷ rest → Within xs ys before (x ∷ rest) ⊎ Beyond xs ys before x rest
apart_at [] ys before x rest e = inl (record { part = before; before_is = refl; ys_is = e })
apart_at (z ∷ xs) ys [] x rest e =
    let same : z ≡ x = cc in
    let more : xs ++ ys ≡ rest = cc in
    inr (record { part = xs; xs_is = ap (λ (y : LogItem). y ∷ xs) same; rest_is = sym more })
apart_at (z ∷ xs) ys (y ∷ before) x rest e =
    let same : z ≡ y = cc in
    let more : xs ++ ys ≡ before ++ x ∷ rest = cc in
    elim (apart_at xs ys before x rest more) [
      | inl w ↦ inl (record { part = w.part; before_is = ap (λ (a : LogItem). a ∷ before) (sym same) ∙ ap (λ (l : List LogItem). z ∷ l) w.before_is; ys_is = w.ys_is })
      | inr b ↦ inr (record { part = b.part; xs_is = ap (λ (a : LogItem). a ∷ xs) same ∙ ap (λ (l : List LogItem). y ∷ l) b.xs_is; rest_is = b.rest_is })
    ]

goes_front : (me : Who) (xs ys : List LogItem) → GoesOn me (xs ++ ys) → GoesOn me xs
goes_front me [] ys g = tt
goes_front me (x ∷ xs) ys g = (g.0, goes_front me xs ys g.1)

later_too : (me : Who) (P : Disk → Type 0) (d : Disk) (xs ys : List LogItem) → AfterOne me P (fold applied d xs) ys → AfterOne me P d (xs ++ ys)
later_too me P d [] ys a = a
later_too me P d (x ∷ xs) ys a = inr (later_too me P (applied d x) xs ys a)

pub before_too : (me : Who) (P : Disk → Type 0) (d : Disk) (xs ys : List LogItem) → AfterOne me P d xs → AfterOne me P d (xs ++ ys)
before_too me P d [] ys a = absurd a
before_too me P d (x ∷ xs) ys (inl now) = inl now
before_too me P d (x ∷ xs) ys (inr later) = inr (before_too me P (applied d x) xs ys later)

pub seen_since : (h : History) (me : Who) (request : Request) (P : Disk → Type 0) (news : List LogItem) → (course_of me h.log).inside ≡ false → HasSeen (with_items h news) me request P → AfterOne me P (disk_of h) news
seen_since h me request P news idle s = elim (apart_at h.log news s.inside.before (items.Begin me request) s.inside.since s.inside.log_is) [
  | inl w ↦
      let here = subst (λ (l : List LogItem). AfterOne me P (disk_of (record { start = h.start; log = l })) (items.Begin me request ∷ s.inside.since)) w.before_is s.seen in
      let there = later_too me P (disk_of h) w.part (items.Begin me request ∷ s.inside.since) (subst (λ (d : Disk). AfterOne me P d (items.Begin me request ∷ s.inside.since)) (disk_further h w.part) here) in
      subst (AfterOne me P (disk_of h)) (sym w.ys_is) there
  | inr b ↦
      absurd (idle_may_begin h me request idle request (record { before = s.inside.before; since = b.part; log_is = b.xs_is; goes_on = goes_front me b.part news (subst (GoesOn me) b.rest_is s.inside.goes_on) }))
]

-- ---- where an own item stands

pub record StandsIn (news : List LogItem) (x : LogItem) : Type 0 where
  pub before : List LogItem
  pub later : List LogItem
  pub news_are : news ≡ before ++ x ∷ later

stands_on : (news : List LogItem) (y x : LogItem) → StandsIn news x → StandsIn (y ∷ news) x
stands_on news y x s = record { before = y ∷ s.before; later = s.later; news_are = ap (λ (l : List LogItem). y ∷ l) s.news_are }

pub own_stands : (me : Who) (news before later : List LogItem) (x : LogItem) → own me news ≡ before ++ x ∷ later → StandsIn news x
own_stands me [] [] later x e = absurd cc
own_stands me [] (z ∷ before) later x e = absurd cc
own_stands me (y ∷ news) before later x e = by_test (is_own me y) before e (λ before' e'. stands_on news y x (own_stands me news before' later x e'))
  where
    by_test : (b : Bool) (before : List LogItem) → cond b (y ∷ own me news) (own me news) ≡ before ++ x ∷ later → ((before' : List LogItem) → own me news ≡ before' ++ x ∷ later → StandsIn (y ∷ news) x) → StandsIn (y ∷ news) x
    by_test true [] e again = let same : y ≡ x = cc in record { before = []; later = news; news_are = ap (λ (a : LogItem). a ∷ news) same }
    by_test true (z ∷ before) e again = let more : own me news ≡ before ++ x ∷ later = cc in again before more
    by_test false before e again = again before e
