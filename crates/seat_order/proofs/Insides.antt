-- The operation that a seat is in, when an item more comes.
use Rattle.std.proofs.Common.{◌≡◌, ◌&&◌, ◌⊎◌, inl, inr, Bool, false, List, [], ◌∷◌, ◌++◌, refl, sym, ap, ◌∙◌, subst, append-nil}
use Rattle.std.proofs.lemmas.Bool.{false≢true}
use Rattle.cache_types.specs.declared.request.Request.{Request}
use Rattle.cache_types.specs.declared.seat.Who.{Who}
use Rattle.file_log.specs.declared.item.LogItem.{LogItem}
use Rattle.file_log.specs.declared.item.LogItem.TheVariants as items
use Rattle.file_log.specs.Log.{is_own, own}
use Rattle.file_log.proofs.All.{seat_self}
use Rattle.file_log.proofs.Logs.{own-append}
use Rattle.seat_rules.specs.Operations.{IsInside, GoesOn, is_bound}
use Rattle.seat_rules.proofs.Courses.{goes_front, inside_then, own_other, own_mine, nothing_made}
use Rattle.seat_rules.proofs.Histories.{Ends, last_of}
use Rattle.seat_rules.proofs.Inside.{one_inside}
use Rattle.seat_order.proofs.Orderly.{AreMine}
use Rattle.seat_order.specs.Doing.{IsInOne}
use Rattle.seat_order.specs.Operating.{AreFew, IsInNone, AreFewAfter}

-- an item of a call
abbrev pub IsOfCall : LogItem → Type 0
IsOfCall (items.Did who call reply) = Unit {0}
IsOfCall (items.Byte who slot at value) = Unit {0}
IsOfCall (items.Failed who memory) = Unit {0}
IsOfCall (items.Evict who store driver key) = Unit {0}
IsOfCall x = ⊥

-- at most one
abbrev pub IsOneOfCall : List LogItem → Type 0
IsOneOfCall [] = Unit {0}
IsOneOfCall (x ∷ []) = IsOfCall x
IsOneOfCall news = ⊥

-- it neither begins nor ends an operation
of_call : (x : LogItem) → IsOfCall x → is_bound x ≡ false
of_call (items.Begin who request) is = absurd is
of_call (items.End who answer) is = absurd is
of_call x is = refl

module _ (me : Who) where
  -- before any item it is in none
  pub none_at_first : IsInNone me []
  none_at_first request i = nothing_made i.before (items.Begin me request) i.since i.log_is

  own_then : (since : List LogItem) (x : LogItem) (more : List LogItem) → own me (x ∷ []) ≡ more → own me (since ++ x ∷ []) ≡ own me since ++ more
  own_then since x more e = own-append me since (x ∷ []) ∙ ap (λ (l : List LogItem). own me since ++ l) e

  other_same : (since : List LogItem) (x : LogItem) → is_own me x ≡ false → own me (since ++ x ∷ []) ≡ own me since
  other_same since x other = own_then since x [] (own_other me x other) ∙ append-nil (own me since)

  module _ (log : List LogItem) where
    -- what is known of the operation's items holds of them anywhere
    pub few_in : {AreSo : Request → List LogItem → Type 0} → ((request : Request) (made : List LogItem) → AreSo request made → AreFew request made) → IsInOne me log AreSo → AreFewAfter me log
    few_in few d request i =
        let one = one_inside log me d.request request d.inside i in
        subst (λ (l : List LogItem). AreFew request (own me l)) one.since (subst (λ (r : Request). AreFew r (own me d.inside.since)) one.request (few d.request (own me d.inside.since) d.so))

    pub in_then : {AreSo So : Request → List LogItem → Type 0} → ((request : Request) (made : List LogItem) → AreSo request made → So request made) → IsInOne me log AreSo → IsInOne me log So
    in_then then d = record { request = d.request; inside = d.inside; so = then d.request (own me d.inside.since) d.so }

    -- another's item
    pub other_in : {AreSo : Request → List LogItem → Type 0} (x : LogItem) → is_own me x ≡ false → IsInOne me log AreSo → IsInOne me (log ++ x ∷ []) AreSo
    other_in {AreSo} x other d = record {
      request = d.request;
      inside = inside_then log x me d.request (ap (λ (b : Bool). b && is_bound x) other) d.inside;
      so = subst (AreSo d.request) (sym (other_same d.inside.since x other)) d.so;
    }

    pub few_other : (x : LogItem) → is_own me x ≡ false → AreFewAfter me log → AreFewAfter me (log ++ x ∷ [])
    few_other x other few request i = by_last (last_of log x i.before (items.Begin me request) i.since i.log_is)
      where
        by_last : Ends log x i.before (items.Begin me request) i.since ⊎ ((x ≡ items.Begin me request) × (log ≡ i.before)) → AreFew request (own me i.since)
        by_last (inl r) =
            let j : IsInside log me request = record { before = i.before; since = r.shorter; log_is = r.log_is; goes_on = goes_front me r.shorter x (subst (GoesOn me) r.later_is i.goes_on) } in
            subst (AreFew request) (sym (ap (own me) r.later_is ∙ other_same r.shorter x other)) (few request j)
        by_last (inr same) = absurd (false≢true (sym other ∙ (ap (is_own me) same.0 ∙ seat_self me)))

    -- its own items of a call
    pub news_in : {AreSo So : Request → List LogItem → Type 0} (news : List LogItem) → AreMine me news → IsOneOfCall news → ((request : Request) (made : List LogItem) → AreSo request made → So request (made ++ news)) → IsInOne me log AreSo → IsInOne me (log ++ news) So
    news_in {So = So} [] mine one then d =
        subst (λ (l : List LogItem). IsInOne me l So) (sym (append-nil log)) (in_then (λ request made so. subst (So request) (append-nil made) (then request made so)) d)
    news_in {So = So} (x ∷ []) mine one then d = record {
      request = d.request;
      inside = inside_then log x me d.request (ap (λ (b : Bool). b && is_bound x) mine.0 ∙ of_call x one) d.inside;
      so = subst (So d.request) (sym (own_then d.inside.since x (x ∷ []) (own_mine me x mine.0))) (then d.request (own me d.inside.since) d.so);
    }
    news_in (x ∷ y ∷ news) mine one then d = absurd one
