-- A rule that is stronger than the rules among seats, and says more of a seat's own items alone: a whole operation is not the first to break it.
use Rattle.std.proofs.Common.{◌≡◌, Bool, true, false, List, [], ◌∷◌, ◌++◌, refl, ◌∙◌}
use Rattle.std.proofs.lemmas.List.{append-nil}
use Rattle.cache_types.specs.declared.answer.Answer.{Answer}
use Rattle.cache_types.specs.declared.request.Request.{Request}
use Rattle.cache_types.specs.declared.seat.Who.{Who}
use Rattle.file_log.specs.declared.call.Call.{Call}
use Rattle.file_log.specs.declared.item.LogItem.{LogItem}
use Rattle.file_log.specs.declared.item.LogItem.TheVariants.{Begin, End}
use Rattle.file_log.specs.declared.reply.Reply.{Reply}
use Rattle.file_log.specs.Along.{All, Keeps}
use Rattle.file_log.specs.Exchange.{Exchange}
use Rattle.file_log.specs.Legal.{Legal}
use Rattle.file_log.specs.Log.{History, is_own, own, NoStop}
use Rattle.file_log.specs.State.{state_of}
use Rattle.files_api.specs.declared.machine.Step.{Step}
use Rattle.files_api.specs.declared.machine.Step.TheVariants.{Done}
use Rattle.files_api.specs.Drive.{Runs, items_of_all, IsEndOf}
use Rattle.files_api.proofs.Weave.{Inductive, Outer, weave_operation}
use Rattle.seat_rules.specs.Changes.{with_item}
use Rattle.layout_rules.specs.Rules.{KeepsRules}
use Rattle.folder_store.specs.Keeping.{OthersKeepRules}
use Rattle.folder_store.proofs.Keeping.{CanFollow, follow, IsOut, out_other, out_ended, IsIn, begin_rules, begun}

-- the rules among seats, and more
abbrev pub Stronger : (History → LogItem → Type 0) → History → LogItem → Type 0
Stronger More h x = KeepsRules h x × More h x

-- ---- what is kept of both

module _ (me : Who) (More : History → LogItem → Type 0) (free : (h : History) (x : LogItem) → is_own me x ≡ false → More h x) where
  both : (h : History) (x : LogItem) → (is_own me x ≡ true → Stronger More h x) → (is_own me x ≡ false → KeepsRules h x) → Stronger More h x
  both h x own' other' = by_test (is_own me x) refl
    where
      by_test : (b : Bool) → is_own me x ≡ b → Stronger More h x
      by_test true e = own' e
      by_test false e = (other' e, free h x e)

  pub keeps_rules : (h : History) (news : List LogItem) → Keeps with_item (Stronger More) me h news → Keeps with_item KeepsRules me h news
  keeps_rules h [] k = tt
  keeps_rules h (x ∷ news) k = (λ own'. (k.0 own').0, λ rules. keeps_rules (with_item h x) news (k.1 (both h x k.0 (λ other. rules))))

  pub all_more : (h : History) (news : List LogItem) → Keeps with_item (Stronger More) me h news → OthersKeepRules me h news → All with_item More h news
  all_more h [] k others = tt
  all_more h (x ∷ news) k others = let rule = both h x k.0 others.0 in (rule.1, all_more (with_item h x) news (k.1 rule) others.1)

-- ---- a whole operation

module _ {M : Type 0} {asks : M → Step} {asked : M → M} {fed : M → Reply → M → Type 0} {me : Who} {Between : M → History → Type 0} {During : M → Call → Reply → List LogItem → History → Type 0} (ind : Inductive asks asked fed me with_item CanFollow KeepsRules Between During)
    (More : History → LogItem → Type 0) (first : M) (request : Request) (answer : Answer) where
  -- an operation's own items keep the stronger rule, at its Begin, along its calls and at its End
  pub record IsStronger : Type 0 where
    pub begins : (h : History) → More h (Begin me request)
    pub starts : (h : History) → IsIn me request h → Between first h
    pub calls : (m : M) (call : Call) (reply : Reply) (x : LogItem) (made : List LogItem) (h : History) → During m call reply (x ∷ made) h → CanFollow h x → More h x
    pub is_in : (m : M) (h : History) → Between m h → IsIn me request h
    pub ends : (m : M) (given : Answer) (h : History) → Between m h → asks m ≡ Done given → IsEndOf given answer → Stronger More h (End me answer)

  stronger : IsStronger → Inductive asks asked fed me with_item CanFollow (Stronger More) Between During
  stronger is = record {
    enters = λ m call reply made h b e a makes. ind.enters m call reply made h b e a makes;
    steps = λ m call reply x made h d legal. let g = ind.steps m call reply x made h d legal in ((g.0, is.calls m call reply x made h d legal), g.1);
    others = λ m call reply made x h d other goes legal rules. ind.others m call reply made x h d other goes legal rules.0;
    between = λ m x h b other goes legal rules. ind.between m x h b other goes legal rules.0;
    leaves = λ m n call reply h d f. ind.leaves m n call reply h d f;
  }

  outer : IsStronger → Outer asks me with_item CanFollow (Stronger More) Between (IsOut me) first request answer
  outer is = record {
    begins = λ h out legal. ((begin_rules me request h out, is.begins h), is.starts (with_item h (Begin me request)) (begun me request h out legal));
    ends = λ m given h b e end legal. let rules = is.ends m given h b e end in (rules, out_ended me h answer (is.is_in m h b).order legal rules.0);
    outside = λ x h out other goes legal rules. out_other me h x out other legal rules.0;
  }

  pub keeps_stronger : IsStronger → (last : M) (xs : List Exchange) (given : Answer) (h : History) (news : List LogItem) → Runs asks asked fed me first xs given last → IsEndOf given answer
      → own me news ≡ Begin me request ∷ (items_of_all xs ++ End me answer ∷ []) → Legal (state_of h) news → NoStop me.process news → IsOut me h → Keeps with_item (Stronger More) me h news
  keeps_stronger is last xs given h news runs end e legal goes out =
      (weave_operation asks asked fed me with_item CanFollow (Stronger More) Between During (stronger is) (IsOut me) first request answer (outer is) news h [] xs given last out runs end (append-nil (own me news) ∙ e) (follow h news legal) goes).0
