-- What is common to whole operations, from their Begin to their End.
use Rattle.std.proofs.Common.{◌≡◌, ◌↔◌, Bool, true, false, ◌||◌, List, [], ◌∷◌, ◌++◌, Option, Some, None, refl, sym, ◌∙◌}
use Rattle.std.specs.List.{list_any}
use Rattle.std.proofs.lemmas.List.Folds.{list_any-append}
use Rattle.cache_types.specs.declared.answer.Answer.{Answer}
use Rattle.cache_types.specs.declared.answer.Answer.TheVariants as answers
use Rattle.cache_types.specs.declared.request.Request.{Request}
use Rattle.cache_types.specs.declared.seat.Who.{Who}
use Rattle.file_log.specs.declared.item.LogItem.{LogItem}
use Rattle.file_log.specs.declared.item.LogItem.TheVariants.{Begin, End}
use Rattle.file_log.specs.Legal.{Legal}
use Rattle.file_log.specs.Log.{History}
use Rattle.file_log.specs.State.{State, after}
use Rattle.file_log.specs.Told.{Grows}
use Rattle.folder_store.proofs.Items.{any_fault}

-- what follows on what is known of the new items of a history
pub Grows-map : (old new : Option History) (P Q : History → List LogItem → Type 0) → Grows old new P → ((h : History) (news : List LogItem) → P h news → Q h news) → Grows old new Q
Grows-map None new P Q g f = tt
Grows-map (Some h) new P Q g f = (g.0, g.1, f h g.0 g.2)

-- the same where it matters which history that was
pub Grows-from : (old new : Option History) (P Q : History → List LogItem → Type 0) → Grows old new P → ((h : History) (news : List LogItem) → old ≡ Some h → P h news → Q h news) → Grows old new Q
Grows-from None new P Q g f = tt
Grows-from (Some h) new P Q g f = (g.0, g.1, f h g.0 refl g.2)

pub Legal-front : (s : State) (xs ys : List LogItem) → Legal s (xs ++ ys) → Legal s xs
Legal-front s [] ys legal = tt
Legal-front s (x ∷ xs) ys legal = (legal.0, Legal-front (after s x) xs ys legal.1)

-- ---- want of memory is no fault

pub no_fault : (answer : Answer) → answer ≡ answers.NoMemory → answer ≡ answers.FilesFault → ⊥
no_fault answer e f = let clash : answers.NoMemory ≡ answers.FilesFault = sym e ∙ f in absurd cc

pub never_fault : (answer : Answer) (made : List LogItem) → answer ≡ answers.NoMemory → any_fault made ≡ false → (answer ≡ answers.FilesFault) ↔ (any_fault made ≡ true)
never_fault answer made e none = (λ f. absurd (no_fault answer e f), λ some. let clash : false ≡ true = sym none ∙ some in absurd cc)

-- ---- a Begin and an End pass no test of what stands between

pub any_inside : (test : LogItem → Bool) (me : Who) (request : Request) (answer : Answer) (inner : List LogItem) → test (Begin me request) ≡ false → test (End me answer) ≡ false → list_any test (Begin me request ∷ (inner ++ End me answer ∷ [])) ≡ list_any test inner
any_inside test me request answer inner begin end = rw begin (list_any-append test inner (End me answer ∷ []) ∙ rw end (or_none (list_any test inner)))
  where
    or_none : (b : Bool) → (b || false) ≡ b
    or_none true = refl
    or_none false = refl
