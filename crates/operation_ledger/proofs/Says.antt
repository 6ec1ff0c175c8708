-- What answers say, of an operation as it is held.
use Rattle.std.proofs.Common.{◌≡◌, ℕ, Bool, true, false, ◌&&◌, ◌||◌, List, ◌∷◌, Option, Some, None, is_some, is_none, refl, sym, ap, ap₂, ◌∙◌, subst}
use Rattle.std.specs.List.{list_any}
use Rattle.cache_types.specs.declared.answer.Answer.{Answer}
use Rattle.cache_types.specs.declared.answer.Answer.TheVariants as answers
use Rattle.cache_types.specs.declared.name.Name.{Name}
use Rattle.cache_types.specs.declared.request.Request.{Request}
use Rattle.cache_types.specs.declared.request.Request.TheVariants as requests
use Rattle.file_log.specs.Disk.{Disk}
use Rattle.seat_rules.specs.Answers.{may_end}
use Rattle.log_summary.specs.Summary.{Operation, given_for}
use Rattle.rule_checks.specs.Tests.{same_blob, says_true, ends_well}
use Rattle.operation_ledger.specs.declared.given.Lately.{Lately}
use Rattle.operation_ledger.specs.declared.given.Lately.TheVariants.{AsBefore, Gives}
use Rattle.operation_ledger.specs.declared.operation.OpenOperation.{OpenOperation}
use Rattle.operation_ledger.specs.Given.{with_lately}
use Rattle.operation_ledger.specs.Operations.{Holds, GivesNow, IsOperation}
use Rattle.operation_ledger.specs.Saying.{told_of}
use Rattle.operation_ledger.proofs.Learning.{known_already}

-- what is said depends on what was given by tests alone
says_same : (rough : Bool) (some other : List (Option (List ℕ))) (o q : Operation) (request : Request) (answer : Answer) → ((test : Option (List ℕ) → Bool) → list_any test some ≡ list_any test other) → o.failed ≡ q.failed → o.held_off ≡ q.held_off
    → says_true rough some o request answer ≡ says_true rough other q request answer
says_same rough some other o q (requests.Get store driver key ro) (answers.Hit blob) gave failed held_off = gave (same_blob (Some blob))
says_same rough some other o q (requests.Get store driver key ro) answers.Miss gave failed held_off = ap (λ (b : Bool). rough || b) (gave is_none)
says_same rough some other o q (requests.Put store driver key meta blob limit) answers.Stored gave failed held_off = gave (same_blob (Some blob))
says_same rough some other o q (requests.Put store driver key meta blob limit) answers.Kept gave failed held_off = gave is_some
says_same rough some other o q (requests.Put store driver key meta blob limit) (answers.TooLarge n) gave failed held_off = refl
says_same rough some other o q request answers.Busy gave failed held_off = held_off
says_same rough some other o q request answers.FilesFault gave failed held_off = failed
says_same rough some other o q request answer gave failed held_off = refl

-- what was given, with what is given now
pub given_now : (had : List (Name × ℕ)) (d : Disk) (x : OpenOperation) (o : Operation) (lately : Lately) → Holds had d x o → GivesNow d x lately → (test : Option (List ℕ) → Bool) → list_any test (with_lately lately x.gave.items) ≡ list_any test (given_for d o.request ∷ o.gave)
given_now had d x o AsBefore h now test =
    known_already x.gave.items (given_for d x.request) (now h.remembered) test ∙ ap₂ (λ (r : Request) (b : Bool). test (given_for d r) || b) h.request (h.gave test)
given_now had d x o (Gives given) h now test =
    ap₂ (λ (g : Option (List ℕ)) (b : Bool). test g || b) (now ∙ ap (λ (r : Request). given_for d r) h.request) (h.gave test)

-- an End of it
pub says_held : (rough : Bool) (had : List (Name × ℕ)) (d : Disk) (x : OpenOperation) (o : Operation) (lately : Lately) (answer : Answer) → Holds had d x o → GivesNow d x lately
    → says_true rough (with_lately lately x.gave.items) (told_of x) x.request answer ≡ says_true rough (given_for d o.request ∷ o.gave) o o.request answer
says_held rough had d x o lately answer h now =
    says_same rough (with_lately lately x.gave.items) (given_for d o.request ∷ o.gave) (told_of x) o x.request answer (given_now had d x o lately h now) h.failed h.held_off
    ∙ ap (λ (r : Request). says_true rough (given_for d o.request ∷ o.gave) o r answer) h.request

pub ends_not : (rough : Bool) (had : List (Name × ℕ)) (d : Disk) (x : OpenOperation) (o : Operation) (answer : Answer) → may_end x.request answer ≡ false → Holds had d x o → false ≡ ends_well rough d (Some o) answer
ends_not rough had d x o answer e h =
    sym (ap (λ (b : Bool). b && says_true rough (given_for d o.request ∷ o.gave) o o.request answer) (ap (λ (r : Request). may_end r answer) (sym h.request) ∙ e))

pub ends_held : (rough : Bool) (had : List (Name × ℕ)) (d : Disk) (x : OpenOperation) (o : Operation) (lately : Lately) (answer : Answer) (told : Bool) → may_end x.request answer ≡ true → GivesNow d x lately
    → told ≡ says_true rough (with_lately lately x.gave.items) (told_of x) x.request answer → Holds had d x o → told ≡ ends_well rough d (Some o) answer
ends_held rough had d x o lately answer told e now is h =
    is ∙ says_held rough had d x o lately answer h now
    ∙ sym (ap (λ (b : Bool). b && says_true rough (given_for d o.request ∷ o.gave) o o.request answer) (ap (λ (r : Request). may_end r answer) (sym h.request) ∙ e))

-- ---- the operation of a seat

pub inside_is : (had : List (Name × ℕ)) (d : Disk) (x : Option OpenOperation) (y : OpenOperation) (o : Option Operation) → x ≡ Some y → IsOperation had d x o → (q : Operation) × (o ≡ Some q) × Holds had d y q
inside_is had d None y o e h = absurd cc
inside_is had d (Some x) y None e h = absurd h
inside_is had d (Some x) y (Some o) e h = let same : x ≡ y = cc in (o, refl, subst (λ (z : OpenOperation). Holds had d z o) same h)
