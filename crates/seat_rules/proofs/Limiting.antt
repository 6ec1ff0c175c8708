-- A put that stored its blob left its store within its limit.
use Rattle.std.proofs.Common.{◌≡◌, List, ◌∷◌, ◌++◌, refl, subst}
use Rattle.cache_types.specs.declared.answer.Answer.TheVariants as answers
use Rattle.cache_types.specs.declared.request.Request.TheVariants as requests
use Rattle.file_log.specs.declared.item.LogItem.{LogItem}
use Rattle.file_log.specs.declared.item.LogItem.TheVariants as items
use Rattle.seat_rules.specs.Judged.{KeepsRules, Cooperating, IsWithinLimit, WithinLimit}
use Rattle.seat_rules.specs.Part.{Parts}
use Rattle.seat_rules.specs.Places.{AtEach, past}
use Rattle.seat_rules.proofs.Along.{there, everywhere}
use Rattle.seat_rules.proofs.Finding.{earned_at}

within_there : (parts : Parts) (log xs ys : List LogItem) (item : LogItem) → log ≡ xs ++ item ∷ ys → Cooperating parts log → IsWithinLimit parts (past xs) item
within_there parts log xs ys (items.End who answers.Stored) e keeps = λ at meta blob limit i.
    let conform = there (KeepsRules parts) xs ys (items.End who answers.Stored) (subst (AtEach (KeepsRules parts)) e keeps) who refl in
    let said = (earned_at parts (past xs) who answers.Stored (requests.Put at.store at.driver at.key meta blob limit) conform.earned i).1 in
    record { earlier = said.earlier; item = said.item; later = said.later; made_are = said.made_are; mine = said.mine; at_place = said.at_place; so = said.so.1 }
within_there parts log xs ys item e keeps = tt

-- each put of a cooperating log does
pub within_limit : (parts : Parts) (log : List LogItem) → Cooperating parts log → WithinLimit parts log
within_limit parts log keeps = everywhere (IsWithinLimit parts) log (λ xs ys item e. within_there parts log xs ys item e keeps)
