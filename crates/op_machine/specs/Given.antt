-- An operation that makes no call.
use Rattle.std.specs.Prelude.{◌≡◌, false, Option, Some, None}
use Rattle.std.proofs.Common.{refl}
use Rattle.cache_types.specs.declared.answer.Answer.{Answer}
use Rattle.cache_types.specs.declared.answer.Answer.TheVariants.{NoMemory}
use Rattle.file_log.specs.declared.reply.Reply.{Reply}
use Rattle.files_api.specs.declared.machine.Step.{Step}
use Rattle.files_api.specs.declared.machine.Step.TheVariants.{Done}
use Rattle.files_api.specs.Drive.{Allows, Goes}
use Rattle.op_machine.specs.declared.given.Given.{Given}

-- its answer is given once
abbrev pub given_step : Option Answer → Step
given_step None = Done NoMemory
given_step (Some answer) = Done answer

abbrev pub given_asks : Given → Step
given_asks m = given_step m.answer

abbrev pub given_asked : Given → Given
given_asked m = record m { answer = None }

-- it makes no call, so that no reply tells it anything
abbrev pub GivenFed : Given → Reply → Given → Type 0
GivenFed m reply n = n ≡ m

abbrev Allowed : Option Answer → Type 0
Allowed answer = Allows (λ at. false) false (given_step answer)

allowed_then : (answer : Option Answer) → Allowed answer
allowed_then None = λ at. refl
allowed_then (Some answer) = λ at. refl

pub given_allowed : (m : Given) → Allows (λ at. false) false (given_asks m)
given_allowed m = allowed_then m.answer

goes_then : (answer : Option Answer) (reply : Reply) → Goes (λ at. false) false 0 (given_step answer) reply (λ at. false) false 0
goes_then None reply = tt
goes_then (Some answer) reply = tt

pub given_goes_on : (m n : Given) (reply : Reply) → GivenFed (given_asked m) reply n → Goes (λ at. false) false 0 (given_asks m) reply (λ at. false) false 0
given_goes_on m n reply fed = goes_then m.answer reply
