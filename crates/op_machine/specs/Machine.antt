-- The machine of any request, by its kind.
use Rattle.std.specs.Prelude.{◌≡◌, ℕ, Bool, true, false}
use Rattle.file_log.specs.declared.call.Call.{Call}
use Rattle.file_log.specs.declared.reply.Reply.{Reply}
use Rattle.file_log.specs.Exchange.{Answers}
use Rattle.files_api.specs.declared.machine.Step.{Step}
use Rattle.files_api.specs.declared.machine.Step.TheVariants.{Ask}
use Rattle.files_api.specs.Drive.{Allows, Goes}
use Rattle.folder_store.specs.GetLaws.{get_allowed, get_goes_on, get_stays}
use Rattle.folder_store.specs.Gets.{get_right, get_asks, get_asked, GetFed, get_slots, get_hurt, get_left}
use Rattle.folder_store.specs.PutLaws.{put_allowed, put_goes_on}
use Rattle.folder_store.specs.PutPhases.{asks_put, asked_put, FedPut, put_slots_in, put_hurt_in, put_left_in}
use Rattle.op_machine.specs.declared.op.Op.{Op}
use Rattle.op_machine.specs.declared.op.Op.TheVariants.{Get, Put, Refuse}
use Rattle.op_machine.specs.Given.{given_asks, given_asked, GivenFed, given_allowed, given_goes_on}

-- what holds of it from its making on
abbrev pub right : Op → Type 0
right (Get m) = get_right m
right (Put m) = Unit {0}
right (Refuse m) = Unit {0}

-- what it wants next
abbrev pub asks : Op → Step
asks (Get m) = get_asks m
asks (Put m) = asks_put m
asks (Refuse m) = given_asks m

-- the machine after that
abbrev pub asked : Op → Op
asked (Get m) = Get (get_asked m)
asked (Put m) = Put (asked_put m)
asked (Refuse m) = Refuse (given_asked m)

-- what it may be after a reply: of the same kind
abbrev pub Fed : Op → Reply → Op → Type 0
Fed (Get m) reply (Get n) = GetFed m reply n
Fed (Put m) reply (Put n) = FedPut m reply n
Fed (Refuse m) reply (Refuse n) = GivenFed m reply n
Fed m reply n = ⊥

-- the slots that it has filled
abbrev pub slots : Op → ℕ → Bool
slots (Get m) at = get_slots m at
slots (Put m) at = put_slots_in m.phase at
slots (Refuse m) at = false

-- a call of its may have failed
abbrev pub hurt : Op → Bool
hurt (Get m) = get_hurt m
hurt (Put m) = put_hurt_in m.phase
hurt (Refuse m) = false

-- so many calls are left at most
abbrev pub left : Op → ℕ
left (Get m) = get_left m
left (Put m) = put_left_in m.phase
left (Refuse m) = 0

-- ---- it is a machine

pub allowed : (m : Op) → right m → Allows (slots m) (hurt m) (asks m)
allowed (Get m) r = get_allowed m r
allowed (Put m) r = put_allowed m
allowed (Refuse m) r = given_allowed m

pub goes_on : (m n : Op) (reply : Reply) → right m → Fed (asked m) reply n → Goes (slots m) (hurt m) (left m) (asks m) reply (slots n) (hurt n) (left n)
goes_on (Get m) (Get n) reply r fed = get_goes_on m n reply r fed
goes_on (Put m) (Put n) reply r fed = put_goes_on m n reply fed
goes_on (Refuse m) (Refuse n) reply r fed = given_goes_on m n reply fed
goes_on m n reply r fed = absurd fed

pub stays : (m n : Op) (call : Call) (reply : Reply) → right m → asks m ≡ Ask call → Answers true call reply → Fed (asked m) reply n → right n
stays (Get m) (Get n) call reply r e fits fed = get_stays m n call reply r e fits fed
stays (Put m) (Put n) call reply r e fits fed = tt
stays (Refuse m) (Refuse n) call reply r e fits fed = tt
stays m n call reply r e fits fed = absurd fed
