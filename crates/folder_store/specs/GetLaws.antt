-- A lookup asks what its slots allow, and a reply moves them: as its parts do.
use Rattle.file_log.specs.declared.call.Call.{Call}
use Rattle.file_log.specs.declared.reply.Reply.{Reply}
use Rattle.file_log.specs.Exchange.{Answers}
use Rattle.std.specs.Prelude.{◌≡◌, true}
use Rattle.cache_types.specs.declared.limits.TheConstants.{MAX_ITEM}
use Rattle.files_api.specs.declared.machine.Step.TheVariants.{Ask}
use Rattle.files_api.specs.Drive.{Allows, Goes}
use Rattle.machine_parts.specs.declared.part.After.{After}
use Rattle.machine_parts.specs.EndingLaws.{whole_allowed, whole_goes_on, whole_stays}
use Rattle.machine_parts.specs.Judging.{judged_right, judged_slots, judged_left}
use Rattle.machine_parts.specs.JudgingLaws.{judged_still, judged_fits, judged_bears, judged_goes_on}
use Rattle.machine_parts.specs.Parts.{FitsCall, Bears, Follows}
use Rattle.machine_parts.specs.Reading.{reading_right, reading_asks, reading_next, reading_slots, reading_left}
use Rattle.machine_parts.specs.ReadingLaws.{reading_fits, reading_bears, reading_goes_on}
use Rattle.cache_types.specs.declared.answer.Answer.{Answer}
use Rattle.std.proofs.Common.{refl}
use Rattle.folder_store.specs.Gets.{entry_name, one_is_small, JudgesFor, GetPart, FolderGet, part_asks, part_asked, PartFed, part_slots, get_right, get_asks, get_asked, GetFed, get_slots, get_hurt, get_left}

part_fits : (p : GetPart) → judged_right (reading_right 1) p → FitsCall (part_slots p) (judged_left reading_left p) (part_asks p)
part_fits p right = judged_fits (reading_right 1) (reading_asks 1 entry_name) (reading_slots 1) reading_left (reading_fits 1 entry_name one_is_small) p right

part_bears : (p : GetPart) (reply : Reply) → judged_right (reading_right 1) p → Answers true (part_asks p) reply → Bears (part_slots p) (judged_left reading_left p) reply
part_bears p reply right fit = judged_bears (reading_right 1) (reading_asks 1 entry_name) (reading_slots 1) reading_left (reading_bears 1 entry_name one_is_small) p reply right fit

part_goes_on : (p : GetPart) (reply : Reply) (r : After GetPart Answer) → judged_right (reading_right 1) p → PartFed (part_asked p) reply r → Follows (judged_right (reading_right 1)) part_slots (judged_left reading_left) (part_slots p) (judged_left reading_left p) (part_asks p) reply r
part_goes_on p reply r right fed =
    judged_goes_on (reading_right 1) (reading_asks 1 entry_name) (λ m. m) (λ m y a. a ≡ reading_next MAX_ITEM m y) (reading_slots 1) reading_left (reading_goes_on 1 MAX_ITEM entry_name one_is_small) JudgesFor p reply r right fed

pub get_allowed : (m : FolderGet) → get_right m → Allows (get_slots m) (get_hurt m) (get_asks m)
get_allowed m right = whole_allowed (judged_right (reading_right 1)) part_asks part_slots (judged_left reading_left) part_fits m right

pub get_goes_on : (m n : FolderGet) (reply : Reply) → get_right m → GetFed (get_asked m) reply n → Goes (get_slots m) (get_hurt m) (get_left m) (get_asks m) reply (get_slots n) (get_hurt n) (get_left n)
get_goes_on m n reply right fed = whole_goes_on (judged_right (reading_right 1)) part_asks part_asked PartFed part_slots (judged_left reading_left) (λ p. refl) part_bears part_goes_on m n reply right fed

pub get_stays : (m n : FolderGet) (call : Call) (reply : Reply) → get_right m → get_asks m ≡ Ask call → Answers true call reply → GetFed (get_asked m) reply n → get_right n
get_stays m n call reply right e fit fed = whole_stays (judged_right (reading_right 1)) part_asks part_asked PartFed part_slots (judged_left reading_left) part_goes_on m n call reply right e fit fed
