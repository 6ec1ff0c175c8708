-- A part whose result is judged asks what its part asks, and is moved as its part.
use Rattle.std.specs.Prelude.{◌≡◌, ℕ, true}
use Rattle.std.proofs.Common.{sym, subst}
use Rattle.file_log.specs.declared.call.Call.{Call}
use Rattle.file_log.specs.declared.reply.Reply.{Reply}
use Rattle.file_log.specs.Exchange.{Answers}
use Rattle.machine_parts.specs.declared.judged.Judged.{Judged}
use Rattle.machine_parts.specs.declared.open.Open.{Open}
use Rattle.machine_parts.specs.declared.part.After.{After}
use Rattle.machine_parts.specs.declared.part.After.TheVariants.{More, Over}
use Rattle.machine_parts.specs.Parts.{FitsCall, Bears, Leads, Follows}
use Rattle.machine_parts.specs.Judging.{judged_right, judged_asks, judged_asked, judged_slots, judged_left, JudgedTo, JudgedFed}

pub judged_still : {P J : Type 0} (asked : P → P) (slots : P → Open) (still : (p : P) → slots (asked p) ≡ slots p) (m : Judged P J) → judged_slots slots (judged_asked asked m) ≡ judged_slots slots m
judged_still asked slots still m = still m.part

pub judged_fits : {P J : Type 0} (right : P → Type 0) (asks : P → Call) (slots : P → Open) (left : P → ℕ) (fits : (p : P) → right p → FitsCall (slots p) (left p) (asks p)) (m : Judged P J) → judged_right right m → FitsCall (judged_slots slots m) (judged_left left m) (judged_asks asks m)
judged_fits right asks slots left fits m r = fits m.part r

pub judged_bears : {P J : Type 0} (right : P → Type 0) (asks : P → Call) (slots : P → Open) (left : P → ℕ) (bears : (p : P) (reply : Reply) → right p → Answers true (asks p) reply → Bears (slots p) (left p) reply)
    (m : Judged P J) (reply : Reply) → judged_right right m → Answers true (judged_asks asks m) reply → Bears (judged_slots slots m) (judged_left left m) reply
judged_bears right asks slots left bears m reply r fit = bears m.part reply r fit

module _ {P J X Y : Type 0} (right : P → Type 0) (asks : P → Call) (asked : P → P) (fed : P → Reply → After P X → Type 0) (slots : P → Open) (left : P → ℕ)
    (goes_on : (p : P) (reply : Reply) (r : After P X) → right p → fed (asked p) reply r → Follows right slots left (slots p) (left p) (asks p) reply r) (judges : J → X → Y → Type 0) where
  abbrev LeadsTo : P → Reply → After (Judged P J) Y → Type 0
  LeadsTo p reply r = Leads (judged_right right) (judged_slots slots) (judged_left left) (slots p) (left p) (asks p) reply r

  leads_to : (p : P) (judge : J) (reply : Reply) (s : After P X) (r : After (Judged P J) Y) → JudgedTo judges judge s r → Leads right slots left (slots p) (left p) (asks p) reply s → LeadsTo p reply r
  leads_to p judge reply (More q) r e l = subst (LeadsTo p reply) (sym e) l
  leads_to p judge reply (Over o x) r e l = subst (LeadsTo p reply) (sym e.2) l

  pub judged_goes_on : (m : Judged P J) (reply : Reply) (r : After (Judged P J) Y) → judged_right right m → JudgedFed fed judges (judged_asked asked m) reply r
      → Follows (judged_right right) (judged_slots slots) (judged_left left) (judged_slots slots m) (judged_left left m) (judged_asks asks m) reply r
  judged_goes_on m reply r right' f = λ fit good. leads_to m.part m.judge reply f.0 r f.2 (goes_on m.part reply f.0 right' f.1 fit good)
