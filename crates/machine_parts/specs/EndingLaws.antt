-- A whole machine asks what its slots allow, and a reply moves them.
use Rattle.std.specs.Prelude.{◌≡◌, ◌<◌, ℕ, Bool, true, false, nat_eq, cond}
use Rattle.std.proofs.Common.{refl, sym, ap, ◌∙◌, subst, arith}
use Rattle.std.proofs.lemmas.Bool.{false≢true, eqb-true}
use Rattle.cache_types.specs.declared.answer.Answer.{Answer}
use Rattle.file_log.specs.declared.call.Call.{Call}
use Rattle.file_log.specs.declared.call.Call.TheVariants as calls
use Rattle.file_log.specs.declared.note.Note.TheVariants as notes
use Rattle.file_log.specs.declared.reply.Reply.{Reply}
use Rattle.file_log.specs.declared.reply.Reply.TheVariants as replies
use Rattle.file_log.specs.Exchange.{Answers}
use Rattle.file_log.specs.Seat.{seen_after, IsCalm}
use Rattle.files_api.specs.declared.machine.Step.{Step}
use Rattle.files_api.specs.declared.machine.Step.TheVariants.{Ask}
use Rattle.files_api.specs.Drive.{Allows, Goes, Moves, seen_in}
use Rattle.machine_parts.specs.declared.open.Open.{Open}
use Rattle.machine_parts.specs.declared.part.After.{After}
use Rattle.machine_parts.specs.declared.part.After.TheVariants.{More, Over}
use Rattle.machine_parts.specs.declared.whole.Whole.{Whole}
use Rattle.machine_parts.specs.declared.whole.Whole.TheVariants.{Going, Closing, Spent}
use Rattle.machine_parts.specs.Slots.{open_of, row, has, lowest, count}
use Rattle.machine_parts.specs.Parts.{FitsCall, IsGood, Bears, Leads, Follows}
use Rattle.machine_parts.specs.Ending.{close_at, closing_at, whole_right, whole_asks, whole_asked, whole_of, GoingFed, WholeFed, whole_slots, whole_hurt, whole_left}

-- ---- slots

-- a slot is but one of four
pub by_slot : (P : Bool → Bool → Bool → Bool → Type 0) → P true false false false → P false true false false → P false false true false → P false false false true → P false false false false → (at : ℕ) → P (nat_eq 0 at) (nat_eq 1 at) (nat_eq 2 at) (nat_eq 3 at)
by_slot P zeroth first second third other at = by_zeroth (nat_eq 0 at) refl
  where
    by_third : (t : Bool) → nat_eq 0 at ≡ false → nat_eq 1 at ≡ false → nat_eq 2 at ≡ false → nat_eq 3 at ≡ t → P (nat_eq 0 at) (nat_eq 1 at) (nat_eq 2 at) (nat_eq 3 at)
    by_third true z o s is = subst (λ (k : ℕ). P (nat_eq 0 k) (nat_eq 1 k) (nat_eq 2 k) (nat_eq 3 k)) (eqb-true 3 at is) third
    by_third false z o s is = rw (z, o, s, is) other

    by_second : (t : Bool) → nat_eq 0 at ≡ false → nat_eq 1 at ≡ false → nat_eq 2 at ≡ t → P (nat_eq 0 at) (nat_eq 1 at) (nat_eq 2 at) (nat_eq 3 at)
    by_second true z o is = subst (λ (k : ℕ). P (nat_eq 0 k) (nat_eq 1 k) (nat_eq 2 k) (nat_eq 3 k)) (eqb-true 2 at is) second
    by_second false z o is = by_third (nat_eq 3 at) z o is refl

    by_first : (t : Bool) → nat_eq 0 at ≡ false → nat_eq 1 at ≡ t → P (nat_eq 0 at) (nat_eq 1 at) (nat_eq 2 at) (nat_eq 3 at)
    by_first true z is = subst (λ (k : ℕ). P (nat_eq 0 k) (nat_eq 1 k) (nat_eq 2 k) (nat_eq 3 k)) (eqb-true 1 at is) first
    by_first false z is = by_second (nat_eq 2 at) z is refl

    by_zeroth : (t : Bool) → nat_eq 0 at ≡ t → P (nat_eq 0 at) (nat_eq 1 at) (nat_eq 2 at) (nat_eq 3 at)
    by_zeroth true is = subst (λ (k : ℕ). P (nat_eq 0 k) (nat_eq 1 k) (nat_eq 2 k) (nat_eq 3 k)) (eqb-true 0 at is) zeroth
    by_zeroth false is = by_first (nat_eq 1 at) is refl

pub none_open : (at : ℕ) → has (open_of false false false false) at ≡ false
none_open at = by_slot (λ z o s t. row false false false false z o s t ≡ false) refl refl refl refl refl at

-- ---- closing

closing_allowed : (hurt z f s t : Bool) (answer : Answer) → Allows (has (open_of z f s t)) hurt (close_at (lowest (open_of z f s t)) answer)
closing_allowed hurt z true s t answer = (((omega arith, refl), tt), tt)
closing_allowed hurt z false true t answer = (((omega arith, refl), tt), tt)
closing_allowed hurt z false false true answer = (((omega arith, refl), tt), tt)
closing_allowed hurt true false false false answer = (((omega arith, refl), tt), tt)
closing_allowed hurt false false false false answer = λ at. none_open at

module _ {P : Type 0} (fed : P → Reply → After P Answer → Type 0) (slots : P → Open) (left : P → ℕ) where
  abbrev GoesFrom : (ℕ → Bool) → Bool → ℕ → Step → Reply → Whole P → Type 0
  GoesFrom filled hurt more step reply n = Goes filled hurt more step reply (whole_slots slots n) (whole_hurt n) (whole_left left n)

  closing_goes : (z f s t : Bool) (answer : Answer) (n : Whole P) (reply : Reply) → WholeFed fed slots (closing_at (lowest (open_of z f s t)) (open_of z f s t) answer) reply n
      → GoesFrom (has (open_of z f s t)) true (count (open_of z f s t)) (close_at (lowest (open_of z f s t)) answer) reply n
  closing_goes z true s t answer n replies.Done e = subst (GoesFrom (has (open_of z true s t)) true (count (open_of z true s t)) (Ask (calls.Close 1)) replies.Done) (sym e) (λ fits. record { filled = λ at. by_slot (λ a b c d. row z false s t a b c d ≡ cond b false (row z true s t a b c d)) refl refl refl refl refl at; covers = λ h. refl; less = omega arith })
  closing_goes z false true t answer n replies.Done e = subst (GoesFrom (has (open_of z false true t)) true (count (open_of z false true t)) (Ask (calls.Close 2)) replies.Done) (sym e) (λ fits. record { filled = λ at. by_slot (λ a b c d. row z false false t a b c d ≡ cond c false (row z false true t a b c d)) refl refl refl refl refl at; covers = λ h. refl; less = omega arith })
  closing_goes z false false true answer n replies.Done e = subst (GoesFrom (has (open_of z false false true)) true (count (open_of z false false true)) (Ask (calls.Close 3)) replies.Done) (sym e) (λ fits. record { filled = λ at. by_slot (λ a b c d. row z false false false a b c d ≡ cond d false (row z false false true a b c d)) refl refl refl refl refl at; covers = λ h. refl; less = omega arith })
  closing_goes true false false false answer n replies.Done e = subst (GoesFrom (has (open_of true false false false)) true (count (open_of true false false false)) (Ask (calls.Close 0)) replies.Done) (sym e) (λ fits. record { filled = λ at. by_slot (λ a b c d. row false false false false a b c d ≡ cond a false (row true false false false a b c d)) refl refl refl refl refl at; covers = λ h. refl; less = omega arith })
  closing_goes false false false false answer n reply e = tt
  closing_goes z true s t answer n reply e = λ fits. absurd fits
  closing_goes z false true t answer n reply e = λ fits. absurd fits
  closing_goes z false false true answer n reply e = λ fits. absurd fits
  closing_goes true false false false answer n reply e = λ fits. absurd fits

-- ---- going

refused_filled : (f : ℕ → Bool) (call : Call) (at : ℕ) → (seen_after (seen_in f false) call replies.NoMemory).filled at ≡ f at
refused_filled f (calls.Tell note) at = refl
refused_filled f call at = refl

good_calm : (f : ℕ → Bool) (call : Call) (reply : Reply) → IsGood reply → (seen_after (seen_in f false) call reply).hurt ≡ false
good_calm f (calls.Tell (notes.Begin request)) replies.Done good = refl
good_calm f (calls.Tell (notes.Evict store driver key)) replies.Done good = refl
good_calm f (calls.Tell (notes.End answer)) replies.Done good = refl
good_calm f call replies.Done good = refl
good_calm f call replies.Failed good = absurd good
good_calm f call replies.NoMemory good = absurd good
good_calm f call reply good = refl

calm : (c : Call) → IsCalm false c
calm (calls.Close slot) = tt
calm (calls.Tell note) = tt
calm c = refl

module _ {P : Type 0} (right : P → Type 0) (asks : P → Call) (slots : P → Open) (left : P → ℕ) (fits : (p : P) → right p → FitsCall (slots p) (left p) (asks p)) where
  pub whole_allowed : (m : Whole P) → whole_right right m → Allows (whole_slots slots m) (whole_hurt m) (whole_asks asks m)
  whole_allowed (Going p) r = let f = fits p r in ((f.0, calm (asks p)), f.1)
  whole_allowed (Closing o answer) r = closing_allowed true o.zeroth o.first o.second o.third answer
  whole_allowed Spent r = λ at. refl

module _ {P : Type 0} (right : P → Type 0) (asks : P → Call) (asked : P → P) (fed : P → Reply → After P Answer → Type 0) (slots : P → Open) (left : P → ℕ)
    (still : (p : P) → slots (asked p) ≡ slots p) (bears : (p : P) (reply : Reply) → right p → Answers true (asks p) reply → Bears (slots p) (left p) reply)
    (goes_on : (p : P) (reply : Reply) (r : After P Answer) → right p → fed (asked p) reply r → Follows right slots left (slots p) (left p) (asks p) reply r) where
  abbrev GoesIn : P → Reply → Whole P → Type 0
  GoesIn p reply n = Goes (has (slots p)) false (left p) (Ask (asks p)) reply (whole_slots slots n) (whole_hurt n) (whole_left left n)

  abbrev GoesTo : P → Reply → Whole P → Type 0
  GoesTo p reply n = Moves (has (slots p)) false (left p) (asks p) reply (whole_slots slots n) (whole_hurt n) (whole_left left n)

  good_goes : (p : P) (reply : Reply) (r : After P Answer) → IsGood reply → Leads right slots left (slots p) (left p) (asks p) reply r → GoesTo p reply (whole_of r)
  good_goes p reply (More q) good l = record { filled = l.1.filled; covers = λ h. absurd (false≢true (sym (good_calm (has (slots p)) (asks p) reply good) ∙ h)); less = l.1.less }
  good_goes p reply (Over o answer) good l = record { filled = l.filled; covers = λ h. refl; less = l.less }

  going_goes : (p : P) (reply : Reply) (n : Whole P) → right p → GoingFed fed slots (asked p) reply n → GoesIn p reply n
  going_goes p replies.Failed n r e = subst (GoesIn p replies.Failed) (sym e) (λ fit. record {
    filled = λ at. ap (λ (o : Open). has o at) (still p);
    covers = λ h. refl;
    less = subst (λ (o : Open). count o < left p) (sym (still p)) (bears p replies.Failed r fit);
  })
  going_goes p replies.NoMemory n r e = subst (GoesIn p replies.NoMemory) (sym e) (λ fit. record {
    filled = λ at. ap (λ (o : Open). has o at) (still p) ∙ sym (refused_filled (has (slots p)) (asks p) at);
    covers = λ h. refl;
    less = subst (λ (o : Open). count o < left p) (sym (still p)) (bears p replies.NoMemory r fit);
  })
  going_goes p reply n r e = subst (GoesIn p reply) (sym e.2) (λ fit. good_goes p reply e.0 tt (goes_on p reply e.0 r e.1 fit tt))

  pub whole_goes_on : (m n : Whole P) (reply : Reply) → whole_right right m → WholeFed fed slots (whole_asked asked m) reply n → Goes (whole_slots slots m) (whole_hurt m) (whole_left left m) (whole_asks asks m) reply (whole_slots slots n) (whole_hurt n) (whole_left left n)
  whole_goes_on (Going p) n reply r f = going_goes p reply n r f
  whole_goes_on (Closing o answer) n reply r f = closing_goes fed slots left o.zeroth o.first o.second o.third answer n reply f
  whole_goes_on Spent n reply r f = tt

module _ {P : Type 0} (right : P → Type 0) (asks : P → Call) (asked : P → P) (fed : P → Reply → After P Answer → Type 0) (slots : P → Open) (left : P → ℕ)
    (goes_on : (p : P) (reply : Reply) (r : After P Answer) → right p → fed (asked p) reply r → Follows right slots left (slots p) (left p) (asks p) reply r) where
  same_call : (a b : Call) → Ask a ≡ Ask b → a ≡ b
  same_call a b e = cc

  right_of : (p : P) (reply : Reply) (r : After P Answer) → Leads right slots left (slots p) (left p) (asks p) reply r → whole_right right (whole_of r)
  right_of p reply (More q) l = l.0
  right_of p reply (Over o answer) l = tt

  going_stays : (p : P) (reply : Reply) (n : Whole P) → right p → Answers true (asks p) reply → GoingFed fed slots (asked p) reply n → whole_right right n
  going_stays p replies.Failed n r fit e = subst (whole_right right) (sym e) tt
  going_stays p replies.NoMemory n r fit e = subst (whole_right right) (sym e) tt
  going_stays p reply n r fit e = subst (whole_right right) (sym e.2) (right_of p reply e.0 (goes_on p reply e.0 r e.1 fit tt))

  closing_stays : (z f s t : Bool) (answer : Answer) (n : Whole P) (reply : Reply) → WholeFed fed slots (closing_at (lowest (open_of z f s t)) (open_of z f s t) answer) reply n → whole_right right n
  closing_stays z true s t answer n reply e = subst (whole_right right) (sym e) tt
  closing_stays z false true t answer n reply e = subst (whole_right right) (sym e) tt
  closing_stays z false false true answer n reply e = subst (whole_right right) (sym e) tt
  closing_stays true false false false answer n reply e = subst (whole_right right) (sym e) tt
  closing_stays false false false false answer n reply e = subst (whole_right right) (sym e) tt

  pub whole_stays : (m n : Whole P) (call : Call) (reply : Reply) → whole_right right m → whole_asks asks m ≡ Ask call → Answers true call reply → WholeFed fed slots (whole_asked asked m) reply n → whole_right right n
  whole_stays (Going p) n call reply r e fit f = going_stays p reply n r (subst (λ (c : Call). Answers true c reply) (sym (same_call (asks p) call e)) fit) f
  whole_stays (Closing o answer) n call reply r e fit f = closing_stays o.zeroth o.first o.second o.third answer n reply f
  whole_stays Spent n call reply r e fit f = subst (whole_right right) (sym f) tt
