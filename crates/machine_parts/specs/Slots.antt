-- Which of four slots are open, in what order they are closed.
use Rattle.std.specs.Prelude.{ℕ, ◌+◌, Bool, true, false, nat_eq, cond, Option, Some, None}
use Rattle.machine_parts.specs.declared.open.Open.{Open}

abbrev pub open_of : Bool → Bool → Bool → Bool → Open
open_of zeroth first second third = record { zeroth = zeroth; first = first; second = second; third = third }

-- what the four slots have, by tests of the slot
abbrev pub row : Bool → Bool → Bool → Bool → Bool → Bool → Bool → Bool → Bool
row zeroth first second third is_zeroth is_first is_second is_third = cond is_zeroth zeroth (cond is_first first (cond is_second second (cond is_third third false)))

-- the slot is open
abbrev pub has : Open → ℕ → Bool
has o at = row o.zeroth o.first o.second o.third (nat_eq 0 at) (nat_eq 1 at) (nat_eq 2 at) (nat_eq 3 at)

abbrev pub lowest_of : Bool → Bool → Bool → Bool → Option ℕ
lowest_of true second third zeroth = Some 1
lowest_of false true third zeroth = Some 2
lowest_of false false true zeroth = Some 3
lowest_of false false false true = Some 0
lowest_of false false false false = None

abbrev pub closed_of : Bool → Bool → Bool → Bool → Open
closed_of true second third zeroth = open_of zeroth false second third
closed_of false true third zeroth = open_of zeroth false false third
closed_of false false true zeroth = open_of zeroth false false false
closed_of false false false zeroth = open_of false false false false

-- the slot that is closed first: the lowest, but 0 last
abbrev pub lowest : Open → Option ℕ
lowest o = lowest_of o.first o.second o.third o.zeroth

-- what is open then
abbrev pub closed : Open → Open
closed o = closed_of o.first o.second o.third o.zeroth

abbrev pub one : Bool → ℕ
one b = cond b 1 0

-- so many slots are open
abbrev pub count : Open → ℕ
count o = one o.zeroth + one o.first + one o.second + one o.third

-- the same with another slot filled or empty
abbrev pub opened : Open → ℕ → Bool → Open
opened o slot filled = record {
  zeroth = cond (nat_eq slot 0) filled o.zeroth;
  first = cond (nat_eq slot 1) filled o.first;
  second = cond (nat_eq slot 2) filled o.second;
  third = cond (nat_eq slot 3) filled o.third;
}
