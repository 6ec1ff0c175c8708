-- What the words ask for, by their reading.
use Rattle.std.proofs.Common.{◌≡◌, inl, inr, ℕ, true, false, if◌then◌else◌, List, Option, Some, None, IsSomeAnd, sym, ap, subst, ◌∙◌}
use Rattle.cmd_words.specs.declared.command.Command.{Command}
use Rattle.cmd_words.specs.Reading.{reading_of}
use Rattle.report_text.specs.declared.status.Status.{Status}
use Rattle.report_text.specs.declared.status.Status.TheVariants as statuses
use Rattle.cache_main.specs.Top.{RefusesExactly}
use Rattle.cache_main.specs.Words.{is_served, served_of, asked, HasNoReading}
use Rattle.cache_main.proofs.Exact.{refusal, success, same_err, ok_or_err, never}

pub asked_is : (words : List (List ℕ)) (command : Command) → reading_of words ≡ Some command → is_served command.word ≡ true → asked words ≡ Some command
unfolding asked
asked_is words command reads serves =
    let choice : served_of (Some command) ≡ Some command = ap (λ (b : _). if b then Some command else None) serves in
    ap served_of reads ∙ choice

pub not_served : (words : List (List ℕ)) (command : Command) → reading_of words ≡ Some command → is_served command.word ≡ false → asked words ≡ None
unfolding asked
not_served words command reads serves =
    let choice : served_of (Some command) ≡ None = ap (λ (b : _). if b then Some command else None) serves in
    ap served_of reads ∙ choice

pub not_read : (words : List (List ℕ)) → reading_of words ≡ None → asked words ≡ None
unfolding asked
not_read words reads = ap served_of reads

-- words that ask for a command have a reading
pub has_reading : (words : List (List ℕ)) (command : Command) → asked words ≡ Some command → HasNoReading (asked words) → ⊥
has_reading words command is none = let clash : Some command ≡ None = sym is ∙ none in cc

-- so that they aren't refused
pub not_usage : {T : Type 0} (x : T) (words : List (List ℕ)) (command : Command) → asked words ≡ Some command → RefusesExactly (success x) statuses.Usage (HasNoReading (asked words))
not_usage {T = T} x words command is = never (success x) (refusal T statuses.Usage) (refusal T statuses.NoMemory) (ok_or_err x statuses.Usage) (has_reading words command is)

-- what holds of a command holds of the one that is asked for
pub for_asked : (asked : Option Command) (command : Command) (P : Command → Type 0) → asked ≡ Some command → P command → IsSomeAnd asked P
for_asked asked command P is holds = subst (λ (o : Option Command). IsSomeAnd o P) (sym is) holds

pub of_asked : (asked : Option Command) (command : Command) (P : Command → Type 0) → asked ≡ Some command → IsSomeAnd asked P → P command
of_asked asked command P is holds = subst (λ (o : Option Command). IsSomeAnd o P) is holds

-- a refusal of the command that is asked for, where the first part of its cause holds
pub refuses_asked : (T U : Type 0) (status answer : Status) (asked : Option Command) (command : Command) (N P : Command → Type 0) → asked ≡ Some command → N command → RefusesExactly (refusal T status) answer (P command) → RefusesExactly (refusal U status) answer (IsSomeAnd asked (λ c. N c × P c))
refuses_asked T U status answer asked command N P is needs r = record {
  only = λ e. for_asked asked command (λ c. N c × P c) is (needs, r.only (ap (refusal T) (same_err U status answer e)));
  always = λ p. elim (r.always (of_asked asked command (λ c. N c × P c) is p).1) [ inl e ↦ inl (ap (refusal U) (same_err T status answer e)) | inr e ↦ inr (ap (refusal U) (same_err T status statuses.NoMemory e)) ];
}

-- and none after the step was not refused
pub never_asked : {T U : Type 0} (x : T) (y : U) (answer : Status) (asked : Option Command) (command : Command) (N P : Command → Type 0) → asked ≡ Some command → RefusesExactly (success x) answer (P command) → RefusesExactly (success y) answer (IsSomeAnd asked (λ c. N c × P c))
never_asked {U = U} x y answer asked command N P is r =
    never (success y) (refusal U answer) (refusal U statuses.NoMemory) (ok_or_err y answer) (λ p. elim (r.always (of_asked asked command (λ c. N c × P c) is p).1) [ inl e ↦ ok_or_err x answer e | inr e ↦ ok_or_err x statuses.NoMemory e ])
