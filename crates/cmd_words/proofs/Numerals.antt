-- What std parses of digits is the number that they spell.
use Rattle.std.proofs.Common.{◌≡◌, ℕ, ◌<◌, ◌≤◌, ◌^◌, Bool, true, ◌&&◌, nat_lt, List, length, Some, None, Result, Ok, Err, sym, ap, ap₂, ◌∙◌, arith, rules, inl, inr}
use Rattle.std.specs.Prelude.{nat_le}
use Rattle.std.specs.Char.{is_ascii_digit}
use Rattle.std.specs.List.{list_all}
use Rattle.std.specs.Result.{OkIff, result_ok}
use Rattle.std.specs.Str.Parse.{ParsesUnsigned, digits_value}
use Rattle.std.proofs.lemmas.Bool.{and_parts, cases_lt, cond-true, cond-false, leb-true, lt-ltb, le-ltb}
use Rattle.std.proofs.lemmas.Str.Parse.{IsNumeralModel, numerals_by_value, parse_digits}
use Rattle.cmd_words.specs.Numbers.{is_numeral, number_of}

-- texts of digits, and their value
own : IsNumeralModel (λ text. list_all is_ascii_digit text ≡ true) (digits_value 10)
own = numerals_by_value _ (search rules)

-- a number that is below 2^64 is spelled
within : (text : List ℕ) → is_numeral text ≡ true → digits_value 10 text < 2 ^ 64 → number_of text ≡ Some (digits_value 10 text)
within text is below = cond-true (is_numeral text && nat_lt (digits_value 10 text) (2 ^ 64)) (Some (digits_value 10 text)) None (ap₂ (λ (a b : Bool). a && b) is (lt-ltb (digits_value 10 text) (2 ^ 64) below))

-- and none that isn't
beyond : (text : List ℕ) → is_numeral text ≡ true → 2 ^ 64 ≤ digits_value 10 text → number_of text ≡ None
beyond text is past = cond-false (is_numeral text && nat_lt (digits_value 10 text) (2 ^ 64)) (Some (digits_value 10 text)) None (ap₂ (λ (a b : Bool). a && b) is (le-ltb (digits_value 10 text) (2 ^ 64) past))

told : {E : Type 0} (text : List ℕ) (r : Result ℕ E) → is_numeral text ≡ true → 0 < length text → OkIff r ((0 < length text) × (digits_value 10 text < 2 ^ 64)) (digits_value 10 text) → result_ok r ≡ number_of text
told text (Ok number) is some h = ap (λ (n : ℕ). Some n) h.1 ∙ sym (within text is h.0.1)
told text (Err e) is some h = elim (cases_lt (digits_value 10 text) (2 ^ 64)) [
  | inl below ↦ absurd (h (some, below))
  | inr past ↦ sym (beyond text is past)
]

pub parsed : {E : Type 0} (text : List ℕ) (r : Result ℕ E) → is_numeral text ≡ true → ParsesUnsigned 64 10 text r → result_ok r ≡ number_of text
parsed text r is h =
    let parts = and_parts _ _ is in
    let sizes = and_parts (nat_le 1 (length text)) (nat_le (length text) 20) parts.0 in
    let some : 1 ≤ length text = leb-true 1 (length text) sizes.0 in
    told text r is (omega arith) (parse_digits own 64 text r h parts.1)
