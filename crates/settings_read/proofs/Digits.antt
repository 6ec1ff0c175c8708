-- Digits at the front of a text, and the number that they spell, never above a limit.
use Rattle.std.proofs.Common.{◌≡◌, ℕ, ◌+◌, ◌*◌, ◌-◌, ◌<◌, ◌≤◌, min, Bool, true, cond, nat_lt, List, length, get_or, take, ap, ◌∙◌, arith}
use Rattle.std.specs.Char.{is_ascii_digit, digit_value}
use Rattle.std.specs.List.{list_all, prefix_len}
use Rattle.std.specs.Str.Parse.{digits_value}
use Rattle.std.proofs.lemmas.Bool.{and_parts, le-ltb, lt-ltb, leb-true}
use Rattle.std.proofs.lemmas.Int.Digits.{digits_value_more}
use Rattle.std.proofs.lemmas.List.{get_or-take}
use Rattle.std.proofs.lemmas.List.Folds.{length-prefix_len}
use Rattle.std.proofs.lemmas.List.Sums.{AllPass-from_list_all, list_all-from_AllPass, prefix_len_passes}

-- the first that pass all pass
pub front_passes : (p : ℕ → Bool) (text : List ℕ) → list_all p (take (prefix_len p text) text) ≡ true
front_passes p text = list_all-from_AllPass p (take (prefix_len p text) text) (λ k d within.
    let below : k < prefix_len p text = omega (arith, length-prefix_len p text) in
    ap p (get_or-take (prefix_len p text) text k d below) ∙ prefix_len_passes p text k d below)

digit_value-digit : (byte : ℕ) → is_ascii_digit byte ≡ true → digit_value byte ≡ byte - 48
digit_value-digit byte is =
    let range = and_parts _ _ is in
    let low : 48 ≤ byte = leb-true 48 byte range.0 in
    let high : byte ≤ 57 = leb-true byte 57 range.1 in
    ap (λ (t : Bool). cond t 36 (cond (nat_lt byte 58) (byte - 48) (cond (nat_lt byte 65) 36 (cond (nat_lt byte 91) (byte - 55) (cond (nat_lt byte 97) 36 (cond (nat_lt byte 123) (byte - 87) 36)))))) (le-ltb byte 48 low)
    ∙ ap (λ (t : Bool). cond t (byte - 48) (cond (nat_lt byte 65) 36 (cond (nat_lt byte 91) (byte - 55) (cond (nat_lt byte 97) 36 (cond (nat_lt byte 123) (byte - 87) 36))))) (lt-ltb byte 58 (omega arith))

-- one digit more
pub limited_more : (digits : List ℕ) (i limit number digit : ℕ) → list_all is_ascii_digit digits ≡ true → i < length digits → digit ≡ get_or digits i 0 - 48 → number ≡ min (digits_value 10 (take i digits)) limit → min (number * 10 + digit) limit ≡ min (digits_value 10 (take (i + 1) digits)) limit
limited_more digits i limit number digit all within is e =
    let more = digits_value_more 10 digits i within in
    let value = digit_value-digit (get_or digits i 0) (AllPass-from_list_all is_ascii_digit digits all i 0 within) in
    omega arith
