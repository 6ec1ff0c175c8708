-- A folder's byte and an entry's name spell one key.
use Rattle.std.proofs.Common.{◌≡◌, ◌≢◌, ℕ, zero, suc, ◌<◌, List, [], ◌∷◌, ◌++◌, length, take, drop, slice_index, Some, Ok, sym, ap, ◌∙◌, arith, subst}
use Rattle.std.specs.Prelude.{◌↔◌}
use Rattle.std.specs.Option.{unwrap_or}
use Rattle.std.specs.Result.{result_unwrap_or}
use Rattle.hex.specs.Hex.{IsBytes, decode_of, decode_sized, encode_lower, encode_with}
use Rattle.hex.proofs.HexLemmas.{decode_of-encode_lower, decode_of-ok, decode_sized-encode_lower, decode_sized-ok, decode_sized-twice}
use Rattle.cache_types.specs.declared.key.Key.{Key}
use Rattle.host_files.specs.Names.{IsEntry}

-- a key in the folder: its byte, and the bytes that the name spells
record Spelled (byte : ℕ) (name : List ℕ) (key : Key) : Type 0 where
  rest : List ℕ
  bytes_are : key.bytes ≡ byte ∷ rest
  decoded : decode_sized name 19 ≡ Ok rest
  encoded : encode_lower rest ≡ name

one_byte : (byte : ℕ) → byte < 256 → IsBytes (byte ∷ [])
one_byte byte h zero = h
one_byte byte h (suc i) = omega arith

IsBytes-cons : (byte : ℕ) (rest : List ℕ) → byte < 256 → IsBytes rest → IsBytes (byte ∷ rest)
IsBytes-cons byte rest h all zero = h
IsBytes-cons byte rest h all (suc i) = all i

-- two digits spell one byte
same_byte : (a b : ℕ) → a < 256 → b < 256 → encode_lower (a ∷ []) ≡ encode_lower (b ∷ []) → a ≡ b
same_byte a b ha hb e =
    let same = sym (decode_of-encode_lower (a ∷ []) (one_byte a ha)) ∙ ap decode_of e ∙ decode_of-encode_lower (b ∷ []) (one_byte b hb) in
    ap (λ r. slice_index (result_unwrap_or r []) 0) same

split : (byte : ℕ) (name bytes : List ℕ) → byte < 256 → length bytes ≡ 20 → IsBytes bytes → encode_lower bytes ≡ encode_lower (byte ∷ []) ++ name → Spelled byte name (record { bytes = bytes })
unfolding encode_with
split byte name [] h len all digits = absurd (omega arith)
split byte name (b ∷ rest) h len all digits =
    let encoded : encode_lower rest ≡ name = ap (drop 2) digits in
    let first : b ≡ byte = same_byte b byte (all 0) h (ap (take 2) digits) in
    let decoded = decode_sized-encode_lower rest 19 (omega arith) (λ i. all (suc i)) in
    record {
      rest = rest;
      bytes_are = ap (λ a. a ∷ rest) first;
      decoded = ap (λ t. decode_sized t 19) (sym encoded) ∙ decoded;
      encoded = encoded;
    }

spelled : (byte : ℕ) (name : List ℕ) (key : Key) → byte < 256 → IsEntry byte name key → Spelled byte name key
spelled byte name key h entry = split byte name key.bytes h entry.key_is.length_is entry.key_is.bytes entry.digits

one_rest : (name a b : List ℕ) → decode_sized name 19 ≡ Ok a → decode_sized name 19 ≡ Ok b → a ≡ b
one_rest name a b ea eb = ap (λ r. result_unwrap_or r []) (sym ea ∙ eb)

-- a name that isn't 38 digits is no entry's
pub no_digits : (byte : ℕ) (name : List ℕ) (key : Key) → byte < 256 → ((rest : List ℕ) → decode_sized name 19 ≢ Ok rest) → IsEntry byte name key → ⊥
no_digits byte name key h refused entry =
    let s = spelled byte name key h entry in
    refused s.rest s.decoded

-- nor is one whose digits aren't those that its bytes are written with
pub other_digits : (byte : ℕ) (name rest : List ℕ) (key : Key) → byte < 256 → decode_sized name 19 ≡ Ok rest → encode_lower rest ≢ name → IsEntry byte name key → ⊥
other_digits byte name rest key h decoded other entry =
    let s = spelled byte name key h entry in
    other (ap encode_lower (one_rest name rest s.rest decoded s.decoded) ∙ s.encoded)

entry_of : (byte : ℕ) (name rest : List ℕ) → byte < 256 → decode_sized name 19 ≡ Ok rest → encode_lower rest ≡ name → IsEntry byte name (record { bytes = byte ∷ rest })
unfolding encode_with
entry_of byte name rest h decoded encoded =
    let len = decode_sized-ok name 19 rest decoded in
    let ok = decode_of-ok name rest (sym (decode_sized-twice name 19 len) ∙ decoded) in
    record {
      key_is = record { length_is = omega (arith, len, ok.2); bytes = IsBytes-cons byte rest h ok.3 };
      digits = ap (λ t. encode_lower (byte ∷ []) ++ t) encoded;
    }

-- the key that was found is the entry's, and no other is
pub found : (byte : ℕ) (name rest : List ℕ) (made key : Key) → byte < 256 → decode_sized name 19 ≡ Ok rest → encode_lower rest ≡ name → made.bytes ≡ byte ∷ rest → (Some made ≡ Some key) ↔ IsEntry byte name key
found byte name rest made key h decoded encoded made_is =
    let entry : IsEntry byte name made = subst (λ b. IsEntry byte name (record { bytes = b })) (sym made_is) (entry_of byte name rest h decoded encoded) in (
      λ e. subst (IsEntry byte name) (ap (λ o. unwrap_or o made) e) entry,
      λ other.
          let s = spelled byte name key h other in
          let bytes : made.bytes ≡ key.bytes = made_is ∙ ap (λ r. byte ∷ r) (one_rest name rest s.rest decoded s.decoded) ∙ sym s.bytes_are in
          ap (λ b. Some (record { bytes = b })) bytes,
    )
