-- What clap and the reading see in a word.
use Rattle.std.proofs.Common.{◌≡◌, ℕ, Bool, true, false, cond, ◌==◌, [], ◌∷◌, Option, Some, None, refl, sym, ap, subst, eqb-true}
use Rattle.std.specs.Prelude.{bytes_eq}
use Rattle.std.specs.List.{list_any, before_first, after_first}
use Rattle.clap.specs.Lexer.{long_of, short_of}
use Rattle.clap.specs.Walk.{Text}
use Rattle.cmd_words.specs.Reading.{Shape, ends_options, whole_option, option_name, stray, place, shape_of, shape_after_dashes, begins_with_dash, is_equals}

pub record LooksAs (word : Text) (ends : Bool) (long : Option (Text × Option Text)) (shape : Shape) (dash : Bool) : Type 0 where
  pub ends_is : bytes_eq word (45 ∷ 45 ∷ []) ≡ ends
  pub long_is : long_of word ≡ long
  pub shape_is : shape_of word ≡ shape
  pub dash_is : begins_with_dash word ≡ dash

pub data Look (word : Text) : Type 0 where
  at_end : LooksAs word true None ends_options true → Look word
  at_whole : (name value : Text) → LooksAs word false (Some (name, Some value)) (whole_option name value) true → Look word
  at_name : (name : Text) → LooksAs word false (Some (name, None)) (option_name name) true → Look word
  at_stray : shape_of word ≡ stray → begins_with_dash word ≡ true → Look word
  at_place : LooksAs word false None place false → short_of word ≡ None → Look word

abbrev name_in : Text → Text
name_in text = before_first is_equals text

look_name : (byte : ℕ) (text : Text) (b : Bool) → list_any is_equals (byte ∷ text) ≡ b → Look (45 ∷ 45 ∷ byte ∷ text)
look_name byte text true e = at_whole (name_in (byte ∷ text)) (after_first is_equals (byte ∷ text)) (record {
  ends_is = refl;
  long_is = ap (λ (b : Bool). Some (name_in (byte ∷ text), cond b (Some (after_first is_equals (byte ∷ text))) None)) e;
  shape_is = ap (λ (b : Bool). cond b (whole_option (name_in (byte ∷ text)) (after_first is_equals (byte ∷ text))) (option_name (name_in (byte ∷ text)))) e;
  dash_is = refl;
})
look_name byte text false e = at_name (name_in (byte ∷ text)) (record {
  ends_is = refl;
  long_is = ap (λ (b : Bool). Some (name_in (byte ∷ text), cond b (Some (after_first is_equals (byte ∷ text))) None)) e;
  shape_is = ap (λ (b : Bool). cond b (whole_option (name_in (byte ∷ text)) (after_first is_equals (byte ∷ text))) (option_name (name_in (byte ∷ text)))) e;
  dash_is = refl;
})

look_dashes : (text : Text) → Look (45 ∷ 45 ∷ text)
look_dashes [] = at_end (record { ends_is = refl; long_is = refl; shape_is = refl; dash_is = refl })
look_dashes (byte ∷ text) = look_name byte text (list_any is_equals (byte ∷ text)) refl

look_second : (byte : ℕ) (text : Text) (b : Bool) → (byte == 45) ≡ b → Look (45 ∷ byte ∷ text)
look_second byte text true e = subst (λ (x : ℕ). Look (45 ∷ x ∷ text)) (sym (eqb-true byte 45 e)) (look_dashes text)
look_second byte text false e = at_stray (ap (λ (b : Bool). cond b (shape_after_dashes text) stray) e) refl

look_dash : (text : Text) → Look (45 ∷ text)
look_dash [] = at_stray refl refl
look_dash (byte ∷ text) = look_second byte text (byte == 45) refl

look_first : (byte : ℕ) (text : Text) (b : Bool) → (byte == 45) ≡ b → Look (byte ∷ text)
look_first byte text true e = subst (λ (x : ℕ). Look (x ∷ text)) (sym (eqb-true byte 45 e)) (look_dash text)
look_first byte text false e = at_place (record { ends_is = rw e refl; long_is = rw e refl; shape_is = rw e refl; dash_is = e }) (rw e refl)

pub look : (word : Text) → Look word
look [] = at_place (record { ends_is = refl; long_is = refl; shape_is = refl; dash_is = refl }) refl
look (byte ∷ text) = look_first byte text (byte == 45) refl
