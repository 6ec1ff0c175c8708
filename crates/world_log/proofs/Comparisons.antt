-- When a file keeps its bytes at a write or a cut.
use Rattle.std.proofs.Common.{◌≡◌, inl, inr, ℕ, zero, suc, ◌+◌, ◌-◌, ◌<◌, ◌≤◌, false, nat_eq, List, [], ◌∷◌, ◌++◌, take, drop, length, get_or, refl, sym, ap, ◌∙◌, arith}
use Rattle.std.proofs.Math.Dec.{leb}
use Rattle.std.proofs.Math.Seq.{drop-cons}
use Rattle.std.proofs.lemmas.Bool.Decides.{same_from_decides, Decides-eqb, Decides-like, leb_tells}
use Rattle.std.proofs.lemmas.Bool.{false≢true}
use Rattle.std.proofs.lemmas.List.{length-take, take-append-drop}
use Rattle.std.specs.Bool.{Decides}
use Rattle.std.specs.Cmp.Lexicographic.{pointwise, bytes_decides}
use Rattle.file_log.proofs.Writing.{reached, length_pasted, pasted_here}
use Rattle.file_log.specs.Writing.{written}

never : {P : Type 0} → (P → ⊥) → Decides false P
never not = (λ e. absurd cc, λ p. absurd (not p))

-- ---- a byte that is written

taken : (at value : ℕ) (bytes : List ℕ) → written at (value ∷ []) bytes ≡ bytes → take 1 (drop at bytes) ≡ value ∷ []
taken at value bytes e = ap (λ (l : List ℕ). take 1 (drop at l)) (sym e) ∙ pasted_here at (value ∷ []) bytes

within : (at value : ℕ) (bytes : List ℕ) → written at (value ∷ []) bytes ≡ bytes → at < length bytes
within at value bytes e =
    let long : length bytes ≡ at + 1 + (length bytes - (at + 1)) = sym (ap length e) ∙ length_pasted at (value ∷ []) bytes in
    omega (arith, long)

head_is : (x y : ℕ) (xs ys : List ℕ) → x ∷ xs ≡ y ∷ ys → x ≡ y
head_is x y xs ys e = cc

stands : (at value : ℕ) (bytes : List ℕ) → at < length bytes → written at (value ∷ []) bytes ≡ bytes → get_or bytes at 0 ≡ value
stands at value bytes less e = head_is _ _ [] [] (sym (ap (λ (l : List ℕ). take 1 l) (drop-cons bytes at 0 less)) ∙ taken at value bytes e)

keeps : (at value : ℕ) (bytes : List ℕ) → at < length bytes → get_or bytes at 0 ≡ value → written at (value ∷ []) bytes ≡ bytes
keeps at value bytes less e =
    let next : at + 1 ≡ suc at = omega arith in
    ap (λ (l : List ℕ). take at l ++ (value ∷ drop (at + 1) bytes)) (reached at bytes (omega (arith, less)))
    ∙ ap (λ (v : ℕ). take at bytes ++ (v ∷ drop (at + 1) bytes)) (sym e)
    ∙ ap (λ (k : ℕ). take at bytes ++ (get_or bytes at 0 ∷ drop k bytes)) next
    ∙ ap (λ (l : List ℕ). take at bytes ++ l) (sym (drop-cons bytes at 0 less))
    ∙ take-append-drop at bytes

-- beyond the file's end it changes it
pub byte_beyond : (at value : ℕ) (bytes : List ℕ) → length bytes ≤ at → false ≡ pointwise nat_eq (written at (value ∷ []) bytes) bytes
byte_beyond at value bytes more =
    same_from_decides _ _ (never (λ e. absurd (omega (arith, more, within at value bytes e)))) (bytes_decides (written at (value ∷ []) bytes) bytes)

-- within it, unless it stands there
pub byte_within : (at value : ℕ) (bytes : List ℕ) → at < length bytes → nat_eq (get_or bytes at 0) value ≡ pointwise nat_eq (written at (value ∷ []) bytes) bytes
byte_within at value bytes less =
    same_from_decides _ _ (Decides-like _ (keeps at value bytes less) (stands at value bytes less) (Decides-eqb (get_or bytes at 0) value)) (bytes_decides (written at (value ∷ []) bytes) bytes)

-- ---- a cut

all_taken : (n : ℕ) (bytes : List ℕ) → length bytes ≤ n → take n bytes ≡ bytes
all_taken zero [] less = refl
all_taken (suc n) [] less = refl
all_taken zero (x ∷ bytes) less = absurd (omega (arith, less))
all_taken (suc n) (x ∷ bytes) less = ap (λ (l : List ℕ). x ∷ l) (all_taken n bytes (omega (arith, less)))

leb_decides : (a b : ℕ) → Decides (leb a b) (a ≤ b)
leb_decides a b = (
  λ e. elim (leb_tells a b) [ inl p ↦ p.1 | inr p ↦ absurd (false≢true (sym p.0 ∙ e)) ],
  λ less. elim (leb_tells a b) [ inl p ↦ p.0 | inr p ↦ absurd (omega (arith, less, p.1)) ],
)

short_enough : (n : ℕ) (bytes : List ℕ) → take n bytes ≡ bytes → length bytes ≤ n
short_enough n bytes e = let same : length (take n bytes) ≡ length bytes = ap length e in omega (arith, same, length-take n bytes)

-- a cut keeps a file exactly where it has no more bytes
pub cut_told : (n : ℕ) (bytes : List ℕ) → leb (length bytes) n ≡ pointwise nat_eq (take n bytes) bytes
cut_told n bytes = same_from_decides _ _ (Decides-like _ (all_taken n bytes) (short_enough n bytes) (leb_decides (length bytes) n)) (bytes_decides (take n bytes) bytes)
