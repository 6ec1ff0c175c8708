-- Bytes written piece by piece.
use Rattle.std.proofs.Common.{◌≡◌, ◌≤◌, ◌+◌, ◌-◌, ℕ, List, [], ◌++◌, length, take, drop, Option, Some, None, refl, sym, ap, subst, ◌∙◌, arith, append_assoc, take-add}
use Rattle.std.proofs.lemmas.List.{length-drop, drop-drop, append-nil, take_all}
use Rattle.files_api.specs.Streams.{IsAdded}

pub added_then : (a b c : Option (List ℕ)) (xs ys zs : List ℕ) → xs ++ ys ≡ zs → IsAdded a b xs → IsAdded b c ys → IsAdded a c zs
added_then None b c xs ys zs e p q = tt
added_then (Some written) b c xs ys zs e p q =
    let q' : IsAdded (Some (written ++ xs)) c ys = subst (λ (o : Option (List ℕ)). IsAdded o c ys) p q in
    q' ∙ ap (λ (ws : List ℕ). Some ws) (append_assoc written xs ys) ∙ ap (λ (ws : List ℕ). Some (written ++ ws)) e

added_none : (a : Option (List ℕ)) → IsAdded a a []
added_none None = tt
added_none (Some written) = ap (λ (ws : List ℕ). Some ws) (sym (append-nil written))

-- so much is written, and the rest stands
pub record Stands (bytes rest : List ℕ) (old now : Option (List ℕ)) (before count : ℕ) : Type 0 where
  pub part : ℕ
  pub within : part ≤ length bytes
  pub rest_is : rest ≡ drop part bytes
  pub added : IsAdded old now (take part bytes)
  pub later : before ≤ count

pub begins : (bytes : List ℕ) (old : Option (List ℕ)) (before : ℕ) → Stands bytes bytes old old before before
begins bytes old before = record { part = 0; within = omega arith; rest_is = refl; added = added_none old; later = omega arith }

pub goes_on : (bytes rest rest' : List ℕ) (old now new : Option (List ℕ)) (before count count' n : ℕ) → Stands bytes rest old now before count → n ≤ length rest → IsAdded now new (take n rest) → count ≤ count' → rest' ≡ drop n rest → Stands bytes rest' old new before count'
goes_on bytes rest rest' old now new before count count' n s fits added later is =
    let left : length rest ≡ length (drop s.part bytes) = ap length s.rest_is in
    let within : s.part + n ≤ length bytes = omega (arith, length-drop s.part bytes, s.within, left) in
    record {
      part = s.part + n;
      within = within;
      rest_is = is ∙ ap (λ (xs : List ℕ). drop n xs) s.rest_is ∙ drop-drop n s.part bytes;
      added = added_then old now new (take s.part bytes) (take n rest) (take (s.part + n) bytes) (ap (λ (xs : List ℕ). take s.part bytes ++ take n xs) s.rest_is ∙ sym (take-add s.part n bytes)) s.added added;
      later = omega (arith, s.later);
    }

-- all after a place
pub range_is : (n : ℕ) (rest : List ℕ) → take (length rest - n) (drop n rest) ≡ drop n rest
range_is n rest = take_all (length rest - n) (drop n rest) (omega (arith, length-drop n rest))
