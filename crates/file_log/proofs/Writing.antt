-- Bytes written into a file: where they stand, what else stays, and one part after another.
use Rattle.std.proofs.Common.{◌≡◌, ◌≤◌, ◌<◌, ℕ, ◌+◌, ◌-◌, nat_eq, cond, Bool, true, false, List, [], ◌∷◌, ◌++◌, length, take, drop, replicate, refl, sym, ap, ◌∙◌, append_assoc, arith, length-append, length-drop}
use Rattle.std.proofs.lemmas.List.{append-nil, length-take-le, length-replicate, drop-drop, take-append-le, take-append-drop, take-take}
use Rattle.std.proofs.Math.Seq.{drop-append_seam, take-append_seam, drop-append-add, take-append-add}
use Rattle.std.proofs.Math.Dec.{eqb-suc-zero}
use Rattle.file_log.specs.Writing.{reaching, pasted, written}

-- ---- a list after a front of so many elements

drop_front : (p q : List ℕ) (n : ℕ) → length p ≡ n → drop n (p ++ q) ≡ q
drop_front p q n e = ap (λ (k : ℕ). drop k (p ++ q)) (sym e) ∙ drop-append_seam p q

drop_past : (p q : List ℕ) (n k : ℕ) → length p ≡ n → drop (n + k) (p ++ q) ≡ drop k q
drop_past p q n k e = ap (λ (m : ℕ). drop (m + k) (p ++ q)) (sym e) ∙ drop-append-add p q k

take_past : (p q : List ℕ) (n k : ℕ) → length p ≡ n → take (n + k) (p ++ q) ≡ p ++ take k q
take_past p q n k e = ap (λ (m : ℕ). take (m + k) (p ++ q)) (sym e) ∙ take-append-add p q k

-- ---- what stands before the place

-- a file that reaches the place gets no zero bytes
pub reached : (at : ℕ) (bytes : List ℕ) → at ≤ length bytes → reaching at bytes ≡ bytes
reached at bytes h =
    let none : at - length bytes ≡ 0 = omega arith in
    ap (λ (n : ℕ). bytes ++ replicate n 0) none ∙ append-nil bytes

reaches : (at : ℕ) (bytes : List ℕ) → at ≤ length (reaching at bytes)
reaches at bytes = simp (length-append, length-replicate) (omega arith)

abbrev front : ℕ → List ℕ → List ℕ
front at bytes = take at (reaching at bytes)

length_front : (at : ℕ) (bytes : List ℕ) → length (front at bytes) ≡ at
length_front at bytes = length-take-le at (reaching at bytes) (reaches at bytes)

-- ---- where the values stand, and what else stays

-- the file is as long as it was, or ends with the values
pub length_pasted : (at : ℕ) (values bytes : List ℕ) → length (pasted at values bytes) ≡ at + length values + (length bytes - (at + length values))
length_pasted at values bytes =
    length-append (front at bytes) (values ++ drop (at + length values) bytes)
    ∙ ap (λ (n : ℕ). n + length (values ++ drop (at + length values) bytes)) (length_front at bytes)
    ∙ simp (length-append, length-drop) (omega arith)

-- the values stand at their place
pub pasted_here : (at : ℕ) (values bytes : List ℕ) → take (length values) (drop at (pasted at values bytes)) ≡ values
pasted_here at values bytes =
    ap (take (length values)) (drop_front (front at bytes) (values ++ drop (at + length values) bytes) at (length_front at bytes))
    ∙ take-append_seam values (drop (at + length values) bytes)

-- what stood before them stays
pub pasted_before : (at : ℕ) (values bytes : List ℕ) (e : ℕ) → e ≤ at → at ≤ length bytes → take e (pasted at values bytes) ≡ take e bytes
pasted_before at values bytes e small within =
    let short : e ≤ length (front at bytes) = omega (arith, length_front at bytes) in
    take-append-le e (front at bytes) (values ++ drop (at + length values) bytes) short
    ∙ take-take e at (reaching at bytes) small
    ∙ ap (take e) (reached at bytes within)

-- and what stood after them
pub pasted_after : (at : ℕ) (values bytes : List ℕ) (s : ℕ) → at + length values ≤ s → drop s (pasted at values bytes) ≡ drop s bytes
pasted_after at values bytes s past =
    let more : ℕ = s - (at + length values) in
    let place : s ≡ at + (length values + more) = omega arith in
    let end : at + length values + more ≡ s = omega arith in
    ap (λ (n : ℕ). drop n (pasted at values bytes)) place
    ∙ drop_past (front at bytes) (values ++ drop (at + length values) bytes) at (length values + more) (length_front at bytes)
    ∙ drop-append-add values (drop (at + length values) bytes) more
    ∙ drop-drop more (at + length values) bytes
    ∙ ap (λ (n : ℕ). drop n bytes) end

-- ---- one part after another

pub pasted-append : (at : ℕ) (xs ys bytes : List ℕ) → pasted (at + length xs) ys (pasted at xs bytes) ≡ pasted at (xs ++ ys) bytes
pasted-append at xs ys bytes =
    let rest : List ℕ = drop (at + length xs) bytes in
    let once : List ℕ = pasted at xs bytes in
    let long : at + length xs ≤ length once = omega (arith, length_pasted at xs bytes) in
    let kept : take (at + length xs) (reaching (at + length xs) once) ≡ front at bytes ++ xs =
    ap (take (at + length xs)) (reached (at + length xs) once long)
    ∙ take_past (front at bytes) (xs ++ rest) at (length xs) (length_front at bytes)
    ∙ ap (λ (zs : List ℕ). front at bytes ++ zs) (take-append_seam xs rest) in
    let end : at + length xs + length ys ≡ at + length (xs ++ ys) = simp length-append (omega arith) in
    let left : drop (at + length xs + length ys) once ≡ drop (at + length (xs ++ ys)) bytes =
    pasted_after at xs bytes (at + length xs + length ys) (omega arith) ∙ ap (λ (n : ℕ). drop n bytes) end in
    ap (λ (zs : List ℕ). zs ++ (ys ++ drop (at + length xs + length ys) once)) kept
    ∙ ap (λ (zs : List ℕ). (front at bytes ++ xs) ++ (ys ++ zs)) left
    ∙ append_assoc (front at bytes) xs (ys ++ drop (at + length (xs ++ ys)) bytes)
    ∙ ap (λ (zs : List ℕ). front at bytes ++ zs) (sym (append_assoc xs ys (drop (at + length (xs ++ ys)) bytes)))

-- some values are pasted
pub written_some : (at x : ℕ) (xs bytes : List ℕ) → written at (x ∷ xs) bytes ≡ pasted at (x ∷ xs) bytes
written_some at x xs bytes = rw (eqb-suc-zero (length xs)) refl

pub written-append : (at : ℕ) (xs ys bytes : List ℕ) → written at (xs ++ ys) bytes ≡ written (at + length xs) ys (written at xs bytes)
written-append at [] ys bytes = let here : at ≡ at + 0 = omega arith in ap (λ (n : ℕ). written n ys bytes) here
written-append at (x ∷ xs) [] bytes = ap (λ (zs : List ℕ). written at zs bytes) (append-nil (x ∷ xs))
written-append at (x ∷ xs) (y ∷ ys) bytes =
    let place : ℕ = at + length (x ∷ xs) in
    written_some at x (xs ++ y ∷ ys) bytes
    ∙ sym (pasted-append at (x ∷ xs) (y ∷ ys) bytes)
    ∙ ap (pasted place (y ∷ ys)) (sym (written_some at x xs bytes))
    ∙ sym (written_some place y ys (written at (x ∷ xs) bytes))

-- within a file or at its end a write pastes, whatever is written
pub written_within : (at : ℕ) (values bytes : List ℕ) → at ≤ length bytes → written at values bytes ≡ pasted at values bytes
written_within at [] bytes within =
    let here : at + 0 ≡ at = omega arith in
    sym (ap (λ (zs : List ℕ). take at zs ++ drop (at + 0) bytes) (reached at bytes within) ∙ ap (λ (n : ℕ). take at bytes ++ drop n bytes) here ∙ take-append-drop at bytes)
written_within at (x ∷ xs) bytes within = written_some at x xs bytes

-- one byte more
pub pasted_more : (at value : ℕ) (values bytes : List ℕ) → written (at + length values) (value ∷ []) (pasted at values bytes) ≡ pasted at (values ++ value ∷ []) bytes
pasted_more at value values bytes = pasted-append at values (value ∷ []) bytes
