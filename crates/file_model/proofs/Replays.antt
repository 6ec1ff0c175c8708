-- The first items of a log, part after part.
use Rattle.std.proofs.Common.{◌≡◌, ◌<◌, ℕ, zero, suc, ◌+◌, ◌-◌, List, [], ◌∷◌, ◌++◌, fold, length, get_or, take, drop, refl, sym, ap, subst, ◌∙◌, arith}
use Rattle.std.proofs.lemmas.List.{append-nil, take_more, take-append-drop}
use Rattle.std.proofs.lemmas.Grind.{flat_map-append}
use Rattle.std.proofs.lemmas.List.Sums.{fold-append}
use Rattle.file_log.proofs.Logs.{All-append}
use Rattle.file_log.specs.declared.item.LogItem.{LogItem}
use Rattle.file_log.specs.Legal.{Legal, IsLegal}
use Rattle.file_log.specs.State.{State, first, after, state_of}
use Rattle.world_tables.specs.declared.piece.Piece.{Piece}
use Rattle.file_model.specs.Held.{Held, told, with_log}
use Rattle.world_tables.specs.Pieces.{items_of_piece, items_of_pieces}

abbrev nothing : List LogItem
nothing = []

take-none : (n : ℕ) → take n nothing ≡ nothing
take-none zero = refl
take-none (suc n) = refl

-- so many items of a log of two parts
take-parts : (n : ℕ) (before part : List LogItem) → take n (before ++ part) ≡ take n before ++ take (n - length before) part
take-parts n [] part = let e : n ≡ n - 0 = omega arith in ap (λ (k : ℕ). take k part) e ∙ ap (λ (log : List LogItem). log ++ take (n - 0) part) (sym (take-none n))
take-parts zero (x ∷ xs) part = let e : 0 ≡ 0 - length (x ∷ xs) = omega arith in ap (λ (k : ℕ). take k part) e
take-parts (suc n) (x ∷ xs) part =
    let e : n - length xs ≡ suc n - length (x ∷ xs) = omega arith in
    ap (λ (log : List LogItem). x ∷ log) (take-parts n xs part) ∙ ap (λ (k : ℕ). x ∷ (take n xs ++ take k part)) e

legal_later : (s : State) (xs ys : List LogItem) → Legal s (xs ++ ys) → Legal (fold after s xs) ys
legal_later s [] ys legal = legal
legal_later s (x ∷ xs) ys legal = legal_later (after s x) xs ys legal.1

legal_first : (s : State) (xs ys : List LogItem) → Legal s (xs ++ ys) → Legal s xs
legal_first s [] ys legal = tt
legal_first s (x ∷ xs) ys legal = (legal.0, legal_first (after s x) xs ys legal.1)

-- after the first items of one part the next of another can come
legal_next : (s : State) (whole before part rest : List LogItem) (n : ℕ) → Legal s whole → whole ≡ (before ++ part) ++ rest → Legal (fold after s (take n before)) (take (n - length before) part)
legal_next s whole before part rest n legal e =
    let both : Legal s (before ++ part) = legal_first s (before ++ part) rest (subst (Legal s) e legal) in
    let some : Legal s (take n (before ++ part)) = legal_first s (take n (before ++ part)) (drop n (before ++ part)) (subst (Legal s) (sym (take-append-drop n (before ++ part))) both) in
    legal_later s (take n before) (take (n - length before) part) (subst (Legal s) (take-parts n before part) some)

-- ---- a world that has done again the first n items of a part of another's log

abbrev Redone : ℕ → Held → List LogItem → Held → Type 0
Redone n held done world = world ≡ record { past = record { start = held.past.start; log = take n done }; clock = held.clock }

-- what is left of those of the next part can come
pub can_go_on : (n left : ℕ) (held world : Held) (done part rest : List LogItem) → Redone n held done world → left ≡ n - length done
    → Legal (first held.past.start) held.past.log → held.past.log ≡ (done ++ part) ++ rest → Legal (state_of world.past) (take left part)
can_go_on n left held world done part rest redone e legal whole =
    let next : Legal (fold after (first held.past.start) (take n done)) (take (n - length done) part) = legal_next (first held.past.start) held.past.log done part rest n legal whole in
    subst (λ (k : ℕ). Legal (state_of world.past) (take k part)) (sym e)
    (subst (λ (h : Held). Legal (state_of h.past) (take (n - length done) part)) (sym redone) next)

-- and then that part is done again too
pub goes_on : (n left : ℕ) (held world new : Held) (done part : List LogItem) → Redone n held done world → left ≡ n - length done → new ≡ told world (take left part) → Redone n held (done ++ part) new
goes_on n left held world new done part redone e more =
    let with_log : List LogItem → Held = λ log. record { past = record { start = held.past.start; log = log }; clock = held.clock } in
    more
    ∙ ap (λ (h : Held). told h (take left part)) redone
    ∙ ap (λ (k : ℕ). with_log (take n done ++ take k part)) e
    ∙ ap with_log (sym (take-parts n done part))

-- ---- the pieces of a log

pub pieces-more : (pieces : List Piece) (i : ℕ) (piece : Piece) → i < length pieces → piece ≡ get_or pieces i piece → items_of_pieces (take (i + 1) pieces) ≡ items_of_pieces (take i pieces) ++ items_of_piece piece
pieces-more pieces i piece less is =
    let before = items_of_pieces (take i pieces) in
    ap items_of_pieces (take_more pieces i piece less)
    ∙ flat_map-append items_of_piece (take i pieces) (get_or pieces i piece ∷ [])
    ∙ ap (λ (p : Piece). before ++ (items_of_piece p ++ [])) (sym is)
    ∙ ap (λ (log : List LogItem). before ++ log) (append-nil (items_of_piece piece))

pub pieces-whole : (pieces : List Piece) (i : ℕ) (piece : Piece) → i < length pieces → piece ≡ get_or pieces i piece
    → items_of_pieces pieces ≡ (items_of_pieces (take i pieces) ++ items_of_piece piece) ++ items_of_pieces (drop (i + 1) pieces)
pieces-whole pieces i piece less is =
    ap items_of_pieces (sym (take-append-drop (i + 1) pieces))
    ∙ flat_map-append items_of_piece (take (i + 1) pieces) (drop (i + 1) pieces)
    ∙ ap (λ (log : List LogItem). log ++ items_of_pieces (drop (i + 1) pieces)) (pieces-more pieces i piece less is)

-- ---- each item of a log

-- the item at a place can come there
pub legal_at : (s : State) (log : List LogItem) (i : ℕ) (item : LogItem) → Legal s log → i < length log → item ≡ get_or log i item → IsLegal (fold after s (take i log)) item
legal_at s [] i item legal less is = absurd (omega (arith, less))
legal_at s (x ∷ xs) zero item legal less is = subst (IsLegal s) (sym is) legal.0
legal_at s (x ∷ xs) (suc i) item legal less is = legal_at (after s x) xs i item legal.1 (omega (arith, less)) is

-- ---- a world that has done again the first items of a log, and then does the next

pub next_done : (held : Held) (log : List LogItem) (i : ℕ) (world new : Held) (item : LogItem) → i < length log → item ≡ get_or log i item
    → world ≡ with_log held (take i log) → new ≡ told world (item ∷ []) → new ≡ with_log held (take (i + 1) log)
next_done held log i world new item less is redone more =
    more
    ∙ ap (λ (h : Held). told h (item ∷ [])) redone
    ∙ ap (λ (x : LogItem). with_log held (take i log ++ x ∷ [])) is
    ∙ ap (with_log held) (sym (take_more log i item less))

pub next_state : (world new : Held) (item : LogItem) → new ≡ told world (item ∷ []) → state_of new.past ≡ after (state_of world.past) item
next_state world new item more = ap (λ (h : Held). state_of h.past) more ∙ fold-append after (first world.past.start) world.past.log (item ∷ [])

pub next_legal : (held : Held) (log : List LogItem) (i : ℕ) (world : Held) (item : LogItem) → i < length log → item ≡ get_or log i item → world ≡ with_log held (take i log)
    → Legal (first held.past.start) (take i log) → IsLegal (state_of world.past) item → Legal (first held.past.start) (take (i + 1) log)
next_legal held log i world item less is redone legal here =
    let s = first held.past.start in
    let now : IsLegal (fold after s (take i log)) item = subst (λ (h : Held). IsLegal (state_of h.past) item) redone here in
    let there : IsLegal (fold after s (take i log)) (get_or log i item) = subst (λ (x : LogItem). IsLegal (fold after s (take i log)) x) is now in
    subst (Legal s) (sym (take_more log i item less)) (All-append after IsLegal s (take i log) (get_or log i item ∷ []) legal (there, tt))
