-- A source that is read piece by piece.
use Rattle.std.proofs.Common.{◌≡◌, ◌≤◌, ◌<◌, ◌+◌, ◌-◌, ℕ, List, [], ◌++◌, length, take, drop, Option, Some, None, refl, sym, ap, subst, ◌∙◌, arith, append_assoc, take-add}
use Rattle.std.proofs.lemmas.List.{append-nil, take-append-drop, length-drop, length-take, drop_all, drop-append-le}
use Rattle.cache_types.specs.declared.limits.TheConstants.{MAX_BLOB, MAX_ITEM}
use Rattle.files_api.specs.Streams.{GivesNext}
use Rattle.cache_main.specs.declared.reading.TheConstants.{HEAD}
use Rattle.cache_main.specs.Reading.{IsTaken, IsReadOut, IsWholeBlob, TakesAtMost, TakesTooMany}

-- what stands in the buffer behind the room in front, up to a place
abbrev pub read_in : ℕ → List ℕ → List ℕ
read_in filled buffer = drop HEAD (take filled buffer)

-- that much was taken, and the source's faults didn't fall
pub record HasTaken (buffer : List ℕ) (filled : ℕ) (old now : Option (List ℕ)) (before count : ℕ) : Type 0 where
  pub head : HEAD ≤ filled
  pub within : filled ≤ length buffer
  pub few : length buffer ≤ MAX_ITEM + 1
  pub taken : IsTaken old now (read_in filled buffer)
  pub later : before ≤ count

length-read_in : (filled : ℕ) (buffer : List ℕ) → HEAD ≤ filled → filled ≤ length buffer → HEAD + length (read_in filled buffer) ≡ filled
length-read_in filled buffer head within = omega (arith, length-drop HEAD (take filled buffer), length-take filled buffer)

nothing_taken : (old : Option (List ℕ)) → IsTaken old old []
nothing_taken None = tt
nothing_taken (Some bytes) = (bytes, refl, refl)

-- at first
pub begins : (buffer : List ℕ) (old : Option (List ℕ)) (before : ℕ) → HEAD ≤ length buffer → length buffer ≤ MAX_ITEM + 1 → HasTaken buffer HEAD old old before before
begins buffer old before room few = record {
  head = omega arith;
  within = room;
  few = few;
  taken = subst (IsTaken old old) (sym (drop_all HEAD (take HEAD buffer) (omega (arith, length-take HEAD buffer)))) (nothing_taken old);
  later = omega arith;
}

-- at any time
pub at_most : (buffer : List ℕ) (filled : ℕ) (old now : Option (List ℕ)) (before count : ℕ) → HasTaken buffer filled old now before count → TakesAtMost (MAX_BLOB + 1) old now
at_most buffer filled old now before count s = record { part = read_in filled buffer; few = omega (arith, length-read_in filled buffer s.head s.within, s.few, s.within); taken = s.taken }

-- at last
pub too_many : (buffer : List ℕ) (filled : ℕ) (old now : Option (List ℕ)) (before count : ℕ) → HasTaken buffer filled old now before count → MAX_ITEM < filled → TakesTooMany (filled - HEAD) old now
too_many buffer filled old now before count s more = record {
  count_is = omega (arith, s.few, s.within);
  part = read_in filled buffer;
  length_is = omega (arith, length-read_in filled buffer s.head s.within, s.few, s.within);
  taken = s.taken;
}

-- the next bytes after a part that was taken
taken_then : (a b c : Option (List ℕ)) (n : ℕ) (part into : List ℕ) → IsTaken a b part → GivesNext b c n into → IsTaken a c (part ++ take n into)
taken_then None b c n part into p q = tt
taken_then (Some bytes) b c n part into p q =
    let next : GivesNext (Some p.0) c n into = subst (λ (o : Option (List ℕ)). GivesNext o c n into) p.2 q in
    let split : p.0 ≡ take n into ++ drop n p.0 = sym (take-append-drop n p.0) ∙ ap (λ (xs : List ℕ). xs ++ drop n p.0) (sym next.0) in
    (drop n p.0, p.1 ∙ ap (λ (xs : List ℕ). part ++ xs) split ∙ sym (append_assoc part (take n into) (drop n p.0)), next.2)

-- no next byte is the end
ended : (a b c : Option (List ℕ)) (n : ℕ) (part into : List ℕ) → IsTaken a b part → GivesNext b c n into → n ≡ 0 → 0 < length into → IsReadOut a c part
ended None b c n part into p q zero some = tt
ended (Some bytes) b c n part into p q zero some =
    let next : GivesNext (Some p.0) c n into = subst (λ (o : Option (List ℕ)). GivesNext o c n into) p.2 q in
    let none : p.0 ≡ [] = next.3 zero some in
    (p.1 ∙ ap (λ (xs : List ℕ). part ++ xs) none ∙ append-nil part, next.2 ∙ ap (λ (m : ℕ). Some (drop m p.0)) zero ∙ ap (λ (xs : List ℕ). Some xs) none)

-- a piece behind what is filled
pub goes_on : (buffer room read : List ℕ) (filled n : ℕ) (old now new : Option (List ℕ)) (before count count' : ℕ) → HasTaken buffer filled old now before count
    → take filled room ≡ take filled buffer → length room ≤ MAX_ITEM + 1 → take filled read ≡ take filled room → length read ≡ length room
    → n ≤ length (drop filled read) → filled ≤ length room → GivesNext now new n (drop filled read) → count ≤ count' → HasTaken read (filled + n) old new before count'
goes_on buffer room read filled n old now new before count count' s kept few same len fits within next later =
    let front : take filled read ≡ take filled buffer = same ∙ kept in
    let long : HEAD ≤ length (take filled read) = omega (arith, length-take filled read, s.head, len, within) in
    let all : read_in (filled + n) read ≡ read_in filled buffer ++ take n (drop filled read) =
    ap (drop HEAD) (take-add filled n read) ∙ drop-append-le HEAD (take filled read) (take n (drop filled read)) long ∙ ap (λ (xs : List ℕ). drop HEAD xs ++ take n (drop filled read)) front in
    record {
      head = omega (arith, s.head);
      within = omega (arith, length-drop filled read);
      few = omega arith;
      taken = subst (IsTaken old new) (sym all) (taken_then old now new n (read_in filled buffer) (drop filled read) s.taken next);
      later = omega (arith, s.later);
    }

-- and none where the source's end is
pub whole_blob : (buffer room read blob : List ℕ) (filled n : ℕ) (old now new : Option (List ℕ)) (before count : ℕ) → HasTaken buffer filled old now before count
    → take filled room ≡ take filled buffer → take filled read ≡ take filled room → length read ≡ length room → blob ≡ read_in filled read → filled ≤ MAX_ITEM → filled < length room
    → GivesNext now new n (drop filled read) → n ≡ 0 → IsWholeBlob old new blob
whole_blob buffer room read blob filled n old now new before count s kept same len is fits more next zero =
    let blob_is : read_in filled buffer ≡ blob = ap (drop HEAD) (sym kept ∙ sym same) ∙ sym is in
    let some : 0 < length (drop filled read) = omega (arith, length-drop filled read) in
    record {
      fits = omega (arith, ap length blob_is, length-read_in filled buffer s.head s.within);
      whole = subst (IsReadOut old new) blob_is (ended old now new n (read_in filled buffer) (drop filled read) s.taken next zero some);
    }
