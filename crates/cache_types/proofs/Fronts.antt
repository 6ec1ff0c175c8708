-- What reading finds in front of some bytes, and the driver whose blob stands there.
use Rattle.std.proofs.Common.{◌≡◌, ◌≢◌, ℕ, ◌+◌, ◌-◌, ◌<◌, ◌^◌, List, [], ◌∷◌, ◌++◌, length, get_or, take, drop, refl, sym, ap, subst, ◌∙◌, arith}
use Rattle.std.proofs.Math.Seq.{take-length}
use Rattle.std.specs.Int.{w64, to_le_bytes}
use Rattle.cache_types.specs.Driver.{DriverKeys, Fronts, HasNoFront}
use Rattle.cache_types.specs.Front.{SplitsText, HasFlags, IsFrontOf}
use Rattle.cache_types.specs.declared.driver.Driver.TheInside.{Inside}
use Rattle.cache_types.specs.declared.front.Front.{Front}
use Rattle.cache_types.specs.DriverParts.{keys_of, IsFront}
use Rattle.cache_types.proofs.Blobs.{Tells, tells_keys, tells_front, blob_parts}
use Rattle.cache_types.proofs.OneDriver.{zero_split}

-- what follows the first byte, as a slice pattern takes it
abbrev pub behind : List ℕ → List ℕ
behind bytes = take (length bytes - 1) (drop 1 bytes)

behind_cons : (bytes : List ℕ) (x : ℕ) (xs : List ℕ) → bytes ≡ x ∷ xs → behind bytes ≡ xs
behind_cons bytes x xs e =
    let size : length (x ∷ xs) - 1 ≡ length xs = omega arith in
    ap behind e ∙ ap (λ (n : ℕ). take n xs) size ∙ take-length xs

-- the flags and what follows them, in a driver's blob
abbrev ending : DriverKeys → List ℕ → List ℕ
ending d rest = 8 ∷ to_le_bytes w64 d.flags ++ rest

front_parts : (bytes : List ℕ) (d : DriverKeys) → (f : Fronts bytes d) → bytes ≡ 1 ∷ (d.id ++ (0 ∷ (d.gpu ++ (0 ∷ ending d f.rest))))
front_parts bytes d f = f.bytes_are ∙ blob_parts d f.rest

id_splits : (bytes : List ℕ) (d : DriverKeys) → (f : Fronts bytes d) → SplitsText (behind bytes) d.id (d.gpu ++ (0 ∷ ending d f.rest))
id_splits bytes d f = record { text_is = f.driver.id; bytes_are = behind_cons bytes 1 _ (front_parts bytes d f) }

one_split : (bytes a r b s : List ℕ) → SplitsText bytes a r → SplitsText bytes b s → (a ≡ b) × (r ≡ s)
one_split bytes a r b s x y = zero_split a b r s x.text_is.1 y.text_is.1 (sym x.bytes_are ∙ y.bytes_are)

gpu_splits : (bytes id rest : List ℕ) (d : DriverKeys) → SplitsText (behind bytes) id rest → (f : Fronts bytes d) → SplitsText rest d.gpu (ending d f.rest)
gpu_splits bytes id rest d s f =
    record { text_is = f.driver.gpu; bytes_are = (one_split (behind bytes) id rest d.id _ s (id_splits bytes d f)).1 }

pub no_bytes : (bytes : List ℕ) → length bytes < 1 → HasNoFront bytes
no_bytes bytes short d f = absurd (omega (arith, ap length (front_parts bytes d f)))

pub no_version : (bytes : List ℕ) → get_or bytes 0 0 ≢ 1 → HasNoFront bytes
no_version bytes other d f = other (ap (λ (xs : List ℕ). get_or xs 0 0) (front_parts bytes d f))

pub no_id : (bytes : List ℕ) → ((text rest : List ℕ) → SplitsText (behind bytes) text rest → ⊥) → HasNoFront bytes
no_id bytes none d f = none d.id _ (id_splits bytes d f)

pub no_gpu : (bytes id rest : List ℕ) → SplitsText (behind bytes) id rest → ((text more : List ℕ) → SplitsText rest text more → ⊥) → HasNoFront bytes
no_gpu bytes id rest s none d f = none d.gpu _ (gpu_splits bytes id rest d s f)

pub no_flags : (bytes id rest gpu more : List ℕ) → SplitsText (behind bytes) id rest → SplitsText rest gpu more → ((flags : ℕ) (last : List ℕ) → HasFlags more flags last → ⊥) → HasNoFront bytes
no_flags bytes id rest gpu more s t none d f =
    none d.flags f.rest (one_split rest gpu more d.gpu _ t (gpu_splits bytes id rest d s f)).1

pub front_found : (bytes id rest gpu more last : List ℕ) (flags : ℕ) → get_or bytes 0 0 ≡ 1 → SplitsText (behind bytes) id rest → SplitsText rest gpu more → HasFlags more flags last → flags < 2 ^ 64 → IsFrontOf bytes (record { id_len = length id; gpu_len = length gpu; flags = flags })
front_found [] id rest gpu more last flags first s t u fits = absurd cc
front_found (x ∷ xs) id rest gpu more last flags first s t u fits =
    let d : DriverKeys = record { id = id; gpu = gpu; flags = flags } in
    let more_is : rest ≡ gpu ++ (0 ∷ ending d last) = t.bytes_are ∙ ap (λ (ys : List ℕ). gpu ++ (0 ∷ ys)) u in
    let all : xs ≡ id ++ (0 ∷ (gpu ++ (0 ∷ ending d last))) = sym (behind_cons (x ∷ xs) x xs refl) ∙ s.bytes_are ∙ ap (λ (ys : List ℕ). id ++ (0 ∷ ys)) more_is in
    record {
      driver = d;
      fronts = record {
        driver = record { id = s.text_is; gpu = t.text_is; flags = fits };
        rest = last;
        bytes_are = ap (λ (n : ℕ). n ∷ xs) first ∙ ap (λ (ys : List ℕ). 1 ∷ ys) all ∙ sym (blob_parts d last);
      };
      id = refl;
      gpu = refl;
      flags = refl;
    }

-- a Driver made of the bytes and of what reading found
abbrev pub made : List ℕ → Front → Inside
made bytes front = record { bytes = bytes; id_end = front.id_len + 1; gpu_end = front.id_len + 1 + 1 + front.gpu_len; flags = front.flags }

pub same_found : {read bytes : List ℕ} {front : Front} → read ≡ bytes → IsFrontOf read front → IsFrontOf bytes front
same_found {front = front} e f = subst (λ (xs : List ℕ). IsFrontOf xs front) e f

made_tells : (bytes : List ℕ) (front : Front) → (f : IsFrontOf bytes front) → Tells (made bytes front) f.driver f.fronts.rest
made_tells bytes front f = record {
  bytes = f.fronts.bytes_are;
  id = ap (λ (n : ℕ). n + 1) (sym f.id);
  gpu = ap (λ (n : ℕ). front.id_len + 1 + 1 + n) (sym f.gpu);
  flags = sym f.flags;
}

pub made_is_front : (bytes : List ℕ) (front : Front) → IsFrontOf bytes front → IsFront (made bytes front)
made_is_front bytes front f = tells_front _ f.driver f.fronts.rest f.fronts.driver (made_tells bytes front f)

pub made_fronts : (bytes : List ℕ) (front : Front) → IsFrontOf bytes front → Fronts bytes (keys_of (made bytes front))
made_fronts bytes front f = subst (Fronts bytes) (sym (tells_keys _ f.driver f.fronts.rest (made_tells bytes front f))) f.fronts
