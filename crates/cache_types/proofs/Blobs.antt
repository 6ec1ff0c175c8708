-- A driver's parts stand in its blob where the fields of a Driver say.
use Rattle.std.proofs.Common.{◌≡◌, ℕ, ◌+◌, ◌-◌, List, ◌∷◌, ◌++◌, length, take, drop, slice_range, sym, ap, subst, ◌∙◌, append_assoc, arith, length-append}
use Rattle.std.proofs.Math.Seq.{take-append_seam, drop-append-add}
use Rattle.std.specs.Int.{w64, to_le_bytes}
use Rattle.cache_types.specs.declared.driver.Driver.TheInside.{Inside}
use Rattle.cache_types.specs.Driver.{DriverKeys, blob_of, IsDriver}
use Rattle.cache_types.specs.DriverParts.{keys_of, IsFront}

-- the parts of a driver's blob, and what stands behind it
abbrev pub parts : List ℕ → List ℕ → List ℕ → List ℕ → List ℕ
parts id gpu flags rest = 1 ∷ (id ++ (0 ∷ (gpu ++ (0 ∷ 8 ∷ (flags ++ rest)))))

pub blob_parts : (d : DriverKeys) (rest : List ℕ) → blob_of d ++ rest ≡ parts d.id d.gpu (to_le_bytes w64 d.flags) rest
unfolding blob_of
blob_parts d rest =
    append_assoc (1 ∷ d.id) (0 ∷ d.gpu ++ (0 ∷ 8 ∷ to_le_bytes w64 d.flags)) rest
    ∙ ap (λ (x : List ℕ). 1 ∷ d.id ++ x) (append_assoc (0 ∷ d.gpu) (0 ∷ 8 ∷ to_le_bytes w64 d.flags) rest)

pub length-blob_of : (d : DriverKeys) → length (blob_of d) ≡ length d.id + length d.gpu + 12
unfolding blob_of
length-blob_of d =
    let whole = length-append (1 ∷ d.id) (0 ∷ d.gpu ++ (0 ∷ 8 ∷ to_le_bytes w64 d.flags)) in
    let behind = length-append (0 ∷ d.gpu) (0 ∷ 8 ∷ to_le_bytes w64 d.flags) in
    omega arith

id_at : (id rest : List ℕ) (to : ℕ) → to ≡ length id + 1 → slice_range (1 ∷ (id ++ rest)) 1 to ≡ id
id_at id rest to e =
    let size : to - 1 ≡ length id = omega arith in
    ap (λ (k : ℕ). take k (id ++ rest)) size ∙ take-append_seam id rest

gpu_at : (id gpu rest : List ℕ) (from to : ℕ) → from ≡ length id + 2 → to ≡ from + length gpu → slice_range (1 ∷ (id ++ (0 ∷ (gpu ++ rest)))) from to ≡ gpu
gpu_at id gpu rest from to e f =
    let size : to - from ≡ length gpu = omega arith in
    let begin : from ≡ length (1 ∷ id) + 1 = omega arith in
    let skipped : drop from (1 ∷ (id ++ (0 ∷ (gpu ++ rest)))) ≡ gpu ++ rest =
    ap (λ (k : ℕ). drop k (1 ∷ id ++ (0 ∷ (gpu ++ rest)))) begin ∙ drop-append-add (1 ∷ id) (0 ∷ (gpu ++ rest)) 1 in
    ap (λ (xs : List ℕ). take (to - from) xs) skipped ∙ ap (λ (k : ℕ). take k (gpu ++ rest)) size ∙ take-append_seam gpu rest

-- a Driver's bytes begin with a driver's blob, and its fields tell that driver's parts
pub record Tells (f : Inside) (d : DriverKeys) (rest : List ℕ) : Type 0 where
  pub bytes : f.bytes ≡ blob_of d ++ rest
  pub id : f.id_end ≡ length d.id + 1
  pub gpu : f.gpu_end ≡ f.id_end + 1 + length d.gpu
  pub flags : f.flags ≡ d.flags

pub tells_keys : (f : Inside) (d : DriverKeys) (rest : List ℕ) → Tells f d rest → keys_of f ≡ d
tells_keys f d rest t =
    let whole = t.bytes ∙ blob_parts d rest in
    let behind = 0 ∷ 8 ∷ (to_le_bytes w64 d.flags ++ rest) in
    let id = ap (λ (xs : List ℕ). slice_range xs 1 f.id_end) whole ∙ id_at d.id (0 ∷ (d.gpu ++ behind)) f.id_end t.id in
    let gpu = ap (λ (xs : List ℕ). slice_range xs (f.id_end + 1) f.gpu_end) whole ∙ gpu_at d.id d.gpu behind (f.id_end + 1) f.gpu_end (omega (arith, t.id)) t.gpu in
    let same : (id2 gpu2 : List ℕ) (flags2 : ℕ) → id2 ≡ d.id → gpu2 ≡ d.gpu → flags2 ≡ d.flags → ◌≡◌ {A = DriverKeys} (record { id = id2; gpu = gpu2; flags = flags2 }) d =
    λ id2 gpu2 flags2 a b c. ap (λ (x : List ℕ). record { id = x; gpu = gpu2; flags = flags2 }) a ∙ ap (λ (x : List ℕ). record { id = d.id; gpu = x; flags = flags2 }) b ∙ ap (λ (x : ℕ). record { id = d.id; gpu = d.gpu; flags = x }) c in
    same _ _ _ id gpu t.flags

pub tells_front : (f : Inside) (d : DriverKeys) (rest : List ℕ) → IsDriver d → Tells f d rest → IsFront f
tells_front f d rest d_is t =
    let keys = tells_keys f d rest t in
    let size : f.gpu_end + 10 ≡ length (blob_of d) = omega (arith, t.id, t.gpu, length-blob_of d) in
    let whole : length f.bytes ≡ length (blob_of d) + length rest = ap length t.bytes ∙ length-append (blob_of d) rest in
    record {
      blob = ap (λ (k : ℕ). take k f.bytes) size ∙ ap (λ (xs : List ℕ). take (length (blob_of d)) xs) t.bytes ∙ take-append_seam (blob_of d) rest ∙ ap blob_of (sym keys);
      order = omega (arith, t.id);
      gpu_order = omega (arith, t.gpu);
      within = omega arith;
      fits = subst IsDriver (sym keys) d_is;
    }
