-- The laws of items of whatever driver.
use Rattle.std.proofs.Common.{◌≡◌, ℕ, ◌<◌, ◌≤◌, Bool, List, [], ◌++◌, length, take, Ok, Err, refl, sym, ap, subst, ◌∙◌, arith, inl, inr}
use Rattle.std.specs.Prelude.{MatchBool}
use Rattle.std.proofs.lemmas.List.{take_at, append-nil}
use Rattle.std.proofs.lemmas.Bool.{lt-ltb, le-ltb}
use Rattle.cache_types.specs.Driver.{DriverKeys, blob_of, IsDriver, Fronts, HasNoFront}
use Rattle.cache_types.proofs.Blobs.{length-blob_of}
use Rattle.cache_types.proofs.OneDriver.{one_front}
use Rattle.item_frame.specs.declared.item.Item.{Item}
use Rattle.item_frame.specs.declared.refusal.ItemRefusal.{ItemRefusal}
use Rattle.item_frame.specs.declared.refusal.ItemRefusal.TheVariants.{Short, OtherDriver}
use Rattle.item_frame.specs.Item.{meta_bytes, payload_bytes, IsItem, Reads, ReadsAs}
use Rattle.item_frame.specs.Refusals.{IsWrong, IsRefused}
use Rattle.item_frame.specs.AnyItem.{IsSomeItem, IsFirstByFront, IsFirstOfAny, IsWrongForAll, IsRefusedForAll}
use Rattle.item_frame.specs.RoundTrip.{GivesAnyBack}
use Rattle.item_frame.proofs.Laws.{Reads-from_as, at_least, reads_one_driver}
use Rattle.item_frame.proofs.Back.{item_read_back}

-- an item begins with its driver's keys blob
pub front_of_item : (d : DriverKeys) (bytes blob : List ℕ) → IsDriver d → Reads d bytes blob → Fronts bytes d
front_of_item d bytes blob d_is r = record { driver = d_is; rest = meta_bytes r.meta ++ payload_bytes blob; bytes_are = r.whole }

-- so few bytes are no item
too_short : (bytes : List ℕ) → length bytes < 24 → IsSomeItem bytes → ⊥
too_short bytes short (d, d_is, (blob, r)) = absurd (omega (arith, at_least d bytes blob r, length-blob_of d))

-- nor are bytes without a driver's keys blob in front
not_fronted : (bytes : List ℕ) → HasNoFront bytes → IsSomeItem bytes → ⊥
not_fronted bytes none (d, d_is, (blob, r)) = none d (front_of_item d bytes blob d_is r)

-- nor are bytes that are no item of the driver in front
not_of_front : (d : DriverKeys) (bytes : List ℕ) → Fronts bytes d → (IsItem d bytes → ⊥) → IsSomeItem bytes → ⊥
not_of_front d bytes f not_item (e, e_is, (blob, r)) =
    not_item (blob, subst (λ (x : DriverKeys). Reads x bytes blob) (one_front bytes e d (front_of_item e bytes blob e_is r) f) r)

-- ---- the first refusal

pub wrong_short : (bytes : List ℕ) → length bytes < 24 → IsWrongForAll bytes Short
wrong_short bytes short = (rw (lt-ltb _ _ short) refl, too_short bytes short)

by_front : (bytes : List ℕ) (refusal : ItemRefusal) → 24 ≤ length bytes → IsFirstByFront bytes refusal → IsFirstOfAny bytes refusal
by_front bytes refusal long first = subst (λ (b : Bool). MatchBool b (refusal ≡ Short) (IsFirstByFront bytes refusal)) (sym (le-ltb _ _ long)) first

pub wrong_front : (bytes : List ℕ) → 24 ≤ length bytes → HasNoFront bytes → IsWrongForAll bytes OtherDriver
wrong_front bytes long none = (by_front bytes OtherDriver long (inl (none, refl)), not_fronted bytes none)

wrong_behind : (d : DriverKeys) (bytes : List ℕ) (refusal : ItemRefusal) → 24 ≤ length bytes → Fronts bytes d → IsWrong d bytes refusal → IsWrongForAll bytes refusal
wrong_behind d bytes refusal long f wrong =
    (by_front bytes refusal long (inr (d, f, wrong.0)), not_of_front d bytes f wrong.1)

-- what is refused for the driver in front is refused for all
pub refused_behind : (d : DriverKeys) (bytes : List ℕ) (refusal : ItemRefusal) → 24 ≤ length bytes → Fronts bytes d → IsRefused d bytes refusal → IsRefusedForAll bytes refusal
refused_behind d bytes refusal long f (inl memory) = inl memory
refused_behind d bytes refusal long f (inr wrong) = inr (wrong_behind d bytes refusal long f wrong)

-- ---- what was written reads back

-- an item is refused for want of memory alone
pub back_refused : (bytes : List ℕ) (refusal : ItemRefusal) → IsRefusedForAll bytes refusal → GivesAnyBack bytes (Err refusal)
back_refused bytes refusal (inl memory) = λ d meta blob d_is r. memory
back_refused bytes refusal (inr wrong) = λ d meta blob d_is r. absurd (wrong.1 (d, d_is, (blob, Reads-from_as d bytes meta blob r)))

-- and what is read of it is what was written
pub back_read : (d : DriverKeys) (bytes : List ℕ) (item : Item) → IsDriver d → ReadsAs d bytes item.meta item.blob → GivesAnyBack bytes (Ok (record { driver = d; item = item }))
back_read d bytes item d_is r = λ e meta blob e_is s.
    let same : d ≡ e = (reads_one_driver d e bytes item.blob blob d_is e_is (Reads-from_as d bytes item.meta item.blob r) (Reads-from_as e bytes meta blob s)).0 in
    let here : ReadsAs d bytes meta blob = subst (λ (x : DriverKeys). ReadsAs x bytes meta blob) (sym same) s in
    ap (λ (x : Item). record { driver = d; item = x }) (item_read_back d bytes item r meta blob here) ∙ ap (λ (x : DriverKeys). record { driver = x; item = record { meta = meta; blob = blob } }) same

-- ---- the keys blob alone

-- as many bytes as a driver's keys blob in front has are that keys blob
pub front_alone : (d : DriverKeys) (bytes : List ℕ) (len : ℕ) → Fronts bytes d → len ≡ length (blob_of d) → Fronts (take len bytes) d
front_alone d bytes len f size =
    record { driver = f.driver; rest = []; bytes_are = ap (take len) f.bytes_are ∙ take_at (blob_of d) f.rest len (sym size) ∙ sym (append-nil (blob_of d)) }
