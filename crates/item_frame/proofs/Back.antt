-- What was written is read.
use Rattle.std.proofs.Common.{◌≡◌, ℕ, List, Ok, Err, ap, ◌∙◌, inl, inr}
use Rattle.cache_types.specs.declared.meta.Meta.{Meta}
use Rattle.cache_types.specs.Driver.{DriverKeys}
use Rattle.item_frame.specs.declared.item.Item.{Item}
use Rattle.item_frame.specs.declared.refusal.ItemRefusal.{ItemRefusal}
use Rattle.item_frame.specs.Item.{ReadsAs}
use Rattle.item_frame.specs.Refusals.{IsRefused}
use Rattle.item_frame.specs.RoundTrip.{GivesBack}
use Rattle.item_frame.proofs.Laws.{Reads-from_as, reads_one, reads_one_meta}

-- an item is refused for want of memory alone
pub item_refused : (d : DriverKeys) (bytes : List ℕ) (refusal : ItemRefusal) → IsRefused d bytes refusal → GivesBack d bytes (Err refusal)
item_refused d bytes refusal (inl memory) = λ meta blob r. memory
item_refused d bytes refusal (inr wrong) = λ meta blob r. absurd (wrong.1 (blob, Reads-from_as d bytes meta blob r))

-- and what is read of it is what was written
pub item_read_back : (d : DriverKeys) (bytes : List ℕ) (item : Item) → ReadsAs d bytes item.meta item.blob → GivesBack d bytes (Ok item)
item_read_back d bytes item r = λ meta blob s.
    let metas : item.meta ≡ meta = reads_one_meta d bytes item.meta meta item.blob blob r s in
    let blobs : item.blob ≡ blob = reads_one d bytes item.blob blob (Reads-from_as d bytes item.meta item.blob r) (Reads-from_as d bytes meta blob s) in
    ap (λ (m : Meta). record { meta = m; blob = item.blob }) metas ∙ ap (λ (b : List ℕ). record { meta = meta; blob = b }) blobs
