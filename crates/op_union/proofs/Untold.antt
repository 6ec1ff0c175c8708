-- A put for whose item there was no memory: nothing was told.
use Rattle.std.proofs.Common.{◌≤◌, inl, ℕ, [], length, Option, refl}
use Rattle.cache_types.specs.declared.answer.Answer.TheVariants.{NoMemory}
use Rattle.cache_types.specs.declared.limits.TheConstants.{MAX_BLOB}
use Rattle.cache_types.specs.declared.request.Request.{Request}
use Rattle.cache_types.specs.declared.request.Request.TheVariants as requests
use Rattle.cache_types.specs.declared.seat.Who.{Who}
use Rattle.file_log.specs.Log.{History}
use Rattle.file_log.proofs.Logs.{nothing_yet}
use Rattle.files_api.specs.Drive.{Refused}
use Rattle.folder_store.specs.Put.{blob_in}
use Rattle.folder_store.proofs.WholePut.{refused}
use Rattle.op_union.specs.Requests.{IsPut, Operates}

pub untold : (me : Who) (request : Request) (h : Option History) (faults : ℕ) → IsPut request → length (blob_in request) ≤ MAX_BLOB → Operates me request h h faults faults NoMemory
untold me (requests.Put store driver key meta blob limit) h faults put fits =
    let r : Refused me h h NoMemory = record { answer_is = refl; told = nothing_yet me h } in
    inl (fits, refused me (requests.Put store driver key meta blob limit) store.root driver key [] h h faults faults NoMemory r)
untold me request h faults put fits = absurd put
