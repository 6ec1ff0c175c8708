use Rattle.std.proofs.Common.{◌+◌, List, [], length, refl, sym, ap, ◌∙◌, arith, rules}
use Rattle.std.proofs.lemmas.List.{append-nil}
use Rattle.cache_types.specs.Driver.{DriverKeys, blob_of}
use Rattle.cache_types.proofs.Blobs.{Tells, tells_keys, tells_front}
use Rattle.cache_types.proofs.driver.Driver.new.Goals as goal

abbrev keys : goal.After-from_vec → DriverKeys
keys c = record { id = c.as_bytes-id.result.now; gpu = c.as_bytes-gpu.result.now; flags = c.args.flags }

told : (c : goal.After-from_vec) → Tells (record { bytes = c.from_vec.result; id_end = length (keys c).id + 1; gpu_end = length (keys c).id + 1 + 1 + length (keys c).gpu; flags = c.args.flags }) (keys c) []
told c = record {
  bytes = c.from_vec.ensures ∙ c.in-Ok.ensures ∙ sym (append-nil (blob_of (keys c)));
  id = refl;
  gpu = refl;
  flags = refl;
}

pub invariant_of-result : goal.invariant_of-result
invariant_of-result c =
    tells_front _ (keys c) [] (record { id = search rules; gpu = search rules; flags = omega arith }) (told c)

pub returns-clause-made : goal.returns-clause-made
returns-clause-made c =
    tells_keys _ (keys c) [] (told c)
    ∙ ap (λ (x : List _). record { id = x; gpu = (keys c).gpu; flags = c.args.flags }) c.as_bytes-id.ensures.value
    ∙ ap (λ (x : List _). record { id = c.args.id.now; gpu = x; flags = c.args.flags }) c.as_bytes-gpu.ensures.value
