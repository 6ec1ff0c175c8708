use Rattle.std.proofs.Common.{◌≡◌, List, ℕ, Option, Some, drop, map, string_bytes, refl, sym, subst, ◌∙◌, ap}
use Rattle.cache_types.specs.declared.seat.Who.{Who}
use Rattle.cache_main.specs.RoundTrip.{IsLone}
use Rattle.cache_tests.proofs.Again.{abc_pair, abc_again}
use Rattle.cache_tests.proofs.round_trip.abc_is_put_and_found.Goals as goal

pub returns : goal.returns
returns c = λ well.
    let ended = c.put_then_get-ended in
    let old = c.in_ok-files.files in
    let new = ended.new.files in
    let source = c.new-source.result in
    let rest = ended.new.source in
    let out = c.new-out in
    let pair = abc_pair (map string_bytes c.deref.result.now) (map string_bytes c.deref-2.result.now) (ap (map string_bytes) c.deref.ensures.value ∙ c.in_ok-put.ensures) (ap (map string_bytes) c.deref-2.ensures.value ∙ c.in_ok-get.ensures) in
    let first : IsLone old.me (Some old.world.past) = subst (IsLone old.me) (sym c.in_ok-files.ensures.history) refl in
    let last : IsLone old.me (Some new.world.past) = subst (λ (who : Who). IsLone who (Some new.world.past)) ended.ensures.me c.lone.ensures in
    let whole = c.new-source.ensures.left ∙ ap (λ (bytes : List ℕ). Some bytes) c.in_ok-of.ensures in
    let found = ended.ensures.found pair first last well in
    abc_again (Some new.world.past) (Some (drop rest.at rest.bytes)) (Some ended.new.out.bytes.items) ended.new.out.faults ended.result.get (Some (drop source.at source.bytes)) (Some out.result.bytes.items) out.result.faults whole out.ensures.written out.ensures.faults found
