use Rattle.std.proofs.Common.{◌≡◌, ◌∙◌, ℕ, List, Option, get_or, sym, subst}
use Rattle.std.specs.Prelude.{IsSome}
use Rattle.std.specs.List.{Contains, dedup}
use Rattle.std.specs.Map.{keys_of}
use Rattle.std.proofs.lemmas.List.Filters.{dedup_is}
use Rattle.std.proofs.lemmas.List.Kept.{IsStrictlySortedBy-dedup, Contains-dedup, Contains-from_dedup}
use Rattle.std.proofs.lemmas.List.Sorted.{Contains-permutation, IsPermutation-sym}
use Rattle.cache_types.specs.declared.key.Key.{Key}
use Rattle.file_log.specs.Legal.{AreAscending}
use Rattle.world_tables.specs.Listing.{keys_in}
use Rattle.world_tables.proofs.Listings.{key_order-total, same_key, same_key-ties, same_key-true, same_key-equiv, ascending, is_there, is_listed}
use Rattle.world_tables.proofs.Numbers.{entry_number}
use Rattle.world_tables.proofs.listing.listing.Goals as goal

pub returns-clause-ascending : goal.returns-clause-ascending
returns-clause-ascending c =
    let sorted = c.sort_unstable.new.self.items in
    let kept : c.from_vec.result ≡ dedup same_key sorted = c.from_vec.ensures ∙ dedup_is same_key sorted c.dedup.new.self.items c.dedup.ensures.filtered in
    subst AreAscending (sym kept) (ascending (dedup same_key sorted) (IsStrictlySortedBy-dedup key_order-total same_key-ties sorted c.sort_unstable.ensures.sorted))

pub returns-clause-exact : goal.returns-clause-exact
returns-clause-exact c = λ key.
    let sorted = c.sort_unstable.new.self.items in
    let entries = c.args.names.now.entries.entries in
    let root = c.args.root in
    let byte = c.args.byte in
    let found = c.in_ok-keys.keys.items in
    let moved = c.sort_unstable.ensures.permutation in
    let kept : c.from_vec.result ≡ dedup same_key sorted = c.from_vec.ensures ∙ dedup_is same_key sorted c.dedup.new.self.items c.dedup.ensures.filtered in
    let all : found ≡ keys_in root byte (keys_of entries) = c.in_ok-keys.ensures in
    let number = entry_number c.args.names.now root key in
    let There : Option ℕ → Type 0 = λ o. IsSome o × (get_or key.bytes 0 0 ≡ byte) in (
      λ h.
          let there : Contains sorted key = Contains-from_dedup same_key sorted key (subst (λ (keys : List Key). Contains keys key) kept h) in
          subst There (sym number) (is_there root byte entries key (subst (λ (keys : List Key). Contains keys key) all (Contains-permutation sorted found key (IsPermutation-sym found sorted moved) there))),
      λ h.
          let there : Contains found key = subst (λ (keys : List Key). Contains keys key) (sym all) (is_listed root byte entries key (subst There number h)) in
          subst (λ (keys : List Key). Contains keys key) (sym kept) (Contains-dedup same_key-equiv same_key-true sorted key (Contains-permutation found sorted key moved there)),
    )
