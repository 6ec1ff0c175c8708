use Rattle.std.proofs.Common.{◌≡◌, ◌∙◌, sym, subst}
use Rattle.file_log.specs.Legal.{IsListing}
use Rattle.world_tables.specs.Tables.{disk_at}
use Rattle.world_tables.proofs.OneListing.{one_listing}
use Rattle.world_tables.proofs.tables.Tables.lists.Goals as goal

pub returns : goal.returns
returns c =
    let all = c.in_ok-all.all in
    let keys = c.args.keys.now in
    let root = c.args.root in
    let byte = c.args.byte in
    let whole : IsListing (disk_at c.args.self.now) root byte all = record { ascending = c.in_ok-all.ensures.ascending; exact = c.in_ok-all.ensures.exact } in (
      λ same.
          let one : all ≡ keys = sym c.as_slice.ensures ∙ c.same_keys.ensures.0 same ∙ c.as_slice-2.ensures in
          subst (IsListing (disk_at c.args.self.now) root byte) one whole,
      λ other.
          let one : all ≡ keys = one_listing all keys whole.ascending other.ascending (λ key h. (other.exact key).1 ((whole.exact key).0 h)) (λ key h. (whole.exact key).1 ((other.exact key).0 h)) in
          c.same_keys.ensures.1 (c.as_slice.ensures ∙ one ∙ sym c.as_slice-2.ensures),
    )
