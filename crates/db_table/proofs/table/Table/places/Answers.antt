use Rattle.std.proofs.Common.{◌≡◌, ◌++◌, List, ℕ, eqb, subst, arith}
use Rattle.db_table.specs.Tables.{places_from, places_of}
use Rattle.db_table.proofs.PlacesLaws.{found_one, found_all}
use Rattle.db_table.proofs.table.Table.places.Goals as goal

pub loop-first-preserved : goal.loop-first-preserved
loop-first-preserved c =
    let parts = c.in-Some.ensures.cases in
    let found = c.loop-first.places.items in
    let so_far = subst (λ (r : List ℕ). found ++ places_from c.loop-first.place r c.args.hash ≡ places_of c.args.self.now.hashes c.args.hash) parts.0 c.loop-first.invariant.0 in (
      found_one (eqb c.in-Some.first.now c.args.hash) c.loop-first.place c.args.hash c.in-Some.tail.now found c.add_where.new.places.items (places_of c.args.self.now.hashes c.args.hash) c.in_ok-add_where.ensures so_far,
      omega (arith, parts.1, c.loop-first.invariant.1),
    )

pub returns : goal.returns
returns c = found_all c.loop-first.rest.now c.loop-first.place c.args.hash c.loop-first.places.items (places_of c.args.self.now.hashes c.args.hash) c.in_default.ensures.cases c.loop-first.invariant.0
