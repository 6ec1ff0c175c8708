-- A layout that isn't built yet satisfies what is asked of a part.
use Rattle.cache_types.specs.declared.store.Layout.{Layout}
use Rattle.seat_rules.specs.Part.{unbuilt_part}
use Rattle.seat_rules.specs.Served.{IsServed}

pub unbuilt_served : (l : Layout) → IsServed l unbuilt_part
unbuilt_served l = record {
  held_given = λ d root driver key blob held. held;
  given_put = λ log root driver key blob whole fits driver_fits gives. absurd gives;
  lasts = λ root driver key h x ys y stretch held. absurd held.1;
}
