-- What is known of the other seats, and of the seat that calls before it has called.
use Rattle.std.proofs.Common.{◌≡◌, Bool, true, false, List, [], Option, Some, refl, sym, ap, ◌∙◌, subst}
use Rattle.cache_types.specs.Seats.{same_seat}
use Rattle.cache_types.specs.declared.seat.Who.{Who}
use Rattle.file_log.specs.declared.item.LogItem.{LogItem}
use Rattle.file_log.specs.Disk.{Start}
use Rattle.file_log.specs.Log.{is_seat}
use Rattle.file_log.specs.Seat.{IsIdle}
use Rattle.file_model.specs.Held.{Held}
use Rattle.file_model.specs.Seeing.{seen_of}
use Rattle.layout_rules.specs.Places.{Cooperating, KeepsBy}
use Rattle.layout_rules.proofs.Placing.{kept_by_each}
use Rattle.world_tables.proofs.Finds.{same_seat-true}
use Rattle.sim_files.specs.Files.{Shown}
use Rattle.sim_files.specs.Seats.{OthersKeep}
use Rattle.sim_world.specs.declared.seats.Seat.{Seat}
use Rattle.sim_world.specs.Stages.{apart_of, AreSeated}

-- where the seat and all others keep the rules, no place breaks one
all_keep : (me : Who) (log : List LogItem) → ((who : Who) → same_seat who me ≡ false → KeepsBy who log) → KeepsBy me log → Cooperating log
all_keep me log others mine = (kept_by_each log).1 (λ who. by_test who (same_seat who me) refl)
  where
    by_test : (who : Who) (b : Bool) → same_seat who me ≡ b → KeepsBy who log
    by_test who true e = subst (λ (v : Who). KeepsBy v log) (sym (same_seat-true who me e)) mine
    by_test who false e = others who e

others_keep : (outsider : Option Who) (me : Who) (w : Held) (seats : List Seat) → AreSeated (apart_of outsider) w seats → outsider ≡ Some me → OthersKeep me w.past
others_keep outsider me w seats a out =
    let others : (who : Who) → same_seat who me ≡ false → KeepsBy who w.past.log = λ who other. a.orderly.keep who (ap (is_seat who) out ∙ other) in
    record {
      start = ap (λ (start : Start). record { start = start; log = w.past.log }) a.start;
      legal = a.legal;
      keep = others;
      all = λ mine. all_keep me w.past.log others mine;
      operations = λ who other. a.orderly.operate who (ap (is_seat who) out ∙ other);
    }

-- the same of what the files show
pub others_keep_in : (outsider : Option Who) (me : Who) (w : Held) (seats : List Seat) (shown : Shown) → record { world = w; me = me } ≡ shown → AreSeated (apart_of outsider) w seats → outsider ≡ Some me → OthersKeep shown.me shown.world.past
others_keep_in outsider me w seats shown e a out = subst (λ (s : Shown). OthersKeep s.me s.world.past) e (others_keep outsider me w seats a out)

pub idle_at_first : (me : Who) (w : Held) → w ≡ record { past = record { start = []; log = [] }; clock = 0 } → IsIdle (seen_of me w.past)
idle_at_first me w e = subst (λ (v : Held). IsIdle (seen_of me v.past)) (sym e) (record { empty = λ at. refl; outside = refl })
