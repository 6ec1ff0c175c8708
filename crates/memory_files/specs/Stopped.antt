-- A world in which a process was stopped.
use Rattle.std.specs.Prelude.{◌≡◌, ◌≢◌, ◌≤◌, ℕ, [], ◌∷◌, length, take}
use Rattle.cache_types.specs.declared.seat.Who.{Who}
use Rattle.file_log.specs.declared.item.LogItem.TheVariants.{Stop}
use Rattle.file_log.specs.Log.{own}
use Rattle.file_model.specs.Held.{Held, told, first_of}
use Rattle.memory_files.specs.Seats.{GoesOn}

-- with the first n of its items, and then the end of a process
abbrev pub stopped_at : ℕ → ℕ → Held → Held
stopped_at n process held = told (first_of n held) (Stop process ∷ [])

-- after the first n items, and a stop of a seat's process, another seat can go on: it is of another process, which goes on, and has none of these items
pub record MayFollow (n : ℕ) (me next : Who) (held : Held) : Type 0 where
  pub there : n ≤ length held.past.log
  pub other : next.process ≢ me.process
  pub new : own next (take n held.past.log) ≡ []
  pub goes_on : GoesOn next (first_of n held).past
