-- What is known of each command that was read.
use Rattle.std.specs.Prelude.{◌≡◌, ◌≤◌, ◌^◌, ◌==◌, length, IfSome}
use Rattle.std.specs.List.{slice_split}
use Rattle.cache_types.specs.Driver.{IsDriver}
use Rattle.cmd_words.specs.declared.command.Command.{Command}
use Rattle.cmd_words.specs.Asked.{driver_asked, limit_asked, meta_asked}
use Rattle.cmd_words.specs.Table.{place_count}

-- its driver is one, its limit and its meta are within their bounds, and it has as many positional words as its row
pub record IsKnown (command : Command) : Type 0 where
  pub driver : IsDriver (driver_asked command)
  pub limit : IfSome (limit_asked command) (λ limit. limit ≤ 2 ^ 40)
  pub meta : IfSome (meta_asked command) (λ text. length (slice_split (λ byte. byte == 44) text) ≤ 64)
  pub places : length command.places ≡ place_count command.word
