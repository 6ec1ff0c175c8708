-- Seats, and when two are one.
use Rattle.std.specs.Prelude.{Bool, ◌&&◌, nat_eq}
use Rattle.cache_types.specs.declared.seat.Who.{Who}

-- the same seat of the same process
abbrev pub same_seat : Who → Who → Bool
same_seat a b = nat_eq a.process b.process && nat_eq a.seat b.seat
