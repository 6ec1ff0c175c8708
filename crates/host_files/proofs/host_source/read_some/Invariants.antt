use Rattle.std.specs.Io.KnownBytes.{Keeps}
use Rattle.host_files.proofs.host_source.read_some.Given as goal

-- an interrupted call took nothing
abbrev pub invariant-loop : goal.invariant-loop
invariant-loop g l = Keeps (g.T.Read.remaining l.fn.reader) (g.T.Read.remaining l.reader)
