-- What streams in memory show.
use Rattle.std.specs.Prelude.{ℕ, List, drop}
use Rattle.memory_files.specs.declared.failing.Failing.{Failing}
use Rattle.memory_files.specs.declared.source.MemSource.{MemSource}
use Rattle.memory_files.specs.declared.sink.MemSink.{MemSink}

-- the bytes that a source has left
abbrev pub left_in : MemSource → List ℕ
left_in source = drop source.at source.bytes

-- its reads that are to fail
abbrev pub failing_reads : MemSource → Failing
failing_reads source = source.failing

-- the bytes that a sink has
abbrev pub bytes_in : MemSink → List ℕ
bytes_in sink = sink.bytes.items

-- its writes that are to fail
abbrev pub failing_writes : MemSink → Failing
failing_writes sink = sink.failing
