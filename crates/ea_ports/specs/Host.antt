-- Ours: the fields of the ports over the host's files and streams.
-- What a contract sees of the adapters over the host.
use Rattle.std.specs.Prelude.{ℕ}
use Rattle.ea_ports.specs.declared.host.FileFolder.{FileFolder}
use Rattle.ea_ports.specs.declared.host.ReadSource.{ReadSource}
use Rattle.ea_ports.specs.declared.host.WriteSink.{WriteSink}

-- the count of a folder over the host's files
abbrev pub folder_faults : {R : Type 0} → FileFolder R → ℕ
folder_faults folder = folder.faults

-- the count of a source over a reader
abbrev pub source_faults : {R : Type 0} → ReadSource R → ℕ
source_faults source = source.faults

-- the reader of a source
abbrev pub source_reader : {R : Type 0} → ReadSource R → R
source_reader source = source.reader

-- the count of a sink over a writer
abbrev pub sink_faults : {W : Type 0} → WriteSink W → ℕ
sink_faults sink = sink.faults

-- the writer of a sink
abbrev pub sink_writer : {W : Type 0} → WriteSink W → W
sink_writer sink = sink.writer
