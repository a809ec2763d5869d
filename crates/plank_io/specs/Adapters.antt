-- What a clause reads of the adapters: the reader or writer inside, and the count of its faults.
use Rattle.std.specs.Prelude.{ℕ}
use Rattle.plank_io.specs.Faults.{next_count}
use Rattle.plank_io.specs.declared.adapters.ReaderSource.{ReaderSource}
use Rattle.plank_io.specs.declared.adapters.WriterSink.{WriterSink}
use Rattle.plank_io.specs.declared.sources.Got.{Got}
use Rattle.plank_io.specs.declared.sources.Got.TheVariants as got
use Rattle.plank_io.specs.declared.sinks.Took.{Took}
use Rattle.plank_io.specs.declared.sinks.Took.TheVariants as took

abbrev pub reader_of : {R : Type 0} → ReaderSource R → R
reader_of s = s.reader

abbrev pub reader_faults : {R : Type 0} → ReaderSource R → ℕ
reader_faults s = s.faults

abbrev pub writer_of : {W : Type 0} → WriterSink W → W
writer_of s = s.writer

abbrev pub writer_faults : {W : Type 0} → WriterSink W → ℕ
writer_faults s = s.faults

-- the count of faults after a read that answered so: one more where it failed
abbrev pub faults_after_read : ℕ → Got → ℕ
faults_after_read faults (got.Bytes n) = faults
faults_after_read faults got.End = faults
faults_after_read faults got.Failed = next_count faults

-- the count of faults after a write that answered so: one more where it failed
abbrev pub faults_after_write : ℕ → Took → ℕ
faults_after_write faults (took.Bytes n) = faults
faults_after_write faults took.Failed = next_count faults
