-- What `Accepted` says of a text, and when a command is given what it takes.
use Rattle.std.specs.Prelude.{◌≡◌, ℕ, ◌≤◌, List, length, Some}
use Rattle.plank_base.specs.declared.limits.TheConstants.{BYTES_LIMIT}
use Rattle.plank_ast.specs.declared.texts.Text.{Text}
use Rattle.plank_prog.specs.declared.programs.Program.{Program}
use Rattle.plank_type.specs.Checks.{IsProgramOf}
use Rattle.plank_sem.specs.Runs.{AllRunsLinearizable, NoNullReads}
use Rattle.plank_io.specs.Faults.{Rose}
use Rattle.plank_words.specs.declared.commands.Command.{Command}
use Rattle.plank_top.specs.Commands.{Takes}
use Rattle.plank_top.specs.Endings.{Told}
use Rattle.plank_top.specs.Trees.{IsTextOf}

-- the text is of the grammar, well typed and within the limits, every run of any number of threads that call
-- its methods from its start heap has a history that is linearizable to a set, and no run comes to a step that
-- would read or write a field of null
pub record IsSound (bytes : List ℕ) : Type 0 where
  pub text : Text
  pub read : IsTextOf bytes text
  pub program : Program
  pub typed : IsProgramOf text program
  pub linearizable : AllRunsLinearizable program.header program.methods
  pub no_null_reads : NoNullReads program.header program.methods

-- a text that the command takes is all that the source has, and neither the source nor the sink fails
pub record IsGiven (command : Command) (source sink : Told) : Type 0 where
  pub bytes : List ℕ
  pub all : source.before ≡ Some bytes
  pub few : length bytes ≤ BYTES_LIMIT
  pub taken : Takes command bytes
  pub source_kept : Rose source.faults_before source.faults_after → ⊥
  pub sink_kept : Rose sink.faults_before sink.faults_after → ⊥
