-- What a record does to the whole state: the calls of the machine that its command stands for.
use Rattle.machine.specs.Answers.{Outcome}
use Rattle.machine.specs.Calls.{seq_reset, seq_write_address, seq_write_data, gc_reset, gc_write_address, gc_write_data, cpu_read, cpu_peek, cpu_write, show_pixels}
use Rattle.machine.specs.Step.{State, sequencer, graphics, cpu, step}
use Rattle.tape_records.specs.declared.records.Command.{Command}
use Rattle.tape_records.specs.declared.records.Command.TheVariants.{Reset, GcAddress, GcData, SeqAddress, SeqData, Read, Write, Peek, Show}

-- "0 reset both": the sequencer's reset, then the controller's. A show serves every shift mode (K3)
unfoldable pub performed : State → Command → Outcome State
performed s Reset = step (step s (sequencer seq_reset)).next (graphics gc_reset)
performed s (GcAddress x) = step s (graphics (gc_write_address x))
performed s (GcData x) = step s (graphics (gc_write_data x))
performed s (SeqAddress x) = step s (sequencer (seq_write_address x))
performed s (SeqData x) = step s (sequencer (seq_write_data x))
performed s (Read address page) = step s (cpu (cpu_read address page))
performed s (Write address page x) = step s (cpu (cpu_write address page x))
performed s (Peek address page) = step s (cpu (cpu_peek address page))
performed s (Show offset) = step s (cpu (show_pixels offset.0))
