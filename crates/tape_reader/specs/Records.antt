-- What is left of a tape's records.
use Rattle.std.specs.Prelude.{List}
use Rattle.tape_records.specs.Records.{Record}
use Rattle.tape_machine.specs.Run.{records_of}
use Rattle.tape_reader.specs.declared.records.Records.{Records}

abbrev pub records_left : Records → List Record
records_left r = records_of r.rest.now
