-- What a record's answer says, in the machine's numbers and values.
use Rattle.machine.specs.Answers.{Said, byte_said, shown_said, store_said}
use Rattle.tape_machine.specs.declared.told.Told.{Told}
use Rattle.tape_machine.specs.declared.told.Told.TheVariants.{Byte, Pixels, Changes}

-- an answer as the machine's number and value: a byte, a show's shift mode and pixels, or a write's four numbers
abbrev pub told_said : Told → Said
told_said (Byte r) = byte_said r
told_said (Pixels d r) = shown_said d r
told_said (Changes r) = store_said r
