-- The letters and rows of the laws of virtual time, for the messages and notes of this simulation.
use Rattle.virtual_time.specs.declared.letter.Letter.{Letter as SignedLetter}
use Rattle.virtual_time.specs.declared.row.Row.{Row as NotedRow}
use Rattle.vlink.specs.declared.message.Message.{Message}
use Rattle.vlink.specs.declared.note.Note.{Note}

-- a message with a sign
abbrev pub Letter : Type 0
Letter = SignedLetter Message

-- a note, with the message and the process that it is from
abbrev pub Row : Type 0
Row = NotedRow Message Note
