-- The fault for an error of the library that lays out rows.
use Rattle.std.specs.IoError.{error_kind}
use Rattle.std.specs.declared.io.ErrorKind.{ErrorKind as WriteKind}
use Rattle.std.specs.declared.io.ErrorKind.TheVariants as write
use Rattle.csv.specs.declared.error.ErrorKind.{ErrorKind}
use Rattle.csv.specs.declared.error.ErrorKind.TheVariants as csv
use Rattle.trace_segments.specs.declared.fault.OutFault.{OutFault}
use Rattle.trace_segments.specs.declared.fault.OutFault.TheVariants.{OutOfMemory, Layout}

-- an error of a write to the text
abbrev pub write_fault : WriteKind → OutFault
write_fault write.OutOfMemory = OutOfMemory
write_fault _ = Layout

-- an error of a row
abbrev pub row_fault : ErrorKind → OutFault
row_fault csv.OutOfMemory = OutOfMemory
row_fault (csv.Io e) = write_fault (error_kind e)
row_fault _ = Layout
