-- A write as a call is handed it.
use Rattle.pieces.specs.AsyncSpec.{Write, write_of}
use Rattle.pieces.specs.declared.Write.{Write as WriteHanded}

abbrev pub handed : WriteHanded → Write
handed w = write_of w.addr w.bytes.now
