-- A write record of the log.
use Rattle.records.specs.declared.Record.{Record}

-- what stands where there is no record
abbrev pub no_record : Record
no_record = record { addr = 0; len = 0 }
