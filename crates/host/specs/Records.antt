-- Readings as host programs get them: the record by its kind and fields.
use Rattle.recording.specs.Reader.{Reading}
use Rattle.recording.specs.Fields.{fields_of}
use Rattle.host.specs.declared.HostReading.{HostReading}

unfoldable pub reading_handed : Reading → HostReading
reading_handed r = record { item = fields_of r.item; place = r.place; number = r.number }
