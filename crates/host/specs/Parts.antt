-- What a look shows as host programs get it: where the part stands, as numbers.
use Rattle.std.specs.Prelude.{ℕ}
use Rattle.machine.specs.Look.{Part, rdram_word, dmem_word, rdram_empty, dmem_empty}
use Rattle.host.specs.declared.HostPart.{HostPart}

abbrev pub placed : ℕ → ℕ → ℕ → HostPart
placed memory offset length = record { memory = memory; offset = offset; length = length }

-- RDRAM is memory 0 and DMEM memory 1
abbrev pub part_handed : Part → HostPart
part_handed (rdram_word a) = placed 0 a 8
part_handed (dmem_word a) = placed 1 a 8
part_handed rdram_empty = placed 0 0 0
part_handed dmem_empty = placed 1 0 0
