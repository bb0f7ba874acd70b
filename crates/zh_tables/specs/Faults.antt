-- The names in reports of why a table was not written in full.
use Rattle.std.specs.Prelude.{ℕ, List, ◌++◌, codes, decimal}
use Rattle.zh_districts.specs.SeatNames.{seats_name}
use Rattle.zh_tables.specs.declared.fault.ListFault.{ListFault}
use Rattle.zh_tables.specs.declared.fault.ListFault.TheVariants as of_list

abbrev pub list_name : ListFault → List ℕ
list_name (of_list.Seats fault) = seats_name fault
list_name (of_list.NoMunicipality number) = codes "nomunicipality " ++ decimal number
list_name (of_list.NoConstituency number) = codes "noconstituency " ++ decimal number
list_name of_list.Memory = codes "memory"
list_name of_list.Write = codes "write"
