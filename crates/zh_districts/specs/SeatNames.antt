-- Why the constituencies get no seats, as replies and reports spell it.
use Rattle.std.specs.Prelude.{ℕ, List, ◌++◌, codes, decimal}
use Rattle.zh_districts.specs.declared.shares.SeatFault.{SeatFault}
use Rattle.zh_districts.specs.declared.shares.SeatFault.TheVariants as of_seats

abbrev pub seats_name : SeatFault → List ℕ
seats_name of_seats.Memory = codes "memory"
seats_name of_seats.Tied = codes "tied seats"
seats_name (of_seats.NoSeat constituency) = codes "noseat " ++ decimal constituency
