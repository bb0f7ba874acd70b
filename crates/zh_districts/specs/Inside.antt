-- What the fields of a set-up mean.
use Rattle.zh_districts.specs.Canton.{Canton}
use Rattle.zh_districts.specs.Parts.{canton_from}
use Rattle.zh_districts.specs.declared.setup.Setup.TheInside.{Inside}

abbrev pub canton_of : Inside → Canton
canton_of s = canton_from s.house s.constituencies.items s.municipalities.items s.groups.items s.canton_quorum
