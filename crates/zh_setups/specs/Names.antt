-- The names of the faults, keys and tables of a set-up text.
use Rattle.std.specs.Fmt.Cut.{cut_to}
use Rattle.std.specs.Prelude.{ℕ, List, ◌++◌, codes, drop, length, replicate, take}
use Rattle.zh_setups.specs.declared.place.OtherKey.{OtherKey}
use Rattle.zh_setups.specs.declared.place.Key.{Key}
use Rattle.zh_setups.specs.declared.place.Key.TheVariants as keys
use Rattle.zh_setups.specs.declared.place.Kind.{Kind}
use Rattle.zh_setups.specs.declared.place.Kind.TheVariants as kinds
use Rattle.zh_setups.specs.declared.text.SetupFault.{SetupFault}
use Rattle.zh_setups.specs.declared.text.SetupFault.TheVariants as faults

-- the name of a fault
abbrev pub setup_name : SetupFault → List ℕ
setup_name faults.Memory = codes "memory"
setup_name faults.Text = codes "setup text"
setup_name faults.Missing = codes "setup missing"
setup_name faults.Unknown = codes "setup unknown"
setup_name faults.Range = codes "setup range"
setup_name faults.Double = codes "setup double"

-- an unknown key, cut to at most 40 bytes and padded with zeros to 40
abbrev pub cut_key : List ℕ → OtherKey
cut_key key = record { bytes = cut_to 40 key ++ drop (length (cut_to 40 key)) (replicate 40 0); length = length (cut_to 40 key) }

-- a key as a text spells it; of an unknown key, the bytes that were kept
abbrev pub key_name : Key → List ℕ
key_name keys.Version = codes "version"
key_name keys.House = codes "house"
key_name keys.CantonQuorum = codes "canton_quorum"
key_name keys.Constituency = codes "constituency"
key_name keys.Municipality = codes "municipality"
key_name keys.Group = codes "group"
key_name keys.Name = codes "name"
key_name keys.Persons = codes "persons"
key_name keys.Stands = codes "stands"
key_name (keys.Other key) = take key.length key.bytes

-- the key of the array with the tables of a kind
abbrev pub kind_name : Kind → List ℕ
kind_name kinds.Constituency = codes "constituency"
kind_name kinds.Municipality = codes "municipality"
kind_name kinds.Group = codes "group"
