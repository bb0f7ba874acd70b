-- Counting the reads of a run.
use Rattle.std.proofs.Common.{◌≡◌, ℕ, ◌+◌, ◌<◌, ◌≤◌, List, [], ◌++◌, take, length, subst, arith, Option, length-append}
use Rattle.std.proofs.lemmas.List.{length-take}
use Rattle.std.specs.Io.KnownBytes.{Consumes}
use Rattle.zh_office.specs.Served.{TakesReads}
use Rattle.std.proofs.KnownBytes.{Consumes-nil, Consumes-trans}

-- before the first read
pub TakesReads-start : (reader : Option (List ℕ)) → TakesReads reader reader 0
TakesReads-start reader = record { bytes = []; taken = Consumes-nil reader; least = omega arith; most = omega arith }

-- a read took a prefix of a block
pub TakesReads-more : (first reader reader' : Option (List ℕ)) (block : List ℕ) (len reads : ℕ)
    → TakesReads first reader reads → Consumes reader reader' (take len block) → 0 < len → len ≤ length block → length block ≤ 8192
    → TakesReads first reader' (reads + 1)
TakesReads-more first reader reader' block len reads t read some within short =
    let grown = length-append t.bytes (take len block) in
    let taken = length-take len block in
    record {
      bytes = t.bytes ++ take len block;
      taken = Consumes-trans first reader reader' t.bytes (take len block) t.taken read;
      least = omega (arith, t.least, grown, taken);
      most = omega (arith, t.most, grown, taken);
    }

-- a read took nothing
pub TakesReads-stops : (first reader reader' : Option (List ℕ)) (reads : ℕ) → TakesReads first reader reads → Consumes reader reader' [] → TakesReads first reader' reads
TakesReads-stops first reader reader' reads t read =
    let grown = length-append t.bytes [] in
    record {
      bytes = t.bytes ++ [];
      taken = Consumes-trans first reader reader' t.bytes [] t.taken read;
      least = omega (arith, t.least, grown);
      most = omega (arith, t.most, grown);
    }

-- the same number
pub TakesReads-same : (first reader : Option (List ℕ)) (reads turns : ℕ) → TakesReads first reader reads → reads ≡ turns → TakesReads first reader turns
TakesReads-same first reader reads turns t same = subst (λ (n : ℕ). TakesReads first reader n) same t
