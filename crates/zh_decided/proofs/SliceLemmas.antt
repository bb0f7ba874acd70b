-- What is left of a vector that was written whole.
use Rattle.std.proofs.Common.{◌≡◌, ℕ, List, length, take, ◌++◌}
use Rattle.std.proofs.Math.Seq.{take-append_seam}

pub written_whole : (n : ℕ) (written rest : List ℕ) → n ≡ length written → take n (written ++ rest) ≡ written
written_whole n written rest all = rw all (take-append_seam written rest)
