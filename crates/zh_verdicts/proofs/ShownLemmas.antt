-- A line as verdicts show it.
use Rattle.std.proofs.Common.{◌≡◌, ◌++◌, ◌==◌, ◌∷◌, [], ℕ, Bool, List, ap, codes, false, if◌then◌else◌, length, sym, true}
use Rattle.zh_verdicts.specs.Wrong.{lacks_end, should_text, shown_line}

-- a line that lacks only its end
pub missing_end : (found should : List ℕ) → (length should == 0) ≡ false → lacks_end found should ≡ true → shown_line should ++ codes " and a line end" ≡ should_text found should
missing_end found [] full same = absurd (cc full)
missing_end found (byte ∷ line) full same = ap (λ (b : Bool). shown_line (byte ∷ line) ++ (if b then codes " and a line end" else [])) (sym same)
