use Rattle.std.proofs.Common.{◌≡◌, drop}
use Rattle.std.specs.List.{list_all}
use Rattle.zh_check.specs.Form.{is_digit_or}
use Rattle.zh_check.proofs.form.are_digits_or.Given as goal

abbrev pub invariant-loop-byte : goal.invariant-loop-byte
invariant-loop-byte l =
    list_all (is_digit_or l.mark) (drop l.byte-index l.word) ≡ list_all (is_digit_or l.mark) l.word
